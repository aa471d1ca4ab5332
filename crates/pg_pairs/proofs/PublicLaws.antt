-- The laws that proofs of other crates cite. Each is the contract of the public function of its name.
use Rattle.pg_pairs.specs.graph.Edges.{PairsLeadToPairs}
use Rattle.pg_pairs.specs.laws.BreaksTold.{BreaksAreTold}
use Rattle.pg_pairs.proofs.lemmas.bounds.BreaksTold as BreaksTold
use Rattle.pg_pairs.specs.laws.ToldLaws.{CausesAreTold}
use Rattle.pg_pairs.specs.laws.OwnWays.{CausesBreakTheirWay}
use Rattle.pg_pairs.specs.laws.WaysCover.{WaysCover}
use Rattle.pg_pairs.specs.laws.WaysTold.{CausesAreApart, CausesHaveTheirFields, WaysAreTold}
use Rattle.pg_pairs.proofs.lemmas.bounds.WaysCover as Cover
use Rattle.pg_pairs.proofs.lemmas.bounds.WaysTold as WaysTold
use Rattle.pg_pairs.proofs.lemmas.choices.Apart as Apart
use Rattle.pg_pairs.proofs.lemmas.choices.ToldLemmas as ToldLemmas
use Rattle.pg_pairs.proofs.lemmas.witness.OwnWays as OwnWays
use Rattle.pg_pairs.proofs.lemmas.graph.EdgeLaws.{led_to_there}

pub pairs_lead_to_pairs : PairsLeadToPairs
pairs_lead_to_pairs = led_to_there

pub breaks_are_told : BreaksAreTold
breaks_are_told = BreaksTold.breaks_are_told

pub causes_are_told : CausesAreTold
causes_are_told = ToldLemmas.causes_are_told

pub ways_are_told : WaysAreTold
ways_are_told = WaysTold.ways_are_told

pub causes_are_apart : CausesAreApart
causes_are_apart = Apart.causes_are_apart

pub causes_have_their_fields : CausesHaveTheirFields
causes_have_their_fields = ToldLemmas.causes_have_their_fields

pub ways_cover : WaysCover
ways_cover = Cover.ways_cover

pub causes_break_their_way : CausesBreakTheirWay
causes_break_their_way = OwnWays.causes_break_their_way
