-- Files state nothing where they have a bad reference, and there alone.
use Rattle.std.proofs.Common.{◌≡◌, Bool, List, None, option_and_then, ap, ◌∙◌}
use Rattle.pg_dyn.specs.message.Message.{Message}
use Rattle.pg_set.specs.refusals.BadReferences.{BadReferences, IsBadReference}
use Rattle.pg_set.specs.refusals.BadReferences as causes
use Rattle.pg_set.specs.stated.Stated.{declared_by, stated_of}
use Rattle.pg_set.specs.stated.StatedOrder.{in_post_order}
use Rattle.pg_set.proofs.lemmas.refusals.Declarations.{bad_declared, declared_none}
use Rattle.pg_set.proofs.lemmas.refusals.Order.{bad_order, import_twice_none, missing_none, round_none, twice_none}
use Rattle.pg_set.proofs.lemmas.refusals.Steps.{of_then}

module _ (skips : Bool) (files : List Message) where
  pub has_cause : stated_of skips files ≡ None → IsBadReference skips files
  has_cause h = of_then (declared_by skips) (in_post_order skips files) h (bad_order skips files) (λ ordered is none. causes.bad_declaration ordered is (bad_declared skips ordered none))

  unordered : in_post_order skips files ≡ None → stated_of skips files ≡ None
  unordered h = ap (option_and_then (declared_by skips)) h

  pub states_none : IsBadReference skips files → stated_of skips files ≡ None
  states_none (causes.path_twice h) = unordered (twice_none skips files h)
  states_none (causes.import_twice any) = unordered (import_twice_none skips files any)
  states_none (causes.import_missing any) = unordered (missing_none skips files any)
  states_none (causes.imports_go_round path between trail) = unordered (round_none skips files path between trail)
  states_none (causes.bad_declaration ordered is bad) = ap (option_and_then (declared_by skips)) is ∙ declared_none skips ordered bad

pub bad_references : BadReferences
bad_references skips files = (has_cause skips files, states_none skips files)
