-- A message of an old type that the new one keeps, with all that are no longer: each choice costs more, and no two of its fields meet.
use Rattle.std.proofs.Common.{◌≡◌, ℕ, ◌<◌, ◌≤◌, length, true, Some, ⊎_elim, arith, rules}
use Rattle.std.specs.List.{AllByRecursion}
use Rattle.std.proofs.lemmas.Bool.{cases_Bool}
use Rattle.pg_schema.specs.declared.parts.field.TypeId.{TypeId}
use Rattle.pg_schema.specs.Shape.{Shape, FieldShape, fields, field_at}
use Rattle.pg_schema.specs.ShapeRules.{IsShape}
use Rattle.pg_dyn.specs.message.Message.{Message, IsPlain}
use Rattle.pg_dyn.specs.encoding.Encoding.{enc, cap}
use Rattle.pg_dyn.specs.fitting.Belonging.{IsMessage}
use Rattle.pg_dyn.specs.views.Comparison.{numbers, comparands}
use Rattle.pg_dyn.specs.views.Breaking.{is_kept}
use Rattle.pg_dyn.specs.laws.ByComparands.{NoComparandsMeet}
use Rattle.pg_pairs.specs.declared.choices.choice.Choice.{Choice}
use Rattle.pg_pairs.specs.declared.choices.choice.Pair.{Pair}
use Rattle.pg_pairs.specs.views.EnumView.{by_numbers}
use Rattle.pg_pairs.specs.choices.Choices.{all_choices, field_choices, no_bounds}
use Rattle.pg_pairs.specs.bounds.Laws.{IsReached}
use Rattle.pg_pairs.proofs.lemmas.choices.Choosing.{joined_allowed}
use Rattle.pg_dyn.proofs.PublicLaws.{fields_are_found}
use Rattle.pg_pairs.proofs.lemmas.bounds.OneMessage.{none_meet_or}
use Rattle.pg_pairs.proofs.lemmas.bounds.Dearer.{CompatibleTo, all_dear, field_dear}

module _ (old new : Shape) (shape_old : IsShape old) (shape_new : IsShape new) (a b : TypeId) (v : Message) (is : IsMessage old a v) (plain : IsPlain v) (small : length (enc old a v) ≤ cap) (fine : CompatibleTo (length (enc old a v)) old new a b) where
  pub is_kept_whole : is_kept numbers old new a b v ≡ true
  is_kept_whole = search (rules, cases_Bool)

  abbrev pair : Pair
  pair = record { old = a; new = b }

  nothing_there : (p : Pair) (x : ℕ) → no_bounds p ≡ Some (Some x) → IsReached by_numbers old new p x
  nothing_there p x at = absurd (cc)

  dear : AllByRecursion (λ (c : Choice). length (enc old a v) < c.cost) (all_choices by_numbers no_bounds (fields new b) (fields old a))
  dear = all_dear old new shape_old shape_new no_bounds nothing_there pair (length (enc old a v)) small fine

  -- Each choice of a field costs more than the message.
  pub dear_at : (f g : FieldShape) → field_at (fields old a) f.number ≡ Some f → field_at (fields new b) f.number ≡ Some g → AllByRecursion (λ (c : Choice). length (enc old a v) < c.cost) (field_choices by_numbers no_bounds f g)
  dear_at f g found at = field_dear old new shape_old shape_new no_bounds nothing_there pair (length (enc old a v)) small fine f g found at

  -- Of two fields of one new oneof one has no content.
  pub none_meet : NoComparandsMeet (fields new b) (comparands numbers old new a b v)
  none_meet g h at_g at_h sibling =
      ⊎_elim (λ none. none) (λ never. absurd never)
      (none_meet_or numbers old new shape_old a b v is plain ⊥
      (λ f e matches.
      let more = joined_allowed (λ (x : Choice). length (enc old a v) < x.cost) by_numbers no_bounds (fields new b) (fields old a) (fields_are_found.0 old a shape_old).rising f.number e.number f e matches.first matches.second matches.rise matches.joined dear in
      let cheap = matches.cheap in
      omega arith)
      g h at_g at_h sibling)
