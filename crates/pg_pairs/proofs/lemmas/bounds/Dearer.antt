-- Where no message up to a length breaks each choice costs more.
use Rattle.std.proofs.Common.{length, ◌≡◌, ℕ, ◌<◌, ◌≤◌, nat_le, if◌then◌else◌, Some, None, arith, rules}
use Rattle.std.specs.List.{AllByRecursion}
use Rattle.std.proofs.lemmas.Bool.{leb-false}
use Rattle.pg_schema.specs.Shape.{Shape, FieldShape, fields, field_at}
use Rattle.pg_schema.specs.ShapeRules.{IsShape}
use Rattle.pg_dyn.specs.encoding.Encoding.{cap, enc}
use Rattle.pg_dyn.proofs.Lists.{each_unfiltered}
use Rattle.pg_pairs.specs.declared.choices.choice.Choice.{Choice}
use Rattle.pg_pairs.specs.declared.choices.choice.Pair.{Pair}
use Rattle.pg_pairs.specs.views.EnumView.{by_numbers}
use Rattle.pg_pairs.specs.views.ViewLaws.{IsEnumView}
use Rattle.pg_pairs.proofs.lemmas.views.NamedViews.{none_differs}
use Rattle.pg_pairs.specs.choices.Choices.{Table, all_choices, choices, field_choices}
use Rattle.pg_pairs.specs.bounds.Covering.{same_pair, IsAmong}
use Rattle.pg_pairs.specs.bounds.Laws.{IsReached}
use Rattle.pg_pairs.specs.laws.EdgeChildren.{same_pair-true}
use Rattle.pg_pairs.proofs.lemmas.choices.Choosing.{field_allowed}
use Rattle.pg_pairs.proofs.lemmas.witness.Reached.{choices_reached}
use Rattle.pg_pairs.proofs.lemmas.graph.Reaching.{every_is_among}
use Rattle.pg_schema.specs.declared.parts.field.TypeId.{TypeId}
use Rattle.pg_dyn.specs.message.Message.{Message}
use Rattle.pg_dyn.specs.views.Comparison.{numbers}
use Rattle.pg_dyn.specs.views.Breaking.{Breaks}

-- No message of at most that many bytes breaks.
abbrev pub CompatibleTo : ℕ → Shape → Shape → TypeId → TypeId → Type 0
CompatibleTo n old new a b = (u : Message) → Breaks numbers old new a b u → n < length (enc old a u)

pub by_numbers_is_view : IsEnumView by_numbers
by_numbers_is_view old new zero = none_differs zero

module _ (old new : Shape) (shape_old : IsShape old) (shape_new : IsShape new) (table : Table)
    (reached : (p : Pair) (x : ℕ) → table p ≡ Some (Some x) → IsReached by_numbers old new p x) (pair : Pair) (n : ℕ) (small : n ≤ cap)
    (fine : CompatibleTo n old new pair.old pair.new) where
  one_dear : (c : Choice) → IsAmong c (choices by_numbers table old new pair) → n < c.cost
  one_dear c among = search (rules, choices_reached, by_numbers_is_view)

  pub all_dear : AllByRecursion (λ (c : Choice). n < c.cost) (all_choices by_numbers table (fields new pair.new) (fields old pair.old))
  all_dear =
      each_unfiltered (λ (c : Choice). n < c.cost) (λ (c : Choice). nat_le c.cost cap) (λ c above. let over = leb-false c.cost cap above in omega arith)
      (all_choices by_numbers table (fields new pair.new) (fields old pair.old))
      (every_is_among (λ (c : Choice). n < c.cost) (choices by_numbers table old new pair) one_dear)

  pub field_dear : (f g : FieldShape) → field_at (fields old pair.old) f.number ≡ Some f → field_at (fields new pair.new) f.number ≡ Some g → AllByRecursion (λ (c : Choice). n < c.cost) (field_choices by_numbers table f g)
  field_dear f g found at = field_allowed (λ (c : Choice). n < c.cost) by_numbers table (fields new pair.new) (fields old pair.old) f.number f g found at all_dear

-- the table of one pair's bound
pub one_bound : Pair → ℕ → Table
one_bound pair x p = if same_pair pair p then Some (Some x) else None

pub bound_there : (pair : Pair) (x : ℕ) → one_bound pair x pair ≡ Some (Some x)
unfolding one_bound
bound_there pair x = search rules

pub one_reached : (old new : Shape) (pair : Pair) (x : ℕ) → IsReached by_numbers old new pair x → (p : Pair) (y : ℕ) → one_bound pair x p ≡ Some (Some y) → IsReached by_numbers old new p y
unfolding one_bound
one_reached old new pair x is p y at = search (rules, same_pair-true)
