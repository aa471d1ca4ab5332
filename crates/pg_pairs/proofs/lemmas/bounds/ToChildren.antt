-- What a message's type keeps up to its length, a child's type keeps up to the child's.
use Rattle.std.proofs.Common.{◌≡◌, ℕ, ◌<◌, ◌≤◌, List, length, true, Option, Some, None, option_map, refl, ap, ◌∙◌, subst, arith, length-append, rules}
use Rattle.std.specs.List.{AllByRecursion}
use Rattle.std.proofs.lemmas.Bool.{cases_lt}
use Rattle.pg_schema.specs.declared.parts.field.TypeId.{TypeId}
use Rattle.pg_schema.specs.declared.parts.field.Scalar.{Scalar}
use Rattle.pg_schema.specs.declared.parts.field.Element.TheVariants as elements
use Rattle.pg_schema.specs.declared.parts.field.Presence.{Presence}
use Rattle.pg_schema.specs.Shape.{Shape, FieldShape, fields, field_at}
use Rattle.pg_schema.specs.ShapeRules.{IsShape}
use Rattle.pg_wire.specs.Varint.{varint}
use Rattle.pg_dyn.specs.message.Message.{Bytes}
use Rattle.pg_dyn.specs.word.Coding.{form}
use Rattle.pg_dyn.specs.encoding.Encoding.{enc, cap}
use Rattle.pg_dyn.specs.views.Comparison.{Comparand}
use Rattle.pg_dyn.proofs.Lists.{each_before, each_after}
use Rattle.pg_pairs.specs.declared.choices.case.Case.{Case}
use Rattle.pg_pairs.specs.declared.choices.case.Case.TheVariants as cases
use Rattle.pg_pairs.specs.declared.choices.choice.Choice.{Choice}
use Rattle.pg_pairs.specs.declared.choices.choice.Pair.{Pair}
use Rattle.pg_pairs.specs.views.EnumView.{EnumView, by_numbers}
use Rattle.pg_pairs.specs.gaps.Likeness.{like}
use Rattle.pg_pairs.specs.gaps.Gaps.{body_length}
use Rattle.pg_pairs.specs.choices.Costs.{with_length, one_item}
use Rattle.pg_pairs.specs.choices.Choices.{Table, choice_of, child_body, singular_cost, plain_choices, map_choices, field_choices, choices_by, map_key}
use Rattle.pg_pairs.specs.bounds.Covering.{children_by, has_children}
use Rattle.pg_pairs.specs.bounds.Laws.{IsReached}
use Rattle.pg_pairs.proofs.lemmas.choices.Costs.{Costs}
use Rattle.pg_pairs.proofs.lemmas.gaps.Lengths.{with_length_rises}
use Rattle.pg_pairs.proofs.lemmas.bounds.Dearer.{CompatibleTo, field_dear, one_bound, bound_there, one_reached}

-- Among the choices of a field of children is that of the child.
module _ (P : Choice → Type 0) (enum_view : EnumView) (table : Table) (s t : TypeId) (x : ℕ) (bound : table (record { old = s; new = t }) ≡ Some (Some x)) (m n : ℕ) (o r : Option ℕ) where
  abbrev of_old : Presence → FieldShape
  of_old p = record { number = m; presence = p; element = elements.Message s; oneof = o }

  abbrev of_new : Presence → FieldShape
  of_new q = record { number = n; presence = q; element = elements.Message t; oneof = r }

  in_plain : (p q : Presence) → AllByRecursion P (plain_choices enum_view table (of_old p) (of_new q)) → P (record { number = m; case = cases.Child; part = 0; cost = one_item (of_old p) (with_length x) })
  in_plain p q all = (rw bound at (each_before P (choice_of m cases.Child 0 (option_map (one_item (of_old p)) (child_body table (elements.Message s) (elements.Message t)))) (choice_of m cases.List 0 (singular_cost (of_old p) (of_new q))) all)).0

  in_map : (p q : Presence) (k l : Scalar) → like (elements.Scalar k) (elements.Scalar l) ≡ true → AllByRecursion P (map_choices enum_view table (of_old p) (of_new q) k l) → P (record { number = m; case = cases.Map; part = 2; cost = one_item (of_old p) (with_length x) })
  in_map p q k l alike all = search (rules, each_after)

  abbrev Priced : Presence → Type 0
  Priced p = (case : Case) × (part : ℕ) × P (record { number = m; case = case; part = part; cost = one_item (of_old p) (with_length x) })

  in_field : (p q : Presence) → has_children p q ≡ true → AllByRecursion P (field_choices enum_view table (of_old p) (of_new q)) → Priced p
  in_field p q = of (map_key p) (map_key q)
    where
      of : (k l : Option Scalar) → children_by k l ≡ true → AllByRecursion P (choices_by enum_view table (of_old p) (of_new q) k l) → Priced p
      of (Some k) (Some l) has all = (cases.Map, 2, in_map p q k l has all)
      of None None has all = (cases.Child, 0, in_plain p q all)
      of (Some k) None has all = absurd (cc)
      of None (Some l) has all = absurd (cc)

-- Down to a child, whose bytes a comparand of the field holds.
module _ (old new : Shape) (shape_old : IsShape old) (shape_new : IsShape new) (a b : TypeId) (n : ℕ) (small : n ≤ cap) (fine : CompatibleTo n old new a b) where
  abbrev pair_of : TypeId → TypeId → Pair
  pair_of s t = record { old = s; new = t }

  pub child_compatible : (f g : FieldShape) (s t : TypeId) → field_at (fields old a) f.number ≡ Some f → field_at (fields new b) f.number ≡ Some g → f.element ≡ elements.Message s → g.element ≡ elements.Message t → has_children f.presence g.presence ≡ true
      → (whole : ℕ) → whole ≤ n → (c : Comparand) (bytes : List ℕ) → c.written ≡ Bytes bytes → Costs f whole c → CompatibleTo (length bytes) old new s t
  child_compatible f g s t found at is_old is_new has whole within c bytes w cost u breaks =
      search (rules, too_dear, cases_lt)
    where
      too_dear : length (enc old s u) ≤ length bytes → ⊥
      too_dear no_more =
          let table : Table = one_bound (pair_of s t) (length (enc old s u)) in
          let reached : IsReached by_numbers old new (pair_of s t) (length (enc old s u)) = (u, (breaks, refl)) in
          let all = field_dear old new shape_old shape_new table (one_reached old new (pair_of s t) (length (enc old s u)) reached) (pair_of a b) n small fine f g found at in
          let here : f ≡ record { number = f.number; presence = f.presence; element = elements.Message s; oneof = f.oneof } =
          λ i. record { number = f.number; presence = f.presence; element = is_old i; oneof = f.oneof } in
          let beside : g ≡ record { number = g.number; presence = g.presence; element = elements.Message t; oneof = g.oneof } =
          λ i. record { number = g.number; presence = g.presence; element = is_new i; oneof = g.oneof } in
          let literal : AllByRecursion (λ (c : Choice). n < c.cost) (field_choices by_numbers table (record { number = f.number; presence = f.presence; element = elements.Message s; oneof = f.oneof }) (record { number = g.number; presence = g.presence; element = elements.Message t; oneof = g.oneof })) =
          subst (λ y. AllByRecursion (λ (c : Choice). n < c.cost) (field_choices by_numbers table (record { number = f.number; presence = f.presence; element = elements.Message s; oneof = f.oneof }) y)) beside
          (subst (λ y. AllByRecursion (λ (c : Choice). n < c.cost) (field_choices by_numbers table y g)) here all) in
          let (case, part, dear) = in_field (λ (c : Choice). n < c.cost) by_numbers table s t (length (enc old s u)) (bound_there (pair_of s t) (length (enc old s u))) f.number g.number f.oneof g.oneof f.presence g.presence has literal in
          let body : body_length (form f.element) c.written ≡ with_length (length bytes) =
          (λ i. body_length (form (is_old i)) (w i)) ∙ length-append (varint (length bytes)) bytes in
          let fits : with_length (length (enc old s u)) ≤ body_length (form f.element) c.written = omega (arith, body, with_length_rises (length (enc old s u)) (length bytes) no_more) in
          let cheap = cost (with_length (length (enc old s u))) fits in
          let same : one_item f (with_length (length (enc old s u))) ≡ one_item (record { number = f.number; presence = f.presence; element = elements.Message s; oneof = f.oneof }) (with_length (length (enc old s u))) = ap (λ y. one_item y (with_length (length (enc old s u)))) here in
          omega (arith, cheap, same, dear, within)
