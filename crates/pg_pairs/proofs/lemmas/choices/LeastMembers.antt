-- The cheapest choice of a field with later ones is the one with the least of them; two of each new oneof are enough to find it.
use Rattle.std.proofs.Common.{◌≡◌, ℕ, ◌+◌, List, [], ◌∷◌, Bool, true, false, not, ◌&&◌, cond, if◌then◌else◌, nat_eq, nat_le, Option, Some, None, refl, ap, sym, ◌∙◌, option_and_then, eqb-true, eq-eqb, rules}
use Rattle.std.specs.HashMap.{HashMap, get, Updates}
use Rattle.std.proofs.Math.Bool.{and_comm}
use Rattle.std.proofs.lemmas.Bool.{leb-true, leb-false, le-leb, lt-leb}
use Rattle.pg_schema.specs.Shape.{FieldShape, field_at}
use Rattle.pg_dyn.specs.reading.Content.{same_oneof}
use Rattle.pg_pairs.specs.declared.choices.least_member.Member.{Member}
use Rattle.pg_pairs.specs.declared.choices.least_member.Two.{Two}
use Rattle.pg_pairs.specs.choices.Choices.{in_one_oneof, joins, joined_choices, cheaper, cheapest}
use Rattle.pg_pairs.specs.choices.NewOneof.{new_oneof}
use Rattle.pg_pairs.specs.inner.LeastMembers.{member_of, lesser, least_member, joined_with, met_choices, beside, IsOrdered, KeepsLeast}

-- a test of two numbers, the other way round
pub turned : (j k : ℕ) (b : Bool) → nat_eq j k ≡ b → nat_eq k j ≡ b
turned j k true h = eq-eqb k j (sym (eqb-true j k h))
turned j k false h = elim (nat_eq k j) as (λ b. nat_eq k j ≡ b → b ≡ false) [ true ↦ λ e. absurd (let same : nat_eq j k ≡ true = eq-eqb j k (sym (eqb-true k j e)) in cc) | false ↦ λ e. refl ] refl

-- the choice with the least

in_oneof_is : (gs : List FieldShape) (a b : FieldShape) → in_one_oneof (field_at gs a.number) (field_at gs b.number) ≡ same_oneof (new_oneof gs a) (new_oneof gs b)
in_oneof_is gs a b = search (rules, option_and_then)

le-shift : (k m n : ℕ) → nat_le (k + m) (k + n) ≡ nat_le m n
le-shift k m n = search (rules, leb-true, le-leb, leb-false, lt-leb)

lesser-joined : (a m : Member) (o : Option Member) → Some (cheaper (joined_with a m) (cheapest (met_choices a o))) ≡ cheapest (met_choices a (Some (lesser m o)))
lesser-joined a m None = refl
lesser-joined a m (Some n) = rw (le-shift a.cost m.cost n.cost) (elim (nat_le m.cost n.cost) as (λ b. Some (cond b (joined_with a m) (joined_with a n)) ≡ Some (joined_with a (cond b m n))) [ true ↦ refl | false ↦ refl ])

pub joins_is : (gs : List FieldShape) (a b : FieldShape) → joins gs a b ≡ (same_oneof (new_oneof gs a) (new_oneof gs b) && not (same_oneof a.oneof b.oneof))
joins_is gs a b = ap (λ one. not (same_oneof a.oneof b.oneof) && one) (in_oneof_is gs a b) ∙ and_comm (not (same_oneof a.oneof b.oneof)) (same_oneof (new_oneof gs a) (new_oneof gs b))

pub cheapest-joined : (gs : List FieldShape) (a : FieldShape) (later : List FieldShape) → cheapest (joined_choices gs a later) ≡ cheapest (met_choices (member_of a) (least_member gs (new_oneof gs a) a.oneof later))
cheapest-joined gs a [] = refl
cheapest-joined gs a (b ∷ later) =
    search (rules, cheapest-joined gs a later, joins_is, lesser-joined)

-- a field in no new oneof meets none

pub in_none : (gs : List FieldShape) (old : Option ℕ) (fs : List FieldShape) → least_member gs None old fs ≡ None
in_none gs old [] = refl
in_none gs old (f ∷ fs) = in_none gs old fs

-- what is kept of each new oneof, with one more field

module _ {S : Type 0} (gs : List FieldShape) (f : FieldShape) (fs : List FieldShape) (kept : HashMap ℕ Two S) (is : KeepsLeast gs fs kept) where
  pub none_more : new_oneof gs f ≡ None → KeepsLeast gs (f ∷ fs) kept
  none_more none = record { least = λ new old. is.least new old ∙ rw none refl; ordered = is.ordered }

  pub one_more : (new : ℕ) (two : Two) (after : HashMap ℕ Two S) → new_oneof gs f ≡ Some new → Updates nat_eq kept after new (Some two) →
      ((old : Option ℕ) → beside (Some two) old ≡ (if not (same_oneof old f.oneof) then Some (lesser (member_of f) (beside (get nat_eq kept new) old)) else beside (get nat_eq kept new) old)) →
      IsOrdered (Some two) → KeepsLeast gs (f ∷ fs) after
  one_more new two after found updates met ordered = search (rules, eqb-true, turned)

  -- the same with what was there before, as the call that makes the two says it
  pub put : (new : ℕ) (m : Member) (later : Option Two) (two : Two) (after : HashMap ℕ Two S) → new_oneof gs f ≡ Some new → m ≡ member_of f → later ≡ get nat_eq kept new → Updates nat_eq kept after new (Some two) →
      (IsOrdered later → (old : Option ℕ) → beside (Some two) old ≡ (if not (same_oneof old m.oneof) then Some (lesser m (beside later old)) else beside later old)) →
      (IsOrdered later → IsOrdered (Some two)) → KeepsLeast gs (f ∷ fs) after
  put new m later two after found m_is later_is updates met ordered = search (rules, one_more)
