-- Records that have a reading and hold no message that is too deep, one by one.
use Rattle.std.proofs.Common.{◌≡◌, ℕ, List, Bool, true, false, not, ◌||◌, Option, Some, refl, ap, sym, ◌∙◌, eqb-true, rules}
use Rattle.std.specs.List.{AllByRecursion, list_any, list_all}
use Rattle.pg_schema.specs.Shape.{Shape, FieldShape, field_at}
use Rattle.pg_schema.specs.ShapeRules.{Rising}
use Rattle.pg_wire.specs.Records.{WireRecord}
use Rattle.pg_dyn.specs.reading.ByFields.{RecordsGood}
use Rattle.pg_dyn.specs.reading.Content.{takes, is_unknown}
use Rattle.pg_dyn.specs.reading.Decoding.{dec, is_readable}
use Rattle.pg_dyn.specs.reading.Steps.{FieldReads, IsShallow, IsShallowRecord, Taken}
use Rattle.pg_dyn.proofs.Lists.{each_at, each_both, each_weaker, list_all_each, list_all_true, list_any_at, none_list_any}
use Rattle.pg_dyn.proofs.lemmas.reading.records.Splitting.{each_found, takes_number}
use Rattle.std.proofs.lemmas.Bool.{not-true}

pub same_found : (f g : FieldShape) → ◌≡◌ {A = Option FieldShape} (Some f) (Some g) → f ≡ g
same_found f g e = cc

-- the field that takes a record is the one of its number
pub taken_is : (fs : List FieldShape) (r : WireRecord) (f g : FieldShape) → Taken fs r f → field_at fs g.number ≡ Some g → takes g r ≡ true → g ≡ f
taken_is fs r f g taken found takes_g = search (rules, same_found, eqb-true, takes_number)

pub known_is : (fs : List FieldShape) (r : WireRecord) (f : FieldShape) → Taken fs r f → is_unknown fs r ≡ false
known_is fs r f taken = ap not (list_any_at (λ g. takes g r) fs r.number f taken.found taken.taken)

module _ (shape : Shape) (fs : List FieldShape) where
  -- of the fields, only the one that takes a record has to read it
  pub read_by_field : Rising fs → (r : WireRecord) (f : FieldShape) → Taken fs r f → FieldReads shape f r
      → list_all (λ g. not (takes g r) || is_readable (dec shape) g r) fs ≡ true
  read_by_field rises r f taken readable =
      list_all_each (λ g. not (takes g r) || is_readable (dec shape) g r) fs
      (each_weaker (λ g. field_at fs g.number ≡ Some g) (λ g. (not (takes g r) || is_readable (dec shape) g r) ≡ true) one fs (each_found fs rises))
    where
      one : (g : FieldShape) → field_at fs g.number ≡ Some g → (not (takes g r) || is_readable (dec shape) g r) ≡ true
      one g there = of (takes g r) refl
        where
          of : (b : Bool) → takes g r ≡ b → (not b || is_readable (dec shape) g r) ≡ true
          of false e = refl
          of true e = ap (λ x. is_readable (dec shape) x r) (taken_is fs r f g taken there e) ∙ readable

  -- a record that no field takes has a reading
  pub read_unknown : (r : WireRecord) → is_unknown fs r ≡ true → list_all (λ g. not (takes g r) || is_readable (dec shape) g r) fs ≡ true
  read_unknown r unknown =
      list_all_each (λ g. not (takes g r) || is_readable (dec shape) g r) fs
      (each_weaker (λ g. takes g r ≡ false) (λ g. (not (takes g r) || is_readable (dec shape) g r) ≡ true)
      (λ g e. ap (λ b. not b || is_readable (dec shape) g r) e) fs none)
    where
      none : AllByRecursion (λ g. takes g r ≡ false) fs
      none = none_list_any (λ g. takes g r) fs (not-true (list_any (λ g. takes g r) fs) unknown)

module _ (shape : Shape) (levels : ℕ) (fs : List FieldShape) where
  abbrev reads : WireRecord → Bool
  reads r = list_all (λ f. not (takes f r) || is_readable (dec shape) f r) fs

  abbrev pub IsGood : WireRecord → Type 0
  IsGood r = (list_all (λ f. not (takes f r) || is_readable (dec shape) f r) fs ≡ true) × IsShallowRecord shape levels fs r

  pub good_each : (rs : List WireRecord) → RecordsGood shape levels fs rs → AllByRecursion IsGood rs
  good_each rs h = each_both (λ r. reads r ≡ true) (IsShallowRecord shape levels fs) rs (list_all_true reads rs h.0) h.1

  pub each_good : (rs : List WireRecord) → AllByRecursion IsGood rs → RecordsGood shape levels fs rs
  each_good rs h = search (rules, list_all_each, each_weaker)

  pub good_by_field : Rising fs → (r : WireRecord) (f : FieldShape) → Taken fs r f → FieldReads shape f r × IsShallow shape levels f r → IsGood r
  good_by_field rises r f taken h = search (rules, read_by_field, same_found)

  pub good_of_field : (r : WireRecord) (f : FieldShape) → Taken fs r f → IsGood r → FieldReads shape f r × IsShallow shape levels f r
  good_of_field r f taken h =
      let own : (not (takes f r) || is_readable (dec shape) f r) ≡ true =
      each_at (λ g. (not (takes g r) || is_readable (dec shape) g r) ≡ true) fs r.number f taken.found
      (list_all_true (λ g. not (takes g r) || is_readable (dec shape) g r) fs h.0) in
      (ap (λ b. not b || is_readable (dec shape) f r) (sym taken.taken) ∙ own, h.1 f taken)

  -- a record that no field takes is good
  pub good_unknown : (r : WireRecord) → is_unknown fs r ≡ true → IsGood r
  good_unknown r unknown = search (rules, read_unknown, known_is)
