-- Messages without the contents of the other members of a oneof.
use Rattle.std.proofs.Common.{◌≡◌, ◌≢◌, ℕ, ◌<◌, List, [], ◌∷◌, filter, nat_eq, Bool, true, false, not, ◌&&◌, ◌||◌, Some, None, refl, ap, ap₂, sym, ◌∙◌, arith, ⊎_elim, eq-eqb, ne_eqb, rules}
use Rattle.std.specs.List.{AllByRecursion}
use Rattle.std.proofs.lemmas.Bool.{cases_eq}
use Rattle.std.proofs.Math.Bool.{and-false}
use Rattle.pg_schema.specs.declared.parts.field.TypeId.{TypeId}
use Rattle.pg_schema.specs.Shape.{FieldShape, field_at}
use Rattle.pg_schema.specs.ShapeRules.{Rising}
use Rattle.pg_wire.specs.Records.{WireRecord}
use Rattle.pg_dyn.specs.declared.message.Content.{Content}
use Rattle.pg_dyn.specs.message.Message.{Part}
use Rattle.pg_dyn.specs.reading.Content.{is_sibling}
use Rattle.pg_dyn.specs.message.Kept.{Kept, ends}
use Rattle.pg_dyn.specs.message.KeptParts.{KeptItem, parts_of}
use Rattle.pg_dyn.specs.message.Replacing.{kept_onto, kept_from, is_sibling_number, without_siblings}
use Rattle.pg_dyn.proofs.Lists.{each_weaker, each-filter, list_any_none}
use Rattle.pg_dyn.proofs.lemmas.reading.records.Splitting.{found_first, found_later}
use Rattle.pg_dyn.proofs.lemmas.message.ReplacingLaws.{shown, seen-filter, parts_shown, unknown_shown, type_shown}

-- The sibling of a number is the field that is found there.

apart_sibling : (f g : FieldShape) (n : ℕ) → g.number ≢ n → (is_sibling f g && nat_eq g.number n) ≡ false
apart_sibling f g n apart = ap (λ b. is_sibling f g && b) (ne_eqb g.number n apart) ∙ and-false (is_sibling f g)

own_sibling : (f g : FieldShape) (n : ℕ) → g.number ≡ n → (is_sibling f g && nat_eq g.number n) ≡ is_sibling f g
own_sibling f g n same = search (rules, eq-eqb)

or_false : (b : Bool) → (b || false) ≡ b
or_false true = refl
or_false false = refl

pub sibling_found : (fs : List FieldShape) (f g : FieldShape) (n : ℕ) → Rising fs → field_at fs n ≡ Some g → is_sibling_number fs f n ≡ is_sibling f g
sibling_found [] f g n rising found = absurd (cc)
sibling_found (x ∷ fs) f g n rising found =
    ⊎_elim
    (λ same.
    let is : x ≡ g = found_first x g fs n same found in
    let above : AllByRecursion (λ (y : FieldShape). (is_sibling f y && nat_eq y.number n) ≡ false) fs =
    each_weaker (λ (y : FieldShape). x.number < y.number) (λ (y : FieldShape). (is_sibling f y && nat_eq y.number n) ≡ false) (λ y high. apart_sibling f y n (λ e. absurd (omega arith))) fs rising.0 in
    ap₂ (λ a b. a || b) (own_sibling f x n same) (list_any_none (λ (y : FieldShape). is_sibling f y && nat_eq y.number n) fs above) ∙ or_false (is_sibling f x) ∙ ap (is_sibling f) is)
    (λ apart. ap (λ a. a || is_sibling_number fs f n) (apart_sibling f x n apart) ∙ sibling_found fs f g n rising.1 (found_later x g fs n apart found))
    (cases_eq x.number n)

pub sibling_nowhere : (fs : List FieldShape) (f : FieldShape) (n : ℕ) → field_at fs n ≡ None → is_sibling_number fs f n ≡ false
sibling_nowhere [] f n none = refl
sibling_nowhere (x ∷ fs) f n none =
    search (rules, eq-eqb, apart_sibling, sibling_nowhere fs f n, ne_eqb, cases_eq)

-- What is left of a message.

pub cleared_shown : (fs : List FieldShape) (f : FieldShape) (type : TypeId) (ms new : List (ℕ × Content)) (us : List WireRecord) (m : Kept) → new ≡ filter (λ (c : ℕ × Content). not (is_sibling_number fs f c.0)) ms → shown type ms us ≡ m
    → shown type new us ≡ without_siblings fs f m
cleared_shown fs f type ms new us m is view =
    let test : ℕ → Bool = λ n. not (is_sibling_number fs f n) in
    ap (λ xs. shown type xs us) is
    ∙ ap (λ ps. kept_onto ps (ends type us)) (sym (seen-filter test ms) ∙ ap (filter (λ (p : Part KeptItem). test p.number)) (sym (parts_shown type ms us)))
    ∙ ap₂ (λ t u. kept_from t (filter (λ (p : Part KeptItem). test p.number) (parts_of (shown type ms us))) u) (sym (type_shown type ms us)) (sym (unknown_shown type ms us))
    ∙ ap (without_siblings fs f) view

pub each_left : (P : ℕ × Content → Type 0) (fs : List FieldShape) (f : FieldShape) (ms : List (ℕ × Content)) → AllByRecursion P ms → AllByRecursion P (filter (λ (c : ℕ × Content). not (is_sibling_number fs f c.0)) ms)
each_left P fs f ms h = search (rules, each_weaker, each-filter)
