-- A message shows the same where each field does that has a content in it or in what is read of it, and what its type lacks comes back as it was written.
use Rattle.std.proofs.Common.{◌≡◌, ℕ, ◌+◌, ◌<◌, List, [], ◌∷◌, ◌++◌, length, get_or, take, map, flat_map, Bool, true, false, ◌&&◌, nat_eq, is_none, Some, None, refl, ap, sym, ◌∙◌, subst, eqb-true, true≢false, rules}
use Rattle.std.specs.List.{AllByRecursion, list_all}
use Rattle.std.specs.Str.{bytes_eq}
use Rattle.pg_schema.specs.declared.parts.field.TypeId.{TypeId}
use Rattle.pg_schema.specs.declared.parts.Parts.{Parts}
use Rattle.pg_schema.specs.Parts.{shape_of}
use Rattle.pg_schema.specs.Shape.{FieldShape, fields, field_at}
use Rattle.pg_schema.specs.ShapeRules.{IsShape}
use Rattle.pg_wire.specs.declared.record.Record.{Record}
use Rattle.pg_wire.specs.Reads.{seen_record}
use Rattle.pg_wire.specs.Records.{WireRecord}
use Rattle.pg_dyn.specs.declared.message_ref.ContentRef.{ContentRef}
use Rattle.pg_dyn.specs.declared.message_ref.ContentRef.TheVariants as contents
use Rattle.pg_dyn.specs.declared.view_name.ViewName.{ViewName}
use Rattle.pg_dyn.specs.message_ref.Borrowed.{IsFilled, all_seen, content_seen, entry_part, fields_onto, item_part}
use Rattle.pg_dyn.specs.fitting.Fits.{Fits}
use Rattle.pg_dyn.specs.message.Kept.{Kept, ends, type_of, message_of}
use Rattle.pg_dyn.specs.message.KeptParts.{KeptItem, Plain, Msg, unknown_of, parts_of, of_number}
use Rattle.pg_dyn.specs.message.Message.{Part, is_of}
use Rattle.pg_dyn.specs.word.NumberLists.{numbers_in}
use Rattle.pg_dyn.specs.message.Replacing.{kept_onto, kept_part}
use Rattle.pg_dyn.specs.encoding.Writing.{bytes_of}
use Rattle.pg_dyn.specs.views.Comparison.{records_outside, unshared_bytes, same}
use Rattle.pg_dyn.proofs.Lists.{each-append, each-flat_map, each-map, each_at, each_at_index, each_of_all, each_weaker, filter_none, list_all_each, list_all_true}
use Rattle.pg_dyn.proofs.PublicLaws.{fields_are_found, unknown_is_kept}
use Rattle.pg_pairs.specs.inner.Comparing.{Keyed, is_same, is_same_beside, is_same_if, keyed, outside_record}
use Rattle.pg_pairs.proofs.lemmas.graph.Grown.{take_more}
use Rattle.pg_pairs.proofs.lemmas.witness.SameFields.{beside_is, filled_keyed}
use Rattle.pg_pairs.proofs.lemmas.witness.SameSteps.{content_keyed, is_list, part_with}

pub outside_all : (gs : List FieldShape) (us : List Record) → flat_map (outside_record gs) us ≡ bytes_of (records_outside gs (map seen_record us))
outside_all gs [] = refl
outside_all gs (u ∷ us) = search (rules, outside_all gs us, is_none, flat_map)

-- ---- lists that are gone through

pub each_more : {X : Type 0} (P : X → Type 0) (xs : List X) (i : ℕ) (x : X) → i < length xs → x ≡ get_or xs i x → AllByRecursion P (take i xs) → P x → AllByRecursion P (take (i + 1) xs)
each_more P xs i x inside is before holds =
    subst (AllByRecursion P) (sym (take_more xs i x inside ∙ ap (λ y. take i xs ++ y ∷ []) (sym is))) (each-append P (take i xs) (x ∷ []) before (holds, tt))

pub one_not : {X : Type 0} (test : X → Bool) (xs : List X) (i : ℕ) (x : X) → i < length xs → x ≡ get_or xs i x → test x ≡ false → false ≡ list_all test xs
one_not test xs i x inside is fails =
    elim (list_all test xs) as (λ b. list_all test xs ≡ b → false ≡ b) [
      | true ↦ λ all. absurd (true≢false (sym (each_at_index (λ y. test y ≡ true) xs xs i x refl inside is (list_all_true test xs all)) ∙ fails))
      | false ↦ λ e. refl
    ] refl

-- ---- numbers that have no content

-- the parts of a message that are all of other numbers
module _ (n : ℕ) where
  abbrev IsOther : Part KeptItem → Type 0
  IsOther p = is_of n p ≡ false

  content_other : (k : ℕ) (c : ContentRef) → nat_eq k n ≡ false → AllByRecursion IsOther (content_seen k c)
  content_other k (contents.One v) h = (h, tt)
  content_other k (contents.Many vs) h = each-map IsOther (item_part k true) vs.items (each_of_all (λ v. nat_eq k n ≡ false) (λ v. h) vs.items)
  content_other k (contents.Numbers ns) h = each-map IsOther (item_part k true) (numbers_in ns) (each_of_all (λ v. nat_eq k n ≡ false) (λ v. h) (numbers_in ns))
  content_other k (contents.Map es) h = each-map IsOther (entry_part k) es.items (each_of_all (λ e. nat_eq k n ≡ false) (λ e. h) es.items)

  part_other : (p : Part KeptItem) (item : KeptItem) (later : Kept) → IsOther p → AllByRecursion IsOther (parts_of later) → AllByRecursion IsOther (parts_of (kept_part p.number p.key item later))
  part_other p (Plain listed leaf) later h rest = (h, rest)
  part_other p (Msg listed child) later h rest = (h, rest)

  onto_other : (ps : List (Part KeptItem)) (later : Kept) → AllByRecursion IsOther ps → AllByRecursion IsOther (parts_of later) → AllByRecursion IsOther (parts_of (kept_onto ps later))
  onto_other [] later h rest = rest
  onto_other (p ∷ ps) later h rest = part_other p p.item (kept_onto ps later) h.0 (onto_other ps later h.1 rest)

-- where a test holds of the number of each content, a number of which it doesn't hold has none
pub none_held : (test : ℕ → Bool) (cs : List (ℕ × ContentRef)) (m : Kept) (type : TypeId) (us : List WireRecord) → m ≡ fields_onto cs (ends type us) → true ≡ list_all (λ (c : ℕ × ContentRef). test c.0) cs → (n : ℕ) → test n ≡ false → of_number n m ≡ []
none_held test cs m type us is all n fails =
    let apart : (c : ℕ × ContentRef) → test c.0 ≡ true → nat_eq c.0 n ≡ false = λ c holds.
    elim (nat_eq c.0 n) as (λ b. nat_eq c.0 n ≡ b → b ≡ false) [ true ↦ λ e. absurd (true≢false (sym holds ∙ ap test (eqb-true c.0 n e) ∙ fails)) | false ↦ λ e. refl ] refl in
    let each : AllByRecursion (λ (c : ℕ × ContentRef). nat_eq c.0 n ≡ false) cs = each_weaker (λ (c : ℕ × ContentRef). test c.0 ≡ true) (λ (c : ℕ × ContentRef). nat_eq c.0 n ≡ false) apart cs (list_all_true (λ (c : ℕ × ContentRef). test c.0) cs (sym all)) in
    let seen : AllByRecursion (IsOther n) (all_seen cs) = each-flat_map (IsOther n) (λ (c : ℕ × ContentRef). content_seen c.0 c.1) cs
    (each_weaker (λ (c : ℕ × ContentRef). nat_eq c.0 n ≡ false) (λ (c : ℕ × ContentRef). AllByRecursion (IsOther n) (content_seen c.0 c.1)) (λ c h. content_other n c.0 c.1 h) cs each) in
    ap (of_number n) is ∙ filter_none (is_of n) (parts_of (fields_onto cs (ends type us))) (onto_other n (all_seen cs) (ends type us) seen tt)

-- a content that was found is some part
pub some_held : (n : ℕ) (m : Kept) (c : ContentRef) → IsFilled c → of_number n m ≡ content_seen n c → of_number n m ≡ [] → ⊥
some_held n m c filled seen none = no_items (keyed c) (filled_keyed c filled) (sym (content_keyed n c) ∙ sym seen ∙ none)
  where
    no_items : (xs : List Keyed) → (xs ≡ [] → ⊥) → map (part_with n (is_list c)) xs ≡ [] → ⊥
    no_items [] some is = some refl
    no_items (x ∷ xs) some is = cc

module _ (view : ViewName) (old new : Parts) (v w : Kept) where
  abbrev same_by : FieldShape → Bool
  same_by f = is_same_beside view old new v w f (field_at (fields (shape_of new) (type_of w)) f.number)

  abbrev outside_same : Bool
  outside_same = bytes_eq (bytes_of (records_outside (fields (shape_of new) (type_of w)) (unknown_of w)))
      (unshared_bytes (shape_of old) (type_of v) (fields (shape_of new) (type_of w)) (message_of v))

  same_is : is_same view old new v w ≡ (list_all same_by (fields (shape_of old) (type_of v)) && outside_same)
  unfolding same
  same_is = ap (λ us. list_all same_by (fields (shape_of old) (type_of v)) && bytes_eq (bytes_of (records_outside (fields (shape_of new) (type_of w)) us)) (unshared_bytes (shape_of old) (type_of v) (fields (shape_of new) (type_of w)) (message_of v))) (unknown_is_kept.0 w)

  abbrev pub same_at : ℕ → Bool
  same_at n = is_same_if view old new v w (field_at (fields (shape_of old) (type_of v)) n)

  abbrev pub same_held : ℕ × ContentRef → Bool
  same_held c = same_at c.0

  abbrev all_same : Bool
  all_same = list_all same_by (fields (shape_of old) (type_of v))

  each_number : all_same ≡ true → (n : ℕ) → same_at n ≡ true
  each_number all n =
      elim (field_at (fields (shape_of old) (type_of v)) n) as (λ o. field_at (fields (shape_of old) (type_of v)) n ≡ o → is_same_if view old new v w o ≡ true) [
        | Some f ↦ λ found. each_at (λ f. same_by f ≡ true) (fields (shape_of old) (type_of v)) n f found (list_all_true same_by (fields (shape_of old) (type_of v)) all)
        | None ↦ λ none. refl
      ] refl

  -- contents of which one isn't shown
  pub same_of_none : (cs : List (ℕ × ContentRef)) → false ≡ list_all (λ (c : ℕ × ContentRef). same_at c.0) cs → false ≡ is_same view old new v w
  same_of_none cs h = search (rules, true≢false, list_all_each, each_of_all, each_number, same_is)

  module _ (is_old : IsShape (shape_of old)) (fits : Fits (shape_of old) v) where
    -- a field that has no content in either is the same in both
    no_content : (f : FieldShape) → field_at (fields (shape_of old) (type_of v)) f.number ≡ Some f → of_number f.number v ≡ [] → of_number f.number w ≡ [] → same_by f ≡ true
    no_content f found first second =
        elim (field_at (fields (shape_of new) (type_of w)) f.number) as (λ o. field_at (fields (shape_of new) (type_of w)) f.number ≡ o → is_same_beside view old new v w f o ≡ true) [
          | Some g ↦ λ beside. ap (is_same_beside view old new v w f) (sym beside) ∙ sym (beside_is view old new f g v w is_old fits found beside None None None None first second tt tt refl refl)
          | None ↦ λ none. refl
        ] refl

    -- where each field is the same that has a content in either, all are
    pub same_of_all : ((n : ℕ) → same_at n ≡ false → of_number n v ≡ []) → ((n : ℕ) → same_at n ≡ false → of_number n w ≡ []) → outside_same ≡ is_same view old new v w
    same_of_all first second =
        search (rules, no_content, fields_are_found, list_all_each, each_weaker, same_is)
