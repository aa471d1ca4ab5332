-- The contents of an old message's fields: what they hold, that they are no longer than the message, and that of two that meet in one
-- oneof of the new type both together are no longer.
use Rattle.std.proofs.Common.{◌≡◌, ℕ, ◌+◌, ◌<◌, ◌≤◌, ◌≢◌, List, [], ◌∷◌, ◌++◌, length, map, filter, flat_map, true, false, not, nat_eq, cond, Some, None, ◌⊎◌, inl, inr, ⊎_elim, refl, ap, sym, ◌∙◌, subst, arith, eqb-true, ne_eqb, append-nil, length-append, rules}
use Rattle.std.specs.List.{AllByRecursion}
use Rattle.std.proofs.lemmas.Bool.{and_parts, and_from, cases_Bool, cases_lt}
use Rattle.pg_schema.specs.declared.parts.field.TypeId.{TypeId}
use Rattle.pg_schema.specs.Shape.{Shape, FieldShape, fields, field_at}
use Rattle.pg_schema.specs.ShapeRules.{IsField, IsType, IsShape, Rising, PresenceFits}
use Rattle.pg_wire.specs.Records.{WireRecord}
use Rattle.pg_dyn.specs.message.Message.{Message, ends, holds, nests, IsPlain, is_of}
use Rattle.pg_dyn.specs.word.Coding.{form}
use Rattle.pg_dyn.specs.reading.Content.{same_oneof, is_sibling}
use Rattle.pg_dyn.specs.encoding.Writing.{field_records, records_in, bytes_of}
use Rattle.pg_dyn.specs.encoding.Encoding.{encoded_parts, enc}
use Rattle.pg_dyn.specs.fitting.Belonging.{IsMessage}
use Rattle.pg_dyn.specs.views.Comparison.{View, Comparand, writes, comparands}
use Rattle.pg_dyn.specs.laws.ByComparands.{comparands_at}
use Rattle.pg_dyn.proofs.Lists.{each-filter, each_at, flat_map-append'}
use Rattle.pg_pairs.specs.gaps.Gaps.{body_length}
use Rattle.pg_pairs.specs.choices.Costs.{one_item, least_content}
use Rattle.pg_pairs.specs.choices.Choices.{joins}
use Rattle.pg_pairs.specs.inner.Contents.{total, Holds, IsInOrder}
use Rattle.pg_pairs.proofs.lemmas.bounds.Comparands.{costs, least_cost}
use Rattle.pg_pairs.proofs.lemmas.choices.Costs.{Costs}
use Rattle.pg_pairs.proofs.lemmas.bounds.Messages.{each_holds, field_holds, field_written, field_in_order}
use Rattle.pg_dyn.proofs.PublicLaws.{fields_are_found, one_is_empty, siblings_mutual, unknown_is_kept}

-- Lengths of the fields' contents.

module _ (recs : FieldShape → List WireRecord) where
  bytes_joined : (f : FieldShape) (fs : List FieldShape) → length (bytes_of (flat_map recs (f ∷ fs))) ≡ length (bytes_of (recs f)) + length (bytes_of (flat_map recs fs))
  bytes_joined f fs = search (rules, flat_map-append', flat_map, length-append)

  one_within : (fs : List FieldShape) (n : ℕ) (f : FieldShape) → field_at fs n ≡ Some f → length (bytes_of (recs f)) ≤ length (bytes_of (flat_map recs fs))
  one_within [] n f found = absurd (cc)
  one_within (x ∷ fs) n f found =
      elim (nat_eq x.number n) as (λ b. cond b (Some x) (field_at fs n) ≡ Some f → length (bytes_of (recs f)) ≤ length (bytes_of (flat_map recs (x ∷ fs)))) [
        | true ↦ λ k.
            let same : x ≡ f = cc in
            let all = bytes_joined x fs in
            let own : length (bytes_of (recs x)) ≡ length (bytes_of (recs f)) = ap (λ y. length (bytes_of (recs y))) same in
            omega arith
        | false ↦ λ k. let all = bytes_joined x fs in let rest = one_within fs n f k in omega arith
      ] found

  two_within : (fs : List FieldShape) → Rising fs → (m n : ℕ) (f g : FieldShape) → field_at fs m ≡ Some f → field_at fs n ≡ Some g → m < n → length (bytes_of (recs f)) + length (bytes_of (recs g)) ≤ length (bytes_of (flat_map recs fs))
  two_within [] rising m n f g found_f found_g below = absurd (cc)
  two_within (x ∷ fs) rising m n f g found_f found_g below =
      elim (nat_eq x.number m) as (λ b. nat_eq x.number m ≡ b → cond b (Some x) (field_at fs m) ≡ Some f → length (bytes_of (recs f)) + length (bytes_of (recs g)) ≤ length (bytes_of (flat_map recs (x ∷ fs)))) [
        | true ↦ λ e k.
            let same : x ≡ f = cc in
            let at = eqb-true x.number m e in
            let all = bytes_joined x fs in
            let own : length (bytes_of (recs x)) ≡ length (bytes_of (recs f)) = ap (λ y. length (bytes_of (recs y))) same in
            let rest = one_within fs n g (later n (λ at_n. absurd (omega arith)) found_g) in
            omega arith
        | false ↦ λ e k.
            let all = bytes_joined x fs in
            let above : x.number < f.number = each_at (λ h. x.number < h.number) fs m f k rising.0 in
            let number = fields_are_found.1 fs m f k in
            let rest = two_within fs rising.1 m n f g k (later n (λ at_n. absurd (omega arith)) found_g) below in
            omega arith
      ] refl found_f
    where
      later : (k : ℕ) → (x.number ≡ k → ⊥) → field_at (x ∷ fs) k ≡ Some g → field_at fs k ≡ Some g
      later k apart found = search (rules, eqb-true)

nonempty : {A : Type 0} (x : A) (xs ys : List A) → ys ≡ x ∷ xs → ys ≡ [] → ⊥
nonempty {A} x xs ys h k = let no : ◌≡◌ {A = List A} [] (x ∷ xs) = sym k ∙ h in cc

-- A field of a type keeps to the rules of presence.
pub field_fits : (shape : Shape) → IsShape shape → (type : TypeId) (n : ℕ) (f : FieldShape) → field_at (fields shape type) n ≡ Some f → PresenceFits f.presence f.element f.oneof
field_fits shape is_shape type n f found = (each_at (IsField (length shape)) (fields shape type) n f found (fields_are_found.0 shape type is_shape).each).presence_fits

HasField : List FieldShape → Comparand → Type 0
HasField fs c = (f : FieldShape) × (field_at fs c.number ≡ Some f)

module _ (view : View) (old new : Shape) (shape_old : IsShape old) (a b : TypeId) (v : Message) (is : IsMessage old a v) (plain : IsPlain v) where
  abbrev fs : List FieldShape
  fs = fields old a

  abbrev gs : List FieldShape
  gs = fields new b

  abbrev cs : List Comparand
  cs = comparands view old new a b v

  type_old : IsType (length old) fs
  type_old = fields_are_found.0 old a shape_old

  length_is : length (enc old a v) ≡ length (bytes_of (records_in fs (encoded_parts old a v)))
  unfolding enc
  length_is = ap (λ us. length (bytes_of (records_in fs (encoded_parts old a v)) ++ bytes_of us)) (unknown_is_kept.1 v plain) ∙ ap length (append-nil (bytes_of (records_in fs (encoded_parts old a v))))

  abbrev recs : FieldShape → List WireRecord
  recs f = field_records f (filter (is_of f.number) (encoded_parts old a v))

  own_total : (f : FieldShape) → length (bytes_of (recs f)) ≡ total f (comparands_at f.number cs)
  own_total f = ap (λ qs. length (bytes_of (field_records f qs))) (field_written view old new a b v f.number)

  -- A field's records are no longer than the encoding.
  pub total_within : (f : FieldShape) → field_at fs f.number ≡ Some f → total f (comparands_at f.number cs) ≤ length (enc old a v)
  total_within f found = let one = one_within recs fs f.number f found in let own = own_total f in omega (arith, one, own, length_is)

  pub holds_at : (f : FieldShape) → field_at fs f.number ≡ Some f → AllByRecursion (Holds f) (comparands_at f.number cs)
  holds_at f found = field_holds fs f f.number cs found (each_holds view old new a b type_old v is)

  pub order_at : (f : FieldShape) → field_at fs f.number ≡ Some f → IsInOrder f.presence (comparands_at f.number cs)
  order_at f found = field_in_order view old new a b v f shape_old is found (holds_at f found)

  pub costs_at : (f : FieldShape) → field_at fs f.number ≡ Some f → AllByRecursion (Costs f (total f (comparands_at f.number cs))) (comparands_at f.number cs)
  costs_at f found = costs (λ t bytes. None) f (field_fits old shape_old a f.number f found) (comparands_at f.number cs) (holds_at f found)

  least_within : (f : FieldShape) → field_at fs f.number ≡ Some f → (c : Comparand) (rest : List Comparand) → comparands_at f.number cs ≡ c ∷ rest → least_content f ≤ total f (comparands_at f.number cs)
  least_within f found c rest some =
      least_cost f (total f (comparands_at f.number cs)) c (subst (AllByRecursion (Holds f)) some (holds_at f found)).0
      (subst (AllByRecursion (λ d. (n : ℕ) → n ≤ body_length (form f.element) d.written → one_item f n ≤ total f (comparands_at f.number cs))) some (costs_at f found)).0

  each_has_field : (u : Message) → IsMessage old a u → AllByRecursion (HasField fs) (comparands view old new a b u)
  unfolding HasField
  each_has_field (ends unknown) h = tt
  each_has_field (holds number key leaf later) h = ((h.0.field, h.0.found), each_has_field later h.2)
  each_has_field (nests number key child later) h = ((h.0.field, h.0.found), each_has_field later h.4)

  -- the old field of a comparand
  pub comparand_field : (n : ℕ) (c : Comparand) (rest : List Comparand) → comparands_at n cs ≡ c ∷ rest → (f : FieldShape) × (field_at fs n ≡ Some f)
  unfolding HasField
  comparand_field n c rest some = search (rules, each-filter, each_has_field, eqb-true)

  pub not_in_old : (f e : FieldShape) → field_at fs f.number ≡ Some f → field_at fs e.number ≡ Some e → f.number ≢ e.number → (c d : Comparand) (xs ys : List Comparand) → comparands_at f.number cs ≡ c ∷ xs → comparands_at e.number cs ≡ d ∷ ys → same_oneof f.oneof e.oneof ≡ false
  not_in_old f e found_f found_e apart c d xs ys some_c some_d =
      ⊎_elim
      (λ one.
      let sibling : is_sibling f e ≡ true = and_from (same_oneof f.oneof e.oneof) (not (nat_eq f.number e.number)) one (ap not (ne_eqb f.number e.number apart)) in
      ⊎_elim
      (λ none. absurd (nonempty (writes c) (map writes xs) (filter (is_of f.number) (encoded_parts old a v)) (field_written view old new a b v f.number ∙ ap (map writes) some_c) none))
      (λ none. absurd (nonempty (writes d) (map writes ys) (filter (is_of e.number) (encoded_parts old a v)) (field_written view old new a b v e.number ∙ ap (map writes) some_d) none))
      (one_is_empty old a v f e shape_old is found_f found_e sibling))
      (λ not_one. not_one)
      (cases_Bool (same_oneof f.oneof e.oneof))

  -- Two fields with content in one new oneof aren't in one old oneof, and cost no more than the message.
  pub record Meets (f e : FieldShape) : Type 0 where
    pub first : field_at fs f.number ≡ Some f
    pub second : field_at fs e.number ≡ Some e
    pub rise : f.number < e.number
    pub joined : joins gs f e ≡ true
    pub first_held : comparands_at f.number cs ≡ [] → ⊥
    pub second_held : comparands_at e.number cs ≡ [] → ⊥
    pub cheap : least_content f + least_content e ≤ length (enc old a v)

  pub meeting : (f e g h : FieldShape) → field_at fs f.number ≡ Some f → field_at fs e.number ≡ Some e → field_at gs f.number ≡ Some g → field_at gs e.number ≡ Some h → same_oneof g.oneof h.oneof ≡ true → same_oneof f.oneof e.oneof ≡ false → f.number < e.number → (c d : Comparand) (xs ys : List Comparand) → comparands_at f.number cs ≡ c ∷ xs → comparands_at e.number cs ≡ d ∷ ys → Meets f e
  meeting f e g h found_f found_e at_g at_h one not_old below c d xs ys some_c some_d =
      let both = two_within recs fs type_old.rising f.number e.number f e found_f found_e below in
      let first = least_within f found_f c xs some_c in
      let second = least_within e found_e d ys some_d in
      record {
        first = found_f;
        second = found_e;
        rise = below;
        joined = rw (not_old, at_g, at_h, one);
        first_held = nonempty c xs (comparands_at f.number cs) some_c;
        second_held = nonempty d ys (comparands_at e.number cs) some_d;
        cheap = omega (arith, both, own_total f, own_total e, length_is, first, second);
      }

  module _ (Goal : Type 0) (found : (f e : FieldShape) → Meets f e → Goal) where
    meet : (g h : FieldShape) → field_at gs g.number ≡ Some g → field_at gs h.number ≡ Some h → is_sibling g h ≡ true → (c d : Comparand) (xs ys : List Comparand) → comparands_at g.number cs ≡ c ∷ xs → comparands_at h.number cs ≡ d ∷ ys → Goal
    meet g h at_g at_h sibling c d xs ys some_c some_d = search (rules, of, comparand_field)
      where
        of : (f : FieldShape) × (field_at fs g.number ≡ Some f) → (e : FieldShape) × (field_at fs h.number ≡ Some e) → Goal
        of (f, found_f) (e, found_e) =
            let same_f : f.number ≡ g.number = fields_are_found.1 fs g.number f found_f in
            let same_e : e.number ≡ h.number = fields_are_found.1 fs h.number e found_e in
            let apart : f.number ≢ e.number = λ equal. siblings_mutual.2 g h sibling (sym same_f ∙ equal ∙ same_e) in
            let one = (and_parts (same_oneof g.oneof h.oneof) (not (nat_eq g.number h.number)) sibling).0 in
            let own_f : field_at fs f.number ≡ Some f = ap (field_at fs) same_f ∙ found_f in
            let own_e : field_at fs e.number ≡ Some e = ap (field_at fs) same_e ∙ found_e in
            let new_g : field_at gs f.number ≡ Some g = ap (field_at gs) same_f ∙ at_g in
            let new_h : field_at gs e.number ≡ Some h = ap (field_at gs) same_e ∙ at_h in
            let comparands_f : comparands_at f.number cs ≡ c ∷ xs = ap (λ n. comparands_at n cs) same_f ∙ some_c in
            let comparands_e : comparands_at e.number cs ≡ d ∷ ys = ap (λ n. comparands_at n cs) same_e ∙ some_d in
            ⊎_elim
            (λ below. found f e (meeting f e g h own_f own_e new_g new_h one (not_in_old f e own_f own_e apart c d xs ys comparands_f comparands_e) below c d xs ys comparands_f comparands_e))
            (λ above.
            found e f (meeting e f h g own_e own_f new_h new_g (siblings_mutual.0 g.oneof h.oneof one) (not_in_old e f own_e own_f (λ equal. apart (sym equal)) d c ys xs comparands_e comparands_f)
            (omega arith) d c ys xs comparands_e comparands_f))
            (cases_lt f.number e.number)

    -- Of two fields of one new oneof one has no content.
    pub none_meet_or : (g h : FieldShape) → field_at gs g.number ≡ Some g → field_at gs h.number ≡ Some h → is_sibling g h ≡ true → ((comparands_at g.number cs ≡ []) ⊎ (comparands_at h.number cs ≡ [])) ⊎ Goal
    none_meet_or g h at_g at_h sibling = of (comparands_at g.number cs) (comparands_at h.number cs) refl refl
      where
        of : (xs ys : List Comparand) → comparands_at g.number cs ≡ xs → comparands_at h.number cs ≡ ys → ((comparands_at g.number cs ≡ []) ⊎ (comparands_at h.number cs ≡ [])) ⊎ Goal
        of [] ys none some = inl (inl none)
        of (c ∷ xs) [] some none = inl (inr none)
        of (c ∷ xs) (d ∷ ys) some_c some_d = inr (meet g h at_g at_h sibling c d xs ys some_c some_d)
