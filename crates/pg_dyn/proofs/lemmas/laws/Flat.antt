-- The parts of a message, with the bytes of each child for it, are read again from the records that are written of them.
use Rattle.std.proofs.Common.{◌≡◌, ◌≢◌, ℕ, ◌+◌, ◌^◌, ◌<◌, ◌≤◌, ◌⊎◌, inl, ⊎_elim, List, [], ◌∷◌, ◌++◌, map, filter, flat_map, length, Bool, true, false, ◌&&◌, nat_eq, Option, Some, Ok, refl, ap, ap₂, sym, ◌∙◌, arith, eq-eqb, ne_eqb, append-nil, length-append, rules, cond, subst}
use Rattle.std.specs.Bool.{⊤}
use Rattle.std.specs.List.{AllByRecursion, list_any}
use Rattle.std.proofs.lemmas.Bool.{eqb-true, and_parts, and_from, not_from_true, not-true}
use Rattle.pg_schema.specs.Shape.{FieldShape, field_at}
use Rattle.pg_schema.specs.ShapeRules.{IsField, IsType}
use Rattle.pg_wire.specs.Records.{WireRecord, IsRecord, records_of}
use Rattle.pg_wire.proofs.RecordLaws.{records_of_Spells}
use Rattle.pg_dyn.specs.reading.Optional.{after_last_of}
use Rattle.pg_dyn.specs.message.Message.{Leaf, Part, Place, place_of, is_of}
use Rattle.pg_dyn.specs.reading.Content.{is_accepted, takes, is_unknown, same_oneof, is_sibling, counted, content}
use Rattle.pg_dyn.specs.encoding.Writing.{field_records, records_in, bytes_of}
use Rattle.pg_dyn.specs.fitting.Belonging.{MayFollow, ComesBefore, IsAlone, IsUnknown}
use Rattle.pg_dyn.specs.laws.Laws.{of_number}
use Rattle.pg_dyn.proofs.Lists.{each_weaker, each_of_all, each_both, each-append, each-flat_map, each_swap, filter_all, filter_none, filter-append', filtered_out, flat_map-append', list_any_none, none_list_any, after_last_of_none, filter-after_last_of_none, filter-filter_weaker, each_at, list_any_at}
use Rattle.pg_dyn.specs.laws.OwnParts.{FitsField, Ordered, ShortBodies}
use Rattle.pg_dyn.proofs.lemmas.reading.Fields.{IsOwn, each_own, content_again}
use Rattle.pg_dyn.proofs.lemmas.reading.records.Splitting.{each_found, field_records_none, records_of_number, takes_number}

-- a part of a field of this type, before those later parts
pub record FlatPart (fs : List FieldShape) (p : Part Leaf) (later : List Place) : Type 0 where
  pub field : FieldShape
  pub found : field_at fs p.number ≡ Some field
  pub fits : FitsField field.number field.presence field.element p
  pub before : ComesBefore field p.key later
  pub alone : IsAlone fs field later

abbrev pub FlatParts : List FieldShape → List (Part Leaf) → Type 0
FlatParts fs [] = ⊤
FlatParts fs (p ∷ ps) = FlatPart fs p (map place_of ps) × FlatParts fs ps

pub record IsFlat (types : ℕ) (fs : List FieldShape) (ps : List (Part Leaf)) (us : List WireRecord) : Type 0 where
  pub type : IsType types fs
  pub parts : FlatParts fs ps
  pub unknown : AllByRecursion (IsUnknown fs) us
  pub short : length (bytes_of (records_in fs ps)) < 2 ^ 64

-- what is known of each field
abbrev pub Known : ℕ → List FieldShape → FieldShape → Type 0
Known types fs f = (field_at fs f.number ≡ Some f) × IsField types f

pub each_known : (types : ℕ) (fs : List FieldShape) → IsType types fs → AllByRecursion (Known types fs) fs
each_known types fs h = each_both (λ f. field_at fs f.number ≡ Some f) (IsField types) fs (each_found fs h.rising) h.each

-- The parts of one field.

module _ (fs : List FieldShape) (f : FieldShape) (found : field_at fs f.number ≡ Some f) where
  own_field : (p : Part Leaf) (later : List Place) → (part : FlatPart fs p later) → p.number ≡ f.number → part.field ≡ f
  own_field p later part at = search rules

  pub each_fits : (ps : List (Part Leaf)) → FlatParts fs ps → AllByRecursion (FitsField f.number f.presence f.element) (filter (is_of f.number) ps)
  each_fits [] h = tt
  each_fits (p ∷ ps) h = search (rules, own_field, eqb-true, each_fits ps h.1)

  follow : (k : Option Leaf) (ps : List (Part Leaf)) → ComesBefore f k (map place_of ps) → AllByRecursion (λ r. MayFollow f.presence k r.key) (filter (is_of f.number) ps)
  follow k [] h = tt
  follow k (p ∷ ps) h = search (rules, arith, eqb-true, follow k ps h.1)

  pub in_order : (ps : List (Part Leaf)) → FlatParts fs ps → Ordered f.presence (filter (is_of f.number) ps)
  in_order [] h = tt
  in_order (p ∷ ps) h =
      elim (nat_eq p.number f.number) as (λ b. nat_eq p.number f.number ≡ b → Ordered f.presence (cond b (p ∷ filter (is_of f.number) ps) (filter (is_of f.number) ps))) [
        | true ↦ λ e.
            (follow p.key ps (subst (λ (g : FieldShape). ComesBefore g p.key (map place_of ps)) (own_field p (map place_of ps) h.0 (eqb-true p.number f.number e)) h.0.before), in_order ps h.1)
        | false ↦ λ e. in_order ps h.1
      ] refl

-- Two members of a oneof don't both have parts.

pub same_oneof_sym : (a b : Option ℕ) → same_oneof a b ≡ true → same_oneof b a ≡ true
same_oneof_sym a b h = grind (arith, eq-eqb, eqb-true)

pub sibling_apart : (f g : FieldShape) → is_sibling f g ≡ true → f.number ≢ g.number
sibling_apart f g h e = search (rules, not-true, and_parts, eq-eqb)

pub is_sibling_sym : (f g : FieldShape) → is_sibling f g ≡ true → is_sibling g f ≡ true
is_sibling_sym f g h = search (rules, and_from, same_oneof_sym, and_parts, ne_eqb, sibling_apart)

module _ (fs : List FieldShape) where
  -- a field that stands alone before parts has no sibling among them
  no_sibling_later : (f g : FieldShape) → field_at fs g.number ≡ Some g → is_sibling f g ≡ true → (ps : List (Part Leaf)) → IsAlone fs f (map place_of ps) → filter (is_of g.number) ps ≡ []
  no_sibling_later f g found sibling [] alone = refl
  no_sibling_later f g found sibling (p ∷ ps) alone =
      search (rules, eqb-true, no_sibling_later f g found sibling ps alone.1)

  pub one_is_empty : (f g : FieldShape) → field_at fs f.number ≡ Some f → field_at fs g.number ≡ Some g → is_sibling f g ≡ true → (ps : List (Part Leaf)) → FlatParts fs ps → (filter (is_of f.number) ps ≡ []) ⊎ (filter (is_of g.number) ps ≡ [])
  one_is_empty f g found_f found_g sibling [] h = inl refl
  one_is_empty f g found_f found_g sibling (p ∷ ps) h =
      search (
        rules,
        eqb-true,
        one_is_empty f g found_f found_g sibling ps h.1,
        ne_eqb,
        sibling_apart,
        no_sibling_later,
        own_field,
        is_sibling_sym,
      )

takes_own : (f : FieldShape) (r : WireRecord) → IsOwn f r → takes f r ≡ true
takes_own f r own = and_from (nat_eq r.number f.number) (is_accepted f r) (eq-eqb r.number f.number own.number_is) own.accepted

-- no field takes an unknown record
pub unknown_not_taken : (fs : List FieldShape) (u : WireRecord) → IsUnknown fs u → AllByRecursion (λ g. takes g u ≡ false) fs
unknown_not_taken fs u h = none_list_any (λ g. takes g u) fs (not-true (list_any (λ g. takes g u) fs) h.not_accepted)

module _ (types : ℕ) (fs : List FieldShape) (ps : List (Part Leaf)) (us : List WireRecord) (flat : IsFlat types fs ps us) where
  -- the records that are written of a field
  abbrev pub own_records : FieldShape → List WireRecord
  own_records f = field_records f (filter (is_of f.number) ps)

  pub own_each : (f : FieldShape) → Known types fs f → AllByRecursion (IsOwn f) (own_records f)
  own_each f known = each_own f known.1.presence_fits (filter (is_of f.number) ps) (each_fits fs f known.0 ps flat.parts)

  -- The records that a field takes are those that were written of it.
  taken : (f : FieldShape) → Known types fs f → filter (takes f) (records_in fs ps ++ us) ≡ own_records f
  taken f known =
      filter-append' (takes f) (records_in fs ps) us
      ∙ ap₂ (λ xs ys. xs ++ ys)
      (sym (filter-filter_weaker (of_number f.number) (takes f) (takes_number f) (records_in fs ps))
      ∙ ap (filter (takes f)) (records_of_number ps fs f.number f flat.type.rising known.0)
      ∙ filter_all (takes f) (own_records f) (each_weaker (IsOwn f) (λ r. takes f r ≡ true) (takes_own f) (own_records f) (own_each f known)))
      (filter_none (takes f) us (each_weaker (IsUnknown fs) (λ u. takes f u ≡ false) (λ u h. each_at (λ g. takes g u ≡ false) fs f.number f known.0 (unknown_not_taken fs u h)) us flat.unknown))
      ∙ append-nil (own_records f)

  -- Where a field has content, no sibling takes a record.
  siblings_none : (f : FieldShape) → Known types fs f → (filter (is_of f.number) ps ≡ [] → ⊥) → (g : FieldShape) → Known types fs g → AllByRecursion (λ r. (is_sibling f g && takes g r) ≡ false) (records_in fs ps ++ us)
  siblings_none f known some g known_g =
      elim (is_sibling f g) as (λ b. is_sibling f g ≡ b → AllByRecursion (λ r. (b && takes g r) ≡ false) (records_in fs ps ++ us)) [
        | true ↦ λ sibling.
            filtered_out (takes g) (records_in fs ps ++ us)
            (taken g known_g
            ∙ ap (field_records g) (⊎_elim (λ none. absurd (some none)) (λ none. none) (one_is_empty fs f g known.0 known_g.0 sibling ps flat.parts))
            ∙ field_records_none g)
        | false ↦ λ sibling. each_of_all (λ r. false ≡ false) (λ r. refl) (records_in fs ps ++ us)
      ] refl

  -- The records that count for a field are those that were written of it.
  pub counted_again : (f : FieldShape) → Known types fs f → counted fs f (records_in fs ps ++ us) ≡ own_records f
  counted_again f known = go (filter (is_of f.number) ps) refl
    where
      test : WireRecord → Bool
      test r = list_any (λ g. is_sibling f g && takes g r) fs

      nil_or_cons : (q : Part Leaf) (qs : List (Part Leaf)) → [] ≡ q ∷ qs → ⊥
      nil_or_cons q qs e = cc

      go : (qs : List (Part Leaf)) → filter (is_of f.number) ps ≡ qs → filter (takes f) (after_last_of test (records_in fs ps ++ us)) ≡ own_records f
      go [] none =
          let empty : own_records f ≡ [] = ap (field_records f) none ∙ field_records_none f in
          filter-after_last_of_none (takes f) test (records_in fs ps ++ us) (filtered_out (takes f) (records_in fs ps ++ us) (taken f known ∙ empty)) ∙ sym empty
      go (q ∷ qs) some =
          let each_pair : AllByRecursion (λ g. AllByRecursion (λ r. (is_sibling f g && takes g r) ≡ false) (records_in fs ps ++ us)) fs =
          each_weaker (Known types fs) (λ g. AllByRecursion (λ r. (is_sibling f g && takes g r) ≡ false) (records_in fs ps ++ us))
          (siblings_none f known (λ none. nil_or_cons q qs (sym none ∙ some))) fs (each_known types fs flat.type) in
          let each_record = each_swap (λ g r. (is_sibling f g && takes g r) ≡ false) fs (records_in fs ps ++ us) each_pair in
          let none : list_any test (records_in fs ps ++ us) ≡ false =
          list_any_none test (records_in fs ps ++ us)
          (each_weaker (λ r. AllByRecursion (λ g. (is_sibling f g && takes g r) ≡ false) fs) (λ r. test r ≡ false) (λ r h. list_any_none (λ g. is_sibling f g && takes g r) fs h) (records_in fs ps ++ us) each_record) in
          ap (filter (takes f)) (after_last_of_none test (records_in fs ps ++ us) none) ∙ taken f known

  -- The unknown records are read again as unknown.
  pub unknown_again : filter (is_unknown fs) (records_in fs ps ++ us) ≡ us
  unknown_again =
      filter-append' (is_unknown fs) (records_in fs ps) us
      ∙ ap₂ (λ xs ys. xs ++ ys)
      (filter_none (is_unknown fs) (records_in fs ps)
      (each-flat_map (λ r. is_unknown fs r ≡ false) own_records fs
      (each_weaker (Known types fs) (λ f. AllByRecursion (λ r. is_unknown fs r ≡ false) (own_records f))
      (λ f known. each_weaker (IsOwn f) (λ r. is_unknown fs r ≡ false)
      (λ r own. not_from_true (list_any (λ g. takes g r) fs) (list_any_at (λ g. takes g r) fs f.number f known.0 (takes_own f r own))) (own_records f) (own_each f known))
      fs (each_known types fs flat.type))))
      (filter_all (is_unknown fs) us (each_weaker (IsUnknown fs) (λ u. is_unknown fs u ≡ true) (λ u h. h.not_accepted) us flat.unknown))

  -- Each record has a body of a length that a varint can say.

  pub own_within : (gs : List FieldShape) → AllByRecursion (λ f. length (bytes_of (own_records f)) ≤ length (bytes_of (flat_map own_records gs))) gs
  own_within [] = tt
  own_within (g ∷ gs) =
      search (rules, arith, flat_map-append', length-append, each_weaker, own_within gs)

  short_bodies : (f : FieldShape) (rs : List WireRecord) → AllByRecursion (IsOwn f) rs → length (bytes_of rs) < 2 ^ 64 → ShortBodies rs
  short_bodies f [] own h = tt
  short_bodies f (r ∷ rs) own h = search (rules, arith, length-append, short_bodies f rs own.1)

  -- what is known of each field's records
  pub own_short : AllByRecursion (λ f. ShortBodies (own_records f)) fs
  own_short =
      each_weaker (λ f. Known types fs f × (length (bytes_of (own_records f)) ≤ length (bytes_of (records_in fs ps)))) (λ f. ShortBodies (own_records f))
      (λ f h. short_bodies f (own_records f) (own_each f h.0) (omega (arith, h.1, flat.short)))
      fs (each_both (Known types fs) (λ f. length (bytes_of (own_records f)) ≤ length (bytes_of (records_in fs ps))) fs (each_known types fs flat.type) (own_within fs))

  -- The content of each field is read again.
  pub contents_again : AllByRecursion (λ f. content f (counted fs f (records_in fs ps ++ us)) ≡ Some (filter (is_of f.number) ps)) fs
  contents_again =
      each_weaker (λ f. Known types fs f × ShortBodies (own_records f)) (λ f. content f (counted fs f (records_in fs ps ++ us)) ≡ Some (filter (is_of f.number) ps))
      (λ f h. rw (counted_again f h.0) (content_again f h.0.1.presence_fits (filter (is_of f.number) ps) (each_fits fs f h.0.0 ps flat.parts) (in_order fs f h.0.0 ps flat.parts) h.1))
      fs (each_both (Known types fs) (λ f. ShortBodies (own_records f)) fs (each_known types fs flat.type) own_short)

  each_record : (f : FieldShape) (rs : List WireRecord) → IsField types f → AllByRecursion (IsOwn f) rs → ShortBodies rs → AllByRecursion IsRecord rs
  each_record f [] field own short = tt
  each_record f (r ∷ rs) field own short = (own.0.is_record field.number_above field.number_below short.0, each_record f rs field own.1 short.1)

  -- What is written is read as just these records.
  pub records_again : records_of (bytes_of (records_in fs ps) ++ bytes_of us) ≡ Ok (records_in fs ps ++ us)
  records_again =
      records_of_Spells (bytes_of (records_in fs ps) ++ bytes_of us) (records_in fs ps ++ us)
      (record {
        joined = sym (flat_map-append' (λ (r : WireRecord). r.bytes) (records_in fs ps) us);
        each = each-append IsRecord (records_in fs ps) us
            (each-flat_map IsRecord own_records fs
            (each_weaker (λ f. Known types fs f × ShortBodies (own_records f)) (λ f. AllByRecursion IsRecord (own_records f))
            (λ f h. each_record f (own_records f) h.0.1 (own_each f h.0) h.1)
            fs (each_both (Known types fs) (λ f. ShortBodies (own_records f)) fs (each_known types fs flat.type) own_short)))
            (each_weaker (IsUnknown fs) IsRecord (λ u h. h.is_record) us flat.unknown);
      })
