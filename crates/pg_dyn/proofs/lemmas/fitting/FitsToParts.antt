-- A message that fits has parts that fit their fields, in order, and no two are of members of one oneof.
use Rattle.std.proofs.Common.{◌≡◌, ◌≢◌, ℕ, ◌<◌, List, [], ◌∷◌, ◌++◌, length, map, false, Option, Some, refl, ap, sym, subst, ◌∙◌, arith, ⊎_elim}
use Rattle.std.specs.List.{AllByRecursion}
use Rattle.pg_schema.specs.declared.parts.field.TypeId.{TypeId}
use Rattle.pg_schema.specs.declared.parts.field.Element.{Element}
use Rattle.pg_schema.specs.declared.parts.field.Element.TheVariants as elements
use Rattle.pg_schema.specs.Shape.{Shape, FieldShape, fields, field_at}
use Rattle.pg_schema.specs.ShapeRules.{ElementFits, IsField, IsShape}
use Rattle.pg_wire.specs.Records.{WireRecord}
use Rattle.pg_dyn.specs.encoding.Encoding.{child_type}
use Rattle.pg_dyn.specs.fitting.Belonging.{ComesBefore, IsMessage, IsPart, IsUnknown, KeyFits, MayFollow}
use Rattle.pg_dyn.specs.fitting.ContentFits.{AreApart, NoneSiblings}
use Rattle.pg_dyn.specs.fitting.Fits.{Fits, is_listed, is_listed_by, is_string_by}
use Rattle.pg_dyn.specs.fitting.PartsFit.{FieldHolds, HoldsItem}
use Rattle.pg_dyn.specs.message.Kept.{Kept, ends, message_of, type_of}
use Rattle.pg_dyn.specs.message.KeptParts.{AreOf, KeptItem, Plain, Msg}
use Rattle.pg_dyn.specs.message.Message.{Leaf, Part, Place, place_of, places}
use Rattle.pg_dyn.specs.message.Replacing.{all_parts, kept_onto, kept_part}
use Rattle.pg_dyn.specs.reading.Content.{is_sibling}
use Rattle.pg_dyn.proofs.Lists.{each_after, each_at, each_before, each_unmapped, each_weaker}
use Rattle.pg_dyn.proofs.lemmas.fitting.Belonging.{child_type_is, fields-IsType}
use Rattle.pg_dyn.proofs.lemmas.fitting.PartsToFits.{HoldsParts, NotSibling, Whole, places_kept}
use Rattle.pg_dyn.proofs.lemmas.message.ReplacingLaws.{kept_onto-append, type_of-kept_onto}
use Rattle.pg_dyn.proofs.lemmas.reading.gathered.GoodRecords.{same_found}
use Rattle.pg_dyn.proofs.lemmas.reading.records.Splitting.{found_number}

module _ (shape : Shape) (type : TypeId) (is_shape : IsShape shape) where
  -- the part in front, and those after it
  pub part_back : (n : ℕ) (k : Option Leaf) (item : KeptItem) (later : Kept) → type_of later ≡ type → Whole shape type (kept_part n k item later)
      → (part : IsPart (fields shape type) n k (places (message_of later))) × HoldsItem shape part.field item × Whole shape type later
  part_back n k (Plain manner leaf) later same h =
      let part = h.0.0 in
      let list = sym (ap (λ t. is_listed (fields shape t) n) same ∙ ap is_listed_by part.found) ∙ h.1.0 in
      let text = h.1.1 ∙ ap (λ t. is_string_by (field_at (fields shape t) n)) same ∙ ap is_string_by part.found in
      (part, (list, text, h.0.1), (h.0.2, h.1.2))
  part_back n k (Msg listed child) later same h =
      let part = h.0.0 in
      let t = h.0.1 in
      let is : part.field.element ≡ elements.Message t = h.0.2 in
      let list = sym (ap (λ u. is_listed (fields shape u) n) same ∙ ap is_listed_by part.found) ∙ h.1.0 in
      let of_type : type_of child ≡ t = sym h.1.1 ∙ ap (λ x. child_type (fields shape x) n) same ∙ child_type_is (fields shape type) n part.field t part.found is in
      let there : t.index < length shape = subst (λ (e : Element). ElementFits (length shape) e) is (each_at (IsField (length shape)) (fields shape type) n part.field part.found (fields-IsType shape type is_shape).each).element_fits in
      let fits : Fits shape child = record {
        type_is_there = subst (λ (x : TypeId). x.index < length shape) (sym of_type) there;
        is_message = subst (λ x. IsMessage shape x (message_of child)) (sym of_type) h.0.3;
        parts_agree = h.1.2;
      } in
      (part, (list, fits, is ∙ ap elements.Message (sym of_type)), (h.0.4, h.1.3))

  -- The parts of one field in front.

  follow : (n : ℕ) (f : FieldShape) → n ≡ f.number → (k : Option Leaf) (ps : List (Part KeptItem)) (rest : List Place) → AreOf n ps
      → ComesBefore f k (map place_of ps ++ rest) → AllByRecursion (λ (q : Part KeptItem). MayFollow f.presence k q.key) ps
  follow n f number k [] rest own h = tt
  follow n f number k (q ∷ qs) rest own h =
      (⊎_elim (λ (low : f.number < q.number). absurd (omega (arith, low, number, own.0))) (λ same. same.1) h.0, follow n f number k qs rest own.1 h.1)

  field_back : (n : ℕ) (f : FieldShape) → field_at (fields shape type) n ≡ Some f → (ps : List (Part KeptItem)) (later : Kept) → type_of later ≡ type → AreOf n ps
      → Whole shape type (kept_onto ps later) → FieldHolds shape f ps × Whole shape type later
  field_back n f found [] later same own h = (record { each = tt; in_order = tt }, h)
  field_back n f found (p ∷ ps) later same own h =
      let (part, item, rest) = part_back p.number p.key p.item (kept_onto ps later) (type_of-kept_onto ps later ∙ same) h in
      let more = field_back n f found ps later same own.1 rest in
      let is : part.field ≡ f = same_found part.field f (sym part.found ∙ ap (field_at (fields shape type)) own.0 ∙ found) in
      let number : n ≡ f.number = sym (found_number (fields shape type) n f found) in
      let before = subst (λ (g : FieldShape). ComesBefore g p.key (map place_of ps ++ places (message_of later))) is
      (subst (ComesBefore part.field p.key) (places_kept ps later) part.before) in (
        record {
          each = (
            record {
              number_is = own.0 ∙ number;
              key_fits = subst (λ (g : FieldShape). KeyFits g.presence p.key) is part.key_fits;
              item = subst (λ (g : FieldShape). HoldsItem shape g p.item) is item;
            },
            more.0.each,
          );
          in_order = (follow n f number p.key ps (places (message_of later)) own.1 before, more.0.in_order);
        },
        more.1,
      )

  -- so with the field, where there is a part
  some_back : (n : ℕ) (ps : List (Part KeptItem)) (later : Kept) → type_of later ≡ type → ps ≢ [] → AreOf n ps → Whole shape type (kept_onto ps later)
      → (f : FieldShape) × (field_at (fields shape type) n ≡ Some f) × FieldHolds shape f ps
      × AllByRecursion (λ (p : Place). NotSibling shape type f p.number) (places (message_of later)) × Whole shape type later
  some_back n [] later same some own h = absurd (some refl)
  some_back n (p ∷ ps) later same some own h =
      let part = (part_back p.number p.key p.item (kept_onto ps later) (type_of-kept_onto ps later ∙ same) h).0 in
      let found = ap (field_at (fields shape type)) (sym own.0) ∙ part.found in
      let back = field_back n part.field found (p ∷ ps) later same own h in
      let alone = subst (AllByRecursion (λ (q : Place). NotSibling shape type part.field q.number)) (places_kept ps later) part.alone in
      (part.field, found, back.0, each_after (λ (q : Place). NotSibling shape type part.field q.number) (map place_of ps) (places (message_of later)) alone, back.1)

-- Contents, of which it is only known which parts they show.
module _ {C : Type 0} (seen : ℕ → C → List (Part KeptItem)) (numbered : (n : ℕ) (c : C) → AreOf n (seen n c)) where
  -- what holds of the parts' numbers holds of the contents', each of which has a part
  numbers_back : (Q : ℕ → Type 0) (cs : List (ℕ × C)) → AllByRecursion (λ (c : ℕ × C). seen c.0 c.1 ≢ []) cs
      → AllByRecursion (λ (p : Part KeptItem). Q p.number) (all_parts seen cs) → AllByRecursion (λ (c : ℕ × C). Q c.0) cs
  numbers_back Q [] there h = tt
  numbers_back Q (c ∷ cs) there h = (
    first (seen c.0 c.1) there.0 (numbered c.0 c.1) (each_before (λ (p : Part KeptItem). Q p.number) (seen c.0 c.1) (all_parts seen cs) h),
    numbers_back Q cs there.1 (each_after (λ (p : Part KeptItem). Q p.number) (seen c.0 c.1) (all_parts seen cs) h),
  )
    where
      first : (ps : List (Part KeptItem)) → ps ≢ [] → AreOf c.0 ps → AllByRecursion (λ (p : Part KeptItem). Q p.number) ps → Q c.0
      first [] some own k = absurd (some refl)
      first (p ∷ ps) some own k = subst Q own.0 k.0

  pub contents_back : (shape : Shape) (type : TypeId) → IsShape shape → (cs : List (ℕ × C)) (us : List WireRecord) → AllByRecursion (λ (c : ℕ × C). seen c.0 c.1 ≢ []) cs
      → Whole shape type (kept_onto (all_parts seen cs) (ends type us))
      → AllByRecursion (HoldsParts seen shape type) cs × NoneSiblings (fields shape type) cs × AllByRecursion (IsUnknown (fields shape type)) us
  contents_back shape type is_shape [] us there h = (tt, tt, h.0)
  contents_back shape type is_shape (c ∷ cs) us there h =
      let later = kept_onto (all_parts seen cs) (ends type us) in
      let front = subst (Whole shape type) (kept_onto-append (seen c.0 c.1) (all_parts seen cs) (ends type us)) h in
      let (f, found, holds, alone, whole) =
      some_back shape type is_shape c.0 (seen c.0 c.1) later (type_of-kept_onto (all_parts seen cs) (ends type us)) there.0 (numbered c.0 c.1) front in
      let rest = contents_back shape type is_shape cs us there.1 whole in
      let after = each_before (λ (p : Place). NotSibling shape type f p.number) (map place_of (all_parts seen cs)) []
      (subst (AllByRecursion (λ (p : Place). NotSibling shape type f p.number)) (places_kept (all_parts seen cs) (ends type us)) alone) in
      let apart = each_weaker (λ (l : ℕ × C). NotSibling shape type f l.0) (λ (l : ℕ × C). AreApart (fields shape type) c.0 l.0)
      (λ l none g j at is_there. subst (λ x. is_sibling x j ≡ false) (same_found f g (sym found ∙ at)) (none j is_there)) cs
      (numbers_back (NotSibling shape type f) cs there.1 (each_unmapped (λ (p : Place). NotSibling shape type f p.number) place_of (all_parts seen cs) after)) in
      ((record { field = f; found = found; holds = holds }, rest.0), (apart, rest.1), rest.2)
