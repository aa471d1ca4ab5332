-- A message that holds the field holds no other member, and one that holds another holds no further one.
use Rattle.std.proofs.Common.{◌≡◌, ◌<◌, ℕ, true, pos, List, [], ◌∷◌, length, get_or, Some, map, not, ap, sym, subst, ◌∙◌}
use Rattle.pg_schema.specs.declared.parts.field.TypeId.{TypeId}
use Rattle.pg_schema.specs.declared.parts.Parts.{Parts}
use Rattle.pg_schema.specs.Invariant.{IsSchema}
use Rattle.pg_schema.specs.Parts.{field_shape, shape_of}
use Rattle.pg_schema.specs.Shape.{FieldShape, fields, field_at}
use Rattle.pg_wire.specs.Records.{WireRecord}
use Rattle.pg_dyn.specs.declared.message.Content.{Content}
use Rattle.pg_dyn.specs.declared.message.Content.TheVariants as contents
use Rattle.pg_dyn.specs.declared.message.Value.TheVariants as values
use Rattle.pg_dyn.specs.message.FieldList.{remove_field}
use Rattle.pg_dyn.specs.fitting.Fits.{Fits}
use Rattle.pg_dyn.specs.message.Kept.{Kept, type_of}
use Rattle.pg_dyn.specs.message.Replacing.{is_sibling_number, without_siblings}
use Rattle.pg_dyn.specs.message.Seen.{HasKeys, IsFilled, Rises, record_seen}
use Rattle.std.specs.List.{AllByRecursion}
use Rattle.pg_dyn.proofs.lemmas.reading.TypeFields.{rising}
use Rattle.pg_dyn.proofs.lemmas.fitting.FitsByContents.{contents_from_fits}
use Rattle.pg_dyn.proofs.lemmas.setting.HeldAlone.{alone_out, held_alone}
use Rattle.pg_dyn.proofs.Lists.{filter_all}
use Rattle.pg_dyn.proofs.lemmas.setting.MembersOut.{all_stay, sibling_out}
use Rattle.pg_dyn.proofs.lemmas.message.ReplacingLaws.{shown, type_shown}
use Rattle.pg_dyn.proofs.lemmas.reading.records.Splitting.{found_number}
use Rattle.pg_dyn.proofs.lemmas.setting.WithoutSiblings.{cleared_shown, sibling_found}
use Rattle.pg_dyn.proofs.message.Message.held_siblings.Goals as goal

-- there is a content under the number
abbrev Holds : ℕ → List (ℕ × Content) → Type 0
Holds n cs = (i : ℕ) × (i < length cs) × ((d : ℕ × Content) → (get_or cs i d).0 ≡ n)

module _ (parts : Parts) (is_schema : IsSchema parts) (type : TypeId) (cs : List (ℕ × Content)) (us : List WireRecord) (m : Kept) (view : shown type cs us ≡ m) (rises : Rises cs)
    (filled : AllByRecursion (λ (x : ℕ × Content). IsFilled x.1) cs) (keys : AllByRecursion (λ (x : ℕ × Content). HasKeys x.1) cs) (fits : Fits (shape_of parts) m) (f : FieldShape)
    (found : field_at (fields (shape_of parts) type) f.number ≡ Some f) where
  own_alone : Holds f.number cs → without_siblings [] f m ≡ without_siblings (fields (shape_of parts) type) f m
  own_alone h =
      let d : ℕ × Content = (0, contents.One (values.Int (pos 0))) in
      let by = contents_from_fits (shape_of parts) type cs us m view is_schema.shape filled keys fits in
      let all = held_alone (fields (shape_of parts) type) (rising parts is_schema type) f f.number found cs h.0 d h.1 (h.2 d) by.apart in
      let left = sym (filter_all (λ (x : ℕ × Content). not (is_sibling_number (fields (shape_of parts) type) f x.0)) cs all) in
      sym (cleared_shown [] f type cs cs us m (all_stay f cs) view) ∙ cleared_shown (fields (shape_of parts) type) f type cs cs us m left view

  other_alone : (n : ℕ) (g : FieldShape) → is_sibling_number (fields (shape_of parts) type) f n ≡ true → field_at (fields (shape_of parts) type) n ≡ Some g → Holds n cs
      → without_siblings (g ∷ []) f m ≡ without_siblings (fields (shape_of parts) type) f m
  other_alone n g sibling at h =
      let d : ℕ × Content = (0, contents.One (values.Int (pos 0))) in
      let by = contents_from_fits (shape_of parts) type cs us m view is_schema.shape filled keys fits in
      let number = found_number (fields (shape_of parts) type) n g at in
      let one = sym (sibling_found (fields (shape_of parts) type) f g n (rising parts is_schema type) at) ∙ sibling in
      let out = ap (remove_field g.number) (all_stay f cs) ∙ sibling_out f [] g cs one rises in
      let alone = alone_out (fields (shape_of parts) type) (rising parts is_schema type) f found n sibling cs rises h.0 d h.1 (h.2 d) by.apart in
      let left = ap (λ k. remove_field k cs) number ∙ sym alone in
      sym (cleared_shown (g ∷ []) f type cs (remove_field g.number cs) us m out view) ∙ cleared_shown (fields (shape_of parts) type) f type cs (remove_field g.number cs) us m left view

pub returns-then-holds : goal.returns-then-holds
returns-then-holds c =
    let a = c.self.inside in
    let cs = a.fields.items in
    let us = map record_seen a.unknown.items in
    let f = field_shape c.args.field.now in
    let same = sym (ap type_of c.self.view_is) ∙ type_shown a.type_id cs us in
    let found = subst (λ (t : TypeId). field_at (fields (shape_of c.args.schema.now) t) c.args.field.now.number ≡ Some (field_shape c.args.field.now)) same c.requires.found in
    let held = subst (Holds f.number) c.deref.ensures.value (c.holds.ensures c.if-holds.true) in
    own_alone c.args.schema.now c.requires.is_schema a.type_id cs us c.args.self.now c.self.view_is c.self.invariant.rises c.self.invariant.filled c.self.invariant.keys c.requires.fits f found held
    ∙ ap (λ (t : TypeId). without_siblings (fields (shape_of c.args.schema.now) t) (field_shape c.args.field.now) c.args.self.now) (sym same)

pub returns : goal.returns
returns c =
    let a = c.self.inside in
    let cs = a.fields.items in
    let us = map record_seen a.unknown.items in
    let f = field_shape c.args.field.now in
    let g = field_shape c.in_ok-member.member.now in
    let same = sym (ap type_of c.self.view_is) ∙ type_shown a.type_id cs us in
    let found = subst (λ (t : TypeId). field_at (fields (shape_of c.args.schema.now) t) c.args.field.now.number ≡ Some (field_shape c.args.field.now)) same c.requires.found in
    let held = subst (Holds c.in_ok-other.other) c.deref-2.ensures.value c.in_ok-other.ensures.there in
    ap (λ gs. without_siblings (map field_shape gs) f c.args.self.now) c.from_ref.ensures.value
    ∙ other_alone c.args.schema.now c.requires.is_schema a.type_id cs us c.args.self.now c.self.view_is c.self.invariant.rises c.self.invariant.filled c.self.invariant.keys c.requires.fits f found c.in_ok-other.other g
    c.in_ok-other.ensures.sibling (sym c.in_ok-member.ensures.shape) held
    ∙ ap (λ (t : TypeId). without_siblings (fields (shape_of c.args.schema.now) t) (field_shape c.args.field.now) c.args.self.now) (sym same)
