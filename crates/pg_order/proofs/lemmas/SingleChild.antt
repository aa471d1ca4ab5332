-- A child that alone is kept is read by the new type from its own bytes, and passes what is asked of it.
use Rattle.std.proofs.Common.{◌≡◌, ℕ, ◌^◌, ◌<◌, List, [], ◌∷◌, map, filter, length, true, false, ◌&&◌, Option, Some, None, unwrap_or, option_map, option_and_then, refl, ap, ap₂, sym, subst, ◌∙◌}
use Rattle.std.proofs.lemmas.Bool.{and_parts}
use lib.Pointwise.{pointwise}
use Rattle.pg_schema.specs.declared.parts.field.TypeId.{TypeId}
use Rattle.pg_schema.specs.declared.parts.field.Scalar.{Scalar}
use Rattle.pg_schema.specs.declared.parts.field.Element.TheVariants as elements
use Rattle.pg_schema.specs.declared.parts.field.Presence.{Presence}
use Rattle.pg_schema.specs.declared.parts.field.Presence.TheVariants as presences
use Rattle.pg_schema.specs.Shape.{FieldShape, is_map}
use Rattle.pg_schema.specs.ShapeRules.{PresenceFits}
use Rattle.pg_dyn.specs.reading.Optional.{all_some}
use Rattle.pg_dyn.specs.message.Message.{Leaf, Bytes, Item, Msg, Message, Part}
use Rattle.pg_dyn.specs.word.Coding.{InRange, form, zero_leaf}
use Rattle.pg_dyn.specs.reading.Content.{content, takes}
use Rattle.pg_dyn.specs.encoding.Writing.{entry_bytes, field_records}
use Rattle.pg_dyn.specs.reading.Decoding.{Reader, read_part}
use Rattle.pg_dyn.specs.fitting.Belonging.{KeyFits}
use Rattle.pg_dyn.specs.laws.ByComparands.{is_field_kept}
use Rattle.pg_dyn.specs.views.Comparison.{View, Expected, Kept, hides_zero, matches, same_content, same_key, writes}
use Rattle.pg_dyn.proofs.lemmas.reading.Fields.{field_of}
use Rattle.pg_order.proofs.lemmas.KindsRead.{shown_child, shown_message}
use Rattle.pg_order.proofs.lemmas.FieldSeen.{IsShown, Pair, all_taken, child_record, kept_kinds, key_or, list_content, old_of, one_content, part_from, records_are, shown_parts}
use Rattle.pg_order.proofs.lemmas.FieldAgain.{differ, key_in_map, no_key_in}
use Rattle.pg_order.proofs.lemmas.MapSeen.{item_with, message_with, none_some, says_own, some_parts}

-- the child is read and passes
pub record IsReadSo (child : Reader) (u : TypeId) (z : Pair) : Type 0 where
  pub message : Message
  pub is_read : child u z.before ≡ Some message
  pub passes : z.test message ≡ true

-- the same child, unchanged
abbrev unchanged : Pair → Pair
unchanged z = record { key = z.key; before = z.before; after = z.before; test = z.test; again = z.test }

module _ (view : View) (child : Reader) (n : ℕ) (t u : TypeId) (p q : Presence) (o w : Option ℕ) (z : Pair) where
  abbrev f : FieldShape
  f = field_of n p (elements.Message t) o

  abbrev g : FieldShape
  g = field_of n q (elements.Message u) w

  abbrev part_with : Option Message → Option (List (Part Item))
  part_with x = option_and_then (λ r. option_map (λ rs. r ∷ rs) (Some [])) (option_map (item_with n None) (option_map Msg x))

  module _ (is : IsShown view child f g (old_of n z ∷ [])) (content_is : content g (filter (takes g) (field_records f (map writes (old_of n z ∷ [])))) ≡ Some (part_from n (λ (x : Pair). None) (unchanged z) ∷ [])) where
    read_is : Some is.parts ≡ part_with (child u z.before)
    read_is = sym is.is_read ∙ ap (option_and_then (λ ps. all_some (map (read_part child (elements.Message u)) ps))) content_is

    from_content : IsReadSo child u z
    from_content = of (child u z.before) refl
      where
        of : (x : Option Message) → child u z.before ≡ x → IsReadSo child u z
        of None at = absurd (none_some is.parts (sym (read_is ∙ ap part_with at)))
        of (Some m) at =
            let parts_are : is.parts ≡ message_with n None m = some_parts is.parts (message_with n None m) (read_is ∙ ap part_with at) in
            let same = subst (λ ps. same_content view f g (record { number = n; key = z.key; item = Kept z.test } ∷ []) ps ≡ true) parts_are is.same in
            let both = ap₂ (pointwise (λ (x : Part Expected) (y : Part Item). same_key x.key y.key && matches view f g x.item y.item)) (shown_child (hides_zero f g) n z.key z.test []) (shown_message (hides_zero f g) n None m []) in
            let matched : ((same_key z.key None && z.test m) && true) ≡ true = sym both ∙ same in
            record { message = m; is_read = at; passes = (and_parts (same_key z.key None) (z.test m) (and_parts (same_key z.key None && z.test m) true matched).0).1 }

  plain_content : (fits : PresenceFits p (elements.Message t) o) → is_map p ≡ false → is_map q ≡ false → content g (child_record n t u (unchanged z).after ∷ []) ≡ Some (part_from n (λ (x : Pair). None) (unchanged z) ∷ []) → content g (filter (takes g) (field_records f (map writes (old_of n z ∷ [])))) ≡ Some (part_from n (λ (x : Pair). None) (unchanged z) ∷ [])
  plain_content fits no_map new_plain h =
      ap (λ rs. content g (filter (takes g) rs)) (records_are n t u p o fits no_map (unchanged z ∷ [])) ∙ ap (content g) (all_taken n t u q w new_plain (unchanged z ∷ [])) ∙ h

module _ (view : View) (child : Reader) (n : ℕ) (t u : TypeId) (o w : Option ℕ) (z : Pair) where
  abbrev IsKeptAlone : Presence → Presence → Type 0
  IsKeptAlone p q = is_field_kept view child (field_of n p (elements.Message t) o) (field_of n q (elements.Message u) w) (old_of n z ∷ []) ≡ true

  plain_says : (p q : Presence) → PresenceFits p (elements.Message t) o → PresenceFits q (elements.Message u) w → is_map p ≡ false → is_map q ≡ false → IsKeptAlone p q → IsReadSo child u z
  plain_says p presences.Implicit fits new_fits no_map is kept = absurd new_fits
  plain_says p presences.Explicit fits new_fits no_map is kept =
      from_content view child n t u p presences.Explicit o w z (shown_parts view child (field_of n p (elements.Message t) o) (field_of n presences.Explicit (elements.Message u) w) (old_of n z ∷ []) kept)
      (plain_content view child n t u p presences.Explicit o w z fits no_map refl (one_content n t u w (unchanged z)))
  plain_says p (presences.Repeated packed) fits new_fits no_map is kept =
      from_content view child n t u p (presences.Repeated packed) o w z (shown_parts view child (field_of n p (elements.Message t) o) (field_of n (presences.Repeated packed) (elements.Message u) w) (old_of n z ∷ []) kept)
      (plain_content view child n t u p (presences.Repeated packed) o w z fits no_map refl (list_content n t u packed w (unchanged z ∷ [])))
  plain_says p (presences.Map key) fits new_fits no_map is kept = absurd (differ is)

  map_says : (key : Scalar) (q : Presence) → KeyFits (presences.Map key) z.key → length (entry_bytes key (elements.Message t) (key_or key z) (Bytes z.before)) < 2 ^ 64 → is_map q ≡ true → IsKeptAlone (presences.Map key) q → IsReadSo child u z
  map_says key presences.Implicit fits short is kept = absurd (differ (sym is))
  map_says key presences.Explicit fits short is kept = absurd (differ (sym is))
  map_says key (presences.Repeated packed) fits short is kept = absurd (differ (sym is))
  map_says key (presences.Map new_key) fits short is kept = of z.key refl fits
    where
      of : (k : Option Leaf) → z.key ≡ k → KeyFits (presences.Map key) k → IsReadSo child u z
      of None at h = absurd h
      of (Some l) at h =
          let own = says_own view child n t u key new_key o w (unchanged z) kept (short, short) l at (subst (λ x. InRange (form (elements.Scalar key)) x) (sym (ap (λ x. unwrap_or x (zero_leaf (form (elements.Scalar key)))) at)) h) in
          record { message = own.message; is_read = own.is_read; passes = own.passes }

  pub single_says : (p q : Presence) → PresenceFits p (elements.Message t) o → PresenceFits q (elements.Message u) w → KeyFits p z.key → ((key : Scalar) → p ≡ presences.Map key → length (entry_bytes key (elements.Message t) (key_or key z) (Bytes z.before)) < 2 ^ 64) → IsKeptAlone p q → IsReadSo child u z
  single_says presences.Implicit q fits new_fits key short kept = absurd fits
  single_says presences.Explicit q fits new_fits key short kept =
      plain_says presences.Explicit q fits new_fits refl (sym (kept_kinds view child (field_of n presences.Explicit (elements.Message t) o) (field_of n q (elements.Message u) w) z kept).0 ∙ no_key_in presences.Explicit z.key refl key) kept
  single_says (presences.Repeated packed) q fits new_fits key short kept =
      plain_says (presences.Repeated packed) q fits new_fits refl (sym (kept_kinds view child (field_of n (presences.Repeated packed) (elements.Message t) o) (field_of n q (elements.Message u) w) z kept).0 ∙ no_key_in (presences.Repeated packed) z.key refl key) kept
  single_says (presences.Map k) q fits new_fits key short kept =
      map_says k q key (short k refl) (sym (kept_kinds view child (field_of n (presences.Map k) (elements.Message t) o) (field_of n q (elements.Message u) w) z kept).0 ∙ key_in_map k z.key key) kept
