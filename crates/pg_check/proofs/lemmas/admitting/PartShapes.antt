-- The rules of maps, oneofs and packed fields, by one of a list that fails a test.
use Rattle.std.proofs.Common.{◌≡◌, ◌∙◌, Bool, true, false, not, ◌||◌, ◌&&◌, ◌⊎◌, List, [], ◌∷◌, length, is_some, sym, ap, refl, arith, rules}
use Rattle.std.specs.List.{list_all}
use Rattle.std.proofs.lemmas.Bool.{false≢true}
use Rattle.std.proofs.lemmas.List.Folds.{list_all-append}
use Rattle.pg_link.specs.declared.error.Place.{Place}
use Rattle.pg_schema.specs.declared.parts.field.Field.{Field}
use Rattle.pg_schema.specs.declared.parts.field.Presence.{Presence}
use Rattle.pg_schema.specs.declared.parts.field.Presence.TheVariants as presences
use Rattle.pg_schema.specs.declared.parts.field.Scalar.{Scalar}
use Rattle.pg_schema.specs.declared.parts.message_type.MessageType.{MessageType}
use Rattle.pg_schema.specs.rules.Fields.{stated_or, is_key}
use Rattle.pg_schema.specs.rules.Messages.{have_members}
use Rattle.pg_schema.specs.Shape.{is_packable, is_repeated, is_singular}
use Rattle.pg_schema.proofs.lemmas.rules.PairLemmas.{and_left, and_right}
use Rattle.pg_check.specs.declared.rules.fault.Rule.TheVariants as rules
use Rattle.pg_check.specs.admitting.BrokenParts.{BreaksType, bad_map_key, bad_oneof_member, empty_oneof, packed_not_allowed}
use Rattle.pg_check.specs.admitting.KeepsParts as keeps
use Rattle.pg_check.specs.Errors.{error_of}
use Rattle.pg_check.specs.inner.PartFaults.{has_oneofs}
use Rattle.pg_check.specs.rules.Firsts.{IsOneOf}
use Rattle.pg_check.proofs.lemmas.rules.FirstFaults.{one_more}

-- ---- one of a list that fails a test

pub some_fails : {X : Type 0} (test : X → Bool) (xs : List X) → list_all test xs ≡ false → (x : X) × (IsOneOf xs x × (test x ≡ false))
some_fails test [] h = absurd (false≢true (sym h))
some_fails test (x ∷ xs) h = by (test x) refl h (some_fails test xs)
  where
    by : (b : Bool) → test x ≡ b → (b && list_all test xs) ≡ false → (list_all test xs ≡ false → (y : _) × (IsOneOf xs y × (test y ≡ false)))
        → (y : _) × (IsOneOf (x ∷ xs) y × (test y ≡ false))
    by false is g later = (x, (record { before = []; after = xs; is = refl }, is))
    by true is g later = let (y, (one, fails)) = later g in (y, (one_more x xs y one, fails))

pub passes : {X : Type 0} (test : X → Bool) (xs : List X) (x : X) → list_all test xs ≡ true → IsOneOf xs x → test x ≡ true
passes test xs x h one = search (rules, list_all-append, and_left, and_right)

pub fails : (b : Bool) → (b ≡ true → ⊥) → b ≡ false
fails b none = grind arith

-- ---- keys of maps

key_of : (p : Presence) → keeps.has_key p ≡ false → (key : Scalar) × ((p ≡ presences.Map key) × (is_key key ≡ false))
key_of p h = grind (arith, false≢true)

pub key_breaks : (t : MessageType) (place : Place) → list_all keeps.field_has_key t.fields.items ≡ false → BreaksType t place (error_of rules.BadMapKey place) 407
key_breaks t place h =
    let (f, (one, is)) = some_fails keeps.field_has_key t.fields.items h in
    let (key, (of_map, bad)) = key_of f.presence is in
    bad_map_key f key one of_map bad

pub key_fails : (fs : List Field) (f : Field) (key : Scalar) → IsOneOf fs f → f.presence ≡ presences.Map key → is_key key ≡ false → list_all keeps.field_has_key fs ≡ true → ⊥
key_fails fs f key one is bad h = false≢true (sym bad ∙ (sym (ap keeps.has_key is) ∙ passes keeps.field_has_key fs f h one))

-- ---- members of oneofs

member_of : (member singular states : Bool) → (not member || (singular && not states)) ≡ false → (member ≡ true) × ((singular ≡ false) ⊎ (states ≡ true))
member_of member singular states h = grind (arith, false≢true)

no_member : (member singular states : Bool) → (not member || (singular && not states)) ≡ true → member ≡ true → (singular ≡ false) ⊎ (states ≡ true) → ⊥
no_member member singular states h is why = grind (arith, false≢true)

pub oneof_breaks : (t : MessageType) (place : Place) → has_oneofs t ≡ false → BreaksType t place (error_of rules.BadOneofMember place) 408
oneof_breaks t place h = by (list_all keeps.may_be_member t.fields.items) refl h
  where
    by : (b : Bool) → list_all keeps.may_be_member t.fields.items ≡ b → (b && have_members (length t.oneofs.items) t.fields.items) ≡ false
        → BreaksType t place (error_of rules.BadOneofMember place) 408
    by false is g =
        let (f, (one, bad)) = some_fails keeps.may_be_member t.fields.items is in
        let (has, why) = member_of (is_some f.oneof) (is_singular f.presence) f.states_optional bad in
        bad_oneof_member f one has why
    by true is g = empty_oneof g

pub member_fails : (fs : List Field) (f : Field) → IsOneOf fs f → is_some f.oneof ≡ true → (is_singular f.presence ≡ false) ⊎ (f.states_optional ≡ true) → list_all keeps.may_be_member fs ≡ true → ⊥
member_fails fs f one has why h = no_member (is_some f.oneof) (is_singular f.presence) f.states_optional (passes keeps.may_be_member fs f h one) has why

-- ---- packed fields

packs_of : (p : Presence) (s : Bool) → (keeps.is_packed p || s) ≡ true → (p ≡ presences.Repeated true) ⊎ (s ≡ true)
packs_of p s h = grind arith

packed_of : (packed repeated packable : Bool) → (not packed || (repeated && packable)) ≡ false → (packed ≡ true) × ((repeated ≡ false) ⊎ (packable ≡ false))
packed_of packed repeated packable h = grind (arith, false≢true)

pub packed_breaks : (t : MessageType) (place : Place) → list_all keeps.is_packed_rightly t.fields.items ≡ false → BreaksType t place (error_of rules.PackedNotAllowed place) 412
packed_breaks t place h =
    let (f, (one, is)) = some_fails keeps.is_packed_rightly t.fields.items h in
    let states = stated_or f.options.packed false in
    let (packed, why) = packed_of (keeps.is_packed f.presence || states) (is_repeated f.presence) (is_packable f.element) is in
    packed_not_allowed f one (packs_of f.presence states packed) why

packs : (p : Presence) (s : Bool) → (p ≡ presences.Repeated true) ⊎ (s ≡ true) → (keeps.is_packed p || s) ≡ true
packs p s h3 = grind arith

no_packed : (packed repeated packable : Bool) → (not packed || (repeated && packable)) ≡ true → packed ≡ true → (repeated ≡ false) ⊎ (packable ≡ false) → ⊥
no_packed packed repeated packable h is why = grind (arith, false≢true)

pub packed_fails : (fs : List Field) (f : Field) → IsOneOf fs f → (f.presence ≡ presences.Repeated true) ⊎ (stated_or f.options.packed false ≡ true)
    → (is_repeated f.presence ≡ false) ⊎ (is_packable f.element ≡ false) → list_all keeps.is_packed_rightly fs ≡ true → ⊥
packed_fails fs f one packed why h =
    let states = stated_or f.options.packed false in
    no_packed (keeps.is_packed f.presence || states) (is_repeated f.presence) (is_packable f.element) (passes keeps.is_packed_rightly fs f h one) (packs f.presence states packed) why
