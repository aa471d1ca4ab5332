-- What a type name of linked files resolves to is what the parts have under its number.
use Rattle.std.proofs.Common.{◌≡◌, ◌∙◌, ℕ, ◌^◌, ◌≤◌, Bool, true, false, cond, not, ◌&&◌, is_some, List, [], ◌∷◌, length, map, get_or, slice_get, Option, Some, None, option_map, string_bytes, sym, ap, subst, refl, arith, rules}
use Rattle.std.specs.List.{AllByRecursion}
use Rattle.std.specs.Option.{option_and_then}
use Rattle.std.specs.Str.{bytes_eq}
use Rattle.std.proofs.lemmas.List.{length-map}
use Rattle.std.proofs.lemmas.List.Quantifiers.{position-Some}
use Rattle.std.proofs.lemmas.Option.{slice_get-get_or, slice_get-map, slice_get_within}
use Rattle.std.proofs.lemmas.Slice.Eq.{bytes_eq-Decides}
use Rattle.pg_schema.specs.declared.parts.enum_type.EnumType.{EnumType}
use Rattle.pg_schema.specs.declared.parts.field.Element.{Element}
use Rattle.pg_schema.specs.declared.parts.message_type.MessageType.{MessageType}
use Rattle.pg_schema.specs.declared.parts.Parts.{Parts}
use Rattle.pg_schema.specs.ScalarWords.{scalar_of}
use Rattle.pg_link.specs.declared.names.Kind.{Kind}
use Rattle.pg_link.specs.declared.names.Kind.TheVariants as kinds
use Rattle.pg_link.specs.declared.uses.target.Target.{Target}
use Rattle.pg_link.specs.declared.uses.target.Target.TheVariants as targets
use Rattle.pg_link.specs.names.Files.{Declared, visible_names}
use Rattle.pg_link.specs.names.Names.{Names, Text, is_type}
use Rattle.pg_link.specs.names.Resolves.{Resolves, found, part_words, reference}
use Rattle.pg_link.specs.uses.Targets.{all_declared, enum_names, message_names, number_in, numbered, target_at, target_in, use_at}
use Rattle.pg_link.specs.uses.Uses.{Use, field_uses, file_uses, in_field, in_rpc, is_scalar, is_scalar_alone}
use Rattle.pg_link.specs.walk.Walk.{Entry, outlines, path_of}
use Rattle.pg_check.proofs.lemmas.parts.Numbering.{AreNumbered, declared_messages}
use Rattle.pg_check.specs.parts.EnumPlaces.{by_scope, enum_places, scoped_names}
use Rattle.pg_check.specs.parts.MadeFields.{element_of}
use Rattle.pg_check.specs.parts.MadeNumbers.{index_of}
use Rattle.pg_check.specs.parts.MadeServices.{message_at}
use Rattle.pg_check.specs.parts.ResolvedTypes.{IsScalarOr, ResolvesTo, full_name_of, words_of}
use Rattle.pg_check.specs.rules.Options.{is_alone}
use Rattle.pg_check.specs.rules.Types.{scalar_named}
use Rattle.pg_check.proofs.lemmas.standing.TreePlaces.{index_is}
use Rattle.pg_schema.specs.declared.parts.field.Element.TheVariants as elements
use Rattle.pg_syntax.specs.declared.tree as tree

abbrev dot : List ℕ → Text
dot full = 46 ∷ full

-- ---- numbers of names

-- the name has this number among these names, each of which has a dot in front there
pub record HasNumber (names : List (List ℕ)) (full : Text) (number : ℕ) : Type 0 where
  pub name : List ℕ
  pub is_dotted : full ≡ 46 ∷ name
  pub is_there : slice_get names number ≡ Some name

behind_dots : (names : List (List ℕ)) (full : Text) (number : ℕ) → slice_get (map dot names) number ≡ Some full → HasNumber names full number
behind_dots names full number there = search (rules, slice_get, slice_get-map)

-- the name at the number that a target has
numbered_as : (make : ℕ → Target) (dotted : List Text) (full : Text) (t : Target) → option_map make (number_in dotted full) ≡ Some t → (n : ℕ) × (make n ≡ t) × (slice_get dotted n ≡ Some full)
numbered_as make dotted full t is = by (number_in dotted full) refl is
  where
    by : (o : Option ℕ) → number_in dotted full ≡ o → option_map make o ≡ Some t → (n : ℕ) × (make n ≡ t) × (slice_get dotted n ≡ Some full)
    by None at none = absurd (cc (none))
    by (Some n) at some =
        let same : make n ≡ t = cc (some) in
        let place = position-Some (bytes_eq full) dotted n [] at in
        let name : full ≡ get_or dotted n [] = (bytes_eq-Decides full (get_or dotted n [])).0 place.1 in
        (n, same, slice_get-get_or dotted n [] place.0 ∙ ap (λ t. Some t) (sym name))

-- ---- files and parts that meet

-- the names that linking numbers are those of the parts, and message types are few
pub record IsMet (files : List Entry) (parts : Parts) : Type 0 where
  pub numbers : AreNumbered files
  pub few_types : length parts.types.items ≤ 2 ^ 32
  pub types_are : map (λ (t : MessageType). string_bytes t.name) parts.types.items ≡ declared_messages files
  pub enums_are : map (λ (e : EnumType). string_bytes e.name) parts.enums.items ≡ scoped_names files

-- what is no scalar type here is no scalar word there
not_scalar : (b : Bool) (w : Text) (more : List tree.Name.Name) → cond (not b && is_alone more) (scalar_of w) None ≡ None → cond b false (is_scalar_alone w (part_words more)) ≡ false
not_scalar b w more h = grind (arith, is_some)

pub no_scalar : (name : tree.TypeName.TypeName) → scalar_named name ≡ None → is_scalar (reference name) ≡ false
no_scalar name is = not_scalar name.is_full (string_bytes name.path.first.text) name.path.more.items is

-- ---- what a use resolves to

module _ (files : List Entry) (parts : Parts) (met : IsMet files parts) where
  abbrev all : List Declared
  all = all_declared files

  -- the number is that of the full name; where no enum may be it is a message type's
  abbrev pub HasName : Bool → Text → Target → Type 0
  HasName takes full (targets.Message n) = HasNumber (declared_messages files) full n
  HasName true full (targets.Enum n) = HasNumber (scoped_names files) full (get_or (enum_places files) n 0)
  HasName false full (targets.Enum n) = ⊥

  kind_named : (takes : Bool) (full : Text) (k : Kind) (t : Target) → numbered all takes full k ≡ Some t → (is_type k ≡ true) × HasName takes full t
  kind_named takes full kinds.Message t is =
      let at = numbered_as targets.Message (message_names all) full t is in
      (refl, subst (HasName takes full) at.1 (behind_dots (declared_messages files) full at.0 (ap (λ xs. slice_get xs at.0) (sym met.numbers.types) ∙ at.2)))
  kind_named true full kinds.Enum t is =
      let at = numbered_as targets.Enum (enum_names all) full t is in
      let there = met.numbers.placed at.0 full at.2 in
      (refl, subst (HasName true full) at.1 (record { name = there.0; is_dotted = there.1; is_there = there.2 }))
  kind_named false full kinds.Enum t is = absurd (cc (is))
  kind_named takes full kinds.Entry t is = absurd (cc (is))
  kind_named takes full kinds.Package t is = absurd (cc (is))
  kind_named takes full kinds.Value t is = absurd (cc (is))
  kind_named takes full kinds.Field t is = absurd (cc (is))
  kind_named takes full kinds.Oneof t is = absurd (cc (is))
  kind_named takes full kinds.Service t is = absurd (cc (is))
  kind_named takes full kinds.Method t is = absurd (cc (is))

  -- a use resolves to a full name, and the number that is found at its byte is that of the name
  pub record IsFound (visible : Names) (e : Entry) (u : Use) : Type 0 where
    pub target : Target
    pub at : target_at files e u.at ≡ Some target
    pub full : Text
    pub resolves : Resolves visible u.scope u.name full
    pub has_name : HasName u.takes_enums full target

  is_found : (e : Entry) (u : Use) (t : Target) → target_in all (visible_names (outlines files) (path_of e)) u ≡ Some t → use_at (file_uses e.1.tree) u.at ≡ Some u → IsFound (visible_names (outlines files) (path_of e)) e u
  is_found e u t is first = by (found visible u.scope u.name) refl is
    where
      visible : Names
      visible = visible_names (outlines files) (path_of e)

      by : (o : Option (Text × Kind)) → found (visible_names (outlines files) (path_of e)) u.scope u.name ≡ o → option_and_then (λ (f : Text × Kind). numbered all u.takes_enums f.0 f.1) o ≡ Some t
          → IsFound (visible_names (outlines files) (path_of e)) e u
      by None at none = absurd (cc (none))
      by (Some f) at some =
          let named = kind_named u.takes_enums f.0 f.1 t some in
          record {
            target = t;
            at = ap (option_and_then (target_in all (visible_names (outlines files) (path_of e)))) first ∙ is;
            full = f.0;
            resolves = record { kind = f.1; is_found = at; is_type_name = named.0 };
            has_name = named.1;
          }

  abbrev pub Here : Entry → Use → Type 0
  Here e u = IsFound (visible_names (outlines files) (path_of e)) e u

  pub all_found : (e : Entry) (us : List Use) → AllByRecursion (λ (u : Use). (t : Target) × (target_in all (visible_names (outlines files) (path_of e)) u ≡ Some t)) us
      → AllByRecursion (λ u. use_at (file_uses e.1.tree) u.at ≡ Some u) us → AllByRecursion (Here e) us
  all_found e [] h k = tt
  all_found e (u ∷ us) h k = (is_found e u h.0.0 h.0.1 k.0, all_found e us h.1 k.1)

  -- ---- what the parts have there

  abbrev type_name : MessageType → List ℕ
  type_name t = string_bytes t.name

  abbrev enum_name : EnumType → List ℕ
  enum_name e = string_bytes e.name

  type_there : (n : ℕ) (name : List ℕ) → slice_get (declared_messages files) n ≡ Some name → option_map type_name (slice_get parts.types.items (index_of n)) ≡ Some name
  type_there n name is = search (rules, slice_get_within, length-map, slice_get, index_is, slice_get-map)

  enum_there : (i : ℕ) (name : List ℕ) → slice_get (scoped_names files) i ≡ Some name → option_map enum_name (slice_get parts.enums.items i) ≡ Some name
  enum_there i name is = sym (slice_get-map enum_name parts.enums.items i) ∙ (ap (λ xs. slice_get xs i) met.enums_are ∙ is)

  abbrev of_target : Target → Element
  of_target t = element_of None (Some (by_scope (enum_places files) t))

  -- what is made of a target has the full name
  pub record HasFull (full : Text) (element : Element) : Type 0 where
    pub name : List ℕ
    pub is_dotted : full ≡ 46 ∷ name
    pub has_name : full_name_of parts element ≡ Some name

  target_full : (takes : Bool) (full : Text) (t : Target) → HasName takes full t → HasFull full (of_target t)
  target_full takes full t h = grind (arith, type_there, enum_there)

  -- an rpc's type
  method_full : (full : Text) (t : Target) → HasName false full t → HasFull full (elements.Message (message_at (Some (by_scope (enum_places files) t))))
  method_full full t h = grind (arith, type_there)

  resolves_to : (e : Entry) (scope : List ℕ) (name : tree.TypeName.TypeName) (full : Text) (element : Element) → Resolves (visible_names (outlines files) (path_of e)) (words_of scope) (reference name) full
      → HasFull full element → ResolvesTo files parts e scope name element
  resolves_to e scope name full element h k = search rules

  abbrev targets_of : Entry → ℕ → Option Target
  targets_of e at = option_map (by_scope (enum_places files)) (target_at files e at)

  field_resolves : (e : Entry) (scope : List ℕ) (name : tree.TypeName.TypeName) → Here e (in_field (words_of scope) name) → ResolvesTo files parts e scope name (element_of None (targets_of e name.span.from))
  field_resolves e scope name h = search (rules, resolves_to, target_full)

  pub method_resolves : (e : Entry) (scope : List ℕ) (name : tree.TypeName.TypeName) → Here e (in_rpc (words_of scope) name) → ResolvesTo files parts e scope name (elements.Message (message_at (targets_of e name.span.from)))
  method_resolves e scope name h = search (rules, resolves_to, method_full)

  -- the element that is made for a type name
  pub element_named : (e : Entry) (scope : List ℕ) (name : tree.TypeName.TypeName) → AllByRecursion (Here e) (field_uses (words_of scope) name)
      → IsScalarOr (ResolvesTo files parts e scope name (element_of (scalar_named name) (targets_of e name.span.from))) (scalar_named name) (element_of (scalar_named name) (targets_of e name.span.from))
  element_named e scope name h = search (rules, field_resolves, no_scalar)
