-- What the rules say of a type name by its first byte, of linked files, is what it means.
use Rattle.std.proofs.Common.{◌≡◌, ◌∙◌, ◌↔◌, ℕ, true, List, [], ◌∷◌, map, Option, Some, None, option_map, ap, refl, arith, rules}
use Rattle.std.specs.List.{AllByRecursion}
use Rattle.std.specs.Option.{option_and_then}
use Rattle.std.proofs.lemmas.Bool.{false≢true}
use Rattle.std.proofs.lemmas.List.Elements.{recursion_from_All}
use Rattle.std.proofs.lemmas.Option.{same_Some}
use Rattle.pg_link.specs.declared.names.Kind.{Kind}
use Rattle.pg_link.specs.declared.names.Kind.TheVariants as kinds
use Rattle.pg_link.specs.declared.uses.target.Target.{Target}
use Rattle.pg_link.specs.declared.uses.target.Target.TheVariants as targets
use Rattle.pg_link.specs.names.Files.{Declared, visible_names}
use Rattle.pg_link.specs.Linked.{IsLinkedUp, LinkedFiles}
use Rattle.pg_link.specs.names.Names.{Text}
use Rattle.pg_link.specs.names.Resolves.{found}
use Rattle.pg_link.specs.uses.Targets.{all_declared, numbered, target_at, target_in, use_at}
use Rattle.pg_link.specs.uses.Uses.{Use, field_uses, file_uses, in_field}
use Rattle.pg_link.specs.walk.Walk.{Entry, IsParsed, outlines, path_of}
use Rattle.pg_schema.proofs.lemmas.rules.PairLemmas.{and_left, and_right, and_both}
use Rattle.pg_check.specs.parts.EnumPlaces.{by_scope, enum_places}
use Rattle.pg_check.specs.parts.PackedFields.{ArePackedByMeaning, IsPackable, IsPackedByMeaning, ResolvesToEnum}
use Rattle.pg_check.specs.parts.ResolvedTypes.{messages_of, words_of}
use Rattle.pg_check.specs.rules.Members.{DeclaredField, members}
use Rattle.pg_check.specs.rules.Outline.{Message, file_messages}
use Rattle.pg_check.specs.rules.Types.{is_enum, is_packable as may_be, scalar_named}
use Rattle.pg_check.proofs.lemmas.parts.Eachs.{each_mapped, each_weaker, joined_all}
use Rattle.pg_check.proofs.lemmas.parts.uses.NamedUses.{no_scalar}
use Rattle.pg_check.proofs.lemmas.parts.uses.ResolvedTypes.{HasTarget, files_resolve, resolve_in, targets_of}
use Rattle.pg_check.proofs.lemmas.parts.uses.ResolvedUses.{MemberHolds, MessageHolds, messages_resolved}
use Rattle.pg_check.proofs.lemmas.parts.uses.UsesRise.{uses_found}
use Rattle.pg_check.proofs.lemmas.parts.names.WordTrees.{file_good}
use Rattle.pg_check.proofs.lemmas.parts.names.WordedFiles.{IsGoodFile, good_file}
use Rattle.pg_syntax.specs.declared.tree as tree

made_of : (make : ℕ → Target) (o : Option ℕ) (t : Target) → option_map make o ≡ Some t → (n : ℕ) × (make n ≡ t)
made_of make o t h = grind arith

kind_of : (f g : Text × Kind) → Some f ≡ Some g → f.1 ≡ g.1
kind_of f g h = ap (λ (m : Text × Kind). m.1) (same_Some f g h)

module _ (files : List Entry) where
  abbrev all : List Declared
  all = all_declared files

  abbrev here : Target → Option Target
  here t = Some (by_scope (enum_places files) t)

  -- an enum's number is that of an enum's name
  kind_says : (full : Text) (k : Kind) (t : Target) → numbered all true full k ≡ Some t → (is_enum (here t) ≡ true) ↔ (k ≡ kinds.Enum)
  kind_says full k t is = grind (arith, made_of, false≢true)

  -- what a use means, and what is found at its byte
  pub record IsMeant (e : Entry) (u : Use) : Type 0 where
    pub target : Target
    pub at : target_at files e u.at ≡ Some target
    pub full : Text
    pub kind : Kind
    pub is_found : found (visible_names (outlines files) (path_of e)) u.scope u.name ≡ Some (full, kind)
    pub is_numbered : numbered all u.takes_enums full kind ≡ Some target

  is_meant : (e : Entry) (u : Use) (t : Target) → resolve_in files e u ≡ Some t → use_at (file_uses e.1.tree) u.at ≡ Some u → IsMeant e u
  is_meant e u t is first = by (found (visible_names (outlines files) (path_of e)) u.scope u.name) refl is
    where
      by : (o : Option (Text × Kind)) → found (visible_names (outlines files) (path_of e)) u.scope u.name ≡ o
          → option_and_then (λ (f : Text × Kind). numbered all u.takes_enums f.0 f.1) o ≡ Some t → IsMeant e u
      by None at none = absurd (cc (none))
      by (Some f) at some = record {
        target = t;
        at = ap (option_and_then (target_in all (visible_names (outlines files) (path_of e)))) first ∙ is;
        full = f.0;
        kind = f.1;
        is_found = at;
        is_numbered = some;
      }

  all_meant : (e : Entry) (us : List Use) → AllByRecursion (HasTarget (resolve_in files e)) us → AllByRecursion (λ u. use_at (file_uses e.1.tree) u.at ≡ Some u) us → AllByRecursion (IsMeant e) us
  all_meant e [] h k = tt
  all_meant e (u ∷ us) h k = (is_meant e u h.0.0 h.0.1 k.0, all_meant e us h.1 k.1)

  -- ---- a field

  name_says : (e : Entry) (scope : List ℕ) (name : tree.TypeName.TypeName) → IsMeant e (in_field (words_of scope) name) → (is_enum (targets_of files e name.span.from) ≡ true) ↔ ResolvesToEnum files e scope name
  name_says e scope name h = search (rules, kind_says, kind_of)

  type_says : (e : Entry) (scope : List ℕ) (name : tree.TypeName.TypeName) → AllByRecursion (IsMeant e) (field_uses (words_of scope) name)
      → (may_be (scalar_named name) (targets_of files e name.span.from) ≡ true) ↔ IsPackable (scalar_named name) (ResolvesToEnum files e scope name)
  type_says e scope name h = search (rules, targets_of, name_says, no_scalar)

  member_says : (e : Entry) (scope : List ℕ) (m : DeclaredField) → MemberHolds (IsMeant e) (words_of scope) m → IsPackedByMeaning files e scope m
  member_says e scope m h = grind (arith, type_says, and_left, and_right, and_both, false≢true)

  -- ---- files

  abbrev IsSaid : Entry × Message → Type 0
  IsSaid x = AllByRecursion (IsPackedByMeaning files x.0 x.1.full) (members x.1.body)

  file_says : (e : Entry) → IsParsed e.1.bytes.items e.1.tree → AllByRecursion (HasTarget (resolve_in files e)) (file_uses e.1.tree) → AllByRecursion IsSaid (map (λ (m : Message). (e, m)) (file_messages e.1.tree))
  file_says e parsed resolved =
      let good : IsGoodFile e.1.tree = good_file e.1.tree (file_good e.1.bytes.items e.1.tree parsed) in
      let meant = all_meant e (file_uses e.1.tree) resolved (uses_found e.1.bytes.items e.1.tree parsed) in
      each_mapped IsSaid (λ (m : Message). (e, m)) (file_messages e.1.tree)
      (each_weaker (MessageHolds (IsMeant e)) (λ m. IsSaid (e, m)) (λ m h. each_weaker (MemberHolds (IsMeant e) (words_of m.full)) (IsPackedByMeaning files e m.full) (member_says e m.full) (members m.body) h)
      (file_messages e.1.tree) (messages_resolved (IsMeant e) e.1.tree good meant))

  files_say : (es : List Entry) → AllByRecursion (λ (e : Entry). IsParsed e.1.bytes.items e.1.tree) es → AllByRecursion (λ e. AllByRecursion (HasTarget (resolve_in files e)) (file_uses e.1.tree)) es
      → AllByRecursion IsSaid (messages_of es)
  files_say [] parsed resolved = tt
  files_say (e ∷ es) parsed resolved = search (rules, joined_all, file_says, files_say es parsed.1 resolved.1)

pub packed_fields : (l : LinkedFiles) → IsLinkedUp l → ArePackedByMeaning l.files
packed_fields l up =
    files_say l.files l.files (recursion_from_All (λ (e : Entry). IsParsed e.1.bytes.items e.1.tree) l.files up.parsed) (files_resolve l.files l.files l.targets up.resolved)
