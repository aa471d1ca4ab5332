-- Full names of the parts of linked files differ, and none is a part of a package.
use Rattle.std.proofs.Common.{◌≡◌, ◌∙◌, ℕ, zero, suc, ◌+◌, Bool, false, cond, List, [], ◌∷◌, ◌++◌, map, flat_map, codes, Option, Some, slice_get, is_some, string_bytes, ap, refl, arith, rules}
use Rattle.std.proofs.lemmas.Option.{same_Some}
use Rattle.pg_schema.specs.declared.parts.enum_type.EnumType.{EnumType}
use Rattle.pg_schema.specs.declared.parts.enum_type.EnumValue as schema_values
use Rattle.pg_schema.specs.declared.parts.field.Element.{Element}
use Rattle.pg_schema.specs.declared.parts.field.EnumId.{EnumId}
use Rattle.pg_schema.specs.declared.parts.field.Field.{Field}
use Rattle.pg_schema.specs.declared.parts.file.File.{File}
use Rattle.pg_schema.specs.declared.parts.message_type.MessageType.{MessageType}
use Rattle.pg_schema.specs.declared.parts.service.Service as schema_services
use Rattle.pg_schema.specs.rules.DeclaredNames as names
use Rattle.pg_schema.specs.rules.DeclaredNames.{entry_names, service_names, type_names, values_of}
use Rattle.pg_schema.specs.rules.Enums.{value_names}
use Rattle.pg_schema.specs.rules.Messages.{field_names}
use Rattle.pg_schema.specs.Shape.{is_map}
use Rattle.pg_link.specs.declared.uses.target.Target.{Target}
use Rattle.pg_link.specs.names.Names.{Text}
use Rattle.pg_check.specs.rules.Enums as enums
use Rattle.pg_check.specs.parts.MadeEnums.{MadeValue, enumeration, made_enum, made_values, value}
use Rattle.pg_check.specs.parts.MadeFields.{MadeField, field, labelled, made_field}
use Rattle.pg_check.specs.parts.MadeMessages.{AreFields, made_fields, oneof_in, oneofs}
use Rattle.pg_check.specs.parts.MadeServices.{service}
use Rattle.pg_check.specs.parts.MadeParts.{IsTypeOf, TypeTree}
use Rattle.pg_check.specs.rules.Members.{Mapped, DeclaredField, Plain, members, members_from, members_in, name_of, oneof_members, oneofs_in}
use Rattle.pg_check.specs.rules.Outline.{Enum}
use Rattle.pg_check.proofs.lemmas.parts.names.DeclaredTotals.{counts, inside, method_counts, of_made_service, oneof_part_names, part_names, value_texts}
use Rattle.pg_check.proofs.lemmas.parts.Totals.{one, times, total, total_flat, total_joined, total_map, total_moved, total_same}
use Rattle.pg_check.proofs.lemmas.parts.places.Regrouped.{everywhere}
use Rattle.pg_syntax.specs.declared.tree as tree
use Rattle.pg_syntax.specs.declared.tree.EnumPart.TheVariants as enum_parts
use Rattle.pg_syntax.specs.declared.tree.Label.{Label}
use Rattle.pg_syntax.specs.declared.tree.OneofPart.TheVariants as oneof_parts
use Rattle.pg_syntax.specs.declared.tree.Part.{Part}
use Rattle.pg_syntax.specs.declared.tree.Part.TheVariants as parts

-- ---- the names of fields, oneofs and map entries of a body

module _ (g : List ℕ → ℕ) where
  abbrev text_of : DeclaredField → List ℕ
  text_of m = string_bytes (name_of m).text

  abbrev entry_counts : DeclaredField → ℕ
  entry_counts (Plain f oneof) = 0
  entry_counts (Mapped m oneof) = g (names.entry_name (string_bytes m.name.text))

  abbrev member_counts : DeclaredField → ℕ
  member_counts m = g (text_of m) + entry_counts m

  oneof_names_are : (place : ℕ) (ps : List tree.OneofPart.OneofPart) → total g (flat_map oneof_part_names ps) ≡ total member_counts (oneof_members place ps)
  oneof_names_are place [] = refl
  oneof_names_are place (oneof_parts.Empty span ∷ ps) = oneof_names_are place ps
  oneof_names_are place (oneof_parts.Option o ∷ ps) = oneof_names_are place ps
  oneof_names_are place (oneof_parts.Map m ∷ ps) = let rest = oneof_names_are place ps in omega (arith, rest)
  oneof_names_are place (oneof_parts.Field f ∷ ps) = let rest = oneof_names_are place ps in omega (arith, rest)

  body_names_are : (place : ℕ) (ps : List Part) → total g (flat_map part_names ps) ≡ total member_counts (members_from place ps) + total g (oneofs ps)
  body_names_are place [] = refl
  body_names_are place (p ∷ ps) =
      let rest : total g (flat_map part_names ps) ≡ total member_counts (members_from (place + oneofs_in p) ps) + total g (oneofs ps) = body_names_are (place + oneofs_in p) ps in
      let first : total g (part_names p) ≡ total member_counts (members_in place p) + total g (oneof_in p) = one_part p in
      let names_both : total g (part_names p ++ flat_map part_names ps) ≡ total g (part_names p) + total g (flat_map part_names ps) = total_joined g (part_names p) (flat_map part_names ps) in
      let members_both : total member_counts (members_in place p ++ members_from (place + oneofs_in p) ps) ≡ total member_counts (members_in place p) + total member_counts (members_from (place + oneofs_in p) ps) = total_joined member_counts (members_in place p) (members_from (place + oneofs_in p) ps) in
      let oneofs_both : total g (oneof_in p ++ oneofs ps) ≡ total g (oneof_in p) + total g (oneofs ps) = total_joined g (oneof_in p) (oneofs ps) in
      omega (arith, rest, first, names_both, members_both, oneofs_both)
    where
      one_part : (q : Part) → total g (part_names q) ≡ total member_counts (members_in place q) + total g (oneof_in q)
      one_part (parts.Empty span) = refl
      one_part (parts.Message' name shape row span) = refl
      one_part (parts.Enum e) = refl
      one_part (parts.Oneof o) = let inner = oneof_names_are place o.parts.items in omega (arith, inner)
      one_part (parts.Option o) = refl
      one_part (parts.Reserved r) = refl
      one_part (parts.Map m) = omega arith
      one_part (parts.Field f) = omega arith

  -- of a field as it is made
  abbrev made_entries : MadeField → List (List ℕ)
  made_entries f = cond (is_map f.presence) (names.entry_name f.name ∷ []) []

  abbrev made_counts : MadeField → ℕ
  made_counts f = g f.name + total g (made_entries f)

  no_map : (l : Option Label) (b : Bool) (e : Element) (stated : Option Bool) → is_map (labelled l b e stated) ≡ false
  no_map l b e stated = grind arith

  one_made : (targets : ℕ → Option Target) (m : DeclaredField) → made_counts (made_field targets m) ≡ member_counts m
  one_made targets m = grind (arith, string_bytes, total, no_map, is_some, codes)

  fields_are : (targets : ℕ → Option Target) (body : List Part) (fields : List Field) → AreFields (made_fields targets body) fields
      → total g (field_names fields) + total g (entry_names fields) ≡ total member_counts (members body)
  fields_are targets body fields are =
      let made = made_fields targets body in
      let moved : total made_counts (map field fields) ≡ total made_counts made = total_moved made_counts made (map field fields) are.same in
      let of_members : total made_counts made ≡ total member_counts (members body) =
      total_map made_counts (made_field targets) (members body) ∙ total_same (λ m. made_counts (made_field targets m)) member_counts (members body) (everywhere _ (members body) (one_made targets)) in
      both fields ∙ (moved ∙ of_members)
    where
      both : (fs : List Field) → total g (field_names fs) + total g (entry_names fs) ≡ total made_counts (map field fs)
      both [] = refl
      both (f ∷ fs) = search (rules, total_joined, both fs)

-- ---- one message type

module _ (y : List ℕ) where
  abbrev f : Text → ℕ
  f = one (46 ∷ y)

  -- without what the values of its enums count
  abbrev pub own_counts : MessageType → ℕ
  own_counts t = one y (string_bytes t.name) + ((total (inside f (string_bytes t.name)) (field_names t.fields.items) + total (inside f (string_bytes t.name)) (map string_bytes t.oneofs.items)) + total (inside f (string_bytes t.name)) (entry_names t.fields.items))

  abbrev pub tree_counts : TypeTree → ℕ
  tree_counts w = counts f w.full + total (inside f w.full) (flat_map part_names w.body)

  pub own_is : (w : TypeTree) (t : MessageType) → IsTypeOf w t → own_counts t ≡ tree_counts w
  own_is w t is =
      let g = inside f w.full in
      let same : own_counts t ≡ one y w.full + ((total g (field_names t.fields.items) + total g (map string_bytes t.oneofs.items)) + total g (entry_names t.fields.items)) =
      ap (λ n. one y n + ((total (inside f n) (field_names t.fields.items) + total (inside f n) (map string_bytes t.oneofs.items)) + total (inside f n) (entry_names t.fields.items))) is.name in
      let fields : total g (field_names t.fields.items) + total g (entry_names t.fields.items) ≡ total (member_counts g) (members w.body) = fields_are g w.targets w.body t.fields.items is.fields in
      let one_ofs : total g (map string_bytes t.oneofs.items) ≡ total g (oneofs w.body) = ap (total g) is.oneofs in
      let body : total g (flat_map part_names w.body) ≡ total (member_counts g) (members w.body) + total g (oneofs w.body) = body_names_are g 0 w.body in
      omega (arith, same, fields, one_ofs, body)

  -- what the values of the enums in a scope count
  abbrev pub values_count : List EnumType → List ℕ → ℕ → ℕ
  values_count es scope i = total (inside f scope) (values_of (slice_get es i))

  pub type_is : (es : List EnumType) (t : MessageType) → times y (type_names es t) ≡ own_counts t + total (λ (id : EnumId). values_count es (string_bytes t.name) id.index) t.nested_enums.items
  type_is es t = search (rules, string_bytes, inside, total_map, one, total_joined, total_flat, slice_get)

  pub file_is_so : (es : List EnumType) (d : File) → times y (names.file_names es d) ≡ total (λ (id : EnumId). values_count es (string_bytes d.package) id.index) d.enums.items
  file_is_so es d = search (rules, total_map, one, string_bytes, total_flat, inside, slice_get)

  pub service_is_so : (s : schema_services.Service) → times y (service_names s) ≡ of_made_service f (service s)
  service_is_so s = search (rules, string_bytes, one, total_map, inside, method_counts)

  -- the values of an enum, as it is made
  pub enum_values_are : (e : EnumType) (m : Enum) → enumeration e ≡ made_enum m → value_names e.values.items ≡ value_texts m.tree.parts.items
  enum_values_are e m is = search (rules, again, texts)
    where
      again : (vs : List schema_values.EnumValue) → map (λ (v : MadeValue). v.name) (map value vs) ≡ value_names vs
      again [] = refl
      again (v ∷ vs) = ap (λ ns. string_bytes v.name ∷ ns) (again vs)

      texts : (ps : List enums.Part) → map (λ (v : MadeValue). v.name) (made_values ps) ≡ value_texts ps
      texts [] = refl
      texts (enum_parts.Empty span ∷ ps) = texts ps
      texts (enum_parts.Option o ∷ ps) = texts ps
      texts (enum_parts.Reserved r ∷ ps) = texts ps
      texts (enum_parts.Value v ∷ ps) = ap (λ ns. string_bytes v.name.text ∷ ns) (texts ps)

  pub values_looked : (es : List EnumType) (ms : List Enum) → map enumeration es ≡ map made_enum ms → (i : ℕ) (m : Enum) → slice_get ms i ≡ Some m → values_count es m.scope (0 + i) ≡ total (inside f m.scope) (value_texts m.tree.parts.items)
  values_looked es ms same i m at = search (rules, total, inside, found)
    where
      found : (xs : List EnumType) (ys : List Enum) → map enumeration xs ≡ map made_enum ys → (k : ℕ) → slice_get ys k ≡ Some m → values_of (slice_get xs k) ≡ value_texts m.tree.parts.items
      found [] [] is k here = absurd (cc (here))
      found [] (w ∷ ys) is k here = absurd (cc (is))
      found (x ∷ xs) [] is k here = absurd (cc (is))
      found (x ∷ xs) (w ∷ ys) is zero here = search (rules, same_Some, enum_values_are)
      found (x ∷ xs) (w ∷ ys) is (suc k) here = let others : map enumeration xs ≡ map made_enum ys = cc (is) in found xs ys others k here
