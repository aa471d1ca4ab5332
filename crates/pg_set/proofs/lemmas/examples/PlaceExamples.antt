-- Indices in order of declaration, by small examples: each by computation.
use Rattle.std.proofs.Common.{◌≡◌, ℕ, ◌&&◌, true, List, [], ◌∷◌, ◌++◌, length, map, refl, ap, ap₂, sym, subst, ◌∙◌}
use Rattle.std.specs.List.{flat_map, list_all}
use Rattle.std.specs.String.{string_bytes}
use Rattle.pg_schema.specs.declared.parts.file.File.{File}
use Rattle.pg_schema.specs.declared.parts.file.Import.{Import}
use Rattle.pg_schema.specs.declared.parts.message_type.MessageType.{MessageType}
use Rattle.pg_schema.specs.rules.Pairs.{are_distinct}
use Rattle.pg_schema.specs.rules.Scopes.{declared_services, enum_places, service_places}
use Rattle.pg_schema.specs.standing.Imports.{AreBehind, imports_among, imports_apart}
use Rattle.pg_schema.specs.standing.InOrder.{enums_below, file_enums, file_types, types_below}
use Rattle.pg_schema.specs.standing.Nesting.{nest_within}
use Rattle.pg_schema.specs.standing.Places.{places_from}
use Rattle.pg_set.specs.examples.PlaceExamples.{EnumsInOrder, OneFieldAgain, OneFieldInOrder, PackageEnumsFirst, TypesInOrder, WorkedPlaces}

types_in_order : TypesInOrder
types_in_order outer inner last nested =
    let all = outer ∷ inner ∷ last ∷ [] in
    ap₂ (λ a b. 0 ∷ (a ++ (2 ∷ (b ++ [])))) (ap (types_below 2 all) nested.outside ∙ ap (λ ids. 1 ∷ (types_below 1 all ids ++ [])) nested.inside) (ap (types_below 2 all) nested.behind)

enums_in_order : EnumsInOrder
enums_in_order outer inner last nested its inners none =
    let all = outer ∷ inner ∷ last ∷ [] in
    let inside : enums_below 2 all outer.nested_types.items ≡ 1 ∷ [] =
    ap (enums_below 2 all) nested.outside ∙ ap₂ (λ ids own. (enum_places own ++ enums_below 1 all ids) ++ []) nested.inside inners in
    let behind : enum_places last.nested_enums.items ++ enums_below 2 all last.nested_types.items ≡ [] = ap₂ (λ ids own. enum_places own ++ enums_below 2 all ids) nested.behind none in
    ap₂ (λ (a b : List ℕ). (enum_places outer.nested_enums.items ++ a) ++ (b ++ [])) inside behind ∙ ap (λ own. (enum_places own ++ (1 ∷ [])) ++ []) its

pub one_field_in_order : OneFieldInOrder
one_field_in_order parts file t a is m no_enums no_services = record {
  types = ap₂ (λ ts fs. flat_map (file_types ts) fs) is.types is.files
      ∙ (ap (λ ids. types_below 100 (t ∷ []) ids ++ []) is.file_fits.types ∙ (ap (λ ids. (0 ∷ (types_below 99 (t ∷ []) ids ++ [])) ++ []) m.no_types ∙ sym (ap (λ (ts : List MessageType). places_from 0 (length ts)) is.types)));
  enums = ap₂ (λ ts fs. flat_map (file_enums ts) fs) is.types is.files
      ∙ (ap₂ (λ ids own. (enum_places own ++ enums_below 100 (t ∷ []) ids) ++ []) is.file_fits.types is.file_fits.enums
      ∙ (ap₂ (λ ids own. ((enum_places own ++ enums_below 99 (t ∷ []) ids) ++ []) ++ []) m.no_types m.no_enums ∙ sym (ap (λ es. places_from 0 (length es)) no_enums)));
  services = ap declared_services is.files ∙ (ap (λ ids. service_places ids ++ []) is.file_fits.services ∙ sym (ap (λ ss. places_from 0 (length ss)) no_services));
}

one_field_again : OneFieldAgain
one_field_again parts file t a is m no_enums no_services = record {
  places = one_field_in_order parts file t a is m no_enums no_services;
  imports_once = ap (list_all imports_apart) is.files ∙ ap (λ (imports : List Import). are_distinct (map (λ (i : Import). string_bytes i.path) imports) && true) is.file_fits.imports;
  behind = subst (AreBehind []) (sym is.files) (ap (imports_among []) is.file_fits.imports, refl, tt);
  shallow = ap₂ (λ (ts : List MessageType) (fs : List File). list_all (λ (f : File). nest_within 64 ts f.types.items) fs) is.types is.files
      ∙ (ap (λ ids. nest_within 64 (t ∷ []) ids && true) is.file_fits.types ∙ ap (λ ids. (nest_within 63 (t ∷ []) ids && true) && true) m.no_types);
}

package_enums_first : PackageEnumsFirst
package_enums_first parts file t is =
    ap₂ (λ ts fs. flat_map (file_enums ts) fs) is.types is.files ∙ (ap₂ (λ ids own. (enum_places own ++ enums_below 100 (t ∷ []) ids) ++ []) is.file_types is.file_enums
    ∙ ap₂ (λ ids own. ((0 ∷ []) ++ ((enum_places own ++ enums_below 99 (t ∷ []) ids) ++ [])) ++ []) is.none_inside is.inner_enum)

pub worked_places : WorkedPlaces
worked_places = record {
  types = types_in_order;
  enums = enums_in_order;
  one_field = one_field_in_order;
  again = one_field_again;
  package_first = package_enums_first;
}
