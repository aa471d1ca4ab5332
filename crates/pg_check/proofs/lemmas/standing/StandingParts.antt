-- The parts of linked files are in the order of a schema that a set states.
use Rattle.std.proofs.Common.{◌≡◌, true, arith}
use Rattle.std.specs.List.{list_all}
use Rattle.pg_schema.specs.declared.parts.file.File.{File}
use Rattle.pg_schema.specs.declared.parts.Parts.{Parts}
use Rattle.pg_schema.specs.rules.Sound.{IsSound}
use Rattle.pg_link.specs.Linked.{IsLinkedUp, LinkedFiles}
use Rattle.pg_check.specs.Declares.{Declares}
use Rattle.pg_check.specs.parts.Sources.{linked_sources}
use Rattle.pg_schema.specs.standing.Nesting.{nest_within}
use Rattle.pg_schema.specs.standing.Places.{most_deep}
use Rattle.pg_schema.specs.standing.StandingParts.{StandingParts}
use Rattle.pg_check.proofs.lemmas.parts.SoundParts.{linked_sound}
use Rattle.pg_check.proofs.lemmas.standing.Depths.{nested_within}
use Rattle.pg_check.proofs.lemmas.standing.EnumsInOrder.{enums_in_order}
use Rattle.pg_check.proofs.lemmas.standing.FilesBehind.{texts_import_once, texts_stand_behind}
use Rattle.pg_check.proofs.lemmas.standing.ServicesInOrder.{services_in_order}
use Rattle.pg_check.proofs.lemmas.standing.TypesInOrder.{types_in_order}

pub standing_parts : (linked : LinkedFiles) (parts : Parts) → IsLinkedUp linked → Declares (linked_sources linked.files) parts → StandingParts parts
standing_parts linked parts up h =
    let sources = linked_sources linked.files in
    let are = h.has_parts in
    let sound : IsSound parts = linked_sound linked parts up h in
    let nest : list_all (λ (f : File). nest_within most_deep parts.types.items f.types.items) parts.files.items ≡ true =
    nested_within most_deep (omega arith) linked parts up h sound.few_types in
    record {
      imports_once = texts_import_once linked parts up h;
      behind = texts_stand_behind linked parts up h;
      shallow = nested_within 64 (omega arith) linked parts up h sound.few_types;
      places = record {
        types = types_in_order most_deep sources parts are sound nest;
        enums = enums_in_order most_deep sources parts are sound nest;
        services = services_in_order sources parts are;
      };
    }
