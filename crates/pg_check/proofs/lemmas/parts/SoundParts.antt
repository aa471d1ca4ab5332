-- The parts of linked files that keep to the rules are those of a schema.
use Rattle.std.proofs.Common.{rules}
use Rattle.pg_schema.specs.declared.parts.Parts.{Parts}
use Rattle.pg_schema.specs.rules.Sound.{IsSound}
use Rattle.pg_link.specs.Linked.{IsLinkedUp, LinkedFiles}
use Rattle.pg_check.specs.Declares.{Declares}
use Rattle.pg_check.specs.parts.Sources.{linked_sources}
use Rattle.pg_check.proofs.lemmas.parts.names.FreePackages.{free_packages}
use Rattle.pg_check.proofs.lemmas.parts.kept.KeptFiles.{kept_parts}
use Rattle.pg_check.proofs.lemmas.parts.LinkedParts.{linked_parts}
use Rattle.pg_check.proofs.lemmas.parts.places.PartPlaces.{declared_once, file_scopes, type_scopes}
use Rattle.pg_check.proofs.lemmas.parts.names.PlacedNames.{names_differ, settled_files, values_once}
use Rattle.pg_check.proofs.lemmas.parts.Wholes.{sound_from}

pub linked_sound : (l : LinkedFiles) (parts : Parts) → IsLinkedUp l → Declares (linked_sources l.files) parts → IsSound parts
linked_sound l parts up h = search (rules, kept_parts, settled_files, sound_from, linked_parts, values_once, declared_once, file_scopes, type_scopes, names_differ, free_packages)
