-- What the code makes of a tree: imports, declared names and uses.
use Rattle.std.specs.Prelude.{string_bytes, ◌≡◌, List, ◌++◌, map}
use Rattle.pg_link.specs.declared.names.declares.DeclaredName as made
use Rattle.pg_link.specs.declared.walk.imports.ImportLine as lines
use Rattle.pg_link.specs.declared.uses.Site as sites
use Rattle.pg_link.specs.names.Files.{Import, Declared}
use Rattle.pg_link.specs.names.Names.{texts}
use Rattle.pg_link.specs.names.Resolves.{reference}
use Rattle.pg_link.specs.uses.Uses.{Use}

abbrev pub line_of : lines.ImportLine → Import
line_of l = record { path = string_bytes l.path; is_public = l.is_public; at = l.at }

-- a name that the code makes of a tree
abbrev pub declared_of : made.DeclaredName → Declared
declared_of d = record { name = string_bytes d.name; kind = d.kind; at = d.at }

-- after the old names come those that are declared here
abbrev pub AddsNames : (old new : List made.DeclaredName) (more : List Declared) → Type 0
AddsNames old new more = map declared_of new ≡ map declared_of old ++ more

abbrev pub use_of : sites.Site → Use
use_of s = record {
  scope = texts s.scope.value.items;
  name = reference s.name.now;
  at = s.name.now.span.from;
  takes_enums = s.takes_enums;
}

-- after the old uses come these
abbrev pub AddsUses : (old new : List sites.Site) (more : List Use) → Type 0
AddsUses old new more = map use_of new ≡ map use_of old ++ more
