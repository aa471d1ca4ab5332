use Rattle.std.proofs.Common.{◌≡◌, ◌∙◌, List, map, string_bytes, ap}
use Rattle.pg_link.specs.Linked.{LinkedFiles}
use Rattle.pg_link.specs.names.Files.{Declared}
use Rattle.pg_link.specs.names.Names.{without_dot}
use Rattle.pg_link.specs.uses.Targets.{all_declared, enum_names}
use Rattle.pg_link.specs.walk.Walk.{Entry}
use Rattle.pg_link.proofs.lemmas.uses.UseFaultLaws.{all_declared_are}
use Rattle.pg_link.proofs.linked.Linked.enum_names.Goals as goal

pub returns : goal.returns
returns c =
    let es : List Entry = c.self.inside.files.entries in
    let same : es ≡ c.args.self.now.files = ap (λ (l : LinkedFiles). l.files) c.self.view_is in
    ap (map string_bytes) c.deref.ensures.value
    ∙ (c.self.invariant.lists.1.enums
    ∙ (ap (λ (ds : List Declared). map without_dot (enum_names ds)) (all_declared_are es) ∙ ap (λ (l : List Entry). map without_dot (enum_names (all_declared l))) same))
