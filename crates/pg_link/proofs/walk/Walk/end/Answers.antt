use Rattle.std.proofs.Common.{◌≡◌, ◌∙◌, ℕ, List, None, subst, sym, false, string_bytes}
use Rattle.std.specs.HashMap.{get_by_text}
use Rattle.std.specs.String.{string_eq}
use Rattle.indexmap.proofs.CallerLemmas.{insert_entry-new}
use Rattle.pg_link.specs.inner.Walking.{has_path}
use Rattle.pg_link.proofs.lemmas.walk.PathLaws.{has_found, none_of}
use Rattle.pg_link.proofs.walk.Walk.end.Goals as goal

pub returns-clause-comes : goal.returns-clause-comes
returns-clause-comes c = λ absent.
    let old = c.args.self.now in
    let name = c.in_ok-path.path in
    let same : string_bytes name ≡ c.args.path.now = c.in_ok-path.ensures.ok in
    let none : get_by_text old.files (string_bytes name) ≡ None =
    none_of (get_by_text old.files (string_bytes name)) (sym (has_found old (string_bytes name))
    ∙ subst (λ (p : List ℕ). has_path old p ≡ false) (sym same) absent) in
    (name, same, c.in_ok-insert.ensures.entries ∙ insert_entry-new string_eq old.files name c.args.file none)
