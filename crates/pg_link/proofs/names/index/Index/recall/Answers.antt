use Rattle.std.proofs.Common.{◌≡◌, ◌∙◌, List, [], ◌∷◌, Option, Some, None, Bor, String, Vec, ap, ap₂, refl, string_bytes}
use Rattle.std.specs.Global.{Global}
use Rattle.std.specs.Option.{option_map}
use Rattle.pg_syntax.specs.declared.tree as tree
use Rattle.pg_link.specs.declared.names.Named as nameds
use Rattle.pg_link.specs.inner.Index.{names_seen}
use Rattle.pg_link.specs.names.Names.{texts, Names, Text, called}
use Rattle.pg_link.specs.names.Resolves.{innermost, part_words, sought_among}
use Rattle.pg_link.proofs.lemmas.uses.FoundScopeLaws.{now_recalls}
use Rattle.pg_link.proofs.names.index.Index.recall.Goals as goal

-- the bytes of the scope's name
scope_bytes : (found : Option (String Global × Bor Text × Bor nameds.Named)) → option_map string_bytes (option_map (λ f. f.0) found) ≡ option_map (λ f. string_bytes f.0) found
scope_bytes None = refl
scope_bytes (Some f) = refl

pub returns-then-is_for : goal.returns-then-is_for
returns-then-is_for c = record { recalls = c.requires.recalls; is_for = c.is_for.ensures c.if-is_for.true }

pub returns : goal.returns
returns c =
    let site = c.args.site.now in
    let names : Names = names_seen c.args.self.now.names (Some c.args.visible.marks.now) in
    let word : Text = c.as_str-word.result.now in
    let scope : c.deref-3.result.now ≡ site.scope.value.items = c.deref-3.ensures.value ∙ ap (λ (v : Vec (Bor Text) Global). v.items) c.deref-2.ensures in
    let same_scope : texts c.in_ok-scope.scope.value.items ≡ texts site.scope.value.items = ap (λ (v : Vec (Bor Text) Global). texts v.items) c.in_ok-scope.ensures.cases in
    now_recalls names site.name.now.path.more.items (texts site.scope.value.items) (string_bytes site.name.now.path.first.text) _ c.requires.dotted.ends c.as_str-word.ensures.value same_scope
    (ap (option_map string_bytes) c.scope_of-full.ensures ∙ (scope_bytes c.in_ok-found.found ∙ c.in_ok-found.ensures.outer)
    ∙ ap₂ (λ (m : List tree.Name.Name) (s : List (Bor Text)). option_map called (innermost names (sought_among (part_words m)) (called (word ∷ [])) (texts s))) c.deref.ensures.value scope)
