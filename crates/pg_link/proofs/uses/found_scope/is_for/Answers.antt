use Rattle.std.proofs.Common.{◌≡◌, ◌∙◌, Bor, Vec, sym, ap}
use Rattle.std.specs.Global.{Global}
use Rattle.pg_link.specs.names.Names.{texts, Text}
use Rattle.pg_link.proofs.lemmas.uses.FoundScopeLaws.{not_other}
use Rattle.pg_link.proofs.uses.found_scope.is_for.Goals as goal

pub returns : goal.returns
returns c = λ same.
    let own : c.deref-2.result.now ≡ c.in-Some.outer.scope.value.items = c.deref-2.ensures.value ∙ ap (λ (v : Vec (Bor Text) Global). v.items) c.deref.ensures in
    let its : c.deref-4.result.now ≡ c.args.site.now.scope.value.items = c.deref-4.ensures.value ∙ ap (λ (v : Vec (Bor Text) Global). v.items) c.deref-3.ensures in record {
      outer = c.in-Some.outer;
      is_last = c.in-Some.is;
      same_scope = ap texts (sym own) ∙ (c.are_same.ensures same ∙ ap texts its);
      same_word = not_other c.in-Some.outer.word.now c.as_str.result.now c.ne.result c.ne.ensures c.if-ne.false ∙ c.as_str.ensures.value;
    }
