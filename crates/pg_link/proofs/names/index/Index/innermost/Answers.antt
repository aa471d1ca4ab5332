use Rattle.std.proofs.Common.{◌≡◌, ◌∷◌, ◌++◌, [], ◌∙◌, ◌-◌, Bor, IfSome, Option, Some, ap, sym, subst, take, true, false, is_some, string_bytes, arith}
use Rattle.pg_link.specs.declared.names.Named as nameds
use Rattle.pg_link.specs.names.Names.{texts, Text, called, bears}
use Rattle.pg_link.specs.inner.Index.{names_seen, visible_of}
use Rattle.pg_link.specs.names.Resolves.{borne, sought_among, part_words}
use Rattle.pg_link.proofs.lemmas.names.ResolvesLaws.{ends_here, goes_outwards, last_word, none_is}
use Rattle.pg_link.proofs.names.index.Index.innermost.Goals as goal

pub pop_word-requires-in-scopes : goal.pop_word-requires-in-scopes
pop_word-requires-in-scopes c = (
  called (texts (take (c.scopes.len - 1) c.args.scope.now)),
  last_word c.args.scope.now c.scopes.len (string_bytes c.pop_word.new.text) c.scopes.invariant.within c.if-len-eq0.false
      (c.pop_word.ensures (string_bytes c.scopes.full) c.in_ok-push_word.ensures ∙ c.scopes.invariant.text),
)

pub returns-in-Some-clause-outer : goal.returns-in-Some-clause-outer
returns-in-Some-clause-outer c =
    let names = names_seen c.args.self.now.names (visible_of c.args.visible) in
    let test = sought_among (part_words c.args.parts.now) in
    let part = called (c.args.word.now ∷ []) in
    let outer : Text = string_bytes c.scopes.full in
    let same : string_bytes c.pop_word.new.text ≡ outer = c.pop_word.ensures outer c.in_ok-push_word.ensures in
    let here : bears names test (string_bytes c.pop_word.new.text ++ part) ≡ true =
    subst (λ (t : Text). bears names test t ≡ true) (c.as_str.ensures.value ∙ (c.in_ok-push_word.ensures ∙ ap (λ (t : Text). t ++ part) (sym same)))
    (sym c.ended-ended.ensures.ends ∙ ap is_some c.in-Some.is) in
    ends_here names test part (texts c.args.scope.now) (texts (take c.scopes.len c.args.scope.now)) (string_bytes c.pop_word.new.text)
    c.scopes.invariant.same (same ∙ c.scopes.invariant.text) here

pub returns-in-Some-clause-borne : goal.returns-in-Some-clause-borne
returns-in-Some-clause-borne c =
    let names = names_seen c.args.self.now.names (visible_of c.args.visible) in
    let part = called (c.args.word.now ∷ []) in
    let outer : Text = string_bytes c.scopes.full in
    let same : string_bytes c.pop_word.new.text ≡ outer = c.pop_word.ensures outer c.in_ok-push_word.ensures in
    subst (λ (o : Option (Bor Text × Bor nameds.Named)). IfSome o (λ f. Some (f.0.now, f.1.now.kind) ≡ borne names c.as_str.result.now)) c.in-Some.is c.ended-ended.ensures.borne
    ∙ ap (borne names) (c.as_str.ensures.value ∙ (c.in_ok-push_word.ensures ∙ ap (λ (t : Text). t ++ part) (sym same)))

pub scopes-preserved : goal.scopes-preserved
scopes-preserved c =
    let names = names_seen c.args.self.now.names (visible_of c.args.visible) in
    let test = sought_among (part_words c.args.parts.now) in
    let part = called (c.args.word.now ∷ []) in
    let none : bears names test (called (texts (take c.scopes.len c.args.scope.now)) ++ part) ≡ false =
    subst (λ (t : Text). bears names test t ≡ false) (c.as_str.ensures.value ∙ (c.in_ok-push_word.ensures ∙ ap (λ (t : Text). t ++ part) c.scopes.invariant.text))
    (sym c.ended-ended.ensures.ends ∙ ap is_some (none_is c.ended-ended.result c.in_default.not-Some)) in
    record {
      within = omega (arith, c.scopes.invariant.within);
      text =
          c.pop_word-in-scopes.ensures (called (texts (take (c.scopes.len - 1) c.args.scope.now)))
          (last_word c.args.scope.now c.scopes.len (string_bytes c.pop_word.new.text) c.scopes.invariant.within c.if-len-eq0.false
          (c.pop_word.ensures (string_bytes c.scopes.full) c.in_ok-push_word.ensures ∙ c.scopes.invariant.text));
      same = goes_outwards names test part c.args.scope.now c.scopes.len c.scopes.invariant.within c.if-len-eq0.false none ∙ c.scopes.invariant.same;
    }
