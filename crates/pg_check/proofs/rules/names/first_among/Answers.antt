use Rattle.std.proofs.Common.{map, sym, ◌∙◌, get_or, []}
use Rattle.std.specs.String.{string_bytes}
use Rattle.pg_schema.specs.rules.TextSets.{is_among}
use Rattle.pg_check.specs.declared.rules.names.Called.{Called}
use Rattle.pg_check.specs.rules.Names.{Named}
use Rattle.pg_check.specs.inner.NameFaults.{at, called}
use Rattle.pg_check.proofs.lemmas.rules.FirstLaws.{such_more}
use Rattle.pg_check.proofs.rules.names.first_among.Goals as goal

pub loop-name-preserved : goal.loop-name-preserved
loop-name-preserved c =
    let d : Called = record { text = record { ref_ptr = (0, 0); now = [] }; at = 0 } in
    let x : Called = get_or c.args.names.now c.loop-name.name-index d in
    let set = c.in_ok-set.ensures x.text.now in
    such_more called (λ (n : Named). is_among (map string_bytes c.args.reserved.now) n.text) at c.args.names.now c.loop-name.name-index d _ c.loop-name-test.true
    (sym set ∙ (sym c.contains.ensures ∙ c.if-contains.false)) c.loop-name.invariant
