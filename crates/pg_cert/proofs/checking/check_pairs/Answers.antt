use Rattle.std.proofs.Common.{sym, ◌∙◌, inl, inr}
use Rattle.std.proofs.lemmas.Result.{err_from_is_err_and}
use Rattle.pg_schema.specs.Parts.{shape_of}
use Rattle.pg_pairs.specs.graph.GraphView.{seen}
use Rattle.pg_cert.specs.Certificate.{bound_in}
use Rattle.pg_cert.proofs.Checks.{fault_here, no_fault_here, no_pair_here, none_is}
use Rattle.pg_cert.proofs.checking.check_pairs.Goals as goal
use Rattle.pg_cert.proofs.checking.check_pairs.Goals.{in-Some+in_ok-check_pair, in_default}

pub returns-in_err-check_pair : goal.returns-in_err-check_pair
returns-in_err-check_pair c =
    let enum_view = seen c.args.graph.now in
    let p = err_from_is_err_and c.from_residual.result c.from_residual.ensures.1 in
    rw (p.1, p.2)
    (elim c.in_err-check_pair.ensures [
      | inl memory ↦ inl memory
      | inr fault ↦
          inr
          (c.loop-at.invariant
          ∙ fault_here enum_view (shape_of c.args.graph.now.old.now) (shape_of c.args.graph.now.new.now) (bound_in c.args.bounds.now) c.args.bounds.now c.loop-at.at c.in-Some.line c.in_err-check_pair.field-0.0 (sym c.get.ensures ∙ c.in-Some.is) fault)
    ])

pub loop-at-preserved : goal.loop-at-preserved
loop-at-preserved c =
    let enum_view = seen c.args.graph.now in
    elim c.match-get.branch [
      | in-Some+in_ok-check_pair w ↦
          c.loop-at.invariant
          ∙ no_fault_here enum_view (shape_of c.args.graph.now.old.now) (shape_of c.args.graph.now.new.now) (bound_in c.args.bounds.now) c.args.bounds.now c.loop-at.at w.in-Some.line (sym c.get.ensures ∙ w.in-Some.is) w.in_ok-check_pair.ensures
      | in_default w ↦
          c.loop-at.invariant
          ∙ no_pair_here enum_view (shape_of c.args.graph.now.old.now) (shape_of c.args.graph.now.new.now) (bound_in c.args.bounds.now) c.args.bounds.now c.loop-at.at (sym c.get.ensures ∙ none_is c.get.result w.in_default.not-Some)
    ]
