use Rattle.std.proofs.Common.{◌∙◌, slice_get, sym, ap}
use Rattle.std.specs.Option.{option_copied}
use Rattle.pg_schema.specs.Parts.{shape_of}
use Rattle.pg_pairs.specs.graph.GraphView.{seen}
use Rattle.rows_answer.proofs.Told.{choice_is_cause}
use Rattle.rows_answer.proofs.choices.first_carried.Goals as goal

pub carry_cause-requires : goal.carry_cause-requires
carry_cause-requires c =
    choice_is_cause (seen c.args.graph.now) (shape_of c.args.graph.now.old.now) (shape_of c.args.graph.now.new.now) c.args.pair
    c.in_ok-causes.causes.items c.causes_are_told.ensures c.in_ok-causes.ensures c.in-Some.cause.now
    (sym (ap (λ xs. slice_get xs 0) c.deref.ensures.value) ∙ (sym c.first.ensures.value ∙ ap option_copied c.in-Some.is))
