use Rattle.std.proofs.Common.{◌∙◌, ap}
use Rattle.pg_cert.specs.Certificate.{bound_in}
use Rattle.pg_cert.proofs.Tables.{lookup-bound}
use Rattle.pg_cert.proofs.bounds.BoundsTable.bound.Goals as goal

pub returns : goal.returns
returns c = c.copied.ensures ∙ c.get.ensures.value ∙ lookup-bound c.self.inside.entries.entries c.args.pair ∙ ap (λ bounds. bound_in bounds c.args.pair) c.self.view_is
