use Rattle.std.proofs.Common.{refl}
use Rattle.pg_dyn.specs.declared.view_name.ViewName.TheVariants as views
use Rattle.pg_cert.specs.declared.heading.Heading.TheVariants as headings
use Rattle.pg_cert.proofs.Cuts.{none_lost}
use Rattle.pg_cert.proofs.HeadingsRead as headings_read
use Rattle.pg_cert.proofs.reading.read_second.Goals as goal

pub returns-in-Some : goal.returns-in-Some
returns-in-Some c =
    λ view. headings_read.read_as c.args.text.now _ (headings.Second views.Numbers) (headings.Second view) c.in-Some.rest.now c.in-Some.ensures.only refl

pub returns-in-None : goal.returns-in-None
returns-in-None c =
    headings_read.read_second c.args.text.now _ (λ rest is. none_lost _ c.after.result _ (c.after.ensures.found rest is) c.in-None.is) c.read_names.ensures
