use Rattle.std.proofs.Common.{refl}
use Rattle.pg_cert.specs.declared.heading.Heading.TheVariants as headings
use Rattle.pg_cert.proofs.Cuts.{none_lost}
use Rattle.pg_cert.proofs.HeadingsRead as headings_read
use Rattle.pg_cert.proofs.reading.read_heading.Goals as goal

pub returns-in-Some : goal.returns-in-Some
returns-in-Some c = λ heading. headings_read.read_as c.args.text.now _ headings.First heading c.in-Some.rest.now c.in-Some.ensures.only refl

pub returns-in-None : goal.returns-in-None
returns-in-None c =
    headings_read.read_heading c.args.text.now _ (λ rest is. none_lost _ c.after.result _ (c.after.ensures.found rest is) c.in-None.is) c.read_second.ensures
