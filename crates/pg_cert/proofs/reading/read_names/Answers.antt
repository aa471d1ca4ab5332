use Rattle.std.proofs.Common.{List, ℕ, Some, ap}
use Rattle.pg_dyn.specs.declared.view_name.ViewName.TheVariants as views
use Rattle.pg_cert.specs.declared.heading.Heading.TheVariants as headings
use Rattle.pg_cert.proofs.Cuts.{some_is, none_lost}
use Rattle.pg_cert.proofs.reading.read_names.Goals as goal

pub returns-in-Some : goal.returns-in-Some
returns-in-Some c =
    λ rest is.
    let same = some_is _ c.after.result _ _ (c.after.ensures.found rest is) c.in-Some.is in
    ap (λ (t : List ℕ). Some (headings.Second views.Names, t)) same

pub returns-in-None : goal.returns-in-None
returns-in-None c = λ rest is. none_lost _ c.after.result _ (c.after.ensures.found rest is) c.in-None.is
