use Rattle.std.proofs.Common.{◌≡◌, IfOk, subst}
use Rattle.std.specs.String.{string_bytes}
use Rattle.pg_dyn.specs.declared.view_name.ViewName.{ViewName}
use Rattle.pg_cert.specs.declared.heading.Heading.TheVariants as headings
use Rattle.pg_cert.specs.Text.{names_of, text_of}
use Rattle.pg_cert.proofs.writing.to_text.Goals as goal

pub returns-clause-second : goal.returns-clause-second
returns-clause-second c =
    subst (λ (view : ViewName). IfOk c.text_under.result (λ text. string_bytes text ≡ text_of (headings.Second view) (names_of c.args.old.now) (names_of c.args.new.now) c.args.certificate.now))
    c.view.ensures c.text_under.ensures.spelled
