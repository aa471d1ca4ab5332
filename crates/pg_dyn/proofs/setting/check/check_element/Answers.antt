-- A scalar by its range, an enum as int32, a message by whether it fits.
use Rattle.std.proofs.Common.{Err, sym, subst, true≢false, ◌∙◌}
use Rattle.pg_schema.specs.declared.parts.field.Element.{Element}
use Rattle.pg_schema.specs.declared.parts.field.Scalar.TheVariants.{Int32}
use Rattle.pg_schema.specs.Parts.{shape_of}
use Rattle.pg_dyn.specs.setting.ContentFaults.{ElementFault}
use Rattle.pg_dyn.specs.fitting.ContentFits.{ItemFits}
use Rattle.pg_dyn.specs.inner.Reported.{Reports}
use Rattle.pg_dyn.specs.declared.error.DynError.TheVariants as errors
use Rattle.pg_dyn.proofs.lemmas.fitting.ItemLeaves.{child_text}
use Rattle.pg_dyn.proofs.lemmas.setting.ContentChecks.{reported_scalar, reported_other}
use Rattle.pg_dyn.proofs.setting.check.check_element.Goals as goal

pub returns-in-Scalar : goal.returns-in-Scalar
returns-in-Scalar c =
    subst (λ (e : Element). Reports (ItemFits (shape_of c.args.schema.now) e c.args.value.now) (ElementFault (shape_of c.args.schema.now) e c.args.value.now) c.check_item.result) (sym c.in-Scalar.is)
    (reported_scalar c.in-Scalar.scalar c.args.value.now c.check_item.result c.check_item.ensures.fits.0 c.check_item.ensures.fault)

pub returns-in-Enum : goal.returns-in-Enum
returns-in-Enum c =
    subst (λ (e : Element). Reports (ItemFits (shape_of c.args.schema.now) e c.args.value.now) (ElementFault (shape_of c.args.schema.now) e c.args.value.now) c.check_item-in-Enum.result) (sym c.in-Enum.is)
    (reported_scalar Int32 c.args.value.now c.check_item-in-Enum.result c.check_item-in-Enum.ensures.fits.0 c.check_item-in-Enum.ensures.fault)

pub returns-else-fits : goal.returns-else-fits
returns-else-fits c =
    let none = λ (h : ItemFits (shape_of c.args.schema.now) c.args.element c.args.value.now).
    absurd (true≢false (sym (c.fits.ensures.1 (h, child_text (shape_of c.args.schema.now) c.args.element _ c.in-Message.is c.args.value.now h)) ∙ c.if-fits.false)) in
    subst (λ (e : Element). Reports (ItemFits (shape_of c.args.schema.now) e c.args.value.now) (ElementFault (shape_of c.args.schema.now) e c.args.value.now) (Err errors.WrongKind)) (sym c.in-Message.is)
    (reported_other (shape_of c.args.schema.now) _ c.args.value.now (subst (λ (e : Element). ItemFits (shape_of c.args.schema.now) e c.args.value.now → ⊥) c.in-Message.is none))
