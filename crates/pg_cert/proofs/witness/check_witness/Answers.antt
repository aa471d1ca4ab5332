-- The three clauses, one after the other.
use Rattle.std.proofs.Common.{◌∙◌, inr, subst, sym, true≢false}
use Rattle.pg_schema.specs.Parts.{shape_of}
use Rattle.pg_pairs.specs.graph.GraphView.{seen}
use Rattle.pg_cert.specs.inner.WitnessRead.{IsReadBack}
use Rattle.pg_cert.proofs.WitnessSteps.{keeps_of, own_within, own_written, witnessed_of, written_of}
use Rattle.pg_cert.proofs.witness.check_witness.Goals as goal

pub returns-then-not-has_length : goal.returns-then-not-has_length
returns-then-not-has_length c =
    let writing = subst (IsReadBack (shape_of c.args.graph.now.old.now) c.args.root c.args.bytes.now) c.in-Some.is c.in_ok-message.ensures in
    inr (
      written_of (shape_of c.args.graph.now.old.now) c.args.root c.args.bytes.now c.in-Some.message writing,
      λ long. true≢false (sym (c.has_length.ensures.1 long) ∙ c.if-not-has_length.true),
    )

pub breaks_as_written-requires-clause-fits : goal.breaks_as_written-requires-clause-fits
breaks_as_written-requires-clause-fits c =
    let writing = subst (IsReadBack (shape_of c.args.graph.now.old.now) c.args.root c.args.bytes.now) c.in-Some.is c.in_ok-message.ensures in
    writing.fits

pub breaks_as_written-requires-clause-written : goal.breaks_as_written-requires-clause-written
breaks_as_written-requires-clause-written c =
    let writing = subst (IsReadBack (shape_of c.args.graph.now.old.now) c.args.root c.args.bytes.now) c.in-Some.is c.in_ok-message.ensures in
    own_written (shape_of c.args.graph.now.old.now) c.args.root c.args.bytes.now c.in-Some.message writing

pub breaks_as_written-requires-clause-within : goal.breaks_as_written-requires-clause-within
breaks_as_written-requires-clause-within c =
    let writing = subst (IsReadBack (shape_of c.args.graph.now.old.now) c.args.root c.args.bytes.now) c.in-Some.is c.in_ok-message.ensures in
    own_within (shape_of c.args.graph.now.old.now) c.args.root c.args.bytes.now c.in-Some.message writing

pub returns-then-not-branch : goal.returns-then-not-branch
returns-then-not-branch c =
    let enum_view = seen c.args.graph.now in
    let writing = subst (IsReadBack (shape_of c.args.graph.now.old.now) c.args.root c.args.bytes.now) c.in-Some.is c.in_ok-message.ensures in
    let exact = c.in_ok-breaks_as_written.ensures in
    inr (
      written_of (shape_of c.args.graph.now.old.now) c.args.root c.args.bytes.now c.in-Some.message writing,
      c.has_length.ensures.0 c.if-not-has_length.false,
      keeps_of (shape_of c.args.graph.now.old.now) c.args.root c.args.bytes.now c.in-Some.message writing enum_view (shape_of c.args.graph.now.new.now) c.args.bound c.reads_again.ensures c.parts.ensures.checked.shape
          (λ breaks. true≢false (sym (exact.1 (writing.type_is, breaks)) ∙ c.if-not-branch.true)),
    )

pub returns : goal.returns
returns c =
    let enum_view = seen c.args.graph.now in
    let writing = subst (IsReadBack (shape_of c.args.graph.now.old.now) c.args.root c.args.bytes.now) c.in-Some.is c.in_ok-message.ensures in
    let exact = c.in_ok-breaks_as_written.ensures in
    witnessed_of (shape_of c.args.graph.now.old.now) c.args.root c.args.bytes.now c.in-Some.message writing enum_view (shape_of c.args.graph.now.new.now) c.args.bound (c.has_length.ensures.0 c.if-not-has_length.false) (exact.0 c.if-not-branch.false).1
