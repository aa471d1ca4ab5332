use Rattle.std.proofs.Common.{◌++◌, ◌∷◌, [], not, get_or, sym, ◌∙◌, ap, refl}
use Rattle.std.proofs.lemmas.List.{take_more}
use Rattle.std.specs.String.{string_bytes}
use Rattle.pg_schema.specs.inner.LentTexts.{has_lent}
use Rattle.pg_schema.proofs.lemmas.rules.PackageLemmas.{beyond_more, dot_and_held, dot_not_held, front_end, part_held}
use Rattle.pg_schema.proofs.rules.packages.is_free.Goals as goal

pub returns-then-ends_part : goal.returns-then-ends_part
returns-then-ends_part c =
    let i = c.loop-byte.byte-index in
    let front = string_bytes c.loop-byte.front in
    let byte = get_or c.args.path.now i 0 in
    let both = sym c.ends_part.ensures ∙ c.if-ends_part.true in
    let dot = dot_and_held byte (has_lent c.args.set.now c.deref.result.now) both in
    part_held i byte c.args.set.now c.args.path.now front c.loop-byte-test.true refl c.loop-byte.invariant.written dot.0
    (ap (has_lent c.args.set.now) (sym c.deref.ensures) ∙ dot.1)

pub loop-byte-preserved : goal.loop-byte-preserved
loop-byte-preserved c =
    let i = c.loop-byte.byte-index in
    let front = string_bytes c.loop-byte.front in
    let byte = get_or c.args.path.now i 0 in
    let neither = sym c.ends_part.ensures ∙ c.if-ends_part.false in
    record {
      written = c.in_ok-push_byte.ensures ∙ (ap (λ xs. xs ++ byte ∷ []) c.loop-byte.invariant.written ∙ sym (take_more c.args.path.now i 0 c.loop-byte-test.true));
      beyond = beyond_more i byte c.args.set.now c.args.path.now front c.loop-byte-test.true refl c.loop-byte.invariant.written
          (λ dot. ap (has_lent c.args.set.now) (sym c.deref.ensures) ∙ dot_not_held byte (has_lent c.args.set.now c.deref.result.now) dot neither)
          c.loop-byte.invariant.beyond;
    }

pub returns : goal.returns
returns c = λ names is.
    ap not c.contains.ensures ∙ (ap (λ t. not (has_lent c.args.set.now t)) c.as_str.ensures.value
    ∙ front_end c.loop-byte.byte-index c.args.set.now c.args.path.now (string_bytes c.loop-byte.front) c.loop-byte-test.false c.loop-byte.invariant.written c.loop-byte.invariant.beyond names is)
