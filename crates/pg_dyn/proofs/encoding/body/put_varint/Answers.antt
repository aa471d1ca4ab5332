use Rattle.std.proofs.Common.{[], ◌∷◌, ◌++◌, ◌+◌, ◌%◌, ap, refl, sym, ◌∙◌, arith, append_assoc, append-nil, length-append}
use Rattle.pg_wire.proofs.Spelling.{IsPartOf-more, IsPartOf-none, written_last}
use Rattle.pg_dyn.proofs.encoding.body.put_varint.Goals as goal

pub loop-rest-init : goal.loop-rest-init
loop-rest-init c = record { written = []; part = IsPartOf-none c.args.value (omega arith); added = sym (append-nil c.args.out.now.items); len = omega arith; capacity = refl }

pub loop-rest-preserved : goal.loop-rest-preserved
loop-rest-preserved c =
    let l = c.loop-rest in
    let w = l.invariant.written in
    let b = 128 + l.rest % 128 in
    record {
      written = w ++ b ∷ [];
      part = IsPartOf-more c.args.value w l.rest l.invariant.part c.loop-rest-test.true;
      added = c.push_reserved.ensures.items ∙ ap (λ xs. xs ++ b ∷ []) l.invariant.added ∙ append_assoc c.args.out.now.items w (b ∷ []);
      len = omega (arith, c.push_reserved.ensures.len, l.invariant.len, length-append w (b ∷ []));
      capacity = c.push_reserved.ensures.capacity ∙ l.invariant.capacity;
    }

pub returns : goal.returns
returns c =
    let l = c.loop-rest in
    let w = l.invariant.written in
    c.push_reserved-2.ensures.items ∙ ap (λ xs. xs ++ l.rest ∷ []) l.invariant.added ∙ append_assoc c.args.out.now.items w (l.rest ∷ [])
    ∙ ap (λ xs. c.args.out.now.items ++ xs) (written_last c.args.value w l.rest l.invariant.part c.loop-rest-test.false)
