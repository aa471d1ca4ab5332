use Rattle.std.proofs.Common.{◌≡◌, ◌++◌, [], length, ap, sym, ◌∙◌, arith}
use Rattle.std.proofs.lemmas.List.{append-nil}
use Rattle.std.proofs.lemmas.Result.{err_from_is_err_and}
use Rattle.pg_schema.specs.Parts.{shape_of}
use Rattle.pg_dyn.specs.encoding.Written.{inner_lengths, own_bytes}
use Rattle.pg_dyn.proofs.encoding.encode_lent.Goals as goal

pub returns-clause-ok : goal.returns-clause-ok
returns-clause-ok g c =
    let m = g.M.Lends.kept c.args.message.now in
    let lengths = c.deref.ensures.value ∙ c.in_ok-len.ensures.inner ∙ ap (λ xs. xs ++ inner_lengths (shape_of c.args.schema.now) m) c.new-lengths.ensures.items in
    let wrote = c.in_ok-write_message.ensures.ok [] (lengths ∙ sym (append-nil (inner_lengths (shape_of c.args.schema.now) m))) in
    let is : c.write_message.new.out.items ≡ own_bytes (shape_of c.args.schema.now) m = wrote.0 ∙ ap (λ xs. xs ++ own_bytes (shape_of c.args.schema.now) m) c.in_ok-out.ensures.items in
    (is, omega (arith, ap length is, c.in_ok-len.ensures.len, c.if-len-gt-MAX_ENCODING_LEN.false))

pub returns-in_err-write_message-clause-err : goal.returns-in_err-write_message-clause-err
returns-in_err-write_message-clause-err g c =
    let m = g.M.Lends.kept c.args.message.now in
    let lengths = c.deref.ensures.value ∙ c.in_ok-len.ensures.inner ∙ ap (λ xs. xs ++ inner_lengths (shape_of c.args.schema.now) m) c.new-lengths.ensures.items in
    let p = err_from_is_err_and c.from_residual-in_err-write_message.result c.from_residual-in_err-write_message.ensures.1 in
    rw (p.1, p.2) (c.in_err-write_message.ensures.err [] (lengths ∙ sym (append-nil (inner_lengths (shape_of c.args.schema.now) m))))
