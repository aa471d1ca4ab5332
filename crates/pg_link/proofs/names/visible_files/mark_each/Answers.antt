use Rattle.std.proofs.Common.{◌<◌, ℕ, Bool, List, get_or, length, refl, arith}
use Rattle.std.proofs.lemmas.List.{length-set}
use Rattle.pg_link.proofs.lemmas.names.FileMarks.{one_more_mark}
use Rattle.pg_link.proofs.names.visible_files.mark_each.Goals as goal

pub loop-number-preserved : goal.loop-number-preserved
loop-number-preserved c =
    let i : ℕ = c.loop-number.number-index in
    let numbers : List ℕ = c.args.numbers.now in
    let below : get_or numbers i 0 < length c.args.marks.now.items = c.requires i 0 c.loop-number-test.true in
    let within : get_or numbers i 0 < length c.loop-number.marks.items = omega (arith, below, c.loop-number.invariant.same_length) in
    record {
      same_length = omega (arith, length-set {A = Bool}, c.loop-number.invariant.same_length);
      so_far = one_more_mark c.args.marks.now.items c.loop-number.marks.items numbers i (get_or numbers i 0) c.loop-number-test.true refl within c.loop-number.invariant.so_far;
    }
