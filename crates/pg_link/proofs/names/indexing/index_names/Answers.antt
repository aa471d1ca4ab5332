use Rattle.std.proofs.Common.{◌≡◌, ℕ, List, Some, sym, subst, take, slice_get}
use Rattle.std.proofs.lemmas.Result.{err_from_is_err_and}
use Rattle.pg_link.specs.inner.Indexed.{Lists}
use Rattle.pg_link.specs.names.Standing.{NoneTwice, all_standings}
use Rattle.pg_link.specs.walk.Walk.{Entry}
use Rattle.pg_link.proofs.lemmas.names.StandingLaws.{files_more, twice_in}
use Rattle.pg_link.proofs.names.indexing.index_names.Goals as goal

pub loop-number-preserved : goal.loop-number-preserved
loop-number-preserved c =
    let es : List Entry = c.args.files.now.entries in
    let i : ℕ = c.loop-number.number in
    let e : Entry = (c.in-Some.path.now, c.in-Some.file.now) in
    let at : slice_get es i ≡ Some e = sym c.in-Some.ensures.entry in
    let new = c.add_file.new.self in
    let inv = c.loop-number.invariant in
    let came = c.in_ok-add_file.ensures.holds (all_standings (take i es)) inv.lists in
    let same = sym (files_more es i e at) in
    record {
      lists = subst (Lists new) same came.0;
      once = subst NoneTwice same (came.1 inv.once);
    }

pub returns-in_err-add_file-clause-twice : goal.returns-in_err-add_file-clause-twice
returns-in_err-add_file-clause-twice c =
    let es : List Entry = c.args.files.now.entries in
    let i : ℕ = c.loop-number.number in
    let e : Entry = (c.in-Some.path.now, c.in-Some.file.now) in
    let at : slice_get es i ≡ Some e = sym c.in-Some.ensures.entry in
    let p = err_from_is_err_and c.from_residual.result c.from_residual.ensures.1 in
    rw (p.1, p.2) (twice_in c.loop-number.index es i e c.as_str.result.now c.in_err-add_file.field-0.0 at c.as_str.ensures.value
    c.loop-number.invariant.lists c.loop-number.invariant.once c.in_err-add_file.ensures.twice)
