use Rattle.std.proofs.Common.{◌≡◌, ◌∙◌, ◌+◌, ◌++◌, ◌∷◌, [], ℕ, List, Some, length, slice_get, ap, sym, arith}
use Rattle.std.proofs.lemmas.List.{length-append}
use Rattle.pg_link.specs.walk.Walk.{Entry}
use Rattle.pg_link.proofs.lemmas.names.VisibleFilesLaws.{handed_more, visible_more, there_of}
use Rattle.pg_link.proofs.names.visible_files.visible_files_of.Goals as goal

one_longer : {X : Type 0} (old new : List X) (v : X) (i : ℕ) → length old ≡ i → new ≡ old ++ v ∷ [] → length new ≡ i + 1
one_longer old new v i many is = ap length is ∙ omega (arith, many, length-append old (v ∷ []))

pub marks_of-requires-clause-there : goal.marks_of-requires-clause-there
marks_of-requires-clause-there c =
    let e : Entry = (c.in-Some.field-0-0.now, c.in-Some.file.now) in
    there_of c.args.files.now.entries c.loop-number.number (length c.deref.result.now) e c.in_ok-lines.lines.items c.deref-in-loop-number.result.now c.requires.in_order
    (sym c.in-Some.ensures.entry) c.in_ok-lines.ensures c.deref-in-loop-number.ensures.value (ap length c.deref.ensures.value ∙ c.loop-number.invariant.handed_length)

pub handed_of-requires-clause-there : goal.handed_of-requires-clause-there
handed_of-requires-clause-there c =
    let e : Entry = (c.in-Some.field-0-0.now, c.in-Some.file.now) in
    there_of c.args.files.now.entries c.loop-number.number (length c.deref-in-loop-number-2.result.now) e c.in_ok-lines.lines.items c.deref-in-loop-number-3.result.now c.requires.in_order
    (sym c.in-Some.ensures.entry) c.in_ok-lines.ensures c.deref-in-loop-number-3.ensures.value (ap length c.deref-in-loop-number-2.ensures.value ∙ c.loop-number.invariant.handed_length)

pub loop-number-preserved : goal.loop-number-preserved
loop-number-preserved c =
    let es : List Entry = c.args.files.now.entries in
    let e : Entry = (c.in-Some.field-0-0.now, c.in-Some.file.now) in
    let i : ℕ = c.loop-number.number in
    let at : slice_get es i ≡ Some e = sym c.in-Some.ensures.entry in
    let inv = c.loop-number.invariant in record {
      handed_length = one_longer c.loop-number.handed.items c.push-in-loop-number.new.self.items c.in_ok-onwards.onwards i inv.handed_length c.in_ok-push-2.ensures.items;
      visible_files_length = one_longer c.loop-number.visible_files.items c.push.new.self.items c.in_ok-seen.seen i inv.visible_files_length c.in_ok-push.ensures.items;
      handed = handed_more es c.loop-number.handed.items c.push-in-loop-number.new.self.items c.in_ok-onwards.onwards c.in_ok-lines.lines.items c.deref-in-loop-number-3.result.now
          (length c.deref-in-loop-number-2.result.now) i e c.requires.in_order c.requires.apart at c.in_ok-lines.ensures c.deref-in-loop-number-3.ensures.value
          (ap length c.deref-in-loop-number-2.ensures.value ∙ inv.handed_length) inv.handed_length c.in_ok-push-2.ensures.items inv.handed c.in_ok-onwards.ensures;
      visible_files = visible_more es c.loop-number.visible_files.items c.push.new.self.items c.in_ok-seen.seen c.in_ok-lines.lines.items c.deref-in-loop-number.result.now
          (length c.deref.result.now) i e c.requires.in_order c.requires.apart at c.in_ok-lines.ensures c.deref-in-loop-number.ensures.value
          (ap length c.deref.ensures.value ∙ inv.handed_length) inv.visible_files_length c.in_ok-push.ensures.items inv.visible_files c.in_ok-seen.ensures;
    }
