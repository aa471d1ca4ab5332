-- The entry takes the place of the one of its key, or is put between its neighbours.
use Rattle.std.proofs.Common.{List, ◌≡◌, ◌<◌, take, drop, length, get_or, subst, ◌∙◌}
use Rattle.std.specs.declared.cmp.Ordering.TheVariants.{Equal}
use Rattle.std.specs.List.{AllByRecursion}
use Rattle.pg_dyn.specs.declared.message_ref.EntryRef.{EntryRef}
use Rattle.pg_dyn.specs.message_ref.BorrowedItems.{key_of}
use Rattle.pg_dyn.specs.message.Message.{key_cmp}
use Rattle.pg_dyn.proofs.lemmas.reading.entries.EntryPlaces.{Below, NotBelow, put_over, put_between}
use Rattle.pg_dyn.proofs.reading.entries.put_in.Goals as goal

pub returns-then-has_key : goal.returns-then-has_key
returns-then-has_key c =
    let place = c.place_of_key-place.result in
    let e = c.args.entry in
    let low = subst (λ (es : List EntryRef). AllByRecursion (Below key_of (key_of e)) (take place es)) c.deref.ensures.value c.place_of_key-place.ensures.below in
    let here = c.has_key.ensures.here c.if-has_key.true in
    let at =
    subst (λ (es : List EntryRef). (place < length es) × (key_cmp (key_of e) (key_of (get_or es place e)) ≡ Equal)) c.deref-2.ensures.value
    (here.0, here.1 e) in
    put_over key_of c.args.entries.now.items place e e low at.0 at.1

pub returns : goal.returns
returns c =
    let place = c.place_of_key-place.result in
    let e = c.args.entry in
    let low = subst (λ (es : List EntryRef). AllByRecursion (Below key_of (key_of e)) (take place es)) c.deref.ensures.value c.place_of_key-place.ensures.below in
    let high =
    subst (λ (es : List EntryRef). AllByRecursion (NotBelow key_of (key_of e)) (drop place es)) c.deref.ensures.value c.place_of_key-place.ensures.from_there in
    let apart =
    subst (λ (es : List EntryRef). (d : EntryRef) → place < length es → key_cmp (key_of e) (key_of (get_or es place d)) ≡ Equal → ⊥) c.deref-2.ensures.value
    (c.has_key.ensures.not_here c.if-has_key.false) in
    c.in_ok-insert.ensures.items ∙ put_between key_of c.args.entries.now.items place e low high apart
