use Rattle.std.proofs.Common.{◌≡◌, ◌∙◌, ◌∷◌, List, ℕ, Bor, Some, ap, sym, subst, string_bytes, arith}
use Rattle.std.proofs.lemmas.Option.{slice_get_within}
use Rattle.std.specs.HashMap.{get_by_text}
use Rattle.pg_link.specs.declared.names.index.Index as indexes
use Rattle.pg_link.specs.declared.names.Named as nameds
use Rattle.pg_link.specs.inner.Index.{files_of}
use Rattle.pg_link.specs.inner.Settled.{HasFirst, IsFirstPlace}
use Rattle.pg_link.specs.Linked.{IsDeclaredAt, IsDeclaredNowhere, LinkedFiles}
use Rattle.pg_link.specs.names.Names.{Text}
use Rattle.pg_link.specs.walk.Walk.{Entry}
use Rattle.pg_link.proofs.lemmas.names.PlaceLaws.{declared_nowhere, declared_there, has_first, if_none, if_some}
use Rattle.pg_link.proofs.linked.Linked.place.Goals as goal

pub returns-then-is_behind_dot-clause-place : goal.returns-then-is_behind_dot-clause-place
returns-then-is_behind_dot-clause-place c =
    let es : List Entry = c.self.inside.files.entries in
    let index : indexes.Index = c.self.inside.index in
    let same : es ≡ c.args.self.now.files = ap (λ (l : LinkedFiles). l.files) c.self.view_is in
    let n : nameds.Named = c.in-Some.named.now in
    let held : get_by_text index.names (string_bytes c.in-Some.name.now) ≡ Some n = c.in-Some.ensures.value in
    let dotted : string_bytes c.in-Some.name.now ≡ 46 ∷ c.args.full_name.now = sym c.as_str.ensures.value ∙ c.is_behind_dot.ensures.only c.if-is_behind_dot.true in
    if_some (λ (p : Bor Text × ℕ × ℕ). IsFirstPlace es (files_of n) n.at p.0.now p.1 p.2) (λ (p : Bor Text × ℕ × ℕ). IsDeclaredAt c.args.self.now.files c.args.full_name.now p.0.now p.1 p.2)
    c.first_place.result
    (λ p is. subst (λ (l : List Entry). IsDeclaredAt l c.args.full_name.now p.0.now p.1 p.2) same
    (declared_there index es c.args.full_name.now (string_bytes c.in-Some.name.now) n p.0.now p.1 p.2 c.self.invariant.lists held dotted is))
    c.first_place.ensures.place

pub returns-then-is_behind_dot-clause-absent : goal.returns-then-is_behind_dot-clause-absent
returns-then-is_behind_dot-clause-absent c =
    let es : List Entry = c.self.inside.files.entries in
    let index : indexes.Index = c.self.inside.index in
    let n : nameds.Named = c.in-Some.named.now in
    let held : get_by_text index.names (string_bytes c.in-Some.name.now) ≡ Some n = c.in-Some.ensures.value in
    if_none (HasFirst es (files_of n) → ⊥) (IsDeclaredNowhere c.args.self.now.files c.args.full_name.now) c.first_place.result
    (λ no. absurd (no (has_first index es (string_bytes c.in-Some.name.now) n c.self.invariant.lists held))) c.first_place.ensures.absent

pub returns-clause-absent : goal.returns-clause-absent
returns-clause-absent c =
    let es : List Entry = c.self.inside.files.entries in
    let index : indexes.Index = c.self.inside.index in
    let same : es ≡ c.args.self.now.files = ap (λ (l : LinkedFiles). l.files) c.self.view_is in
    subst (λ (l : List Entry). IsDeclaredNowhere l c.args.full_name.now) same
    (declared_nowhere index es c.args.full_name.now c.self.invariant.lists (λ k name n at dotted.
    c.loop-number.invariant k name n (omega (arith, slice_get_within index.names.entries k (name, n) at, c.loop-number-test.false, c.len-number-end.ensures.len)) at dotted))
