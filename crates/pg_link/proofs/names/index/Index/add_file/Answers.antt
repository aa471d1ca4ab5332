use Rattle.std.proofs.Common.{◌≡◌, ◌∙◌, ℕ, Bool, List, [], ◌∷◌, ◌++◌, length, map, refl, sym, ap, subst, append_assoc, append-nil, arith}
use Rattle.std.specs.Vec.Iter.{into_iter_items}
use Rattle.pg_link.specs.declared.names.declares.DeclaredName as made
use Rattle.pg_link.specs.inner.Made.{declared_of}
use Rattle.pg_link.specs.inner.Indexed.{Adds, AddsAll}
use Rattle.pg_link.specs.names.Standing.{Standing, standing}
use Rattle.pg_link.proofs.lemmas.names.StandingLaws.{adds_more, map-twice, standing_of, stands_twice}
use Rattle.pg_link.specs.walk.Walk.{IsPlace}
use Rattle.pg_link.proofs.names.index.Index.add_file.Goals as goal

maps_both : {X Y : Type 0} (f : X → Y) (xs ys : List X) → map f (xs ++ ys) ≡ map f xs ++ map f ys
maps_both f [] ys = refl
maps_both f (x ∷ xs) ys = ap (λ l. f x ∷ l) (maps_both f xs ys)

none_left : {X : Type 0} (xs : List X) → length xs ≡ 0 → xs ≡ []
none_left [] is = refl
none_left (x ∷ xs) is = absurd (omega (arith, is))

pub loop-declared-preserved : goal.loop-declared-preserved
loop-declared-preserved c =
    let at = c.loop-declared in
    let d : made.DeclaredName = c.in-Some.declared in
    let n : ℕ = c.args.number in
    let old = c.args.self.now in
    let new = c.add.new.self in
    let steps : into_iter_items at.declared-iterator ≡ d ∷ into_iter_items c.next.new.self = c.in-Some.ensures.steps.0 in
    let was = at.invariant.left in
    let gone = c.in-Some.ensures.steps.1 in
    let short = ap length steps in
    record {
      whole = append_assoc at.yielded (d ∷ []) _ ∙ rw (← steps) at.invariant.whole;
      adds = subst (AddsAll old new) (sym (maps_both (standing_of n) at.yielded (d ∷ [])))
          (adds_more old at.self new (map (standing_of n) at.yielded) (standing_of n d) at.invariant.adds
          (subst (λ (b : Bool). Adds at.self new (standing_of n d) b) c.if-not-branch.false c.in_ok-add.ensures));
      left = omega arith;
    }

pub returns-then-not-branch-clause-twice : goal.returns-then-not-branch-clause-twice
returns-then-not-branch-clause-twice c =
    let at = c.loop-declared in
    let d : made.DeclaredName = c.in-Some.declared in
    let n : ℕ = c.args.number in
    let old = c.args.self.now in
    let new = c.add.new.self in
    let rest : List made.DeclaredName = into_iter_items c.next.new.self in
    let names : List made.DeclaredName = c.in_ok-names.names.items in
    let steps : into_iter_items at.declared-iterator ≡ d ∷ rest = c.in-Some.ensures.steps.0 in
    let whole : at.yielded ++ d ∷ rest ≡ names = ap (λ l. at.yielded ++ l) (sym steps) ∙ (at.invariant.whole ∙ c.into_iter-declared-iterator.ensures.into_iter_gives.0) in
    let front : List Standing = map (standing_of n) at.yielded in
    let back : List Standing = map (standing_of n) rest in (
      front,
      back,
      declared_of d,
      ap (map (standing n)) (sym c.in_ok-names.ensures) ∙ (map-twice n names ∙ (ap (map (standing_of n)) (sym whole) ∙ maps_both (standing_of n) at.yielded (d ∷ rest))),
      subst (λ (t : List ℕ). IsPlace c.in_ok-place.place c.args.path.now t d.at) c.deref.ensures.value c.in_ok-place.ensures,
      stands_twice old at.self new front (standing_of n d) at.invariant.adds (subst (λ (b : Bool). Adds at.self new (standing_of n d) b) c.if-not-branch.true c.in_ok-add.ensures),
    )

pub returns-clause-holds : goal.returns-clause-holds
returns-clause-holds c =
    let at = c.loop-declared in
    let n : ℕ = c.args.number in
    let names : List made.DeclaredName = c.in_ok-names.names.items in
    let none = c.in-None.ensures.steps in
    let empty : into_iter_items at.declared-iterator ≡ [] = none_left _ (sym at.invariant.left ∙ none.0) in
    let all : at.yielded ≡ names =
    sym (append-nil at.yielded) ∙ (ap (λ l. at.yielded ++ l) (sym empty) ∙ (at.invariant.whole ∙ c.into_iter-declared-iterator.ensures.into_iter_gives.0)) in
    subst (AddsAll c.args.self.now at.self)
    (ap (map (standing_of n)) all ∙ (sym (map-twice n names) ∙ ap (map (standing n)) c.in_ok-names.ensures)) at.invariant.adds
