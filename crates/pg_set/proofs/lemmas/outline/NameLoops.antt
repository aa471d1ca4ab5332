-- What messages say, as loops come to them.
use Rattle.std.proofs.Common.{◌≡◌, ℕ, zero, suc, ◌+◌, ◌<◌, List, [], ◌∷◌, ◌++◌, map, length, take, drop, get_or, ap, sym, subst, ◌∙◌, arith, append_assoc, append-nil}
use Rattle.std.proofs.lemmas.Grind.{flat_map-append}
use Rattle.std.specs.List.{AllByRecursion, flat_map}
use Rattle.pg_dyn.specs.message.Kept.{Kept, message_of}
use Rattle.pg_dyn.specs.message.Message.{Message}
use Rattle.pg_set.proofs.lemmas.lists.Marks.{all_more}
use Rattle.pg_set.proofs.lemmas.order.OrderSteps.{one_step}

-- what messages say
abbrev pub seen : List Kept → List Message
seen ms = map message_of ms

-- one message more
pub seen_on : {X : Type 0} (f : Message → List X) (ms : List Kept) (i : ℕ) (m : Kept) → i < length ms → m ≡ get_or ms i m
    → flat_map f (seen (take (i + 1) ms)) ≡ flat_map f (seen (take i ms)) ++ f (message_of m)
seen_on f ms i m h is =
    ap (flat_map f) (one_step message_of ms i m h is) ∙ (flat_map-append f (seen (take i ms)) (message_of m ∷ []) ∙ ap (λ ys. flat_map f (seen (take i ms)) ++ ys) (append-nil (f (message_of m))))

-- those in front, it and those after
pub seen_whole : {X : Type 0} (f : Message → List X) (ms : List Kept) (i : ℕ) (m : Kept) → i < length ms → m ≡ get_or ms i m
    → (flat_map f (seen (take i ms)) ++ f (message_of m)) ++ flat_map f (seen (drop (suc i) ms)) ≡ flat_map f (seen ms)
seen_whole f [] i m h is = absurd (omega (arith, h))
seen_whole f (x ∷ ms) zero m h is = ap (λ (b : Kept). f (message_of b) ++ flat_map f (seen ms)) is
seen_whole f (x ∷ ms) (suc i) m h is =
    let a = f (message_of x) in
    let b = flat_map f (seen (take i ms)) in
    let c = f (message_of m) in
    ap (λ ys. ys ++ flat_map f (seen (drop (suc i) ms))) (append_assoc a b c) ∙ (append_assoc a (b ++ c) (flat_map f (seen (drop (suc i) ms))) ∙ ap (λ ys. a ++ ys) (seen_whole f ms i m (omega (arith, h)) is))

-- it holds of one message more
pub has_on : (P : Message → Type 0) (ms : List Kept) (i : ℕ) (m : Kept) → i < length ms → m ≡ get_or ms i m → AllByRecursion P (seen (take i ms)) → P (message_of m) → AllByRecursion P (seen (take (i + 1) ms))
has_on P ms i m h is before here = subst (AllByRecursion P) (sym (one_step message_of ms i m h is)) (all_more P (seen (take i ms)) (message_of m) before here)
