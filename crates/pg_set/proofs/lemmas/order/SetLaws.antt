-- The files of a set, as loops come to them.
use Rattle.std.proofs.Common.{◌≡◌, ℕ, zero, suc, ◌+◌, ◌<◌, Bool, true, false, ◌&&◌, ◌||◌, List, [], ◌∷◌, map, length, take, get_or, ap, sym, ap₂, ◌∙◌, arith, rules}
use Rattle.std.proofs.lemmas.List.Folds.{list_all-map, list_all_at, list_all_more}
use Rattle.std.proofs.lemmas.Simd.{map-map}
use Rattle.std.specs.List.{list_all, list_any}
use Rattle.pg_dyn.specs.message.Kept.{Kept, message_of}
use Rattle.pg_dyn.specs.message.Message.{Message}
use Rattle.pg_set.specs.stated.PostOrder.{Importer, importer_of, paths_of}
use Rattle.pg_set.specs.stated.SetMessages.{text_at}
use Rattle.pg_set.proofs.lemmas.lists.Tests.{or_right}

-- the test holds of one more
pub all_step : {A : Type 0} (test : A → Bool) (xs : List A) (i : ℕ) (x : A) → i < length xs → x ≡ get_or xs i x → list_all test (take i xs) ≡ true → test x ≡ true → list_all test (take (i + 1) xs) ≡ true
all_step test xs i x h is before here = list_all_more test xs i x h ∙ ap₂ (λ a b. a && b) before (ap test (sym is) ∙ here)

-- the test holds of one of the messages
pub any_found : (test : Message → Bool) (ms : List Kept) (i : ℕ) (m : Kept) → i < length ms → m ≡ get_or ms i m → test (message_of m) ≡ true → list_any test (map message_of ms) ≡ true
any_found test [] i m h is here = absurd (omega (arith, h))
any_found test (x ∷ xs) zero m h is here = ap (λ b. b || list_any test (map message_of xs)) (ap (λ (b : Kept). test (message_of b)) (sym is) ∙ here)
any_found test (x ∷ xs) (suc i) m h is here = or_right (test (message_of x)) (list_any test (map message_of xs)) (any_found test xs i m (omega (arith, h)) is here)

-- the test fails of one of the messages
pub all_lost : (test : Message → Bool) (ms : List Kept) (i : ℕ) (m : Kept) → i < length ms → m ≡ get_or ms i m → test (message_of m) ≡ false → list_all test (map message_of ms) ≡ false
all_lost test ms i m h is here = search (rules, list_all-map, list_all_at)

-- ---- names and imports, file by file

pub paths_are : (skips : Bool) (ms : List Message) → paths_of (map (importer_of skips) ms) ≡ map (text_at 1) ms
paths_are skips ms = map-map (λ (i : Importer). i.path) (importer_of skips) ms
