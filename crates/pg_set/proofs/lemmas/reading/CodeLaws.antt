-- Types and labels that are taken, as loops come to them.
use Rattle.std.proofs.Common.{◌≡◌, ◌≢◌, ℕ, zero, suc, ◌+◌, ◌-◌, ◌<◌, ◌≤◌, Bool, ◌&&◌, List, map, length, take, get_or, refl, arith, rules}
use Rattle.std.proofs.lemmas.Grind.{common_steps}
use Rattle.std.proofs.lemmas.List.{take_all}
use Rattle.std.proofs.lemmas.List.Folds.{list_all-map, list_all_more}
use Rattle.std.specs.List.{list_all}
use Rattle.pg_dyn.specs.message.Kept.{Kept, message_of}
use Rattle.pg_dyn.specs.message.Message.{Message}
use Rattle.pg_set.specs.stated.Codes.{has_types, have_types, is_taken}
use Rattle.pg_set.specs.stated.SetMessages.{children_at}

more_tested : (test : Message → Bool) (ms : List Kept) (i : ℕ) (m : Kept) → i < length ms → m ≡ get_or ms i m
    → list_all test (map message_of (take (i + 1) ms)) ≡ (list_all test (map message_of (take i ms)) && test (message_of m))
more_tested test ms i m h is = grind (arith, common_steps, list_all-map, list_all_more)

-- the test of one more
pub tested_more : (test : Message → Bool) (ms : List Kept) (i : ℕ) (m : Kept) (all here so_far : Bool) → i < length ms → m ≡ get_or ms i m
    → all ≡ list_all test (map message_of (take i ms)) → so_far ≡ (all && here) → here ≡ test (message_of m)
    → so_far ≡ list_all test (map message_of (take (i + 1) ms))
tested_more test ms i m all here so_far h is before both this = search (rules, more_tested)

-- what a message type's fields and types say
pub here_typed : (inside : List Message → Bool) (m : Message) (fields own types within : List Kept) (taken deep here : Bool)
    → fields ≡ own → map message_of own ≡ children_at 2 m → types ≡ within → map message_of within ≡ children_at 3 m
    → taken ≡ list_all is_taken (map message_of fields) → deep ≡ inside (map message_of types) → here ≡ (taken && deep) → here ≡ has_types inside m
here_typed inside m fields own types within taken deep here same seen alike there is_taken_so is_deep both = search rules

have_deep : (depth : ℕ) (ms : List Message) → depth ≢ 0 → list_all (has_types (have_types (depth - 1))) ms ≡ have_types depth ms
have_deep zero ms h = absurd (h refl)
have_deep (suc d) ms h = search rules

pub all_typed : (depth : ℕ) (ms : List Kept) (i : ℕ) (all : Bool) → depth ≢ 0 → length ms ≤ i
    → all ≡ list_all (has_types (have_types (depth - 1))) (map message_of (take i ms)) → all ≡ have_types depth (map message_of ms)
all_typed depth ms i all deep past before = search (rules, take_all, have_deep)
