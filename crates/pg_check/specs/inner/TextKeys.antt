-- Keys of names, by which most names that are there once are told (this profile's way to look for JSON names that
-- clash).
use Rattle.std.specs.Prelude.{ℕ, ◌+◌, ◌*◌, ◌^◌, ◌%◌, List, [], ◌∷◌}
use Rattle.pg_check.specs.declared.rules.numbers.Keyed.{Keyed}
use Rattle.pg_check.specs.rules.Names.{Named}

abbrev pub next_key : ℕ → ℕ → ℕ
next_key key byte = ((key + byte) % 2 ^ 64 * 11400714819323198485) % 2 ^ 64

abbrev pub key_from : ℕ → List ℕ → ℕ
key_from key [] = key
key_from key (b ∷ bs) = key_from (next_key key b) bs

-- the key of a name; names that are the same have the same
abbrev pub text_key : List ℕ → ℕ
text_key text = key_from 0 text

abbrev pub keyed : Named → Keyed
keyed n = record { key = text_key n.text; at = n.at }
