-- Lines of a written certificate, as the reader and the writer go through them.
use Rattle.std.specs.Prelude.{ℕ, List, ◌++◌, flat_map, Option}
use Rattle.pg_pairs.specs.declared.choices.choice.Pair.{Pair}
use Rattle.pg_cert.specs.declared.bounds.PairBound.{PairBound}
use Rattle.pg_cert.specs.declared.heading.Heading.{Heading}
use Rattle.pg_cert.specs.Text.{spaced_word, line_of, Names, bound_words, heading_lines, last_words}

abbrev pub heading_text : Heading → List ℕ
heading_text heading = flat_map line_of (heading_lines heading)

-- the lines of the pairs, and the last ones
abbrev pub lines_text : Names → Names → List PairBound → List ℕ
lines_text old new bounds = flat_map (λ (b : PairBound). line_of (bound_words old new b)) bounds

abbrev pub last_text : Option (List ℕ) → List ℕ
last_text witness = flat_map line_of (last_words witness)

-- both types of a pair, each after a space
abbrev pub pair_words : Names → Names → Pair → List ℕ
pair_words old new pair = spaced_word (old pair.old) ++ spaced_word (new pair.new)
