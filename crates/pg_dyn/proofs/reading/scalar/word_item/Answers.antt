-- The item of a word is one of the scalar.
use Rattle.std.proofs.Common.{sym, subst, ◌∙◌, arith}
use Rattle.pg_dyn.specs.message_ref.BorrowedItems.{IsItemKept}
use Rattle.pg_dyn.proofs.lemmas.word.NumberLaws.{number_kept}
use Rattle.pg_dyn.proofs.reading.scalar.word_item.Goals as goal

pub returns-clause-item : goal.returns-clause-item
returns-clause-item c =
    subst (IsItemKept c.args.scalar) (sym (c.item.ensures.item ∙ c.word_number.ensures))
    (number_kept c.args.scalar c.args.word c.requires.packable (c.requires.bits, omega (arith, c.ranges.word.fits)))
