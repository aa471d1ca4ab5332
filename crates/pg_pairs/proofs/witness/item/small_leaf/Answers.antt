use Rattle.std.proofs.Common.{subst, sym}
use Rattle.pg_dyn.specs.word.Coding.{InRange, scalar_form}
use Rattle.pg_dyn.specs.message.Message.{Bytes}
use Rattle.pg_pairs.proofs.lemmas.witness.TakenItems.{small_raw, small_text}
use Rattle.pg_pairs.proofs.witness.item.small_leaf.Goals as goal

pub returns-in_ok-small_bytes-in-String-clause-item : goal.returns-in_ok-small_bytes-in-String-clause-item
returns-in_ok-small_bytes-in-String-clause-item c =
    subst (λ s. InRange (scalar_form s) (Bytes c.in_ok-small_bytes-in-String.field-0.items)) (sym c.in-String.is)
    (small_text c.args.small (Bytes c.in_ok-small_bytes-in-String.field-0.items) c.in_ok-small_bytes-in-String.ensures)

pub returns-in_ok-small_bytes-in-Bytes-clause-item : goal.returns-in_ok-small_bytes-in-Bytes-clause-item
returns-in_ok-small_bytes-in-Bytes-clause-item c =
    subst (λ s. InRange (scalar_form s) (Bytes c.in_ok-small_bytes-in-Bytes.field-0.items)) (sym c.in-Bytes.is)
    (small_raw c.args.small (Bytes c.in_ok-small_bytes-in-Bytes.field-0.items) c.in_ok-small_bytes-in-Bytes.ensures)
