use Rattle.std.proofs.Common.{refl}
use Rattle.pg_gate.proofs.answer.gate.roots.Goals as goal

pub returns-in_default-message-clause-old_missing : goal.returns-in_default-message-clause-old_missing
returns-in_default-message-clause-old_missing c lacks =
    let named = (c.in-Some.ensures c.in-Some.old_root).0 refl in
    absurd (lacks c.in-Some.old_root named)

pub returns-in_default-message-clause-refused : goal.returns-in_default-message-clause-refused
returns-in_default-message-clause-refused c =
    let named = (c.in-Some.ensures c.in-Some.old_root).0 refl in (
      (λ lacks. lacks c.in-Some.old_root named),
      (λ id new_named. c.in_default-message.not-Some id ((c.message-2.ensures id).1 new_named)),
    )

pub returns-clause-old_missing : goal.returns-clause-old_missing
returns-clause-old_missing c lacks =
    let named = (c.in-Some.ensures c.in-Some.old_root).0 refl in
    absurd (lacks c.in-Some.old_root named)

pub returns-clause-new_missing : goal.returns-clause-new_missing
returns-clause-new_missing c has lacks =
    let named = (c.in-Some-message.ensures c.in-Some-message.new_root).0 refl in
    absurd (lacks c.in-Some-message.new_root named)

pub returns-clause-shapes : goal.returns-clause-shapes
returns-clause-shapes c = (c.parts.ensures.checked.shape, c.parts-2.ensures.checked.shape)
