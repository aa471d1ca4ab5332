use Rattle.std.proofs.Common.{◌∙◌, sym}
use Rattle.pg_link.proofs.lemmas.walk.PathLaws.{among_open, seen_before, first_seen, noted}
use Rattle.pg_link.proofs.walk.Walk.check.Goals as goal

pub returns-then-not-branch-clause-fault : goal.returns-then-not-branch-clause-fault
returns-then-not-branch-clause-fault c =
    (c.in_ok-place.ensures, seen_before c.args.before.now.keys c.in_ok-seen.seen c.args.path.now c.in_ok-insert.field-0 c.in_ok-seen.ensures.ok c.in_ok-insert.ensures.added c.if-not-branch.true)

pub returns-then-contains-clause-fault : goal.returns-then-contains-clause-fault
returns-then-contains-clause-fault c =
    (c.in_ok-place-2.ensures, among_open c.args.path.now c.args.self.now.opened.keys ∙ (sym c.contains.ensures ∙ c.if-contains.true))

pub returns-clause-closed : goal.returns-clause-closed
returns-clause-closed c = among_open c.args.path.now c.args.self.now.opened.keys ∙ (sym c.contains.ensures ∙ c.if-contains.false)

pub returns-clause-first : goal.returns-clause-first
returns-clause-first c =
    first_seen c.args.before.now.keys c.in_ok-seen.seen c.args.path.now c.in_ok-insert.field-0 c.in_ok-seen.ensures.ok c.in_ok-insert.ensures.added c.if-not-branch.false

pub returns-clause-noted : goal.returns-clause-noted
returns-clause-noted c =
    noted c.args.before.now.keys c.insert.new.self.keys c.in_ok-seen.seen c.args.path.now c.in_ok-insert.field-0 c.in_ok-seen.ensures.ok c.in_ok-insert.ensures.added c.if-not-branch.false c.in_ok-insert.ensures.keys
