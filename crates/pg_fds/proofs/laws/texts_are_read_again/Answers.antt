use Rattle.pg_fds.proofs.laws.texts_are_read_again.Goals as goal

pub returns : goal.returns
returns c = c.linked_parts_stand.ensures
