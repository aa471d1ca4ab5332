use Rattle.pg_link.proofs.lemmas.names.SeenPaths.{sees_these}
use Rattle.pg_link.proofs.laws.seen_paths_are_seen.Goals as goal

pub returns : goal.returns
returns c = sees_these
