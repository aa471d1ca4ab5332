use Rattle.pg_link.proofs.lemmas.walk.PathLaws.{opens}
use Rattle.pg_link.proofs.walk.Walk.begin.Goals as goal

pub returns-clause-opened : goal.returns-clause-opened
returns-clause-opened c =
    opens c.args.self.now.opened.keys c.insert.new.self.keys c.in_ok-path.path c.args.path.now c.in_ok-path.ensures.ok c.in_ok-insert.ensures.keys c.requires
