use Rattle.std.proofs.Common.{rules}
use Rattle.promises_show.proofs.bytes_of_hex.Goals as goal

pub returns-clause-bytes : goal.returns-clause-bytes
returns-clause-bytes c = search rules

pub returns-clause-refused : goal.returns-clause-refused
returns-clause-refused c = search rules
