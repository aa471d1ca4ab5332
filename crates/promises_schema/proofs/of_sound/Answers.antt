use Rattle.std.proofs.Common.{rules}
use Rattle.promises_schema.proofs.of_sound.Goals as goal

pub returns : goal.returns
returns c = search rules
