-- What a sink took is still there, where nothing came.
use Rattle.std.proofs.Common.{◌≡◌, ◌∙◌, [], sym}
use Rattle.std.proofs.lemmas.List.{append-nil}
use Rattle.clap.specs.Words.{Text}
use Rattle.pg_gate.specs.Run.{Keeps}

pub nothing_came : (old new : Text) → new ≡ old → Keeps old new
nothing_came old new same = record { more = []; is = same ∙ sym (append-nil old) }
