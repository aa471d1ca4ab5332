use Rattle.std.proofs.Common.{refl}
use Rattle.std.proofs.lemmas.Str.{is_utf8-from_IsUtf8}
use Rattle.pg_dyn.proofs.setting.check.check_text.Goals as goal

pub returns-in-String-clause-fits : goal.returns-in-String-clause-fits
returns-in-String-clause-fits c = let u = c.utf8.text in rw c.in-String.is ((λ e. is_utf8-from_IsUtf8 c.args.text.now u), λ h. refl)
