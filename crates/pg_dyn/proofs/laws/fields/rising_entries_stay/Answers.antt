use Rattle.pg_dyn.proofs.PublicLaws as PublicLaws
use Rattle.pg_dyn.proofs.laws.fields.rising_entries_stay.Goals as goal

pub returns : goal.returns
returns c = PublicLaws.rising_entries_stay
