use Rattle.std.proofs.Common.{◌∙◌}
use Rattle.pg_set.specs.inner.reading.Owners.{means_of}
use Rattle.pg_set.proofs.lemmas.reading.KeyAndValue.{too_few, too_many, two_are}
use Rattle.pg_set.proofs.reading.made_entries.key_and_value.Goals as goal

pub returns-in-len2 : goal.returns-in-len2
returns-in-len2 c =
    c.pair.ensures
    ∙ two_are (means_of c.args.names.now) c.args.fields.now c.first-item.result c.second-item.result c.in-len2.len_at_least c.in-len2.len_below c.first-item.is c.second-item.is

pub returns-in_default : goal.returns-in_default
returns-in_default c = too_few (means_of c.args.names.now) c.args.fields.now c.in_default.len_below

pub returns-in_default-2 : goal.returns-in_default-2
returns-in_default-2 c = too_many (means_of c.args.names.now) c.args.fields.now c.in_default.len_at_least
