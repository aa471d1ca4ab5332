use Rattle.std.proofs.Common.{rules}
use Rattle.pg_check.specs.rules.Options.{option_named}
use Rattle.pg_check.proofs.rules.options.option_named.Goals as goal

pub returns-in-File : goal.returns-in-File
unfolding option_named
returns-in-File c = search rules

pub returns-in-Message : goal.returns-in-Message
unfolding option_named
returns-in-Message c = search rules

pub returns-in-Field : goal.returns-in-Field
unfolding option_named
returns-in-Field c = search rules

pub returns-in-Oneof : goal.returns-in-Oneof
unfolding option_named
returns-in-Oneof c = search rules

pub returns-in-Enum : goal.returns-in-Enum
unfolding option_named
returns-in-Enum c = search rules

pub returns-in-EnumValue : goal.returns-in-EnumValue
unfolding option_named
returns-in-EnumValue c = search rules

pub returns-in-Service : goal.returns-in-Service
unfolding option_named
returns-in-Service c = search rules

pub returns-in-Method : goal.returns-in-Method
unfolding option_named
returns-in-Method c = search rules
