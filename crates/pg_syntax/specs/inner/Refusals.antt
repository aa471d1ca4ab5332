-- What a function of the parser refuses, before its reason becomes an error.
use Rattle.std.specs.Prelude.{List}
use Rattle.pg_lex.specs.Symbol.{Placed}
use Rattle.pg_syntax.specs.declared.error.Refusal.{Refusal}
use Rattle.pg_syntax.specs.declared.error.Refusal.TheVariants as refusals
use Rattle.pg_syntax.specs.Grammar.{Grammar}
use Rattle.pg_syntax.specs.Refusals.{Refused}

-- No tree spells the tokens, for the fault's reason and at its token, unless memory ran out.
abbrev pub Fits : Grammar → Refusal → List Placed → Type 0
Fits g refusals.Memory tokens = Unit {0}
Fits g (refusals.Fault f) tokens = Refused g f.reason f.left tokens
