use Rattle.std.proofs.Common.{◌≡◌, ◌++◌}
use Rattle.std.specs.Vec.Iter.{into_iter_items}
use Rattle.pg_schema.specs.Parts.{shape_of}
use Rattle.pg_dyn.specs.fitting.Fits.{Fits}
use Rattle.pg_dyn.specs.setting.Setting.{IsWhole}
use Rattle.pg_dyn.proofs.message.Message.filled.Given as goal

-- the message of the contents so far
abbrev pub invariant-loop-number : goal.invariant-loop-number
invariant-loop-number l = record {
  given : l.yielded ++ into_iter_items l.number-iterator ≡ l.fn.contents.items;
  whole : IsWhole (shape_of l.schema) l.fn.type_id l.yielded l.message;
  fits : Fits (shape_of l.schema) l.message;
}
