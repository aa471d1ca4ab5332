-- of the window's oneofs each has one content so far, or none, as the flags say
use Rattle.std.proofs.Common.{◌≡◌, length, take}
use Rattle.pg_schema.specs.Parts.{shape_of}
use Rattle.pg_schema.specs.Shape.{fields}
use Rattle.pg_dyn.proofs.lemmas.fitting.OneofWalks.{HaveOnce}
use Rattle.pg_dyn.proofs.oneofs.once_in_window.Given as goal

abbrev pub invariant-loop-number : goal.invariant-loop-number
invariant-loop-number l = HaveOnce (fields (shape_of l.schema) l.type_id) l.first l.has_member (take l.number-index l.contents) × (length l.has_member ≡ 1024)
