use Rattle.std.proofs.Common.{sym, ◌∙◌, arith}
use Rattle.pg_dyn.proofs.lemmas.encoding.PackedSizes.{packed_eights, packed_fours}
use Rattle.pg_dyn.proofs.encoding.counting.packed_len.Goals as goal

pub returns-in-I64 : goal.returns-in-I64
returns-in-I64 g c =
    let size = packed_eights g.M.Lends.item c.args.element c.args.values.now (sym c.element_wire_type.ensures ∙ c.in-I64.is) c.requires in
    omega (arith, size, c.saturated_len.ensures, c.saturating_mul.ensures)

pub returns-in-I32 : goal.returns-in-I32
returns-in-I32 g c =
    let size = packed_fours g.M.Lends.item c.args.element c.args.values.now (sym c.element_wire_type.ensures ∙ c.in-I32.is) c.requires in
    omega (arith, size, c.saturated_len-in-I32.ensures, c.saturating_mul-in-I32.ensures)
