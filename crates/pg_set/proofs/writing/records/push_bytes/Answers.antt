use Rattle.std.proofs.Common.{◌≡◌, ◌*◌, ◌+◌, ◌++◌, ap, subst, ◌∙◌, refl}
use Rattle.std.specs.Prelude.{OnOk}
use Rattle.pg_wire.specs.Varint.{varint}
use Rattle.pg_set.proofs.lemmas.writing.Records.{bytes_added, where_ok}
use Rattle.pg_set.proofs.writing.records.push_bytes.Goals as goal
use Rattle.pg_set.proofs.writing.records.push_bytes.Goals.{then-capacity-len+in_ok-reserve, else-capacity-len}

pub returns : goal.returns
returns c =
    let bytes = c.args.out.now.items in
    let same : c.if-capacity-len.out.items ≡ bytes =
    elim c.if-capacity-len.branch [ then-capacity-len+in_ok-reserve w ↦ rw w.out-is w.in_ok-reserve.ensures.items | else-capacity-len w ↦ rw w.out-is refl ] in
    subst (λ bs. OnOk c.extend_from_slice.result (c.extend_from_slice.new.self.items ≡ bs))
    (bytes_added bytes c.push_varint.new.out.items c.push_varint-2.new.out.items c.args.body.now c.args.number c.from.result c.from.ensures
    (c.in_ok-push_varint.ensures ∙ ap (λ bs. bs ++ varint (8 * c.from.result + 2)) same) c.in_ok-push_varint-2.ensures)
    (where_ok c.extend_from_slice.result c.extend_from_slice.new.self.items (c.push_varint-2.new.out.items ++ c.args.body.now) c.push_varint-2.new.out.items c.extend_from_slice.ensures.items)
