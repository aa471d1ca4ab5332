use Rattle.std.proofs.Common.{◌∙◌, map, string_bytes, not, ap, sym}
use Rattle.pg_causes.proofs.Going.{pushed}
use Rattle.pg_causes.proofs.Naming.{only_more, only_same}
use Rattle.pg_causes.proofs.names.names_only.Goals.{then-is_none+in_ok-from_str+in_ok-push, else-is_none}
use Rattle.pg_causes.proofs.names.names_only.Goals as goal

pub loop-message_type-preserved : goal.loop-message_type-preserved
loop-message_type-preserved c =
    elim c.if-is_none.branch [
      | then-is_none+in_ok-from_str+in_ok-push w ↦
          let name = c.as_str-name.result.now in
          let more = only_more c.args.other.now c.as_slice-types.result.now c.loop-message_type.message_type-index c.message_type-item.result name c.message.result
          c.loop-message_type-test.true c.message_type-item.is c.as_str-name.ensures.value c.message.ensures (c.is_none.ensures ∙ ap not w.if-is_none.true) in
          pushed string_bytes c.loop-message_type.names.items c.if-is_none.names.items w.in_ok-from_str.field-0 _ _
          (ap (λ (v : _). v.items) w.names-is ∙ w.in_ok-push.ensures.items) c.loop-message_type.invariant (w.in_ok-from_str.ensures.ok ∙ c.as_str-name.ensures.value) ∙ sym more
      | else-is_none w ↦
          let same = only_same c.args.other.now c.as_slice-types.result.now c.loop-message_type.message_type-index c.message_type-item.result c.as_str-name.result.now c.message.result
          c.loop-message_type-test.true c.message_type-item.is c.as_str-name.ensures.value c.message.ensures (c.is_none.ensures ∙ ap not w.if-is_none.false) in
          ap (λ (v : _). map string_bytes v.items) w.names-is ∙ (c.loop-message_type.invariant ∙ sym same)
    ]
