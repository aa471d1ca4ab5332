use Rattle.std.proofs.Common.{◌++◌, ◌<◌, ◌^◌, length, ap, sym, subst, ◌∙◌, arith}
use Rattle.pg_wire.specs.declared.record.WireType.TheVariants.{Len}
use Rattle.pg_wire.specs.Records.{written}
use Rattle.pg_set.specs.inner.writing.Drafts.{IsDraft}
use Rattle.pg_set.proofs.lemmas.writing.Growing.{begun_draft, message_put}
use Rattle.pg_set.proofs.writing.draft.Draft.add_message.Goals as goal

pub invariant_of-self : goal.invariant_of-self
invariant_of-self c =
    subst (IsDraft c.self.inside.type_id c.self.inside.last) (sym c.taken-bytes.ensures.none) (begun_draft c.self.inside.type_id c.self.inside.last)

pub invariant_of-self-2 : goal.invariant_of-self-2
invariant_of-self-2 c =
    let d = c.self.inside in
    let new = c.push_bytes.new.out in
    let few : length new.items < 2 ^ 64 = let small = new.small in let ok = new.ok in omega arith in
    (message_put d.type_id d.last d.bytes.items new.items c.args.self.now c.args.number c.args.type_id c.args.body.now c.self.invariant c.self.view_is c.requires.takes c.requires.encoded
    (c.in_ok-push_bytes.ensures ∙ ap (λ bs. bs ++ (written c.args.number Len c.args.body.now).bytes) c.taken-bytes.ensures.taken) few).0

pub returns : goal.returns
returns c =
    let d = c.self.inside in
    let new = c.push_bytes.new.out in
    let few : length new.items < 2 ^ 64 = let small = new.small in let ok = new.ok in omega arith in
    (message_put d.type_id d.last d.bytes.items new.items c.args.self.now c.args.number c.args.type_id c.args.body.now c.self.invariant c.self.view_is c.requires.takes c.requires.encoded
    (c.in_ok-push_bytes.ensures ∙ ap (λ bs. bs ++ (written c.args.number Len c.args.body.now).bytes) c.taken-bytes.ensures.taken) few).1
