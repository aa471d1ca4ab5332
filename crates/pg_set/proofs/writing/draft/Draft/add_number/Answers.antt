use Rattle.std.proofs.Common.{◌≡◌, ◌++◌, ◌<◌, ◌^◌, length, ap₂, sym, subst, ◌∙◌, arith, rules}
use Rattle.pg_wire.specs.declared.record.WireType.TheVariants.{Varint}
use Rattle.pg_wire.specs.Records.{written}
use Rattle.pg_wire.specs.Varint.{varint}
use Rattle.pg_wire.specs.Words.{twos_complement}
use Rattle.pg_set.specs.inner.writing.Drafts.{IsDraft}
use Rattle.pg_set.proofs.lemmas.writing.Growing.{begun_draft, number_put}
use Rattle.pg_set.proofs.writing.draft.Draft.add_number.Goals as goal

pub invariant_of-self : goal.invariant_of-self
invariant_of-self c =
    subst (IsDraft c.self.inside.type_id c.self.inside.last) (sym c.taken-bytes.ensures.none) (begun_draft c.self.inside.type_id c.self.inside.last)

pub invariant_of-self-2 : goal.invariant_of-self-2
invariant_of-self-2 c =
    let d = c.self.inside in
    let word : c.complement_64.result ≡ twos_complement (2 ^ 64) c.args.value = search rules in
    let new = c.push_word.new.out in
    let few : length new.items < 2 ^ 64 = let small = new.small in let ok = new.ok in omega arith in
    (number_put d.type_id d.last d.bytes.items new.items c.args.self.now c.args.number c.args.element c.args.value c.self.invariant c.self.view_is c.requires.takes c.requires.whole (search rules)
    (c.in_ok-push_word.ensures ∙ ap₂ (λ bs word. bs ++ (written c.args.number Varint (varint word)).bytes) c.taken-bytes.ensures.taken word) few).0

pub returns : goal.returns
returns c =
    let d = c.self.inside in
    let word : c.complement_64.result ≡ twos_complement (2 ^ 64) c.args.value = search rules in
    let new = c.push_word.new.out in
    let few : length new.items < 2 ^ 64 = let small = new.small in let ok = new.ok in omega arith in
    (number_put d.type_id d.last d.bytes.items new.items c.args.self.now c.args.number c.args.element c.args.value c.self.invariant c.self.view_is c.requires.takes c.requires.whole (search rules)
    (c.in_ok-push_word.ensures ∙ ap₂ (λ bs word. bs ++ (written c.args.number Varint (varint word)).bytes) c.taken-bytes.ensures.taken word) few).1
