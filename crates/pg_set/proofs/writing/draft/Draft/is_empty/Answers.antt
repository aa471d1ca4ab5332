use Rattle.std.proofs.Common.{◌≡◌, ◌≢◌, length, [], ap, sym, subst, ◌∙◌, eq-eqb}
use Rattle.std.proofs.lemmas.Bool.{eqb-true, false≢true}
use Rattle.std.proofs.lemmas.List.{nil_from_length}
use Rattle.pg_set.specs.inner.writing.Drafts.{Drafted, read_items}
use Rattle.pg_set.proofs.lemmas.writing.Growing.{read_none, some_read}
use Rattle.pg_set.proofs.writing.draft.Draft.is_empty.Goals as goal

pub returns-clause-empty : goal.returns-clause-empty
returns-clause-empty c none =
    let bytes = c.self.inside.bytes in
    let zero : bytes.len ≡ 0 = eqb-true bytes.len 0 (sym c.is_empty.ensures ∙ none) in
    sym (ap (λ (d : Drafted). d.items) c.self.view_is)
    ∙ (ap (read_items c.self.inside.type_id) (nil_from_length bytes.items (sym bytes.ok.0 ∙ zero)) ∙ read_none c.self.inside.type_id)

pub returns-clause-filled : goal.returns-clause-filled
returns-clause-filled c some =
    let bytes = c.self.inside.bytes in
    subst (λ (d : Drafted). d.items ≢ []) c.self.view_is
    (some_read c.self.inside.type_id bytes.items c.self.invariant.encoded
    (λ none. let zero : bytes.len ≡ 0 = bytes.ok.0 ∙ ap length none in absurd (false≢true (sym some ∙ (c.is_empty.ensures ∙ eq-eqb bytes.len 0 zero)))))
