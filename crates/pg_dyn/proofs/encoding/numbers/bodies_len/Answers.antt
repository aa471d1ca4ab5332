-- The bodies of the numbers are those of their words.
use Rattle.std.proofs.Common.{ℕ, List, length, ap, ap₂, sym, subst, subst₂, ◌∙◌, arith}
use Rattle.std.proofs.lemmas.List.{length-map}
use Rattle.pg_schema.specs.declared.parts.field.Element.TheVariants as elements
use Rattle.pg_schema.specs.declared.parts.field.Scalar.{Scalar}
use Rattle.pg_schema.specs.contracts.parts.field.Scalar.{the_type}
use denote.Enum.Bare.{same_true}
use Rattle.pg_dyn.specs.encoding.Lending.{lent_item, word_item}
use Rattle.pg_dyn.specs.encoding.Written.{LeavesFit, capped, packed_body}
use Rattle.pg_dyn.specs.word.Coding.{scalar_form}
use Rattle.pg_dyn.specs.word.NumberLists.{number_item, numbers_in}
use Rattle.pg_dyn.proofs.lemmas.encoding.NumberWords.{words_fit, words_packed}
use Rattle.pg_dyn.proofs.lemmas.encoding.PackedSizes.{packed_eights, packed_fours}
use Rattle.pg_dyn.proofs.encoding.numbers.bodies_len.Goals as goal

pub own_len-requires : goal.own_len-requires
own_len-requires c =
    subst₂ (λ (s : Scalar) (ws : List ℕ). LeavesFit (word_item s) (elements.Scalar c.args.scalar) ws) (same_true the_type tt c.args.numbers.now.scalar c.args.scalar (sym c.if-eq.ensures)) (sym c.deref.ensures.value)
    (words_fit c.args.numbers.now (elements.Scalar c.args.scalar) c.requires)

pub words_len-requires : goal.words_len-requires
words_len-requires c =
    subst (LeavesFit (word_item c.args.numbers.now.scalar) (elements.Scalar c.args.scalar)) (sym c.deref-else-eq.ensures.value)
    (words_fit c.args.numbers.now (elements.Scalar c.args.scalar) c.requires)

pub returns-in-I64 : goal.returns-in-I64
returns-in-I64 c =
    let ns = c.args.numbers.now in
    let size = packed_eights lent_item (elements.Scalar c.args.scalar) (numbers_in c.args.numbers.now) (sym c.wire_type_of.ensures ∙ c.in-I64.is) c.requires in
    let count = length-map ns.words.items (number_item (scalar_form ns.scalar)) in
    omega (arith, size, count, ns.words.ok.0, c.len.ensures, c.saturated_len.ensures, c.saturating_mul.ensures)

pub returns-in-I32 : goal.returns-in-I32
returns-in-I32 c =
    let ns = c.args.numbers.now in
    let size = packed_fours lent_item (elements.Scalar c.args.scalar) (numbers_in c.args.numbers.now) (sym c.wire_type_of.ensures ∙ c.in-I32.is) c.requires in
    let count = length-map ns.words.items (number_item (scalar_form ns.scalar)) in
    omega (arith, size, count, ns.words.ok.0, c.len-in-I32.ensures, c.saturated_len-in-I32.ensures, c.saturating_mul-in-I32.ensures)

pub returns-then-eq : goal.returns-then-eq
returns-then-eq c =
    c.own_len.ensures
    ∙ ap₂ (λ (s : Scalar) (ws : List ℕ). capped (length (packed_body (word_item s) (elements.Scalar c.args.scalar) ws))) (sym (same_true the_type tt c.args.numbers.now.scalar c.args.scalar (sym c.if-eq.ensures))) c.deref.ensures.value
    ∙ ap (λ (bs : List ℕ). capped (length bs)) (words_packed c.args.numbers.now (elements.Scalar c.args.scalar))

pub returns-else-eq : goal.returns-else-eq
returns-else-eq c =
    c.words_len.ensures
    ∙ ap (λ (ws : List ℕ). capped (length (packed_body (word_item c.args.numbers.now.scalar) (elements.Scalar c.args.scalar) ws))) c.deref-else-eq.ensures.value
    ∙ ap (λ (bs : List ℕ). capped (length bs)) (words_packed c.args.numbers.now (elements.Scalar c.args.scalar))
