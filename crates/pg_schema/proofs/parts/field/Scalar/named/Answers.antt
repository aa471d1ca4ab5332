use Rattle.std.proofs.Common.{◌≡◌, ◌∷◌, ℕ, List, Some, arith, codes, slice_get, ap, sym, ◌∙◌}
use Rattle.pg_schema.specs.ScalarWords.{scalar_of}
use Rattle.pg_schema.proofs.lemmas.ScalarLetters.{begins, differs, empty, letters_behind, none_by_b, none_by_d, none_by_f, none_by_i, none_by_other, none_by_u, off}
use Rattle.pg_schema.proofs.parts.field.Scalar.named.Goals as goal

pub returns-in-double : goal.returns-in-double
unfolding scalar_of
returns-in-double c = sym (ap scalar_of c.in-double.is)

pub returns-in-float : goal.returns-in-float
unfolding scalar_of
returns-in-float c = sym (ap scalar_of c.in-float.is)

pub returns-in-int32 : goal.returns-in-int32
unfolding scalar_of
returns-in-int32 c = sym (ap scalar_of c.in-int32.is)

pub returns-in-int64 : goal.returns-in-int64
unfolding scalar_of
returns-in-int64 c = sym (ap scalar_of c.in-int64.is)

pub returns-in-uint32 : goal.returns-in-uint32
unfolding scalar_of
returns-in-uint32 c = sym (ap scalar_of c.in-uint32.is)

pub returns-in-uint64 : goal.returns-in-uint64
unfolding scalar_of
returns-in-uint64 c = sym (ap scalar_of c.in-uint64.is)

pub returns-in-fixed32 : goal.returns-in-fixed32
unfolding scalar_of
returns-in-fixed32 c = sym (ap scalar_of c.in-fixed32.is)

pub returns-in-fixed64 : goal.returns-in-fixed64
unfolding scalar_of
returns-in-fixed64 c = sym (ap scalar_of c.in-fixed64.is)

pub returns-in-bool : goal.returns-in-bool
unfolding scalar_of
returns-in-bool c = sym (ap scalar_of c.in-bool.is)

pub returns-in-bytes : goal.returns-in-bytes
unfolding scalar_of
returns-in-bytes c = sym (ap scalar_of c.in-bytes.is)

pub returns-in_default : goal.returns-in_default
returns-in_default c = empty c.args.word.now (c.in_default.ensures.value ∙ ap (λ (w : List ℕ). slice_get w 0) c.as_bytes.ensures.value)

pub returns-in_default-word : goal.returns-in_default-word
returns-in_default-word c =
    let word : List ℕ = c.args.word.now in
    let rest : List ℕ = letters_behind word in
    let is : word ≡ 98 ∷ rest = begins word 98 (ap (λ (w : List ℕ). slice_get w 0) (sym c.as_bytes.ensures.value) ∙ (sym c.in-Some.ensures.value ∙ ap (λ (b : ℕ). Some b) c.in-98.is)) in
    none_by_b rest
    (off word (codes "bool") rest 98 is c.in_default-word.not-bool)
    (off word (codes "bytes") rest 98 is c.in_default-word.not-bytes)
    ∙ ap scalar_of (sym is)

pub returns-in_default-word-2 : goal.returns-in_default-word-2
returns-in_default-word-2 c =
    let word : List ℕ = c.args.word.now in
    let rest : List ℕ = letters_behind word in
    let is : word ≡ 100 ∷ rest = begins word 100 (ap (λ (w : List ℕ). slice_get w 0) (sym c.as_bytes.ensures.value) ∙ (sym c.in-Some.ensures.value ∙ ap (λ (b : ℕ). Some b) c.in-100.is)) in
    none_by_d rest
    (off word (codes "double") rest 100 is c.in_default-word-2.not-double)
    ∙ ap scalar_of (sym is)

pub returns-in_default-word-3 : goal.returns-in_default-word-3
returns-in_default-word-3 c =
    let word : List ℕ = c.args.word.now in
    let rest : List ℕ = letters_behind word in
    let is : word ≡ 102 ∷ rest = begins word 102 (ap (λ (w : List ℕ). slice_get w 0) (sym c.as_bytes.ensures.value) ∙ (sym c.in-Some.ensures.value ∙ ap (λ (b : ℕ). Some b) c.in-102.is)) in
    none_by_f rest
    (off word (codes "float") rest 102 is c.in_default-word-3.not-float)
    (off word (codes "fixed32") rest 102 is c.in_default-word-3.not-fixed32)
    (off word (codes "fixed64") rest 102 is c.in_default-word-3.not-fixed64)
    ∙ ap scalar_of (sym is)

pub returns-in_default-word-4 : goal.returns-in_default-word-4
returns-in_default-word-4 c =
    let word : List ℕ = c.args.word.now in
    let rest : List ℕ = letters_behind word in
    let is : word ≡ 105 ∷ rest = begins word 105 (ap (λ (w : List ℕ). slice_get w 0) (sym c.as_bytes.ensures.value) ∙ (sym c.in-Some.ensures.value ∙ ap (λ (b : ℕ). Some b) c.in-105.is)) in
    none_by_i rest
    (off word (codes "int32") rest 105 is c.in_default-word-4.not-int32)
    (off word (codes "int64") rest 105 is c.in_default-word-4.not-int64)
    ∙ ap scalar_of (sym is)

pub returns-in_default-word-5 : goal.returns-in_default-word-5
returns-in_default-word-5 c =
    let word : List ℕ = c.args.word.now in
    let rest : List ℕ = letters_behind word in
    let is : word ≡ 117 ∷ rest = begins word 117 (ap (λ (w : List ℕ). slice_get w 0) (sym c.as_bytes.ensures.value) ∙ (sym c.in-Some.ensures.value ∙ ap (λ (b : ℕ). Some b) c.in-117.is)) in
    none_by_u rest
    (off word (codes "uint32") rest 117 is c.in_default-word-5.not-uint32)
    (off word (codes "uint64") rest 117 is c.in_default-word-5.not-uint64)
    ∙ ap scalar_of (sym is)

pub returns-in_default-first : goal.returns-in_default-first
returns-in_default-first c =
    let word : List ℕ = c.args.word.now in
    let rest : List ℕ = letters_behind word in
    let b : ℕ = c.in-Some.first.now in
    let is : word ≡ b ∷ rest = begins word b (ap (λ (w : List ℕ). slice_get w 0) (sym c.as_bytes.ensures.value) ∙ sym c.in-Some.ensures.value) in
    none_by_other b rest
    (differs b 98 (λ e. omega (arith, e)))
    (differs b 100 (λ e. omega (arith, e)))
    (differs b 102 (λ e. omega (arith, e)))
    (differs b 105 (λ e. omega (arith, e)))
    (differs b 115 (λ e. omega (arith, e)))
    (differs b 117 (λ e. omega (arith, e)))
    ∙ ap scalar_of (sym is)
