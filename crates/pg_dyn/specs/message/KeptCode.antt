-- A code for messages: their parts in the order of the walk, which a stack reads back. That it reads them back is a part of the
-- code; it is proved by cases and induction, with no tactic, and is here since the model of `Message` cites the code.
use Rattle.std.specs.Prelude.{Bool, ◌≡◌, ℕ, zero, suc, ℤ, List, [], ◌∷◌, ◌++◌, Option, ◌⊎◌, refl}
use Rattle.std.proofs.Common.{inl, inr, ap, sym, ◌∙◌, append_assoc}
use Rattle.std.proofs.lemmas.List.{append-nil}
use Rattle.std.specs.Coded.{Coded, code_by, coded_bool, coded_list, coded_option, coded_ℕ, coded_ℤ, coded×, coded⊎}
use Rattle.pg_wire.specs.declared.record.WireType.{WireType}
use Rattle.pg_wire.specs.declared.record.WireType.TheVariants.{Varint, I64, Len, I32}
use Rattle.pg_wire.specs.Records.{WireRecord, wire_code}
use Rattle.pg_dyn.specs.message.Message.{Leaf, Int, F32, F64, Bytes}
use Rattle.pg_dyn.specs.message.Kept.{Kept, ends, holds, nests}

abbrev leaf_cases : Leaf → (ℤ ⊎ ℕ) ⊎ (ℕ ⊎ List ℕ)
leaf_cases (Int n) = inl (inl n)
leaf_cases (F32 bits) = inl (inr bits)
leaf_cases (F64 bits) = inr (inl bits)
leaf_cases (Bytes bytes) = inr (inr bytes)

abbrev leaf_from : (ℤ ⊎ ℕ) ⊎ (ℕ ⊎ List ℕ) → Leaf
leaf_from (inl (inl n)) = Int n
leaf_from (inl (inr bits)) = F32 bits
leaf_from (inr (inl bits)) = F64 bits
leaf_from (inr (inr bytes)) = Bytes bytes

pub leaf_back : (leaf : Leaf) → leaf_from (leaf_cases leaf) ≡ leaf
leaf_back (Int n) = refl
leaf_back (F32 bits) = refl
leaf_back (F64 bits) = refl
leaf_back (Bytes bytes) = refl

abbrev leaf_code : Coded Leaf
leaf_code = code_by ((ℤ ⊎ ℕ) ⊎ (ℕ ⊎ List ℕ)) (coded⊎ (coded⊎ coded_ℤ coded_ℕ) (coded⊎ coded_ℕ (coded_list coded_ℕ))) leaf_cases leaf_from leaf_back

abbrev wire_from : ℕ → WireType
wire_from zero = Varint
wire_from (suc zero) = I64
wire_from (suc (suc zero)) = Len
wire_from (suc (suc (suc n))) = I32

pub wire_back : (w : WireType) → wire_from (wire_code w) ≡ w
wire_back Varint = refl
wire_back I64 = refl
wire_back Len = refl
wire_back I32 = refl

abbrev record_code : Coded WireRecord
record_code =
    code_by ((ℕ × ℕ) × (List ℕ × List ℕ)) (coded× (coded× coded_ℕ coded_ℕ) (coded× (coded_list coded_ℕ) (coded_list coded_ℕ)))
    (λ r. ((r.number, wire_code r.wire), (r.body, r.bytes))) (λ p. record { number = p.0.0; wire = wire_from p.0.1; body = p.1.0; bytes = p.1.1 })
    (λ r. ap (λ w. record { number = r.number; wire = w; body = r.body; bytes = r.bytes }) (wire_back r.wire))

-- the end of a message, a part with a leaf, or the front of a part with a message
abbrev Token : Type 0
Token = (ℕ × List WireRecord) ⊎ (((ℕ × Option Leaf) × ((Bool × Bool) × Leaf)) ⊎ ((ℕ × Option Leaf) × Bool))

abbrev tokens : Kept → List Token
tokens (ends type unknown) = inl (type.index, unknown) ∷ []
tokens (holds number key manner leaf later) = inr (inl ((number, key), ((manner.listed, manner.text), leaf))) ∷ tokens later
tokens (nests number key listed child later) = inr (inr ((number, key), listed)) ∷ tokens child ++ tokens later

abbrev onto : Token → List Kept → List Kept
onto (inl t) stack = ends (record { index = t.0 }) t.1 ∷ stack
onto (inr (inl t)) [] = []
onto (inr (inl t)) (later ∷ stack) = holds t.0.0 t.0.1 (record { listed = t.1.0.0; text = t.1.0.1 }) t.1.1 later ∷ stack
onto (inr (inr t)) [] = []
onto (inr (inr t)) (child ∷ []) = []
onto (inr (inr t)) (child ∷ later ∷ stack) = nests t.0.0 t.0.1 t.1 child later ∷ stack

abbrev stack_of : List Token → List Kept
stack_of [] = []
stack_of (t ∷ ts) = onto t (stack_of ts)

abbrev top : List Kept → Kept
top [] = ends (record { index = 0 }) []
top (m ∷ stack) = m

read_back : (m : Kept) (ts : List Token) → stack_of (tokens m ++ ts) ≡ m ∷ stack_of ts
read_back (ends type unknown) ts = refl
read_back (holds number key manner leaf later) ts = ap (onto (inr (inl ((number, key), ((manner.listed, manner.text), leaf))))) (read_back later ts)
read_back (nests number key listed child later) ts =
    ap (λ xs. onto (inr (inr ((number, key), listed))) (stack_of xs)) (append_assoc (tokens child) (tokens later) ts)
    ∙ ap (onto (inr (inr ((number, key), listed)))) (read_back child (tokens later ++ ts) ∙ ap (λ xs. child ∷ xs) (read_back later ts))

pub kept_back : (m : Kept) → top (stack_of (tokens m)) ≡ m
kept_back m = ap (λ ts. top (stack_of ts)) (sym (append-nil (tokens m))) ∙ ap top (read_back m [])

abbrev token_code : Coded Token
token_code = coded⊎ (coded× coded_ℕ (coded_list record_code)) (coded⊎ (coded× (coded× coded_ℕ (coded_option leaf_code)) (coded× (coded× coded_bool coded_bool) leaf_code)) (coded× (coded× coded_ℕ (coded_option leaf_code)) coded_bool))

abbrev pub kept_code : Coded Kept
kept_code = code_by (List Token) (coded_list token_code) tokens (λ ts. top (stack_of ts)) kept_back
