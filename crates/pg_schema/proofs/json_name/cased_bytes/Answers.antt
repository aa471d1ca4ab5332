use Rattle.std.proofs.Common.{◌≡◌, ◌+◌, ◌∷◌, ◌++◌, [], ℕ, Bool, List, false, drop, get_or, append_assoc, append-nil, sym, ap, ◌∙◌, arith}
use Rattle.std.proofs.lemmas.List.{drop_all, drop_more}
use Rattle.pg_schema.specs.JsonName.{in_camel_case}
use Rattle.pg_schema.proofs.lemmas.JsonNames.{cased, one_byte, one_line}
use Rattle.pg_schema.proofs.json_name.cased_bytes.Goals as goal

-- one more byte is written
written : (behind : Bool) (bytes after name all rest : List ℕ) (b : ℕ) → (b ≡ 95 → ⊥) → name ≡ b ∷ rest → after ≡ bytes ++ cased behind b ∷ []
    → bytes ++ in_camel_case behind name ≡ all → after ++ in_camel_case false rest ≡ all
written behind bytes after name all rest b other split grown before =
    ap (λ bs. bs ++ in_camel_case false rest) grown
    ∙ (append_assoc bytes (cased behind b ∷ []) (in_camel_case false rest)
    ∙ (ap (λ bs. bytes ++ bs) (sym (ap (in_camel_case behind) split ∙ one_byte behind b rest other)) ∙ before))

pub loop-byte-preserved-then-byte-eq95 : goal.loop-byte-preserved-then-byte-eq95
loop-byte-preserved-then-byte-eq95 c =
    let name : List ℕ = c.args.name.now in
    let i : ℕ = c.loop-byte.byte-index in
    ap (λ bs. c.loop-byte.bytes.items ++ bs)
    (sym (ap (in_camel_case c.loop-byte.behind) (drop_more name i 0 c.loop-byte-test.true) ∙ one_line c.loop-byte.behind (get_or name i 0) (drop (i + 1) name) c.if-byte-eq95.true))
    ∙ c.loop-byte.invariant

pub loop-byte-preserved : goal.loop-byte-preserved
loop-byte-preserved c =
    let name : List ℕ = c.args.name.now in
    let i : ℕ = c.loop-byte.byte-index in
    let b : ℕ = get_or name i 0 in
    written c.loop-byte.behind c.loop-byte.bytes.items c.push.new.self.items (drop i name) (in_camel_case c.args.is_behind name) (drop (i + 1) name) b c.if-byte-eq95.false
    (drop_more name i 0 c.loop-byte-test.true)
    (c.in_ok-push.ensures.items ∙ ap (λ d. c.loop-byte.bytes.items ++ d ∷ []) c.cased.ensures)
    c.loop-byte.invariant

pub returns : goal.returns
returns c =
    let name : List ℕ = c.args.name.now in
    let none : drop c.loop-byte.byte-index name ≡ [] = drop_all c.loop-byte.byte-index name (omega (arith, c.loop-byte-test.false)) in
    sym (append-nil c.loop-byte.bytes.items) ∙ (sym (ap (λ rest. c.loop-byte.bytes.items ++ in_camel_case c.loop-byte.behind rest) none) ∙ c.loop-byte.invariant)
