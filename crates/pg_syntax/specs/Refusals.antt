-- What a refusal says of the tokens (this profile's choice).
use Rattle.std.specs.Prelude.{◌≡◌, ◌⊎◌, ℕ, ◌+◌, List, [], ◌∷◌, ◌++◌, length, take}
use Rattle.pg_lex.specs.Symbol.{Symbol, Placed}
use Rattle.pg_syntax.specs.declared.error.Reason.{Reason}
use Rattle.pg_syntax.specs.declared.error.Reason.TheVariants as reasons
use Rattle.pg_syntax.specs.declared.error.SyntaxError.{SyntaxError}
use Rattle.pg_syntax.specs.declared.error.SyntaxError.TheVariants as errors
use Rattle.pg_syntax.specs.Tree.{Tree, spell, bare, symbols}
use Rattle.pg_syntax.specs.Grammar.{Grammar, Names, Derives}
use Rattle.pg_syntax.specs.Due.{Due}

-- For an unexpected token: both rows are the same up to the symbol of this index and with it, where the end of a row
-- counts as a symbol. For each other reason the rows are the same.
abbrev pub Alike : Reason → ℕ → List Symbol → List Symbol → Type 0
Alike reasons.Unexpected k v w = take (k + 1) v ≡ take (k + 1) w
Alike reasons.NotProto3 k v w = v ≡ w
Alike reasons.Group k v w = v ≡ w
Alike reasons.Extension k v w = v ≡ w
Alike reasons.CustomOption k v w = v ≡ w
Alike reasons.WeakImport k v w = v ≡ w
Alike reasons.NestedTooDeep k v w = v ≡ w

-- No tree spells the tokens: what the reason names follows `front`, it is due there, and no tree of the grammar agrees.
pub record Refused (g : Grammar) (reason : Reason) (left : ℕ) (tokens : List Placed) : Type 0 where
  pub front : List Placed
  pub back : List Placed
  pub splits : tokens ≡ front ++ back
  pub left_is : left ≡ length back
  pub names : Names reason (symbols back)
  pub due : (reason ≡ reasons.Unexpected) ⊎ Due reason g (symbols back) (symbols front)
  pub none : (t : Tree) → Derives g t → Alike reason (length front) (spell t) (symbols tokens) → ⊥

-- where the first of the tokens begins, or the end
abbrev pub place_of : ℕ → List Placed → ℕ
place_of end [] = end
place_of end (t ∷ ts) = t.from

-- the error of a reason at an offset
abbrev pub error_of : Reason → ℕ → SyntaxError
error_of reasons.NotProto3 at = errors.NotProto3 at
error_of reasons.Unexpected at = errors.Unexpected at
error_of reasons.Group at = errors.Group at
error_of reasons.Extension at = errors.Extension at
error_of reasons.CustomOption at = errors.CustomOption at
error_of reasons.WeakImport at = errors.WeakImport at
error_of reasons.NestedTooDeep at = errors.NestedTooDeep at

-- What a refusal of the tokens says: memory ran out, or a reason holds at the error's offset.
abbrev pub Reports : Grammar → ℕ → List Placed → SyntaxError → Type 0
Reports g end tokens error =
    (error ≡ errors.Memory)
    ⊎ ((reason : Reason) × (left : ℕ) × (h : Refused g reason left tokens)
    × (error ≡ error_of reason (place_of end h.back)))

-- Two trees that spell the same row are the same, but for the spans of their nodes.
abbrev pub OneTree : Grammar → Type 0
OneTree g = (t u : Tree) → Derives g t → Derives g u → spell t ≡ spell u → bare t ≡ bare u
