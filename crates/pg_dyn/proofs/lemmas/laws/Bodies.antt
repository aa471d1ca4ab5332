-- Reading the body of a record.
use Rattle.std.proofs.Common.{◌≡◌, ℕ, List, length, Ok, Err, Result, ap, true, false, Some, rules}
use Rattle.std.proofs.lemmas.List.{append-nil}
use Rattle.std.proofs.lemmas.Str.{IsUtf8-from_is_utf8}
use Rattle.std.specs.Str.{is_utf8, IsUtf8}
use Rattle.pg_wire.specs.declared.error.WireError.{WireError}
use Rattle.pg_wire.specs.Varint.{IsVarint, varint_value, varint_at}
use Rattle.pg_wire.specs.Reads.{value_at}
use Rattle.pg_wire.proofs.Varints.{varint_at-append}
use Rattle.pg_dyn.specs.message.Message.{Bytes}
use Rattle.pg_dyn.specs.word.Coding.{Text, leaf_in}

-- a varint is read to its end
pub value_at-IsVarint : (body : List ℕ) → IsVarint body → ◌≡◌ {A = Result (ℕ × ℕ) WireError} (value_at body) (Ok (varint_value body, length body))
value_at-IsVarint body h = search (rules, append-nil body, varint_at-append body)

pub word_read : (body : List ℕ) (word n : ℕ) → IsVarint body → ◌≡◌ {A = Result (ℕ × ℕ) WireError} (Ok (word, n)) (value_at body) → word ≡ varint_value body
word_read body word n h e = search (rules, value_at-IsVarint)

pub word_not_refused : (body : List ℕ) (e : WireError) → IsVarint body → ◌≡◌ {A = Result (ℕ × ℕ) WireError} (Err e) (value_at body) → ⊥
word_not_refused body e h is = search (rules, value_at-IsVarint)

pub not_utf8 : (bytes : List ℕ) → (IsUtf8 bytes → ⊥) → is_utf8 bytes ≡ false
not_utf8 bytes h = search (rules, IsUtf8-from_is_utf8)

-- a string is its bytes
pub text_read : (body bytes : List ℕ) → is_utf8 body ≡ true → body ≡ bytes → leaf_in Text body ≡ Some (Bytes bytes)
text_read body bytes h same = rw h (ap (λ b. Some (Bytes b)) same)
