-- The bytes of records that are added piece by piece.
use Rattle.std.proofs.Common.{◌≡◌, ℕ, ◌+◌, ◌*◌, ◌<◌, List, [], ◌∷◌, ◌++◌, length, append-nil, append_assoc, rules}
use Rattle.std.specs.Prelude.{Err, Ok, OnOk, Result, if◌then◌else◌, is_ok}
use Rattle.pg_wire.specs.declared.record.WireType.TheVariants.{Len, Varint}
use Rattle.pg_wire.specs.Records.{tag, written}
use Rattle.pg_wire.specs.Varint.{varint}
use Rattle.pg_set.proofs.lemmas.lists.Tests.{is_below}

-- what holds where nothing is refused
pub where_ok : {T E : Type 0} (r : Result T E) (new more old : List ℕ) → new ≡ (if is_ok r then more else old) → OnOk r (new ≡ more)
where_ok (Ok v) new more old h = h
where_ok (Err e) new more old h = tt

-- the varint of a number of seven bits
pub short_varint : (n : ℕ) → n < 128 → varint n ≡ n ∷ []
unfolding varint
short_varint n h = rw (is_below n 128 h)

pub word_added : (bytes first : List ℕ) (number value word : ℕ) → value ≡ number → first ≡ bytes ++ varint (8 * value + 0) → first ++ varint word ≡ bytes ++ (written number Varint (varint word)).bytes
unfolding written tag
word_added bytes first number value word same is = search (rules, append_assoc, append-nil)

pub bytes_added : (bytes first second body : List ℕ) (number value : ℕ) → value ≡ number → first ≡ bytes ++ varint (8 * value + 2) → second ≡ first ++ varint (length body)
    → second ++ body ≡ bytes ++ (written number Len body).bytes
unfolding written tag
bytes_added bytes first second body number value same is more = search (rules, append_assoc)
