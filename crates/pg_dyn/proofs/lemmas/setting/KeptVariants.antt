-- Which variant a field keeps of a string or bytes.
use Rattle.std.proofs.Common.{◌≡◌, ℕ, List, [], ◌∷◌, map, Bool, true, false, ◌||◌, refl, ap₂, rules, arith}
use Rattle.std.specs.List.{AllByRecursion}
use Rattle.pg_schema.specs.declared.parts.field.Element.{Element}
use Rattle.pg_schema.specs.declared.parts.field.Element.TheVariants as elements
use Rattle.pg_schema.specs.declared.parts.field.Scalar.{Scalar}
use Rattle.pg_schema.specs.Shape.{Shape}
use Rattle.pg_schema.specs.rules.Fields.{is_key}
use Rattle.pg_dyn.specs.declared.message.Value.{Value}
use Rattle.pg_dyn.specs.word.Coding.{InRange, scalar_form}
use Rattle.pg_dyn.specs.fitting.ContentFits.{ItemFits, EntryFits}
use Rattle.pg_dyn.specs.message.KeptParts.{Plain}
use Rattle.pg_dyn.specs.message.Message.{Leaf, Bytes}
use Rattle.pg_dyn.specs.fitting.ScalarItems.{IsItemOf, IsKeptAs}
use Rattle.pg_dyn.specs.message.Seen.{IsMapKey, item_seen}
use Rattle.pg_dyn.specs.inner.Reported.{entry_kept, entry_seen}
use Rattle.pg_dyn.specs.fitting.Fits.{is_string}
use Rattle.pg_dyn.specs.fitting.Texts.{holds_bytes, kept_item}
use Rattle.pg_dyn.proofs.lemmas.message_ref.BorrowedItems.{key_bytes}

-- Of a scalar whose items are numbers.

not_string : (s : Scalar) → holds_bytes (elements.Scalar s) ≡ false → is_string (elements.Scalar s) ≡ false
not_string s h = grind arith

no_bytes : (s : Scalar) (bytes : List ℕ) → holds_bytes (elements.Scalar s) ≡ false → InRange (scalar_form s) (Bytes bytes) → ⊥
no_bytes s bytes h item = grind arith

pub number_kept_as : (s : Scalar) (v : Value) → holds_bytes (elements.Scalar s) ≡ false → IsKeptAs s v
number_kept_as s v h = grind arith

no_text : (e : Element) (listed : Bool) (leaf : Leaf) → is_string e ≡ false → Plain (record { listed = listed; text = false }) leaf ≡ kept_item e (Plain (record { listed = listed; text = false }) leaf)
no_text e listed leaf h = rw h refl

scalar_same : (s : Scalar) (v : Value) (listed : Bool) → holds_bytes (elements.Scalar s) ≡ false → (e : Element) → is_string e ≡ false → IsItemOf s v → item_seen listed v ≡ kept_item e (item_seen listed v)
scalar_same s v listed h e not_text item = grind (arith, no_text, no_bytes)

-- an item of an element that holds no bytes is kept as it is
pub same_kept : (shape : Shape) (e : Element) (v : Value) (listed : Bool) → holds_bytes e ≡ false → ItemFits shape e v → item_seen listed v ≡ kept_item e (item_seen listed v)
same_kept shape e v listed h item = grind (arith, scalar_same, not_string)

-- A map's key that is kept as its scalar keeps it is a number or a string.

pub map_key : (s : Scalar) (v : Value) → is_key s ≡ true → IsItemOf s v → IsKeptAs s v → IsMapKey v
map_key s v key item kept = grind (arith, key_bytes)

-- Lists and maps whose items hold no bytes stay as they are.

pub values_same : (shape : Shape) (e : Element) (vs : List Value) → holds_bytes e ≡ false → AllByRecursion (ItemFits shape e) vs → map (item_seen true) vs ≡ map (λ v. kept_item e (item_seen true v)) vs
values_same shape e [] h fit = refl
values_same shape e (v ∷ vs) h fit = ap₂ (λ i is. i ∷ is) (same_kept shape e v true h fit.0) (values_same shape e vs h fit.1)

neither : (a b : Bool) → (a || b) ≡ false → (a ≡ false) × (b ≡ false)
neither true b h = absurd (cc)
neither false b h = (refl, h)

pub entries_same : (shape : Shape) (key : Scalar) (e : Element) (es : List (Value × Value)) → (holds_bytes (elements.Scalar key) || holds_bytes e) ≡ false → AllByRecursion (EntryFits shape key e) es
    → map entry_seen es ≡ map (entry_kept e) es
entries_same shape key e [] h fit = refl
entries_same shape key e (x ∷ es) h fit =
    search (rules, neither, same_kept, entries_same shape key e es h fit.1)

pub keys_same : (key : Scalar) (e : Element) (es : List (Value × Value)) → (holds_bytes (elements.Scalar key) || holds_bytes e) ≡ false → AllByRecursion (λ (x : Value × Value). IsKeptAs key x.0) es
keys_same key e [] h = tt
keys_same key e (x ∷ es) h = (number_kept_as key x.0 (neither (holds_bytes (elements.Scalar key)) (holds_bytes e) h).0, keys_same key e es h)
