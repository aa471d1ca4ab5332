-- The parts of a message that borrows, and of its copy.
use Rattle.std.proofs.Common.{Vec, Global, ◌≡◌, ℕ, zero, suc, ◌+◌, ◌<◌, List, [], ◌∷◌, ◌++◌, length, map, get_or, take, Bool, true, false, Some, None, refl, ap, ap₂, sym, subst, ◌∙◌, arith, rules}
use Rattle.std.specs.Prelude.{⊤}
use Rattle.std.specs.List.{AllByRecursion}
use Rattle.std.proofs.lemmas.List.{map-append, take_more}
use Rattle.pg_schema.specs.declared.parts.field.TypeId.{TypeId}
use Rattle.pg_wire.specs.declared.record.Record.{Record}
use Rattle.pg_wire.specs.Reads.{seen_record}
use Rattle.pg_wire.specs.Records.{IsRecord, WireRecord}
use Rattle.pg_dyn.specs.declared.message.Content.{Content}
use Rattle.pg_dyn.specs.declared.message.Content.TheVariants as held
use Rattle.pg_dyn.specs.declared.message.Value.{Value}
use Rattle.pg_dyn.specs.declared.message_ref.ContentRef.{ContentRef}
use Rattle.pg_dyn.specs.declared.message_ref.ContentRef.TheVariants as contents
use Rattle.pg_dyn.specs.declared.message_ref.EntryRef.{EntryRef}
use Rattle.pg_dyn.specs.declared.message_ref.ValueRef.{ValueRef}
use Rattle.pg_dyn.specs.declared.number_list.NumberList.{NumberList}
use Rattle.pg_dyn.specs.word.NumberLists.{numbers_in}
use Rattle.pg_dyn.specs.message_ref.Borrowed.{all_seen, content_seen, entry_part, fields_onto, item_part}
use Rattle.pg_dyn.specs.message_ref.Borrowed as borrowed
use Rattle.pg_dyn.specs.inner.Copies.{AreEntryCopies, IsContentCopy, IsEntryCopy, IsItemCopy}
use Rattle.pg_dyn.specs.message.Kept.{ends}
use Rattle.pg_dyn.specs.message.KeptParts.{AreOf, KeptItem, Plain, Msg}
use Rattle.pg_dyn.specs.message.Message.{Leaf, Bytes}
use Rattle.pg_dyn.specs.message.Replacing.{kept_onto}
use Rattle.pg_dyn.specs.message.Seen.{HasKeys, IsFilled, IsMapKey, Rises, item_seen}
use Rattle.pg_dyn.specs.message.Seen as seen
use Rattle.pg_dyn.proofs.Lists.{each-append, each_after, each_before, flat_map-append', map_map, each-map, each_unmapped}
use Rattle.pg_dyn.proofs.lemmas.message.ReplacingLaws.{mapped_number}
use Rattle.pg_dyn.specs.encoding.Lending.{Bare, Child, Lone, bare_leaf, in_list, lent_item, owned_item}
use Rattle.pg_dyn.proofs.lemmas.encoding.LentParts.{lent_leaf, lent_seen, owned_leaf, owned_seen}

-- the parts of a content are all of its number
pub content_number : (n : ℕ) (c : ContentRef) → AreOf n (content_seen n c)
content_number n (contents.One v) = (refl, tt)
content_number n (contents.Many vs) = mapped_number n (item_part n true) (λ v. refl) vs.items
content_number n (contents.Numbers ns) = mapped_number n (item_part n true) (λ v. refl) (numbers_in ns)
content_number n (contents.Map es) = mapped_number n (entry_part n) (λ e. refl) es.items

-- each of the unknown records is one
pub record_at : (rs : List Record) (i : ℕ) (d : Record) → i < length rs → AllByRecursion IsRecord (map seen_record rs) → IsRecord (seen_record (get_or rs i d))
record_at [] i d inside h = absurd (omega arith)
record_at (r ∷ rs) zero d inside h = h.0
record_at (r ∷ rs) (suc i) d inside h = record_at rs i d (omega arith) h.1

-- Copies.

-- whether an item is a string
abbrev shown_text : KeptItem → Bool
shown_text (Plain manner leaf) = manner.text
shown_text (Msg listed child) = false

-- the key of a copy is one where the key that is lent is
pub key_copied : (r : ValueRef) (v : Value) → item_seen false v ≡ borrowed.item_seen false r → borrowed.IsMapKey r → IsMapKey v
key_copied r v same h = grind arith

-- the leaf that an item shows
abbrev shown_leaf : KeptItem → Leaf
shown_leaf (Plain listed leaf) = leaf
shown_leaf (Msg listed child) = Bytes []

shown_bare : (x : Bare) → shown_leaf (in_list false x) ≡ bare_leaf x
shown_bare (Lone text leaf) = refl
shown_bare (Child m) = refl

pub leaf_copied : (r : ValueRef) (v : Value) → IsItemCopy r v → seen.leaf_of v ≡ borrowed.leaf_of r
leaf_copied r v copy =
    owned_leaf v ∙ sym (shown_bare (owned_item v)) ∙ ap shown_leaf (sym (owned_seen false v) ∙ copy false ∙ lent_seen false r)
    ∙ shown_bare (lent_item r) ∙ sym (lent_leaf r)

pub entry_copied : (e : EntryRef) (key value : Value) → IsItemCopy e.key key → IsItemCopy e.value value → IsEntryCopy e (key, value)
entry_copied e key value of_key of_value = record {
  part = λ n. ap₂ (λ k (item : KeptItem). record { number = n; key = Some k; item = item }) (leaf_copied e.key key of_key) (of_value false);
  key = key_copied e.key key (of_key false);
}

-- one more on both sides
pub map_more : {A B C : Type 0} (f : A → C) (g : B → C) (xs : List A) (ys : List B) (x : A) (y : B) → map f xs ≡ map g ys → f x ≡ g y → map f (xs ++ x ∷ []) ≡ map g (ys ++ y ∷ [])
map_more f g xs ys x y before new = map-append f xs (x ∷ []) ∙ ap₂ (λ zs z. zs ++ z ∷ []) before new ∙ sym (map-append g ys (y ∷ []))

-- Contents.

no_nil : {A B C : Type 0} (f : A → C) (g : B → C) (xs : List A) (ys : List B) → map f xs ≡ map g ys → (ys ≡ [] → ⊥) → xs ≡ [] → ⊥
no_nil f g [] [] same some e = some refl
no_nil f g [] (y ∷ ys) same some e = cc
no_nil f g (x ∷ xs) ys same some e = cc

-- the parts of a list's copy are those of the list
list_parts : (rs : List ValueRef) (vs : List Value) → map (item_seen true) vs ≡ map (borrowed.item_seen true) rs
    → (n : ℕ) → map (seen.item_part n true) vs ≡ map (item_part n true) rs
list_parts rs vs same n =
    sym (map_map (λ (item : KeptItem). record { number = n; key = None; item = item }) (item_seen true) vs)
    ∙ ap (map (λ (item : KeptItem). record { number = n; key = None; item = item })) same
    ∙ map_map (λ (item : KeptItem). record { number = n; key = None; item = item }) (borrowed.item_seen true) rs

pub list_copied : (rs : Vec ValueRef Global) (vs : Vec Value Global) → map (item_seen true) vs.items ≡ map (borrowed.item_seen true) rs.items → IsContentCopy (contents.Many rs) (held.Many vs)
list_copied rs vs same = search (rules, list_parts, no_nil)

pub numbers_copied : (ns : NumberList) (vs : Vec Value Global) → map (item_seen true) vs.items ≡ map (borrowed.item_seen true) (numbers_in ns) → IsContentCopy (contents.Numbers ns) (held.Many vs)
numbers_copied ns vs same = search (rules, list_parts, no_nil)

pub map_copied : (rs : Vec EntryRef Global) (es : Vec (Value × Value) Global) → AreEntryCopies rs.items es.items → IsContentCopy (contents.Map rs) (held.Map es)
map_copied rs es same = record {
  parts = same.parts;
  filled = no_nil (seen.entry_part 0) (entry_part 0) es.items rs.items (same.parts 0);
  keys = same.keys;
}

pub one_entry_more : (lent : List EntryRef) (copies : List (Value × Value)) (e : EntryRef) (c : Value × Value) → AreEntryCopies lent copies → IsEntryCopy e c
    → AreEntryCopies (lent ++ e ∷ []) (copies ++ c ∷ [])
one_entry_more lent copies e c before new = record {
  parts = λ n. map_more (seen.entry_part n) (entry_part n) copies lent c e (before.parts n) (new.part n);
  keys = λ all. each-append (λ (x : Value × Value). IsMapKey x.0) copies (c ∷ []) (before.keys (each_before (λ (x : EntryRef). borrowed.IsMapKey x.key) lent (e ∷ []) all))
      (new.key (each_after (λ (x : EntryRef). borrowed.IsMapKey x.key) lent (e ∷ []) all).0, tt);
}

pub entries_more : (lent : List EntryRef) (copies : List (Value × Value)) (i : ℕ) (e : EntryRef) (c : Value × Value) → i < length lent → e ≡ get_or lent i e
    → AreEntryCopies (take i lent) copies → IsEntryCopy e c → AreEntryCopies (take (i + 1) lent) (copies ++ c ∷ [])
entries_more lent copies i e c inside is before new =
    subst (λ (xs : List EntryRef). AreEntryCopies xs (copies ++ c ∷ [])) (sym (take_more lent i e inside ∙ ap (λ (x : EntryRef). take i lent ++ x ∷ []) (sym is)))
    (one_entry_more (take i lent) copies e c before new)

-- All contents.

pub record AreCopies (lent : List (ℕ × ContentRef)) (copies : List (ℕ × Content)) : Type 0 where
  pub parts : seen.all_seen copies ≡ all_seen lent
  pub numbers : map (λ (f : ℕ × Content). f.0) copies ≡ map (λ (f : ℕ × ContentRef). f.0) lent
  pub filled : AllByRecursion (λ (f : ℕ × ContentRef). borrowed.IsFilled f.1) lent → AllByRecursion (λ (f : ℕ × Content). IsFilled f.1) copies
  pub keys : AllByRecursion (λ (f : ℕ × ContentRef). borrowed.HasKeys f.1) lent → AllByRecursion (λ (f : ℕ × Content). HasKeys f.1) copies

-- one more content
pub one_content_more : (lent : List (ℕ × ContentRef)) (copies : List (ℕ × Content)) (r : ℕ × ContentRef) (c : Content) → AreCopies lent copies → IsContentCopy r.1 c
    → AreCopies (lent ++ r ∷ []) (copies ++ (r.0, c) ∷ [])
one_content_more lent copies r c before new = record {
  parts = flat_map-append' (λ (f : ℕ × Content). seen.content_seen f.0 f.1) copies ((r.0, c) ∷ [])
      ∙ ap₂ (λ xs ys. xs ++ (ys ++ [])) before.parts (new.parts r.0)
      ∙ sym (flat_map-append' (λ (f : ℕ × ContentRef). content_seen f.0 f.1) lent (r ∷ []));
  numbers = map-append (λ (f : ℕ × Content). f.0) copies ((r.0, c) ∷ []) ∙ ap (λ ns. ns ++ r.0 ∷ []) before.numbers ∙ sym (map-append (λ (f : ℕ × ContentRef). f.0) lent (r ∷ []));
  filled = λ all. each-append (λ (f : ℕ × Content). IsFilled f.1) copies ((r.0, c) ∷ []) (before.filled (each_before (λ (f : ℕ × ContentRef). borrowed.IsFilled f.1) lent (r ∷ []) all))
      (new.filled (each_after (λ (f : ℕ × ContentRef). borrowed.IsFilled f.1) lent (r ∷ []) all).0, tt);
  keys = λ all. each-append (λ (f : ℕ × Content). HasKeys f.1) copies ((r.0, c) ∷ []) (before.keys (each_before (λ (f : ℕ × ContentRef). borrowed.HasKeys f.1) lent (r ∷ []) all))
      (new.keys (each_after (λ (f : ℕ × ContentRef). borrowed.HasKeys f.1) lent (r ∷ []) all).0, tt);
}

pub copies_more : (lent : List (ℕ × ContentRef)) (copies : List (ℕ × Content)) (i : ℕ) (r : ℕ × ContentRef) (c : Content) → i < length lent → r ≡ get_or lent i r
    → AreCopies (take i lent) copies → IsContentCopy r.1 c → AreCopies (take (i + 1) lent) (copies ++ (r.0, c) ∷ [])
copies_more lent copies i r c inside is before new =
    subst (λ (xs : List (ℕ × ContentRef)). AreCopies xs (copies ++ (r.0, c) ∷ [])) (sym (take_more lent i r inside ∙ ap (λ (x : ℕ × ContentRef). take i lent ++ x ∷ []) (sym is)))
    (one_content_more (take i lent) copies r c before new)

-- numbers rise where those that are the same do

abbrev Up : List ℕ → Type 0
Up [] = ⊤
Up (n ∷ ns) = AllByRecursion (λ m. n < m) ns × Up ns

up_from : {A : Type 0} (fs : List (ℕ × A)) → Rises fs → Up (map (λ (f : ℕ × A). f.0) fs)
up_from [] h = tt
up_from {A} (f ∷ fs) h = (each-map (λ m. f.0 < m) (λ (g : ℕ × A). g.0) fs h.0, up_from fs h.1)

from_up : {A : Type 0} (fs : List (ℕ × A)) → Up (map (λ (f : ℕ × A). f.0) fs) → Rises fs
from_up [] h = tt
from_up {A} (f ∷ fs) h = (each_unmapped (λ m. f.0 < m) (λ (g : ℕ × A). g.0) fs h.0, from_up fs h.1)

pub rises_same : (xs : List (ℕ × Content)) (ys : List (ℕ × ContentRef)) → map (λ (f : ℕ × Content). f.0) xs ≡ map (λ (f : ℕ × ContentRef). f.0) ys → Rises ys → Rises xs
rises_same xs ys same h = from_up xs (subst Up (sym same) (up_from ys h))

-- the copy of a message shows the same
pub copy_shows : (type : TypeId) (lent : List (ℕ × ContentRef)) (copies : List (ℕ × Content)) (us vs : List WireRecord) → AreCopies lent copies → us ≡ vs
    → seen.fields_onto copies (ends type us) ≡ fields_onto lent (ends type vs)
copy_shows type lent copies us vs same records = ap₂ (λ ps rs. kept_onto ps (ends type rs)) same.parts records
