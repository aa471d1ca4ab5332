-- The parts that messages lend, of those that own them and of those that borrow.
use Rattle.std.proofs.Common.{◌≡◌, ◌≢◌, ℕ, List, [], ◌∷◌, map, Bool, true, false, Option, Some, None, refl, ap, ap₂, sym, ◌∙◌, arith}
use Rattle.pg_dyn.specs.declared.message.Content.{Content}
use Rattle.pg_dyn.specs.declared.message.Content.TheVariants as owned
use Rattle.pg_dyn.specs.declared.message.Value.{Value}
use Rattle.pg_dyn.specs.declared.message_ref.ContentRef.{ContentRef}
use Rattle.pg_dyn.specs.declared.message_ref.ContentRef.TheVariants as lent
use Rattle.pg_dyn.specs.declared.message_ref.EntryRef.{EntryRef}
use Rattle.pg_dyn.specs.declared.message_ref.ValueRef.{ValueRef}
use Rattle.pg_dyn.specs.declared.number_list.NumberList.{NumberList}
use Rattle.pg_dyn.specs.message_ref.Borrowed as borrowed
use Rattle.pg_dyn.specs.message.KeptParts.{KeptItem}
use Rattle.pg_dyn.specs.encoding.Lending.{AreKeyed, AreKeyless, bare_leaf, entry_part, in_list, item_part, lent_item, owned_item}
use Rattle.pg_dyn.specs.message.Message.{Leaf, Part}
use Rattle.pg_dyn.specs.word.NumberLists.{numbers_in}
use Rattle.pg_dyn.specs.message.Seen.{IsFilled, content_seen, item_seen, leaf_of}
use Rattle.pg_dyn.specs.message.Seen as seen

some_of : {A B : Type 0} (h : A → B) (xs : List A) → xs ≢ [] → map h xs ≢ []
some_of h [] filled e = filled refl
some_of h (x ∷ xs) filled e = absurd (cc)

-- a list without keys isn't one of entries, unless it is empty; one with keys is

no_keys : {A : Type 0} (h : A → Part KeptItem) (k : A → Leaf) → ((x : A) → (h x).key ≡ Some (k x)) → (xs : List A) → AreKeyless (map h xs) → map h xs ≡ []
no_keys h k is [] keyless = refl
no_keys h k is (x ∷ xs) keyless = absurd (let none : ◌≡◌ {A = Option Leaf} None (Some (k x)) = sym keyless.0 ∙ is x in cc)

all_keys : {A : Type 0} (h : A → Part KeptItem) → ((x : A) → (h x).key ≡ None) → (xs : List A) → AreKeyed (map h xs) → map h xs ≡ []
all_keys h is [] keyed = refl
all_keys h is (x ∷ xs) keyed = absurd (keyed.0 (is x))

map_as : {A B : Type 0} (g h : A → B) → ((x : A) → g x ≡ h x) → (xs : List A) → map g xs ≡ map h xs
map_as g h is [] = refl
map_as g h is (x ∷ xs) = ap₂ (λ y ys. y ∷ ys) (is x) (map_as g h is xs)

-- Messages that own their parts.

pub owned_seen : (l : Bool) (v : Value) → item_seen l v ≡ in_list l (owned_item v)
owned_seen l v = grind arith

pub owned_leaf : (v : Value) → leaf_of v ≡ bare_leaf (owned_item v)
owned_leaf v = grind arith

owned_item_part : (n : ℕ) (l : Bool) (v : Value) → seen.item_part n l v ≡ item_part owned_item n l v
owned_item_part n l v = ap (λ (x : KeptItem). record { number = n; key = None; item = x }) (owned_seen l v)

owned_entry_is : (n : ℕ) (e : Value × Value) → seen.entry_part n e ≡ entry_part owned_item (λ (x : Value × Value). x.0) (λ (x : Value × Value). x.1) n e
owned_entry_is n e = ap₂ (λ k (x : KeptItem). record { number = n; key = Some k; item = x }) (owned_leaf e.0) (owned_seen false e.1)

pub owned_filled : (n : ℕ) (c : Content) → IsFilled c → content_seen n c ≢ []
owned_filled n c filled e = grind (arith, some_of)

abbrev pub owned_items : Content → List Value
owned_items (owned.One v) = v ∷ []
owned_items (owned.Many vs) = vs.items
owned_items (owned.Map es) = []

abbrev pub owned_entries : Content → List (Value × Value)
owned_entries (owned.One v) = []
owned_entries (owned.Many vs) = []
owned_entries (owned.Map es) = es.items

pub owned_items_are : (n : ℕ) (c : Content) → AreKeyless (content_seen n c) → (l : Bool) × (content_seen n c ≡ map (item_part owned_item n l) (owned_items c))
owned_items_are n (owned.One v) keyless = (false, ap (λ p. p ∷ []) (owned_item_part n false v))
owned_items_are n (owned.Many vs) keyless = (true, map_as (seen.item_part n true) (item_part owned_item n true) (owned_item_part n true) vs.items)
owned_items_are n (owned.Map es) keyless = (false, no_keys (seen.entry_part n) (λ (e : Value × Value). leaf_of e.0) (λ e. refl) es.items keyless)

pub owned_entries_are : (n : ℕ) (c : Content) → AreKeyed (content_seen n c) → content_seen n c ≡ map (entry_part owned_item (λ (x : Value × Value). x.0) (λ (x : Value × Value). x.1) n) (owned_entries c)
owned_entries_are n c keyed = grind (arith, all_keys, map_as, owned_entry_is)

-- Messages that borrow.

pub lent_seen : (l : Bool) (v : ValueRef) → borrowed.item_seen l v ≡ in_list l (lent_item v)
lent_seen l v = grind arith

pub lent_leaf : (v : ValueRef) → borrowed.leaf_of v ≡ bare_leaf (lent_item v)
lent_leaf v = grind arith

lent_item_part : (n : ℕ) (l : Bool) (v : ValueRef) → borrowed.item_part n l v ≡ item_part lent_item n l v
lent_item_part n l v = ap (λ (x : KeptItem). record { number = n; key = None; item = x }) (lent_seen l v)

lent_entry_is : (n : ℕ) (e : EntryRef) → borrowed.entry_part n e ≡ entry_part lent_item (λ (x : EntryRef). x.key) (λ (x : EntryRef). x.value) n e
lent_entry_is n e = ap₂ (λ k (x : KeptItem). record { number = n; key = Some k; item = x }) (lent_leaf e.key) (lent_seen false e.value)

pub lent_filled : (n : ℕ) (c : ContentRef) → borrowed.IsFilled c → borrowed.content_seen n c ≢ []
lent_filled n c filled e = grind (arith, some_of)

pub lent_numbers : (n : ℕ) (ns : NumberList) → map (borrowed.item_part n true) (numbers_in ns) ≡ map (item_part lent_item n true) (numbers_in ns)
lent_numbers n ns = map_as (borrowed.item_part n true) (item_part lent_item n true) (lent_item_part n true) (numbers_in ns)

abbrev pub lent_items : ContentRef → List ValueRef
lent_items (lent.One v) = v ∷ []
lent_items (lent.Many vs) = vs.items
lent_items (lent.Map es) = []
lent_items (lent.Numbers ns) = numbers_in ns

abbrev pub lent_entries : ContentRef → List EntryRef
lent_entries (lent.One v) = []
lent_entries (lent.Many vs) = []
lent_entries (lent.Map es) = es.items
lent_entries (lent.Numbers ns) = []

pub lent_items_are : (n : ℕ) (c : ContentRef) → AreKeyless (borrowed.content_seen n c) → (l : Bool) × (borrowed.content_seen n c ≡ map (item_part lent_item n l) (lent_items c))
lent_items_are n (lent.One v) keyless = (false, ap (λ p. p ∷ []) (lent_item_part n false v))
lent_items_are n (lent.Many vs) keyless = (true, map_as (borrowed.item_part n true) (item_part lent_item n true) (lent_item_part n true) vs.items)
lent_items_are n (lent.Numbers ns) keyless = (true, lent_numbers n ns)
lent_items_are n (lent.Map es) keyless = (false, no_keys (borrowed.entry_part n) (λ (e : EntryRef). borrowed.leaf_of e.key) (λ e. refl) es.items keyless)

pub lent_entries_are : (n : ℕ) (c : ContentRef) → AreKeyed (borrowed.content_seen n c) → borrowed.content_seen n c ≡ map (entry_part lent_item (λ (x : EntryRef). x.key) (λ (x : EntryRef). x.value) n) (lent_entries c)
lent_entries_are n c keyed = grind (arith, all_keys, map_as, lent_entry_is)
