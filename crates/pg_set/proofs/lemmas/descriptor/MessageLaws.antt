-- What messages say by the numbers of their fields, from what they keep.
use Rattle.std.proofs.Common.{◌≡◌, ℕ, zero, suc, ◌+◌, ◌<◌, ◌≤◌, Bool, true, false, List, [], ◌∷◌, ◌++◌, map, length, take, get_or, filter, filter_map, Global, Vec, Some, None, option_map, slice_get, take_all, refl, ap, sym, subst, ◌∙◌, arith, add-one, eq-eqb, rules}
use Rattle.std.proofs.lemmas.List.{append-nil, length-map, map-append, take_all, take_more}
use Rattle.std.proofs.lemmas.List.Elements.{filter-append, filter_map-append}
use Rattle.std.proofs.lemmas.Option.{none-some, same_Some, slice_get-map, slice_get_read}
use Rattle.std.specs.List.{AllByRecursion}
use Rattle.pg_schema.specs.declared.parts.field.TypeId.{TypeId}
use Rattle.pg_wire.specs.Records.{WireRecord}
use Rattle.pg_dyn.specs.declared.message_ref.ContentRef.{ContentRef}
use Rattle.pg_dyn.specs.declared.message_ref.ContentRef.TheVariants as contents
use Rattle.pg_dyn.specs.declared.message_ref.EntryRef.{EntryRef}
use Rattle.pg_dyn.specs.declared.message_ref.ValueRef.{ValueRef}
use Rattle.pg_dyn.specs.declared.message_ref.ValueRef.TheVariants as values
use Rattle.pg_dyn.specs.message.Kept.{Kept, ends, message_of}
use Rattle.pg_dyn.specs.message.KeptParts.{KeptItem, parts_of}
use Rattle.pg_dyn.specs.message.KeptParts.{of_number}
use Rattle.pg_dyn.specs.message.Message.{Item, Message, Part, is_of, parts}
use Rattle.pg_dyn.specs.message_ref.Borrowed.{IsFilled, all_seen, content_seen, entry_part, fields_onto, item_part, item_seen}
use Rattle.pg_dyn.specs.word.NumberLists.{numbers_in}
use Rattle.pg_dyn.proofs.lemmas.message.ReplacingLaws.{item_of, part_item, parts-message_of, parts_of-kept_onto}
use Rattle.pg_set.specs.declared.descriptor.access.SetItem.{SetItem}
use Rattle.pg_set.specs.declared.descriptor.access.SetItem.TheVariants as items
use Rattle.pg_set.specs.inner.reading.Held.{IsSaid, items_in, value_item, values_in}
use Rattle.pg_set.specs.inner.reading.SetItems.{said}
use Rattle.pg_set.specs.stated.SetMessages.{child_in, item_at, items_at}
use Rattle.pg_set.proofs.lemmas.lists.Marks.{all_more as all_and_last}

filtered : (n : ℕ) (ps : List (Part KeptItem)) → filter (is_of n) (map part_item ps) ≡ map part_item (filter (is_of n) ps)
filtered n [] = refl
filtered n (p ∷ ps) = search (rules, filtered n ps, part_item)

items_of_parts : (ps : List (Part KeptItem)) → map (λ (p : Part Item). p.item) (map part_item ps) ≡ map (λ (p : Part KeptItem). item_of p.item) ps
items_of_parts [] = refl
items_of_parts (p ∷ ps) = ap (λ xs. item_of p.item ∷ xs) (items_of_parts ps)

-- the items of a field, from the parts that are kept
pub items_kept : (n : ℕ) (m : Kept) → items_at n (message_of m) ≡ map (λ (p : Part KeptItem). item_of p.item) (of_number n m)
items_kept n m = search (rules, parts-message_of, filtered, items_of_parts)

item_kept : (listed : Bool) (v : ValueRef) → item_of (item_seen listed v) ≡ value_item v
item_kept listed (values.Int n) = refl
item_kept listed (values.F32 n) = refl
item_kept listed (values.F64 n) = refl
item_kept listed (values.Text n) = refl
item_kept listed (values.Bytes n) = refl
item_kept listed (values.Msg n) = refl

list_kept : (n : ℕ) (vs : List ValueRef) → map (λ (p : Part KeptItem). item_of p.item) (map (item_part n true) vs) ≡ map value_item vs
list_kept n [] = refl
list_kept n (v ∷ vs) = ap (λ x. x ∷ map (λ (p : Part KeptItem). item_of p.item) (map (item_part n true) vs)) (item_kept true v) ∙ ap (λ xs. value_item v ∷ xs) (list_kept n vs)

entries_kept : (n : ℕ) (es : List EntryRef) → map (λ (p : Part KeptItem). item_of p.item) (map (entry_part n) es) ≡ map value_item (map (λ (e : EntryRef). e.value) es)
entries_kept n [] = refl
entries_kept n (e ∷ es) = search (rules, entries_kept n es, item_of, item_kept)

content_kept : (n : ℕ) (content : ContentRef) → map (λ (p : Part KeptItem). item_of p.item) (content_seen n content) ≡ items_in content
content_kept n (contents.One v) = ap (λ x. x ∷ []) (item_kept false v)
content_kept n (contents.Many vs) = list_kept n vs.items
content_kept n (contents.Map es) = entries_kept n es.items
content_kept n (contents.Numbers ns) = list_kept n (numbers_in ns)

-- a field's items are those of its content
pub content_items : (n : ℕ) (m : Kept) (content : ContentRef) → of_number n m ≡ content_seen n content → items_in content ≡ items_at n (message_of m)
content_items n m content seen = sym (items_kept n m ∙ ap (map (λ (p : Part KeptItem). item_of p.item)) seen ∙ content_kept n content)

pub no_items : (n : ℕ) (m : Kept) → of_number n m ≡ [] → items_at n (message_of m) ≡ []
no_items n m none = items_kept n m ∙ ap (map (λ (p : Part KeptItem). item_of p.item)) none

pub no_item : (n : ℕ) (m : Kept) → of_number n m ≡ [] → None ≡ item_at n (message_of m)
no_item n m none = sym (ap (λ (xs : List Item). slice_get xs 0) (no_items n m none))

-- ---- contents that are filled

none_mapped : {A B : Type 0} (f : A → B) (xs : List A) → map f xs ≡ [] → xs ≡ []
none_mapped f [] none = refl
none_mapped f (x ∷ xs) none = absurd (omega (arith, ap length none))

some_values : (vs : List ValueRef) → (vs ≡ [] → ⊥) → 0 < length vs
some_values [] some = absurd (some refl)
some_values (v ∷ vs) some = omega arith

-- a content has values
filled_values : (content : ContentRef) → IsFilled content → 0 < length (values_in content)
filled_values (contents.One v) filled = omega arith
filled_values (contents.Many vs) filled = some_values vs.items filled
filled_values (contents.Map es) filled = some_values (map (λ (e : EntryRef). e.value) es.items) (λ none. filled (none_mapped (λ (e : EntryRef). e.value) es.items none))
filled_values (contents.Numbers ns) filled = some_values (numbers_in ns) filled

-- and so items
pub filled_items : (n : ℕ) (m : Kept) (content : ContentRef) → of_number n m ≡ content_seen n content → IsFilled content → items_at n (message_of m) ≡ [] → ⊥
filled_items n m content seen filled none = search (rules, none_mapped, content_items, filled_values)

-- ---- items by their indices

pub many_there : (content : ContentRef) (vs : Vec ValueRef Global) (i : ℕ) (v : ValueRef) → content ≡ contents.Many vs → i < length (values_in content) → v ≡ get_or vs.items i v
    → slice_get (values_in content) i ≡ Some v
many_there content vs i v is within read = search (rules, slice_get_read)

value_there : (es : List EntryRef) (i : ℕ) (e : EntryRef) → i < length (map (λ (e : EntryRef). e.value) es) → e ≡ get_or es i e → slice_get (map (λ (e : EntryRef). e.value) es) i ≡ Some e.value
value_there [] i e within read = absurd (omega (arith, within))
value_there (d ∷ es) zero e within read = ap (λ (x : EntryRef). Some x.value) (sym read)
value_there (d ∷ es) (suc i) e within read = value_there es i e (omega (arith, within)) read

pub entry_there : (content : ContentRef) (es : Vec EntryRef Global) (i : ℕ) (e : EntryRef) → content ≡ contents.Map es → i < length (values_in content) → e ≡ get_or es.items i e
    → slice_get (values_in content) i ≡ Some e.value
entry_there content es i e is within read = search (rules, value_there)

-- a value is said where all are
pub said_there : (vs : List ValueRef) (i : ℕ) (v : ValueRef) → slice_get vs i ≡ Some v → AllByRecursion IsSaid vs → IsSaid v
said_there [] i v there all = absurd (none-some v there)
said_there (w ∷ vs) zero v there all = subst IsSaid (same_Some w v there) all.0
said_there (w ∷ vs) (suc i) v there all = said_there vs i v there all.1

pub item_there : (vs : List ValueRef) (i : ℕ) (v : ValueRef) (item : Item) → slice_get vs i ≡ Some v → item ≡ value_item v → slice_get (map value_item vs) i ≡ Some item
item_there vs i v item there is = slice_get-map value_item vs i ∙ (ap (option_map value_item) there ∙ ap Some (sym is))

up_to : {A : Type 0} (xs : List A) (i : ℕ) (x : A) → slice_get xs i ≡ Some x → take (suc i) xs ≡ take i xs ++ x ∷ []
up_to [] i x there = absurd (none-some x there)
up_to (y ∷ ys) zero x there = ap (λ z. z ∷ []) (same_Some y x there)
up_to (y ∷ ys) (suc i) x there = ap (λ zs. y ∷ zs) (up_to ys i x there)

-- what is made of the items up to an index, and of the one there
pub one_more : {B : Type 0} (f : Item → B) (xs : List Item) (i : ℕ) (x : Item) (made : List B) → slice_get xs i ≡ Some x → made ≡ map f (take i xs) → made ++ f x ∷ [] ≡ map f (take (i + 1) xs)
one_more f xs i x made there before =
    ap (λ ys. ys ++ f x ∷ []) before ∙ (sym (map-append f (take i xs) (x ∷ [])) ∙ ap (map f) (sym (up_to xs i x there) ∙ ap (λ n. take n xs) (sym (add-one i))))

pub children_more : (xs : List Item) (i : ℕ) (x : Item) (made : List Message) → slice_get xs i ≡ Some x → made ≡ filter_map child_in (take i xs)
    → made ++ filter_map child_in (x ∷ []) ≡ filter_map child_in (take (i + 1) xs)
children_more xs i x made there before =
    ap (λ ys. ys ++ filter_map child_in (x ∷ [])) before
    ∙ (sym (filter_map-append child_in (take i xs) (x ∷ [])) ∙ ap (filter_map child_in) (sym (up_to xs i x there) ∙ ap (λ n. take n xs) (sym (add-one i))))

pub no_child : (item : SetItem) → ((child : Kept) → item ≡ items.Message child → ⊥) → filter_map child_in (said item ∷ []) ≡ []
no_child (items.Number n) other = refl
no_child (items.Text text) other = refl
no_child (items.Message child) other = absurd (other child refl)

-- all of them are the field's
pub all_items : (n : ℕ) (m : Kept) (content : ContentRef) (count i : ℕ) → of_number n m ≡ content_seen n content → count ≡ length (values_in content) → count ≤ i → take i (items_in content) ≡ items_at n (message_of m)
all_items n m content count i seen is past = search (rules, take_all, length-map, content_items)

-- ---- messages without contents

front_nil : {A : Type 0} (xs ys : List A) → xs ++ ys ≡ [] → xs ≡ []
front_nil [] ys none = refl
front_nil (x ∷ xs) ys none = absurd (omega (arith, ap length none))

own_parts : {A : Type 0} (n : ℕ) (f : A → Part KeptItem) → ((x : A) → (f x).number ≡ n) → (xs : List A) → filter (is_of n) (map f xs) ≡ map f xs
own_parts n f is [] = refl
own_parts n f is (x ∷ xs) = rw (is x, eq-eqb n n refl, own_parts n f is xs)

own_content : (n : ℕ) (content : ContentRef) → filter (is_of n) (content_seen n content) ≡ content_seen n content
own_content n (contents.One v) = own_parts n (item_part n false) (λ x. refl) (v ∷ [])
own_content n (contents.Many vs) = own_parts n (item_part n true) (λ x. refl) vs.items
own_content n (contents.Map es) = own_parts n (entry_part n) (λ x. refl) es.items
own_content n (contents.Numbers ns) = own_parts n (item_part n true) (λ x. refl) (numbers_in ns)

none_left : (fs : List (ℕ × ContentRef)) (ps : List (Part KeptItem)) → all_seen fs ≡ ps → AllByRecursion (λ (f : ℕ × ContentRef). filter (is_of f.0) ps ≡ []) fs → ps ≡ []
none_left [] ps is all = sym is
none_left (f ∷ fs) ps is all =
    let own : filter (is_of f.0) (content_seen f.0 f.1) ++ filter (is_of f.0) (all_seen fs) ≡ [] = sym (filter-append (is_of f.0) (content_seen f.0 f.1) (all_seen fs)) ∙ (ap (filter (is_of f.0)) is ∙ all.0) in
    let front : content_seen f.0 f.1 ≡ [] = sym (own_content f.0 f.1) ∙ front_nil (filter (is_of f.0) (content_seen f.0 f.1)) _ own in
    none_left fs ps (ap (λ xs. xs ++ all_seen fs) (sym front) ∙ is) all.1

unseen : (m : Kept) (fs : List (ℕ × ContentRef)) → AllByRecursion (λ (f : ℕ × ContentRef). items_at f.0 (message_of m) ≡ []) fs → AllByRecursion (λ (f : ℕ × ContentRef). filter (is_of f.0) (parts_of m) ≡ []) fs
unseen m [] all = tt
unseen m (f ∷ fs) all = (none_mapped (λ (p : Part KeptItem). item_of p.item) (of_number f.0 m) (sym (items_kept f.0 m) ∙ all.0), unseen m fs all.1)

-- a message has no parts where it has no items under the numbers of its fields
pub no_parts : (m : Kept) (fs : List (ℕ × ContentRef)) (type : TypeId) (us : List WireRecord) → m ≡ fields_onto fs (ends type us)
    → AllByRecursion (λ (f : ℕ × ContentRef). items_at f.0 (message_of m) ≡ []) fs → parts (message_of m) ≡ []
no_parts m fs type us is all =
    let seen : all_seen fs ≡ parts_of m = sym (append-nil (all_seen fs)) ∙ (sym (parts_of-kept_onto (all_seen fs) (ends type us)) ∙ ap parts_of (sym is)) in
    parts-message_of m ∙ ap (map part_item) (none_left fs (parts_of m) seen (unseen m fs all))

pub all_more : {A : Type 0} (P : A → Type 0) (xs : List A) (i : ℕ) (x : A) → i < length xs → x ≡ get_or xs i x → AllByRecursion P (take i xs) → P x → AllByRecursion P (take (i + 1) xs)
all_more P xs i x h is before here = search (rules, take_more, all_and_last)

pub all_taken : {A : Type 0} (P : A → Type 0) (xs : List A) (i : ℕ) → length xs ≤ i → AllByRecursion P (take i xs) → AllByRecursion P xs
all_taken P xs i past all = subst (AllByRecursion P) (take_all i xs past) all
