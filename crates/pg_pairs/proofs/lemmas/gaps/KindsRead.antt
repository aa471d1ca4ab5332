-- What a field reads is of its own kind, so content of another kind is never seen.
use Rattle.std.proofs.Common.{◌≡◌, ℕ, List, [], ◌∷◌, map, filter, Bool, true, false, ◌&&◌, if◌then◌else◌, Option, Some, None, option_map, ⊎_elim, refl, ap, sym, ◌∙◌, subst, rules}
use Rattle.std.specs.List.{AllByRecursion}
use Rattle.std.proofs.lemmas.Bool.{and_left, and_right, cases_Bool}
use Rattle.pg_schema.specs.declared.parts.field.TypeId.{TypeId}
use Rattle.pg_schema.specs.declared.parts.field.Scalar.{Scalar}
use Rattle.pg_schema.specs.declared.parts.field.Element.{Element}
use Rattle.pg_schema.specs.declared.parts.field.Element.TheVariants as elements
use Rattle.pg_schema.specs.declared.parts.field.Presence.{Presence}
use Rattle.pg_schema.specs.Shape.{FieldShape, is_repeated}
use Rattle.pg_wire.specs.Records.{WireRecord}
use Rattle.pg_dyn.specs.reading.Optional.{all_some, joined, last_of}
use Rattle.pg_dyn.specs.message.Message.{Leaf, Int, F32, F64, Bytes, Item, Message, Part}
use Rattle.pg_dyn.specs.word.Coding.{Form, Integer, Single, Double, Text, Raw, form, leaf_in, InRange}
use Rattle.pg_dyn.specs.reading.Content.{takes, leaves_in, last_item, plain_content, entry_in, by_key}
use Rattle.pg_dyn.specs.reading.Decoding.{Reader, read_item, read_part}
use Rattle.pg_dyn.specs.views.Comparison.{View, Alike, same_key, matches, alike_leaves, Kept, Comparand}
use Rattle.pg_dyn.proofs.Lists.{each_weaker, each_of_all, each-map, and_then_some, option_map_some, each_some, each-joined, each_filtered}
use Rattle.pg_dyn.specs.laws.ByComparands.{field_read}
use Rattle.pg_pairs.proofs.lemmas.gaps.Leaves.{alike_equal}
use Rattle.pg_pairs.proofs.lemmas.gaps.GapItems.{IsLeafy}
use Rattle.pg_pairs.proofs.lemmas.bounds.AcrossPlain.{plain_part, NotMap}
use Rattle.pg_pairs.proofs.lemmas.bounds.AcrossMap.{IsMap}
use Rattle.pg_pairs.proofs.lemmas.bounds.Broken.{NoneMatches, leaves_read, leaf_part}

-- Int, F32, F64 and Bytes
abbrev pub kind : Leaf → ℕ
kind (Int n) = 0
kind (F32 bits) = 1
kind (F64 bits) = 2
kind (Bytes bytes) = 3

abbrev pub form_kind : Form → ℕ
form_kind (Integer w) = 0
form_kind Single = 1
form_kind Double = 2
form_kind Text = 3
form_kind Raw = 3

abbrev pub IsOfForm : Form → Leaf → Type 0
IsOfForm f leaf = kind leaf ≡ form_kind f

pub range_kind : (f : Form) (leaf : Leaf) → InRange f leaf → IsOfForm f leaf
range_kind (Integer w) (Int n) h = refl
range_kind Single (F32 n) h = refl
range_kind Double (F64 n) h = refl
range_kind Text (Bytes n) h = refl
range_kind Raw (Bytes n) h = refl
range_kind f leaf h = absurd h

pub leaf_in_kind : (f : Form) (bytes : List ℕ) (leaf : Leaf) → leaf_in f bytes ≡ Some leaf → IsOfForm f leaf
leaf_in_kind (Integer w) bytes leaf h = search rules
leaf_in_kind Single bytes leaf h = search rules
leaf_in_kind Double bytes leaf h = search rules
leaf_in_kind Raw bytes leaf h = search rules
leaf_in_kind Text bytes leaf h = search rules

leaves_kind : (g : FieldShape) (r : WireRecord) (leaves : List Leaf) → leaves_in g r ≡ Some leaves → AllByRecursion (IsOfForm (form g.element)) leaves
leaves_kind g r leaves h = search (rules, option_map_some, leaf_in_kind, and_then_some, each_some)

last_each : {A : Type 0} (P : A → Type 0) (xs : List A) → AllByRecursion P xs → AllByRecursion P (last_of xs)
last_each P [] h = tt
last_each P (x ∷ []) h = h
last_each P (x ∷ y ∷ xs) h = last_each P (y ∷ xs) h.1

last_item_each : (P : Leaf → Type 0) (p : Presence) (d : Element) → IsLeafy d → (leaves : List Leaf) → AllByRecursion P leaves → AllByRecursion P (last_item p d leaves)
last_item_each P p (elements.Message t) leafy leaves h = absurd leafy
last_item_each P p (elements.Scalar s) leafy leaves h = search (rules, each_filtered, last_each)
last_item_each P p (elements.Enum s) leafy leaves h = search (rules, each_filtered, last_each)

pub content_kind : (g : FieldShape) → IsLeafy g.element → (rs : List WireRecord) (leaves : List Leaf) → plain_content g rs ≡ Some leaves → AllByRecursion (IsOfForm (form g.element)) leaves
content_kind g leafy rs leaves h =
    let (rows, read, made) = option_map_some (λ (xs : List (List Leaf)). if is_repeated g.presence then joined xs else last_item g.presence g.element (joined xs)) (all_some (map (leaves_in g) rs)) leaves h in
    let all = each-joined (IsOfForm (form g.element)) rows (each_some (AllByRecursion (IsOfForm (form g.element))) (leaves_in g) (leaves_kind g) rs rows read) in
    subst (AllByRecursion (IsOfForm (form g.element))) made
    (elim (is_repeated g.presence) as (λ b. AllByRecursion (IsOfForm (form g.element)) (if b then joined rows else last_item g.presence g.element (joined rows)))
    [ true ↦ all | false ↦ last_item_each (IsOfForm (form g.element)) g.presence g.element leafy (joined rows) all ])

-- A leaf of another kind isn't among what a field of leaves reads.
pub other_kind_matches_none : (view : View) (child : Reader) (f g : FieldShape) → NotMap child g → IsLeafy g.element → (c : Comparand) → c.expected ≡ Alike c.written → (kind c.written ≡ form_kind (form g.element) → ⊥) → (rs : List WireRecord) (qs : List (Part Item)) → field_read child g rs ≡ Some qs → NoneMatches view f g c qs
other_kind_matches_none view child f g plain leafy c so other rs qs h =
    let (ps, content_is, read) = and_then_some (λ xs. all_some (map (read_part child g.element) xs)) _ qs h in
    let (leaves, plain_is, made) = option_map_some (map (plain_part g.number)) (plain_content g (filter (takes g) rs)) ps (sym (plain.content_is (filter (takes g) rs)) ∙ content_is) in
    let equal : ◌≡◌ {A = Option (List (Part Item))} (Some (map (leaf_part g.number) leaves)) (Some qs) =
    sym (leaves_read child g.element g.number leaves leafy) ∙ ap (λ xs. all_some (map (read_part child g.element) xs)) made ∙ read in
    let same : map (leaf_part g.number) leaves ≡ qs = cc in
    subst (NoneMatches view f g c) same
    (each-map (λ (q : Part Item). (same_key c.key q.key && matches view f g c.expected q.item) ≡ false) (leaf_part g.number) leaves
    (each_weaker (IsOfForm (form g.element)) _
    (λ l is. and_right (same_key c.key None) _ (rw so (⊎_elim (λ alike. absurd (other (ap kind (alike_equal view f.element g.element c.written l alike) ∙ is))) (λ no. no) (cases_Bool (alike_leaves view f.element g.element c.written l)))))
    leaves (content_kind g leafy (filter (takes g) rs) leaves plain_is)))

-- A child isn't among leaves, nor a leaf among children.
pub child_matches_no_leaf : (view : View) (child : Reader) (f g : FieldShape) → NotMap child g → IsLeafy g.element → (c : Comparand) (test : Message → Bool) → c.expected ≡ Kept test → (rs : List WireRecord) (qs : List (Part Item)) → field_read child g rs ≡ Some qs → NoneMatches view f g c qs
child_matches_no_leaf view child f g plain leafy c test so rs qs h =
    let (ps, content_is, read) = and_then_some (λ xs. all_some (map (read_part child g.element) xs)) _ qs h in
    let (leaves, plain_is, made) = option_map_some (map (plain_part g.number)) (plain_content g (filter (takes g) rs)) ps (sym (plain.content_is (filter (takes g) rs)) ∙ content_is) in
    let equal : ◌≡◌ {A = Option (List (Part Item))} (Some (map (leaf_part g.number) leaves)) (Some qs) =
    sym (leaves_read child g.element g.number leaves leafy) ∙ ap (λ xs. all_some (map (read_part child g.element) xs)) made ∙ read in
    let same : map (leaf_part g.number) leaves ≡ qs = cc in
    subst (NoneMatches view f g c) same
    (each-map (λ (q : Part Item). (same_key c.key q.key && matches view f g c.expected q.item) ≡ false) (leaf_part g.number) leaves
    (each_weaker (IsOfForm (form g.element)) _ (λ l is. and_right (same_key c.key None) _ (rw so)) leaves (content_kind g leafy (filter (takes g) rs) leaves plain_is)))

-- what holds of each value that a function gives of such arguments holds of all that it gives
pub each_some_from : {A B : Type 0} (R : A → Type 0) (P : B → Type 0) (g : A → Option B) → ((x : A) (y : B) → R x → g x ≡ Some y → P y) → (xs : List A) → AllByRecursion R xs → (ys : List B) → all_some (map g xs) ≡ Some ys → AllByRecursion P ys
each_some_from {A} {B} R P g gives [] each ys h = let same : ◌≡◌ {A = List B} [] ys = cc in subst (AllByRecursion P) same tt
each_some_from {A} {B} R P g gives (x ∷ xs) each ys h =
    let (y, here, more) = and_then_some (λ z. option_map (λ zs. z ∷ zs) (all_some (map g xs))) (g x) ys h in
    let (zs, later, made) = option_map_some (λ (zs : List B). y ∷ zs) (all_some (map g xs)) ys more in
    subst (AllByRecursion P) made (gives x y each.0 here, each_some_from R P g gives xs each.1 zs later)

-- A leaf isn't among children.
pub leaf_matches_no_child : (view : View) (child : Reader) (f g : FieldShape) (t : TypeId) → g.element ≡ elements.Message t → (c : Comparand) (leaf : Leaf) → c.expected ≡ Alike leaf → (rs : List WireRecord) (qs : List (Part Item)) → field_read child g rs ≡ Some qs → NoneMatches view f g c qs
leaf_matches_no_child view child f g t is c leaf so rs qs h =
    search (rules, and_then_some, each_some, option_map_some, and_right)

-- An entry isn't among the parts of a field that is no map, nor another part among entries.
pub entry_matches_none : (view : View) (child : Reader) (f g : FieldShape) → NotMap child g → (c : Comparand) (k : Leaf) → c.key ≡ Some k → (rs : List WireRecord) (qs : List (Part Item)) → field_read child g rs ≡ Some qs → NoneMatches view f g c qs
entry_matches_none view child f g plain c k key rs qs h =
    let (ps, content_is, read) = and_then_some (λ xs. all_some (map (read_part child g.element) xs)) _ qs h in
    let (leaves, plain_is, made) = option_map_some (map (plain_part g.number)) (plain_content g (filter (takes g) rs)) ps (sym (plain.content_is (filter (takes g) rs)) ∙ content_is) in
    each_some_from (λ (p : Part Leaf). p.key ≡ None) (λ (q : Part Item). (same_key c.key q.key && matches view f g c.expected q.item) ≡ false) (read_part child g.element)
    (λ p q none e.
    let (item, item_is, made) = option_map_some (λ (i : Item). record { number = p.number; key = p.key; item = i }) (read_item child g.element p.item) q e in
    subst (λ (x : Part Item). (same_key c.key x.key && matches view f g c.expected x.item) ≡ false) made (and_left (same_key c.key p.key) (matches view f g c.expected item) (rw (key, none))))
    ps (subst (AllByRecursion (λ (p : Part Leaf). p.key ≡ None)) made (each-map (λ (p : Part Leaf). p.key ≡ None) (plain_part g.number) leaves (each_of_all (λ (l : Leaf). ◌≡◌ {A = Option Leaf} None None) (λ l. refl) leaves))) qs read

pub part_matches_no_entry : (view : View) (child : Reader) (f g : FieldShape) (l : Scalar) → IsMap child g l → (c : Comparand) → c.key ≡ None → (rs : List WireRecord) (qs : List (Part Item)) → field_read child g rs ≡ Some qs → NoneMatches view f g c qs
part_matches_no_entry view child f g l is_map c key rs qs h =
    let (ps, content_is, read) = and_then_some (λ xs. all_some (map (read_part child g.element) xs)) _ qs h in
    let (entries, all, made) = option_map_some (λ (es : List (Leaf × Leaf)). map (λ (e : Leaf × Leaf). record { number = g.number; key = Some e.0; item = e.1 }) (by_key es)) (all_some (map (entry_in l g.element) (filter (takes g) rs))) ps (sym (is_map.content_is (filter (takes g) rs)) ∙ content_is) in
    each_some_from (λ (p : Part Leaf). same_key None p.key ≡ false) (λ (q : Part Item). (same_key c.key q.key && matches view f g c.expected q.item) ≡ false) (read_part child g.element)
    (λ p q none e.
    let (item, item_is, same) = option_map_some (λ (i : Item). record { number = p.number; key = p.key; item = i }) (read_item child g.element p.item) q e in
    subst (λ (x : Part Item). (same_key c.key x.key && matches view f g c.expected x.item) ≡ false) same (and_left (same_key c.key p.key) (matches view f g c.expected item) (rw key none)))
    ps (subst (AllByRecursion (λ (p : Part Leaf). same_key None p.key ≡ false)) made (each-map (λ (p : Part Leaf). same_key None p.key ≡ false) (λ (e : Leaf × Leaf). record { number = g.number; key = Some e.0; item = e.1 }) (by_key entries) (each_of_all (λ (e : Leaf × Leaf). false ≡ false) (λ e. refl) (by_key entries)))) qs read
