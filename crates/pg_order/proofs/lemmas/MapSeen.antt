-- A map of children that the new type keeps is kept too where each child is written otherwise, and is read again.
use Rattle.std.proofs.Common.{◌≡◌, ℕ, ◌^◌, ◌<◌, List, [], ◌∷◌, map, filter, length, Bool, true, false, not, ◌&&◌, ◌||◌, cond, Option, Some, None, is_some, unwrap_or, option_map, option_and_then, Ok, refl, ap, ap₂, sym, subst, ◌∙◌, append-nil, eq-eqb}
use Rattle.std.specs.List.{AllByRecursion, list_all}
use Rattle.std.proofs.lemmas.Bool.{and_parts, and_from}
use lib.Pointwise.{pointwise}
use Rattle.pg_schema.specs.declared.parts.field.TypeId.{TypeId}
use Rattle.pg_schema.specs.declared.parts.field.Scalar.{Scalar}
use Rattle.pg_schema.specs.declared.parts.field.Element.TheVariants as elements
use Rattle.pg_schema.specs.declared.parts.field.Presence.TheVariants as presences
use Rattle.pg_schema.specs.Shape.{FieldShape}
use Rattle.pg_wire.specs.declared.record.WireType.TheVariants.{Len}
use Rattle.pg_wire.specs.Records.{WireRecord, records_of, written}
use Rattle.pg_dyn.specs.reading.Optional.{all_some, first_or, joined}
use Rattle.pg_dyn.specs.message.Message.{Leaf, Bytes, Item, Msg, Message, Part, leaf_eq}
use Rattle.pg_dyn.specs.word.Coding.{InRange, body, form, zero_leaf}
use Rattle.pg_dyn.specs.reading.Content.{by_key, content, entry_in, entry_part, key_field, last_item, leaves_in, option_from, plain_content, takes, value_field}
use Rattle.pg_dyn.specs.encoding.Writing.{entry_bytes, field_records, item_record, key_of}
use Rattle.pg_dyn.specs.reading.Decoding.{Reader, all_plain_readable, is_plain_readable, is_readable, read_part}
use Rattle.pg_dyn.specs.laws.ByComparands.{all_field_readable, field_read, is_field_kept}
use Rattle.pg_dyn.specs.laws.FieldLaws.{EntriesRise}
use Rattle.pg_dyn.specs.views.Comparison.{View, Expected, Kept, hides_zero, matches, same_content, same_key, writes}
use Rattle.pg_dyn.proofs.Lists.{all_some-map_map, each_weaker, filter_all, each-map, each_of_all, list_all_each, map_map}
use Rattle.pg_dyn.proofs.PublicLaws.{rising_entries_stay}
use Rattle.pg_dyn.proofs.lemmas.reading.Fields.{field_of}
use Rattle.pg_dyn.proofs.lemmas.reading.entries.Entries.{records_of_entry}
use Rattle.pg_dyn.proofs.lemmas.word.Codings.{Reads-from_range}
use Rattle.pg_dyn.proofs.lemmas.word.Leaves.{leaf_eq_self, same_leaf}
use Rattle.pg_order.proofs.lemmas.KindsRead.{shown_child, shown_message}
use Rattle.pg_order.proofs.lemmas.FieldSeen.{IsAgain, IsGood, IsShown, Pair, kept_again, key_or, new_of, old_of, part_from, shown_parts}

abbrev some_if : Bool → List WireRecord → Option (List WireRecord)
some_if b rs = cond b (Some rs) None

from_some : (b : Bool) (rs : List WireRecord) → is_some (some_if b rs) ≡ true → b ≡ true
from_some true rs h = refl
from_some false rs h = h

implied : (a b : Bool) → (not a || b) ≡ true → a ≡ true → b ≡ true
implied true b h e = h
implied false b h e = absurd (cc)

or_true : (b : Bool) → (b || true) ≡ true
or_true true = refl
or_true false = refl

abbrev with_value : Leaf → Leaf → Leaf × Leaf
with_value v k = (k, v)

abbrev joined_pair : Option Leaf → Option Leaf → Option (Leaf × Leaf)
joined_pair v k = option_and_then (λ x. option_map (λ y. with_value y x) v) k

paired : (o : Option Leaf) (v : Leaf) → joined_pair (Some v) o ≡ option_map (with_value v) o
paired None v = refl
paired (Some k) v = refl

-- An entry of two records, of which the second is the value's.
module _ (child : Reader) (u : TypeId) (new_key : Scalar) (first second r : WireRecord) (b : List ℕ) where
  abbrev keys : FieldShape
  keys = key_field new_key

  abbrev values : FieldShape
  values = value_field (elements.Message u)

  abbrev reads : FieldShape → WireRecord → Bool
  reads h x = not (takes h x) || is_plain_readable child h x

  -- what the new type reads of the key alone
  abbrev pub key_read : Option Leaf
  key_read = entry_part keys (first ∷ [])

  abbrev pub key_readable : Bool
  key_readable = list_all (λ h. reads h first) (keys ∷ values ∷ [])

  pub record IsEntry : Type 0 where
    pub both : records_of r.body ≡ Ok (first ∷ second ∷ [])
    pub not_key : takes keys second ≡ false
    pub not_value : takes values first ≡ false
    pub is_value : takes values second ≡ true
    pub leaves : leaves_in values second ≡ Some (Bytes b ∷ [])
    pub body_is : second.body ≡ b

  module _ (is : IsEntry) where
    value_part : entry_part values (first ∷ second ∷ []) ≡ Some (Bytes b)
    value_part =
        ap (λ t. option_map (first_or (zero_leaf (form (elements.Message u)))) (plain_content values (cond t (first ∷ filter (takes values) (second ∷ [])) (filter (takes values) (second ∷ []))))) is.not_value
        ∙ ap (λ t. option_map (first_or (zero_leaf (form (elements.Message u)))) (plain_content values (cond t (second ∷ []) []))) is.is_value
        ∙ ap (λ ls. option_map (first_or (zero_leaf (form (elements.Message u)))) (option_map (λ rows. last_item presences.Explicit (elements.Message u) (joined rows)) (option_and_then (λ x. option_map (λ xs. x ∷ xs) (Some [])) ls))) is.leaves
        ∙ ap (λ (x : List ℕ). Some (Bytes x)) (append-nil b)

    key_part : entry_part keys (first ∷ second ∷ []) ≡ key_read
    key_part =
        ap (λ t. option_map (first_or (zero_leaf (form (elements.Scalar new_key)))) (plain_content keys (cond (takes keys first) (first ∷ cond t (second ∷ []) []) (cond t (second ∷ []) [])))) is.not_key

    pub entry_is : entry_in new_key (elements.Message u) r ≡ option_map (with_value (Bytes b)) key_read
    entry_is =
        ap (λ x. option_and_then (λ rs. joined_pair (entry_part values rs) (entry_part keys rs)) (option_from x)) is.both
        ∙ ap₂ joined_pair value_part key_part
        ∙ paired key_read (Bytes b)

    readable_is : (n : ℕ) (w : Option ℕ) → is_readable child (field_of n (presences.Map new_key) (elements.Message u) w) r ≡ is_some (some_if (all_plain_readable child (keys ∷ values ∷ []) (first ∷ second ∷ [])) (first ∷ second ∷ []))
    readable_is n w = ap (λ x. is_some (option_and_then (λ rs. some_if (all_plain_readable child (keys ∷ values ∷ []) rs) rs) (option_from x))) is.both

    pub key_readable_from : (n : ℕ) (w : Option ℕ) → is_readable child (field_of n (presences.Map new_key) (elements.Message u) w) r ≡ true → key_readable ≡ true
    key_readable_from n w h =
        let all = from_some (all_plain_readable child (keys ∷ values ∷ []) (first ∷ second ∷ [])) (first ∷ second ∷ []) (sym (readable_is n w) ∙ h) in
        (and_parts key_readable _ all).0

    pub readable_with : (n : ℕ) (w : Option ℕ) → key_readable ≡ true → (m : Message) → child u b ≡ Some m → is_readable child (field_of n (presences.Map new_key) (elements.Message u) w) r ≡ true
    readable_with n w h m read =
        readable_is n w
        ∙ ap (λ t. is_some (some_if t (first ∷ second ∷ [])))
        (and_from key_readable _ h (and_from (reads keys second && (reads values second && true)) true (and_from (reads keys second) _ no_key (and_from (reads values second) true value refl)) refl))
      where
        no_key : reads keys second ≡ true
        no_key = ap (λ t. not t || is_plain_readable child keys second) is.not_key

        value : reads values second ≡ true
        value =
            ap (λ t. not (takes values second) || t) (and_from (is_some (leaves_in values second)) (is_some (child u second.body)) (ap is_some is.leaves) (ap is_some (ap (child u) is.body_is ∙ read)))
            ∙ or_true (not (takes values second))

-- an entry as a part, a child with a key as one, and as it is read
abbrev entry_as_part : ℕ → Leaf × Leaf → Part Leaf
entry_as_part n e = record { number = n; key = Some e.0; item = e.1 }

abbrev one_with : ℕ → List ℕ → Leaf → List (Part Leaf)
one_with n b y = record { number = n; key = Some y; item = Bytes b } ∷ []

abbrev pub item_with : ℕ → Option Leaf → Item → Part Item
item_with n key item = record { number = n; key = key; item = item }

abbrev pub message_with : ℕ → Option Leaf → Message → List (Part Item)
message_with n key m = item_with n key (Msg m) ∷ []

pub some_parts : (xs ys : List (Part Item)) → ◌≡◌ {A = Option (List (Part Item))} (Some xs) (Some ys) → xs ≡ ys
some_parts xs ys h = cc

pub none_some : {A : Type 0} (x : A) → ◌≡◌ {A = Option A} None (Some x) → ⊥
none_some x h = cc

module _ (view : View) (child : Reader) (n : ℕ) (t u : TypeId) (old_key new_key : Scalar) (o w : Option ℕ) where
  abbrev f : FieldShape
  f = field_of n (presences.Map old_key) (elements.Message t) o

  abbrev g : FieldShape
  g = field_of n (presences.Map new_key) (elements.Message u) w

  abbrev key_record : Leaf → WireRecord
  key_record k = item_record 1 (elements.Scalar old_key) k

  abbrev value_record : List ℕ → WireRecord
  value_record b = item_record 2 (elements.Message t) (Bytes b)

  abbrev entry : Leaf → List ℕ → WireRecord
  entry k b = written n Len (entry_bytes old_key (elements.Message t) k (Bytes b))

  abbrev read_key : Leaf → Option Leaf
  read_key k = key_read child u new_key (key_record k) (key_record k) (key_record k) []

  abbrev readable_key : Leaf → Bool
  readable_key k = key_readable child u new_key (key_record k) (key_record k) (key_record k) []

  taken : (k : Leaf) (b : List ℕ) → takes g (entry k b) ≡ true
  unfolding written
  taken k b = rw (eq-eqb n n refl) refl

  entry_says : (k : Leaf) (b : List ℕ) → InRange (form (elements.Scalar old_key)) k → length (entry_bytes old_key (elements.Message t) k (Bytes b)) < 2 ^ 64 → IsEntry child u new_key (key_record k) (value_record b) (entry k b) b
  unfolding written
  entry_says k b in_range short = record {
    both = records_of_entry old_key (elements.Message t) (body (form (elements.Scalar old_key)) k, k) (b, Bytes b) (Reads-from_range (elements.Scalar old_key) k in_range) (record { read = refl; shape = tt }) refl short;
    not_key = refl;
    not_value = refl;
    is_value = refl;
    leaves = refl;
    body_is = refl;
  }

  one_entry : (b : List ℕ) (x : Option Leaf) → option_map (λ es. map (entry_as_part n) (by_key es)) (option_and_then (λ e. option_map (λ es. e ∷ es) (Some [])) (option_map (with_value (Bytes b)) x)) ≡ option_map (one_with n b) x
  one_entry b None = refl
  one_entry b (Some y) = refl

  content_one : (k : Leaf) (b : List ℕ) → IsEntry child u new_key (key_record k) (value_record b) (entry k b) b → content g (entry k b ∷ []) ≡ option_map (one_with n b) (read_key k)
  content_one k b is =
      ap (λ z. option_map (λ es. map (entry_as_part n) (by_key es)) (option_and_then (λ e. option_map (λ es. e ∷ es) (Some [])) z)) (entry_is child u new_key (key_record k) (value_record b) (entry k b) b is)
      ∙ one_entry b (read_key k)

  matched_both : (key l : Option Leaf) (test : Message → Bool) (m : Message) → same_content view f g (record { number = n; key = key; item = Kept test } ∷ []) (record { number = n; key = l; item = Msg m } ∷ []) ≡ true → (same_key key l ≡ true) × (test m ≡ true)
  matched_both key l test m h =
      let both = ap₂ (pointwise (λ (p : Part Expected) (q : Part Item). same_key p.key q.key && matches view f g p.item q.item)) (shown_child (hides_zero f g) n key test []) (shown_message (hides_zero f g) n l m []) in
      let matched : ((same_key key l && test m) && true) ≡ true = sym both ∙ h in
      and_parts (same_key key l) (test m) (and_parts (same_key key l && test m) true matched).0

  -- what a single entry that is kept says: its key is read as itself, and its child is read and passes
  pub record SaysOwn (z : Pair) : Type 0 where
    pub own_key : read_key (key_or old_key z) ≡ Some (key_or old_key z)
    pub message : Message
    pub is_read : child u z.before ≡ Some message
    pub passes : z.test message ≡ true

  module _ (z : Pair) (kept_one : is_field_kept view child f g (old_of n z ∷ []) ≡ true) (short : (length (entry_bytes old_key (elements.Message t) (key_or old_key z) (Bytes z.before)) < 2 ^ 64) × (length (entry_bytes old_key (elements.Message t) (key_or old_key z) (Bytes z.after)) < 2 ^ 64)) (k : Leaf) (key_is : z.key ≡ Some k) (in_range : InRange (form (elements.Scalar old_key)) (key_or old_key z)) where
    single : IsShown view child f g (old_of n z ∷ [])
    single = shown_parts view child f g (old_of n z ∷ []) kept_one

    says : IsEntry child u new_key (key_record (key_or old_key z)) (value_record z.before) (entry (key_or old_key z) z.before) z.before
    says = entry_says (key_or old_key z) z.before in_range short.0

    -- what is read of the entry where its key is read so
    abbrev parts_with : Option Leaf → Option (List (Part Item))
    parts_with x = option_and_then (λ ps. all_some (map (read_part child (elements.Message u)) ps)) (option_map (one_with n z.before) x)

    abbrev part_with : Leaf → Option Message → Option (List (Part Item))
    part_with l x = option_and_then (λ q. option_map (λ qs. q ∷ qs) (Some [])) (option_map (item_with n (Some l)) (option_map Msg x))

    read_is : field_read child g (entry (key_or old_key z) z.before ∷ []) ≡ parts_with (read_key (key_or old_key z))
    read_is =
        ap (λ rs. option_and_then (λ ps. all_some (map (read_part child (elements.Message u)) ps)) (content g rs)) (filter_all (takes g) (entry (key_or old_key z) z.before ∷ []) (taken (key_or old_key z) z.before, tt))
        ∙ ap (option_and_then (λ ps. all_some (map (read_part child (elements.Message u)) ps))) (content_one (key_or old_key z) z.before says)

    same_keys : (y : Leaf) → same_key z.key (Some y) ≡ true → y ≡ key_or old_key z
    same_keys y h =
        let at : leaf_eq k y ≡ true = subst (λ x. same_key x (Some y) ≡ true) key_is h in
        sym (same_leaf k y at) ∙ sym (ap (λ x. unwrap_or x (zero_leaf (form (elements.Scalar old_key)))) key_is)

    pub says_own : SaysOwn z
    says_own = of (read_key (key_or old_key z)) refl (child u z.before) refl
      where
        of : (x : Option Leaf) → read_key (key_or old_key z) ≡ x → (y : Option Message) → child u z.before ≡ y → SaysOwn z
        of None is y at = absurd (none_some single.parts (sym (read_is ∙ ap parts_with is) ∙ single.is_read))
        of (Some l) is None at = absurd (none_some single.parts (sym (read_is ∙ ap parts_with is ∙ ap (part_with l) at) ∙ single.is_read))
        of (Some l) is (Some m) at =
            let parts_are : message_with n (Some l) m ≡ single.parts =
            some_parts (message_with n (Some l) m) single.parts (sym (read_is ∙ ap parts_with is ∙ ap (part_with l) at) ∙ single.is_read) in
            let both = matched_both z.key (Some l) z.test m (subst (λ ps. same_content view f g (record { number = n; key = z.key; item = Kept z.test } ∷ []) ps ≡ true) (sym parts_are) single.same) in
            record { own_key = is ∙ ap Some (same_keys l both.0); message = m; is_read = at; passes = both.1 }

    key_is_readable : readable_key (key_or old_key z) ≡ true
    key_is_readable =
        let all = and_parts (not (takes g (entry (key_or old_key z) z.before)) || is_readable child g (entry (key_or old_key z) z.before)) true single.readable in
        key_readable_from child u new_key (key_record (key_or old_key z)) (value_record z.before) (entry (key_or old_key z) z.before) z.before says n w
        (implied (takes g (entry (key_or old_key z) z.before)) (is_readable child g (entry (key_or old_key z) z.before)) all.0 (taken (key_or old_key z) z.before))

    later_says : IsEntry child u new_key (key_record (key_or old_key z)) (value_record z.after) (entry (key_or old_key z) z.after) z.after
    later_says = entry_says (key_or old_key z) z.after in_range short.1

    pub later_entry : entry_in new_key (elements.Message u) (entry (key_or old_key z) z.after) ≡ Some (key_or old_key z, Bytes z.after)
    later_entry = entry_is child u new_key (key_record (key_or old_key z)) (value_record z.after) (entry (key_or old_key z) z.after) z.after later_says ∙ ap (option_map (with_value (Bytes z.after))) says_own.own_key

    pub later_readable : IsAgain child u z → (not (takes g (entry (key_or old_key z) z.after)) || is_readable child g (entry (key_or old_key z) z.after)) ≡ true
    later_readable seen =
        ap (λ b. not (takes g (entry (key_or old_key z) z.after)) || b)
        (readable_with child u new_key (key_record (key_or old_key z)) (value_record z.after) (entry (key_or old_key z) z.after) z.after later_says n w key_is_readable seen.message seen.is_read)
        ∙ or_true (not (takes g (entry (key_or old_key z) z.after)))

    pub own_same_key : same_key z.key (Some (key_or old_key z)) ≡ true
    own_same_key =
        subst (λ x. same_key x (Some (unwrap_or x (zero_leaf (form (elements.Scalar old_key))))) ≡ true) (sym key_is) (leaf_eq_self k)

  -- what is known of each entry
  pub record HasKey (z : Pair) : Type 0 where
    pub key : Leaf
    pub key_is : z.key ≡ Some key
    pub in_range : InRange (form (elements.Scalar old_key)) (key_or old_key z)

  abbrev Known : Pair → Type 0
  Known z = IsGood view child f g z × HasKey z

  abbrev later : Pair → WireRecord
  later z = entry (key_or old_key z) z.after

  abbrev later_pair : Pair → Leaf × Leaf
  later_pair z = (key_or old_key z, Bytes z.after)

  records_are : (zs : List Pair) → field_records f (map writes (map (new_of n) zs)) ≡ map later zs
  records_are zs =
      ap (map (λ (x : Part Leaf). written n Len (entry_bytes old_key (elements.Message t) (key_of old_key x) x.item))) (map_map writes (new_of n) zs)
      ∙ map_map (λ (x : Part Leaf). written n Len (entry_bytes old_key (elements.Message t) (key_of old_key x) x.item)) (λ z. writes (new_of n z)) zs

  content_is : (zs : List Pair) → AllByRecursion Known zs → EntriesRise (map later_pair zs) → content g (map later zs) ≡ Some (map (part_from n (λ z. Some (key_or old_key z))) zs)
  content_is zs h rise =
      ap (option_map (λ es. map (entry_as_part n) (by_key es)))
      (all_some-map_map (entry_in new_key (elements.Message u)) later later_pair zs
      (each_weaker Known (λ z. entry_in new_key (elements.Message u) (later z) ≡ Some (later_pair z)) (λ z k. later_entry z k.0.single (k.0.short old_key refl) k.1.key k.1.key_is k.1.in_range) zs h))
      ∙ ap (λ es. Some (map (entry_as_part n) es)) (rising_entries_stay (map later_pair zs) rise)
      ∙ ap Some (map_map (entry_as_part n) later_pair zs)

  pub maps_kept : (zs : List Pair) → AllByRecursion Known zs → EntriesRise (map later_pair zs) → is_field_kept view child f g (map (new_of n) zs) ≡ true
  maps_kept zs h rise =
      let same = records_are zs in
      kept_again view child u n (λ z. Some (key_or old_key z)) f g refl refl zs
      (each_weaker Known (λ z. IsAgain child u z × (same_key z.key (Some (key_or old_key z)) ≡ true)) (λ z k. (k.0.seen u refl, own_same_key z k.0.single (k.0.short old_key refl) k.1.key k.1.key_is k.1.in_range)) zs h)
      (ap (all_field_readable child g) same
      ∙ list_all_each (λ r. not (takes g r) || is_readable child g r) (map later zs)
      (each-map (λ r. (not (takes g r) || is_readable child g r) ≡ true) later zs
      (each_weaker Known (λ z. (not (takes g (later z)) || is_readable child g (later z)) ≡ true) (λ z k. later_readable z k.0.single (k.0.short old_key refl) k.1.key k.1.key_is k.1.in_range (k.0.seen u refl)) zs h)))
      (ap (λ rs. content g (filter (takes g) rs)) same
      ∙ ap (content g) (filter_all (takes g) (map later zs) (each-map (λ r. takes g r ≡ true) later zs (each_of_all (λ z. takes g (later z) ≡ true) (λ z. taken (key_or old_key z) z.after) zs)))
      ∙ content_is zs h rise)
