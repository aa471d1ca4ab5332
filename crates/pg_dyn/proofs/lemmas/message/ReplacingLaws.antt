-- A content under a number, among the parts of a message.
use Rattle.std.proofs.Common.{◌≡◌, ℕ, List, [], ◌∷◌, ◌++◌, map, filter, nat_lt, Bool, true, false, Option, None, refl, ap, ◌∙◌, rules}
use Rattle.std.proofs.lemmas.List.{append-nil}
use Rattle.pg_schema.specs.declared.parts.field.Element.{Element}
use Rattle.pg_schema.specs.declared.parts.field.TypeId.{TypeId}
use Rattle.pg_schema.specs.Shape.{FieldShape}
use Rattle.pg_wire.specs.Records.{WireRecord}
use Rattle.pg_dyn.specs.declared.message.Content.{Content}
use Rattle.pg_dyn.specs.declared.message.Content.TheVariants as contents
use Rattle.pg_dyn.specs.message.Message.{Leaf, Part, Item, message_from}
use Rattle.pg_dyn.specs.message.Message as model
use Rattle.pg_dyn.specs.message.Kept.{Kept, ends, holds, nests, type_of, message_of}
use Rattle.pg_dyn.specs.message.KeptParts.{AreOf, KeptItem, Plain, Msg, parts_of, unknown_of}
use Rattle.pg_dyn.specs.message.Seen.{all_seen, content_seen, entry_part, fields_onto, item_part}
use Rattle.pg_dyn.specs.message.FieldList.{fields_below, fields_above, put_field, remove_field}
use Rattle.pg_dyn.specs.message.Replacing.{all_parts, kept_part, kept_onto, kept_from, with_parts, without_siblings}
use Rattle.pg_dyn.specs.fitting.Texts.{kept_in}
use Rattle.pg_dyn.proofs.Lists.{filter_all, filter_none, filter-append', each_weaker, each-map, each_of_all, flat_map-append', list_any_none}
use Rattle.pg_dyn.proofs.lemmas.fitting.NoSiblings.{no_sibling}

pub kept_onto-append : (ps qs : List (Part KeptItem)) (later : Kept) → kept_onto (ps ++ qs) later ≡ kept_onto ps (kept_onto qs later)
kept_onto-append [] qs later = refl
kept_onto-append (p ∷ ps) qs later = ap (kept_part p.number p.key p.item) (kept_onto-append ps qs later)

-- what one more part leaves
part_shown : (n : ℕ) (k : Option Leaf) (item : KeptItem) (later : Kept)
    → (parts_of (kept_part n k item later) ≡ record { number = n; key = k; item = item } ∷ parts_of later) × (unknown_of (kept_part n k item later) ≡ unknown_of later) × (type_of (kept_part n k item later) ≡ type_of later)
part_shown n k (Plain l leaf) later = (refl, refl, refl)
part_shown n k (Msg l m) later = (refl, refl, refl)

pub parts_of-kept_onto : (ps : List (Part KeptItem)) (later : Kept) → parts_of (kept_onto ps later) ≡ ps ++ parts_of later
parts_of-kept_onto [] later = refl
parts_of-kept_onto (p ∷ ps) later = (part_shown p.number p.key p.item (kept_onto ps later)).0 ∙ ap (λ qs. p ∷ qs) (parts_of-kept_onto ps later)

pub unknown_of-kept_onto : (ps : List (Part KeptItem)) (later : Kept) → unknown_of (kept_onto ps later) ≡ unknown_of later
unknown_of-kept_onto [] later = refl
unknown_of-kept_onto (p ∷ ps) later = (part_shown p.number p.key p.item (kept_onto ps later)).1 ∙ unknown_of-kept_onto ps later

-- parts mean the same where they are kept as an element's
pub kept_means : (e : Element) (ps : List (Part KeptItem)) (later : Kept) → message_of (kept_onto (map (kept_in e) ps) later) ≡ message_of (kept_onto ps later)
kept_means e [] later = refl
kept_means e (p ∷ ps) later = search (rules, kept_means e ps later)

pub type_of-kept_onto : (ps : List (Part KeptItem)) (later : Kept) → type_of (kept_onto ps later) ≡ type_of later
type_of-kept_onto [] later = refl
type_of-kept_onto (p ∷ ps) later = (part_shown p.number p.key p.item (kept_onto ps later)).2 ∙ type_of-kept_onto ps later

-- a message of these contents is made of them, its type and its unknown records
pub shown_whole : {C : Type 0} (parts : ℕ → C → List (Part KeptItem)) (ms : List (ℕ × C)) (type : TypeId) (us : List WireRecord) (m : Kept) → kept_onto (all_parts parts ms) (ends type us) ≡ m
    → m ≡ kept_onto (all_parts parts ms) (ends (type_of m) (unknown_of m))
shown_whole parts ms type us m view = search (rules, type_of-kept_onto, unknown_of-kept_onto)

-- a message is made of what it shows
pub kept_whole : (m : Kept) → kept_from (type_of m) (parts_of m) (unknown_of m) ≡ m
kept_whole (ends type us) = refl
kept_whole (holds n k l leaf later) = ap (holds n k l leaf) (kept_whole later)
kept_whole (nests n k l child later) = ap (nests n k l child) (kept_whole later)

abbrev pub shown : TypeId → List (ℕ × Content) → List WireRecord → Kept
shown type ms us = fields_onto ms (ends type us)

pub parts_shown : (type : TypeId) (ms : List (ℕ × Content)) (us : List WireRecord) → parts_of (shown type ms us) ≡ all_seen ms
parts_shown type ms us = parts_of-kept_onto (all_seen ms) (ends type us) ∙ append-nil (all_seen ms)

pub unknown_shown : (type : TypeId) (ms : List (ℕ × Content)) (us : List WireRecord) → unknown_of (shown type ms us) ≡ us
unknown_shown type ms us = unknown_of-kept_onto (all_seen ms) (ends type us)

pub type_shown : (type : TypeId) (ms : List (ℕ × Content)) (us : List WireRecord) → type_of (shown type ms us) ≡ type
type_shown type ms us = type_of-kept_onto (all_seen ms) (ends type us)

-- the parts of a content are all of its number
pub mapped_number : {A : Type 0} (n : ℕ) (part : A → Part KeptItem) → ((x : A) → (part x).number ≡ n) → (xs : List A) → AreOf n (map part xs)
mapped_number n part is xs = each-map (λ (p : Part KeptItem). p.number ≡ n) part xs (each_of_all (λ x. (part x).number ≡ n) is xs)

pub content_number : (n : ℕ) (c : Content) → AreOf n (content_seen n c)
content_number n (contents.One v) = (refl, tt)
content_number n (contents.Many vs) = mapped_number n (item_part n true) (λ v. refl) vs.items
content_number n (contents.Map es) = mapped_number n (entry_part n) (λ e. refl) es.items

-- a test of numbers goes over fields as over parts
module _ (test : ℕ → Bool) where
  pub kept_all : (n : ℕ) (ps : List (Part KeptItem)) → AreOf n ps → test n ≡ true → filter (λ (p : Part KeptItem). test p.number) ps ≡ ps
  kept_all n ps h hit = filter_all (λ (p : Part KeptItem). test p.number) ps (each_weaker (λ (p : Part KeptItem). p.number ≡ n) (λ (p : Part KeptItem). test p.number ≡ true) (λ p e. ap test e ∙ hit) ps h)

  pub kept_none : (n : ℕ) (ps : List (Part KeptItem)) → AreOf n ps → test n ≡ false → filter (λ (p : Part KeptItem). test p.number) ps ≡ []
  kept_none n ps h miss = filter_none (λ (p : Part KeptItem). test p.number) ps (each_weaker (λ (p : Part KeptItem). p.number ≡ n) (λ (p : Part KeptItem). test p.number ≡ false) (λ p e. ap test e ∙ miss) ps h)

  pub seen-filter : (ms : List (ℕ × Content)) → filter (λ (p : Part KeptItem). test p.number) (all_seen ms) ≡ all_seen (filter (λ (f : ℕ × Content). test f.0) ms)
  seen-filter [] = refl
  seen-filter (m ∷ ms) =
      search (rules, filter-append', kept_all, content_number, seen-filter ms, kept_none)

-- other fields around the number are other parts around it
pub around : (type : TypeId) (n : ℕ) (xs ms : List (ℕ × Content)) (us : List WireRecord)
    → shown type (fields_below n ms ++ (xs ++ fields_above n ms)) us ≡ with_parts n (all_seen xs) (shown type ms us)
around type n xs ms us =
    search (
      rules,
      seen-filter (λ k. nat_lt k n) ms,
      seen-filter (λ k. nat_lt n k) ms,
      parts_shown type ms us,
      flat_map-append' (λ (f : ℕ × Content). content_seen f.0 f.1) (fields_below n ms) (xs ++ fields_above n ms),
      flat_map-append' (λ (f : ℕ × Content). content_seen f.0 f.1) xs (fields_above n ms),
      type_shown type ms us,
      unknown_shown type ms us,
    )

pub put_shows : (type : TypeId) (n : ℕ) (c : Content) (ms : List (ℕ × Content)) (us : List WireRecord) → shown type (put_field n c ms) us ≡ with_parts n (content_seen n c) (shown type ms us)
put_shows type n c ms us = around type n ((n, c) ∷ []) ms us ∙ ap (λ ps. with_parts n ps (shown type ms us)) (append-nil (content_seen n c))

pub remove_shows : (type : TypeId) (n : ℕ) (ms : List (ℕ × Content)) (us : List WireRecord) → shown type (remove_field n ms) us ≡ with_parts n [] (shown type ms us)
remove_shows type n ms us = around type n [] ms us

-- a message of other parts is of the same type
pub type_of-with_parts : (n : ℕ) (ps : List (Part KeptItem)) (m : Kept) → type_of (with_parts n ps m) ≡ type_of m
type_of-with_parts n ps m = search (rules, type_of-kept_onto)

pub type_of-without_siblings : (fs : List FieldShape) (f : FieldShape) (m : Kept) → type_of (without_siblings fs f m) ≡ type_of m
type_of-without_siblings fs f m = search (rules, type_of-kept_onto)

-- a field outside all oneofs has no siblings
pub no_siblings : (fs : List FieldShape) (f : FieldShape) (m : Kept) → f.oneof ≡ None → without_siblings fs f m ≡ m
no_siblings fs f m alone =
    search (rules, filter_all, each_of_all, kept_whole, list_any_none, no_sibling)

-- The message of the definitions.

abbrev pub item_of : KeptItem → Item
item_of (Plain l leaf) = model.Plain leaf
item_of (Msg l m) = model.Msg (message_of m)

abbrev pub part_item : Part KeptItem → Part Item
part_item p = record { number = p.number; key = p.key; item = item_of p.item }

message_of-part : (n : ℕ) (k : Option Leaf) (item : KeptItem) (later : Kept) → message_of (kept_part n k item later) ≡ model.with_part n k (item_of item) (message_of later)
message_of-part n k (Plain l leaf) later = refl
message_of-part n k (Msg l m) later = refl

pub message_of-kept_from : (type : TypeId) (ps : List (Part KeptItem)) (us : List WireRecord) → message_of (kept_from type ps us) ≡ message_from (map part_item ps) us
message_of-kept_from type [] us = refl
message_of-kept_from type (p ∷ ps) us = message_of-part p.number p.key p.item (kept_from type ps us) ∙ ap (model.with_part p.number p.key (item_of p.item)) (message_of-kept_from type ps us)

pub parts-message_of : (m : Kept) → model.parts (message_of m) ≡ map part_item (parts_of m)
parts-message_of (ends type us) = refl
parts-message_of (holds n k l leaf later) = ap (λ ps. record { number = n; key = k; item = model.Plain leaf } ∷ ps) (parts-message_of later)
parts-message_of (nests n k l child later) = ap (λ ps. record { number = n; key = k; item = model.Msg (message_of child) } ∷ ps) (parts-message_of later)

pub unknown-message_of : (m : Kept) → model.unknown_of (message_of m) ≡ unknown_of m
unknown-message_of (ends type us) = refl
unknown-message_of (holds n k l leaf later) = unknown-message_of later
unknown-message_of (nests n k l child later) = unknown-message_of later

pub filter-part_item : (test : ℕ → Bool) (ps : List (Part KeptItem)) → filter (λ (p : Part Item). test p.number) (map part_item ps) ≡ map part_item (filter (λ (p : Part KeptItem). test p.number) ps)
filter-part_item test [] = refl
filter-part_item test (p ∷ ps) = search (rules, filter-part_item test ps)
