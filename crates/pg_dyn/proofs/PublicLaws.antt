-- The laws that proofs of other crates cite. Each is the contract of the public function of its name.
use Rattle.std.proofs.Common.{◌≡◌, ℕ, List, [], ◌∷◌, refl, arith, true, subst, rules}
use Rattle.std.specs.Bool.{⊤}
use Rattle.std.specs.declared.cmp.Ordering.TheVariants.{Less, Greater}
use Rattle.pg_schema.specs.Shape.{fields}
use Rattle.pg_dyn.specs.message.Kept.{Kept, message_of}
use Rattle.pg_dyn.specs.message.Kept as kept
use Rattle.pg_dyn.specs.message.KeptParts as kept_parts
use Rattle.pg_dyn.specs.message.Message.{Leaf, key_cmp, leaf_eq}
use Rattle.pg_dyn.specs.message.Message as model
use Rattle.pg_dyn.specs.laws.Bodies.{BodiesReadAgain, EntryBodiesRead, PackedBodiesRead, SingleBodiesRead}
use Rattle.pg_dyn.specs.encoding.Encoding.{enc}
use Rattle.pg_dyn.specs.encoding.Growing.{EncodingGrows}
use Rattle.pg_dyn.specs.laws.OwnParts.{ComparandsAreWritten, ChildrenAreShorter, OneIsEmpty, OwnPartsFit, SiblingsMutual}
use Rattle.pg_dyn.specs.laws.FieldLaws.{ContentsAreSeen, EntriesRise, EqualLeaves, FieldsAreFound, LastItems, OwnContents, PackableWires, PartsKeepTypes, PlainIsKept, RecordsOfFields, RisingEntriesStay, UnknownIsKept}
use Rattle.pg_dyn.specs.laws.Laws.{DecodingIs, EncodingSpells, KeptByField, MessageSplits, WritingSplits}
use Rattle.pg_dyn.specs.laws.ByComparands.{KeptByComparands}
use Rattle.pg_dyn.proofs.Lists.{each_of_all, each_weaker}
use Rattle.pg_dyn.proofs.lemmas.word.Codings.{Reads-from_range}
use Rattle.pg_dyn.proofs.lemmas.message.Plain as Plain
use Rattle.pg_dyn.proofs.lemmas.reading.entries.Entries.{entry_read, records_of_entry}
use Rattle.pg_dyn.proofs.lemmas.reading.Fields as Fields
use Rattle.pg_dyn.proofs.lemmas.reading.records.Splitting as Splitting
use Rattle.pg_dyn.proofs.lemmas.laws.Flat as Flat
use Rattle.pg_dyn.proofs.lemmas.fitting.Belonging.{child_type_is, fields-IsType, flat_parts, is_flat}
use Rattle.pg_dyn.proofs.lemmas.laws.Shorter.{children_shorter}
use Rattle.pg_dyn.proofs.lemmas.laws.Again.{records_of-enc}
use Rattle.pg_dyn.proofs.lemmas.reading.records.ReadSplits.{reading_of, field_split, no_field_split, unknown_split}
use Rattle.pg_dyn.proofs.lemmas.reading.Depth.{dec_is}
use Rattle.pg_dyn.proofs.lemmas.views.ByField as ByField
use Rattle.pg_dyn.proofs.lemmas.views.ByComparands as ByComparands
use Rattle.pg_dyn.proofs.lemmas.reading.records.RecordsRead.{content_none}
use Rattle.pg_dyn.proofs.lemmas.fitting.ItemLeaves.{item_is_key}
use Rattle.pg_dyn.proofs.lemmas.message.ReplacingLaws.{content_number, kept_means, type_of-kept_onto, unknown-message_of, type_of-with_parts, type_of-without_siblings}
use Rattle.pg_dyn.proofs.lemmas.views.SelfSame.{plain_unknown}
use Rattle.pg_dyn.proofs.lemmas.encoding.Growing as Growing
use Rattle.pg_dyn.proofs.lemmas.word.Leaves.{leaf_eq_self, same_leaf}

-- ---- bytes and their messages

pub decoding_is : DecodingIs
decoding_is = dec_is

pub encoding_spells : EncodingSpells
encoding_spells = search (rules, arith, records_of-enc)

pub encoding_grows : EncodingGrows
encoding_grows = Growing.encoding_grows

pub message_splits : MessageSplits
message_splits =
    λ child fs rs m rising h.
    let reading = reading_of child fs rs m h in
    (field_split child fs rs m rising reading, no_field_split child fs rs m rising reading, unknown_split child fs rs m rising reading, reading.readable)

pub writing_splits : WritingSplits
writing_splits = λ fs ps n rising. ((λ f found. Splitting.records_of_number ps fs n f rising found), λ none. Splitting.records_of_no_number ps fs n none)

pub kept_by_field : KeptByField
kept_by_field = search (rules, arith, ByField.kept_gives, ByField.kept_from)

pub kept_by_comparands : KeptByComparands
kept_by_comparands =
    search (rules, arith, ByComparands.comparands_kept, ByComparands.kept_by_comparands)

-- ---- the parts of a message

pub comparands_are_written : ComparandsAreWritten
comparands_are_written = ByComparands.comparands_written

pub own_parts_fit : OwnPartsFit
own_parts_fit = search (rules, flat_parts, fields-IsType, Flat.each_fits, Flat.in_order)

pub one_is_empty : OneIsEmpty
one_is_empty = search (rules, Flat.one_is_empty, flat_parts, fields-IsType)

pub siblings_mutual : SiblingsMutual
siblings_mutual = (Flat.same_oneof_sym, Flat.is_sibling_sym, Flat.sibling_apart)

pub children_are_shorter : ChildrenAreShorter
children_are_shorter = search (rules, arith, children_shorter, is_flat, fields-IsType)

-- ---- bodies that are read as items

pub bodies_read_again : BodiesReadAgain
bodies_read_again = Reads-from_range

pub packed_bodies_read : PackedBodiesRead
packed_bodies_read = λ e xs packable reads. Plain.packed_read e (λ (x : List ℕ × Leaf). x.0) (λ (x : List ℕ × Leaf). x.1) packable xs reads

pub single_bodies_read : SingleBodiesRead
single_bodies_read = λ f xs reads. Plain.singles_read f.element (λ (x : List ℕ × Leaf). x.0) (λ (x : List ℕ × Leaf). x.1) f refl xs reads

pub entry_bodies_read : EntryBodiesRead
entry_bodies_read = search (rules, records_of_entry, entry_read)

pub packable_wires : PackableWires
packable_wires = Plain.packable_wire

pub last_items : LastItems
last_items = (Plain.last_item_none, Plain.last_item_one)

-- ---- fields

pub fields_are_found : FieldsAreFound
fields_are_found = (fields-IsType, Splitting.found_number, Splitting.each_found, child_type_is)

pub records_of_fields : RecordsOfFields
records_of_fields = (Splitting.field_records_number, Splitting.field_records_none, Splitting.takes_number)

pub own_contents : OwnContents
own_contents = (Splitting.records_in_none, content_none, ByComparands.same_content-filter)

above_from_below : (es : List (Leaf × Leaf)) → EntriesRise es → Fields.EntriesRise es
above_from_below [] h = tt
above_from_below (e ∷ es) h =
    (each_weaker (λ (x : Leaf × Leaf). key_cmp e.0 x.0 ≡ Less) (λ (x : Leaf × Leaf). key_cmp x.0 e.0 ≡ Greater) (λ x less. Fields.above_from_less e.0 x.0 less) es h.0, above_from_below es h.1)

pub rising_entries_stay : RisingEntriesStay
rising_entries_stay = λ es rise. Fields.put_ordered [] es (each_of_all (λ e. ⊤) (λ e. tt) es) (above_from_below es rise)

-- ---- what a message keeps

pub parts_keep_types : PartsKeepTypes
parts_keep_types = (type_of-kept_onto, type_of-with_parts, type_of-without_siblings)

pub contents_are_seen : ContentsAreSeen
contents_are_seen = (content_number, item_is_key, kept_means)

plain_kept : (m : Kept) → kept_parts.IsPlain m → model.IsPlain (message_of m)
plain_kept (kept.ends type []) h = tt
plain_kept (kept.ends type (r ∷ rs)) h = h
plain_kept (kept.holds number key listed leaf later) h = plain_kept later h
plain_kept (kept.nests number key listed child later) h = (plain_kept child h.0, plain_kept later h.1)

kept_plain : (m : Kept) → model.IsPlain (message_of m) → kept_parts.IsPlain m
kept_plain (kept.ends type []) h = tt
kept_plain (kept.ends type (r ∷ rs)) h = h
kept_plain (kept.holds number key listed leaf later) h = kept_plain later h
kept_plain (kept.nests number key listed child later) h = (kept_plain child h.0, kept_plain later h.1)

pub plain_is_kept : PlainIsKept
plain_is_kept = λ m. (plain_kept m, kept_plain m)

pub unknown_is_kept : UnknownIsKept
unknown_is_kept = (unknown-message_of, plain_unknown)

pub equal_leaves : EqualLeaves
equal_leaves = λ a b. (same_leaf a b, λ same. subst (λ x. leaf_eq a x ≡ true) same (leaf_eq_self a))
