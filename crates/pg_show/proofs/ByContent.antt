-- The lines of a message are those of its contents, one after the other.
use Rattle.std.proofs.Common.{◌≡◌, ℕ, List, [], ◌∷◌, ◌++◌, flat_map, map, Option, Some, None, Bool, true, false, refl, ap, ap₂, sym, ◌∙◌, append-nil, append_assoc}
use Rattle.pg_schema.specs.declared.parts.field.TypeId.{TypeId}
use Rattle.pg_schema.specs.declared.parts.Parts.{Parts}
use Rattle.pg_schema.specs.Parts.{shape_of}
use Rattle.pg_schema.specs.Shape.{fields}
use Rattle.pg_wire.specs.declared.record.Record.{Record}
use Rattle.pg_wire.specs.Reads.{seen_record}
use Rattle.pg_dyn.specs.declared.message_ref.ContentRef.{ContentRef}
use Rattle.pg_dyn.specs.declared.message_ref.ContentRef.TheVariants as contents
use Rattle.pg_dyn.specs.declared.message_ref.EntryRef.{EntryRef}
use Rattle.pg_dyn.specs.declared.message_ref.ValueRef.{ValueRef}
use Rattle.pg_dyn.specs.declared.message_ref.ValueRef.TheVariants as values
use Rattle.pg_dyn.specs.message_ref.Borrowed.{all_seen, content_seen, entry_part, fields_onto, item_part, item_seen, leaf_of}
use Rattle.pg_dyn.specs.word.NumberLists.{numbers_in}
use Rattle.pg_dyn.specs.message.Message.{Leaf, Part}
use Rattle.pg_dyn.specs.message.Kept.{Kept, ends}
use Rattle.pg_dyn.specs.message.KeptParts.{KeptItem, Plain, Msg}
use Rattle.pg_dyn.specs.encoding.Encoding.{element_type}
use Rattle.pg_dyn.specs.message.Replacing.{kept_onto, kept_part}
use Rattle.pg_dyn.proofs.Lists.{flat_map-append'}
use Rattle.pg_show.specs.Lines.{Text, element_of, inner, item, line}
use Rattle.pg_show.specs.Shown.{names_of}
use Rattle.pg_show.specs.Contents.{content_lines, entry_lines, message_lines, record_line, value_lines}
use Rattle.std.specs.Prelude.{codes}

module _ (parts : Parts) (type : TypeId) (indent : Text) where
  abbrev of_message : Kept → Text
  of_message m = message_lines parts type indent m

  abbrev of_item : ℕ → Option Leaf → KeptItem → Text
  of_item number key (Plain listed leaf) = line indent number (names_of parts type number) key (item (element_of (fields (shape_of parts) type) number) leaf)
  of_item number key (Msg listed child) =
      line indent number (names_of parts type number) key (codes "msg") ++ message_lines parts (element_type (element_of (fields (shape_of parts) type) number)) (inner indent) child

  abbrev of_part : Part KeptItem → Text
  of_part p = of_item p.number p.key p.item

  -- the parts in front have the first lines

  part_first : (number : ℕ) (key : Option Leaf) (x : KeptItem) (later : Kept) → of_message (kept_part number key x later) ≡ of_item number key x ++ of_message later
  part_first number key (Plain listed leaf) later = refl
  part_first number key (Msg listed child) later =
      sym (append_assoc (line indent number (names_of parts type number) key (codes "msg")) (message_lines parts (element_type (element_of (fields (shape_of parts) type) number)) (inner indent) child) (of_message later))

  parts_first : (ps : List (Part KeptItem)) (later : Kept) → of_message (kept_onto ps later) ≡ flat_map of_part ps ++ of_message later
  parts_first [] later = refl
  parts_first (p ∷ ps) later =
      part_first p.number p.key p.item (kept_onto ps later) ∙ ap (λ t. of_part p ++ t) (parts_first ps later)
      ∙ sym (append_assoc (of_part p) (flat_map of_part ps) (of_message later))

  -- the lines of a content are those of its parts

  abbrev of_value : ℕ → Option Leaf → ValueRef → Text
  of_value number key v = value_lines parts indent number (names_of parts type number) (element_of (fields (shape_of parts) type) number) key v

  abbrev of_entry : ℕ → EntryRef → Text
  of_entry number e = entry_lines parts indent number (names_of parts type number) (element_of (fields (shape_of parts) type) number) e

  value_as : (number : ℕ) (key : Option Leaf) (listed : Bool) (v : ValueRef) → of_item number key (item_seen listed v) ≡ of_value number key v
  value_as number key listed (values.Int n) = refl
  value_as number key listed (values.F32 n) = refl
  value_as number key listed (values.F64 n) = refl
  value_as number key listed (values.Text n) = refl
  value_as number key listed (values.Bytes n) = refl
  value_as number key listed (values.Msg child) = refl

  items_as : (number : ℕ) (vs : List ValueRef) → flat_map of_part (map (item_part number true) vs) ≡ flat_map (of_value number None) vs
  items_as number [] = refl
  items_as number (v ∷ vs) = ap₂ (λ a b. a ++ b) (value_as number None true v) (items_as number vs)

  entries_as : (number : ℕ) (es : List EntryRef) → flat_map of_part (map (entry_part number) es) ≡ flat_map (of_entry number) es
  entries_as number [] = refl
  entries_as number (e ∷ es) = ap₂ (λ a b. a ++ b) (value_as number (Some (leaf_of e.key)) false e.value) (entries_as number es)

  content_as : (number : ℕ) (c : ContentRef) → flat_map of_part (content_seen number c) ≡ content_lines parts type indent (number, c)
  content_as number (contents.One v) = append-nil (of_part (item_part number false v)) ∙ value_as number None false v
  content_as number (contents.Many vs) = items_as number vs.items
  content_as number (contents.Numbers ns) = items_as number (numbers_in ns)
  content_as number (contents.Map es) = entries_as number es.items

  contents_as : (fs : List (ℕ × ContentRef)) → flat_map of_part (all_seen fs) ≡ flat_map (content_lines parts type indent) fs
  contents_as [] = refl
  contents_as (f ∷ fs) = flat_map-append' of_part (content_seen f.0 f.1) (all_seen fs) ∙ ap₂ (λ a b. a ++ b) (content_as f.0 f.1) (contents_as fs)

  records_each : (us : List Record) (own : TypeId) → flat_map (record_line indent) us ≡ message_lines parts type indent (ends own (map seen_record us))
  records_each [] own = refl
  records_each (u ∷ us) own = ap (λ t. record_line indent u ++ t) (records_each us own)

  -- the contents' lines, and then those of the unknown records
  pub message_by_content : (m : Kept) (own : TypeId) (fs : List (ℕ × ContentRef)) (us : List Record) → m ≡ fields_onto fs (ends own (map seen_record us))
      → flat_map (content_lines parts type indent) fs ++ flat_map (record_line indent) us ≡ message_lines parts type indent m
  message_by_content m own fs us is =
      ap₂ (λ s t. s ++ t) (sym (contents_as fs)) (records_each us own) ∙ sym (parts_first (all_seen fs) (ends own (map seen_record us)))
      ∙ ap (λ k. message_lines parts type indent k) (sym is)
