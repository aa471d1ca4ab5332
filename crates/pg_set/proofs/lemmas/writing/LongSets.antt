-- A set is as long as each of its files, and a file has two bytes for each of its imports, a tag and a length. So where an int32 doesn't
-- count the imports of a file, the set has more bytes than an encoding may have.
use Rattle.std.proofs.Common.{◌≡◌, ℕ, suc, ◌+◌, ◌*◌, ◌≤◌, ◌<◌, ◌^◌, Bool, true, false, cond, List, [], ◌∷◌, ◌++◌, map, filter, length, Some, None, refl, ap, sym, subst, ◌∙◌, arith, length-append, rules}
use Rattle.std.proofs.lemmas.Bool.{false≢true}
use Rattle.std.proofs.lemmas.Grind.{flat_map-append}
use Rattle.std.proofs.lemmas.List.{length-map}
use Rattle.std.proofs.lemmas.Option.{none-some, same_Some}
use Rattle.std.specs.List.{list_all}
use Rattle.pg_schema.specs.declared.parts.field.TypeId.{TypeId}
use Rattle.pg_schema.specs.declared.parts.file.File.{File}
use Rattle.pg_schema.specs.declared.parts.Parts.{Parts}
use Rattle.pg_schema.specs.Shape.{FieldShape, Shape, field_at, fields}
use Rattle.pg_wire.specs.Laws.{LengthsGrow}
use Rattle.pg_wire.specs.Records.{WireRecord, written}
use Rattle.pg_wire.specs.declared.record.WireType.TheVariants.{Len}
use Rattle.pg_dyn.specs.word.Coding.{body, form}
use Rattle.pg_dyn.specs.encoding.Encoding.{cap, enc, encoded_parts}
use Rattle.pg_dyn.specs.message.Message.{Bytes, Item, Leaf, Message, Part, ends, holds, is_of, nests, parts}
use Rattle.pg_dyn.specs.encoding.Writing.{bytes_of, field_records, item_record, records_in}
use Rattle.pg_set.specs.descriptor.Descriptor.{descriptor_shape, file_set, many, message, text, type_id}
use Rattle.pg_set.specs.writing.Items.{children}
use Rattle.pg_set.specs.writing.Places.{Declared, declared_in}
use Rattle.pg_set.specs.stated.SetMessages.{items_at, text_of}
use Rattle.pg_set.specs.writing.Set.{file_items, set_message}
use Rattle.pg_set.specs.inner.writing.Writable.{has_counted_imports}
use Rattle.pg_set.proofs.lemmas.written.Slots.{made}
use Rattle.pg_set.proofs.lemmas.written.WrittenFiles.{file_imports, path_of}
use Rattle.pg_set.proofs.lemmas.lists.Tests.{not_below}

-- ---- an encoding is as long as the records of each of its fields

joined_length : (rs ss : List WireRecord) → length (bytes_of (rs ++ ss)) ≡ length (bytes_of rs) + length (bytes_of ss)
joined_length rs ss = ap length (flat_map-append (λ (r : WireRecord). r.bytes) rs ss) ∙ length-append (bytes_of rs) (bytes_of ss)

module _ (ps : List (Part Leaf)) where
  abbrev own : FieldShape → List WireRecord
  own f = field_records f (filter (is_of f.number) ps)

  own_within : (fs : List FieldShape) (n : ℕ) (f : FieldShape) → field_at fs n ≡ Some f → length (bytes_of (own f)) ≤ length (bytes_of (records_in fs ps))
  own_within [] n f found = absurd (none-some f found)
  own_within (g ∷ fs) n f found = search (rules, own_within fs n f, joined_length, same_Some)

field_within : (shape : Shape) (type : TypeId) (m : Message) (n : ℕ) (f : FieldShape) → field_at (fields shape type) n ≡ Some f
    → length (bytes_of (field_records f (filter (is_of f.number) (encoded_parts shape type m)))) ≤ length (enc shape type m)
unfolding enc
field_within shape type m n f found = search (rules, own_within, length-append)

one_more : (b : Bool) (x : Part Leaf) (xs : List (Part Leaf)) (y : Part Item) (ys : List (Part Item)) → length xs ≡ length (map (λ (p : Part Item). p.item) ys)
    → length (cond b (x ∷ xs) xs) ≡ length (map (λ (p : Part Item). p.item) (cond b (y ∷ ys) ys))
one_more true x xs y ys same = ap suc same
one_more false x xs y ys same = same

-- a field has as many encoded parts as items
as_many : (shape : Shape) (type : TypeId) (n : ℕ) (m : Message) → length (filter (is_of n) (encoded_parts shape type m)) ≡ length (items_at n m)
as_many shape type n (ends unknown) = refl
as_many shape type n (holds k key leaf later) = search (rules, as_many shape type n later, one_more)
as_many shape type n (nests k key child later) = search (rules, as_many shape type n later, one_more)

module _ (lengths : LengthsGrow) where
  -- a LEN record has a tag and a length
  record_long : (n : ℕ) (bytes : List ℕ) → 2 + length bytes ≤ length (written n Len bytes).bytes
  record_long n bytes = search rules

  -- ---- a file is twice as long as it has imports

  texts_long : (n : ℕ) (ps : List (Part Leaf)) → 2 * length ps ≤ length (bytes_of (map (λ (p : Part Leaf). item_record n text p.item) ps))
  texts_long n [] = omega arith
  texts_long n (p ∷ ps) =
      let here = record_long n (body (form text) p.item) in
      let later = texts_long n ps in
      let whole = length-append (item_record n text p.item).bytes (bytes_of (map (λ (q : Part Leaf). item_record n text q.item) ps)) in
      omega (arith, here, later, whole)

  abbrev file_bytes : Declared → File → List ℕ
  file_bytes all f = enc descriptor_shape (type_id 1) (made (file_items all f))

  file_long : (all : Declared) (f : File) → 2 * length f.imports.items ≤ length (file_bytes all f)
  file_long all f =
      let m : Message = made (file_items all f) in
      let paths : List (Part Leaf) = filter (is_of 3) (encoded_parts descriptor_shape (type_id 1) m) in
      let stated : length (items_at 3 m) ≡ length f.imports.items = sym (length-map (items_at 3 m) text_of) ∙ (ap length (file_imports all f) ∙ length-map f.imports.items path_of) in
      let count : length paths ≡ length f.imports.items = as_many descriptor_shape (type_id 1) 3 m ∙ stated in
      let long : 2 * length paths ≤ length (bytes_of (map (λ (p : Part Leaf). item_record 3 text p.item) paths)) = texts_long 3 paths in
      let inside : length (bytes_of (map (λ (p : Part Leaf). item_record 3 text p.item) paths)) ≤ length (file_bytes all f) = field_within descriptor_shape (type_id 1) m 3 (many 3 text) refl in
      omega (arith, count, long, inside)

  -- ---- a set is as long as each of its files

  many_imports : (f : File) → has_counted_imports f ≡ false → 2 ^ 31 ≤ length f.imports.items
  many_imports f h = not_below (length f.imports.items) (2 ^ 31) h

  -- the parts of the set's message, each file as its bytes
  abbrev file_parts : Declared → List File → List (Part Leaf)
  file_parts all fs = map (λ (f : File). record { number = 1; key = None; item = Bytes (file_bytes all f) }) fs

  are_file_parts : (all : Declared) (fs : List File) → filter (is_of 1) (encoded_parts descriptor_shape file_set (made (children 1 (map (file_items all) fs)))) ≡ file_parts all fs
  unfolding enc
  are_file_parts all [] = refl
  are_file_parts all (f ∷ fs) = ap (λ ps. record { number = 1; key = None; item = Bytes (file_bytes all f) } ∷ ps) (are_file_parts all fs)

  abbrev records : List (Part Leaf) → List WireRecord
  records ps = map (λ (p : Part Leaf). item_record 1 (message 1) p.item) ps

  files_long : (all : Declared) (fs : List File) → list_all has_counted_imports fs ≡ false → 2 ^ 32 ≤ length (bytes_of (records (file_parts all fs)))
  files_long all [] h = absurd (false≢true (sym h))
  files_long all (f ∷ fs) h = search (rules, files_long all fs, length-append, many_imports, file_long, record_long)

  pub set_too_long : (parts : Parts) → list_all has_counted_imports parts.files.items ≡ false → cap < length (enc descriptor_shape file_set (set_message parts))
  set_too_long parts h =
      let m : Message = set_message parts in
      let files : List (Part Leaf) = filter (is_of 1) (encoded_parts descriptor_shape file_set m) in
      let same : files ≡ file_parts (declared_in parts) parts.files.items = are_file_parts (declared_in parts) parts.files.items in
      let long : 2 ^ 32 ≤ length (bytes_of (records files)) = subst (λ ps. 2 ^ 32 ≤ length (bytes_of (records ps))) (sym same) (files_long (declared_in parts) parts.files.items h) in
      let inside : length (bytes_of (records files)) ≤ length (enc descriptor_shape file_set m) = field_within descriptor_shape file_set m 1 (many 1 (message 1)) refl in
      omega (arith, long, inside)
