-- The bytes of a message grow by a record where a field is put after the others, and are read as the message with that field.
use Rattle.std.proofs.Common.{◌≡◌, ◌≢◌, ℕ, ℤ, ◌<◌, ◌≤◌, ◌^◌, ◌⊎◌, inl, inr, ⊎_elim, List, [], ◌∷◌, ◌++◌, length, true, option_map, unwrap_or, refl, ap, sym, ◌∙◌, subst, arith, rules}
use Rattle.std.specs.Str.{is_utf8}
use Rattle.pg_schema.specs.declared.parts.field.TypeId.{TypeId}
use Rattle.pg_schema.specs.declared.parts.field.Element.{Element}
use Rattle.pg_schema.specs.declared.parts.field.Element.TheVariants as elements
use Rattle.pg_schema.specs.declared.parts.field.Scalar.TheVariants as scalars
use Rattle.pg_wire.specs.declared.record.WireType.TheVariants.{Len, Varint}
use Rattle.pg_wire.specs.Records.{written}
use Rattle.pg_wire.specs.Varint.{varint}
use Rattle.pg_wire.specs.Words.{IsBetween, twos_complement}
use Rattle.pg_dyn.specs.word.Coding.{word_bytes}
use Rattle.pg_dyn.specs.encoding.Encoding.{enc}
use Rattle.pg_dyn.specs.encoding.Writing.{item_record}
use Rattle.pg_dyn.specs.message.Message.{Bytes, Int, Item, Msg, Plain, ends, message_from}
use Rattle.pg_dyn.proofs.lemmas.laws.Again.{reads_again}
use Rattle.pg_dyn.proofs.lemmas.reading.records.ReadSplits.{parts-message_from}
use Rattle.pg_dyn.proofs.lemmas.reading.records.Splitting.{records_in_none}
use Rattle.pg_dyn.specs.encoding.Growing.{ComesLast, IsOfField, leaf_for}
use Rattle.pg_dyn.proofs.PublicLaws.{encoding_grows}
use Rattle.pg_set.specs.descriptor.Descriptor as descriptor
use Rattle.pg_set.specs.descriptor.Descriptor.{many, one, written_shape}
use Rattle.pg_set.specs.inner.writing.HeldFields.{HasMany, HasOne, IsWhole}
use Rattle.pg_set.specs.inner.writing.Drafts.{Drafted, IsDraft, IsEncoded, IsEncodingOf, Takes, begun, drafted, greatest, put, read_items}
use Rattle.pg_set.specs.writing.Items as rows
use Rattle.pg_set.specs.writing.Items.{Items, item}
use Rattle.pg_set.proofs.lemmas.descriptor.WrittenShape.{written_is_shape}

-- ---- what bytes are read as

-- an encoding is read as its parts
pub read_of : (type : TypeId) (is : Items) (bytes : List ℕ) → IsEncodingOf type is bytes → length bytes < 2 ^ 64 → read_items type bytes ≡ is
read_of type is bytes of short = search (rules, unwrap_or, option_map, reads_again, written_is_shape, parts-message_from)

pub encoded : (type : TypeId) (is : Items) (bytes : List ℕ) → IsEncodingOf type is bytes → length bytes < 2 ^ 64 → IsEncoded type bytes
encoded type is bytes of short = subst (λ xs. IsEncodingOf type xs bytes) (sym (read_of type is bytes of short)) of

enc_none : (type : TypeId) → enc written_shape type (ends []) ≡ []
unfolding enc
enc_none type = rw records_in_none

pub none_encoded : (type : TypeId) → IsEncodingOf type [] []
none_encoded type = record { belongs = tt; bytes_are = sym (enc_none type) }

-- no bytes are read as no parts
pub read_none : (type : TypeId) → read_items type [] ≡ []
read_none type = read_of type [] [] (none_encoded type) (omega arith)

pub begun_draft : (type : TypeId) (last : ℕ) → IsDraft type last []
begun_draft type last = search (rules, read_none, encoded, none_encoded)

pub begun_is : (type : TypeId) → drafted type 0 [] ≡ begun type
begun_is type = ap (λ is. record { type = type; last = 0; items = is }) (read_none type)

pub some_read : (type : TypeId) (bytes : List ℕ) → IsEncoded type bytes → bytes ≢ [] → read_items type bytes ≢ []
some_read type bytes of some none = some (of.bytes_are ∙ (ap (λ is. enc written_shape type (message_from is [])) none ∙ enc_none type))

-- ---- a field after the others

greatest-append : (xs ys : Items) (n : ℕ) → greatest xs ≤ n → greatest ys ≤ n → greatest (xs ++ ys) ≤ n
greatest-append [] ys n h k = k
greatest-append (x ∷ xs) ys n h k =
    let later : greatest (xs ++ ys) ≤ n = greatest-append xs ys n (omega (arith, h)) k in
    let here : x.number ≤ n = omega (arith, h) in omega (arith, later, here)

behind_one : (number : ℕ) (e : Element) (last : ℕ) (is : Items) → greatest is ≤ last → last < number → ComesLast (one number e) is
behind_one number e last [] h k = tt
behind_one number e last (p ∷ ps) h k =
    let here : p.number < number = omega (arith, h, k) in
    let later : greatest ps ≤ last = omega (arith, h) in
    (inl here, behind_one number e last ps later k)

below_or_same : (a b : ℕ) → a ≤ b → (a < b) ⊎ (a ≡ b)
below_or_same a b h = grind arith

behind_many : (number : ℕ) (e : Element) (last : ℕ) (is : Items) → greatest is ≤ last → last ≤ number → ComesLast (many number e) is
behind_many number e last [] h k = tt
behind_many number e last (p ∷ ps) h k =
    let here : p.number ≤ number = omega (arith, h, k) in
    let later : greatest ps ≤ last = omega (arith, h) in
    (⊎_elim (λ low. inl low) (λ same. inr (same, refl)) (below_or_same p.number number here), behind_many number e last ps later k)

-- an item of the element, whether its field is a list or not
abbrev pub IsItemOf : ℕ → Element → Item → Type 0
IsItemOf number e it = IsOfField written_shape (one number e) it × IsOfField written_shape (many number e) it

abbrev pub record_of : ℕ → Element → Item → List ℕ
record_of number e it = (item_record number e (leaf_for written_shape e it)).bytes

module _ (type : TypeId) (last : ℕ) (bytes : List ℕ) (number : ℕ) (e : Element) (it : Item) (draft : IsDraft type last bytes) (fits : IsItemOf number e it) where
  abbrev grown : Items
  grown = read_items type bytes ++ item number it ∷ []

  abbrev longer : List ℕ
  longer = bytes ++ record_of number e it

  grown_one : last < number → HasOne type number e → IsEncodingOf type grown longer
  unfolding written_shape
  grown_one low found =
      let more = encoding_grows written_shape type (one number e) (read_items type bytes) it written_is_shape found refl (inl refl) (behind_one number e last (read_items type bytes) draft.up_to low) draft.encoded.belongs fits.0 in
      record { belongs = more.0; bytes_are = ap (λ bs. bs ++ record_of number e it) draft.encoded.bytes_are ∙ sym more.1 }

  grown_many : last ≤ number → HasMany type number e → IsEncodingOf type grown longer
  unfolding written_shape
  grown_many low found =
      let more = encoding_grows written_shape type (many number e) (read_items type bytes) it written_is_shape found refl (inr refl) (behind_many number e last (read_items type bytes) draft.up_to low) draft.encoded.belongs fits.1 in
      record { belongs = more.0; bytes_are = ap (λ bs. bs ++ record_of number e it) draft.encoded.bytes_are ∙ sym more.1 }

  -- the longer bytes are a draft with the item more
  still_draft : last ≤ number → length longer < 2 ^ 64 → IsEncodingOf type grown longer
      → IsDraft type number longer × (drafted type number longer ≡ put number (item number it ∷ []) (drafted type last bytes))
  still_draft up short of = search (rules, read_of, encoded, greatest-append)

-- an item that a draft takes
item_put : (type : TypeId) (last : ℕ) (bytes new : List ℕ) (d : Drafted) (number : ℕ) (e : Element) (it : Item) → IsDraft type last bytes → drafted type last bytes ≡ d → Takes number e d
    → IsItemOf number e it → new ≡ bytes ++ record_of number e it → length new < 2 ^ 64 → IsDraft type number new × (drafted type number new ≡ put number (item number it ∷ []) d)
item_put type last bytes new d number e it draft is takes fits made short =
    let own : Takes number e (drafted type last bytes) = subst (Takes number e) (sym is) takes in
    let few : length (bytes ++ record_of number e it) < 2 ^ 64 = subst (λ bs. length bs < 2 ^ 64) made short in
    let of : IsEncodingOf type (read_items type bytes ++ item number it ∷ []) (bytes ++ record_of number e it) =
    ⊎_elim (λ one. grown_one type last bytes number e it draft fits one.0 one.1) (λ many. grown_many type last bytes number e it draft fits many.0 many.1) own in
    let up : last ≤ number = ⊎_elim (λ one. let low : last < number = one.0 in omega (arith, low)) (λ many. many.0) own in
    let all = still_draft type last bytes number e it draft fits up few of in (
      subst (IsDraft type number) (sym made) all.0,
      ap (drafted type number) made ∙ all.1 ∙ ap (put number (item number it ∷ [])) is,
    )

-- ---- kinds of items

pub text_put : (type : TypeId) (last : ℕ) (bytes new : List ℕ) (d : Drafted) (number : ℕ) (value : List ℕ) → IsDraft type last bytes → drafted type last bytes ≡ d → Takes number descriptor.text d
    → is_utf8 value ≡ true → new ≡ bytes ++ (written number Len value).bytes → length new < 2 ^ 64 → IsDraft type number new × (drafted type number new ≡ put number (rows.text number value) d)
text_put type last bytes new d number value draft is takes utf8 made short =
    item_put type last bytes new d number descriptor.text (Plain (Bytes value)) draft is takes ((utf8, tt), (utf8, tt)) made short

number_fits : (number : ℕ) (e : Element) (n : ℤ) → IsWhole e n → IsBetween (2 ^ 31) (2 ^ 31) n → IsItemOf number e (Plain (Int n))
number_fits number (elements.Enum e) n h between = ((between, tt), (between, tt))
number_fits number (elements.Scalar scalars.Int32) n h between = ((between, tt), (between, tt))
number_fits number (elements.Scalar scalars.Bool) n h between = ((h, tt), (h, tt))
number_fits number (elements.Scalar scalars.Double) n h between = absurd h
number_fits number (elements.Scalar scalars.Float) n h between = absurd h
number_fits number (elements.Scalar scalars.Int64) n h between = absurd h
number_fits number (elements.Scalar scalars.Uint32) n h between = absurd h
number_fits number (elements.Scalar scalars.Uint64) n h between = absurd h
number_fits number (elements.Scalar scalars.Sint32) n h between = absurd h
number_fits number (elements.Scalar scalars.Sint64) n h between = absurd h
number_fits number (elements.Scalar scalars.Fixed32) n h between = absurd h
number_fits number (elements.Scalar scalars.Fixed64) n h between = absurd h
number_fits number (elements.Scalar scalars.Sfixed32) n h between = absurd h
number_fits number (elements.Scalar scalars.Sfixed64) n h between = absurd h
number_fits number (elements.Scalar scalars.String) n h between = absurd h
number_fits number (elements.Scalar scalars.Bytes) n h between = absurd h
number_fits number (elements.Message t) n h between = absurd h

abbrev word_record : ℕ → ℤ → List ℕ
word_record number n = (written number Varint (varint (twos_complement (2 ^ 64) n))).bytes

number_record : (number : ℕ) (e : Element) (n : ℤ) → IsWhole e n → word_record number n ≡ record_of number e (Plain (Int n))
unfolding word_bytes
number_record number (elements.Enum e) n h = refl
number_record number (elements.Scalar scalars.Int32) n h = refl
number_record number (elements.Scalar scalars.Bool) n h = refl
number_record number (elements.Scalar scalars.Double) n h = absurd h
number_record number (elements.Scalar scalars.Float) n h = absurd h
number_record number (elements.Scalar scalars.Int64) n h = absurd h
number_record number (elements.Scalar scalars.Uint32) n h = absurd h
number_record number (elements.Scalar scalars.Uint64) n h = absurd h
number_record number (elements.Scalar scalars.Sint32) n h = absurd h
number_record number (elements.Scalar scalars.Sint64) n h = absurd h
number_record number (elements.Scalar scalars.Fixed32) n h = absurd h
number_record number (elements.Scalar scalars.Fixed64) n h = absurd h
number_record number (elements.Scalar scalars.Sfixed32) n h = absurd h
number_record number (elements.Scalar scalars.Sfixed64) n h = absurd h
number_record number (elements.Scalar scalars.String) n h = absurd h
number_record number (elements.Scalar scalars.Bytes) n h = absurd h
number_record number (elements.Message t) n h = absurd h

pub number_put : (type : TypeId) (last : ℕ) (bytes new : List ℕ) (d : Drafted) (number : ℕ) (e : Element) (n : ℤ) → IsDraft type last bytes → drafted type last bytes ≡ d → Takes number e d
    → IsWhole e n → IsBetween (2 ^ 31) (2 ^ 31) n → new ≡ bytes ++ (written number Varint (varint (twos_complement (2 ^ 64) n))).bytes → length new < 2 ^ 64
    → IsDraft type number new × (drafted type number new ≡ put number (rows.whole number n) d)
number_put type last bytes new d number e n draft is takes whole between made short =
    item_put type last bytes new d number e (Plain (Int n)) draft is takes (number_fits number e n whole between) (made ∙ ap (λ bs. bytes ++ bs) (number_record number e n whole)) short

pub message_put : (type : TypeId) (last : ℕ) (bytes new : List ℕ) (d : Drafted) (number : ℕ) (of : TypeId) (body : List ℕ) → IsDraft type last bytes → drafted type last bytes ≡ d
    → Takes number (elements.Message of) d → IsEncoded of body → new ≡ bytes ++ (written number Len body).bytes → length new < 2 ^ 64
    → IsDraft type number new × (drafted type number new ≡ put number (rows.child number (read_items of body)) d)
message_put type last bytes new d number of body draft is takes inside made short =
    let m = message_from (read_items of body) [] in
    item_put type last bytes new d number (elements.Message of) (Msg m) draft is takes ((of, refl, inside.belongs), (of, refl, inside.belongs))
    (made ∙ ap (λ bs. bytes ++ (written number Len bs).bytes) inside.bytes_are) short
