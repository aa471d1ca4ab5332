-- Drafts: the bytes of messages of the written schema, to which fields are put by rising number.
use Rattle.std.specs.Prelude.{◌≡◌, ℕ, ◌<◌, ◌≤◌, ◌⊎◌, max, List, [], ◌∷◌, ◌++◌, map, option_map, unwrap_or, refl, Vec}
use Rattle.std.specs.Coded.{Coded, code_by, coded_list, coded_ℕ, coded×}
use Rattle.std.specs.Global.{Global}
use Rattle.std.specs.List.{AllByRecursion}
use Rattle.pg_schema.specs.declared.parts.field.Element.{Element}
use Rattle.pg_schema.specs.declared.parts.field.TypeId.{TypeId}
use Rattle.pg_dyn.specs.fitting.Belonging.{IsMessage}
use Rattle.pg_dyn.specs.encoding.Encoding.{enc}
use Rattle.pg_dyn.specs.message.Message.{message_from, parts}
use Rattle.pg_dyn.specs.reading.Decoding.{dec}
use Rattle.pg_set.specs.inner.writing.HeldFields.{HasMany, HasOne}
use Rattle.pg_set.specs.descriptor.Descriptor.{written_shape}
use Rattle.pg_set.specs.inner.writing.DraftCode.{items_code}
use Rattle.pg_set.specs.writing.Items.{Items}

-- ---- bytes

-- the parts that the bytes are read as, of a message of that type; none where they are no message
abbrev pub read_items : TypeId → List ℕ → Items
read_items type bytes = unwrap_or (option_map parts (dec written_shape type bytes)) []

-- The bytes are the encoding of a message of that type with these parts.
pub record IsEncodingOf (type : TypeId) (items : Items) (bytes : List ℕ) : Type 0 where
  pub belongs : IsMessage written_shape type (message_from items [])
  pub bytes_are : bytes ≡ enc written_shape type (message_from items [])

-- the bytes are the encoding of what they are read as
abbrev pub IsEncoded : TypeId → List ℕ → Type 0
IsEncoded type bytes = IsEncodingOf type (read_items type bytes) bytes

-- the same of the bytes of several messages
abbrev pub AreEncoded : TypeId → List (Vec ℕ Global) → Type 0
AreEncoded type bodies = AllByRecursion (λ (body : Vec ℕ Global). IsEncoded type body.items) bodies

abbrev pub items_within : TypeId → List (Vec ℕ Global) → List Items
items_within type bodies = map (λ (body : Vec ℕ Global). read_items type body.items) bodies

-- the greatest of the numbers of these parts
abbrev pub greatest : Items → ℕ
greatest [] = 0
greatest (p ∷ ps) = max p.number (greatest ps)

-- ---- drafts

-- The message's type, the number of the field that was put last, and the parts so far.
pub record Drafted : Type 0 where
  pub type : TypeId
  pub last : ℕ
  pub items : Items

abbrev pub drafted_code : Coded Drafted
drafted_code =
    code_by (ℕ × (ℕ × Items)) (coded× coded_ℕ (coded× coded_ℕ items_code)) (λ d. (d.type.index, (d.last, d.items)))
    (λ p. record { type = record { index = p.0 }; last = p.1.0; items = p.1.1 }) (λ _. refl)

-- the draft without fields
abbrev pub begun : TypeId → Drafted
begun type = record { type = type; last = 0; items = [] }

-- the draft with these parts more, the last of which has that number
abbrev pub put : ℕ → Items → Drafted → Drafted
put number items d = record { type = d.type; last = number; items = d.items ++ items }

-- the draft with these bytes
abbrev pub drafted : TypeId → (last : ℕ) → List ℕ → Drafted
drafted type last bytes = record { type = type; last = last; items = read_items type bytes }

-- The bytes of a message of that type whose fields have numbers up to that one.
pub record IsDraft (type : TypeId) (last : ℕ) (bytes : List ℕ) : Type 0 where
  pub encoded : IsEncoded type bytes
  pub up_to : greatest (read_items type bytes) ≤ last

-- A singular field of that number comes next.
abbrev pub TakesOne : ℕ → Element → Drafted → Type 0
TakesOne number element d = (d.last < number) × HasOne d.type number element

-- a repeated one
abbrev pub TakesMany : ℕ → Element → Drafted → Type 0
TakesMany number element d = (d.last < number) × HasMany d.type number element

-- A field of that number comes next: a singular one, or a list, of which items may be there already.
abbrev pub Takes : ℕ → Element → Drafted → Type 0
Takes number element d = TakesOne number element d ⊎ ((d.last ≤ number) × HasMany d.type number element)

-- the draft of a message of that type with these parts
abbrev pub IsDraftOf : TypeId → Items → Drafted → Type 0
IsDraftOf type items d = (d.type ≡ type) × (d.items ≡ items)

-- Messages of one type, by the parts of each.
pub record Listed : Type 0 where
  pub type : TypeId
  pub items : List Items

abbrev pub listed_code : Coded Listed
listed_code =
    code_by (ℕ × List Items) (coded× coded_ℕ (coded_list items_code)) (λ l. (l.type.index, l.items)) (λ p. record { type = record { index = p.0 }; items = p.1 }) (λ _. refl)

abbrev pub listed : TypeId → List Items → Listed
listed type items = record { type = type; items = items }
