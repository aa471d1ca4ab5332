-- What a map field holds, from the entries that its records are read as.
use Rattle.std.proofs.Common.{◌≡◌, ◌≢◌, ℕ, List, [], ◌∷◌, ◌++◌, map, fold, true, Option, Some, option_map, option_and_then, refl, ap, sym, subst, ◌∙◌, rules}
use Rattle.std.specs.Prelude.{⊤}
use Rattle.std.specs.List.{AllByRecursion}
use Rattle.pg_schema.specs.declared.parts.field.Scalar.{Scalar}
use Rattle.pg_schema.specs.declared.parts.field.Element.{Element}
use Rattle.pg_schema.specs.declared.parts.field.Presence.{Presence}
use Rattle.pg_schema.specs.declared.parts.field.Presence.TheVariants as presences
use Rattle.pg_schema.specs.Shape.{FieldShape, Shape}
use Rattle.pg_schema.specs.rules.Fields.{is_key}
use Rattle.pg_wire.specs.Records.{WireRecord}
use Rattle.pg_dyn.specs.declared.message_ref.EntryRef.{EntryRef}
use Rattle.pg_dyn.specs.declared.message_ref.ContentRef.{ContentRef}
use Rattle.pg_dyn.specs.declared.message_ref.ContentRef.TheVariants as contents
use Rattle.pg_dyn.specs.reading.ByFields.{HoldsOf, IsEntryRead}
use Rattle.pg_dyn.specs.reading.Content.{by_key, content, entry_in, put}
use Rattle.pg_dyn.specs.message_ref.BorrowedItems.{AreAlike, IsItemKept, ItemKept, KeysRise, key_of}
use Rattle.pg_dyn.specs.reading.Decoding.{dec, read_part}
use Rattle.pg_dyn.specs.reading.Normalized.{place, placed}
use Rattle.pg_dyn.specs.reading.EntrySteps.{IsReadFrom}
use Rattle.pg_dyn.specs.reading.Held.{IsMapOf}
use Rattle.pg_dyn.specs.message.Message.{Leaf, Part}
use Rattle.pg_dyn.specs.reading.Optional.{all_some}
use Rattle.pg_dyn.specs.message_ref.Borrowed.{entry_part}
use Rattle.pg_dyn.specs.reading.Steps.{HeldFits, part_of}
use Rattle.pg_dyn.proofs.lemmas.reading.Fields.{field_of}
use Rattle.pg_dyn.proofs.lemmas.message_ref.BorrowedItems.{keys_alike}
use Rattle.pg_dyn.proofs.lemmas.reading.by_fields.HeldFields.{EntryFits, map_held}
use Rattle.pg_dyn.proofs.Lists.{each_weaker}
use Rattle.pg_dyn.proofs.lemmas.reading.entries.NormalizedEntries.{each_normalized, normalized_rise, normalized_some}

-- each entry is read of its record
abbrev pub AreEntriesRead : Shape → Scalar → Element → List WireRecord → List EntryRef → Type 0
AreEntriesRead shape key element [] [] = ⊤
AreEntriesRead shape key element [] (e ∷ es) = ⊥
AreEntriesRead shape key element (r ∷ rs) [] = ⊥
AreEntriesRead shape key element (r ∷ rs) (e ∷ es) = IsEntryRead shape key element r e × AreEntriesRead shape key element rs es

-- an entry as a part, with its leaves
abbrev leaf_part : ℕ → Leaf × Leaf → Part Leaf
leaf_part n l = record { number = n; key = Some l.0; item = l.1 }

module _ (shape : Shape) (key : Scalar) (element : Element) where
  -- one more record, and its entry
  pub one_entry_more : (rs : List WireRecord) (r : WireRecord) (es : List EntryRef) (e : EntryRef) → AreEntriesRead shape key element rs es
      → IsEntryRead shape key element r e
      → AreEntriesRead shape key element (rs ++ r ∷ []) (es ++ e ∷ [])
  one_entry_more [] r [] e h one = (one, tt)
  one_entry_more [] r (f ∷ es) e h one = absurd h
  one_entry_more (s ∷ rs) r [] e h one = absurd h
  one_entry_more (s ∷ rs) r (f ∷ es) e h one = (h.0, one_entry_more rs r es e h.1 one)

  -- each entry fits
  pub entries_fit : (rs : List WireRecord) (es : List EntryRef) → AreEntriesRead shape key element rs es
      → AllByRecursion (λ (e : EntryRef). IsItemKept key e.key × ItemKept shape element e.value) es
  entries_fit [] [] h = tt
  entries_fit [] (e ∷ es) h = absurd h
  entries_fit (r ∷ rs) [] h = absurd h
  entries_fit (r ∷ rs) (e ∷ es) h = ((h.0.3, h.0.4), entries_fit rs es h.1)

  pub entries_alike : (rs : List WireRecord) (es : List EntryRef) → is_key key ≡ true → AreEntriesRead shape key element rs es → AreAlike es
  entries_alike rs es scalar h =
      keys_alike es key scalar
      (each_weaker (λ (e : EntryRef). IsItemKept key e.key × ItemKept shape element e.value) (λ (e : EntryRef). IsItemKept key e.key) (λ e k. k.0) es
      (entries_fit rs es h))

  -- The leaves of the entries, and what is read of them.

  abbrev Alongside : Leaf × Leaf → EntryRef → Type 0
  Alongside l e = (l.0 ≡ key_of e) × IsReadFrom shape element l.1 e.value

  abbrev AreAlongside : List (Leaf × Leaf) → List EntryRef → Type 0
  AreAlongside [] [] = ⊤
  AreAlongside [] (e ∷ es) = ⊥
  AreAlongside (l ∷ ls) [] = ⊥
  AreAlongside (l ∷ ls) (e ∷ es) = Alongside l e × AreAlongside ls es

  leaves_read : (rs : List WireRecord) (es : List EntryRef) → AreEntriesRead shape key element rs es
      → (ls : List (Leaf × Leaf)) × (all_some (map (entry_in key element) rs) ≡ Some ls) × AreAlongside ls es
  leaves_read [] [] h = ([], refl, tt)
  leaves_read [] (e ∷ es) h = absurd h
  leaves_read (r ∷ rs) [] h = absurd h
  leaves_read (r ∷ rs) (e ∷ es) h =
      let (ls, is, along) = leaves_read rs es h.1 in
      ((key_of e, h.0.0) ∷ ls, rw (h.0.1, is), ((refl, h.0.2), along))

  put_along : (l : Leaf × Leaf) (e : EntryRef) (ls : List (Leaf × Leaf)) (es : List EntryRef) → Alongside l e → AreAlongside ls es
      → AreAlongside (put l ls) (place key_of e es)
  put_along l e [] [] one h = (one, tt)
  put_along l e [] (f ∷ es) one h = absurd h
  put_along l e (k ∷ ls) [] one h = absurd h
  put_along l e (k ∷ ls) (f ∷ es) one h = search (rules, put_along l e ls es one h.1)

  all_along : (ls before_leaves : List (Leaf × Leaf)) (es before : List EntryRef) → AreAlongside before_leaves before → AreAlongside ls es
      → AreAlongside (fold (λ entries l. put l entries) before_leaves ls) (placed key_of before es)
  all_along [] before_leaves [] before h k = h
  all_along [] before_leaves (e ∷ es) before h k = absurd k
  all_along (l ∷ ls) before_leaves [] before h k = absurd k
  all_along (l ∷ ls) before_leaves (e ∷ es) before h k =
      all_along ls (put l before_leaves) es (place key_of e before) (put_along l e before_leaves before k.0 h) k.1

  parts_along : (n : ℕ) (ls : List (Leaf × Leaf)) (es : List EntryRef) → AreAlongside ls es
      → all_some (map (read_part (dec shape) element) (map (leaf_part n) ls))
      ≡ Some (map part_of (map (entry_part n) es))
  parts_along n [] [] h = refl
  parts_along n [] (e ∷ es) h = absurd h
  parts_along n (l ∷ ls) [] h = absurd h
  parts_along n (l ∷ ls) (e ∷ es) h = rw (h.0.1, parts_along n ls es h.1, h.0.0)

content_of_map : (n : ℕ) (p : Presence) (e : Element) (o : Option ℕ) (rs : List WireRecord) (key : Scalar) → p ≡ presences.Map key
    → content (field_of n p e o) rs ≡ option_map (λ ls. map (leaf_part n) (by_key ls)) (all_some (map (entry_in key e) rs))
content_of_map n p e o rs key is = search (rules, field_of)

-- The field holds the entries by rising key, of each key the last.
pub map_holds : (shape : Shape) (f : FieldShape) (key : Scalar) (rs : List WireRecord) (es : List EntryRef) (c : ContentRef)
    → f.presence ≡ presences.Map key
    → AreEntriesRead shape key f.element rs es → IsMapOf (placed key_of [] es) c → HoldsOf shape f rs (Some c)
map_holds shape f key rs es (contents.One v) is h made = absurd made
map_holds shape f key rs es (contents.Many vs) is h made = absurd made
map_holds shape f key rs es (contents.Numbers ns) is h made = absurd made
map_holds shape f key rs es (contents.Map xs) is h made =
    let (ls, read, along) = leaves_read shape key f.element rs es h in
    ap (option_and_then (λ ps. all_some (map (read_part (dec shape) f.element) ps)))
    (content_of_map f.number f.presence f.element f.oneof rs key is ∙ ap (option_map (λ ls. map (leaf_part f.number) (by_key ls))) read)
    ∙ parts_along shape key f.element f.number (by_key ls) (placed key_of [] es) (all_along shape key f.element ls [] es [] tt along)
    ∙ ap (λ ys. Some (map part_of (map (entry_part f.number) ys)))
    (sym made)

pub map_fits : (shape : Shape) (f : FieldShape) (key : Scalar) (rs : List WireRecord) (es : List EntryRef) (c : ContentRef)
    → f.presence ≡ presences.Map key → is_key key ≡ true → rs ≢ []
    → AreEntriesRead shape key f.element rs es → IsMapOf (placed key_of [] es) c → HeldFits shape f (Some c)
map_fits shape f key rs es (contents.One v) is scalar some h made = absurd made
map_fits shape f key rs es (contents.Many vs) is scalar some h made = absurd made
map_fits shape f key rs es (contents.Numbers ns) is scalar some h made = absurd made
map_fits shape f key rs es (contents.Map xs) is scalar some h made =
    map_held shape f key xs is scalar
    (subst (λ ys. AllByRecursion (EntryFits shape f key) ys) (sym made) (each_normalized (EntryFits shape f key) es (entries_fit shape key f.element rs es h)))
    (subst KeysRise (sym made) (normalized_rise es (entries_alike shape key f.element rs es scalar h)))
    (λ none. normalized_some es (there rs es h some) (sym made ∙ none))
  where
    there : (rs : List WireRecord) (es : List EntryRef) → AreEntriesRead shape key f.element rs es → rs ≢ [] → es ≢ []
    there [] es h some none = some refl
    there (r ∷ rs) [] h some none = h
    there (r ∷ rs) (e ∷ es) h some none = cons_nil e es none
      where
        cons_nil : (x : EntryRef) (ys : List EntryRef) → ◌≡◌ {A = List EntryRef} (x ∷ ys) [] → ⊥
        cons_nil x ys k = cc
