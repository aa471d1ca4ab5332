-- What a field holds together: one item, a list, or entries by rising key.
use Rattle.std.proofs.Common.{Global, Vec, ◌≡◌, ◌≢◌, List, [], map, true, false, Some, None, refl, ap, sym, subst, rules, arith}
use Rattle.std.specs.List.{AllByRecursion}
use Rattle.pg_schema.specs.declared.parts.field.Presence.{Presence}
use Rattle.pg_schema.specs.declared.parts.field.Presence.TheVariants as presences
use Rattle.pg_schema.specs.declared.parts.field.Element.TheVariants as elements
use Rattle.pg_schema.specs.declared.parts.field.Scalar.{Scalar}
use Rattle.pg_schema.specs.declared.parts.field.TypeId.{TypeId}
use Rattle.pg_schema.specs.Shape.{Shape, FieldShape, is_map, is_repeated}
use Rattle.pg_schema.specs.rules.Fields.{is_key}
use Rattle.pg_dyn.specs.declared.message_ref.ContentRef.TheVariants as contents
use Rattle.pg_dyn.specs.declared.message_ref.EntryRef.{EntryRef}
use Rattle.pg_dyn.specs.declared.message_ref.ValueRef.{ValueRef}
use Rattle.pg_dyn.specs.declared.number_list.NumberList.{NumberList}
use Rattle.pg_dyn.specs.fitting.Belonging.{KeyFits}
use Rattle.pg_dyn.specs.message_ref.Borrowed.{IsMapKey, entry_part, item_part, item_seen}
use Rattle.pg_dyn.specs.message_ref.BorrowedItems.{IsItemKept, ItemKept, KeysRise, key_of}
use Rattle.pg_dyn.specs.message.KeptParts.{KeptItem, Plain, Msg}
use Rattle.pg_dyn.specs.word.NumberLists.{numbers_in}
use Rattle.pg_dyn.specs.fitting.PartsFit.{FieldHolds, IsPartOf}
use Rattle.pg_dyn.specs.reading.Steps.{HeldFits}
use Rattle.pg_dyn.proofs.lemmas.message_ref.BorrowedItems.{LeafMayBeZero, in_range, map_key, value_holds}
use Rattle.pg_dyn.proofs.Lists.{each_weaker}
use Rattle.pg_dyn.proofs.lemmas.fitting.PartsToFits.{list_holds, listed_keyless, map_holds}

keyless : (p : Presence) → is_map p ≡ false → KeyFits p None
keyless p h = grind arith

-- items of lists and of maps may be zero, and so may messages
list_zero : (p : Presence) (item : KeptItem) → is_repeated p ≡ true → LeafMayBeZero p item
list_zero p item h = grind arith

map_zero : (p : Presence) (key : Scalar) (item : KeptItem) → p ≡ presences.Map key → LeafMayBeZero p item
map_zero p key (Plain listed leaf) is = rw is tt
map_zero p key (Msg listed child) is = tt

pub child_zero : (shape : Shape) (t : TypeId) (p : Presence) (v : ValueRef) → ItemKept shape (elements.Message t) v → LeafMayBeZero p (item_seen false v)
child_zero shape t p v h = grind arith

module _ (shape : Shape) (f : FieldShape) where
  pub one_held : (v : ValueRef) → is_repeated f.presence ≡ false → is_map f.presence ≡ false → ItemKept shape f.element v
      → LeafMayBeZero f.presence (item_seen false v) → HeldFits shape f (Some (contents.One v))
  one_held v singular no_map fits zero = search (rules, keyless, value_holds)

  list_fits : (vs : List ValueRef) → is_repeated f.presence ≡ true → AllByRecursion (ItemKept shape f.element) vs → FieldHolds shape f (map (item_part f.number true) vs)
  list_fits vs repeated fit =
      search (rules, list_holds, each_weaker, listed_keyless, value_holds, list_zero)

  pub list_held : (vs : Vec ValueRef Global) → is_repeated f.presence ≡ true → AllByRecursion (ItemKept shape f.element) vs.items → vs.items ≢ []
      → HeldFits shape f (Some (contents.Many vs))
  list_held vs repeated fit some = (list_fits vs.items repeated fit, some, tt)

  pub numbers_held : (ns : NumberList) → is_repeated f.presence ≡ true → AllByRecursion (ItemKept shape f.element) (numbers_in ns) → numbers_in ns ≢ []
      → HeldFits shape f (Some (contents.Numbers ns))
  numbers_held ns repeated fit some = (list_fits (numbers_in ns) repeated fit, some, tt)

  -- an entry is one of the map
  abbrev pub EntryFits : Scalar → EntryRef → Type 0
  EntryFits key e = IsItemKept key e.key × ItemKept shape f.element e.value

  pub map_held : (key : Scalar) (es : Vec EntryRef Global) → f.presence ≡ presences.Map key → is_key key ≡ true → AllByRecursion (EntryFits key) es.items → KeysRise es.items
      → es.items ≢ [] → HeldFits shape f (Some (contents.Map es))
  map_held key es is keyed fit rise some = (
    map_holds shape f (entry_part f.number) key is key_of (λ e. refl) es.items
        (each_weaker (EntryFits key) (λ (e : EntryRef). IsPartOf shape f (entry_part f.number e)) one es.items fit) rise,
    some,
    each_weaker (EntryFits key) (λ (e : EntryRef). IsMapKey e.key) (λ e h. map_key key e.key keyed h.0) es.items fit,
  )
    where
      one : (e : EntryRef) → EntryFits key e → IsPartOf shape f (entry_part f.number e)
      one e h = record {
        number_is = refl;
        key_fits = subst (λ p. KeyFits p (Some (key_of e))) (sym is) (in_range key e.key h.0);
        item = value_holds shape f false e.value (ap is_repeated is) h.1 (map_zero f.presence key (item_seen false e.value) is);
      }
