-- Parts of a message that own what those of a message that borrows lend: contracts see the same of both.
use Rattle.std.specs.Prelude.{◌≡◌, ℕ, Bool, List, map}
use Rattle.std.specs.List.{AllByRecursion}
use Rattle.pg_dyn.specs.declared.message.Content.{Content}
use Rattle.pg_dyn.specs.declared.message.Value.{Value}
use Rattle.pg_dyn.specs.declared.message_ref.ContentRef.{ContentRef}
use Rattle.pg_dyn.specs.declared.message_ref.EntryRef.{EntryRef}
use Rattle.pg_dyn.specs.declared.message_ref.ValueRef.{ValueRef}
use Rattle.pg_dyn.specs.message_ref.Borrowed as borrowed
use Rattle.pg_dyn.specs.message.Seen.{HasKeys, IsFilled, IsMapKey, content_seen, entry_part, item_seen}

abbrev pub IsItemCopy : ValueRef → Value → Type 0
IsItemCopy lent copy = (listed : Bool) → item_seen listed copy ≡ borrowed.item_seen listed lent

pub record IsEntryCopy (lent : EntryRef) (copy : Value × Value) : Type 0 where
  pub part : (number : ℕ) → entry_part number copy ≡ borrowed.entry_part number lent
  pub key : borrowed.IsMapKey lent.key → IsMapKey copy.0

pub record AreEntryCopies (lent : List EntryRef) (copies : List (Value × Value)) : Type 0 where
  pub parts : (number : ℕ) → map (entry_part number) copies ≡ map (borrowed.entry_part number) lent
  pub keys : AllByRecursion (λ (e : EntryRef). borrowed.IsMapKey e.key) lent
      → AllByRecursion (λ (e : Value × Value). IsMapKey e.0) copies

pub record IsContentCopy (lent : ContentRef) (copy : Content) : Type 0 where
  pub parts : (number : ℕ) → content_seen number copy ≡ borrowed.content_seen number lent
  pub filled : borrowed.IsFilled lent → IsFilled copy
  pub keys : borrowed.HasKeys lent → HasKeys copy
