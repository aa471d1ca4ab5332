-- A code for items: the message that has them, as the program keeps one. It is here since the models of drafts cite it.
use Rattle.std.specs.Prelude.{◌≡◌, ℕ, false, [], ◌∷◌, Option, refl}
use Rattle.std.proofs.Common.{ap, ap₂, ◌∙◌}
use Rattle.std.specs.Coded.{Coded, code_by}
use Rattle.pg_dyn.specs.message.Kept.{Kept, Manner, ends, holds, nests, message_of}
use Rattle.pg_dyn.specs.message.KeptCode.{kept_code}
use Rattle.pg_dyn.specs.message.Message.{Item, Leaf, Message, Msg, Plain, message_from, parts, with_part}
use Rattle.pg_dyn.specs.message.Message as model
use Rattle.pg_set.specs.writing.Items.{Items}

abbrev alone : Manner
alone = record { listed = false; text = false }

abbrev kept_as : Message → Kept
kept_as (model.ends unknown) = ends (record { index = 0 }) unknown
kept_as (model.holds number key leaf later) = holds number key alone leaf (kept_as later)
kept_as (model.nests number key child later) = nests number key false (kept_as child) (kept_as later)

pub message_back : (m : Message) → message_of (kept_as m) ≡ m
message_back (model.ends unknown) = refl
message_back (model.holds number key leaf later) = ap (model.holds number key leaf) (message_back later)
message_back (model.nests number key child later) =
    ap₂ (model.nests number key) (message_back child) (message_back later)

part_back : (number : ℕ) (key : Option Leaf) (item : Item) (later : Message) → parts (with_part number key item later) ≡ record { number = number; key = key; item = item } ∷ parts later
part_back number key (Plain leaf) later = refl
part_back number key (Msg child) later = refl

parts_back : (is : Items) → parts (message_from is []) ≡ is
parts_back [] = refl
parts_back (p ∷ ps) = part_back p.number p.key p.item (message_from ps []) ∙ ap (λ is. p ∷ is) (parts_back ps)

pub items_back : (is : Items) → parts (message_of (kept_as (message_from is []))) ≡ is
items_back is = ap parts (message_back (message_from is [])) ∙ parts_back is

abbrev pub items_code : Coded Items
items_code = code_by Kept kept_code (λ is. kept_as (message_from is [])) (λ k. parts (message_of k)) items_back
