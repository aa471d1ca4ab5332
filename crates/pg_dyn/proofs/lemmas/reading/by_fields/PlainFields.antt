-- Fields that are no maps: their contents, and the records that they take.
use Rattle.std.proofs.Common.{◌≡◌, ℕ, List, [], ◌∷◌, map, true, false, Option, Some, None, option_map, rules, arith}
use Rattle.std.proofs.lemmas.Bool.{and_parts}
use Rattle.pg_schema.specs.declared.parts.field.TypeId.{TypeId}
use Rattle.pg_schema.specs.declared.parts.field.Element.{Element}
use Rattle.pg_schema.specs.declared.parts.field.Element.TheVariants as elements
use Rattle.pg_schema.specs.declared.parts.field.Presence.{Presence}
use Rattle.pg_schema.specs.Shape.{FieldShape, is_map}
use Rattle.pg_wire.specs.Records.{WireRecord}
use Rattle.pg_dyn.specs.word.Coding.{form, form_wire}
use Rattle.pg_dyn.specs.message.Message.{Bytes, Message}
use Rattle.pg_dyn.specs.reading.Content.{own_wire, takes, content, plain_content, leaves_in}
use Rattle.pg_dyn.specs.reading.Decoding.{Reader, is_child, is_readable, is_plain_readable}
use Rattle.pg_dyn.specs.reading.ReadingOn.{IsNoMessage}
use Rattle.pg_dyn.proofs.lemmas.reading.Fields.{field_of}

pub content_plain : (n : ℕ) (p : Presence) (e : Element) (o : Option ℕ) (cs : List WireRecord) → is_map p ≡ false
    → content (field_of n p e o) cs ≡ option_map (map (λ leaf. record { number = n; key = None; item = leaf })) (plain_content (field_of n p e o) cs)
content_plain n p e o cs h = grind arith

pub own_is : (n : ℕ) (p : Presence) (e : Element) (o : Option ℕ) → is_map p ≡ false → own_wire (field_of n p e o) ≡ form_wire (form e)
own_is n p e o h = grind arith

pub readable_is : (child : Reader) (n : ℕ) (p : Presence) (e : Element) (o : Option ℕ) (r : WireRecord) → is_map p ≡ false → is_readable child (field_of n p e o) r ≡ is_plain_readable child (field_of n p e o) r
readable_is child n p e o r h = grind arith

pub no_child : (child : Reader) (e : Element) (bytes : List ℕ) → IsNoMessage e → is_child child e bytes ≡ true
no_child child e bytes h = grind arith

-- Fields of messages.

module _ (g : FieldShape) (t : TypeId) (is_message : g.element ≡ elements.Message t) (no_map : is_map g.presence ≡ false) where
  -- a record of the field has one item, its body
  pub one_body : (r : WireRecord) → takes g r ≡ true → leaves_in g r ≡ Some (Bytes r.body ∷ [])
  one_body r taken = search (rules, and_parts, own_is, field_of)

  pub readable_child : (child : Reader) (r : WireRecord) (c : Message) → takes g r ≡ true → child t r.body ≡ Some c → is_readable child g r ≡ true
  readable_child child r c taken h = search (rules, readable_is, one_body)
