-- One field of what is read back: the old type's reader makes of the records of its number what the field should show.
use Rattle.std.proofs.Common.{◌≡◌, ℕ, List, [], ◌∷◌, map, filter, Bool, true, not, ◌&&◌, Option, Some, refl, ap, sym, ◌∙◌, rules}
use Rattle.std.specs.List.{AllByRecursion}
use Rattle.std.proofs.lemmas.Bool.{and_from, and_parts, and_right, or_right}
use lib.Pointwise.{pointwise}
use Rattle.pg_schema.specs.declared.parts.field.Element.{Element}
use Rattle.pg_schema.specs.declared.parts.field.Element.TheVariants as elements
use Rattle.pg_schema.specs.declared.parts.field.Presence.TheVariants as presences
use Rattle.pg_schema.specs.Shape.{Shape, FieldShape}
use Rattle.pg_wire.specs.Records.{WireRecord}
use Rattle.pg_dyn.specs.message.Message.{Item, Plain, Msg, Part, is_of, is_zero}
use Rattle.pg_dyn.specs.encoding.Writing.{field_records}
use Rattle.pg_dyn.specs.reading.Decoding.{Reader}
use Rattle.pg_dyn.specs.views.Comparison.{Expected, Alike, Kept, Comparand, numbers, writes, expects, is_zero_expected, is_zero_item, matches, shown}
use Rattle.pg_dyn.specs.laws.ByComparands.{field_read, all_field_readable}
use Rattle.pg_dyn.proofs.Lists.{each_weaker, filter_all, filter-filter_weaker, list_all_each, map_map}
use Rattle.pg_pairs.specs.home.Home.{drops_zero, home_content}
use Rattle.pg_pairs.specs.inner.Contents.{Holds}
use Rattle.pg_pairs.proofs.lemmas.gaps.GapItems.{IsLeafy}
use Rattle.pg_pairs.proofs.lemmas.gaps.Leaves.{alike_equal, seen_from}
use Rattle.pg_pairs.proofs.lemmas.bounds.Comparands.{leafy_seen, leafy_item}
use Rattle.pg_pairs.proofs.lemmas.bounds.Across.{filtered_pointwise, parts_read, same_key_refl, Seen, Across, item_read, reads}
use Rattle.pg_dyn.proofs.PublicLaws.{bodies_read_again, own_contents}
use Rattle.pg_pairs.proofs.lemmas.home.Returned.{returned, alike_self}
use Rattle.pg_pairs.proofs.lemmas.gaps.Likes.{like_self}
use Rattle.pg_pairs.proofs.lemmas.bounds.Ways.{plain_across}

-- The field reads these records, and shows what it should.
pub record FieldComes (child : Reader) (f : FieldShape) (beside : Option FieldShape) (homing : List (Part Expected))
    (rs : List WireRecord) : Type 0 where
  pub readable : all_field_readable child f rs ≡ true
  pub made : List (Part Item)
  pub read : field_read child f rs ≡ Some made
  pub is_home : home_content f beside homing made ≡ true

-- What is shown of a number's parts is what is shown of all.
shown-filter : {A : Type 0} (is_zero_one : A → Bool) (hidden : Bool) (n : ℕ) (ps : List (Part A)) → shown is_zero_one hidden n (filter (is_of n) ps) ≡ shown is_zero_one hidden n ps
shown-filter is_zero_one hidden n ps = search (rules, filter-filter_weaker, and_parts)

pub home_parts : (f : FieldShape) (beside : Option FieldShape) (homing : List (Part Expected)) (ps : List (Part Item)) → home_content f beside homing (filter (is_of f.number) ps) ≡ home_content f beside homing ps
home_parts f beside homing ps = rw (shown-filter is_zero_item (drops_zero f beside) f.number ps)

pub home_of_own : (f : FieldShape) (beside : Option FieldShape) (homing own : List (Part Expected)) (ps : List (Part Item)) → filter (is_of f.number) homing ≡ own → home_content f beside own ps ≡ true → home_content f beside homing ps ≡ true
home_of_own f beside homing own ps is h = search (rules, pointwise, shown-filter)

-- an item that is met by numbers is so as between a type and itself
meets_own : (f g h : FieldShape) (expected : Expected) (item : Item) → matches numbers g h expected item ≡ true → matches numbers f f expected item ≡ true
meets_own f g h (Alike a) (Plain b) met = search (rules, alike_equal, alike_self)
meets_own f g h (Alike a) (Msg m) met = absurd (cc)
meets_own f g h (Kept test) (Plain b) met = absurd (cc)
meets_own f g h (Kept test) (Msg m) met = met

-- comparands that are read right return
seen_home : (child : Reader) (f g : FieldShape) (beside : Option FieldShape) (cs : List Comparand) → AllByRecursion (Seen numbers child g f) cs → home_content f beside (map expects cs) (map (reads child f.element) cs) ≡ true
seen_home child f g beside cs h =
    search (rules, filtered_pointwise, reads, each_weaker, and_from, item_read, same_key_refl, meets_own)

-- What crosses is read.

pub across_readable : (child : Reader) (f g : FieldShape) (cs : List Comparand) → Across child g f cs → all_field_readable child f (field_records g (map writes cs)) ≡ true
across_readable child f g cs across = search (rules, list_all_each, each_weaker, or_right)

pub across_read : (child : Reader) (f g : FieldShape) (cs : List Comparand) → AllByRecursion (Seen numbers child g f) cs → Across child g f cs → field_read child f (field_records g (map writes cs)) ≡ Some (map (reads child f.element) cs)
across_read child f g cs seen across = search (rules, filter_all, parts_read)

-- a content that crosses and comes back
pub crossing_comes : (child : Reader) (new : Shape) (f g : FieldShape) (beside : Option FieldShape) (homing : List (Part Expected)) (d : Element) (hs : List Comparand) → filter (is_of f.number) homing ≡ map expects hs → AllByRecursion (Seen numbers child g f) (map (returned new d) hs) → Across child g f (map (returned new d) hs) → FieldComes child f beside homing (field_records g (map writes (map (returned new d) hs)))
crossing_comes child new f g beside homing d hs is seen across = record {
  readable = across_readable child f g (map (returned new d) hs) across;
  made = map (reads child f.element) (map (returned new d) hs);
  read = across_read child f g (map (returned new d) hs) seen across;
  is_home =
      home_of_own f beside homing (map expects (map (returned new d) hs)) (map (reads child f.element) (map (returned new d) hs)) (is ∙ sym (map_map expects (returned new d) hs))
      (seen_home child f g beside (map (returned new d) hs) seen);
}

-- no content
pub nothing_read : (child : Reader) (f : FieldShape) → field_read child f [] ≡ Some []
nothing_read child f = rw (own_contents.1 f) refl

pub nothing_comes : (child : Reader) (f : FieldShape) (beside : Option FieldShape) (homing : List (Part Expected)) → filter (is_of f.number) homing ≡ [] → FieldComes child f beside homing []
nothing_comes child f beside homing none = record {
  readable = refl;
  made = [];
  read = nothing_read child f;
  is_home = home_of_own f beside homing [] [] none refl;
}

-- A zero that the new type hides.
module _ (child : Reader) (number : ℕ) (e : Element) (o : Option ℕ) (g : FieldShape) (implicit : g.presence ≡ presences.Implicit) (leafy : IsLeafy e) (homing : List (Part Expected)) (c h : Comparand)
    (is : filter (is_of number) homing ≡ expects h ∷ []) (hidden : is_zero_expected h.expected ≡ true) (zero : is_zero c.written ≡ true) where
  abbrev f : FieldShape
  f = record { number = number; presence = presences.Explicit; element = e; oneof = o }

  dropped : drops_zero f (Some g) ≡ true
  dropped = rw implicit refl

  not_shown : {A : Type 0} (is_zero_one : A → Bool) (p : Part A) → is_zero_one p.item ≡ true → shown is_zero_one true number (p ∷ []) ≡ []
  not_shown is_zero_one p zero = rw (and_right (is_of number p) (not (true && is_zero_one p.item)) (ap not zero)) refl

  old_hidden : shown is_zero_expected (drops_zero f (Some g)) number (expects h ∷ []) ≡ []
  old_hidden = ap (λ b. shown is_zero_expected b number (expects h ∷ [])) dropped ∙ not_shown is_zero_expected (expects h) hidden

  pub hidden_gone : FieldComes child f (Some g) homing []
  hidden_gone = record {
    readable = refl;
    made = [];
    read = nothing_read child f;
    is_home = home_of_own f (Some g) homing (expects h ∷ []) [] is (rw old_hidden refl);
  }

  plain_item : (e : Element) → IsLeafy e → item_read child e c.written ≡ Plain c.written
  plain_item (elements.Scalar s) leafy = refl
  plain_item (elements.Enum s) leafy = refl
  plain_item (elements.Message s) leafy = absurd leafy

  pub hidden_back : Holds f c → FieldComes child f (Some g) homing (field_records f (map writes (c ∷ [])))
  hidden_back holds =
      let held = leafy_item e c leafy holds.item in
      let seen : AllByRecursion (Seen numbers child f f) (c ∷ []) = (
        leafy_seen numbers child f f c leafy leafy (like_self e) holds
            (seen_from numbers e e c.written (bodies_read_again e c.written held.0).read (alike_self e e c.written)),
        tt,
      ) in
      let across : Across child f f (c ∷ []) =
      plain_across numbers child number e e o o (like_self e) presences.Explicit presences.Explicit tt tt (c ∷ []) seen
      (record { no_key = (holds.key_fits, tt); may_be_zero = (tt, tt); one = λ singular. tt; unpacked = λ k. absurd (cc); packable = λ k. absurd (cc) }) in
      let item_zero : is_zero_item (item_read child e c.written) ≡ true = ap is_zero_item (plain_item e leafy) ∙ zero in
      let new_hidden : shown is_zero_item (drops_zero f (Some g)) number (reads child e c ∷ []) ≡ [] =
      ap (λ b. shown is_zero_item b number (reads child e c ∷ [])) dropped ∙ not_shown is_zero_item (reads child e c) item_zero in
      record {
        readable = across_readable child f f (c ∷ []) across;
        made = map (reads child e) (c ∷ []);
        read = across_read child f f (c ∷ []) seen across;
        is_home = home_of_own f (Some g) homing (expects h ∷ []) (reads child e c ∷ []) is (rw (old_hidden, new_hidden) refl);
      }
