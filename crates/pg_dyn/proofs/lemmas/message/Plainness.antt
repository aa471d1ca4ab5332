-- Whether a message is plain, level by level, whatever kind its contents are of.
use Rattle.pg_dyn.specs.declared.message_ref.ValueRef.TheVariants as borrows
use Rattle.std.proofs.Common.{◌≡◌, ◌↔◌, ℕ, List, [], ◌∷◌, ◌++◌, map, length, Vec, Global, Bool, IsTrue, eqb, vec_len, true, false, Option, refl, ap, sym, ◌∙◌, arith, eq-eqb, eqb-true, rules}
use Rattle.std.specs.List.{AllByRecursion}
use Rattle.pg_schema.specs.declared.parts.field.TypeId.{TypeId}
use Rattle.pg_wire.specs.Records.{WireRecord}
use Rattle.pg_dyn.specs.declared.message.Content.{Content}
use Rattle.pg_dyn.specs.declared.message_ref.ContentRef.{ContentRef}
use Rattle.pg_dyn.specs.declared.message_ref.ContentRef.TheVariants as lent
use Rattle.pg_dyn.specs.declared.message_ref.EntryRef.{EntryRef}
use Rattle.pg_dyn.specs.declared.message_ref.ValueRef.{ValueRef}
use Rattle.pg_dyn.specs.message.Message.{Leaf, Part}
use Rattle.pg_dyn.specs.message.Kept.{Kept, ends}
use Rattle.pg_dyn.specs.message.KeptParts.{KeptItem, Plain, Msg, IsPlain, IsPlainItem}
use Rattle.pg_dyn.specs.message.Replacing.{all_parts, kept_onto, kept_part}
use Rattle.pg_dyn.specs.message.Seen.{ArePlain, content_seen}
use Rattle.pg_dyn.specs.message_ref.Borrowed as borrowed
use Rattle.pg_dyn.specs.word.NumberLists.{IsNumber, numbers_in}
use Rattle.pg_dyn.proofs.lemmas.word.NumberLaws.{numbers_are}
use Rattle.pg_dyn.specs.encoding.Lending.{Bare, Child, Lone, in_list}
use Rattle.pg_dyn.proofs.lemmas.encoding.LentParts.{lent_seen, owned_seen}

-- one more part, and more
part_plain : (n : ℕ) (k : Option Leaf) (item : KeptItem) (later : Kept) → (IsPlainItem item × IsPlain later) ↔ IsPlain (kept_part n k item later)
part_plain n k (Plain listed leaf) later = ((λ e. e.1), λ e. (tt, e))
part_plain n k (Msg listed child) later = ((λ e. e), λ e. e)

abbrev pub Parts : List (Part KeptItem) → Type 0
Parts ps = AllByRecursion (λ (p : Part KeptItem). IsPlainItem p.item) ps

parts_plain : (ps : List (Part KeptItem)) (later : Kept) → (Parts ps × IsPlain later) ↔ IsPlain (kept_onto ps later)
parts_plain [] later = ((λ e. e.1), λ e. (tt, e))
parts_plain (p ∷ ps) later = search (rules, part_plain, parts_plain ps later)

both_parts : (ps qs : List (Part KeptItem)) → (Parts ps × Parts qs) ↔ Parts (ps ++ qs)
both_parts [] qs = ((λ e. e.1), λ e. (tt, e))
both_parts (p ∷ ps) qs = let rest = both_parts ps qs in ((λ e. (e.0.0, rest.0 (e.0.1, e.1))), λ e. let r = rest.1 e.1 in ((e.0, r.0), r.1))

-- the parts of a list are plain where its elements are
list_plain : {A : Type 0} (part : A → Part KeptItem) (P : A → Type 0) → ((x : A) → P x ↔ IsPlainItem (part x).item) → (xs : List A) → AllByRecursion P xs ↔ Parts (map part xs)
list_plain part P each [] = ((λ e. e), λ e. e)
list_plain part P each (x ∷ xs) = search (rules, list_plain part P each xs)

ends_plain : {U : Type 0} (record_of : U → WireRecord) (type : TypeId) (us : List U) → (us ≡ []) ↔ IsPlain (ends type (map record_of us))
ends_plain record_of type [] = ((λ e. tt), λ e. refl)
ends_plain record_of type (u ∷ us) = search rules

module _ {C U : Type 0} (parts : ℕ → C → List (Part KeptItem)) (P : C → Type 0) (each : (n : ℕ) (c : C) → P c ↔ Parts (parts n c)) (record_of : U → WireRecord) where
  fields_plain : (fs : List (ℕ × C)) → AllByRecursion (λ (f : ℕ × C). P f.1) fs ↔ Parts (all_parts parts fs)
  fields_plain [] = ((λ e. e), λ e. e)
  fields_plain (f ∷ fs) = search (rules, fields_plain fs, both_parts)

  -- a message is plain where each of its contents is and no record is unknown
  pub message_plain : (fs : List (ℕ × C)) (type : TypeId) (us : List U)
      → (AllByRecursion (λ (f : ℕ × C). P f.1) fs × (us ≡ [])) ↔ IsPlain (kept_onto (all_parts parts fs) (ends type (map record_of us)))
  message_plain fs type us =
      let level = parts_plain (all_parts parts fs) (ends type (map record_of us)) in
      let all = fields_plain fs in
      let last = ends_plain record_of type us in
      ((λ e. level.0 (all.0 e.0, last.0 e.1)), λ e. let k = level.1 e in (all.1 k.0, last.1 k.1))

-- The contents of a message that owns its parts, and of one that borrows.

bare_in_list : (x : Bare) → IsPlainItem (in_list false x) ↔ IsPlainItem (in_list true x)
bare_in_list (Lone text leaf) = ((λ e. e), λ e. e)
bare_in_list (Child m) = ((λ e. e), λ e. e)

plain_listed : (x : Bare) (one many : KeptItem) → one ≡ in_list false x → many ≡ in_list true x → IsPlainItem one ↔ IsPlainItem many
plain_listed x one many is are = search (rules, bare_in_list)

pub content_plain : (n : ℕ) (c : Content) → ArePlain c ↔ Parts (content_seen n c)
content_plain n c = grind (arith, list_plain, plain_listed, owned_seen)

-- numbers are plain
numbers_plain : (n : ℕ) (vs : List ValueRef) → AllByRecursion IsNumber vs → Parts (map (borrowed.item_part n true) vs)
numbers_plain n [] h = tt
numbers_plain n (v ∷ vs) h = search (rules, numbers_plain n vs h.1)

pub lent_plain : (n : ℕ) (c : ContentRef) → borrowed.ArePlain c ↔ Parts (borrowed.content_seen n c)
lent_plain n (lent.One v) = ((λ e. (e, tt)), λ e. e.0)
lent_plain n (lent.Many vs) = search (rules, list_plain, plain_listed, lent_seen)
lent_plain n (lent.Map es) = list_plain (borrowed.entry_part n) (λ (e : EntryRef). IsPlainItem (borrowed.item_seen false e.value)) (λ e. ((λ k. k), λ k. k)) es.items
lent_plain n (lent.Numbers ns) = ((λ e. numbers_plain n (numbers_in ns) (numbers_are ns)), λ e. tt)

-- a vector is empty where its length is zero
pub none_from_empty : {A : Type 0} (v : Vec A Global) (empty : Bool) → empty ≡ eqb (vec_len v) 0 → IsTrue empty → v.items ≡ []
none_from_empty {A} v empty says e = nil v.items (sym v.ok.0 ∙ eqb-true (vec_len v) 0 (sym says ∙ e))
  where
    nil : (xs : List A) → length xs ≡ 0 → xs ≡ []
    nil [] h = refl
    nil (x ∷ xs) h = absurd (omega arith)

pub empty_from_none : {A : Type 0} (v : Vec A Global) (empty : Bool) → empty ≡ eqb (vec_len v) 0 → v.items ≡ [] → IsTrue empty
empty_from_none v empty says none = says ∙ eq-eqb (vec_len v) 0 (v.ok.0 ∙ ap length none)
