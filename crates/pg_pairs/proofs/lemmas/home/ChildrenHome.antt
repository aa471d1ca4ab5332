-- The children of a message: the new type keeps them, and they return.
use Rattle.std.proofs.Common.{option_to_list, ◌≡◌, ℕ, ◌<◌, ◌≤◌, List, ◌++◌, length, Bool, true, false, ◌&&◌, nat_eq, Option, Some, is_some, refl, ap, ap₂, sym, ◌∙◌, subst, eqb-true, rules}
use Rattle.std.specs.List.{AllByRecursion}
use Rattle.pg_schema.specs.declared.parts.field.TypeId.{TypeId}
use Rattle.pg_schema.specs.declared.parts.field.Element.{Element}
use Rattle.pg_schema.specs.declared.parts.field.Element.TheVariants as elements
use Rattle.pg_schema.specs.declared.parts.field.Presence.{Presence}
use Rattle.pg_schema.specs.Shape.{Shape, FieldShape, fields, field_at, is_singular}
use Rattle.pg_schema.specs.ShapeRules.{IsShape}
use Rattle.pg_dyn.specs.message.Message.{Leaf, Bytes, Message, ends, holds, nests, IsPlain, unknown_of}
use Rattle.pg_dyn.specs.word.Coding.{form, InRange}
use Rattle.pg_dyn.specs.encoding.Writing.{bytes_of, is_packed, records_in}
use Rattle.pg_dyn.specs.encoding.Encoding.{cap, child_type, enc, encoded_parts}
use Rattle.pg_dyn.specs.reading.Decoding.{dec}
use Rattle.pg_dyn.specs.fitting.Belonging.{IsMessage, LeafFits}
use Rattle.pg_dyn.specs.laws.OwnParts.{ChildrenShorter}
use Rattle.pg_dyn.specs.laws.ByComparands.{comparands_at}
use Rattle.pg_dyn.specs.views.Comparison.{Alike, Expected, numbers, Comparand, comparands, Kept, same_message, expected, unshared_bytes}
use Rattle.pg_dyn.proofs.Lists.{each_weaker, each_both, each-filter, each_at, none_list_any}
use Rattle.pg_pairs.specs.declared.choices.choice.Pair.{Pair}
use Rattle.pg_pairs.specs.bounds.Covering.{IsAmong, children, has_children}
use Rattle.pg_pairs.specs.choices.Choices.{child_pair, no_bounds}
use Rattle.pg_pairs.specs.graph.Reached.{LeadsTo, itself, onwards}
use Rattle.pg_pairs.specs.home.Returns.{Returns, becomes_packed}
use Rattle.pg_pairs.specs.home.Home.{home, home_message, homeward}
use Rattle.pg_pairs.specs.inner.Contents.{ChildBound}
use Rattle.pg_pairs.proofs.lemmas.bounds.Dearer.{CompatibleTo}
use Rattle.pg_pairs.proofs.lemmas.home.HomeComparands.{home_comparands}
use Rattle.pg_pairs.proofs.lemmas.home.Returned.{ComesBack}
use Rattle.pg_pairs.proofs.lemmas.bounds.KeptUpTo.{is_kept_whole}
use Rattle.pg_pairs.proofs.lemmas.bounds.ChildTests.{bytes_are, children_are, kept_is}
use Rattle.std.specs.Bool.{⊤}
use Rattle.pg_pairs.proofs.lemmas.choices.Choosing.{children_allowed}
use Rattle.pg_pairs.proofs.lemmas.bounds.Messages.{one_found}
use Rattle.pg_pairs.proofs.lemmas.graph.Reaching.{every_is_among}
use Rattle.pg_pairs.proofs.lemmas.home.ReturnSteps.{led}
use Rattle.pg_dyn.proofs.PublicLaws.{fields_are_found}

abbrev pub pair_of : TypeId → TypeId → Pair
pair_of a b = record { old = a; new = b }

-- what the old type reads of what the new one writes again of the message is what it should read back
abbrev pub Comes : Shape → Shape → TypeId → TypeId → Message → Message → Type 0
Comes old new a b v w = (x : Message) × (dec old a (enc new b w) ≡ Some x) × (home old new a b v x ≡ true)

-- The message returns between types that are compatible up to its length.
abbrev pub ComesHome : Shape → Shape → Message → Type 0
ComesHome old new v =
    (a b : TypeId) → CompatibleTo (length (enc old a v)) old new a b → Returns old new (pair_of a b) → IsMessage old a v → IsPlain v →
    length (enc old a v) ≤ cap →
    (w : Message) → dec new b (enc old a v) ≡ Some w → IsMessage new b w → length (enc new b w) ≤ cap → Comes old new a b v w

-- each child does
abbrev pub ChildrenComeHome : Shape → Shape → Message → Type 0
ChildrenComeHome old new (ends unknown) = ⊤
ChildrenComeHome old new (holds number key leaf later) = ChildrenComeHome old new later
ChildrenComeHome old new (nests number key child later) = ComesHome old new child × ChildrenComeHome old new later

-- What a pair leads to.

pub child_among : (old new : Shape) (a b : TypeId) (f g : FieldShape) (n : ℕ) (s t : TypeId) → field_at (fields old a) n ≡ Some f → field_at (fields new b) n ≡ Some g → has_children f.presence g.presence ≡ true → f.element ≡ elements.Message s → g.element ≡ elements.Message t → IsAmong (pair_of s t) (children old new (pair_of a b))
child_among old new a b f g n s t found at has is_old is_new =
    let each = children_allowed (λ q. IsAmong q (children old new (pair_of a b))) (fields new b) (fields old a) n f g found at
    (every_is_among (λ q. IsAmong q (children old new (pair_of a b))) (children old new (pair_of a b)) (λ q among. among)) in
    (subst (AllByRecursion (λ q. IsAmong q (children old new (pair_of a b)))) (children_are f g has ∙ ap₂ (λ e d. option_to_list (child_pair e d)) is_old is_new) each).0

-- what a pair returns its children return
pub child_returns : (old new : Shape) (root child : Pair) → IsAmong child (children old new root) → Returns old new root → Returns old new child
child_returns old new root child among returns pair leads =
    returns pair (led (children old new) child (LeadsTo (children old new) root) (onwards root child itself among) (λ p c to next. onwards p c to next) pair leads)

pub not_packed : (old new : Shape) (a b : TypeId) (f g : FieldShape) → Returns old new (pair_of a b) → field_at (fields old a) f.number ≡ Some f → field_at (fields new b) f.number ≡ Some g → (is_singular f.presence && is_packed g.presence) ≡ false
not_packed old new a b f g returns found at =
    let none = none_list_any (λ h. becomes_packed h (field_at (fields new b) h.number)) (fields old a) (returns (pair_of a b) itself) in
    let own : becomes_packed f (field_at (fields new b) f.number) ≡ false = each_at (λ h. becomes_packed h (field_at (fields new b) h.number) ≡ false) (fields old a) f.number f found none in
    sym (ap (becomes_packed f) at) ∙ own

pub home_as_message : (old new : Shape) (s t : TypeId) (child x : Message) → home old new s t child x ≡ home_message (fields old s) (fields new t) (homeward old new s t child) x
unfolding home
home_as_message old new s t child x = refl

module _ (old new : Shape) (shape_old : IsShape old) (shape_new : IsShape new) (a b : TypeId) (f g : FieldShape) (s t : TypeId) (is_old : f.element ≡ elements.Message s) (is_new : g.element ≡ elements.Message t)
    (n : ℕ) (found : field_at (fields old a) n ≡ Some f) (at : field_at (fields new b) n ≡ Some g) where
  -- the bytes are short enough for the child's pair
  abbrev pub Fine : Leaf → Type 0
  Fine leaf = (bytes : List ℕ) → leaf ≡ Bytes bytes → CompatibleTo (length bytes) old new s t

  abbrev IsKeptComparand : Comparand → Type 0
  IsKeptComparand c = Fine c.written → ChildBound no_bounds (dec new) (elements.Message s) (elements.Message t) c

  abbrev IsBackComparand : Comparand → Type 0
  IsBackComparand c = Fine c.written → ComesBack old new (elements.Message s) (elements.Message t) c

  of_the_type : (number : ℕ) (h : FieldShape) (u : TypeId) → number ≡ n → field_at (fields old a) number ≡ Some h → h.element ≡ elements.Message u → u ≡ s
  of_the_type number h u same_number found_h is = search (rules, one_found)

  old_type : (number : ℕ) → number ≡ n → child_type (fields old a) number ≡ s
  old_type number same_number = fields_are_found.3 (fields old a) number f s (ap (field_at (fields old a)) same_number ∙ found) is_old

  new_type : (number : ℕ) → number ≡ n → child_type (fields new b) number ≡ t
  new_type number same_number = fields_are_found.3 (fields new b) number g t (ap (field_at (fields new b)) same_number ∙ at) is_new

  -- a child that is one of its type, plain and short
  record IsOwn (child : Message) : Type 0 where
    is_message : IsMessage old s child
    is_plain : IsPlain child
    has_encoding : length (enc old s child) ≤ cap

  own_child : (m : ℕ) → m ≤ cap → (number : ℕ) (h : FieldShape) (u : TypeId) (child : Message) → number ≡ n → field_at (fields old a) number ≡ Some h → h.element ≡ elements.Message u → IsMessage old u child → IsPlain child → length (enc old (child_type (fields old a) number) child) < m → IsOwn child
  own_child m small number h u child same_number found_h is is_message is_plain shorter =
      search (rules, of_the_type, old_type)

  fine_child : (child : Message) (bytes : List ℕ) → bytes_of (records_in (fields old s) (encoded_parts old s child)) ++ bytes_of (unknown_of child) ≡ bytes → Fine (Bytes bytes) → CompatibleTo (length (enc old s child)) old new s t
  fine_child child bytes w fine = subst (λ y. CompatibleTo (length y) old new s t) (sym w ∙ bytes_are old s child) (fine bytes refl)

  kept_comparand : (child : Message) → IsOwn child → (number : ℕ) (key : Option Leaf) (leaf : Leaf) (expectation : Expected) → leaf ≡ Bytes (bytes_of (records_in (fields old s) (encoded_parts old s child)) ++ bytes_of (unknown_of child)) → expectation ≡ Kept (same_message numbers (fields old s) (fields new t) (expected numbers old new s t child) (unshared_bytes old s (fields new t) child)) → IsKeptComparand (record { number = number; key = key; written = leaf; expected = expectation })
  kept_comparand child own number key leaf expectation written expected_is fine bytes test w so broken =
      search (rules, is_kept_whole, fine_child, kept_is)

  back_comparand : Returns old new (pair_of s t) → (child : Message) → ComesHome old new child → IsOwn child → (number : ℕ) (key : Option Leaf) (leaf : Leaf) (test : Message → Bool) → leaf ≡ Bytes (bytes_of (records_in (fields old s) (encoded_parts old s child)) ++ bytes_of (unknown_of child)) → ((x : Message) → test x ≡ home_message (fields old s) (fields new t) (homeward old new s t child) x) → IsBackComparand (record { number = number; key = key; written = leaf; expected = Kept test })
  back_comparand returns child comes own number key leaf test written test_is fine =
      search (rules, bytes_are, home_as_message)

  each_kept : (m : ℕ) → m ≤ cap → (v : Message) → IsMessage old a v → IsPlain v → ChildrenShorter old a m v → AllByRecursion (λ c. c.number ≡ n → IsKeptComparand c) (comparands numbers old new a b v)
  each_kept m small (ends unknown) h plain shorter = tt
  each_kept m small (holds number key leaf later) h plain shorter = ((λ same_number fine bytes test w so broken. absurd (cc)), each_kept m small later h.2 plain shorter)
  each_kept m small (nests number key child later) h plain shorter = (
    (λ same_number.
        let own = own_child m small number h.0.field h.1 child same_number h.0.found h.2 h.3 plain.0 shorter.0 in
        kept_comparand child own number key _ _
        (ap (λ u. Bytes (bytes_of (records_in (fields old u) (encoded_parts old u child)) ++ bytes_of (unknown_of child))) (old_type number same_number))
        (ap₂ (λ u w'. Kept (same_message numbers (fields old u) (fields new w') (expected numbers old new u w' child) (unshared_bytes old u (fields new w') child))) (old_type number same_number) (new_type number same_number))),
    each_kept m small later h.4 plain.1 shorter.1,
  )

  beside_there : (number : ℕ) → number ≡ n → is_some (field_at (fields new b) number) ≡ true
  beside_there number same_number = ap is_some (ap (field_at (fields new b)) same_number ∙ at)

  each_back : Returns old new (pair_of s t) → (m : ℕ) → m ≤ cap → (v : Message) → IsMessage old a v → IsPlain v → ChildrenShorter old a m v → ChildrenComeHome old new v → AllByRecursion (λ c. c.number ≡ n → IsBackComparand c) (home_comparands old new a b v)
  each_back returns m small (ends unknown) h plain shorter come = tt
  each_back returns m small (holds number key leaf later) h plain shorter come =
      search (rules, each_back returns m small later h.2 plain shorter come, one_found)
  each_back returns m small (nests number key child later) h plain shorter come =
      search (rules, each_back returns m small later h.4 plain.1 shorter.1 come.1, own_child, back_comparand, is_some, old_type, beside_there, new_type)

  at_number : (P : Comparand → Type 0) (cs : List Comparand) → AllByRecursion (λ (c : Comparand). c.number ≡ n → P c) cs → AllByRecursion P (comparands_at n cs)
  at_number P cs all = search (rules, each_weaker, eqb-true, each-filter)

  pub kept_comparands : (m : ℕ) → m ≤ cap → (v : Message) → IsMessage old a v → IsPlain v → ChildrenShorter old a m v → AllByRecursion (λ c. Fine c.written) (comparands_at n (comparands numbers old new a b v)) → AllByRecursion (ChildBound no_bounds (dec new) (elements.Message s) (elements.Message t)) (comparands_at n (comparands numbers old new a b v))
  kept_comparands m small v h plain shorter fine =
      each_weaker (λ c. IsKeptComparand c × Fine c.written) (ChildBound no_bounds (dec new) (elements.Message s) (elements.Message t)) (λ c k. k.0 k.1) (comparands_at n (comparands numbers old new a b v))
      (each_both IsKeptComparand (λ c. Fine c.written) (comparands_at n (comparands numbers old new a b v)) (at_number IsKeptComparand (comparands numbers old new a b v) (each_kept m small v h plain shorter)) fine)

  pub back_comparands : Returns old new (pair_of s t) → (m : ℕ) → m ≤ cap → (v : Message) → IsMessage old a v → IsPlain v → ChildrenShorter old a m v → ChildrenComeHome old new v → AllByRecursion (λ c. Fine c.written) (comparands_at n (home_comparands old new a b v)) → AllByRecursion (ComesBack old new (elements.Message s) (elements.Message t)) (comparands_at n (home_comparands old new a b v))
  back_comparands returns m small v h plain shorter come fine =
      each_weaker (λ c. IsBackComparand c × Fine c.written) (ComesBack old new (elements.Message s) (elements.Message t)) (λ c k. k.0 k.1) (comparands_at n (home_comparands old new a b v))
      (each_both IsBackComparand (λ c. Fine c.written) (comparands_at n (home_comparands old new a b v)) (at_number IsBackComparand (home_comparands old new a b v) (each_back returns m small v h plain shorter come)) fine)

-- A leaf of a field of no messages, as it must be read back.
module _ (old new : Shape) (a b : TypeId) (f : FieldShape) (n : ℕ) (found : field_at (fields old a) n ≡ Some f) where
  leaf_back : (d : Element) (k : ℕ) (p : Presence) (e : Element) (o : Option ℕ) (c : Comparand) (leaf : Leaf) → c.written ≡ leaf → c.expected ≡ Alike leaf → LeafFits (record { number = k; presence = p; element = e; oneof = o }) leaf → ComesBack old new e d c
  leaf_back d k p (elements.Scalar s) o c leaf w so fits = (subst (InRange (form (elements.Scalar s))) (sym w) fits.0, so ∙ ap Alike (sym w))
  leaf_back d k p (elements.Enum s) o c leaf w so fits = (subst (InRange (form (elements.Enum s))) (sym w) fits.0, so ∙ ap Alike (sym w))
  leaf_back d k p (elements.Message s) o c leaf w so fits = absurd fits

  pub each_leaf : (d : Element) → ((s : TypeId) → f.element ≡ elements.Message s → ⊥) → (v : Message) → IsMessage old a v → AllByRecursion (λ c. c.number ≡ n → ComesBack old new f.element d c) (home_comparands old new a b v)
  each_leaf d leafy (ends unknown) h = tt
  each_leaf d leafy (holds number key leaf later) h =
      search (rules, each_leaf d leafy later h.2, one_found, leaf_back)
  each_leaf d leafy (nests number key child later) h =
      search (rules, each_leaf d leafy later h.4, one_found)

  pub leaf_comparands : (d : Element) → ((s : TypeId) → f.element ≡ elements.Message s → ⊥) → (v : Message) → IsMessage old a v → AllByRecursion (ComesBack old new f.element d) (comparands_at n (home_comparands old new a b v))
  leaf_comparands d leafy v h =
      each_weaker (λ c. (c.number ≡ n → ComesBack old new f.element d c) × (nat_eq c.number n ≡ true)) (ComesBack old new f.element d) (λ c k. k.0 (eqb-true c.number n k.1)) (comparands_at n (home_comparands old new a b v))
      (each-filter (λ c. c.number ≡ n → ComesBack old new f.element d c) (λ c. nat_eq c.number n) (home_comparands old new a b v) (each_leaf d leafy v h))
