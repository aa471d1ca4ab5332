-- What a message holds, as comparands.
use Rattle.std.proofs.Common.{◌≡◌, Bool, inl, inr, refl, sym, ◌∙◌, ◌∷◌, [], true, List, Option, ap, subst, false, ℕ, eqb-true, cond, ⊎_elim, rules, nat_eq}
use Rattle.std.specs.List.{AllByRecursion}
use Rattle.pg_schema.specs.Shape.{fields, Shape, FieldShape}
use Rattle.pg_schema.specs.declared.parts.field.Element.{Element}
use Rattle.pg_schema.specs.declared.parts.field.TypeId.{TypeId}
use Rattle.pg_dyn.specs.fitting.Belonging.{IsMessage, IsPart}
use Rattle.pg_dyn.specs.laws.ByComparands.{comparands_at}
use Rattle.pg_dyn.specs.message.Message.{Leaf, Bytes, Item, Message, Part, Plain, Msg, ends, holds, nests, only, IsPlain, places, Place}
use Rattle.pg_dyn.specs.views.Comparison.{View, Alike, Comparand, comparands, is_zero_expected, is_zero_item}
use Rattle.pg_pairs.specs.bounds.Covering.{IsAmong}
use Rattle.pg_pairs.specs.choices.Held.{HasItem, HoldsField}
use Rattle.pg_pairs.specs.gaps.TrueGaps.{is_seen}

-- What the message has, as comparands.
module _ (view : View) (old new : Shape) (a b : TypeId) where
  abbrev pub as_comparand : Part Item → Comparand
  as_comparand p = of p.item
    where
      of : Item → Comparand
      of (Plain leaf) = record { number = p.number; key = p.key; written = leaf; expected = Alike leaf }
      of (Msg m) = record { number = p.number; key = p.key; written = Bytes []; expected = Alike (Bytes []) }

  pub leaf_there : (n : ℕ) (key : Option Leaf) (leaf : Leaf) (u : Message) → HasItem n key (Plain leaf) u → IsAmong (record { number = n; key = key; written = leaf; expected = Alike leaf }) (comparands view old new a b u)
  leaf_there n key leaf (ends unknown) h = absurd h
  leaf_there n key leaf (holds number k l later) h = ⊎_elim (λ same. inl (ap as_comparand same)) (λ more. inr (leaf_there n key leaf later more)) h
  leaf_there n key leaf (nests number k child later) h =
      ⊎_elim (λ same. absurd (let no : Plain leaf ≡ Msg child = ap (λ (p : Part Item). p.item) same in cc)) (λ more. inr (leaf_there n key leaf later more)) h

  -- the comparand of an item
  pub record Stands (n : ℕ) (key : Option Leaf) (item : Item) (u : Message) : Type 0 where
    pub comparand : Comparand
    pub among : IsAmong comparand (comparands view old new a b u)
    pub number_is : comparand.number ≡ n
    pub key_is : comparand.key ≡ key
    pub zero_is : is_zero_expected comparand.expected ≡ is_zero_item item

  pub item_there : (n : ℕ) (key : Option Leaf) (item : Item) (u : Message) → HasItem n key item u → Stands n key item u
  item_there n key item (ends unknown) h = absurd h
  item_there n key item (holds number k l later) h =
      ⊎_elim
      (λ same. record {
        comparand = record { number = number; key = k; written = l; expected = Alike l };
        among = inl refl;
        number_is = sym (ap (λ (p : Part Item). p.number) same);
        key_is = sym (ap (λ (p : Part Item). p.key) same);
        zero_is = sym (ap (λ (p : Part Item). is_zero_item p.item) same);
      })
      (λ more. let it = item_there n key item later more in record { comparand = it.comparand; among = inr it.among; number_is = it.number_is; key_is = it.key_is; zero_is = it.zero_is }) h
  item_there n key item (nests number k child later) h =
      ⊎_elim
      (λ same. record {
        comparand = _;
        among = inl refl;
        number_is = sym (ap (λ (p : Part Item). p.number) same);
        key_is = sym (ap (λ (p : Part Item). p.key) same);
        zero_is = sym (ap (λ (p : Part Item). is_zero_item p.item) same);
      })
      (λ more. let it = item_there n key item later more in record { comparand = it.comparand; among = inr it.among; number_is = it.number_is; key_is = it.key_is; zero_is = it.zero_is }) h

  pub field_there : (n : ℕ) (u : Message) → HoldsField n u → (c : Comparand) × IsAmong c (comparands view old new a b u) × (c.number ≡ n)
  field_there n (ends unknown) h = absurd h
  field_there n (holds number k l later) h = ⊎_elim (λ same. (record { number = number; key = k; written = l; expected = Alike l }, inl refl, same)) (λ more. let (c, among, is) = field_there n later more in (c, inr among, is)) h
  field_there n (nests number k child later) h = ⊎_elim (λ same. (_, inl refl, same)) (λ more. let (c, among, is) = field_there n later more in (c, inr among, is)) h

  -- the parts of one field
  pub part_kept : (t : Bool) (c : Comparand) (front rest : Message) (cs : List Comparand) → comparands view old new a b front ≡ c ∷ comparands view old new a b rest → comparands view old new a b rest ≡ cs → comparands view old new a b (cond t front rest) ≡ cond t (c ∷ cs) cs
  part_kept true c front rest cs first same = first ∙ ap (λ ds. c ∷ ds) same
  part_kept false c front rest cs first same = same

  pub only_there : (n : ℕ) (u : Message) → comparands view old new a b (only n u) ≡ comparands_at n (comparands view old new a b u)
  only_there n (ends unknown) = refl
  only_there n (holds number key leaf later) = part_kept (nat_eq number n) _ (holds number key leaf (only n later)) (only n later) _ refl (only_there n later)
  only_there n (nests number key child later) = part_kept (nat_eq number n) _ (nests number key child (only n later)) (only n later) _ refl (only_there n later)

  -- leaves that are seen, by their comparands
  abbrev pub IsSeenLeaf : ℕ → Element → Element → Comparand → Type 0
  IsSeenLeaf n e d c = c.number ≡ n → (leaf : Leaf) → c.expected ≡ Alike leaf → is_seen view e d leaf ≡ true

  pub seen_leaves : (n : ℕ) (e d : Element) (u : Message) → ((key : Option Leaf) (leaf : Leaf) → HasItem n key (Plain leaf) u → is_seen view e d leaf ≡ true) → AllByRecursion (IsSeenLeaf n e d) (comparands view old new a b u)
  seen_leaves n e d (ends unknown) all = tt
  seen_leaves n e d (holds number k l later) all = (
    (λ at leaf is.
        let same : l ≡ leaf = cc in
        all k leaf (inl (λ i. record { number = sym at i; key = k; item = Plain (sym same i) }))),
    seen_leaves n e d later (λ key leaf has. all key leaf (inr has)),
  )
  seen_leaves n e d (nests number k child later) all = ((λ at leaf is. absurd (cc)), seen_leaves n e d later (λ key leaf has. all key leaf (inr has)))

-- the part that a comparand is of
pub record IsOf (c : Comparand) (u : Message) : Type 0 where
  pub item : Item
  pub held : HasItem c.number c.key item u
  pub zero_is : is_zero_expected c.expected ≡ is_zero_item item
  pub leaf_is : (leaf : Leaf) → c.expected ≡ Alike leaf → item ≡ Plain leaf

pub part_of : (view : View) (old new : Shape) (a b : TypeId) (u : Message) (c : Comparand) → IsAmong c (comparands view old new a b u) → IsOf c u
part_of view old new a b (ends unknown) c h = absurd h
part_of view old new a b (holds number key leaf later) c h =
    ⊎_elim
    (λ same. subst (λ d. IsOf d (holds number key leaf later)) (sym same) (record { item = Plain leaf; held = inl refl; zero_is = refl; leaf_is = λ l is. let equal : leaf ≡ l = cc in ap Plain equal }))
    (λ more. let p = part_of view old new a b later c more in record { item = p.item; held = inr p.held; zero_is = p.zero_is; leaf_is = p.leaf_is }) h
part_of view old new a b (nests number key child later) c h =
    ⊎_elim
    (λ same. subst (λ d. IsOf d (nests number key child later)) (sym same) (record { item = Msg child; held = inl refl; zero_is = refl; leaf_is = λ l is. absurd (cc) }))
    (λ more. let p = part_of view old new a b later c more in record { item = p.item; held = inr p.held; zero_is = p.zero_is; leaf_is = p.leaf_is }) h

pub only_has : (n m : ℕ) (key : Option Leaf) (item : Item) (u : Message) → HasItem m key item (only n u) → (m ≡ n) × HasItem m key item u
only_has n m key item (ends unknown) h = absurd h
only_has n m key item (holds number k l later) h = of (nat_eq number n) refl h (only_has n m key item later)
  where
    of : (t : Bool) → nat_eq number n ≡ t → HasItem m key item (cond t (holds number k l (only n later)) (only n later)) → (HasItem m key item (only n later) → (m ≡ n) × HasItem m key item later) → (m ≡ n) × HasItem m key item (holds number k l later)
    of true is here again = ⊎_elim (λ same. (ap (λ (p : Part Item). p.number) same ∙ eqb-true number n is, inl same)) (λ more. let found = again more in (found.0, inr found.1)) here
    of false is here again = let found = again here in (found.0, inr found.1)
only_has n m key item (nests number k child later) h = of (nat_eq number n) refl h (only_has n m key item later)
  where
    of : (t : Bool) → nat_eq number n ≡ t → HasItem m key item (cond t (nests number k child (only n later)) (only n later)) → (HasItem m key item (only n later) → (m ≡ n) × HasItem m key item later) → (m ≡ n) × HasItem m key item (nests number k child later)
    of true is here again = ⊎_elim (λ same. (ap (λ (p : Part Item). p.number) same ∙ eqb-true number n is, inl same)) (λ more. let found = again more in (found.0, inr found.1)) here
    of false is here again = let found = again here in (found.0, inr found.1)

-- The parts of one field are a message by themselves.

each_place : (P : Place → Type 0) (n : ℕ) (u : Message) → AllByRecursion P (places u) → AllByRecursion P (places (only n u))
each_place P n (ends unknown) h = tt
each_place P n (holds number key leaf later) h = search (rules, each_place P n later h.1)
each_place P n (nests number key child later) h = search (rules, each_place P n later h.1)

part_alone : (fs : List FieldShape) (number : ℕ) (key : Option Leaf) (n : ℕ) (later : Message) → IsPart fs number key (places later) → IsPart fs number key (places (only n later))
part_alone fs number key n later part = search (rules, each_place)

pub message_alone : (shape : Shape) (type : TypeId) (n : ℕ) (u : Message) → IsMessage shape type u → IsMessage shape type (only n u)
unfolding part_alone
message_alone shape type n (ends unknown) h = tt
message_alone shape type n (holds number key leaf later) h =
    elim (nat_eq number n) as (λ b. IsMessage shape type (cond b (holds number key leaf (only n later)) (only n later))) [
      | true ↦ (part_alone (fields shape type) number key n later h.0, h.1, message_alone shape type n later h.2)
      | false ↦ message_alone shape type n later h.2
    ]
message_alone shape type n (nests number key child later) h =
    elim (nat_eq number n) as (λ b. IsMessage shape type (cond b (nests number key child (only n later)) (only n later))) [
      | true ↦ (part_alone (fields shape type) number key n later h.0, h.1, h.2, h.3, message_alone shape type n later h.4)
      | false ↦ message_alone shape type n later h.4
    ]

pub plain_alone : (n : ℕ) (u : Message) → IsPlain u → IsPlain (only n u)
plain_alone n (ends unknown) h = tt
plain_alone n (holds number key leaf later) h = search (rules, plain_alone n later h)
plain_alone n (nests number key child later) h = search (rules, plain_alone n later h.1)
