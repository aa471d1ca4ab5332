-- Entries that are put in one by one: their keys rise, and of each key the last is there.
use Rattle.std.proofs.Common.{◌≡◌, List, [], ◌∷◌, filter, Bool, true, false, cond, inl, inr, refl, ap, sym, ◌∙◌, rules, arith}
use Rattle.std.specs.List.{AllByRecursion}
use Rattle.std.specs.declared.cmp.Ordering.TheVariants.{Less, Equal, Greater}
use Rattle.pg_dyn.specs.message.KeyOrder.{AreSame, IsOfKind, Rise}
use Rattle.pg_dyn.specs.message.Message.{Leaf, key_cmp, leaf_eq}
use Rattle.pg_dyn.specs.reading.Optional.{last_of}
use Rattle.pg_dyn.specs.reading.Normalized as normalized
use Rattle.pg_dyn.proofs.lemmas.reading.entries.EntryPlaces.{less_from_above}
use Rattle.pg_dyn.proofs.lemmas.fitting.FitsSteps.{key_trans}
use Rattle.pg_dyn.proofs.lemmas.message.KeyLaws.{equal_leaves, key_less_self, rank_is}
use Rattle.pg_dyn.proofs.lemmas.word.Leaves.{leaf_eq_self, same_leaf}
use Rattle.pg_dyn.proofs.Lists.{each_weaker}
use Rattle.pg_dyn.proofs.lemmas.reading.Standing.{StandsIn, one_in}

pub same_kind : (b : Bool) (k l : Leaf) → IsOfKind b k → IsOfKind b l → AreSame k l
same_kind b k l h i = grind arith

equal_keys : (b : Bool) (k l : Leaf) → IsOfKind b k → IsOfKind b l → key_cmp k l ≡ Equal → k ≡ l
equal_keys b k l h i e = let same = same_kind b k l h i in equal_leaves k l same (rank_is k l same ∙ e)

module _ {A : Type 0} (key : A → Leaf) where
  abbrev pub place : A → List A → List A
  place e xs = normalized.place key e xs

  abbrev pub placed : List A → List A → List A
  placed before es = normalized.placed key before es

  abbrev pub has_key : Leaf → A → Bool
  has_key k e = leaf_eq (key e) k

  abbrev pub IsUnder : A → A → Type 0
  IsUnder a b = key_cmp (key a) (key b) ≡ Less

  abbrev pub OfKind : Bool → List A → Type 0
  OfKind b xs = AllByRecursion (λ x. IsOfKind b (key x)) xs

  pub each_placed : (P : A → Type 0) (e : A) (xs : List A) → P e → AllByRecursion P xs → AllByRecursion P (place e xs)
  each_placed P e [] one h = (one, tt)
  each_placed P e (x ∷ xs) one h = search (rules, each_placed P e xs one h.1)

  -- Keys rise.

  under_same : (b : Bool) (e x : A) (xs : List A) → IsOfKind b (key e) → IsOfKind b (key x) → key_cmp (key e) (key x) ≡ Equal → AllByRecursion (IsUnder x) xs → AllByRecursion (IsUnder e) xs
  under_same b e x xs one two is h = each_weaker (IsUnder x) (IsUnder e) (λ y k. ap (λ l. key_cmp l (key y)) (equal_keys b (key e) (key x) one two is) ∙ k) xs h

  under_both : (e x : A) (xs : List A) → IsUnder e x → AllByRecursion (IsUnder x) xs → AllByRecursion (IsUnder e) xs
  under_both e x xs is h = each_weaker (IsUnder x) (IsUnder e) (λ y k. key_trans (key e) (key x) (key y) is k) xs h

  pub rise_placed : (b : Bool) (e : A) (xs : List A) → IsOfKind b (key e) → OfKind b xs → Rise key xs → Rise key (place e xs)
  rise_placed b e [] one kind rise = (tt, tt)
  rise_placed b e (x ∷ xs) one kind rise =
      search (
        rules,
        rise_placed b e xs one kind.1 rise.1,
        under_both e x xs,
        under_same b e x xs one kind.0,
        each_placed (IsUnder x) e xs,
        less_from_above (key e) (key x),
      )

  pub kind_all : (b : Bool) (before es : List A) → OfKind b before → OfKind b es → OfKind b (placed before es)
  kind_all b before [] h i = h
  kind_all b before (e ∷ es) h i = kind_all b (place e before) es (each_placed (λ x. IsOfKind b (key x)) e before i.0 h) i.1

  pub rise_all : (b : Bool) (before es : List A) → OfKind b before → OfKind b es → Rise key before → Rise key (placed before es)
  rise_all b before [] h i rise = rise
  rise_all b before (e ∷ es) h i rise = rise_all b (place e before) es (each_placed (λ x. IsOfKind b (key x)) e before i.0 h) i.1 (rise_placed b e before i.0 h rise)

  -- Of each key the last is there.

  pub none_of_key : (k : Leaf) (xs : List A) → AllByRecursion (λ x. key_cmp k (key x) ≡ Less) xs → filter (has_key k) xs ≡ []
  none_of_key k [] h = refl
  none_of_key k (x ∷ xs) h = search (rules, none_of_key k xs h.1, key_less_self, same_leaf)

  hit : (k : Leaf) (e x : A) → has_key k e ≡ true → key_cmp (key e) (key x) ≡ Greater → has_key k x ≡ false
  hit k e x here above = search (rules, less_from_above, key_less_self, same_leaf)

  pub placed_one : (b : Bool) (k : Leaf) (e : A) (xs : List A) → IsOfKind b (key e) → OfKind b xs → Rise key xs → filter (has_key k) (place e xs) ≡ cond (has_key k e) (e ∷ []) (filter (has_key k) xs)
  placed_one b k e [] one kind rise = refl
  placed_one b k e (x ∷ xs) one kind rise =
      search (
        rules,
        placed_one b k e xs one kind.1 rise.1,
        none_of_key k xs,
        each_weaker (IsUnder e),
        same_leaf (key e) k,
        none_of_key k (x ∷ xs),
        under_both e x xs,
        under_same b e x xs one kind.0,
        hit k e x,
        equal_keys b (key e) (key x) one kind.0,
      )

  -- these, or else those
  abbrev pub or_before : List A → List A → List A
  or_before before [] = before
  or_before before (x ∷ xs) = last_of (x ∷ xs)

  pub placed_all : (b : Bool) (k : Leaf) (before es : List A) → OfKind b before → OfKind b es → Rise key before → filter (has_key k) (placed before es) ≡ or_before (filter (has_key k) before) (filter (has_key k) es)
  placed_all b k before [] h i rise = refl
  placed_all b k before (e ∷ es) h i rise =
      search (
        rules,
        placed_all b k (place e before) es (each_placed (λ x. IsOfKind b (key x)) e before i.0 h) i.1 (rise_placed b e before i.0 h rise),
        each_placed,
        rise_placed,
        placed_one,
      )

  pub last_placed : (b : Bool) (k : Leaf) (es : List A) → OfKind b es → filter (has_key k) (placed [] es) ≡ last_of (filter (has_key k) es)
  last_placed b k es kind = search (rules, placed_all b k)

  -- Rising entries are known by the entries of each key.

  stands_filtered : (test : A → Bool) (z : A) (xs : List A) → test z ≡ true → StandsIn z xs → StandsIn z (filter test xs)
  stands_filtered test z [] hit h = h
  stands_filtered test z (x ∷ xs) hit (inl same) = search (rules, hit)
  stands_filtered test z (x ∷ xs) hit (inr h) = search (rules, stands_filtered test z xs hit h, hit)

  filtered_stands : (test : A → Bool) (z : A) (xs : List A) → StandsIn z (filter test xs) → StandsIn z xs
  filtered_stands test z [] h = h
  filtered_stands test z (x ∷ xs) h = search (rules, filtered_stands test z xs)

  not_in_under : (x : A) (ys : List A) → AllByRecursion (IsUnder x) ys → StandsIn x ys → ⊥
  not_in_under x ys below h = key_less_self (key x) (one_in (IsUnder x) x ys below h)

  pub same_rising : (xs ys : List A) → Rise key xs → Rise key ys → ((z : A) → StandsIn z xs → StandsIn z ys) → ((z : A) → StandsIn z ys → StandsIn z xs) → xs ≡ ys
  same_rising [] [] rise up to back = refl
  same_rising [] (y ∷ ys) rise up to back = absurd (back y (inl refl))
  same_rising (x ∷ xs) [] rise up to back = absurd (to x (inl refl))
  same_rising (x ∷ xs) (y ∷ ys) rise up to back =
      search (
        rules,
        one_in (IsUnder y) x ys up.0,
        one_in (IsUnder x) y xs rise.0,
        key_less_self (key x),
        key_trans (key x) (key y) (key x),
        not_in_under x xs rise.0,
        not_in_under y ys up.0,
        same_rising xs ys rise.1 up.1,
      )

  pub same_by_keys : (b : Bool) (xs ys : List A) → OfKind b xs → OfKind b ys → Rise key xs → Rise key ys → ((z : A) → IsOfKind b (key z) → filter (has_key (key z)) xs ≡ filter (has_key (key z)) ys) → xs ≡ ys
  same_by_keys b xs ys kx ky rise up same =
      search (rules, same_rising, filtered_stands, one_in, stands_filtered, leaf_eq_self)

  -- entries of which those of each key are the same normalize alike
  pub placed_alike : (b : Bool) (es fs : List A) → OfKind b es → OfKind b fs → ((z : A) → IsOfKind b (key z) → filter (has_key (key z)) es ≡ filter (has_key (key z)) fs) → placed [] es ≡ placed [] fs
  placed_alike b es fs ke kf same =
      same_by_keys b (placed [] es) (placed [] fs) (kind_all b [] es tt ke) (kind_all b [] fs tt kf) (rise_all b [] es tt ke tt) (rise_all b [] fs tt kf tt)
      (λ z k. last_placed b (key z) es ke ∙ ap last_of (same z k) ∙ sym (last_placed b (key z) fs kf))
