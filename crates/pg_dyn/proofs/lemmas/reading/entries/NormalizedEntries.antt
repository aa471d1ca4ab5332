-- Entries of a map that are put in one by one, as the reader keeps them.
use Rattle.std.proofs.Common.{◌≡◌, ◌≢◌, ◌<◌, List, [], ◌∷◌, ◌++◌, length, filter, Bool, true, false, cond, refl, ap, ap₂, sym, subst, ◌∙◌, arith, rules}
use Rattle.std.specs.List.{AllByRecursion}
use Rattle.std.specs.List.Sorted.{IsPermutation, IsStableBy, ties}
use Rattle.std.specs.declared.cmp.Ordering.{Ordering}
use Rattle.std.specs.declared.cmp.Ordering.TheVariants.{Less, Equal}
use Rattle.pg_dyn.specs.declared.message_ref.EntryRef.{EntryRef}
use Rattle.pg_dyn.specs.message_ref.BorrowedItems.{AreAlike, IsAlike, KeysRise, key_of, ranks_below}
use Rattle.pg_dyn.specs.message.KeyOrder.{IsOfKind, Rise, rank_cmp}
use Rattle.pg_dyn.specs.message.Message.{Leaf, key_cmp, leaf_eq}
use Rattle.pg_dyn.specs.reading.Optional.{last_of}
use Rattle.pg_dyn.specs.reading.Normalized.{place, placed}
use Rattle.pg_dyn.proofs.lemmas.message.KeyLaws.{each_moved, equal_leaves, rank_total}
use Rattle.pg_dyn.proofs.lemmas.word.Leaves.{leaf_eq_self, same_leaf}
use Rattle.pg_dyn.proofs.lemmas.reading.entries.LastOfKeys.{OfKind, each_placed, has_key, kind_all, last_placed, none_of_key, placed_alike, rise_all, rise_placed, same_by_keys, same_kind}
use Rattle.pg_dyn.proofs.Lists.{each-append, each_after, each_before}

-- the entries by rising key, of each key the last
abbrev normalized : List EntryRef → List EntryRef
normalized es = placed key_of [] es

pub normalized_rise : (es : List EntryRef) → AreAlike es → KeysRise (normalized es)
normalized_rise es alike = rise_all key_of alike.0 [] es tt alike.1 tt

each_put : (P : EntryRef → Type 0) (before es : List EntryRef) → AllByRecursion P before → AllByRecursion P es → AllByRecursion P (placed key_of before es)
each_put P before [] h k = h
each_put P before (e ∷ es) h k = each_put P (place key_of e before) es (each_placed key_of P e before k.0 h) k.1

pub each_normalized : (P : EntryRef → Type 0) (es : List EntryRef) → AllByRecursion P es → AllByRecursion P (normalized es)
each_normalized P es h = each_put P [] es tt h

-- and some where there are some
with_some : (e : EntryRef) (es : List EntryRef) → 0 < length (place key_of e es)
with_some e [] = omega arith
with_some e (x ∷ es) = search (rules, arith)

some_before : (before es : List EntryRef) → 0 < length before → 0 < length (placed key_of before es)
some_before before [] h = h
some_before before (e ∷ es) h = some_before (place key_of e before) es (with_some e before)

pub normalized_some : (es : List EntryRef) → es ≢ [] → normalized es ≢ []
normalized_some [] h none = h refl
normalized_some (e ∷ es) h none = absurd (let some = some_before (e ∷ []) es (omega arith) in omega (arith, some, ap length none))

-- Rising entries stay as they are.

at_most : (k : Leaf) (es : List EntryRef) → Rise key_of es → last_of (filter (has_key key_of k) es) ≡ filter (has_key key_of k) es
at_most k [] h = refl
at_most k (e ∷ es) h = of (leaf_eq (key_of e) k) refl (at_most k es h.1)
  where
    of : (b : Bool) → leaf_eq (key_of e) k ≡ b → last_of (filter (has_key key_of k) es) ≡ filter (has_key key_of k) es
        → last_of (filter (has_key key_of k) (e ∷ es)) ≡ filter (has_key key_of k) (e ∷ es)
    of true is rest =
        let none = none_of_key key_of k es (subst (λ l. AllByRecursion (λ (x : EntryRef). key_cmp l (key_of x) ≡ Less) es) (same_leaf (key_of e) k is) h.0) in
        rw (is, none) refl
    of false is rest = rw is rest

pub rising_stay : (es : List EntryRef) → AreAlike es → KeysRise es → normalized es ≡ es
rising_stay es alike rise =
    let b = alike.0 in
    let kind = alike.1 in
    same_by_keys key_of b (normalized es) es (kind_all key_of b [] es tt kind) kind (rise_all key_of b [] es tt kind tt) rise
    (λ z k. last_placed key_of b (key_of z) es kind ∙ at_most (key_of z) es rise)

-- Sorted entries normalize alike, where those of one key keep their order.

module _ (b : Bool) (z : EntryRef) (of_kind : IsOfKind b (key_of z)) where
  self_equal : rank_cmp (key_of z) (key_of z) ≡ Equal
  self_equal = search (rules, rank_total)

  not_same : (y : EntryRef) (o : Ordering) → rank_cmp (key_of z) (key_of y) ≡ o → (o ≡ Equal → ⊥) → leaf_eq (key_of y) (key_of z) ≡ false
  not_same y o is apart = search (rules, same_leaf, self_equal)

  tied : (y : EntryRef) → IsOfKind b (key_of y) → ties ranks_below z y ≡ leaf_eq (key_of y) (key_of z)
  tied y k =
      search (
        rules,
        rank_total,
        not_same y,
        equal_leaves (key_of z) (key_of y) (same_kind b (key_of z) (key_of y) of_kind k),
        same_kind b (key_of z) (key_of y) of_kind k,
        leaf_eq_self (key_of y),
      )

  filter_tied : (es : List EntryRef) → OfKind key_of b es → filter (ties ranks_below z) es ≡ filter (has_key key_of (key_of z)) es
  filter_tied [] h = refl
  filter_tied (y ∷ es) h = ap₂ (λ t ys. cond t (y ∷ ys) ys) (tied y h.0) (filter_tied es h.1)

pub alike_moved : (es fs : List EntryRef) → IsPermutation es fs → AreAlike es → AreAlike fs
alike_moved es fs moved alike = (alike.0, each_moved (λ (e : EntryRef). IsOfKind alike.0 (key_of e)) es fs moved alike.1)

pub normalized_stable : (es fs : List EntryRef) → AreAlike es → IsPermutation es fs → IsStableBy ranks_below es fs → normalized fs ≡ normalized es
normalized_stable es fs alike moved stable =
    let b = alike.0 in
    let kind = alike.1 in
    let kind_moved : OfKind key_of b fs = each_moved (λ (e : EntryRef). IsOfKind b (key_of e)) es fs moved kind in
    placed_alike key_of b fs es kind_moved kind (λ z k. sym (filter_tied b z k fs kind_moved) ∙ stable z ∙ filter_tied b z k es kind)

-- Entries put in one by one, and those that are left.

pub record NormalizesTo (all before rest : List EntryRef) : Type 0 where
  pub alike : AreAlike (before ++ rest)
  pub rises : KeysRise before
  pub all_is : placed key_of before rest ≡ normalized all

pub nothing_put : (all rest : List EntryRef) → rest ≡ all → AreAlike all → NormalizesTo all [] rest
nothing_put all rest is h = record { alike = subst AreAlike (sym is) h; rises = tt; all_is = ap normalized is }

pub one_put : (all before rest later : List EntryRef) (e : EntryRef) → rest ≡ e ∷ later → NormalizesTo all before rest → NormalizesTo all (place key_of e before) later
one_put all before rest later e is h =
    let alike = subst (λ xs. AreAlike (before ++ xs)) is h.alike in
    let kind = alike.1 in
    record {
      alike = (alike.0, moved (λ (x : EntryRef). IsOfKind alike.0 (key_of x)) kind);
      rises = rise_placed key_of alike.0 e before (each_after (λ (x : EntryRef). IsOfKind alike.0 (key_of x)) before (e ∷ later) kind).0
          (each_before (λ (x : EntryRef). IsOfKind alike.0 (key_of x)) before (e ∷ later) kind) h.rises;
      all_is = ap (placed key_of before) (sym is) ∙ h.all_is;
    }
  where
    moved : (P : EntryRef → Type 0) → AllByRecursion P (before ++ e ∷ later) → AllByRecursion P (place key_of e before ++ later)
    moved P g =
        let here = each_after P before (e ∷ later) g in
        each-append P (place key_of e before) later (each_placed key_of P e before here.0 (each_before P before (e ∷ later) g)) here.1

pub all_put : (all before rest : List EntryRef) → rest ≡ [] → NormalizesTo all before rest → before ≡ normalized all
all_put all before rest is h = ap (placed key_of before) (sym is) ∙ h.all_is

-- the next is alike to those before it
pub next_alike : (all before rest later : List EntryRef) (e : EntryRef) → rest ≡ e ∷ later → NormalizesTo all before rest → IsAlike (key_of e) before
next_alike all before rest later e is h = search (rules, each_after, each_before)
