-- Contents as their fields hold them.
use Rattle.std.proofs.Common.{Vec, Global, Bool, true, false, Some, None, ◌≡◌, ℕ, zero, suc, ◌<◌, List, [], ◌∷◌, ◌++◌, length, map, take, ◌+◌, ◌≤◌, get_or, slice_set, nat_eq, eq-eqb, true≢false, refl, ap, ap₂, sym, subst, ◌∙◌, arith, rules}
use Rattle.std.specs.List.{AllByRecursion}
use Rattle.std.specs.List.Sorted.{IsPermutation}
use Rattle.std.specs.declared.cmp.Ordering.TheVariants.{Less}
use Rattle.std.proofs.lemmas.List.{length-map, take_all, take_more_set}
use Rattle.std.proofs.Math.Seq.{take-append_seam}
use Rattle.pg_schema.specs.declared.parts.field.Scalar.{Scalar}
use Rattle.pg_schema.specs.declared.parts.field.Element.{Element}
use Rattle.pg_schema.specs.declared.parts.field.Presence.{Presence}
use Rattle.pg_schema.specs.declared.parts.field.Presence.TheVariants as presences
use Rattle.pg_schema.specs.Shape.{Shape}
use Rattle.pg_dyn.specs.declared.message.Content.{Content}
use Rattle.pg_dyn.specs.declared.message.Content.TheVariants as contents
use Rattle.pg_dyn.specs.declared.message.Value.{Value}
use Rattle.pg_dyn.specs.setting.ContentFaults.{HasEntryTwice}
use Rattle.pg_dyn.specs.fitting.ContentFits.{ContentFits, EntryKept, ItemFits, ItemKept, KeysRise, is_zero_value, EntryFits, ItemsFit}
use Rattle.pg_dyn.specs.message.KeptParts.{KeptItem, Plain, Msg}
use Rattle.pg_dyn.specs.message.KeyOrder.{AreAlike}
use Rattle.pg_dyn.specs.message.Message.{Leaf, Part, key_cmp}
use Rattle.pg_dyn.specs.message.Seen.{content_seen, item_seen, leaf_of}
use Rattle.pg_dyn.specs.setting.Setting.{by_rising_key, is_zero_kept, normalized_by}
use Rattle.pg_dyn.specs.inner.Reported.{entry_kept, entry_seen, is_nothing}
use Rattle.pg_dyn.specs.fitting.Texts.{kept_in, kept_item}
use Rattle.pg_dyn.proofs.lemmas.fitting.ItemLeaves.{kept_text}
use Rattle.pg_dyn.proofs.lemmas.setting.KeySorting.{entry_part, sorted_is}
use Rattle.pg_dyn.proofs.Lists.{each-append, map_map}

first_same : {A : Type 0} {x y : A} {xs ys : List A} → x ∷ xs ≡ y ∷ ys → x ≡ y
first_same e = cc

rest_same : {A : Type 0} {x y : A} {xs ys : List A} → x ∷ xs ≡ y ∷ ys → xs ≡ ys
rest_same e = cc

-- an element replaced by one that a test holds of, and by one that shows the same
module _ {A : Type 0} where
  pub each_replaced : (P : A → Type 0) (xs : List A) (i : ℕ) (x : A) → AllByRecursion P xs → P x → AllByRecursion P (slice_set xs i x)
  each_replaced P [] i x h new = tt
  each_replaced P (y ∷ xs) zero x h new = (new, h.1)
  each_replaced P (y ∷ xs) (suc i) x h new = (h.0, each_replaced P xs i x h.1 new)

  pub same_replaced : {B : Type 0} (f : A → B) (xs : List A) (i : ℕ) (d x : A) → i < length xs → f x ≡ f (get_or xs i d) → map f (slice_set xs i x) ≡ map f xs
  same_replaced f [] i d x inside e = absurd (omega arith)
  same_replaced f (y ∷ xs) zero d x inside e = ap (λ z. z ∷ map f xs) e
  same_replaced f (y ∷ xs) (suc i) d x inside e = ap (λ zs. f y ∷ zs) (same_replaced f xs i d x (omega arith) e)

  pub each_up_to : (P : A → Type 0) (xs : List A) (i : ℕ) (x : A) → i < length xs → AllByRecursion P (take i xs) → P x → AllByRecursion P (take (i + 1) (slice_set xs i x))
  each_up_to P xs i x inside h new = subst (AllByRecursion P) (sym (take_more_set xs i x inside)) (each-append P (take i xs) (x ∷ []) h (new, tt))

  -- all of a vector's elements, written back into it
  pub written_back : (xs more : List A) (n : ℕ) → length xs ≡ n → take n (xs ++ more) ≡ xs
  written_back xs more n e = subst (λ k. take k (xs ++ more) ≡ xs) e (take-append_seam xs more)

  pub found_at : (P : A → Type 0) (xs : List A) (i : ℕ) (x : A) → i < length xs → x ≡ get_or xs i x → AllByRecursion P xs → P x
  found_at P xs i x inside is h = subst P (sym is) (at_index xs i inside h)
    where
      at_index : (ys : List A) (k : ℕ) → k < length ys → AllByRecursion P ys → P (get_or ys k x)
      at_index [] k inside h = absurd (omega arith)
      at_index (y ∷ ys) zero inside h = h.0
      at_index (y ∷ ys) (suc k) inside h = at_index ys k (omega arith) h.1

-- Elements replaced one by one, each by what shows what is kept of it.

module _ {A B : Type 0} (view : A → B) (keep : B → B) (once : (b : B) → keep (keep b) ≡ keep b) where
  -- up to an index they are kept, and all show what is kept of the old ones
  pub record KeptUpTo (old items : List A) (i : ℕ) : Type 0 where
    pub shown : map (λ x. keep (view x)) items ≡ map (λ x. keep (view x)) old
    pub done : AllByRecursion (λ x. view x ≡ keep (view x)) (take i items)

  pub kept_next : (old items : List A) (i : ℕ) (d new : A) → i < length items → view new ≡ keep (view (get_or items i d)) → KeptUpTo old items i
      → KeptUpTo old (slice_set items i new) (i + 1)
  kept_next old items i d new inside is h = record {
    shown = same_replaced (λ x. keep (view x)) items i d new inside (ap keep is ∙ once (view (get_or items i d))) ∙ h.shown;
    done = each_up_to (λ x. view x ≡ keep (view x)) items i new inside h.done (is ∙ sym (once (view (get_or items i d))) ∙ ap keep (sym is));
  }

  pub all_kept : (old items : List A) (i : ℕ) → length items ≤ i → KeptUpTo old items i → map view items ≡ map (λ x. keep (view x)) old
  all_kept old items i none h = map_same items (subst (AllByRecursion (λ x. view x ≡ keep (view x))) (take_all i items none) h.done) ∙ h.shown
    where
      map_same : (xs : List A) → AllByRecursion (λ x. view x ≡ keep (view x)) xs → map view xs ≡ map (λ x. keep (view x)) xs
      map_same [] h = refl
      map_same (x ∷ xs) h = ap₂ (λ y ys. y ∷ ys) h.0 (map_same xs h.1)

-- What a normalized content shows.

pub kept_once : (e : Element) (i : KeptItem) → kept_item e (kept_item e i) ≡ kept_item e i
kept_once e (Plain manner leaf) = refl
kept_once e (Msg listed child) = refl

abbrev pub keep_entry : Element → Leaf × KeptItem → Leaf × KeptItem
keep_entry e x = (x.0, kept_item e x.1)

pub entry_once : (e : Element) (x : Leaf × KeptItem) → keep_entry e (keep_entry e x) ≡ keep_entry e x
entry_once e x = ap (λ i. (x.0, i)) (kept_once e x.1)

kept_zero : (e : Element) (i : KeptItem) → is_zero_kept (kept_item e i) ≡ is_zero_kept i
kept_zero e (Plain manner leaf) = refl
kept_zero e (Msg listed child) = refl

pub zero_seen : (l : Bool) (v : Value) → is_zero_kept (item_seen l v) ≡ is_zero_value v
zero_seen l v = grind arith

module _ (shape : Shape) where
  pub one_fits : (p : Presence) (e : Element) (v w : Value) → ItemsFit shape p e (contents.One v) → is_nothing p (contents.One v) ≡ false → ItemFits shape e w → item_seen false w ≡ kept_item e (item_seen false v)
      → ContentFits shape p e (contents.One w)
  one_fits p e v w items some fits seen = grind (arith, kept_text, zero_seen, kept_zero)

  each_kept : (e : Element) (ws vs : List Value) → AllByRecursion (ItemFits shape e) ws → map (item_seen true) ws ≡ map (λ v. kept_item e (item_seen true v)) vs → AllByRecursion (ItemKept shape e) ws
  each_kept e [] vs fit seen = tt
  each_kept e (w ∷ ws) [] fit seen = absurd (cc)
  each_kept e (w ∷ ws) (v ∷ vs) fit seen =
      search (rules, first_same, rest_same, kept_text, each_kept e ws vs fit.1)

  pub list_fits : (p : Presence) (e : Element) (vs ws : Vec Value Global) → ItemsFit shape p e (contents.Many vs) → AllByRecursion (ItemFits shape e) ws.items
      → map (item_seen true) ws.items ≡ map (λ v. kept_item e (item_seen true v)) vs.items → ContentFits shape p e (contents.Many ws)
  list_fits p e vs ws items fit seen = grind (arith, each_kept)

  pub entries_kept : (key : Scalar) (e : Element) (ks fs : List (Value × Value)) → AllByRecursion (EntryFits shape key e) ks → map entry_seen ks ≡ map (entry_kept e) fs → AllByRecursion (EntryKept shape key e) ks
  entries_kept key e [] fs fit seen = tt
  entries_kept key e (k ∷ ks) [] fit seen = absurd (cc)
  entries_kept key e (k ∷ ks) (f ∷ fs) fit seen =
      search (rules, first_same, rest_same, kept_text, entries_kept key e ks fs fit.1)

  pub one_seen : (p : Presence) (e : Element) (v w : Value) (n : ℕ) → is_nothing p (contents.One v) ≡ false → item_seen false w ≡ kept_item e (item_seen false v)
      → content_seen n (contents.One w) ≡ map (kept_in e) (normalized_by p (content_seen n (contents.One v)))
  one_seen p e v w n some seen = grind (arith, zero_seen)

  pub list_seen : (p : Presence) (e : Element) (vs : Vec Value Global) (ws : List Value) (n : ℕ) → ItemsFit shape p e (contents.Many vs) → map (item_seen true) ws ≡ map (λ v. kept_item e (item_seen true v)) vs.items
      → map (λ v. record { number = n; key = None; item = item_seen true v }) ws ≡ map (kept_in e) (normalized_by p (content_seen n (contents.Many vs)))
  list_seen presences.Implicit e vs ws n items seen = absurd items
  list_seen presences.Explicit e vs ws n items seen = absurd items
  list_seen (presences.Repeated packed) e vs ws n items seen =
      sym (map_map (λ (k : KeptItem). record { number = n; key = None; item = k }) (item_seen true) ws)
      ∙ ap (map (λ (k : KeptItem). record { number = n; key = None; item = k })) seen
      ∙ map_map (λ (k : KeptItem). record { number = n; key = None; item = k }) (λ v. kept_item e (item_seen true v)) vs.items
      ∙ sym (map_map (kept_in e) (λ v. record { number = n; key = None; item = item_seen true v }) vs.items)
  list_seen (presences.Map key) e vs ws n items seen = absurd items

  pub map_items : (p : Presence) (e : Element) (key : Scalar) (c : Content) (es : Vec (Value × Value) Global) → p ≡ presences.Map key → c ≡ contents.Map es → ItemsFit shape p e c → AllByRecursion (EntryFits shape key e) es.items
  map_items p e key c es is_p is_c h = subst (λ x. ItemsFit shape (presences.Map key) e x) is_c (subst (λ x. ItemsFit shape x e c) is_p h)

abbrev part_of : ℕ → Leaf × KeptItem → Part KeptItem
part_of n x = record { number = n; key = Some x.0; item = x.1 }

-- entries that show what is kept of them
pub map_seen : (e : Element) (es fs ks : List (Value × Value)) → AreAlike es → (HasEntryTwice es → ⊥) → IsPermutation es fs → KeysRise fs → map entry_seen ks ≡ map (entry_kept e) fs → (n : ℕ) → map (entry_part n) ks ≡ map (kept_in e) (by_rising_key (map (entry_part n) es))
map_seen e es fs ks alike once moved rise seen n =
    sym (map_map (part_of n) entry_seen ks) ∙ ap (map (part_of n)) seen ∙ map_map (part_of n) (entry_kept e) fs ∙ sym (map_map (kept_in e) (entry_part n) fs)
    ∙ ap (map (kept_in e)) (sorted_is es fs alike once moved rise n)

all_rise : (e : Element) (k : Leaf) (ks fs : List (Value × Value)) → map entry_seen ks ≡ map (entry_kept e) fs → AllByRecursion (λ (x : Value × Value). key_cmp k (leaf_of x.0) ≡ Less) fs → AllByRecursion (λ (x : Value × Value). key_cmp k (leaf_of x.0) ≡ Less) ks
all_rise e k [] fs seen h = tt
all_rise e k (x ∷ ks) [] seen h = absurd (cc)
all_rise e k (x ∷ ks) (f ∷ fs) seen h = search (rules, first_same, rest_same, all_rise e k ks fs)

pub keys_rise : (e : Element) (ks fs : List (Value × Value)) → map entry_seen ks ≡ map (entry_kept e) fs → KeysRise fs → KeysRise ks
keys_rise e [] fs seen h = tt
keys_rise e (x ∷ ks) [] seen h = absurd (cc)
keys_rise e (x ∷ ks) (f ∷ fs) seen h =
    let head : entry_seen x ≡ entry_kept e f = first_same seen in
    let tail : map entry_seen ks ≡ map (entry_kept e) fs = rest_same seen in
    (subst (λ l. AllByRecursion (λ (y : Value × Value). key_cmp l (leaf_of y.0) ≡ Less) ks) (sym (ap (λ (y : Leaf × KeptItem). y.0) head)) (all_rise e (leaf_of f.0) ks fs tail h.0), keys_rise e ks fs tail h.1)

pub as_long : (e : Element) (ks fs : List (Value × Value)) → map entry_seen ks ≡ map (entry_kept e) fs → length ks ≡ length fs
as_long e ks fs seen = sym (length-map ks entry_seen) ∙ ap length seen ∙ length-map fs (entry_kept e)

pub none_left : (es ks : List (Value × Value)) → length ks ≡ length es → nat_eq (length es) 0 ≡ false → ks ≡ [] → ⊥
none_left es ks same some none = absurd (let zero_long : length es ≡ 0 = sym same ∙ ap length none in true≢false (sym (eq-eqb (length es) 0 zero_long) ∙ some))
