-- What the tests of a message's contents say of it.
use Rattle.std.proofs.Common.{◌≡◌, ℕ, zero, suc, ◌<◌, ◌+◌, List, [], ◌∷◌, length, take, get_or, false, Option, Some, None, refl, ap, sym, subst, ◌∙◌, arith, add-one}
use Rattle.std.specs.List.{AllByRecursion}
use Rattle.std.specs.declared.cmp.Ordering.TheVariants.{Less, Equal}
use Rattle.std.proofs.lemmas.Cmp.{int_cmp_total, nat_list_cmp_total}
use Rattle.pg_schema.specs.Shape.{FieldShape, field_at}
use Rattle.pg_dyn.specs.declared.message.Content.{Content}
use Rattle.pg_dyn.specs.declared.message.Value.{Value}
use Rattle.pg_dyn.specs.declared.message.Value.TheVariants as values
use Rattle.pg_dyn.specs.message.KeyOrder.{Rise}
use Rattle.pg_dyn.specs.message.Message.{Leaf, Int, Bytes, key_cmp}
use Rattle.pg_dyn.specs.message.Seen.{IsKey, leaf_of}
use Rattle.pg_dyn.specs.fitting.ContentFits.{are_siblings_by, AreApart, KeysRise}

-- The order of keys.

pub key_trans : (k l m : Leaf) → key_cmp k l ≡ Less → key_cmp l m ≡ Less → key_cmp k m ≡ Less
key_trans e l m h k = grind (arith, int_cmp_total, nat_list_cmp_total)

pub other_default : (v w : Value) → IsKey v → ((x : _) → v ≡ values.Int x → ⊥) → ((x : _) → v ≡ values.Text x → ⊥) → ((x : _) → v ≡ values.Bytes x → ⊥) → Equal ≡ key_cmp (leaf_of v) (leaf_of w)
other_default v w key int text bytes = grind arith

-- keys rise where each is below the next
module _ {A : Type 0} (key : A → Leaf) where
  abbrev pub IsUnder : A → A → Type 0
  IsUnder a b = key_cmp (key a) (key b) ≡ Less

  pub rise_from : (es : List A) → ((k : ℕ) (d e : A) → suc k < length es → IsUnder (get_or es k d) (get_or es (suc k) e)) → Rise key es
  rise_from [] h = tt
  rise_from (e ∷ []) h = (tt, tt)
  rise_from (e ∷ f ∷ es) h =
      let rest = rise_from (f ∷ es) (λ k c d inside. h (suc k) c d (omega arith)) in
      let first : IsUnder e f = h 0 e f (omega arith) in
      ((first, below es rest.0 first), rest)
    where
      below : (xs : List A) → AllByRecursion (λ (x : A). IsUnder f x) xs → IsUnder e f → AllByRecursion (λ (x : A). IsUnder e x) xs
      below [] k first' = tt
      below (x ∷ xs) k first' = (key_trans (key e) (key f) (key x) first' k.0, below xs k.1 first')

  pub rise_at : (es : List A) (k : ℕ) (d e : A) → suc k < length es → Rise key es → IsUnder (get_or es k d) (get_or es (suc k) e)
  rise_at [] k d e inside h = absurd (omega arith)
  rise_at (x ∷ []) k d e inside h = absurd (omega arith)
  rise_at (x ∷ y ∷ es) zero d e inside h = h.0.0
  rise_at (x ∷ y ∷ es) (suc k) d e inside h = rise_at (y ∷ es) k d e (omega arith) h.1

abbrev pub IsBelow : Value × Value → Value × Value → Type 0
IsBelow a b = key_cmp (leaf_of a.0) (leaf_of b.0) ≡ Less

pub rises_from : (es : List (Value × Value)) → ((k : ℕ) (d e : Value × Value) → suc k < length es → IsBelow (get_or es k d) (get_or es (suc k) e)) → KeysRise es
rises_from es h = rise_from (λ (e : Value × Value). leaf_of e.0) es h

pub adjacent : (es : List (Value × Value)) (k : ℕ) (d e : Value × Value) → suc k < length es → KeysRise es → IsBelow (get_or es k d) (get_or es (suc k) e)
adjacent es k d e inside h = rise_at (λ (e : Value × Value). leaf_of e.0) es k d e inside h

-- Members of one oneof.

pub apart_from : (fs : List FieldShape) (a b : ℕ) → are_siblings_by (field_at fs a) (field_at fs b) ≡ false → AreApart fs a b
apart_from fs a b h f g found there = sym (ap (λ o. are_siblings_by o (field_at fs b)) found ∙ ap (are_siblings_by (Some f)) there) ∙ h

module _ (fs : List FieldShape) where
  abbrev pub ApartFrom : ℕ → List (ℕ × Content) → Type 0
  ApartFrom n ms = AllByRecursion (λ (l : ℕ × Content). AreApart fs n l.0) ms

-- a fact of a list, from its front and the next, and back at an index
pub each_more : {A : Type 0} (P : A → Type 0) (xs : List A) (i : ℕ) (x : A) → i < length xs → x ≡ get_or xs i x → AllByRecursion P (take i xs) → P x → AllByRecursion P (take (i + 1) xs)
each_more P xs i x inside is front next = subst (λ n. AllByRecursion P (take n xs)) (sym (add-one i)) (go xs i inside is front)
  where
    go : (ys : List _) (k : ℕ) → k < length ys → x ≡ get_or ys k x → AllByRecursion P (take k ys) → AllByRecursion P (take (suc k) ys)
    go [] k below same h = absurd (omega arith)
    go (y ∷ ys) zero below same h = (subst P same next, tt)
    go (y ∷ ys) (suc k) below same h = (h.0, go ys k (omega arith) same h.1)

pub some_not_none : (f : FieldShape) → ◌≡◌ {A = Option FieldShape} (Some f) None → ⊥
some_not_none f e = cc

pub same_default : {A : Type 0} (xs : List A) (i : ℕ) (d e : A) → i < length xs → get_or xs i d ≡ get_or xs i e
same_default [] i d e inside = absurd (omega arith)
same_default (x ∷ xs) zero d e inside = refl
same_default (x ∷ xs) (suc i) d e inside = same_default xs i d e (omega arith)

pub fact_at : {A : Type 0} (P : A → Type 0) (xs : List A) (i : ℕ) (d : A) → i < length xs → AllByRecursion P xs → P (get_or xs i d)
fact_at P [] i d inside h = absurd (omega arith)
fact_at P (x ∷ xs) zero d inside h = h.0
fact_at P (x ∷ xs) (suc i) d inside h = fact_at P xs i d (omega arith) h.1

pub key_at : (es : List (Value × Value)) (i : ℕ) (d : Value × Value) → i < length es → AllByRecursion (λ (e : Value × Value). IsKey e.0) es → IsKey (get_or es i d).0
key_at es i d inside h = fact_at (λ (e : Value × Value). IsKey e.0) es i d inside h
