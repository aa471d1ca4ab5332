-- One more record at the end, field by field.
use Rattle.std.proofs.Common.{◌≡◌, List, [], ◌∷◌, ◌++◌, map, filter, Bool, true, false, ◌||◌, cond, Option, Some, None, refl, ap, sym, ◌∙◌, append_assoc, rules, arith}
use Rattle.std.specs.List.{list_any}
use Rattle.std.proofs.Math.Bool.{or-false}
use Rattle.std.proofs.lemmas.List.{append-nil, map-append}
use Rattle.std.proofs.lemmas.List.Folds.{list_any-append}
use Rattle.pg_schema.specs.declared.parts.field.Element.{Element}
use Rattle.pg_schema.specs.declared.parts.field.Presence.{Presence}
use Rattle.pg_schema.specs.Shape.{FieldShape, is_repeated}
use Rattle.pg_wire.specs.Records.{WireRecord}
use Rattle.pg_dyn.specs.reading.Optional.{all_some, after_last_of, last_of, joined}
use Rattle.pg_dyn.specs.message.Message.{Leaf}
use Rattle.pg_dyn.specs.reading.Content.{takes, counted, leaves_in, last_item, plain_content}
use Rattle.pg_dyn.specs.reading.ReadingOn.{clears, replaced, IsNoMessage}
use Rattle.pg_dyn.proofs.Lists.{filter-append', option_map_some}

-- what is after the last element of a kind, with one more element
one_more : {A : Type 0} (a b c : Bool) (xs front more : List A) (y x : A) → more ≡ cond c [] (front ++ x ∷ [])
    → cond (a || (b || c)) more (y ∷ (xs ++ x ∷ [])) ≡ cond c [] (cond (a || b) front (y ∷ xs) ++ x ∷ [])
one_more a b c xs front more y x h = grind arith

module _ {A : Type 0} (test : A → Bool) where
  after_last_of-append : (xs : List A) (x : A) → after_last_of test (xs ++ x ∷ []) ≡ cond (test x) [] (after_last_of test xs ++ x ∷ [])
  after_last_of-append [] x = elim (test x) as (λ b. cond (b || false) [] (x ∷ []) ≡ cond b [] (x ∷ [])) [ true ↦ refl | false ↦ refl ]
  after_last_of-append (y ∷ xs) x =
      search (rules, list_any-append, or-false, one_more, after_last_of-append xs x)

pub counted-append : (fs : List FieldShape) (f : FieldShape) (rs : List WireRecord) (r : WireRecord)
    → counted fs f (rs ++ r ∷ []) ≡ cond (clears fs f r) [] (counted fs f rs ++ cond (takes f r) (r ∷ []) [])
counted-append fs f rs r = search (rules, after_last_of-append, filter-append')

-- the values of options, with one more
all_some_first : {A : Type 0} (y : A) (os : List (Option A)) (xs : List A) → all_some (Some y ∷ os) ≡ Some xs → (ys : List A) × (all_some os ≡ Some ys) × (y ∷ ys ≡ xs)
all_some_first {A} y os xs h = search rules

pub all_some-append : {A : Type 0} (os : List (Option A)) (o : Option A) (xs : List A) (x : A) → all_some os ≡ Some xs → o ≡ Some x → all_some (os ++ o ∷ []) ≡ Some (xs ++ x ∷ [])
all_some-append [] o xs x h k = let e : [] ≡ xs = cc in rw (k, ← e)
all_some-append (None ∷ os) o xs x h k = absurd (cc)
all_some-append (Some y ∷ os) o xs x h k = search (rules, all_some_first, all_some-append os o)

pub last_of-append : {A : Type 0} (xs : List A) (x : A) → last_of (xs ++ x ∷ []) ≡ x ∷ []
last_of-append [] x = refl
last_of-append (y ∷ []) x = refl
last_of-append (y ∷ z ∷ xs) x = last_of-append (z ∷ xs) x

pub joined-append : {A : Type 0} (xss : List (List A)) (xs : List A) → joined (xss ++ xs ∷ []) ≡ joined xss ++ xs
joined-append [] xs = append-nil xs
joined-append (ys ∷ xss) xs = ap (λ zs. ys ++ zs) (joined-append xss xs) ∙ sym (append_assoc ys (joined xss) xs)

-- The contents of fields that are no maps.

abbrev finish : FieldShape → List (List Leaf) → List Leaf
finish f rows = cond (is_repeated f.presence) (joined rows) (last_item f.presence f.element (joined rows))

-- the rows of items so far, and with one more record
rows_on : (f : FieldShape) (rs : List WireRecord) (r : WireRecord) (old new : List Leaf) → plain_content f rs ≡ Some old → leaves_in f r ≡ Some new
    → (rows : List (List Leaf)) × (finish f rows ≡ old) × (plain_content f (rs ++ r ∷ []) ≡ Some (finish f (rows ++ new ∷ [])))
rows_on f rs r old new h k = search (rules, option_map_some, map-append, all_some-append)

last_item-append : (p : Presence) (e : Element) (leaves : List Leaf) (leaf : Leaf) → IsNoMessage e → last_item p e (leaves ++ leaf ∷ []) ≡ replaced p leaf
last_item-append p e leaves leaf h = grind (arith, last_of-append)

pub singular_on : (f : FieldShape) (rs : List WireRecord) (r : WireRecord) (old : List Leaf) (leaf : Leaf)
    → is_repeated f.presence ≡ false → IsNoMessage f.element → plain_content f rs ≡ Some old → leaves_in f r ≡ Some (leaf ∷ [])
    → plain_content f (rs ++ r ∷ []) ≡ Some (replaced f.presence leaf)
singular_on f rs r old leaf singular scalar h k =
    search (rules, rows_on, joined-append, last_item-append)
