-- The fields of a message type in order of declaration: each once, under its number.
use Rattle.std.proofs.Common.{◌≡◌, ℕ, suc, ◌+◌, ◌≤◌, true, false, cond, nat_eq, nat_lt, inl, inr, List, [], ◌∷◌, ◌++◌, map, find, flat_map, length, length-append, Option, Some, None, refl, ap, ap₂, sym, ◌∙◌, arith, rules}
use Rattle.std.proofs.lemmas.Bool.{false≢true}
use Rattle.std.proofs.lemmas.Bool.Decides.{nat_tests}
use Rattle.std.proofs.lemmas.Option.{none-some, same_Some}
use Rattle.std.specs.List.{AllByRecursion, list_all, list_any}
use Rattle.pg_schema.specs.declared.parts.field.Field.{Field}
use Rattle.pg_schema.specs.declared.parts.message_type.MessageType.{MessageType}
use Rattle.pg_schema.specs.rules.Messages.{is_declared, numbers}
use Rattle.pg_schema.specs.rules.Pairs.{is_rising}
use Rattle.pg_schema.proofs.lemmas.rules.PairLemmas.{and_left, and_right}
use Rattle.pg_set.specs.writing.Messages.{declared_fields, where_found}
use Rattle.pg_set.proofs.lemmas.lists.Tests.{itself, same_number, same_turned}
use Rattle.pg_set.proofs.lemmas.lists.Matched.{Has, rest, rest_length, still}
use Rattle.pg_set.proofs.lemmas.writing.FieldLaws.{both_hold}

-- ---- each is found by its number

abbrev found : List Field → ℕ → List Field
found fs number = where_found (λ f. f) (find (λ (f : Field). nat_eq f.number number) fs)

other_there : (a b : ℕ) → nat_lt a b ≡ true → nat_eq a b ≡ false
other_there a b h = grind (arith, nat_tests)

not_same : (a b : ℕ) → nat_lt a b ≡ true → a ≡ b → ⊥
not_same a b h e = grind (arith, nat_tests)

abbrev FindsItself : List Field → Field → Type 0
FindsItself fs f = find (λ (g : Field). nat_eq g.number f.number) fs ≡ Some f

behind_one : (h : Field) (all fs : List Field) → list_all (nat_lt h.number) (numbers fs) ≡ true → AllByRecursion (FindsItself all) fs → AllByRecursion (FindsItself (h ∷ all)) fs
behind_one h all [] rising each = tt
behind_one h all (f ∷ fs) rising each = (
  ap (λ b. cond b (Some h) (find (λ (g : Field). nat_eq g.number f.number) all)) (other_there h.number f.number (and_left (nat_lt h.number f.number) (list_all (nat_lt h.number) (numbers fs)) rising)) ∙ each.0,
  behind_one h all fs (and_right (nat_lt h.number f.number) (list_all (nat_lt h.number) (numbers fs)) rising) each.1,
)

find_themselves : (fs : List Field) → is_rising (numbers fs) ≡ true → AllByRecursion (FindsItself fs) fs
find_themselves [] rising = tt
find_themselves (f ∷ fs) rising = (
  ap (λ b. cond b (Some f) (find (λ (g : Field). nat_eq g.number f.number) fs)) (itself f.number),
  behind_one f fs fs (and_left (list_all (nat_lt f.number) (numbers fs)) (is_rising (numbers fs)) rising) (find_themselves fs (and_right (list_all (nat_lt f.number) (numbers fs)) (is_rising (numbers fs)) rising)),
)

-- ---- as much in any order of declaration

abbrev total : (ℕ → ℕ) → List ℕ → ℕ
total count [] = 0
total count (n ∷ ns) = count n + total count ns

total_rest : (count : ℕ → ℕ) (P : ℕ → Type 0) (k : ℕ) → ((n : ℕ) → P n → count n ≡ k) → (ns : List ℕ) (has : Has P ns) → total count ns ≡ k + total count (rest P ns has)
total_rest count P k is [] has = absurd has
total_rest count P k is (n ∷ ns) (inl here) = ap (λ c. c + total count ns) (is n here)
total_rest count P k is (n ∷ ns) (inr later) = let deeper = total_rest count P k is ns later in omega (arith, deeper)

others : (g : Field) (ns : List ℕ) (has : Has (λ n. n ≡ g.number) ns) (gs : List Field) → list_all (nat_lt g.number) (numbers gs) ≡ true
    → AllByRecursion (λ (f : Field). Has (λ n. n ≡ f.number) ns) gs → AllByRecursion (λ (f : Field). Has (λ n. n ≡ f.number) (rest (λ n. n ≡ g.number) ns has)) gs
others g ns has [] rising all = tt
others g ns has (f ∷ gs) rising all = (
  still (λ n. n ≡ g.number) (λ n. n ≡ f.number) (λ n a b. not_same g.number f.number (and_left (nat_lt g.number f.number) (list_all (nat_lt g.number) (numbers gs)) rising) (sym a ∙ b)) ns has all.0,
  others g ns has gs (and_right (nat_lt g.number f.number) (list_all (nat_lt g.number) (numbers gs)) rising) all.1,
)

-- what is as much of two lists as of both joined
module _ (size : List Field → ℕ) (empty : size [] ≡ 0) (joined : (xs ys : List Field) → size (xs ++ ys) ≡ size xs + size ys) where
  total_size : (h : ℕ → List Field) (ns : List ℕ) → size (flat_map h ns) ≡ total (λ n. size (h n)) ns
  total_size h [] = empty
  total_size h (n ∷ ns) = joined (h n) (flat_map h ns) ∙ ap (λ k. size (h n) + k) (total_size h ns)

  as_much : (h : ℕ → List Field) (gs : List Field) (ns : List ℕ) → length ns ≡ length gs → is_rising (numbers gs) ≡ true → AllByRecursion (λ (f : Field). Has (λ n. n ≡ f.number) ns) gs
      → AllByRecursion (λ (f : Field). h f.number ≡ f ∷ []) gs → total (λ n. size (h n)) ns ≡ size gs
  as_much h [] [] same rising all finds = sym empty
  as_much h [] (n ∷ ns) same rising all finds = absurd (omega (arith, same))
  as_much h (g ∷ gs) ns same rising all finds =
      let less : suc (length (rest (λ n. n ≡ g.number) ns all.0)) ≡ suc (length gs) = rest_length (λ n. n ≡ g.number) ns all.0 ∙ same in
      total_rest (λ n. size (h n)) (λ n. n ≡ g.number) (size (g ∷ [])) (λ n is. ap (λ k. size (h k)) is ∙ ap size finds.0) ns all.0
      ∙ (ap (λ k. size (g ∷ []) + k)
      (as_much h gs (rest (λ n. n ≡ g.number) ns all.0) (omega (arith, less)) (and_right (list_all (nat_lt g.number) (numbers gs)) (is_rising (numbers gs)) rising)
      (others g ns all.0 gs (and_left (list_all (nat_lt g.number) (numbers gs)) (is_rising (numbers gs)) rising) all.1) finds.1)
      ∙ sym (joined (g ∷ []) gs))

-- ---- declared fields

one_of : (n : ℕ) (ns : List ℕ) → list_any (nat_eq n) ns ≡ true → Has (λ k. k ≡ n) ns
one_of n [] h = absurd (false≢true h)
one_of n (k ∷ ns) h = search (rules, one_of n ns, same_turned)

each_declared : (ns : List ℕ) (fs : List Field) → list_all (λ (f : Field). list_any (nat_eq f.number) ns) fs ≡ true → AllByRecursion (λ (f : Field). Has (λ n. n ≡ f.number) ns) fs
each_declared ns [] h = tt
each_declared ns (f ∷ fs) h = (
  one_of f.number ns (and_left (list_any (nat_eq f.number) ns) (list_all (λ (g : Field). list_any (nat_eq g.number) ns) fs) h),
  each_declared ns fs (and_right (list_any (nat_eq f.number) ns) (list_all (λ (g : Field). list_any (nat_eq g.number) ns) fs) h),
)

found_alone : (all fs : List Field) → AllByRecursion (FindsItself all) fs → AllByRecursion (λ (f : Field). found all f.number ≡ f ∷ []) fs
found_alone all [] each = tt
found_alone all (f ∷ fs) each = (ap (where_found (λ g. g)) each.0, found_alone all fs each.1)

has_behind : {A : Type 0} (P : A → Type 0) (xs ys : List A) → Has P ys → Has P (xs ++ ys)
has_behind P [] ys has = has
has_behind P (x ∷ xs) ys has = inr (has_behind P xs ys has)

has_in_front : {A : Type 0} (P : A → Type 0) (xs ys : List A) → Has P xs → Has P (xs ++ ys)
has_in_front P [] ys has = absurd has
has_in_front P (x ∷ xs) ys (inl here) = inl here
has_in_front P (x ∷ xs) ys (inr later) = inr (has_in_front P xs ys later)

is_among_declared : (h : ℕ → List Field) (f : Field) (ns : List ℕ) → h f.number ≡ f ∷ [] → Has (λ n. n ≡ f.number) ns → Has (λ g. g ≡ f) (flat_map h ns)
is_among_declared h f [] finds has = absurd has
is_among_declared h f (n ∷ ns) finds (inl here) = search (rules, has_in_front)
is_among_declared h f (n ∷ ns) finds (inr later) = has_behind (λ g. g ≡ f) (h n) (flat_map h ns) (is_among_declared h f ns finds later)

-- ---- each number that is declared is that of a field

find_number : (fs : List Field) (n : ℕ) (f : Field) → find (λ (g : Field). nat_eq g.number n) fs ≡ Some f → f.number ≡ n
find_number [] n f is = absurd (none-some f is)
find_number (g ∷ fs) n f is = search (rules, find_number fs n f, same_Some, same_number)

module _ (fs : List Field) where
  abbrev as_found : List ℕ → ℕ
  as_found ns = total (λ n. length (found fs n)) ns

  no_more : (ns : List ℕ) → as_found ns ≤ length ns
  no_more [] = omega arith
  no_more (n ∷ ns) = search (rules, no_more ns)

  -- where as many fields are found as there are numbers, each number is that of one
  all_found : (ns : List ℕ) → length ns ≤ as_found ns → map (λ (f : Field). f.number) (flat_map (found fs) ns) ≡ ns
  all_found [] many = refl
  all_found (n ∷ ns) many = of (find (λ (f : Field). nat_eq f.number n) fs) refl many (λ h. all_found ns h)
    where
      of : (o : Option Field) → find (λ (f : Field). nat_eq f.number n) fs ≡ o → suc (length ns) ≤ length (where_found (λ f. f) o) + as_found ns
          → (length ns ≤ as_found ns → map (λ (f : Field). f.number) (flat_map (found fs) ns) ≡ ns) → map (λ (f : Field). f.number) (where_found (λ f. f) o ++ flat_map (found fs) ns) ≡ n ∷ ns
      of None is many later = absurd (omega (arith, many, no_more ns))
      of (Some f) is many later = ap₂ (λ k ks. k ∷ ks) (find_number fs n f is) (later (omega (arith, many)))

-- ---- what holds of all fields

one_such : (P : Field → Type 0) (fs : List Field) → AllByRecursion P fs → (n : ℕ) → AllByRecursion P (found fs n)
one_such P [] all n = tt
one_such P (f ∷ fs) all n = search (rules, one_such P fs all.1 n)

all_such : (P : Field → Type 0) (fs : List Field) → AllByRecursion P fs → (ns : List ℕ) → AllByRecursion P (flat_map (found fs) ns)
all_such P fs all [] = tt
all_such P fs all (n ∷ ns) = both_hold P (found fs n) (flat_map (found fs) ns) (one_such P fs all n) (all_such P fs all ns)

pub such_declared : (P : Field → Type 0) (t : MessageType) → AllByRecursion P t.fields.items → AllByRecursion P (declared_fields t)
such_declared P t all = all_such P t.fields.items all t.declared.items

-- ---- one message type

all_among : (fs : List Field) (ns : List ℕ) (gs : List Field) → AllByRecursion (λ (f : Field). found fs f.number ≡ f ∷ []) gs → AllByRecursion (λ (f : Field). Has (λ n. n ≡ f.number) ns) gs
    → AllByRecursion (λ (f : Field). Has (λ g. g ≡ f) (flat_map (found fs) ns)) gs
all_among fs ns [] finds has = tt
all_among fs ns (g ∷ gs) finds has = (is_among_declared (found fs) g ns finds.0 has.0, all_among fs ns gs finds.1 has.1)

module _ (t : MessageType) (rising : is_rising (numbers t.fields.items) ≡ true) (declared : is_declared t.declared.items t.fields.items ≡ true) where
  abbrev ns : List ℕ
  ns = t.declared.items

  abbrev fs : List Field
  fs = t.fields.items

  as_long : length ns ≡ length fs
  as_long = same_number (length ns) (length fs) (and_left (nat_eq (length ns) (length fs)) (list_all (λ (f : Field). list_any (nat_eq f.number) ns) fs) declared)

  each_has : AllByRecursion (λ (f : Field). Has (λ n. n ≡ f.number) ns) fs
  each_has = each_declared ns fs (and_right (nat_eq (length ns) (length fs)) (list_all (λ (f : Field). list_any (nat_eq f.number) ns) fs) declared)

  -- what is as much of two lists as of both joined is as much of them as of all
  pub declared_size : (size : List Field → ℕ) → size [] ≡ 0 → ((xs ys : List Field) → size (xs ++ ys) ≡ size xs + size ys) → size (declared_fields t) ≡ size fs
  declared_size size empty joined = total_size size empty joined (found fs) ns ∙ as_much size empty joined (found fs) fs ns as_long rising each_has (found_alone fs fs (find_themselves fs rising))

  -- as many as there are fields
  pub declared_count : length (declared_fields t) ≡ length fs
  declared_count = declared_size (λ xs. length xs) refl (λ xs ys. length-append xs ys)

  -- they have the numbers that are declared
  pub declared_numbers : map (λ (f : Field). f.number) (declared_fields t) ≡ ns
  declared_numbers = all_found fs ns (omega (arith, as_long, declared_count, total_size (λ xs. length xs) refl (λ xs ys. length-append xs ys) (found fs) ns))

  -- and each of these is one
  pub each_among : AllByRecursion (λ (f : Field). Has (λ g. g ≡ f) (declared_fields t)) fs
  each_among = all_among fs ns fs (found_alone fs fs (find_themselves fs rising)) each_has
