-- Which faults of a row of contents may be reported.
use Rattle.std.proofs.Common.{◌≡◌, ℕ, option_and_then, ◌<◌, ◌≤◌, List, [], ◌∷◌, length, filter, Bool, true, false, ◌&&◌, Option, Some, inl, inr, refl, ap, subst, ◌∙◌, arith, eq-eqb, ne_eqb, rules, nat_eq, cond}
use Rattle.std.specs.List.{AllByRecursion}
use Rattle.std.proofs.lemmas.Bool.{eqb-true}
use Rattle.pg_schema.specs.declared.parts.field.TypeId.{TypeId}
use Rattle.pg_schema.specs.declared.parts.Parts.{Parts}
use Rattle.pg_schema.specs.Parts.{shape_of}
use Rattle.pg_schema.specs.Shape.{FieldShape, fields, field_at}
use Rattle.pg_dyn.specs.declared.error.DynError.{DynError}
use Rattle.pg_dyn.specs.declared.error.DynError.TheVariants as errors
use Rattle.pg_dyn.specs.declared.message.Content.{Content}
use Rattle.pg_dyn.specs.reading.Content.{same_oneof}
use Rattle.pg_dyn.specs.message.Kept.{Kept}
use Rattle.pg_dyn.specs.message.Seen.{Rises}
use Rattle.pg_dyn.specs.fitting.ContentFits.{AreApart, NoneSiblings}
use Rattle.pg_dyn.specs.setting.ContentFaults.{AnyOf, ContentFault, ContentsFault, FirstOf, HasFieldTwice, HasKeyTwice, is_in_oneof, members, IsLowest, HasNoEarlyFault, HasNoFault, MayRefuseFor}
use Rattle.pg_dyn.specs.error.Codes.{code_of}
use Rattle.pg_dyn.specs.setting.Setting.{IsWhole}
use Rattle.pg_dyn.specs.inner.Reported.{TakesContent}
use Rattle.pg_dyn.proofs.Lists.{filter_none, each_weaker, each_both}
use Rattle.pg_dyn.proofs.lemmas.setting.ContentChecks.{lowest, taken_once, takes_early}
use Rattle.pg_dyn.proofs.lemmas.setting.SetSteps.{may_refuse}
use Rattle.pg_dyn.proofs.lemmas.setting.LowestFault.{any_of_first, none_first}
use Rattle.pg_dyn.proofs.lemmas.reading.Standing.{StandsIn, all_in, passes_once}
use Rattle.pg_dyn.proofs.lemmas.setting.WholeSteps.{of_field, Takes}

-- Numbers that are there once.

rising_once : (xs : List (ℕ × Content)) (n : ℕ) → Rises xs → length (filter (of_field n) xs) ≤ 1
rising_once [] n h = omega arith
rising_once (x ∷ xs) n h = of (nat_eq x.0 n) refl (rising_once xs n h.1)
  where
    of : (b : Bool) → nat_eq x.0 n ≡ b → length (filter (of_field n) xs) ≤ 1 → length (cond b (x ∷ filter (of_field n) xs) (filter (of_field n) xs)) ≤ 1
    of true e rest =
        let none : filter (of_field n) xs ≡ [] = filter_none (of_field n) xs (each_weaker (λ (c : ℕ × Content). x.0 < c.0) (λ (c : ℕ × Content). of_field n c ≡ false) (λ c above. ne_eqb c.0 n (λ k. let same = eqb-true x.0 n e in absurd (omega arith))) xs h.0) in
        omega (arith, ap length none)
    of false e rest = rest

-- Members of one oneof.

pub same_some : (a b : Option ℕ) → same_oneof a b ≡ true → (o : ℕ) × (a ≡ Some o) × (b ≡ Some o)
same_some a b h = grind (arith, eqb-true)

first_true : (a b : Bool) → (a && b) ≡ true → a ≡ true
first_true true b h = refl
first_true false b h = absurd (cc)

module _ (fs : List FieldShape) where
  member_of : (n o : ℕ) (f : FieldShape) → field_at fs n ≡ Some f → f.oneof ≡ Some o → is_in_oneof fs o n ≡ true
  member_of n o f found is = ap (λ (x : Option FieldShape). same_oneof (option_and_then (λ (g : FieldShape). g.oneof) x) (Some o)) found ∙ ap (λ (x : Option ℕ). same_oneof x (Some o)) is ∙ eq-eqb o o refl

  two_of : (o : ℕ) (c : ℕ × Content) (cs : List (ℕ × Content)) → is_in_oneof fs o c.0 ≡ true → 0 < length (members fs o cs) → 1 < length (members fs o (c ∷ cs))
  two_of o c cs first some = search (rules, arith)

  fewer : (o : ℕ) (c : ℕ × Content) (cs : List (ℕ × Content)) → length (members fs o (c ∷ cs)) ≤ 1 → length (members fs o cs) ≤ 1
  fewer o c cs one = search (rules, arith)

  apart_from : (c l : ℕ × Content) (cs : List (ℕ × Content)) → ((o : ℕ) → length (members fs o (c ∷ cs)) ≤ 1) → StandsIn l cs → AreApart fs c.0 l.0
  apart_from c l cs once there f g found at =
      search (rules, arith, same_some, first_true, passes_once, member_of, two_of)

  -- contents of which no two are in one oneof are no siblings
  pub no_siblings_from : (cs : List (ℕ × Content)) → ((o : ℕ) → length (members fs o cs) ≤ 1) → NoneSiblings fs cs
  no_siblings_from [] once = tt
  no_siblings_from (c ∷ cs) once = (all_in (λ (l : ℕ × Content). AreApart fs c.0 l.0) cs (λ l there. apart_from c l cs once there), no_siblings_from cs (λ o. fewer o c cs (once o)))

  pub once : (cs : List (ℕ × Content)) → ((n : ℕ) → length (filter (of_field n) cs) ≤ 1) → ((o : ℕ) → length (members fs o cs) ≤ 1) → HasFieldTwice fs cs → ⊥
  once cs each apart (inl (n, two)) = let one = each n in omega arith
  once cs each apart (inr (o, two)) = let one = apart o in omega arith

-- Of all contents.

module _ (parts : Parts) (type : TypeId) where
  abbrev Faults : List (ℕ × Content) → DynError → Type 0
  Faults cs = ContentsFault (shape_of parts) type cs

  abbrev FirstContent : List (ℕ × Content) → DynError → Type 0
  FirstContent cs = FirstOf (λ (c : ℕ × Content). ContentFault (shape_of parts) type c.0 c.1) cs

  early : (cs : List (ℕ × Content)) → Takes parts type cs → HasNoEarlyFault (FirstContent cs)
  early cs takes = none_first (TakesContent (shape_of parts) type) (λ (c : ℕ × Content). ContentFault (shape_of parts) type c.0 c.1) (takes_early (shape_of parts) type) cs takes

  -- an error that is never that of a content
  never : (e : DynError) → ((c : ℕ × Content) → ContentFault (shape_of parts) type c.0 c.1 e → ⊥) → (cs : List (ℕ × Content)) → FirstContent cs e → ⊥
  never e none [] k = k
  never e none (c ∷ cs) (inl k) = none c k
  never e none (c ∷ cs) (inr k) = never e none cs k.1

  no_fault : (cs : List (ℕ × Content)) (e : DynError) → AllByRecursion (λ (c : ℕ × Content). HasNoFault (ContentFault (shape_of parts) type c.0 c.1)) cs → AnyOf (λ (c : ℕ × Content). ContentFault (shape_of parts) type c.0 c.1 e) cs → ⊥
  no_fault [] e h k = k
  no_fault (c ∷ cs) e h (inl k) = h.0 e k
  no_fault (c ∷ cs) e h (inr k) = no_fault cs e h.1 k

  pub whole_accepted : (cs : List (ℕ × Content)) → Takes parts type cs → (HasFieldTwice (fields (shape_of parts) type) cs → ⊥) → AllByRecursion (λ (c : ℕ × Content). HasKeyTwice c.1 → ⊥) cs → HasNoFault (Faults cs)
  whole_accepted cs takes fields_once keys_once = none
    where
      right : AllByRecursion (λ (c : ℕ × Content). HasNoFault (ContentFault (shape_of parts) type c.0 c.1)) cs
      right =
          each_weaker (λ (c : ℕ × Content). TakesContent (shape_of parts) type c × (HasKeyTwice c.1 → ⊥)) (λ (c : ℕ × Content). HasNoFault (ContentFault (shape_of parts) type c.0 c.1))
          (λ c k. taken_once (shape_of parts) type c.0 c.1 k.0.0 k.0.1.found k.0.1.items k.1) cs (each_both (TakesContent (shape_of parts) type) (λ (c : ℕ × Content). HasKeyTwice c.1 → ⊥) cs takes keys_once)

      first : (e : DynError) → FirstContent cs e → ⊥
      first e k = no_fault cs e right (any_of_first (λ (c : ℕ × Content). ContentFault (shape_of parts) type c.0 c.1) cs e k)

      none : (e : DynError) → Faults cs e → ⊥
      none errors.Memory k = first errors.Memory k
      none errors.NoSuchField k = first errors.NoSuchField k
      none errors.WrongKind k = first errors.WrongKind k
      none errors.OutOfRange k = first errors.OutOfRange k
      none (errors.NotUtf8 at) k = first (errors.NotUtf8 at) k
      none errors.OneofTwice k = fields_once k
      none errors.DuplicateKey k = no_fault cs errors.DuplicateKey right k
      none errors.TooLong k = first errors.TooLong k
      none (errors.TooDeep at) k = first (errors.TooDeep at) k
      none (errors.Wire w) k = first (errors.Wire w) k

  pub whole_twice : (cs : List (ℕ × Content)) → Takes parts type cs → HasFieldTwice (fields (shape_of parts) type) cs → MayRefuseFor (Faults cs) errors.OneofTwice
  whole_twice cs takes two = lowest (Faults cs) errors.OneofTwice two (omega arith) (λ k. early cs takes errors.Memory (omega arith) k) (λ w k. never (errors.Wire w) (λ c h. h.2) cs k) (λ low k. early cs takes errors.NoSuchField (omega arith) k) (λ low k. early cs takes errors.WrongKind (omega arith) k)
      (λ low k. early cs takes errors.OutOfRange (omega arith) k) (λ low at k. early cs takes (errors.NotUtf8 at) (omega arith) k)

  to_key_fault : (cs : List (ℕ × Content)) → Takes parts type cs → AnyOf (λ (c : ℕ × Content). HasKeyTwice c.1) cs → AnyOf (λ (c : ℕ × Content). ContentFault (shape_of parts) type c.0 c.1 errors.DuplicateKey) cs
  to_key_fault [] takes k = k
  to_key_fault (c ∷ cs) takes (inl k) = inl (takes.0.0, takes.0.1.found, k)
  to_key_fault (c ∷ cs) takes (inr k) = inr (to_key_fault cs takes.1 k)

  pub whole_key_twice : (cs : List (ℕ × Content)) → Takes parts type cs → (HasFieldTwice (fields (shape_of parts) type) cs → ⊥) → AnyOf (λ (c : ℕ × Content). HasKeyTwice c.1) cs → MayRefuseFor (Faults cs) errors.DuplicateKey
  whole_key_twice cs takes fields_once two = (to_key_fault cs takes two, below)
    where
      below : (other : DynError) → code_of other < 606 → Faults cs other → ⊥
      below errors.Memory low k = early cs takes errors.Memory (omega arith) k
      below errors.NoSuchField low k = early cs takes errors.NoSuchField (omega arith) k
      below errors.WrongKind low k = early cs takes errors.WrongKind (omega arith) k
      below errors.OutOfRange low k = early cs takes errors.OutOfRange (omega arith) k
      below (errors.NotUtf8 at) low k = early cs takes (errors.NotUtf8 at) (omega arith) k
      below errors.OneofTwice low k = fields_once k
      below errors.DuplicateKey low k = absurd (omega arith)
      below errors.TooLong low k = absurd (omega arith)
      below (errors.TooDeep at) low k = absurd (omega arith)
      below (errors.Wire w) low k = never (errors.Wire w) (λ c h. h.2) cs k

  to_faults : (cs : List (ℕ × Content)) (e : DynError) → code_of e < 605 → FirstContent cs e → Faults cs e
  to_faults cs e early k = grind arith

  from_faults : (cs : List (ℕ × Content)) (e : DynError) → code_of e < 605 → Faults cs e → FirstContent cs e
  from_faults cs e early k = grind arith

  pub whole_early : (cs : List (ℕ × Content)) → Takes parts type cs → HasNoEarlyFault (Faults cs)
  whole_early cs takes e low k = early cs takes e low (from_faults cs e low k)

  -- memory is never the fault of a content
  pub whole_no_memory : (cs : List (ℕ × Content)) (e : DynError) → e ≡ errors.Memory → IsLowest (FirstContent cs) e → ⊥
  whole_no_memory cs e is lowest = never errors.Memory (λ c k. k.2) cs (subst (FirstContent cs) is lowest.0)

  pub whole_refused : (cs : List (ℕ × Content)) (e : DynError) → IsLowest (FirstContent cs) e → code_of e < 605 → MayRefuseFor (Faults cs) e
  whole_refused cs e fault early = search (rules, arith, may_refuse, to_faults, early, from_faults)

  -- the message of sorted contents is that of the contents
  pub whole_unsorted : (xs ys : List (ℕ × Content)) (m : Kept) → ((number : ℕ) → filter (of_field number) ys ≡ filter (of_field number) xs) → IsWhole (shape_of parts) type ys m → IsWhole (shape_of parts) type xs m
  whole_unsorted xs ys m same whole = search rules

  pub once_unsorted : (xs ys : List (ℕ × Content)) → ((number : ℕ) → filter (of_field number) ys ≡ filter (of_field number) xs) → Rises ys → (n : ℕ) → length (filter (of_field n) xs) ≤ 1
  once_unsorted xs ys same rises n = let one = rising_once ys n rises in let len = ap length (same n) in omega arith
