-- Contents without the members of a oneof, which are taken out one by one.
use Rattle.std.proofs.Common.{◌≡◌, ℕ, ◌+◌, ◌<◌, List, [], ◌∷◌, ◌++◌, map, filter, length, take, get_or, nat_eq, Bool, true, false, not, ◌&&◌, ◌||◌, refl, ap, sym, subst, ◌∙◌, arith, add-one, eq-eqb, ne_eqb, lt-ltb, le-ltb, rules}
use Rattle.std.proofs.Math.Seq.{take-suc}
use Rattle.std.proofs.lemmas.Bool.{cases_eq, ltb-true, ltb-false}
use Rattle.std.proofs.Math.Bool.{or-false}
use Rattle.std.proofs.lemmas.List.{map-append}
use Rattle.std.proofs.lemmas.List.Folds.{list_any-append}
use Rattle.pg_schema.specs.declared.parts.field.Field.{Field}
use Rattle.pg_schema.specs.Parts.{field_shape}
use Rattle.pg_schema.specs.Shape.{FieldShape}
use Rattle.pg_dyn.specs.declared.message.Content.{Content}
use Rattle.pg_dyn.specs.reading.Content.{is_sibling}
use Rattle.pg_dyn.specs.message.FieldList.{remove_field}
use Rattle.pg_dyn.specs.message.Replacing.{is_sibling_number}
use Rattle.pg_dyn.specs.message.Seen.{Rises}
use Rattle.pg_dyn.proofs.lemmas.message.FieldListLaws.{below_none, rises-filter}
use Rattle.pg_dyn.proofs.Lists.{each_of_all, each_weaker, filter_alike, filter_all}

-- Tests one after the other.

filter-both : {A : Type 0} (p q : A → Bool) (xs : List A) → filter q (filter p xs) ≡ filter (λ x. p x && q x) xs
filter-both p q [] = refl
filter-both p q (x ∷ xs) = search (rules, filter-both p q xs)

neither : (a b : Bool) → (not a && not b) ≡ not (a || b)
neither true b = refl
neither false b = refl

-- A content taken out.

abbrev pub Removed : ℕ → List (ℕ × Content) → Type 0
Removed n cs = remove_field n cs ≡ filter (λ (c : ℕ × Content). not (nat_eq n c.0)) cs

pub removed_is : (n : ℕ) (cs : List (ℕ × Content)) → Rises cs → Removed n cs
removed_is n [] rises = refl
removed_is n (c ∷ cs) rises =
    search (
      rules,
      arith,
      removed_is n cs rises.1,
      cases_eq,
      le-ltb,
      eq-eqb,
      ltb-true,
      ne_eqb,
      ltb-false,
      below_none,
      each_weaker,
      lt-ltb,
    )

-- Members taken out, one by one.

module _ (f : FieldShape) where
  abbrev pub without : List FieldShape → List (ℕ × Content) → List (ℕ × Content)
  without gs cs = filter (λ (c : ℕ × Content). not (is_sibling_number gs f c.0)) cs

  one_more : (gs : List FieldShape) (g : FieldShape) (n : ℕ) → is_sibling_number (gs ++ g ∷ []) f n ≡ (is_sibling_number gs f n || (is_sibling f g && nat_eq g.number n))
  one_more gs g n = list_any-append (λ (h : FieldShape). is_sibling f h && nat_eq h.number n) gs (g ∷ []) ∙ ap (λ b. is_sibling_number gs f n || b) (or-false (is_sibling f g && nat_eq g.number n))

  pub sibling_out : (gs : List FieldShape) (g : FieldShape) (cs : List (ℕ × Content)) → is_sibling f g ≡ true → Rises cs → remove_field g.number (without gs cs) ≡ without (gs ++ g ∷ []) cs
  sibling_out gs g cs sibling rises =
      removed_is g.number (without gs cs) (rises-filter (λ (c : ℕ × Content). not (is_sibling_number gs f c.0)) cs rises)
      ∙ filter-both (λ (c : ℕ × Content). not (is_sibling_number gs f c.0)) (λ (c : ℕ × Content). not (nat_eq g.number c.0)) cs
      ∙ filter_alike (λ (c : ℕ × Content). not (is_sibling_number gs f c.0) && not (nat_eq g.number c.0)) (λ (c : ℕ × Content). not (is_sibling_number (gs ++ g ∷ []) f c.0)) (λ c. same c.0) cs
    where
      same : (n : ℕ) → (not (is_sibling_number gs f n) && not (nat_eq g.number n)) ≡ not (is_sibling_number (gs ++ g ∷ []) f n)
      same n = neither (is_sibling_number gs f n) (nat_eq g.number n) ∙ ap not (ap (λ b. is_sibling_number gs f n || (b && nat_eq g.number n)) (sym sibling) ∙ sym (one_more gs g n))

  -- the same of fields that are gone through by index
  abbrev pub so_far : List Field → ℕ → List FieldShape
  so_far hs i = map field_shape (take i hs)

  next_so_far : (hs : List Field) (i : ℕ) (h : Field) → i < length hs → h ≡ get_or hs i h → so_far hs i ++ field_shape h ∷ [] ≡ so_far hs (i + 1)
  next_so_far hs i h inside is =
      ap (λ x. so_far hs i ++ field_shape x ∷ []) is ∙ sym (map-append field_shape (take i hs) (get_or hs i h ∷ [])) ∙ ap (map field_shape) (sym (take-suc hs i h inside)) ∙ ap (so_far hs) (sym (add-one i))

  pub member_out : (hs : List Field) (i : ℕ) (h : Field) (cs now : List (ℕ × Content)) → i < length hs → h ≡ get_or hs i h → is_sibling f (field_shape h) ≡ true → Rises cs → now ≡ without (so_far hs i) cs → remove_field h.number now ≡ without (so_far hs (i + 1)) cs
  member_out hs i h cs now inside is sibling rises was =
      ap (remove_field h.number) was ∙ sibling_out (so_far hs i) (field_shape h) cs sibling rises ∙ ap (λ gs. without gs cs) (next_so_far hs i h inside is)

  -- at first all stay
  pub all_stay : (cs : List (ℕ × Content)) → cs ≡ without [] cs
  all_stay cs = sym (filter_all (λ (c : ℕ × Content). true) cs (each_of_all (λ (c : ℕ × Content). true ≡ true) (λ c. refl) cs))

  pub still_rises : (gs : List FieldShape) (cs now : List (ℕ × Content)) → Rises cs → now ≡ without gs cs → Rises now
  still_rises gs cs now rises was = subst Rises (sym was) (rises-filter (λ (c : ℕ × Content). not (is_sibling_number gs f c.0)) cs rises)
