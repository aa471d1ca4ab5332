-- From a field along the later ones of its new oneof: what is passed over joins nothing.
use Rattle.std.proofs.Common.{◌≡◌, ℕ, suc, ◌+◌, ◌<◌, ◌≤◌, List, [], ◌∷◌, ◌++◌, map, length, set, slice_index_or, nat_eq, Bool, true, false, not, ◌&&◌, if◌then◌else◌, Option, Some, None, refl, ap, ap₂, sym, ◌∙◌, subst, subst₂, arith, eqb-true, eq-eqb, append_assoc, length-set}
use Rattle.std.proofs.lemmas.List.{get_or-set_same, get_or-set_other}
use Rattle.pg_schema.specs.declared.parts.field.Field.{Field}
use Rattle.pg_schema.specs.Parts.{field_shape}
use Rattle.pg_schema.specs.Shape.{FieldShape, field_at}
use Rattle.pg_dyn.specs.reading.Content.{same_oneof}
use Rattle.pg_pairs.specs.declared.choices.case.Case.TheVariants as cases
use Rattle.pg_pairs.specs.declared.choices.choice.Choice.{Choice}
use Rattle.pg_pairs.specs.declared.choices.oneof_links.Link.{Link}
use Rattle.pg_pairs.specs.choices.Choices.{affordable, choice, in_one_oneof, joined_choices, joins}
use Rattle.pg_pairs.specs.choices.Costs.{least_content}
use Rattle.pg_pairs.specs.choices.NewOneof.{new_oneof}
use Rattle.pg_pairs.specs.inner.OneofLinks.{joined_from, Passes, IsAny, IsBeside, IsOutside, LeadsFrom, IsLink, AreLinks}
use Rattle.pg_pairs.proofs.lemmas.choices.LeastMembers.{joins_is}
use Rattle.pg_pairs.proofs.lemmas.choices.OptionSteps.{affordable-append, drop_at, item_is}

pub one : (o q : Option ℕ) → same_oneof o q ≡ true → o ≡ q
one (Some a) (Some b) h = ap Some (eqb-true a b h)
one (Some a) None h = absurd (cc)
one None q h = absurd (cc)

pub turned : (o q : Option ℕ) → same_oneof o q ≡ true → same_oneof q o ≡ true
turned o q h = subst₂ (λ x y. same_oneof x y ≡ true) (one o q h) (sym (one o q h)) h

pub outside_by : (list : List Field) (f g : Field) (to : ℕ) → g ≡ slice_index_or list to g → same_oneof f.oneof g.oneof ≡ false → IsOutside list f to
outside_by list f g to is apart = λ h inside h_is. subst (λ (x : Field). same_oneof f.oneof x.oneof ≡ false) (item_is list to g h inside is h_is) apart

-- what isn't in the old oneof of the next field isn't in that of a field beside it there
pub outside_over :
    (gs : List FieldShape) (list : List Field) (links : List Link) (f g : Field) (n next : ℕ) (d : Link) → AreLinks gs list n links → n ≤ next → next < length list → g ≡ slice_index_or list next g → same_oneof f.oneof g.oneof ≡ true →
    IsOutside list f (slice_index_or links next d).other
outside_over gs list links f g n next d are from inside is old =
    subst (λ o. (h : Field) → (slice_index_or links next d).other < length list → h ≡ slice_index_or list (slice_index_or links next d).other h → same_oneof o h.oneof ≡ false) (sym (one f.oneof g.oneof old))
    (are.each next d from inside g is).outside

module _ (gs : List FieldShape) (list : List Field) where
  abbrev meeting : FieldShape → FieldShape → List Choice
  meeting a b = choice a.number cases.Oneof b.number (least_content a + least_content b) ∷ []

  -- the choice of two fields, where they join
  abbrev with_one : FieldShape → FieldShape → List Choice
  with_one a b = if joins gs a b then choice a.number cases.Oneof b.number (least_content a + least_content b) ∷ [] else []

  joined_at : (a : FieldShape) (n : ℕ) (b : Field) → n < length list → b ≡ slice_index_or list n b → joined_from gs a list n ≡ with_one a (field_shape b) ++ joined_from gs a list (suc n)
  joined_at a n b inside is = ap (λ fs. joined_choices gs a (map field_shape fs)) (drop_at list n b b inside is)

  passed : (a : FieldShape) (n : ℕ) (b : Field) → n < length list → b ≡ slice_index_or list n b → joins gs a (field_shape b) ≡ false → joined_from gs a list n ≡ joined_from gs a list (suc n)
  passed a n b inside is apart = joined_at a n b inside is ∙ ap (λ t. (if t then meeting a (field_shape b) else []) ++ joined_from gs a list (suc n)) apart

  in_old : (a : FieldShape) (b : Field) → same_oneof a.oneof b.oneof ≡ true → joins gs a (field_shape b) ≡ false
  in_old a b h = ap (λ t. not t && in_one_oneof (field_at gs a.number) (field_at gs b.number)) h

  -- one more field before those of each new oneof
  pub first_before : (n : ℕ) (f : Field) → n < length list → f ≡ slice_index_or list n f → (old new : Option ℕ → ℕ) →
      ((o : Option ℕ) → new o ≡ (if same_oneof (new_oneof gs (field_shape f)) o then n else old o)) →
      ((o : Option ℕ) → Passes gs list o IsAny (suc n) (old o)) → (o : Option ℕ) → Passes gs list o IsAny n (new o)
  first_before n f inside is old new kept before o = subst (Passes gs list o IsAny n) (sym (kept o)) (of (same_oneof (new_oneof gs (field_shape f)) o) refl)
    where
      apart : (a : FieldShape) → new_oneof gs a ≡ o → same_oneof (new_oneof gs (field_shape f)) o ≡ false → same_oneof (new_oneof gs a) (new_oneof gs (field_shape f)) ≡ false
      apart a own h = elim (same_oneof (new_oneof gs a) (new_oneof gs (field_shape f))) as (λ t. same_oneof (new_oneof gs a) (new_oneof gs (field_shape f)) ≡ t → t ≡ false) [
        | true ↦ λ k. absurd (let t : same_oneof (new_oneof gs (field_shape f)) o ≡ true = ap (same_oneof (new_oneof gs (field_shape f))) (sym own) ∙ turned (new_oneof gs a) (new_oneof gs (field_shape f)) k in cc)
        | false ↦ λ k. refl
      ] refl

      of : (t : Bool) → same_oneof (new_oneof gs (field_shape f)) o ≡ t → Passes gs list o IsAny n (if t then n else old o)
      of true h = record { later = omega arith; same = λ a own any. refl; member = λ g there g_is. subst (λ (x : Field). same_oneof o (new_oneof gs (field_shape x)) ≡ true) (item_is list n f g inside is g_is) (turned (new_oneof gs (field_shape f)) o h) }
      of false h = record {
        later = (let l = (before o).later in omega arith);
        same = λ a own any. passed a n f inside is (joins_is gs a (field_shape f) ∙ ap (λ t. t && not (same_oneof a.oneof f.oneof)) (apart a own h)) ∙ (before o).same a own any;
        member = (before o).member;
      }

  -- the next field outside the old oneof, where the next field is in it
  pub other_passes : (f g : Field) (n next other : ℕ) → next < length list → g ≡ slice_index_or list next g → same_oneof f.oneof g.oneof ≡ true → Passes gs list (new_oneof gs (field_shape f)) IsAny n next →
      Passes gs list (new_oneof gs (field_shape g)) (IsBeside g) (suc next) other → Passes gs list (new_oneof gs (field_shape f)) (IsBeside f) n other
  other_passes f g n next other inside is old p q =
      let same : new_oneof gs (field_shape f) ≡ new_oneof gs (field_shape g) = one _ _ (p.member g inside is) in
      let here : (a : FieldShape) → IsBeside f a → IsBeside g a = λ a h. subst (λ o. same_oneof a.oneof o ≡ true) (one f.oneof g.oneof old) h in
      record {
        later = (let l = p.later in let k = q.later in omega arith);
        same = λ a own h. p.same a own tt ∙ passed a next g inside is (in_old a g (here a h)) ∙ q.same a (own ∙ same) (here a h);
        member = λ h there h_is. ap (λ o. same_oneof o (new_oneof gs (field_shape h))) same ∙ q.member h there h_is;
      }

  pub links_before : (n : ℕ) (links : List Link) (link : Link) → n < length list → AreLinks gs list (suc n) links → IsLink gs list n link → AreLinks gs list n (set links n link)
  links_before n links link inside are is = record { long = length-set links n link ∙ are.long; each = λ i d from there. of i d from there (nat_eq i n) refl }
    where
      of : (i : ℕ) (d : Link) → n ≤ i → i < length list → (b : Bool) → nat_eq i n ≡ b → IsLink gs list i (slice_index_or (set links n link) i d)
      of i d from there true h =
          let at : i ≡ n = eqb-true i n h in
          let inside_links : n < length links = (let long = are.long in omega arith) in
          subst (λ k. IsLink gs list k (slice_index_or (set links n link) k d)) (sym at) (subst (IsLink gs list n) (sym (get_or-set_same links n link d inside_links)) is)
      of i d from there false h =
          let apart : (i ≡ n → ⊥) = λ e. absurd (let t = eq-eqb i n e in cc) in
          subst (IsLink gs list i) (sym (get_or-set_other links n i link d apart)) (are.each i d (let a = apart in omega arith) there)

  -- what was put out with what is left makes the total, and the next one is in the new oneof
  pub record Follows (a : FieldShape) (total now : List Choice) (later : ℕ) : Type 0 where
    pub so_far : now ++ affordable (joined_from gs a list later) ≡ total
    pub member : (b : Field) → later < length list → b ≡ slice_index_or list later b →
        same_oneof (new_oneof gs a) (new_oneof gs (field_shape b)) ≡ true

  module _ (a : FieldShape) (b : Field) (total now : List Choice) (later : ℕ) (inside : later < length list) (is : b ≡ slice_index_or list later b) (f : Follows a total now later) where
    new_is : new_oneof gs a ≡ new_oneof gs (field_shape b)
    new_is = one (new_oneof gs a) (new_oneof gs (field_shape b)) (f.member b inside is)

    pub skips : (other : ℕ) → same_oneof a.oneof b.oneof ≡ true → Passes gs list (new_oneof gs (field_shape b)) (IsBeside b) (suc later) other → Follows a total now other
    skips other old p = record {
      so_far = ap (λ cs. now ++ affordable cs) (sym (passed a later b inside is (in_old a b old) ∙ p.same a new_is old)) ∙ f.so_far;
      member = λ g there g_is. ap (λ o. same_oneof o (new_oneof gs (field_shape g))) new_is ∙ p.member g there g_is;
    }

    pub offers : (next : ℕ) (after : List Choice) → same_oneof a.oneof b.oneof ≡ false → Passes gs list (new_oneof gs (field_shape b)) IsAny (suc later) next → after ≡ now ++ affordable (meeting a (field_shape b)) → Follows a total after next
    offers next after apart p after_is =
        let two = meeting a (field_shape b) in
        let rest = joined_from gs a list (suc later) in
        let meet : joins gs a (field_shape b) ≡ true = joins_is gs a (field_shape b) ∙ ap₂ (λ s t. s && not t) (f.member b inside is) apart in
        let here : joined_from gs a list later ≡ two ++ rest = joined_at a later b inside is ∙ ap (λ t. (if t then two else []) ++ rest) meet in
        record {
          so_far =
              ap₂ (λ cs ds. cs ++ affordable ds) after_is (sym (p.same a new_is tt)) ∙ append_assoc now (affordable two) (affordable rest)
              ∙ ap (λ cs. now ++ cs) (sym (affordable-append two rest) ∙ ap affordable (sym here)) ∙ f.so_far;
          member = λ g there g_is. ap (λ o. same_oneof o (new_oneof gs (field_shape g))) new_is ∙ p.member g there g_is;
        }

  -- one turn of the loop that goes down
  pub linked : (n : ℕ) (f : Field) → n < length list → f ≡ slice_index_or list n f → (next other : ℕ) → Passes gs list (new_oneof gs (field_shape f)) IsAny (suc n) next → Passes gs list (new_oneof gs (field_shape f)) (IsBeside f) (suc n) other → IsOutside list f other →
      IsLink gs list n (record { next = next; other = other })
  linked n f inside is next other p q out = λ g g_is. subst (λ (x : Field). LeadsFrom gs list x n (record { next = next; other = other })) (item_is list n f g inside is g_is) (record { next = p; other = q; outside = out })
