-- Two fields that meet, and all choices as those of one field and of two.
use Rattle.std.proofs.Common.{◌≡◌, ℕ, ◌+◌, List, [], ◌∷◌, ◌++◌, filter, flat_map, Bool, true, false, not, cond, if◌then◌else◌, nat_eq, Option, Some, None, ◌⊎◌, inl, inr, ⊎_elim, refl, ap, sym, ◌∙◌, subst, eq-eqb}
use Rattle.std.proofs.lemmas.Bool.{and_parts}
use Rattle.pg_schema.specs.Shape.{FieldShape, field_at}
use Rattle.pg_dyn.specs.reading.Content.{same_oneof}
use Rattle.pg_pairs.specs.declared.choices.case.Case.TheVariants as cases
use Rattle.pg_pairs.specs.declared.choices.choice.Choice.{Choice}
use Rattle.pg_pairs.specs.views.EnumView.{EnumView}
use Rattle.pg_pairs.specs.bounds.Covering.{IsAmong}
use Rattle.pg_pairs.specs.choices.Choices.{Table, all_choices, choice, choices_beside, in_one_oneof, joined_choices, joins}
use Rattle.pg_pairs.specs.choices.Costs.{least_content}
use Rattle.pg_pairs.specs.choices.Told.{coming, meetings}
use Rattle.pg_pairs.specs.choices.NewOneof.{new_oneof}
use Rattle.pg_pairs.specs.laws.EdgeChildren.{among_append, append_left, append_right}
use Rattle.pg_pairs.proofs.lemmas.choices.Comings.{joined-coming}
use Rattle.pg_pairs.proofs.lemmas.choices.LeastMembers.{joins_is}
use Rattle.pg_pairs.proofs.lemmas.views.NameLaws.{filter_among}

-- Lists.

pub among_flat : {A B : Type 0} (h : A → List B) (x : A) (y : B) (xs : List A) → IsAmong x xs → IsAmong y (h x) → IsAmong y (flat_map h xs)
among_flat h x y [] among is = absurd among
among_flat h x y (z ∷ zs) among is =
    ⊎_elim (λ same. append_left y (h z) (flat_map h zs) (subst (λ w. IsAmong y (h w)) same is))
    (λ later. append_right y (h z) (flat_map h zs) (among_flat h x y zs later is)) among

pub flat : {A B : Type 0} (h : A → List B) (y : B) (xs : List A) → IsAmong y (flat_map h xs) → (x : A) × IsAmong x xs × IsAmong y (h x)
flat h y [] among = absurd among
flat h y (x ∷ xs) among =
    ⊎_elim (λ here. (x, inl refl, here)) (λ later. let (z, there, is) = flat h y xs later in (z, inr there, is)) (among_append y (h x) (flat_map h xs) among)

-- the field of a number is one of the fields
pub found_among : (fs : List FieldShape) (n : ℕ) (f : FieldShape) → field_at fs n ≡ Some f → IsAmong f fs
found_among [] n f h = absurd (cc)
found_among (x ∷ fs) n f h = of (nat_eq x.number n) refl (λ later. found_among fs n f later)
  where
    of : (b : Bool) → nat_eq x.number n ≡ b → (field_at fs n ≡ Some f → IsAmong f fs) → (f ≡ x) ⊎ IsAmong f fs
    of true is again = let same : ◌≡◌ {A = Option FieldShape} (Some x) (Some f) = (rw is at h) in inl (cc)
    of false is again = inr (again (rw is at h))

-- Two fields that meet.

abbrev pub meeting : FieldShape → FieldShape → Choice
meeting a b = choice a.number cases.Oneof b.number (least_content a + least_content b)

module _ (gs : List FieldShape) where
  pub joined_in : (a b : FieldShape) (later : List FieldShape) → IsAmong b later → joins gs a b ≡ true → IsAmong (meeting a b) (joined_choices gs a later)
  joined_in a b [] among meet = absurd among
  joined_in a b (x ∷ later) among meet =
      ⊎_elim
      (λ same. append_left (meeting a b) (if joins gs a x then meeting a x ∷ [] else []) (joined_choices gs a later)
      (subst (λ y. IsAmong (meeting a b) (if joins gs a y then meeting a y ∷ [] else [])) same (rw meet (inl refl))))
      (λ more. append_right (meeting a b) (if joins gs a x then meeting a x ∷ [] else []) (joined_choices gs a later) (joined_in a b later more meet)) among

  -- the two fields of a choice
  pub record Two (fs : List FieldShape) (c : Choice) : Type 0 where
    pub first : FieldShape
    pub second : FieldShape
    pub first_among : IsAmong first fs
    pub second_among : IsAmong second fs
    pub meet : joins gs first second ≡ true
    pub is : c ≡ meeting first second

  -- the new fields of two that join
  pub record News (a b : FieldShape) : Type 0 where
    pub first : FieldShape
    pub second : FieldShape
    pub first_found : field_at gs a.number ≡ Some first
    pub second_found : field_at gs b.number ≡ Some second
    pub one : same_oneof first.oneof second.oneof ≡ true

  pub news : (a b : FieldShape) → joins gs a b ≡ true → News a b
  news a b meet = of (field_at gs a.number) (field_at gs b.number) refl refl (and_parts (not (same_oneof a.oneof b.oneof)) (in_one_oneof (field_at gs a.number) (field_at gs b.number)) meet).1
    where
      of : (o q : Option FieldShape) → field_at gs a.number ≡ o → field_at gs b.number ≡ q → in_one_oneof (field_at gs a.number) (field_at gs b.number) ≡ true → News a b
      of (Some g) (Some h) at_a at_b is = record { first = g; second = h; first_found = at_a; second_found = at_b; one = (rw (at_a, at_b) at is) }
      of (Some g) None at_a at_b is = absurd (let no : false ≡ true = (rw (at_a, at_b) at is) in cc)
      of None q at_a at_b is = absurd (let no : false ≡ true = (rw at_a at is) in cc)

  pub joined : (a : FieldShape) (later : List FieldShape) (c : Choice) → IsAmong c (joined_choices gs a later) → Two (a ∷ later) c
  joined a [] c among = absurd among
  joined a (x ∷ later) c among =
      ⊎_elim (λ here. of (joins gs a x) refl here)
      (λ more. let two = joined a later c more in two_more two)
      (among_append c (if joins gs a x then meeting a x ∷ [] else []) (joined_choices gs a later) among)
    where
      of : (b : Bool) → joins gs a x ≡ b → IsAmong c (if joins gs a x then meeting a x ∷ [] else []) → Two (a ∷ x ∷ later) c
      of true is here = ⊎_elim (λ same. record { first = a; second = x; first_among = inl refl; second_among = inr (inl refl); meet = is; is = same }) (λ no. absurd no) (rw is at here)
      of false is here = absurd (rw is at here)

      two_more : Two (a ∷ later) c → Two (a ∷ x ∷ later) c
      two_more two = record {
        first = two.first;
        second = two.second;
        first_among = ⊎_elim (λ same. inl same) (λ later. inr (inr later)) two.first_among;
        second_among = ⊎_elim (λ same. inl same) (λ later. inr (inr later)) two.second_among;
        meet = two.meet;
        is = two.is;
      }

  pub met_two : (fs : List FieldShape) (c : Choice) → IsAmong c (meetings gs fs) → Two fs c
  met_two [] c among = absurd among
  met_two (f ∷ later) c among =
      ⊎_elim (λ here. joined f later c here)
      (λ more. let two = met_two later c more in record {
        first = two.first;
        second = two.second;
        first_among = inr two.first_among;
        second_among = inr two.second_among;
        meet = two.meet;
        is = two.is;
      })
      (among_append c (joined_choices gs f later) (meetings gs later) among)

  -- what two fields join comes into one new oneof
  pub joins_one : (a b : FieldShape) → joins gs a b ≡ true → (o : ℕ) × (new_oneof gs a ≡ Some o)
  joins_one a b meet = of (new_oneof gs a) refl
    where
      of : (q : Option ℕ) → new_oneof gs a ≡ q → (o : ℕ) × (new_oneof gs a ≡ Some o)
      of (Some o) is = (o, is)
      of None is =
          let both = and_parts (same_oneof (new_oneof gs a) (new_oneof gs b)) (not (same_oneof a.oneof b.oneof)) (sym (joins_is gs a b) ∙ meet) in
          absurd (let no = rw is at both.0 in cc)

  pub coming_here : (o : ℕ) (f : FieldShape) (fs : List FieldShape) → new_oneof gs f ≡ Some o → coming gs (Some o) (f ∷ fs) ≡ f ∷ coming gs (Some o) fs
  coming_here o f fs is = rw (is, eq-eqb o o refl) refl

  pub coming_more : (o : Option ℕ) (f : FieldShape) (fs : List FieldShape) (c : Choice) → IsAmong c (meetings gs (coming gs o fs)) → IsAmong c (meetings gs (coming gs o (f ∷ fs)))
  coming_more o f fs c among =
      elim (same_oneof o (new_oneof gs f)) as (λ b. IsAmong c (meetings gs (cond b (f ∷ coming gs o fs) (coming gs o fs)))) [
        | true ↦ append_right c (joined_choices gs f (coming gs o fs)) (meetings gs (coming gs o fs)) among
        | false ↦ among
      ]

  -- each choice of two fields is one of their new oneof's
  pub met_coming : (fs : List FieldShape) (c : Choice) → IsAmong c (meetings gs fs) → (o : ℕ) × IsAmong c (meetings gs (coming gs (Some o) fs))
  met_coming [] c among = absurd among
  met_coming (f ∷ later) c among =
      ⊎_elim
      (λ here.
      let two = joined f later c here in
      let (o, is) = first_one here in (
        o,
        subst (λ cs. IsAmong c (meetings gs cs)) (sym (coming_here o f later is))
            (append_left c (joined_choices gs f (coming gs (Some o) later)) (meetings gs (coming gs (Some o) later))
            (subst (IsAmong c) (sym (joined-coming gs f later) ∙ ap (λ q. joined_choices gs f (coming gs q later)) is) here)),
      ))
      (λ more. let (o, found) = met_coming later c more in (o, coming_more (Some o) f later c found))
      (among_append c (joined_choices gs f later) (meetings gs later) among)
    where
      first_one : IsAmong c (joined_choices gs f later) → (o : ℕ) × (new_oneof gs f ≡ Some o)
      first_one here = go later here
        where
          go : (xs : List FieldShape) → IsAmong c (joined_choices gs f xs) → (o : ℕ) × (new_oneof gs f ≡ Some o)
          go [] h = absurd h
          go (x ∷ xs) h =
              ⊎_elim (λ at. of (joins gs f x) refl at) (λ more. go xs more) (among_append c (if joins gs f x then meeting f x ∷ [] else []) (joined_choices gs f xs) h)
            where
              of : (b : Bool) → joins gs f x ≡ b → IsAmong c (if joins gs f x then meeting f x ∷ [] else []) → (o : ℕ) × (new_oneof gs f ≡ Some o)
              of true is at_x = joins_one f x is
              of false is at_x = absurd (rw is at at_x)

  pub joined_fewer : (a : FieldShape) (test : FieldShape → Bool) (xs : List FieldShape) (c : Choice) → IsAmong c (joined_choices gs a (filter test xs)) → IsAmong c (joined_choices gs a xs)
  joined_fewer a test xs c among =
      let two = flat (λ (b : FieldShape). if joins gs a b then meeting a b ∷ [] else []) c (filter test xs) among in
      among_flat (λ (b : FieldShape). if joins gs a b then meeting a b ∷ [] else []) two.0 c xs (filter_among test two.0 xs two.1).0 two.2

  pub met_all : (o : Option ℕ) (fs : List FieldShape) (c : Choice) → IsAmong c (meetings gs (coming gs o fs)) → IsAmong c (meetings gs fs)
  met_all o [] c among = among
  met_all o (f ∷ later) c among = of (same_oneof o (new_oneof gs f)) refl among (λ more. met_all o later c more)
    where
      of : (b : Bool) → same_oneof o (new_oneof gs f) ≡ b → IsAmong c (meetings gs (cond (same_oneof o (new_oneof gs f)) (f ∷ coming gs o later) (coming gs o later))) → (IsAmong c (meetings gs (coming gs o later)) → IsAmong c (meetings gs later)) → IsAmong c (joined_choices gs f later ++ meetings gs later)
      of true is h again =
          ⊎_elim (λ here. append_left c (joined_choices gs f later) (meetings gs later) (joined_fewer f (λ g. same_oneof o (new_oneof gs g)) later c here))
          (λ more. append_right c (joined_choices gs f later) (meetings gs later) (again more))
          (among_append c (joined_choices gs f (coming gs o later)) (meetings gs (coming gs o later)) (rw is at h))
      of false is h again = append_right c (joined_choices gs f later) (meetings gs later) (again (rw is at h))

  -- two of some fields that join, whichever comes first
  pub met_either : (fs : List FieldShape) (a b : FieldShape) → IsAmong a fs → IsAmong b fs → (a.number ≡ b.number → ⊥) → joins gs a b ≡ true → joins gs b a ≡ true → IsAmong (meeting a b) (meetings gs fs) ⊎ IsAmong (meeting b a) (meetings gs fs)
  met_either [] a b in_a in_b apart meet back = absurd in_a
  met_either (f ∷ later) a b in_a in_b apart meet back =
      ⊎_elim
      (λ is_a. ⊎_elim (λ is_b. absurd (apart (ap (λ (x : FieldShape). x.number) (is_a ∙ sym is_b))))
      (λ more. inl (append_left (meeting a b) (joined_choices gs f later) (meetings gs later) (subst (λ x. IsAmong (meeting a b) (joined_choices gs x later)) is_a (joined_in a b later more meet)))) in_b)
      (λ more_a. ⊎_elim (λ is_b. inr (append_left (meeting b a) (joined_choices gs f later) (meetings gs later) (subst (λ x. IsAmong (meeting b a) (joined_choices gs x later)) is_b (joined_in b a later more_a back))))
      (λ more_b. ⊎_elim (λ m. inl (append_right (meeting a b) (joined_choices gs f later) (meetings gs later) m)) (λ m. inr (append_right (meeting b a) (joined_choices gs f later) (meetings gs later) m)) (met_either later a b more_a more_b apart meet back)) in_b) in_a

-- All choices are those of one field and of two.
module _ (enum_view : EnumView) (table : Table) (gs : List FieldShape) where
  pub all_split : (fs : List FieldShape) (c : Choice) → IsAmong c (all_choices enum_view table gs fs) → ((f : FieldShape) × IsAmong f fs × IsAmong c (choices_beside enum_view table f (field_at gs f.number))) ⊎ IsAmong c (meetings gs fs)
  all_split [] c among = absurd among
  all_split (f ∷ later) c among =
      let own = choices_beside enum_view table f (field_at gs f.number) in
      let joined = joined_choices gs f later in
      let rest = all_choices enum_view table gs later in
      ⊎_elim
      (λ here. ⊎_elim (λ mine. inl (f, inl refl, mine)) (λ met. inr (append_left c joined (meetings gs later) met)) (among_append c own joined here))
      (λ last. ⊎_elim (λ found. inl (found.0, inr found.1, found.2)) (λ met. inr (append_right c joined (meetings gs later) met)) (all_split later c last))
      (among_append c (own ++ joined) rest among)

  pub all_own : (fs : List FieldShape) (f : FieldShape) (c : Choice) → IsAmong f fs → IsAmong c (choices_beside enum_view table f (field_at gs f.number)) → IsAmong c (all_choices enum_view table gs fs)
  all_own [] f c among is = absurd among
  all_own (x ∷ later) f c among is =
      let own = choices_beside enum_view table x (field_at gs x.number) in
      let joined = joined_choices gs x later in
      let rest = all_choices enum_view table gs later in
      ⊎_elim (λ same. append_left c (own ++ joined) rest (append_left c own joined (subst (λ y. IsAmong c (choices_beside enum_view table y (field_at gs y.number))) same is)))
      (λ more. append_right c (own ++ joined) rest (all_own later f c more is)) among

  pub all_met : (fs : List FieldShape) (c : Choice) → IsAmong c (meetings gs fs) → IsAmong c (all_choices enum_view table gs fs)
  all_met [] c among = absurd among
  all_met (f ∷ later) c among =
      let own = choices_beside enum_view table f (field_at gs f.number) in
      let joined = joined_choices gs f later in
      let rest = all_choices enum_view table gs later in
      ⊎_elim (λ here. append_left c (own ++ joined) rest (append_right c own joined here)) (λ more. append_right c (own ++ joined) rest (all_met later c more)) (among_append c joined (meetings gs later) among)
