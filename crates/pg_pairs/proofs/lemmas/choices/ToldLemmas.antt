-- Each cause is told, and what is told is a cause.
use Rattle.std.proofs.Common.{◌≡◌, ℕ, ◌≤◌, List, [], ◌∷◌, map, Bool, true, false, not, if◌then◌else◌, nat_eq, nat_le, Option, Some, None, ◌⊎◌, inl, inr, ⊎_elim, refl, ap, sym, ◌∙◌, subst, arith, eqb-true, eq-eqb}
use Rattle.std.proofs.lemmas.Bool.{and_parts, le-leb, not-true}
use Rattle.std.specs.List.{AllByRecursion}
use Rattle.pg_schema.specs.Shape.{Shape, FieldShape, field_at, fields}
use Rattle.pg_schema.specs.ShapeRules.{IsShape}
use Rattle.pg_dyn.proofs.Lists.{each-map}
use Rattle.pg_dyn.proofs.PublicLaws.{fields_are_found}
use Rattle.pg_dyn.specs.reading.Content.{same_oneof}
use Rattle.pg_dyn.specs.encoding.Encoding.{cap}
use Rattle.pg_pairs.specs.declared.choices.case.Case.{Case}
use Rattle.pg_pairs.specs.declared.choices.case.Case.TheVariants as cases
use Rattle.pg_pairs.specs.declared.choices.choice.Choice.{Choice}
use Rattle.pg_pairs.specs.declared.choices.choice.Pair.{Pair}
use Rattle.pg_pairs.specs.views.EnumView.{EnumView}
use Rattle.pg_pairs.specs.bounds.Covering.{IsAmong}
use Rattle.pg_pairs.specs.choices.Causes.{causes}
use Rattle.pg_pairs.specs.choices.Choices.{affordable, all_choices, cheapest, choice_of, choices_beside, is_oneof, joins, no_bounds}
use Rattle.pg_pairs.specs.choices.Told.{Told, coming, is_first, meetings, told_alone, told_at, told_by, told_causes, told_oneof, told_own, told_together}
use Rattle.pg_pairs.specs.choices.NewOneof.{new_oneof}
use Rattle.pg_pairs.specs.laws.CheapestLaws.{IsCheapest}
use Rattle.pg_pairs.specs.laws.EdgeChildren.{among_append, append_left, append_right}
use Rattle.pg_pairs.specs.laws.ToldLaws.{CausesAreTold, IsToldBy, Meets}
use Rattle.pg_pairs.specs.laws.WaysTold.{CausesHaveTheirFields, ComeIntoOne, ComesInto, HasItsFields}
use Rattle.pg_pairs.proofs.lemmas.choices.Among.{among_each}
use Rattle.pg_pairs.proofs.lemmas.choices.Cheaper.{cheapest_is_least}
use Rattle.pg_pairs.proofs.lemmas.choices.LeastMembers.{joins_is}
use Rattle.pg_pairs.proofs.lemmas.choices.LowCosts.{low-all}
use Rattle.pg_pairs.proofs.lemmas.choices.Offers.{each_own}
use Rattle.pg_pairs.proofs.lemmas.choices.OneofLinks.{one, turned}
use Rattle.pg_pairs.proofs.lemmas.graph.Reaching.{every_is_among}
use Rattle.pg_pairs.proofs.lemmas.views.NameLaws.{among_filter, among_map, filter_among, map_among}
use Rattle.pg_pairs.proofs.lemmas.choices.Meetings.{Two, all_met, all_own, all_split, among_flat, flat, found_among, meeting, met_all, met_coming, met_either, met_two}

-- Told causes.

pub own_alone : (enum_view : EnumView) (f : FieldShape) (o : Option FieldShape) → AllByRecursion (λ (c : Choice). is_oneof c.case ≡ false) (choices_beside enum_view no_bounds f o)
own_alone enum_view f None = tt
own_alone enum_view f (Some g) = each_own (λ (c : Choice). is_oneof c.case ≡ false) enum_view no_bounds f g (record {
  unlike = refl;
  gap = λ no_map. offered cases.Gap 0 _ refl;
  child = λ no_map. offered cases.Child 0 _ refl;
  list = λ no_map. offered cases.List 0 _ refl;
  apart = λ k is. refl;
  key = λ k l is. offered cases.Map 1 _ refl;
  value = λ k is. offered cases.Map 2 _ refl;
  value_child = λ k is. offered cases.Map 2 _ refl;
})
  where
    offered : (case : Case) (part : ℕ) (o : Option ℕ) → is_oneof case ≡ false → AllByRecursion (λ (c : Choice). is_oneof c.case ≡ false) (choice_of f.number case part o)
    offered case part None is = tt
    offered case part (Some n) is = (is, tt)

module _ (enum_view : EnumView) (old new : Shape) (pair : Pair) where
  abbrev fs : List FieldShape
  fs = fields old pair.old

  abbrev gs : List FieldShape
  gs = fields new pair.new

  abbrev told : List Told
  told = told_causes enum_view old new pair

  abbrev cs : List Choice
  cs = causes enum_view old new pair

  pub affordable_in : (c : Choice) → IsAmong c (all_choices enum_view no_bounds gs fs) → nat_le c.cost cap ≡ true → IsAmong c cs
  affordable_in c among cheap = among_filter (λ (d : Choice). nat_le d.cost cap) c (all_choices enum_view no_bounds gs fs) among cheap

  -- fields that are told together, and by what
  pub record Together (t : Told) : Type 0 where
    pub oneof : ℕ
    pub field : FieldShape
    pub field_among : IsAmong field fs
    pub choice : Choice
    pub least : cheapest (affordable (meetings gs (coming gs (Some oneof) fs))) ≡ Some choice
    pub is : t ≡ record { numbers = map (λ (f : FieldShape). f.number) (coming gs (Some oneof) fs); choice = choice }

  -- a told cause is one field's, or that of a new oneof
  cause_is : (t : Told) → IsAmong t told → ((f : FieldShape) × (c : Choice) × IsAmong f fs × IsAmong c (affordable (choices_beside enum_view no_bounds f (field_at gs f.number))) × (t ≡ told_alone c)) ⊎ Together t
  cause_is t among =
      let (f, in_fs, here) = flat (told_at enum_view gs fs) t fs among in
      ⊎_elim
      (λ own. let (c, in_own, is) = map_among told_alone t (affordable (choices_beside enum_view no_bounds f (field_at gs f.number))) own in inl (f, c, in_fs, in_own, is))
      (λ met. inr (of (new_oneof gs f) f in_fs refl met))
      (among_append t (told_own enum_view gs f) (told_oneof gs fs f) here)
    where
      first_of : (b : Bool) (ts : List Told) → IsAmong t (if b then ts else []) → IsAmong t ts
      first_of true ts h = h
      first_of false ts h = absurd h

      by : (ds : List FieldShape) (o : Option Choice) → IsAmong t (told_by ds o) → (c : Choice) × (o ≡ Some c) × (t ≡ record { numbers = map (λ (f : FieldShape). f.number) ds; choice = c })
      by ds None h = absurd h
      by ds (Some c) h = ⊎_elim (λ same. (c, refl, same)) (λ no. absurd no) h

      none : (xs : List FieldShape) → coming gs None xs ≡ []
      none [] = refl
      none (x ∷ xs) = none xs

      of : (o : Option ℕ) (f : FieldShape) → IsAmong f fs → new_oneof gs f ≡ o → IsAmong t (told_oneof gs fs f) → Together t
      of None f in_fs is met = absurd (rw (is, none fs) at met)
      of (Some o) f in_fs is met =
          let all = subst (λ q. IsAmong t (told_together gs (coming gs q fs))) is (first_of (is_first f.number (coming gs (new_oneof gs f) fs)) (told_together gs (coming gs (new_oneof gs f) fs)) met) in
          let (c, least, t_is) = by (coming gs (Some o) fs) (cheapest (affordable (meetings gs (coming gs (Some o) fs)))) all in
          record { oneof = o; field = f; field_among = in_fs; choice = c; least = least; is = t_is }

  -- the choice by which fields are told together is one of two of them
  met_by : (t : Told) (g : Together t) → IsAmong g.choice (affordable (meetings gs (coming gs (Some g.oneof) fs)))
  met_by t g = (subst (λ o. IsCheapest o (affordable (meetings gs (coming gs (Some g.oneof) fs)))) g.least (cheapest_is_least (affordable (meetings gs (coming gs (Some g.oneof) fs))))).0

  met_all_by : (t : Told) (g : Together t) → IsAmong g.choice (meetings gs (coming gs (Some g.oneof) fs)) × (nat_le g.choice.cost cap ≡ true)
  met_all_by t g = filter_among (λ (d : Choice). nat_le d.cost cap) g.choice (meetings gs (coming gs (Some g.oneof) fs)) (met_by t g)

  pub are_causes : (t : Told) → IsAmong t told → IsAmong t.choice cs
  are_causes t among =
      ⊎_elim
      (λ own. let (f, c, in_fs, in_own, is) = own in
      let (here, cheap) = filter_among (λ (d : Choice). nat_le d.cost cap) c (choices_beside enum_view no_bounds f (field_at gs f.number)) in_own in
      subst (λ (u : Told). IsAmong u.choice cs) (sym is) (affordable_in c (all_own enum_view no_bounds gs fs f c in_fs here) cheap))
      (λ g. let (met, cheap) = met_all_by t g in
      subst (λ (u : Told). IsAmong u.choice cs) (sym g.is) (affordable_in g.choice (all_met enum_view no_bounds gs fs g.choice (met_all gs (Some g.oneof) fs g.choice met)) cheap))
      (cause_is t among)

  pub are_of_fields : (t : Told) → IsAmong t told → IsAmong t.choice.number t.numbers × (is_oneof t.choice.case ≡ true → IsAmong t.choice.part t.numbers)
  are_of_fields t among =
      ⊎_elim
      (λ own. let (f, c, in_fs, in_own, is) = own in
      let here = (filter_among (λ (d : Choice). nat_le d.cost cap) c (choices_beside enum_view no_bounds f (field_at gs f.number)) in_own).0 in
      let alone : is_oneof c.case ≡ false = among_each (λ (d : Choice). is_oneof d.case ≡ false) c (choices_beside enum_view no_bounds f (field_at gs f.number)) here (own_alone enum_view f (field_at gs f.number)) in
      subst (λ (u : Told). IsAmong u.choice.number u.numbers × (is_oneof u.choice.case ≡ true → IsAmong u.choice.part u.numbers)) (sym is)
      (inl refl, λ oneof. absurd (let no : true ≡ false = sym oneof ∙ alone in cc)))
      (λ g.
      let two = met_two gs (coming gs (Some g.oneof) fs) g.choice (met_all_by t g).0 in
      let in_numbers = λ (f : FieldShape) (here : IsAmong f (coming gs (Some g.oneof) fs)). among_map (λ (e : FieldShape). e.number) f (coming gs (Some g.oneof) fs) here in
      subst (λ (u : Told). IsAmong u.choice.number u.numbers × (is_oneof u.choice.case ≡ true → IsAmong u.choice.part u.numbers)) (sym g.is) (
        subst (λ n. IsAmong n (map (λ (e : FieldShape). e.number) (coming gs (Some g.oneof) fs))) (sym (ap (λ (c : Choice). c.number) two.is)) (in_numbers two.first two.first_among),
        λ oneof. subst (λ n. IsAmong n (map (λ (e : FieldShape). e.number) (coming gs (Some g.oneof) fs))) (sym (ap (λ (c : Choice). c.part) two.is)) (in_numbers two.second two.second_among),
      ))
      (cause_is t among)

  -- two that meet are told with all of their new oneof
  told_with : (c : Choice) (o : ℕ) → IsAmong c (meetings gs (coming gs (Some o) fs)) → nat_le c.cost cap ≡ true → (t : Told) × IsAmong t told × IsToldBy c t
  told_with c o among cheap = of (coming gs (Some o) fs) (cheapest (affordable (meetings gs (coming gs (Some o) fs)))) refl refl (cheapest_is_least (affordable (meetings gs (coming gs (Some o) fs))))
    where
      paid : IsAmong c (affordable (meetings gs (coming gs (Some o) fs)))
      paid = among_filter (λ (d : Choice). nat_le d.cost cap) c (meetings gs (coming gs (Some o) fs)) among cheap

      two : Two gs (coming gs (Some o) fs) c
      two = met_two gs (coming gs (Some o) fs) c among

      number_in : (f : FieldShape) → IsAmong f (coming gs (Some o) fs) → IsAmong f.number (map (λ (g : FieldShape). g.number) (coming gs (Some o) fs))
      number_in f here = among_map (λ (g : FieldShape). g.number) f (coming gs (Some o) fs) here

      of : (ds : List FieldShape) (d : Option Choice) → coming gs (Some o) fs ≡ ds → cheapest (affordable (meetings gs (coming gs (Some o) fs))) ≡ d → IsCheapest d (affordable (meetings gs (coming gs (Some o) fs))) → (t : Told) × IsAmong t told × IsToldBy c t
      of ds None row least none = absurd (subst (IsAmong c) none paid)
      of [] (Some d) row least is = absurd (subst (λ xs. IsAmong c (meetings gs xs)) row among)
      of (g ∷ ds) (Some d) row least is =
          let in_coming : IsAmong g (coming gs (Some o) fs) = subst (IsAmong g) (sym row) (inl refl) in
          let (in_fs, same) = filter_among (λ (f : FieldShape). same_oneof (Some o) (new_oneof gs f)) g fs in_coming in
          let its : new_oneof gs g ≡ Some o = sym (one (Some o) (new_oneof gs g) same) in
          let t : Told = record { numbers = map (λ (f : FieldShape). f.number) (coming gs (Some o) fs); choice = d } in
          let opens : is_first g.number (coming gs (Some o) fs) ≡ true = ap (is_first g.number) row ∙ eq-eqb g.number g.number refl in
          let here : told_oneof gs fs g ≡ t ∷ [] = rw (its, opens, least) refl in
          let met : IsAmong d (meetings gs (coming gs (Some o) fs)) = (filter_among (λ (e : Choice). nat_le e.cost cap) d (meetings gs (coming gs (Some o) fs)) is.0).0 in
          let two_d = met_two gs (coming gs (Some o) fs) d met in (
            t,
            among_flat (told_at enum_view gs fs) g t fs in_fs (append_right t (told_own enum_view gs g) (told_oneof gs fs g) (subst (IsAmong t) (sym here) (inl refl))),
            record {
              alone = λ apart. absurd (let no : true ≡ false = sym (ap (λ (e : Choice). is_oneof e.case) two.is) ∙ apart in cc);
              together = λ _. record {
                oneof = ap (λ (e : Choice). is_oneof e.case) two_d.is;
                first = subst (λ n. IsAmong n t.numbers) (sym (ap (λ (e : Choice). e.number) two.is)) (number_in two.first two.first_among);
                second = subst (λ n. IsAmong n t.numbers) (sym (ap (λ (e : Choice). e.part) two.is)) (number_in two.second two.second_among);
                least = among_each (λ (e : Choice). d.cost ≤ e.cost) c (affordable (meetings gs (coming gs (Some o) fs))) paid is.1;
              };
            },
          )

  pub are_told : (c : Choice) → IsAmong c cs → (t : Told) × IsAmong t told × IsToldBy c t
  are_told c among =
      let (all, cheap) = filter_among (λ (d : Choice). nat_le d.cost cap) c (all_choices enum_view no_bounds gs fs) among in
      ⊎_elim
      (λ own. let (f, in_fs, here) = own in
      let paid = among_filter (λ (d : Choice). nat_le d.cost cap) c (choices_beside enum_view no_bounds f (field_at gs f.number)) here cheap in
      let alone : is_oneof c.case ≡ false = among_each (λ (d : Choice). is_oneof d.case ≡ false) c (choices_beside enum_view no_bounds f (field_at gs f.number)) here (own_alone enum_view f (field_at gs f.number)) in (
        told_alone c,
        among_flat (told_at enum_view gs fs) f (told_alone c) fs in_fs (append_left (told_alone c) (told_own enum_view gs f) (told_oneof gs fs f) (among_map told_alone c (affordable (choices_beside enum_view no_bounds f (field_at gs f.number))) paid)),
        record { alone = λ _. refl; together = λ oneof. absurd (let no : true ≡ false = sym oneof ∙ alone in cc) },
      ))
      (λ met. let (o, found) = met_coming gs fs c met in told_with c o found cheap)
      (all_split enum_view no_bounds gs fs c all)

  -- a told cause of two that meet is that of a new oneof
  together : (t : Told) → IsAmong t told → is_oneof t.choice.case ≡ true → Together t
  together t among oneof =
      ⊎_elim
      (λ own. let (f, c, in_fs, in_own, is) = own in
      let here = (filter_among (λ (d : Choice). nat_le d.cost cap) c (choices_beside enum_view no_bounds f (field_at gs f.number)) in_own).0 in
      let alone : is_oneof c.case ≡ false = among_each (λ (d : Choice). is_oneof d.case ≡ false) c (choices_beside enum_view no_bounds f (field_at gs f.number)) here (own_alone enum_view f (field_at gs f.number)) in
      absurd (let no : true ≡ false = sym oneof ∙ ap (λ (u : Told). is_oneof u.choice.case) is ∙ alone in cc))
      (λ g. g)
      (cause_is t among)

  -- the field of a number that is told together
  field_of : (t : Told) (g : Together t) (number : ℕ) → IsAmong number t.numbers → (f : FieldShape) × IsAmong f (coming gs (Some g.oneof) fs) × (number ≡ f.number) × (new_oneof gs f ≡ Some g.oneof)
  field_of t g number among =
      let (f, here, is) = map_among (λ (e : FieldShape). e.number) number (coming gs (Some g.oneof) fs) (subst (λ (u : Told). IsAmong number u.numbers) g.is among) in
      (f, here, is, sym (one (Some g.oneof) (new_oneof gs f) (filter_among (λ (e : FieldShape). same_oneof (Some g.oneof) (new_oneof gs e)) f fs here).1))

  pub once : (t u : Told) → IsAmong t told → IsAmong u told → is_oneof t.choice.case ≡ true → is_oneof u.choice.case ≡ true → (number : ℕ) → IsAmong number t.numbers → IsAmong number u.numbers → t ≡ u
  once t u t_among u_among t_oneof u_oneof number in_t in_u =
      let g = together t t_among t_oneof in
      let h = together u u_among u_oneof in
      let (f, f_in, f_is, f_one) = field_of t g number in_t in
      let (e, e_in, e_is, e_one) = field_of u h number in_u in
      let one_oneof : ◌≡◌ {A = Option ℕ} (Some g.oneof) (Some h.oneof) = sym f_one ∙ ap (λ n. new_oneof gs (record { number = n; presence = e.presence; element = e.element; oneof = e.oneof })) (sym f_is ∙ e_is) ∙ e_one in
      let same : g.oneof ≡ h.oneof = cc in
      let choices_same : ◌≡◌ {A = Option Choice} (Some g.choice) (Some h.choice) = sym g.least ∙ ap (λ o. cheapest (affordable (meetings gs (coming gs (Some o) fs)))) same ∙ h.least in
      let choice_same : g.choice ≡ h.choice = cc in
      g.is ∙ (λ i. record { numbers = map (λ (x : FieldShape). x.number) (coming gs (Some (same i)) fs); choice = choice_same i }) ∙ sym h.is

  low : (c : Choice) → IsAmong c (meetings gs fs) → IsAmong c cs
  low c met =
      let all = all_met enum_view no_bounds gs fs c met in
      let cheap : c.cost ≤ 100 = among_each (λ (d : Choice). d.cost ≤ 100) c (all_choices enum_view no_bounds gs fs) all (low-all enum_view gs fs) in
      affordable_in c all (le-leb c.cost cap (omega arith))

  pub each_meets : (t : Told) → IsAmong t told → is_oneof t.choice.case ≡ true → (number : ℕ) → IsAmong number t.numbers → Meets enum_view old new pair number
  each_meets t among oneof number here = of (nat_eq e.number two.first.number) (nat_eq e.number two.second.number) (same_oneof e.oneof two.first.oneof) refl refl refl
    where
      g : Together t
      g = together t among oneof

      two : Two gs (coming gs (Some g.oneof) fs) g.choice
      two = met_two gs (coming gs (Some g.oneof) fs) g.choice (met_all_by t g).0

      found : (f : FieldShape) × IsAmong f (coming gs (Some g.oneof) fs) × (number ≡ f.number) × (new_oneof gs f ≡ Some g.oneof)
      found = field_of t g number here

      e : FieldShape
      e = found.0

      its : (f : FieldShape) → IsAmong f (coming gs (Some g.oneof) fs) → new_oneof gs f ≡ Some g.oneof
      its f f_in = sym (one (Some g.oneof) (new_oneof gs f) (filter_among (λ (x : FieldShape). same_oneof (Some g.oneof) (new_oneof gs x)) f fs f_in).1)

      joins_by : (a b : FieldShape) → IsAmong a (coming gs (Some g.oneof) fs) → IsAmong b (coming gs (Some g.oneof) fs) → same_oneof a.oneof b.oneof ≡ false → joins gs a b ≡ true
      joins_by a b a_in b_in apart = joins_is gs a b ∙ (rw (its a a_in, its b b_in, apart, eq-eqb g.oneof g.oneof refl) refl)

      this : (c : Choice) → IsAmong c (meetings gs (coming gs (Some g.oneof) fs)) → is_oneof c.case ≡ true → (c.number ≡ number) ⊎ (c.part ≡ number) → Meets enum_view old new pair number
      this c met is which = record { meeting = c; among = low c (met_all gs (Some g.oneof) fs c met); oneof = is; one = which }

      beside : (x : FieldShape) → IsAmong x (coming gs (Some g.oneof) fs) → (e.number ≡ x.number → ⊥) → same_oneof e.oneof x.oneof ≡ false → same_oneof x.oneof e.oneof ≡ false → Meets enum_view old new pair number
      beside x x_in apart not_one one_not =
          ⊎_elim
          (λ met. this (meeting e x) met refl (inl (sym found.2)))
          (λ met. this (meeting x e) met refl (inr (sym found.2)))
          (met_either gs (coming gs (Some g.oneof) fs) e x found.1 x_in apart (joins_by e x found.1 x_in not_one) (joins_by x e x_in found.1 one_not))

      symmetric : (o q : Option ℕ) → same_oneof o q ≡ false → same_oneof q o ≡ false
      symmetric o q apart = not_turned (same_oneof q o) refl
        where
          not_turned : (b : Bool) → same_oneof q o ≡ b → b ≡ false
          not_turned false is = refl
          not_turned true is = absurd (let no : true ≡ false = sym (turned q o is) ∙ apart in cc)

      apart_two : same_oneof two.first.oneof two.second.oneof ≡ false
      apart_two = not-true (same_oneof two.first.oneof two.second.oneof) (and_parts (same_oneof (new_oneof gs two.first) (new_oneof gs two.second)) (not (same_oneof two.first.oneof two.second.oneof)) (sym (joins_is gs two.first two.second) ∙ two.meet)).1

      -- what is in the first one's old oneof isn't in the second one's
      not_second : same_oneof e.oneof two.first.oneof ≡ true → same_oneof e.oneof two.second.oneof ≡ false
      not_second is = subst (λ o. same_oneof o two.second.oneof ≡ false) (sym (one e.oneof two.first.oneof is)) apart_two

      of : (b c d : Bool) → nat_eq e.number two.first.number ≡ b → nat_eq e.number two.second.number ≡ c → same_oneof e.oneof two.first.oneof ≡ d → Meets enum_view old new pair number
      of true c d is_first_one is_c is_d =
          this g.choice (met_all_by t g).0 (ap (λ (x : Choice). is_oneof x.case) two.is) (inl (ap (λ (x : Choice). x.number) two.is ∙ sym (eqb-true e.number two.first.number is_first_one) ∙ sym found.2))
      of false true d is_b is_second is_d =
          this g.choice (met_all_by t g).0 (ap (λ (x : Choice). is_oneof x.case) two.is) (inr (ap (λ (x : Choice). x.part) two.is ∙ sym (eqb-true e.number two.second.number is_second) ∙ sym found.2))
      of false false false is_b is_c is_d =
          beside two.first two.first_among (λ same. absurd (let no : false ≡ true = sym is_b ∙ eq-eqb e.number two.first.number same in cc)) is_d (symmetric e.oneof two.first.oneof is_d)
      of false false true is_b is_c is_d =
          let apart = not_second is_d in
          beside two.second two.second_among (λ same. absurd (let no : false ≡ true = sym is_c ∙ eq-eqb e.number two.second.number same in cc)) apart (symmetric e.oneof two.second.oneof apart)

  -- a cause of one field has just its number
  alone_is : (t : Told) → IsAmong t told → is_oneof t.choice.case ≡ false → t.numbers ≡ t.choice.number ∷ []
  alone_is t among alone =
      ⊎_elim
      (λ own. let (f, c, in_fs, in_own, is) = own in subst (λ (u : Told). u.numbers ≡ u.choice.number ∷ []) (sym is) refl)
      (λ g.
      let two = met_two gs (coming gs (Some g.oneof) fs) g.choice (met_all_by t g).0 in
      absurd (let no : true ≡ false = sym (ap (λ (c : Choice). is_oneof c.case) two.is) ∙ ap (λ (u : Told). is_oneof u.choice.case) (sym g.is) ∙ alone in cc))
      (cause_is t among)

  module _ (is_old : IsShape old) where
    each_found : (f : FieldShape) → IsAmong f fs → field_at fs f.number ≡ Some f
    each_found f among = among_each (λ (x : FieldShape). field_at fs x.number ≡ Some x) f fs among (fields_are_found.2 fs (fields_are_found.0 old pair.old is_old).rising)

    in_fields : (o : ℕ) (f : FieldShape) → IsAmong f (coming gs (Some o) fs) → IsAmong f fs × (new_oneof gs f ≡ Some o)
    in_fields o f here =
        let (in_fs, same) = filter_among (λ (x : FieldShape). same_oneof (Some o) (new_oneof gs x)) f fs here in
        (in_fs, sym (one (Some o) (new_oneof gs f) same))

    comes_into : (o : ℕ) (f : FieldShape) → IsAmong f (coming gs (Some o) fs) → ComesInto old new pair o f.number
    comes_into o f here = of (field_at gs f.number) refl
      where
        of : (q : Option FieldShape) → field_at gs f.number ≡ q → ComesInto old new pair o f.number
        of (Some g) at =
            let into : new_oneof gs f ≡ Some o = (in_fields o f here).1 in
            record { old_field = f; new_field = g; old_found = each_found f (in_fields o f here).0; new_found = at; into = (rw at at into) }
        of None at =
            let into : new_oneof gs f ≡ Some o = (in_fields o f here).1 in
            absurd (let no : ◌≡◌ {A = Option ℕ} None (Some o) = (rw at at into) in cc)

    comes_of : (o number : ℕ) → ComesInto old new pair o number → IsAmong number (map (λ (f : FieldShape). f.number) (coming gs (Some o) fs))
    comes_of o number c =
        let at : c.old_field.number ≡ number = fields_are_found.1 fs number c.old_field c.old_found in
        let found : field_at gs c.old_field.number ≡ Some c.new_field = ap (field_at gs) at ∙ c.new_found in
        let its : new_oneof gs c.old_field ≡ Some o = rw found c.into in
        subst (λ n. IsAmong n (map (λ (f : FieldShape). f.number) (coming gs (Some o) fs))) at
        (among_map (λ (f : FieldShape). f.number) c.old_field (coming gs (Some o) fs)
        (among_filter (λ (f : FieldShape). same_oneof (Some o) (new_oneof gs f)) c.old_field fs (found_among fs number c.old_field c.old_found) (rw its (eq-eqb o o refl))))

    come_into_one : (t : Told) → Together t → ComeIntoOne old new pair t.numbers t.choice
    come_into_one t g =
        let two = met_two gs (coming gs (Some g.oneof) fs) g.choice (met_all_by t g).0 in
        let apart : same_oneof two.first.oneof two.second.oneof ≡ false =
        not-true (same_oneof two.first.oneof two.second.oneof) (and_parts (same_oneof (new_oneof gs two.first) (new_oneof gs two.second)) (not (same_oneof two.first.oneof two.second.oneof)) (sym (joins_is gs two.first two.second) ∙ two.meet)).1 in
        let first_found = each_found two.first (in_fields g.oneof two.first two.first_among).0 in
        let second_found = each_found two.second (in_fields g.oneof two.second two.second_among).0 in
        subst (λ (u : Told). ComeIntoOne old new pair u.numbers u.choice) (sym g.is) (record {
          oneof = g.oneof;
          each = each-map (ComesInto old new pair g.oneof) (λ (f : FieldShape). f.number) (coming gs (Some g.oneof) fs)
              (every_is_among (λ (f : FieldShape). ComesInto old new pair g.oneof f.number) (coming gs (Some g.oneof) fs) (comes_into g.oneof));
          all = comes_of g.oneof;
          first = two.first;
          second = two.second;
          first_found = ap (field_at fs) (ap (λ (c : Choice). c.number) two.is) ∙ first_found;
          second_found = ap (field_at fs) (ap (λ (c : Choice). c.part) two.is) ∙ second_found;
          apart = apart;
        })

    pub have_fields : AllByRecursion (λ (t : Told). HasItsFields old new pair t.numbers t.choice) told
    have_fields =
        every_is_among (λ (t : Told). HasItsFields old new pair t.numbers t.choice) told
        (λ t among. record { alone = alone_is t among; together = λ oneof. come_into_one t (together t among oneof) })

pub causes_are_told : CausesAreTold
causes_are_told = record { are_causes = are_causes; are_of_fields = are_of_fields; are_told = are_told; each_meets = each_meets; once = once }

pub causes_have_their_fields : CausesHaveTheirFields
causes_have_their_fields enum_view old new is_old pair = have_fields enum_view old new pair is_old
