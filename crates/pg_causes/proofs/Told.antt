-- Each reason is told, once, at its fields, by a shortest message.
use Rattle.std.proofs.Common.{◌≡◌, ◌∙◌, ℕ, ◌≤◌, nat_eq, List, [], ◌∷◌, ◌++◌, map, length, Bool, true, false, not, if◌then◌else◌, ◌⊎◌, inl, inr, ⊎_elim, refl, ap, sym, subst, eq-eqb}
use Rattle.std.specs.List.{AllByRecursion, flat_map}
use Rattle.std.proofs.lemmas.Bool.{cases_Bool}
use Rattle.pg_schema.specs.declared.parts.Parts.{Parts}
use Rattle.pg_schema.specs.Parts.{shape_of}
use Rattle.pg_schema.specs.Shape.{FieldShape, Shape, field_at, fields}
use Rattle.pg_schema.specs.ShapeRules.{IsShape}
use Rattle.pg_dyn.specs.encoding.Encoding.{enc}
use Rattle.pg_dyn.specs.message.Message.{Message}
use Rattle.pg_dyn.specs.views.Breaking.{Breaks}
use Rattle.pg_dyn.proofs.Lists.{each-filter, each-flat_map, each-map, each_both, each_of_all, each_weaker}
use Rattle.pg_pairs.specs.declared.choices.case.Case.{Case}
use Rattle.pg_pairs.specs.declared.choices.case.Case.TheVariants as cases
use Rattle.pg_pairs.specs.declared.choices.choice.Choice.{Choice}
use Rattle.pg_pairs.specs.declared.choices.choice.Pair.{Pair}
use Rattle.pg_pairs.specs.bounds.Covering.{IsAmong, children, distinct, same_pair}
use Rattle.pg_pairs.specs.graph.Reached.{IsReachedFrom}
use Rattle.pg_pairs.specs.choices.Choices.{is_oneof}
use Rattle.pg_pairs.specs.choices.Told.{Told, told_causes}
use Rattle.pg_pairs.specs.laws.FieldCosts.{IsShared}
use Rattle.pg_pairs.specs.laws.BreaksTold.{BreaksAreTold}
use Rattle.pg_pairs.specs.laws.ToldLaws.{CausesAreTold}
use Rattle.pg_pairs.specs.laws.WaysTold.{AreApart, AreToldAt, CausesAreApart, CausesHaveTheirFields, HasItsFields, IsAnother, IsToldAt, Pairwise, WaysAreTold, WaysOf}
use Rattle.pg_pairs.specs.views.EnumView.{EnumView}
use Rattle.pg_pairs.specs.views.ViewLaws.{IsEnumView}
use Rattle.pg_pairs.proofs.lemmas.choices.Among.{among_each}
use Rattle.pg_pairs.proofs.lemmas.choices.Apart.{pairwise-append, pairwise-filter, pairwise-map, pairwise-weaker}
use Rattle.pg_pairs.proofs.lemmas.graph.Reaching.{every_is_among}
use Rattle.pg_pairs.proofs.lemmas.views.NameLaws.{among_map, map_among}
use Rattle.pg_causes.specs.Causes.{AreTwo, EachReasonIsTold, IsCause, IsShortest, IsToldFor, OwnFields, ToldIn, causes_at, in_pair, told_in}
use Rattle.pg_causes.specs.Reasons.{are_enums, are_of_enums, item_reason, reason_by, reason_of}
use Rattle.pg_causes.specs.Why.{BreaksFor}
use Rattle.pg_causes.specs.declared.overview.Cause.{Cause}
use Rattle.pg_causes.specs.declared.overview.Reason.{Reason}
use Rattle.pg_causes.specs.declared.overview.Reason.TheVariants as reasons
use Rattle.pg_causes.proofs.Explained.{told_of_pair}

-- Lists.

unmapped : {A B : Type 0} (P : B → Type 0) (f : A → B) (xs : List A) → AllByRecursion P (map f xs) → AllByRecursion (λ x. P (f x)) xs
unmapped P f [] all = tt
unmapped P f (x ∷ xs) all = (all.0, unmapped P f xs all.1)

pairwise_unmapped : {A B : Type 0} (R : B → B → Type 0) (f : A → B) (xs : List A) → Pairwise R (map f xs) → Pairwise (λ x y. R (f x) (f y)) xs
pairwise_unmapped R f [] each = tt
pairwise_unmapped R f (x ∷ xs) each = (unmapped (R (f x)) f xs each.0, pairwise_unmapped R f xs each.1)

pairwise_with : {A : Type 0} (P : A → Type 0) (R : A → A → Type 0) (xs : List A) → AllByRecursion P xs → Pairwise R xs → Pairwise (λ x y. P x × P y × R x y) xs
pairwise_with P R [] all each = tt
pairwise_with P R (x ∷ xs) all each = (
  each_weaker (λ y. P y × R x y) (λ y. P x × P y × R x y) (λ y h. (all.0, h.0, h.1)) xs (each_both P (R x) xs all.1 each.0),
  pairwise_with P R xs all.1 each.1,
)

-- of two that are among them one stands first, unless they are the same
pairwise_among : {A : Type 0} (R : A → A → Type 0) (xs : List A) → Pairwise R xs → (x y : A) → IsAmong x xs → IsAmong y xs → (x ≡ y) ⊎ (R x y ⊎ R y x)
pairwise_among R [] each x y in_x in_y = absurd in_x
pairwise_among R (z ∷ zs) each x y in_x in_y =
    ⊎_elim
    (λ is_x. ⊎_elim (λ is_y. inl (is_x ∙ sym is_y)) (λ later_y. inr (inl (subst (λ w. R w y) (sym is_x) (among_each (R z) y zs later_y each.0)))) in_y)
    (λ later_x. ⊎_elim (λ is_y. inr (inr (subst (λ w. R w x) (sym is_y) (among_each (R z) x zs later_x each.0)))) (λ later_y. pairwise_among R zs each.1 x y later_x later_y) in_y) in_x

among_flat_map : {A B : Type 0} (h : A → List B) (y : B) (xs : List A) → IsAmong y (flat_map h xs) → (x : A) × IsAmong x xs × IsAmong y (h x)
among_flat_map h y [] among = absurd among
among_flat_map {A} {B} h y (x ∷ xs) among = ⊎_elim (λ here. (x, inl refl, here)) (λ later. let (z, there, is) = among_flat_map h y xs later in (z, inr there, is)) (parts (h x) among)
  where
    parts : (ys : List B) → IsAmong y (ys ++ flat_map h xs) → IsAmong y ys ⊎ IsAmong y (flat_map h xs)
    parts [] m = inr m
    parts (z ∷ zs) m = ⊎_elim (λ same. inl (inl same)) (λ later. ⊎_elim (λ first. inl (inr first)) (λ second. inr second) (parts zs later)) m

-- each of distinct pairs is another one
distinct_apart : (ps : List Pair) → Pairwise (λ p q. p ≡ q → ⊥) (distinct ps)
distinct_apart [] = tt
distinct_apart (p ∷ ps) = (
  each_weaker (λ q. Unit {0} × (not (same_pair p q) ≡ true)) (λ q. p ≡ q → ⊥) (λ q h same. other q same h.1) _
      (each-filter (λ q. Unit {0}) (λ q. not (same_pair p q)) (distinct ps) (each_of_all (λ q. Unit {0}) (λ q. tt) (distinct ps))),
  pairwise-filter (λ p q. p ≡ q → ⊥) (λ q. not (same_pair p q)) (distinct ps) (distinct_apart ps),
)
  where
    other : (q : Pair) → p ≡ q → not (same_pair p q) ≡ true → ⊥
    other q same h =
        let here : same_pair p q ≡ true = subst (λ r. same_pair p r ≡ true) same (rw (eq-eqb p.old.index p.old.index refl, eq-eqb p.new.index p.new.index refl) refl) in
        let no : false ≡ true = (rw here at h) in cc

pub pairs_apart : (old new : Shape) (roots pairs : List Pair) → IsReachedFrom (children old new) roots pairs → Pairwise (λ (p q : Pair). p ≡ q → ⊥) pairs
pairs_apart old new roots pairs reached =
    subst (Pairwise (λ (p q : Pair). p ≡ q → ⊥)) (sym reached.in_order) (distinct_apart (roots ++ flat_map (children old new) pairs))

-- Reasons.

oneof_reason : (enums : Bool) (case : Case) (part : ℕ) → is_oneof case ≡ true → reason_by enums case part ≡ reasons.Oneof
oneof_reason enums cases.Unlike part h = absurd (cc)
oneof_reason enums cases.Gap part h = absurd (cc)
oneof_reason enums cases.Child part h = absurd (cc)
oneof_reason enums cases.List part h = absurd (cc)
oneof_reason enums cases.Map part h = absurd (cc)
oneof_reason enums cases.Oneof part h = refl

abbrev is_oneof_reason : Reason → Bool
is_oneof_reason reasons.Oneof = true
is_oneof_reason reasons.Unlike = false
is_oneof_reason reasons.Value = false
is_oneof_reason reasons.Name = false
is_oneof_reason reasons.ListToOne = false
is_oneof_reason reasons.Map = false
is_oneof_reason reasons.MapKey = false
is_oneof_reason reasons.MapValue = false

reason_oneof : (enums : Bool) (case : Case) (part : ℕ) → is_oneof_reason (reason_by enums case part) ≡ is_oneof case
reason_oneof enums cases.Unlike part = refl
reason_oneof true cases.Gap part = refl
reason_oneof false cases.Gap part = refl
reason_oneof enums cases.Child part = refl
reason_oneof enums cases.List part = refl
reason_oneof enums cases.Map part = of (nat_eq part 1) (nat_eq part 2)
  where
    of : (b c : Bool) → is_oneof_reason (if b then reasons.MapKey else if c then reasons.MapValue else reasons.Map) ≡ false
    of true c = refl
    of false true = refl
    of false false = refl
reason_oneof enums cases.Oneof part = refl

another_reason : (old new : Shape) (pair : Pair) (c d : Choice) → IsAnother c d → reason_of old new pair c ≡ reason_of old new pair d → ⊥
another_reason old new pair c d another same =
    ⊎_elim (λ item. gap_or_list item.0 item.1) (λ entry. key_or_value entry.0 entry.1 entry.2 entry.3) another
  where
    no_list : (b : Bool) → item_reason b ≡ reasons.ListToOne → ⊥
    no_list true h = absurd (cc)
    no_list false h = absurd (cc)

    gap_or_list : c.case ≡ cases.Gap → d.case ≡ cases.List → ⊥
    gap_or_list is_c is_d =
        no_list (are_of_enums (field_at (fields old pair.old) c.number) (field_at (fields new pair.new) c.number))
        (sym (ap (λ x. reason_by (are_of_enums (field_at (fields old pair.old) c.number) (field_at (fields new pair.new) c.number)) x c.part) is_c) ∙ same
        ∙ ap (λ x. reason_by (are_of_enums (field_at (fields old pair.old) d.number) (field_at (fields new pair.new) d.number)) x d.part) is_d)

    key_or_value : c.case ≡ cases.Map → d.case ≡ cases.Map → c.part ≡ 1 → d.part ≡ 2 → ⊥
    key_or_value is_c is_d part_c part_d =
        let first : reason_of old new pair c ≡ reasons.MapKey =
        (λ i. reason_by (are_of_enums (field_at (fields old pair.old) c.number) (field_at (fields new pair.new) c.number)) (is_c i) (part_c i)) in
        let second : reason_of old new pair d ≡ reasons.MapValue =
        (λ i. reason_by (are_of_enums (field_at (fields old pair.old) d.number) (field_at (fields new pair.new) d.number)) (is_d i) (part_d i)) in
        let no : reasons.MapKey ≡ reasons.MapValue = sym first ∙ same ∙ second in absurd (cc)

module _ (enum_view : EnumView) (old new : Parts) (law : IsEnumView enum_view) (is_old : IsShape (shape_of old)) (is_new : IsShape (shape_of new)) (pairs : List Pair) (told : List Cause)
    (are : map told_in told ≡ flat_map (causes_at enum_view (shape_of old) (shape_of new)) pairs) (each : AllByRecursion (IsCause enum_view old new) told) where
  abbrev of_pair : Pair → List Told
  of_pair pair = told_causes enum_view (shape_of old) (shape_of new) pair

  -- a cause of the list is told of one of the pairs
  pub record IsOf (c : Cause) : Type 0 where
    pub pair : Pair
    pub pair_among : IsAmong pair pairs
    pub as_told : Told
    pub told_among : IsAmong as_told (of_pair pair)
    pub same : told_in c ≡ in_pair pair as_told

  pub is_of : (c : Cause) → IsAmong c told → IsOf c
  is_of c among =
      let (pair, in_pairs, here) = among_flat_map (causes_at enum_view (shape_of old) (shape_of new)) (told_in c) pairs (subst (IsAmong (told_in c)) are (among_map told_in c told among)) in
      let (t, in_told, same) = map_among (in_pair pair) (told_in c) (of_pair pair) here in
      record { pair = pair; pair_among = in_pairs; as_told = t; told_among = in_told; same = same }

  pub cause_of : (c : Cause) → IsAmong c told → IsCause enum_view old new c
  cause_of c among = among_each (IsCause enum_view old new) c told among each

  -- Each has its own fields.

  pub each_own : CausesHaveTheirFields → AllByRecursion (OwnFields old new) told
  each_own have =
      unmapped (λ (x : ToldIn). HasItsFields (shape_of old) (shape_of new) x.pair x.told.numbers x.told.choice) told_in told
      (subst (AllByRecursion (λ (x : ToldIn). HasItsFields (shape_of old) (shape_of new) x.pair x.told.numbers x.told.choice)) (sym are)
      (each-flat_map (λ (x : ToldIn). HasItsFields (shape_of old) (shape_of new) x.pair x.told.numbers x.told.choice) (causes_at enum_view (shape_of old) (shape_of new)) pairs
      (each_of_all (λ p. AllByRecursion (λ (x : ToldIn). HasItsFields (shape_of old) (shape_of new) x.pair x.told.numbers x.told.choice) (causes_at enum_view (shape_of old) (shape_of new) p))
      (λ p. each-map (λ (x : ToldIn). HasItsFields (shape_of old) (shape_of new) x.pair x.told.numbers x.told.choice) (in_pair p) (of_pair p) (have enum_view (shape_of old) (shape_of new) is_old p)) pairs)))

  -- Each is told once.

  abbrev ApartIn : ToldIn → ToldIn → Type 0
  ApartIn x y = x.pair ≡ y.pair → AreApart x.told y.told

  all_apart : CausesAreApart → (ps : List Pair) → Pairwise (λ (p q : Pair). p ≡ q → ⊥) ps → Pairwise ApartIn (flat_map (causes_at enum_view (shape_of old) (shape_of new)) ps)
  all_apart apart [] other = tt
  all_apart apart (p ∷ ps) other =
      pairwise-append ApartIn (map (in_pair p) (of_pair p)) (flat_map (causes_at enum_view (shape_of old) (shape_of new)) ps)
      (pairwise-map ApartIn (in_pair p) (of_pair p) (pairwise-weaker AreApart (λ t u. ApartIn (in_pair p t) (in_pair p u)) (λ t u h same. h) (of_pair p) (apart enum_view (shape_of old) (shape_of new) is_old p)))
      (all_apart apart ps other.1)
      (each-map (λ x. AllByRecursion (ApartIn x) (flat_map (causes_at enum_view (shape_of old) (shape_of new)) ps)) (in_pair p) (of_pair p)
      (each_of_all (λ t. AllByRecursion (ApartIn (in_pair p t)) (flat_map (causes_at enum_view (shape_of old) (shape_of new)) ps))
      (λ t. each-flat_map (ApartIn (in_pair p t)) (causes_at enum_view (shape_of old) (shape_of new)) ps
      (each_weaker (λ (q : Pair). p ≡ q → ⊥) (λ q. AllByRecursion (ApartIn (in_pair p t)) (causes_at enum_view (shape_of old) (shape_of new) q))
      (λ q differ. each-map (ApartIn (in_pair p t)) (in_pair q) (of_pair q) (each_of_all (λ u. ApartIn (in_pair p t) (in_pair q u)) (λ u same. absurd (differ same)) (of_pair q))) ps other.0)) (of_pair p)))

  two_of : (c d : Cause) → IsCause enum_view old new c → IsCause enum_view old new d → ApartIn (told_in c) (told_in d) → AreTwo c d
  two_of c d is_c is_d apart pair numbers reason =
      ⊎_elim
      (λ differ. differ numbers)
      (λ another.
      another_reason (shape_of old) (shape_of new) c.at.pair c.at.choice d.at.choice another
      (sym is_c.reason ∙ reason ∙ is_d.reason ∙ ap (λ p. reason_of (shape_of old) (shape_of new) p d.at.choice) (sym pair)))
      (apart pair)

  module _ (apart : CausesAreApart) (other : Pairwise (λ (p q : Pair). p ≡ q → ⊥) pairs) where
    pub told_once : Pairwise AreTwo told
    told_once =
        pairwise-weaker (λ c d. IsCause enum_view old new c × IsCause enum_view old new d × ApartIn (told_in c) (told_in d)) AreTwo (λ c d h. two_of c d h.0 h.1 h.2) told
        (pairwise_with (IsCause enum_view old new) (λ c d. ApartIn (told_in c) (told_in d)) told each
        (pairwise_unmapped ApartIn told_in told (subst (Pairwise ApartIn) (sym are) (all_apart apart pairs other))))

  -- Each reason is told.

  module _ (breaks_told : BreaksAreTold) (ways_are_told : WaysAreTold) where
    module _ (pair : Pair) (in_pairs : IsAmong pair pairs) (message : Message) (breaks : Breaks enum_view.alike (shape_of old) (shape_of new) pair.old pair.new message) where
      abbrev bytes : ℕ
      bytes = length (enc (shape_of old) pair.old message)

      ways : WaysOf enum_view (shape_of old) (shape_of new) pair message (of_pair pair)
      ways = ways_are_told enum_view (shape_of old) (shape_of new) law is_old is_new pair message breaks

      abbrev enums_at : ℕ → Bool
      enums_at n = are_of_enums (field_at (fields (shape_of old) pair.old) n) (field_at (fields (shape_of new) pair.new) n)

      -- what is told of the pair, as a cause
      to_cause : (t : Told) → IsAmong t (of_pair pair) → (reason : Reason) (number : ℕ) → reason_by (enums_at t.choice.number) t.choice.case t.choice.part ≡ reason → IsAmong number t.numbers → t.choice.cost ≤ bytes → IsToldFor old told pair reason number message
      to_cause t in_told reason number is at least =
          let (c, among, same) = told_of_pair enum_view old new law is_old is_new breaks_told pairs told are each pair in_pairs t in_told in
          let cause = cause_of c among in
          let pair_is : pair ≡ c.at.pair = ap (λ (x : ToldIn). x.pair) same in
          let choice_is : t.choice ≡ c.at.choice = ap (λ (x : ToldIn). x.told.choice) same in
          let cost : c.at.choice.cost ≤ bytes = subst (λ (d : Choice). d.cost ≤ bytes) choice_is least in
          record {
            cause = c;
            among = among;
            of_pair = sym pair_is;
            for_reason = cause.reason ∙ ap (λ p. reason_of (shape_of old) (shape_of new) p c.at.choice) (sym pair_is) ∙ ap (reason_of (shape_of old) (shape_of new) pair) (sym choice_is) ∙ is;
            field = subst (IsAmong number) (ap (λ (x : ToldIn). x.told.numbers) same) at;
            least = subst (λ n. n ≤ bytes) (sym cause.long) cost;
          }

      at_field : (case : Case) (part : ℕ) (reason : Reason) (number : ℕ) → reason_by (enums_at number) case part ≡ reason → IsToldAt (of_pair pair) number case part bytes → IsToldFor old told pair reason number message
      at_field case part reason number is t =
          to_cause t.cause t.among reason number ((λ i. reason_by (enums_at (t.by_number i)) (t.by_case i) (t.by_part i)) ∙ is) (subst (IsAmong number) (sym t.field) (inl refl)) t.least

      of_two : (number first second : ℕ) → AreToldAt (of_pair pair) first second bytes → (number ≡ first) ⊎ (number ≡ second) → IsToldFor old told pair reasons.Oneof number message
      of_two number first second t which =
          to_cause t.cause t.among reasons.Oneof number (oneof_reason (enums_at t.cause.choice.number) t.cause.choice.case t.cause.choice.part t.oneof)
          (⊎_elim (λ is. subst (λ n. IsAmong n t.cause.numbers) (sym is) t.first_among) (λ is. subst (λ n. IsAmong n t.cause.numbers) (sym is) t.second_among) which) t.least

      module _ (f g : FieldShape) (shared : IsShared (shape_of old) (shape_of new) pair f g) where
        enums_are : enums_at f.number ≡ are_enums f.element g.element
        enums_are = rw (shared.old_field, shared.new_field) refl

        for_reason : (reason : Reason) → BreaksFor enum_view (shape_of old) (shape_of new) pair reason f g message → IsToldFor old told pair reason f.number message
        for_reason reasons.Unlike h = at_field cases.Unlike 0 reasons.Unlike f.number refl (ways.unlike f g shared h)
        for_reason reasons.Value h = at_field cases.Gap 0 reasons.Value f.number (ap item_reason (enums_are ∙ h.0)) (ways.item f g shared h.1)
        for_reason reasons.Name h = at_field cases.Gap 0 reasons.Name f.number (ap item_reason (enums_are ∙ h.0)) (ways.item f g shared h.1)
        for_reason reasons.ListToOne h = at_field cases.List 0 reasons.ListToOne f.number refl (ways.list f g shared h)
        for_reason reasons.Map h = at_field cases.Map 0 reasons.Map f.number refl (ways.entry f g shared h)
        for_reason reasons.MapKey h = at_field cases.Map 1 reasons.MapKey f.number refl (ways.key f g shared h)
        for_reason reasons.MapValue h = at_field cases.Map 2 reasons.MapValue f.number refl (ways.value f g shared h)
        for_reason reasons.Oneof h =
            ⊎_elim
            (λ both. of_two f.number f.number h.other (ways.both f.number h.other both) (inl refl))
            (λ both. of_two f.number h.other f.number (ways.both h.other f.number both) (inr refl)) h.both

    pub each_reason : AllByRecursion (EachReasonIsTold enum_view old new told) pairs
    each_reason = every_is_among (EachReasonIsTold enum_view old new told) pairs (λ pair in_pairs message breaks f g shared reason h. for_reason pair in_pairs message breaks f g shared reason h)

    -- The message of each cause is a shortest one.
    module _ (apart : CausesAreApart) (other : Pairwise (λ (p q : Pair). p ≡ q → ⊥) pairs) (have : CausesHaveTheirFields) (causes_told : CausesAreTold) where
      of_oneof : (c : Cause) → IsAmong c told → is_oneof_reason c.reason ≡ is_oneof c.at.choice.case
      of_oneof c among =
          ap is_oneof_reason (cause_of c among).reason
          ∙ reason_oneof (are_of_enums (field_at (fields (shape_of old) c.at.pair.old) c.at.choice.number) (field_at (fields (shape_of new) c.at.pair.new) c.at.choice.number)) c.at.choice.case c.at.choice.part

      lone : (c : Cause) → IsAmong c told → is_oneof c.at.choice.case ≡ false → (n : ℕ) → IsAmong n c.numbers.items → c.numbers.items ≡ n ∷ []
      lone c among alone n at =
          let own = (among_each (OwnFields old new) c told among (each_own have)).alone alone in
          let is : n ≡ c.at.choice.number = ⊎_elim (λ same. same) (λ no. absurd no) (subst (IsAmong n) own at) in
          own ∙ ap (λ m. m ∷ []) (sym is)

      -- two causes of one pair and for one reason that have a field in common cost the same
      same_cost : (c d : Cause) → IsAmong c told → IsAmong d told → c.at.pair ≡ d.at.pair → c.reason ≡ d.reason → (n : ℕ) → IsAmong n c.numbers.items → IsAmong n d.numbers.items → length c.message.items ≡ length d.message.items
      same_cost c d in_c in_d pair reason n at_c at_d = ⊎_elim together alone (cases_Bool (is_oneof c.at.choice.case))
        where
          cases_same : is_oneof c.at.choice.case ≡ is_oneof d.at.choice.case
          cases_same = sym (of_oneof c in_c) ∙ ap is_oneof_reason reason ∙ of_oneof d in_d

          alone : is_oneof c.at.choice.case ≡ false → length c.message.items ≡ length d.message.items
          alone is_c =
              let numbers : c.numbers.items ≡ d.numbers.items = lone c in_c is_c n at_c ∙ sym (lone d in_d (sym cases_same ∙ is_c) n at_d) in
              ⊎_elim
              (λ same. ap (λ (x : Cause). length x.message.items) same)
              (λ two. absurd (⊎_elim (λ first. first pair numbers reason) (λ second. second (sym pair) (sym numbers) (sym reason)) two))
              (pairwise_among AreTwo told (told_once apart other) c d in_c in_d)

          together : is_oneof c.at.choice.case ≡ true → length c.message.items ≡ length d.message.items
          together is_c =
              let of_c = is_of c in_c in
              let of_d = is_of d in_d in
              let pairs_same : of_d.pair ≡ of_c.pair = sym (ap (λ (x : ToldIn). x.pair) of_d.same) ∙ sym pair ∙ ap (λ (x : ToldIn). x.pair) of_c.same in
              let there : IsAmong of_d.as_told (of_pair of_c.pair) = subst (λ p. IsAmong of_d.as_told (of_pair p)) pairs_same of_d.told_among in
              let t_oneof : is_oneof of_c.as_told.choice.case ≡ true = subst (λ (x : ToldIn). is_oneof x.told.choice.case ≡ true) of_c.same is_c in
              let u_oneof : is_oneof of_d.as_told.choice.case ≡ true = subst (λ (x : ToldIn). is_oneof x.told.choice.case ≡ true) of_d.same (sym cases_same ∙ is_c) in
              let equal = causes_told.once enum_view (shape_of old) (shape_of new) of_c.pair of_c.as_told of_d.as_told of_c.told_among there t_oneof u_oneof n
              (subst (λ (x : ToldIn). IsAmong n x.told.numbers) of_c.same at_c) (subst (λ (x : ToldIn). IsAmong n x.told.numbers) of_d.same at_d) in
              (cause_of c in_c).long ∙ ap (λ (x : ToldIn). x.told.choice.cost) of_c.same ∙ ap (λ (t : Told). t.choice.cost) equal
              ∙ sym (ap (λ (x : ToldIn). x.told.choice.cost) of_d.same) ∙ sym (cause_of d in_d).long

      pub each_shortest : AllByRecursion (IsShortest enum_view old new) told
      each_shortest = every_is_among (IsShortest enum_view old new) told shortest
        where
          shortest : (c : Cause) → IsAmong c told → IsShortest enum_view old new c
          shortest c among message breaks f g shared at h =
              let of_c = is_of c among in
              let in_pairs : IsAmong c.at.pair pairs = subst (λ p. IsAmong p pairs) (sym (ap (λ (x : ToldIn). x.pair) of_c.same)) of_c.pair_among in
              let found = for_reason c.at.pair in_pairs message breaks f g shared c.reason h in
              subst (λ n. n ≤ length (enc (shape_of old) c.at.pair.old message)) (sym (same_cost c found.cause among found.among (sym found.of_pair) (sym found.for_reason) f.number at found.field)) found.least
