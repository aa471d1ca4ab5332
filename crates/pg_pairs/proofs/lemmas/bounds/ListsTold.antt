-- A list of which each item is seen, and that a field of one item doesn't keep, costs as much as the choice of a list.
use Rattle.std.proofs.Common.{◌≡◌, Bool, inl, refl, sym, ◌∙◌, ◌∷◌, [], true, List, Option, Some, ap, subst, arith, false, ℕ, ◌*◌, ◌≤◌, length, eq-eqb, ⊎_elim, nat_eq, subst₂}
use Rattle.std.specs.List.{AllByRecursion}
use Rattle.std.proofs.lemmas.Bool.{cases_Bool}
use Rattle.pg_schema.specs.Shape.{fields, field_at, Shape, FieldShape, is_repeated, is_singular}
use Rattle.pg_schema.specs.ShapeRules.{IsShape}
use Rattle.pg_schema.specs.declared.parts.field.Element.{Element}
use Rattle.pg_schema.specs.declared.parts.field.Element.TheVariants as elements
use Rattle.pg_schema.specs.declared.parts.field.Presence.{Presence}
use Rattle.pg_schema.specs.declared.parts.field.Presence.TheVariants as presences
use Rattle.pg_dyn.specs.encoding.Encoding.{enc}
use Rattle.pg_dyn.specs.fitting.Belonging.{IsMessage}
use Rattle.pg_dyn.specs.laws.ByComparands.{is_field_kept, comparands_at}
use Rattle.pg_dyn.specs.message.Message.{Leaf, Bytes, Message, Plain, Msg, only, IsPlain}
use Rattle.pg_dyn.specs.reading.Decoding.{Reader, dec}
use Rattle.pg_dyn.specs.views.Comparison.{View, Alike, Kept, Comparand, comparands}
use Rattle.pg_dyn.proofs.Lists.{each_weaker, each-filter, filter_all, each_both}
use Rattle.pg_dyn.proofs.PublicLaws.{fields_are_found}
use Rattle.pg_pairs.specs.bounds.Covering.{IsAmong, children, field_children, has_children}
use Rattle.pg_pairs.specs.choices.Choices.{choice, singular_cost}
use Rattle.pg_pairs.specs.choices.Costs.{least_body, least_content}
use Rattle.pg_pairs.specs.choices.Held.{HasItem, NoneBreaksInside}
use Rattle.pg_pairs.specs.choices.Ways.{BreaksAsList}
use Rattle.pg_pairs.specs.declared.choices.case.Case.TheVariants as cases
use Rattle.pg_pairs.specs.declared.choices.choice.Choice.{Choice}
use Rattle.pg_pairs.specs.declared.choices.choice.Pair.{Pair}
use Rattle.pg_pairs.specs.gaps.Likeness.{like}
use Rattle.pg_pairs.specs.gaps.TrueGaps.{is_seen}
use Rattle.pg_pairs.specs.inner.Contents.{total, is_child_kept, ChildBound, Holds}
use Rattle.pg_pairs.specs.laws.FieldCosts.{IsShared}
use Rattle.pg_pairs.specs.views.EnumView.{EnumView}
use Rattle.pg_pairs.specs.views.ViewLaws.{IsEnumView}
use Rattle.pg_pairs.proofs.lemmas.bounds.Across.{Seen, kept_across}
use Rattle.pg_pairs.proofs.lemmas.bounds.BreaksTold.{none_of, none_there, all_there, claims_of}
use Rattle.pg_pairs.proofs.lemmas.bounds.Comparands.{child_seen, comparand_reads, empty_kept, leafy_seen, least_cost, unpacked_repeated}
use Rattle.pg_pairs.proofs.lemmas.bounds.FieldKinds.{AreLike, alike_parts}
use Rattle.pg_pairs.proofs.lemmas.bounds.HeldParts.{IsSeenLeaf, only_has, only_there, seen_leaves}
use Rattle.pg_pairs.proofs.lemmas.bounds.LowerBound.{content_of}
use Rattle.pg_pairs.proofs.lemmas.bounds.Messages.{one_found}
use Rattle.pg_pairs.proofs.lemmas.bounds.OneMessage.{holds_at, total_within, costs_at}
use Rattle.pg_pairs.proofs.lemmas.bounds.Single.{field_broken}
use Rattle.pg_pairs.proofs.lemmas.bounds.Ways.{plain_across}
use Rattle.pg_pairs.proofs.lemmas.choices.Costs.{Costs, least_body_below, two_cost}
use Rattle.pg_pairs.proofs.lemmas.choices.Offers.{list_choice}

-- A list of which each item is seen, and that isn't kept, costs as much as the choice of a list.
module _ (view : View) (child : Reader) (number : ℕ) (e d : Element) (o r : Option ℕ) (is_like : like e d ≡ true) where
  abbrev pub before : Presence → FieldShape
  before p = record { number = number; presence = p; element = e; oneof = o }

  abbrev pub after : Presence → FieldShape
  after q = record { number = number; presence = q; element = d; oneof = r }

  abbrev pub IsListCost : Presence → Presence → List Comparand → Type 0
  IsListCost p q cs = (x : ℕ) × (singular_cost (before p) (after q) ≡ Some x) × (x ≤ total (before p) cs)

  pub by_least : (p q : Presence) (cs : List Comparand) → AllByRecursion (Holds (before p)) cs → AllByRecursion (Costs (before p) (total (before p) cs)) cs → is_field_kept view child (before p) (after q) cs ≡ false → singular_cost (before p) (after q) ≡ Some (least_content (before p)) → IsListCost p q cs
  by_least p q [] held cost broken is = absurd (let no : true ≡ false = sym (empty_kept view child (before p) (after q)) ∙ broken in cc)
  by_least p q (c ∷ cs) held cost broken is = (least_content (before p), is, least_cost (before p) (total (before p) (c ∷ cs)) c held.0 cost.0)

  pub list_cost : (p q : Presence) (cs : List Comparand) → is_repeated p ≡ true → is_singular q ≡ true → AllByRecursion (Holds (before p)) cs → AllByRecursion (Costs (before p) (total (before p) cs)) cs → AllByRecursion (Seen view child (before p) (after q)) cs → is_field_kept view child (before p) (after q) cs ≡ false → IsListCost p q cs
  list_cost (presences.Repeated true) presences.Implicit cs list one held cost seen broken = by_least (presences.Repeated true) presences.Implicit cs held cost broken refl
  list_cost (presences.Repeated true) presences.Explicit cs list one held cost seen broken = by_least (presences.Repeated true) presences.Explicit cs held cost broken refl
  list_cost (presences.Repeated false) presences.Implicit cs list one held cost seen broken = by_least (presences.Repeated false) presences.Implicit cs held cost broken refl
  list_cost (presences.Repeated false) presences.Explicit [] list one held cost seen broken = absurd (let no : true ≡ false = sym (empty_kept view child (before (presences.Repeated false)) (after presences.Explicit)) ∙ broken in cc)
  list_cost (presences.Repeated false) presences.Explicit (c ∷ []) list one held cost seen broken =
      absurd (let no : true ≡ false = sym (kept_across view child (before (presences.Repeated false)) (after presences.Explicit) (c ∷ []) seen
      (plain_across view child number e d o r is_like (presences.Repeated false) presences.Explicit tt tt (c ∷ []) seen
      (record { no_key = (held.0.key_fits, tt); may_be_zero = (tt, tt); one = λ s. tt; unpacked = λ k. absurd (cc); packable = λ k. absurd (cc) }))) ∙ broken in cc)
  list_cost (presences.Repeated false) presences.Explicit (c ∷ c' ∷ rest) list one held cost seen broken = (
    2 * least_content (before (presences.Repeated false)),
    refl,
    two_cost (before (presences.Repeated false)) (unpacked_repeated number e o) (λ b. refl) c c' rest (least_body e)
        (least_body_below e c.written (comparand_reads e c held.0.item)) (least_body_below e c'.written (comparand_reads e c' held.1.0.item)),
  )
  list_cost (presences.Repeated w) (presences.Repeated x) cs list one held cost seen broken = absurd (cc)
  list_cost (presences.Repeated w) (presences.Map l) cs list one held cost seen broken = absurd (cc)
  list_cost presences.Implicit q cs list one held cost seen broken = absurd (cc)
  list_cost presences.Explicit q cs list one held cost seen broken = absurd (cc)
  list_cost (presences.Map k) q cs list one held cost seen broken = absurd (cc)

-- each comparand is seen whose leaf or child is
module _ (view : View) (child : Reader) (ps : List Pair) where
  pub seen_at : (f g : FieldShape) (e d : Element) → like e d ≡ true → (c : Comparand) → Holds (record { number = f.number; presence = f.presence; element = e; oneof = f.oneof }) c → ((leaf : Leaf) → c.expected ≡ Alike leaf → is_seen view e d leaf ≡ true) → ChildBound (none_of ps) child e d c
      → Seen view child (record { number = f.number; presence = f.presence; element = e; oneof = f.oneof }) (record { number = g.number; presence = g.presence; element = d; oneof = g.oneof }) c
  seen_at f g (elements.Message s) (elements.Message t) is_like c held leaves bound =
      let (bytes, test, w, so) = held.item in
      child_seen view child f g s t c held bytes test w so (kept bytes test w so)
    where
      kept : (bytes : List ℕ) (test : Message → Bool) → c.written ≡ Bytes bytes → c.expected ≡ Kept test → is_child_kept child t test bytes ≡ true
      kept bytes test w so =
          ⊎_elim (λ yes. yes) (λ no. let (x, found, below) = bound bytes test w so no in absurd (none_there ps (record { old = s; new = t }) x found)) (cases_Bool (is_child_kept child t test bytes))
  seen_at f g (elements.Message s) (elements.Scalar t) is_like c held leaves bound = absurd (cc)
  seen_at f g (elements.Message s) (elements.Enum t) is_like c held leaves bound = absurd (cc)
  seen_at f g (elements.Scalar s) (elements.Message t) is_like c held leaves bound = absurd (cc)
  seen_at f g (elements.Enum s) (elements.Message t) is_like c held leaves bound = absurd (cc)
  seen_at f g (elements.Scalar s) (elements.Scalar t) is_like c held leaves bound = leafy_seen view child _ _ c tt tt is_like held (leaves c.written held.item.1)
  seen_at f g (elements.Scalar s) (elements.Enum t) is_like c held leaves bound = leafy_seen view child _ _ c tt tt is_like held (leaves c.written held.item.1)
  seen_at f g (elements.Enum s) (elements.Scalar t) is_like c held leaves bound = leafy_seen view child _ _ c tt tt is_like held (leaves c.written held.item.1)
  seen_at f g (elements.Enum s) (elements.Enum t) is_like c held leaves bound = leafy_seen view child _ _ c tt tt is_like held (leaves c.written held.item.1)

-- A list that breaks by itself, although each of its items is read as itself.
module _ (enum_view : EnumView) (law : IsEnumView enum_view) (old new : Shape) (is_old : IsShape old) (is_new : IsShape new) (pair : Pair) (v : Message) (is : IsMessage old pair.old v) (plain : IsPlain v) (f g : FieldShape) (shared : IsShared old new pair f g) where
  abbrev cs : List Comparand
  cs = comparands enum_view.alike old new pair.old pair.new v

  abbrev own : List Comparand
  own = comparands_at f.number cs

  own_holds : AllByRecursion (Holds f) own
  own_holds = holds_at enum_view.alike old new is_old pair.old pair.new v is plain f shared.old_field

  own_costs : AllByRecursion (Costs f (total f own)) own
  own_costs = costs_at enum_view.alike old new is_old pair.old pair.new v is plain f shared.old_field

  -- it costs no less than the choice of a list
  pub list_costs : BreaksAsList enum_view.alike old new pair f g v → (c : Choice) × IsAmong c (list_choice f g) × (c.cost ≤ length (enc old pair.old v))
  list_costs h = offered cost_of
    where
      a : AreLike f g
      a = alike_parts f g h.alike

      same : comparands enum_view.alike old new pair.old pair.new (only f.number v) ≡ own
      same = only_there enum_view.alike old new pair.old pair.new f.number v

      at_number : AllByRecursion (λ (c : Comparand). c.number ≡ f.number) own
      at_number = each_weaker (Holds f) (λ (c : Comparand). c.number ≡ f.number) (λ c held. held.number_is) own own_holds

      own_again : comparands_at f.number (comparands enum_view.alike old new pair.old pair.new (only f.number v)) ≡ own
      own_again = ap (comparands_at f.number) same ∙ filter_all (λ (c : Comparand). nat_eq c.number f.number) own (each_weaker (λ (c : Comparand). c.number ≡ f.number) (λ c. nat_eq c.number f.number ≡ true) (λ c at. eq-eqb c.number f.number at) own at_number)

      broken : is_field_kept enum_view.alike (dec new) f g own ≡ false
      broken =
          subst (λ xs. is_field_kept enum_view.alike (dec new) f g xs ≡ false) own_again
          (field_broken enum_view.alike old new is_old is_new pair.old pair.new (only f.number v) h.breaks.is_message h.breaks.is_plain h.breaks.has_encoding f g shared.old_field shared.new_field
          (subst (AllByRecursion (λ (c : Comparand). c.number ≡ f.number)) (sym same) at_number) h.breaks.not_kept)

      none_inside : NoneBreaksInside enum_view old new pair (only f.number v)
      none_inside f' g' shared' p among key child has =
          let (at, there) = only_has f.number f'.number key (Msg child) v has in
          let is_f : f' ≡ f = one_found (fields old pair.old) f.number f' f (ap (field_at (fields old pair.old)) (sym at) ∙ shared'.old_field) shared.old_field in
          let is_g : g' ≡ g = one_found (fields new pair.new) f.number g' g (ap (field_at (fields new pair.new)) (sym at) ∙ shared'.new_field) shared.new_field in
          h.each key (Msg child) (subst (λ n. HasItem n key (Msg child) v) at there) p (subst₂ (λ x y. IsAmong p (field_children x y)) is_f is_g among)

      has : has_children f.presence g.presence ≡ true
      has = rw (a.old_key, a.new_key) refl

      bounds : AllByRecursion (ChildBound (none_of (children old new pair)) (dec new) f.element g.element) own
      bounds =
          subst (AllByRecursion (ChildBound (none_of (children old new pair)) (dec new) f.element g.element)) own_again
          ((content_of enum_view law old new is_old is_new (none_of (children old new pair)) pair.old pair.new (all_there (children old new pair)) (only f.number v) h.breaks.is_message h.breaks.is_plain h.breaks.has_encoding
          (claims_of enum_view law old new is_old is_new (children old new pair) pair (only f.number v) none_inside) f g shared.old_field shared.new_field).bounds has)

      leaves : AllByRecursion (λ c. IsSeenLeaf enum_view.alike old new pair.old pair.new f.number f.element g.element c × (nat_eq c.number f.number ≡ true)) own
      leaves =
          each-filter (IsSeenLeaf enum_view.alike old new pair.old pair.new f.number f.element g.element) (λ (c : Comparand). nat_eq c.number f.number) cs
          (seen_leaves enum_view.alike old new pair.old pair.new f.number f.element g.element v (λ key leaf there. h.each key (Plain leaf) there))

      seen : AllByRecursion (Seen enum_view.alike (dec new) f g) own
      seen =
          each_weaker (λ c. (Holds f c × (IsSeenLeaf enum_view.alike old new pair.old pair.new f.number f.element g.element c × (nat_eq c.number f.number ≡ true))) × ChildBound (none_of (children old new pair)) (dec new) f.element g.element c) (Seen enum_view.alike (dec new) f g)
          (λ c x. seen_at enum_view.alike (dec new) (children old new pair) f g f.element g.element a.is_like c x.0.0 (λ leaf is. x.0.1.0 x.0.0.number_is leaf is) x.1) own
          (each_both _ _ own (each_both _ _ own own_holds leaves) bounds)

      here : g ≡ record { number = f.number; presence = g.presence; element = g.element; oneof = g.oneof }
      here = λ i. record { number = fields_are_found.1 (fields new pair.new) f.number g shared.new_field i; presence = g.presence; element = g.element; oneof = g.oneof }

      cost_of : (x : ℕ) × (singular_cost f g ≡ Some x) × (x ≤ total f own)
      cost_of =
          list_cost enum_view.alike (dec new) f.number f.element g.element f.oneof g.oneof a.is_like f.presence g.presence own h.list h.one own_holds own_costs
          (subst (λ y. AllByRecursion (Seen enum_view.alike (dec new) f y) own) here seen)
          (subst (λ y. is_field_kept enum_view.alike (dec new) f y own ≡ false) here broken)

      offered : (x : ℕ) × (singular_cost f g ≡ Some x) × (x ≤ total f own) → (c : Choice) × IsAmong c (list_choice f g) × (c.cost ≤ length (enc old pair.old v))
      offered (x, at, cheap) =
          let le = total_within enum_view.alike old new is_old pair.old pair.new v is plain f shared.old_field in
          (choice f.number cases.List 0 x, rw at (inl refl), omega arith)
