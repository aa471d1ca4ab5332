-- What becomes of a field's content: there is none, or it is hidden, or it crosses, or it costs at least as much as some choice of the
-- field.
use Rattle.std.proofs.Common.{◌≡◌, ℕ, ◌<◌, ◌≤◌, ◌^◌, List, [], ◌∷◌, ◌++◌, Bool, true, false, ◌&&◌, Option, Some, None, option_map, unwrap_or, ◌⊎◌, inl, inr, ⊎_elim, refl, sym, subst, arith, rules}
use Rattle.std.specs.Bool.{⊤}
use Rattle.std.specs.List.{AllByRecursion}
use Rattle.std.proofs.lemmas.Bool.{cases_Bool, and_parts}
use Rattle.pg_schema.specs.declared.parts.field.Scalar.{Scalar}
use Rattle.pg_schema.specs.declared.parts.field.Scalar.TheVariants as scalars
use Rattle.pg_schema.specs.declared.parts.field.Element.{Element}
use Rattle.pg_schema.specs.declared.parts.field.Element.TheVariants as elements
use Rattle.pg_schema.specs.declared.parts.field.Presence.{Presence}
use Rattle.pg_schema.specs.declared.parts.field.Presence.TheVariants as presences
use Rattle.pg_schema.specs.Shape.{FieldShape}
use Rattle.pg_schema.specs.ShapeRules.{PresenceFits}
use Rattle.pg_wire.specs.Varint.{varint}
use Rattle.pg_dyn.specs.message.Message.{is_zero}
use Rattle.pg_dyn.specs.word.Coding.{form, body, InRange, word_bytes, HasShape}
use Rattle.pg_dyn.specs.reading.Decoding.{Reader}
use Rattle.pg_dyn.specs.encoding.Writing.{key_of}
use Rattle.pg_dyn.specs.fitting.Belonging.{KeyFits}
use Rattle.pg_dyn.specs.views.Comparison.{Comparand, writes}
use Rattle.pg_dyn.proofs.Lists.{each_weaker, each_both, each_of_all, each_before, each_after}
use Rattle.pg_pairs.specs.declared.choices.case.Case.{Case}
use Rattle.pg_pairs.specs.declared.choices.case.Case.TheVariants as cases
use Rattle.pg_pairs.specs.declared.choices.choice.Choice.{Choice}
use Rattle.pg_pairs.specs.views.EnumView.{EnumView}
use Rattle.pg_pairs.specs.views.ViewLaws.{IsEnumView}
use Rattle.pg_pairs.specs.gaps.Likeness.{like}
use Rattle.pg_pairs.specs.laws.ReadBack.{is_bool_of_zigzag}
use Rattle.pg_pairs.specs.gaps.Gaps.{body_length}
use Rattle.pg_pairs.specs.gaps.TrueGaps.{is_seen, ItemCounts}
use Rattle.pg_pairs.specs.choices.Costs.{least_body, nonzero_body, entry_cost, one_item, least_content}
use Rattle.pg_pairs.specs.choices.Choices.{Table, choice_of, zero_counts, unlike_cost, gap_body, child_body, singular_cost, plain_choices, map_choices, field_choices}
use Rattle.pg_pairs.specs.inner.Contents.{total, Holds, IsInOrder, ChildBound, IsContent}
use Rattle.pg_pairs.specs.bounds.Covering.{has_children}
use Rattle.pg_pairs.proofs.lemmas.gaps.GapItems.{IsLeafy, implicit_leafy, leafy_like}
use Rattle.pg_pairs.proofs.lemmas.gaps.Leaves.{seen_read}
use Rattle.pg_pairs.proofs.lemmas.gaps.Likeness.{like_wire, same_wire-true}
use Rattle.pg_pairs.proofs.lemmas.bounds.Across.{Seen}
use Rattle.pg_pairs.proofs.lemmas.bounds.AcrossPlain.{IsNoMap}
use Rattle.pg_pairs.proofs.lemmas.bounds.AcrossMap.{SeenEntry}
use Rattle.pg_pairs.proofs.lemmas.choices.Costs.{Costs, two_cost, least_body_below}
use Rattle.pg_pairs.proofs.lemmas.bounds.Comparands.{costs, least_cost, nonzero_cost, unpacked_repeated, comparand_reads, length-entry_bytes, EntryCosts, entry_costs}
use Rattle.pg_pairs.proofs.lemmas.bounds.Decisions.{leaf_or, comparand_or, each_or}
use Rattle.pg_dyn.proofs.PublicLaws.{bodies_read_again}
use Rattle.pg_pairs.proofs.lemmas.bounds.Ways.{Passes, plain_across, map_across, PlainWay, Crosses, Hides}

pub leafy_or_not : (e : Element) → IsLeafy e ⊎ (nonzero_body e ≡ least_body e)
leafy_or_not (elements.Scalar s) = inl tt
leafy_or_not (elements.Enum s) = inl tt
leafy_or_not (elements.Message s) = inr refl

-- a zigzag number beside a bool has a gap of one byte
zigzag_gap : (enum_view : EnumView) (zero : Bool) (e d : Element) → is_bool_of_zigzag e d ≡ true → (gap_body enum_view zero e d ≡ Some 1) × (least_body e ≡ 1)
unfolding word_bytes varint
zigzag_gap enum_view zero (elements.Scalar s) (elements.Scalar scalars.Bool) h = search rules
zigzag_gap enum_view zero (elements.Scalar s) (elements.Scalar t) h = absurd (cc)
zigzag_gap enum_view zero (elements.Scalar s) (elements.Message t) h = absurd (cc)
zigzag_gap enum_view zero (elements.Scalar s) (elements.Enum t) h = absurd (cc)
zigzag_gap enum_view zero (elements.Enum s) d h = absurd (cc)
zigzag_gap enum_view zero (elements.Message s) d h = absurd (cc)

-- no zigzag number is beside a bool, or the gap costs no more
not_zigzag : (enum_view : EnumView) (Q : ℕ → Type 0) (up : (m n : ℕ) → m ≤ n → Q m → Q n) (zero : Bool) (e d : Element) (number : ℕ) (case : Case) (part : ℕ) (price : ℕ → ℕ) → AllByRecursion (λ (c : Choice). Q c.cost) (choice_of number case part (option_map price (gap_body enum_view zero e d))) → (whole len : ℕ) → least_body e ≤ len → ((b : ℕ) → b ≤ len → price b ≤ whole) → (is_bool_of_zigzag e d ≡ false) ⊎ Q whole
not_zigzag enum_view Q up zero e d number case part price gaps whole len least cost =
    search (rules, zigzag_gap, cases_Bool)

module _ (enum_view : EnumView) (law : IsEnumView enum_view) (table : Table) (child : Reader) (Q : ℕ → Type 0) (up : (m n : ℕ) → m ≤ n → Q m → Q n) (number : ℕ) (e d : Element) (o r : Option ℕ) where
  abbrev old : Presence → FieldShape
  old p = record { number = number; presence = p; element = e; oneof = o }

  abbrev new : Presence → FieldShape
  new q = record { number = number; presence = q; element = d; oneof = r }

  abbrev Allowed : List Choice → Type 0
  Allowed cs = AllByRecursion (λ (c : Choice). Q c.cost) cs

  -- what is known of the content
  pub record Known (p q : Presence) (cs : List Comparand) : Type 0 where
    pub fits_old : PresenceFits p e o
    pub fits_new : PresenceFits q d r
    pub holds : AllByRecursion (Holds (old p)) cs
    pub in_order : IsInOrder p cs
    pub bounds : has_children p q ≡ true → AllByRecursion (ChildBound table child e d) cs
    pub short : total (old p) cs < 2 ^ 64

  abbrev Fate : Presence → Presence → List Comparand → Type 0
  Fate p q cs = ((cs ≡ []) ⊎ (Hides (old p) (new q) cs ⊎ Crosses enum_view.alike child (old p) (new q) cs)) ⊎ Q (total (old p) cs)

  each_costs : (p q : Presence) (cs : List Comparand) → Known p q cs → AllByRecursion (Costs (old p) (total (old p) cs)) cs
  each_costs p q cs known = costs child (old p) known.fits_old cs known.holds

  -- the least content is a choice
  by_least : (p q : Presence) (cs : List Comparand) → Known p q cs → Q (least_content (old p)) → Fate p q cs
  by_least p q [] known allowed = inl (inl refl)
  by_least p q (c ∷ rest) known allowed =
      inr (up (least_content (old p)) (total (old p) (c ∷ rest)) (least_cost (old p) (total (old p) (c ∷ rest)) c known.holds.0 (each_costs p q (c ∷ rest) known).0) allowed)

  -- an explicit field beside an implicit one: a zero is hidden
  by_nonzero : (cs : List Comparand) → Known presences.Explicit presences.Implicit cs → Q (one_item (old presences.Explicit) (nonzero_body e)) → Fate presences.Explicit presences.Implicit cs
  by_nonzero [] known allowed = inl (inl refl)
  by_nonzero (c ∷ d' ∷ rest) known allowed = absurd known.in_order
  by_nonzero (c ∷ []) known allowed =
      let cost = (each_costs presences.Explicit presences.Implicit (c ∷ []) known).0 in
      let n = total (old presences.Explicit) (c ∷ []) in
      ⊎_elim
      (λ leafy.
      ⊎_elim
      (λ zero. inl (inr (inl (record { explicit = refl; implicit = refl; leafy = leafy; comparand = c; one = refl; zero = zero }))))
      (λ nonzero. inr (up (one_item (old presences.Explicit) (nonzero_body e)) n (nonzero_cost (old presences.Explicit) n c known.holds.0 cost nonzero) allowed))
      (cases_Bool (is_zero c.written)))
      (λ same.
      inr (up (one_item (old presences.Explicit) (nonzero_body e)) n (subst (λ b. one_item (old presences.Explicit) b ≤ n) (sym same) (least_cost (old presences.Explicit) n c known.holds.0 cost)) allowed))
      (leafy_or_not e)

  -- unlike fields
  by_unlike : (p q : Presence) (cs : List Comparand) → Known p q cs → Q (unlike_cost (old p) (new q)) → Fate p q cs
  by_unlike presences.Implicit q cs known allowed = by_least presences.Implicit q cs known allowed
  by_unlike presences.Explicit presences.Implicit cs known allowed = by_nonzero cs known allowed
  by_unlike presences.Explicit presences.Explicit cs known allowed = by_least presences.Explicit presences.Explicit cs known allowed
  by_unlike presences.Explicit (presences.Repeated q) cs known allowed = by_least presences.Explicit (presences.Repeated q) cs known allowed
  by_unlike presences.Explicit (presences.Map l) cs known allowed = by_least presences.Explicit (presences.Map l) cs known allowed
  by_unlike (presences.Repeated p) q cs known allowed = by_least (presences.Repeated p) q cs known allowed
  by_unlike (presences.Map k) q cs known allowed = by_least (presences.Map k) q cs known allowed

  -- Like fields that are no maps.

  plain_allowed : (p q : Presence) → like e d ≡ true → Allowed (plain_choices enum_view table (old p) (new q)) → Allowed ((choice_of number cases.Gap 0 (option_map (one_item (old p)) (gap_body enum_view (zero_counts (old p) (new q)) e d)) ++ choice_of number cases.Child 0 (option_map (one_item (old p)) (child_body table e d))) ++ choice_of number cases.List 0 (singular_cost (old p) (new q)))
  plain_allowed p q is_like allowed = rw is_like at allowed

  allowed_gap : (p q : Presence) → like e d ≡ true → Allowed (plain_choices enum_view table (old p) (new q)) → Allowed (choice_of number cases.Gap 0 (option_map (one_item (old p)) (gap_body enum_view (zero_counts (old p) (new q)) e d)))
  allowed_gap p q is_like allowed = each_before _ _ _ (each_before _ _ _ (plain_allowed p q is_like allowed))

  allowed_child : (p q : Presence) → like e d ≡ true → Allowed (plain_choices enum_view table (old p) (new q)) → Allowed (choice_of number cases.Child 0 (option_map (one_item (old p)) (child_body table e d)))
  allowed_child p q is_like allowed = each_after _ (choice_of number cases.Gap 0 (option_map (one_item (old p)) (gap_body enum_view (zero_counts (old p) (new q)) e d))) _ (each_before _ _ _ (plain_allowed p q is_like allowed))

  allowed_shape : (p q : Presence) → like e d ≡ true → Allowed (plain_choices enum_view table (old p) (new q)) → Allowed (choice_of number cases.List 0 (singular_cost (old p) (new q)))
  allowed_shape p q is_like allowed = each_after _ (choice_of number cases.Gap 0 (option_map (one_item (old p)) (gap_body enum_view (zero_counts (old p) (new q)) e d)) ++ choice_of number cases.Child 0 (option_map (one_item (old p)) (child_body table e d))) _ (plain_allowed p q is_like allowed)

  -- each comparand that counts is seen, or a choice costs no more
  all_seen : (p q : Presence) (cs : List Comparand) → Known p q cs → has_children p q ≡ true → like e d ≡ true → Allowed (plain_choices enum_view table (old p) (new q)) → AllByRecursion (λ c. ItemCounts (zero_counts (old p) (new q)) c.written) cs → AllByRecursion (Seen enum_view.alike child (old p) (new q)) cs ⊎ Q (total (old p) cs)
  all_seen p q cs known has is_like allowed counts =
      each_or (Seen enum_view.alike child (old p) (new q)) (Q (total (old p) cs)) cs
      (each_weaker
      (λ c. (Holds (old p) c × ItemCounts (zero_counts (old p) (new q)) c.written) × (ChildBound table child e d c × Costs (old p) (total (old p) cs) c)) (λ c. Seen enum_view.alike child (old p) (new q) c ⊎ Q (total (old p) cs))
      (λ c h.
      comparand_or enum_view law table child Q up (old p) (new q) (zero_counts (old p) (new q)) (one_item (old p)) is_like number cases.Gap 0 cases.Child 0
      (allowed_gap p q is_like allowed) (allowed_child p q is_like allowed) (total (old p) cs) c h.0.0 h.0.1 h.1.0 h.1.1)
      cs
      (each_both _ _ cs (each_both _ _ cs known.holds counts) (each_both _ _ cs (known.bounds has) (each_costs p q cs known))))

  -- then the content crosses
  crossing : (p q : Presence) (c : Comparand) (rest : List Comparand) → Known p q (c ∷ rest) → has_children p q ≡ true → like e d ≡ true → Allowed (plain_choices enum_view table (old p) (new q)) → AllByRecursion (λ c. ItemCounts (zero_counts (old p) (new q)) c.written) (c ∷ rest) → Passes p q e (c ∷ rest) → PlainWay p q (c ∷ rest) → Fate p q (c ∷ rest)
  crossing p q c rest known has is_like allowed counts passes way =
      ⊎_elim
      (λ seen.
      ⊎_elim
      (λ apart.
      inl (inr (inr (record {
        is_like = is_like;
        apart = apart;
        seen = seen;
        across = plain_across enum_view.alike child number e d o r is_like p q way.no_map_old way.no_map_new (c ∷ rest) seen passes;
        way = inl way;
      }))))
      (λ dear. inr dear)
      (not_zigzag enum_view Q up (zero_counts (old p) (new q)) e d number cases.Gap 0 (one_item (old p)) (allowed_gap p q is_like allowed) (total (old p) (c ∷ rest)) (body_length (form e) c.written)
      (least_body_below e c.written (comparand_reads e c known.holds.0.item)) (each_costs p q (c ∷ rest) known).0))
      (λ dear. inr dear)
      (all_seen p q (c ∷ rest) known has is_like allowed counts)

  any : (cs : List Comparand) → AllByRecursion (λ (c : Comparand). ⊤) cs
  any cs = each_of_all (λ (c : Comparand). ⊤) (λ c. tt) cs

  never_zero : (cs : List Comparand) → AllByRecursion (Holds (old presences.Implicit)) cs → AllByRecursion (λ (c : Comparand). is_zero c.written ≡ false) cs
  never_zero cs holds = each_weaker (Holds (old presences.Implicit)) (λ c. is_zero c.written ≡ false) (λ c h. h.may_be_zero) cs holds

  keyless : (p : Presence) → ((c : Comparand) → Holds (old p) c → c.key ≡ None) → (cs : List Comparand) → AllByRecursion (Holds (old p)) cs → AllByRecursion (λ (c : Comparand). c.key ≡ None) cs
  keyless p no_key cs holds = each_weaker (Holds (old p)) (λ c. c.key ≡ None) no_key cs holds

  by_like : (p q : Presence) → IsNoMap p → IsNoMap q → (cs : List Comparand) → Known p q cs → like e d ≡ true → Allowed (plain_choices enum_view table (old p) (new q)) → Fate p q cs
  by_like p q no_p no_q [] known is_like allowed = inl (inl refl)
  by_like (presences.Map k) q no_p no_q (c ∷ rest) known is_like allowed = absurd no_p
  by_like p (presences.Map l) no_p no_q (c ∷ rest) known is_like allowed = absurd no_q
  by_like presences.Implicit presences.Implicit no_p no_q (c ∷ rest) known is_like allowed =
      search (rules, crossing, never_zero, keyless)
  by_like presences.Implicit presences.Explicit no_p no_q (c ∷ rest) known is_like allowed =
      search (rules, crossing, never_zero, keyless, any)
  by_like presences.Implicit (presences.Repeated w) no_p no_q (c ∷ rest) known is_like allowed =
      search (rules, crossing, never_zero, keyless, any)
  by_like presences.Explicit presences.Implicit no_p no_q (c ∷ []) known is_like allowed =
      ⊎_elim
      (λ zero. inl (inr (inl (record { explicit = refl; implicit = refl; leafy = leafy_like e d is_like (implicit_leafy d r known.fits_new); comparand = c; one = refl; zero = zero }))))
      (λ nonzero.
      crossing presences.Explicit presences.Implicit c [] known refl is_like allowed (nonzero, tt)
      (record { no_key = keyless presences.Explicit (λ x h. h.key_fits) (c ∷ []) known.holds; may_be_zero = (nonzero, tt); one = λ s. known.in_order; unpacked = λ k. absurd (cc); packable = λ k. absurd (cc) })
      (record { no_map_old = tt; no_map_new = tt; no_key = keyless presences.Explicit (λ x h. h.key_fits) (c ∷ []) known.holds; one = λ s. known.in_order; not_zero = λ s. (nonzero, tt); unpacked = λ k. absurd (cc) }))
      (cases_Bool (is_zero c.written))
  by_like presences.Explicit presences.Implicit no_p no_q (c ∷ c' ∷ rest) known is_like allowed = absurd known.in_order
  by_like presences.Explicit presences.Explicit no_p no_q (c ∷ rest) known is_like allowed =
      search (rules, crossing, any, keyless)
  by_like presences.Explicit (presences.Repeated w) no_p no_q (c ∷ rest) known is_like allowed =
      crossing presences.Explicit (presences.Repeated w) c rest known refl is_like allowed (any (c ∷ rest))
      (record { no_key = keyless presences.Explicit (λ x h. h.key_fits) (c ∷ rest) known.holds; may_be_zero = any (c ∷ rest); one = λ s. absurd (cc); unpacked = λ k. absurd (cc); packable = λ k. absurd (cc) })
      (record { no_map_old = tt; no_map_new = tt; no_key = keyless presences.Explicit (λ x h. h.key_fits) (c ∷ rest) known.holds; one = λ s. known.in_order; not_zero = λ s. absurd (cc); unpacked = λ k. absurd (cc) })
  by_like (presences.Repeated true) presences.Implicit no_p no_q (c ∷ rest) known is_like allowed =
      by_least (presences.Repeated true) presences.Implicit (c ∷ rest) known (allowed_shape (presences.Repeated true) presences.Implicit is_like allowed).0
  by_like (presences.Repeated false) presences.Implicit no_p no_q (c ∷ rest) known is_like allowed =
      by_least (presences.Repeated false) presences.Implicit (c ∷ rest) known (allowed_shape (presences.Repeated false) presences.Implicit is_like allowed).0
  by_like (presences.Repeated true) presences.Explicit no_p no_q (c ∷ rest) known is_like allowed =
      by_least (presences.Repeated true) presences.Explicit (c ∷ rest) known (allowed_shape (presences.Repeated true) presences.Explicit is_like allowed).0
  by_like (presences.Repeated false) presences.Explicit no_p no_q (c ∷ []) known is_like allowed =
      search (rules, crossing, any, keyless)
  by_like (presences.Repeated false) presences.Explicit no_p no_q (c ∷ c' ∷ rest) known is_like allowed =
      let both = two_cost (old (presences.Repeated false)) (unpacked_repeated number e o) (λ b. refl) c c' rest (least_body e)
      (least_body_below e c.written (comparand_reads e c known.holds.0.item)) (least_body_below e c'.written (comparand_reads e c' known.holds.1.0.item)) in
      inr (up _ _ both (allowed_shape (presences.Repeated false) presences.Explicit is_like allowed).0)
  by_like (presences.Repeated false) (presences.Repeated w) no_p no_q (c ∷ rest) known is_like allowed =
      crossing (presences.Repeated false) (presences.Repeated w) c rest known refl is_like allowed (any (c ∷ rest))
      (record { no_key = keyless (presences.Repeated false) (λ x h. h.key_fits) (c ∷ rest) known.holds; may_be_zero = any (c ∷ rest); one = λ s. absurd (cc); unpacked = λ k. refl; packable = λ k. absurd (cc) })
      (record { no_map_old = tt; no_map_new = tt; no_key = keyless (presences.Repeated false) (λ x h. h.key_fits) (c ∷ rest) known.holds; one = λ s. absurd (cc); not_zero = λ s. absurd (cc); unpacked = λ k. refl })
  by_like (presences.Repeated true) (presences.Repeated w) no_p no_q (c ∷ rest) known is_like allowed =
      crossing (presences.Repeated true) (presences.Repeated w) c rest known refl is_like allowed (any (c ∷ rest))
      (record { no_key = keyless (presences.Repeated true) (λ x h. h.key_fits) (c ∷ rest) known.holds; may_be_zero = any (c ∷ rest); one = λ s. absurd (cc); unpacked = λ k. refl; packable = λ k. known.fits_old.1 k })
      (record { no_map_old = tt; no_map_new = tt; no_key = keyless (presences.Repeated true) (λ x h. h.key_fits) (c ∷ rest) known.holds; one = λ s. absurd (cc); not_zero = λ s. absurd (cc); unpacked = λ k. refl })

  -- Maps.

  pub key_there : (k : Scalar) (c : Comparand) → KeyFits (presences.Map k) c.key → c.key ≡ Some (key_of k (writes c))
  key_there k c h = search (rules, unwrap_or)

  pub key_range : (k : Scalar) (c : Comparand) → KeyFits (presences.Map k) c.key → InRange (form (elements.Scalar k)) (key_of k (writes c))
  key_range k c h = search (rules, unwrap_or)

  pub key_seen : (k l : Scalar) → like (elements.Scalar k) (elements.Scalar l) ≡ true → (m : ℕ) → m < 2 ^ 64 → (c : Comparand) → Holds (old (presences.Map k)) c → EntryCosts (old (presences.Map k)) k m c → is_seen enum_view.alike (elements.Scalar k) (elements.Scalar l) (key_of k (writes c)) ≡ true → SeenEntry (old (presences.Map k)) k l c
  key_seen k l is_like m small c holds cost seen =
      let reads = bodies_read_again (elements.Scalar k) (key_of k (writes c)) (key_range k c holds.key_fits) in
      let entry = length-entry_bytes k e (key_of k (writes c)) c.written in
      let within = cost (body_length (form (elements.Scalar k)) (key_of k (writes c))) (body_length (form e) c.written) (omega arith) (omega arith) in
      record {
        key_there = key_there k c holds.key_fits;
        key_seen = record {
          read = seen_read enum_view.alike (elements.Scalar k) (elements.Scalar l) (key_of k (writes c)) seen;
          shape = subst (λ w. HasShape w (body (form (elements.Scalar k)) (key_of k (writes c)))) (same_wire-true _ _ (like_wire (elements.Scalar k) (elements.Scalar l) is_like)) reads.shape;
        };
        short = omega arith;
      }

  abbrev KeyGaps : Scalar → Scalar → Type 0
  KeyGaps k l = Allowed (choice_of number cases.Map 1
      (option_map (λ body. entry_cost number body (least_body e)) (gap_body enum_view true (elements.Scalar k) (elements.Scalar l))))

  abbrev ValueGaps : Scalar → Type 0
  ValueGaps k = Allowed (choice_of number cases.Map 2 (option_map (one_item (old (presences.Map k))) (gap_body enum_view true e d)))

  abbrev Children : Scalar → Type 0
  Children k = Allowed (choice_of number cases.Map 2 (option_map (one_item (old (presences.Map k))) (child_body table e d)))

  key_price : (k : Scalar) (whole : ℕ) (c : Comparand) → Holds (old (presences.Map k)) c → EntryCosts (old (presences.Map k)) k whole c → (b : ℕ) → b ≤ body_length (form (elements.Scalar k)) (key_of k (writes c)) → entry_cost number b (least_body e) ≤ whole
  key_price k whole c holds cost b le = cost b (least_body e) le (least_body_below e c.written (comparand_reads e c holds.item))

  value_price : (k : Scalar) (whole : ℕ) (c : Comparand) → Holds (old (presences.Map k)) c → EntryCosts (old (presences.Map k)) k whole c → (b : ℕ) → b ≤ body_length (form e) c.written → one_item (old (presences.Map k)) b ≤ whole
  value_price k whole c holds cost b le =
      cost (least_body (elements.Scalar k)) b (least_body_below (elements.Scalar k) (key_of k (writes c)) (bodies_read_again (elements.Scalar k) (key_of k (writes c)) (key_range k c holds.key_fits))) le

  -- an entry is seen, or a gap or a child costs no more
  entry_or : (k l : Scalar) → like (elements.Scalar k) (elements.Scalar l) ≡ true → like e d ≡ true → KeyGaps k l → ValueGaps k → Children k → (whole : ℕ) → whole < 2 ^ 64 → (c : Comparand) → Holds (old (presences.Map k)) c → ChildBound table child e d c → EntryCosts (old (presences.Map k)) k whole c → (Seen enum_view.alike child (old (presences.Map k)) (new (presences.Map l)) c × SeenEntry (old (presences.Map k)) k l c) ⊎ Q whole
  entry_or k l like_keys like_values key_gaps value_gaps children whole short c holds bound cost =
      ⊎_elim
      (λ seen.
      ⊎_elim (λ key. inl (seen, key_seen k l like_keys whole short c holds cost key)) (λ dear. inr dear)
      (leaf_or enum_view law table child Q up (λ body. entry_cost number body (least_body e)) true (elements.Scalar k) (elements.Scalar l) tt like_keys number cases.Map 1 key_gaps whole
      (key_of k (writes c)) (key_range k c holds.key_fits) tt (key_price k whole c holds cost)))
      (λ dear. inr dear)
      (comparand_or enum_view law table child Q up (old (presences.Map k)) (new (presences.Map l)) true (one_item (old (presences.Map k))) like_values number cases.Map 2 cases.Map 2 value_gaps children whole c
      holds tt bound (value_price k whole c holds cost))

  -- no zigzag number is beside a bool, neither as a key nor as a value
  apart_or : (k l : Scalar) → KeyGaps k l → ValueGaps k → (whole : ℕ) (c : Comparand) → Holds (old (presences.Map k)) c → EntryCosts (old (presences.Map k)) k whole c → ((is_bool_of_zigzag (elements.Scalar k) (elements.Scalar l) ≡ false) × (is_bool_of_zigzag e d ≡ false)) ⊎ Q whole
  apart_or k l key_gaps value_gaps whole c holds cost =
      ⊎_elim
      (λ keys. ⊎_elim (λ values. inl (keys, values)) (λ dear. inr dear)
      (not_zigzag enum_view Q up true e d number cases.Map 2 (one_item (old (presences.Map k))) value_gaps whole (body_length (form e) c.written) (least_body_below e c.written (comparand_reads e c holds.item)) (value_price k whole c holds cost)))
      (λ dear. inr dear)
      (not_zigzag enum_view Q up true (elements.Scalar k) (elements.Scalar l) number cases.Map 1 (λ body. entry_cost number body (least_body e)) key_gaps whole (body_length (form (elements.Scalar k)) (key_of k (writes c)))
      (least_body_below (elements.Scalar k) (key_of k (writes c)) (bodies_read_again (elements.Scalar k) (key_of k (writes c)) (key_range k c holds.key_fits))) (key_price k whole c holds cost))

  like_maps : (k l : Scalar) (c : Comparand) (rest : List Comparand) → Known (presences.Map k) (presences.Map l) (c ∷ rest) → like (elements.Scalar k) (elements.Scalar l) ≡ true → like e d ≡ true → KeyGaps k l → ValueGaps k → Children k → Fate (presences.Map k) (presences.Map l) (c ∷ rest)
  like_maps k l c rest known like_keys like_values key_gaps value_gaps children =
      let f = old (presences.Map k) in
      let g = new (presences.Map l) in
      let whole = total f (c ∷ rest) in
      let all_costs = entry_costs child f k refl (c ∷ rest) in
      let decided : AllByRecursion (λ c. (Seen enum_view.alike child f g c × SeenEntry f k l c) ⊎ Q whole) (c ∷ rest) =
      each_weaker (λ c. (Holds f c × ChildBound table child e d c) × EntryCosts f k whole c) (λ c. (Seen enum_view.alike child f g c × SeenEntry f k l c) ⊎ Q whole)
      (λ c h. entry_or k l like_keys like_values key_gaps value_gaps children whole known.short c h.0.0 h.0.1 h.1)
      (c ∷ rest) (each_both _ _ (c ∷ rest) (each_both _ _ (c ∷ rest) known.holds (known.bounds like_keys)) all_costs) in
      ⊎_elim
      (λ both.
      ⊎_elim
      (λ apart.
      let seen = each_weaker (λ c. Seen enum_view.alike child f g c × SeenEntry f k l c) (Seen enum_view.alike child f g) (λ c h. h.0) (c ∷ rest) both in
      let entries = each_weaker (λ c. Seen enum_view.alike child f g c × SeenEntry f k l c) (SeenEntry f k l) (λ c h. h.1) (c ∷ rest) both in
      inl (inr (inr (record {
        is_like = like_values;
        apart = apart.1;
        seen = seen;
        across = map_across enum_view.alike child number e d o r like_values k l like_keys (c ∷ rest) seen entries known.in_order;
        way = inr (record {
          old_key = k;
          new_key = l;
          old_is = refl;
          new_is = refl;
          keys_like = like_keys;
          keys_apart = apart.0;
          in_range = each_weaker (Holds f) (λ c. InRange (form (elements.Scalar k)) (key_of k (writes c))) (λ c h. key_range k c h.key_fits) (c ∷ rest) known.holds;
          entries = entries;
          rising = known.in_order;
        });
      }))))
      (λ dear. inr dear)
      (apart_or k l key_gaps value_gaps whole c known.holds.0 all_costs.0))
      (λ dear. inr dear)
      (each_or (λ c. Seen enum_view.alike child f g c × SeenEntry f k l c) (Q whole) (c ∷ rest) decided)

  by_maps : (k l : Scalar) (cs : List Comparand) → Known (presences.Map k) (presences.Map l) cs → Allowed (map_choices enum_view table (old (presences.Map k)) (new (presences.Map l)) k l) → Fate (presences.Map k) (presences.Map l) cs
  by_maps k l [] known allowed = inl (inl refl)
  by_maps k l (c ∷ rest) known allowed =
      ⊎_elim
      (λ is_like.
      let parts = and_parts _ _ is_like in
      let keys = choice_of number cases.Map 1 (option_map (λ body. entry_cost number body (least_body e)) (gap_body enum_view true (elements.Scalar k) (elements.Scalar l))) in
      let values = choice_of number cases.Map 2 (option_map (one_item (old (presences.Map k))) (gap_body enum_view true e d)) in
      let all : Allowed ((keys ++ values) ++ choice_of number cases.Map 2 (option_map (one_item (old (presences.Map k))) (child_body table e d))) = rw is_like at allowed in
      like_maps k l c rest known parts.0 parts.1 (each_before _ _ _ (each_before _ _ _ all)) (each_after _ keys values (each_before _ _ _ all)) (each_after _ (keys ++ values) _ all))
      (λ unlike. by_least (presences.Map k) (presences.Map l) (c ∷ rest) known (rw unlike at allowed).0)
      (cases_Bool (like (elements.Scalar k) (elements.Scalar l) && like e d))

  -- Any two fields.

  by_plain : (p q : Presence) → IsNoMap p → IsNoMap q → (cs : List Comparand) → Known p q cs → Allowed (plain_choices enum_view table (old p) (new q)) → Fate p q cs
  by_plain p q no_p no_q cs known allowed =
      ⊎_elim (λ is_like. by_like p q no_p no_q cs known is_like allowed) (λ unlike. by_unlike p q cs known (rw unlike at allowed).0) (cases_Bool (like e d))

  by_field : (p q : Presence) (cs : List Comparand) → Known p q cs → Allowed (field_choices enum_view table (old p) (new q)) → Fate p q cs
  by_field (presences.Map k) (presences.Map l) cs known allowed = by_maps k l cs known allowed
  by_field (presences.Map k) presences.Implicit cs known allowed = by_unlike (presences.Map k) presences.Implicit cs known allowed.0
  by_field (presences.Map k) presences.Explicit cs known allowed = by_unlike (presences.Map k) presences.Explicit cs known allowed.0
  by_field (presences.Map k) (presences.Repeated w) cs known allowed = by_unlike (presences.Map k) (presences.Repeated w) cs known allowed.0
  by_field presences.Implicit (presences.Map l) cs known allowed = by_unlike presences.Implicit (presences.Map l) cs known allowed.0
  by_field presences.Explicit (presences.Map l) cs known allowed = by_unlike presences.Explicit (presences.Map l) cs known allowed.0
  by_field (presences.Repeated p) (presences.Map l) cs known allowed = by_unlike (presences.Repeated p) (presences.Map l) cs known allowed.0
  by_field presences.Implicit presences.Implicit cs known allowed = by_plain presences.Implicit presences.Implicit tt tt cs known allowed
  by_field presences.Implicit presences.Explicit cs known allowed = by_plain presences.Implicit presences.Explicit tt tt cs known allowed
  by_field presences.Implicit (presences.Repeated w) cs known allowed = by_plain presences.Implicit (presences.Repeated w) tt tt cs known allowed
  by_field presences.Explicit presences.Implicit cs known allowed = by_plain presences.Explicit presences.Implicit tt tt cs known allowed
  by_field presences.Explicit presences.Explicit cs known allowed = by_plain presences.Explicit presences.Explicit tt tt cs known allowed
  by_field presences.Explicit (presences.Repeated w) cs known allowed = by_plain presences.Explicit (presences.Repeated w) tt tt cs known allowed
  by_field (presences.Repeated p) presences.Implicit cs known allowed = by_plain (presences.Repeated p) presences.Implicit tt tt cs known allowed
  by_field (presences.Repeated p) presences.Explicit cs known allowed = by_plain (presences.Repeated p) presences.Explicit tt tt cs known allowed
  by_field (presences.Repeated p) (presences.Repeated w) cs known allowed = by_plain (presences.Repeated p) (presences.Repeated w) tt tt cs known allowed

-- A content is none, or it is hidden, or it crosses; or it has a length that each choice of its field allows.
pub field_fate : (enum_view : EnumView) → IsEnumView enum_view → (table : Table) (child : Reader) (Q : ℕ → Type 0) → ((m n : ℕ) → m ≤ n → Q m → Q n) → (f g : FieldShape) (cs : List Comparand) → IsContent table child f g cs → AllByRecursion (λ (c : Choice). Q c.cost) (field_choices enum_view table f g) → ((cs ≡ []) ⊎ (Hides f g cs ⊎ Crosses enum_view.alike child f g cs)) ⊎ Q (total f cs)
field_fate enum_view law table child Q up f g cs h allowed =
    subst (λ x. ((cs ≡ []) ⊎ (Hides f x cs ⊎ Crosses enum_view.alike child f x cs)) ⊎ Q (total f cs)) (sym here)
    (by_field enum_view law table child Q up f.number f.element g.element f.oneof g.oneof f.presence g.presence cs
    (record { fits_old = h.fits_old; fits_new = h.fits_new; holds = h.holds; in_order = h.in_order; bounds = h.bounds; short = h.short })
    (subst (λ x. AllByRecursion (λ (c : Choice). Q c.cost) (field_choices enum_view table f x)) here allowed))
  where
    here : g ≡ record { number = f.number; presence = g.presence; element = g.element; oneof = g.oneof }
    here = λ i. record { number = h.numbers i; presence = g.presence; element = g.element; oneof = g.oneof }
