-- Each comparand is seen, or a choice costs no more than the content.
use Rattle.std.proofs.Common.{◌≡◌, ℕ, ◌≤◌, List, [], ◌∷◌, Bool, true, Option, Some, None, option_map, ◌⊎◌, inl, inr, ⊎_elim, length-append, rules}
use Rattle.std.specs.List.{AllByRecursion}
use Rattle.std.proofs.lemmas.Bool.{cases_Bool}
use Rattle.pg_schema.specs.declared.parts.field.TypeId.{TypeId}
use Rattle.pg_schema.specs.declared.parts.field.Element.{Element}
use Rattle.pg_schema.specs.declared.parts.field.Element.TheVariants as elements
use Rattle.pg_schema.specs.Shape.{FieldShape}
use Rattle.pg_dyn.specs.views.Comparison.{Kept, Comparand}
use Rattle.pg_dyn.specs.message.Message.{Leaf, Bytes, Message}
use Rattle.pg_dyn.specs.word.Coding.{form, InRange}
use Rattle.pg_dyn.specs.reading.Decoding.{Reader}
use Rattle.pg_pairs.specs.declared.choices.case.Case.{Case}
use Rattle.pg_pairs.specs.declared.choices.choice.Choice.{Choice}
use Rattle.pg_pairs.specs.views.EnumView.{EnumView}
use Rattle.pg_pairs.specs.views.ViewLaws.{IsEnumView}
use Rattle.pg_pairs.specs.gaps.Likeness.{like}
use Rattle.pg_pairs.specs.gaps.Gaps.{body_length, gap_item}
use Rattle.pg_pairs.specs.gaps.TrueGaps.{is_seen, ItemCounts, IsGapItem}
use Rattle.pg_pairs.specs.choices.Choices.{Table, choice_of, gap_body, child_body}
use Rattle.pg_pairs.specs.inner.Contents.{HoldsItem, Holds, is_child_kept, ChildBound}
use Rattle.pg_pairs.proofs.lemmas.gaps.Lengths.{with_length_rises}
use Rattle.pg_pairs.proofs.lemmas.gaps.GapItems.{IsLeafy, gap_item_is}
use Rattle.pg_pairs.proofs.lemmas.bounds.Across.{Seen}
use Rattle.pg_pairs.proofs.lemmas.bounds.Comparands.{leafy_seen, child_seen}

-- Q is what a length has that is at least as much as a choice costs.
module _ (enum_view : EnumView) (law : IsEnumView enum_view) (table : Table) (child : Reader) (Q : ℕ → Type 0) (up : (m n : ℕ) → m ≤ n → Q m → Q n) where
  abbrev pub Allowed : List Choice → Type 0
  Allowed cs = AllByRecursion (λ (c : Choice). Q c.cost) cs

  -- an item is seen, or the gap costs no more
  gap_or : (price : ℕ → ℕ) (zero : Bool) (e d : Element) (o : Option Leaf) → IsGapItem enum_view.alike zero e d o → (number : ℕ) (case : Case) (part : ℕ) → Allowed (choice_of number case part (option_map price (option_map (body_length (form e)) o))) → (n : ℕ) (item : Leaf) → InRange (form e) item → ItemCounts zero item → ((b : ℕ) → b ≤ body_length (form e) item → price b ≤ n) → (is_seen enum_view.alike e d item ≡ true) ⊎ Q n
  gap_or price zero e d None gap number case part allowed n item range counts cost = inl (gap item range counts)
  gap_or price zero e d (Some least) gap number case part allowed n item range counts cost =
      search (rules, cases_Bool)

  pub leaf_or : (price : ℕ → ℕ) (zero : Bool) (e d : Element) → IsLeafy e → like e d ≡ true → (number : ℕ) (case : Case) (part : ℕ) → Allowed (choice_of number case part (option_map price (gap_body enum_view zero e d))) → (n : ℕ) (item : Leaf) → InRange (form e) item → ItemCounts zero item → ((b : ℕ) → b ≤ body_length (form e) item → price b ≤ n) → (is_seen enum_view.alike e d item ≡ true) ⊎ Q n
  leaf_or price zero e d leafy is_like number case part allowed n item range counts cost =
      gap_or price zero e d (gap_item enum_view zero e d) (gap_item_is enum_view law zero e d leafy is_like) number case part allowed n item range counts cost

  -- a child is kept, or its pair's bound costs no more
  child_or : (price : ℕ → ℕ) (s t : TypeId) (number : ℕ) (case : Case) (part : ℕ) → Allowed (choice_of number case part (option_map price (child_body table (elements.Message s) (elements.Message t)))) → (n : ℕ) (c : Comparand) (bytes : List ℕ) (test : Message → Bool) → c.written ≡ Bytes bytes → c.expected ≡ Kept test → ChildBound table child (elements.Message s) (elements.Message t) c → ((b : ℕ) → b ≤ body_length (form (elements.Message s)) c.written → price b ≤ n) → (is_child_kept child t test bytes ≡ true) ⊎ Q n
  child_or price s t number case part allowed n c bytes test w so bound cost =
      search (rules, cases_Bool, with_length_rises, length-append)

  -- A comparand between like elements is seen, or a gap or a child costs no more.
  comparand_or_at : (f g : FieldShape) (zero : Bool) (price : ℕ → ℕ) (e d : Element) → like e d ≡ true → (number : ℕ) (case_gap : Case) (part_gap : ℕ) (case_child : Case) (part_child : ℕ) → Allowed (choice_of number case_gap part_gap (option_map price (gap_body enum_view zero e d))) → Allowed (choice_of number case_child part_child (option_map price (child_body table e d))) → (n : ℕ) (c : Comparand) → Holds (record { number = f.number; presence = f.presence; element = e; oneof = f.oneof }) c → ItemCounts zero c.written → ChildBound table child e d c → ((b : ℕ) → b ≤ body_length (form e) c.written → price b ≤ n) → Seen enum_view.alike child (record { number = f.number; presence = f.presence; element = e; oneof = f.oneof }) (record { number = g.number; presence = g.presence; element = d; oneof = g.oneof }) c ⊎ Q n
  comparand_or_at f g zero price (elements.Message s) (elements.Message t) is_like number cg pg ch pc gaps children n c holds counts bound cost = of holds.item
    where
      of : HoldsItem (elements.Message s) c → Seen enum_view.alike child (record { number = f.number; presence = f.presence; element = elements.Message s; oneof = f.oneof }) (record { number = g.number; presence = g.presence; element = elements.Message t; oneof = g.oneof }) c ⊎ Q n
      of (bytes, test, w, so) =
          ⊎_elim (λ kept. inl (child_seen enum_view.alike child f g s t c holds bytes test w so kept)) (λ q. inr q)
          (child_or price s t number ch pc children n c bytes test w so bound cost)
  comparand_or_at f g zero price (elements.Message s) (elements.Scalar t) is_like number cg pg ch pc gaps children n c holds counts bound cost = absurd (cc)
  comparand_or_at f g zero price (elements.Message s) (elements.Enum t) is_like number cg pg ch pc gaps children n c holds counts bound cost = absurd (cc)
  comparand_or_at f g zero price (elements.Scalar s) (elements.Message t) is_like number cg pg ch pc gaps children n c holds counts bound cost = absurd (cc)
  comparand_or_at f g zero price (elements.Enum s) (elements.Message t) is_like number cg pg ch pc gaps children n c holds counts bound cost = absurd (cc)
  comparand_or_at f g zero price (elements.Scalar s) (elements.Scalar t) is_like number cg pg ch pc gaps children n c holds counts bound cost =
      ⊎_elim (λ seen. inl (leafy_seen enum_view.alike child _ _ c tt tt is_like holds seen)) (λ q. inr q)
      (leaf_or price zero (elements.Scalar s) (elements.Scalar t) tt is_like number cg pg gaps n c.written holds.item.0 counts cost)
  comparand_or_at f g zero price (elements.Scalar s) (elements.Enum t) is_like number cg pg ch pc gaps children n c holds counts bound cost =
      ⊎_elim (λ seen. inl (leafy_seen enum_view.alike child _ _ c tt tt is_like holds seen)) (λ q. inr q)
      (leaf_or price zero (elements.Scalar s) (elements.Enum t) tt is_like number cg pg gaps n c.written holds.item.0 counts cost)
  comparand_or_at f g zero price (elements.Enum s) (elements.Scalar t) is_like number cg pg ch pc gaps children n c holds counts bound cost =
      ⊎_elim (λ seen. inl (leafy_seen enum_view.alike child _ _ c tt tt is_like holds seen)) (λ q. inr q)
      (leaf_or price zero (elements.Enum s) (elements.Scalar t) tt is_like number cg pg gaps n c.written holds.item.0 counts cost)
  comparand_or_at f g zero price (elements.Enum s) (elements.Enum t) is_like number cg pg ch pc gaps children n c holds counts bound cost =
      ⊎_elim (λ seen. inl (leafy_seen enum_view.alike child _ _ c tt tt is_like holds seen)) (λ q. inr q)
      (leaf_or price zero (elements.Enum s) (elements.Enum t) tt is_like number cg pg gaps n c.written holds.item.0 counts cost)

  pub comparand_or : (f g : FieldShape) (zero : Bool) (price : ℕ → ℕ) → like f.element g.element ≡ true → (number : ℕ) (case_gap : Case) (part_gap : ℕ) (case_child : Case) (part_child : ℕ) → Allowed (choice_of number case_gap part_gap (option_map price (gap_body enum_view zero f.element g.element))) → Allowed (choice_of number case_child part_child (option_map price (child_body table f.element g.element))) → (n : ℕ) (c : Comparand) → Holds f c → ItemCounts zero c.written → ChildBound table child f.element g.element c → ((b : ℕ) → b ≤ body_length (form f.element) c.written → price b ≤ n) → Seen enum_view.alike child f g c ⊎ Q n
  comparand_or f g zero price = comparand_or_at f g zero price f.element g.element

-- all of a list, or the goal
pub each_or : {A : Type 0} (P : A → Type 0) (G : Type 0) (xs : List A) → AllByRecursion (λ x. P x ⊎ G) xs → AllByRecursion P xs ⊎ G
each_or P G [] h = inl tt
each_or P G (x ∷ xs) h = search (rules, each_or P G xs h.1)
