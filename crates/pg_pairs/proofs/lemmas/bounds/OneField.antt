-- The law of one field: content that the new field's reader doesn't see costs at least as much as some choice of the field.
use Rattle.std.proofs.Common.{◌≡◌, ℕ, ◌≤◌, List, [], true, false, ◌⊎◌, ⊎_elim, ◌∙◌, subst, arith, rules}
use Rattle.std.specs.List.{AllByRecursion}
use Rattle.pg_schema.specs.declared.parts.field.Presence.TheVariants as presences
use Rattle.pg_schema.specs.Shape.{FieldShape}
use Rattle.pg_schema.specs.ShapeRules.{PresenceFits}
use Rattle.pg_dyn.specs.reading.Decoding.{Reader}
use Rattle.pg_dyn.specs.views.Comparison.{View, Comparand}
use Rattle.pg_dyn.specs.laws.ByComparands.{is_field_kept}
use Rattle.pg_pairs.specs.declared.choices.choice.Choice.{Choice}
use Rattle.pg_pairs.specs.views.EnumView.{EnumView}
use Rattle.pg_pairs.specs.views.ViewLaws.{IsEnumView}
use Rattle.pg_pairs.specs.choices.Choices.{Table, field_choices}
use Rattle.pg_pairs.specs.bounds.Covering.{IsAmong}
use Rattle.pg_pairs.specs.inner.Contents.{ContentsCost, total, Holds, IsContent}
use Rattle.pg_pairs.proofs.lemmas.gaps.GapItems.{implicit_leafy}
use Rattle.pg_pairs.proofs.lemmas.bounds.Across.{kept_across}
use Rattle.pg_pairs.proofs.lemmas.gaps.Zeros.{zero_kept}
use Rattle.pg_pairs.proofs.lemmas.bounds.Comparands.{empty_kept, leafy_item}
use Rattle.pg_pairs.proofs.lemmas.bounds.Ways.{Hides, Crosses}
use Rattle.pg_pairs.proofs.lemmas.bounds.Fates.{field_fate}
use Rattle.pg_pairs.proofs.lemmas.graph.Reaching.{every_is_among}

-- a zero that is hidden is kept
pub hidden_kept : (view : View) (child : Reader) (f g : FieldShape) (cs : List Comparand) → g.number ≡ f.number → PresenceFits g.presence g.element g.oneof → AllByRecursion (Holds f) cs → Hides f g cs → is_field_kept view child f g cs ≡ true
hidden_kept view child f g cs numbers fits_new holds hides =
    let fits : PresenceFits presences.Implicit g.element g.oneof = subst (λ q. PresenceFits q g.element g.oneof) hides.implicit fits_new in
    let held = leafy_item f.element hides.comparand hides.leafy (subst (AllByRecursion (Holds f)) hides.one holds).0.item in
    let literal = zero_kept view child f.number f.element g.element f.oneof g.oneof (implicit_leafy g.element g.oneof fits) hides.comparand held.1 held.0 hides.zero in
    (λ i. is_field_kept view child (record { number = f.number; presence = hides.explicit i; element = f.element; oneof = f.oneof })
    (record { number = numbers i; presence = hides.implicit i; element = g.element; oneof = g.oneof }) (hides.one i))
    ∙ literal

fate_kept : (view : View) (child : Reader) (f g : FieldShape) (cs : List Comparand) → g.number ≡ f.number → PresenceFits g.presence g.element g.oneof → AllByRecursion (Holds f) cs → (cs ≡ []) ⊎ (Hides f g cs ⊎ Crosses view child f g cs) → is_field_kept view child f g cs ≡ true
fate_kept view child f g cs numbers fits_new holds fate =
    search (rules, empty_kept, hidden_kept, kept_across)

-- Content that isn't kept has a length that each choice of its field allows.
pub one_field : (enum_view : EnumView) → IsEnumView enum_view → (table : Table) (child : Reader) (Q : ℕ → Type 0) → ((m n : ℕ) → m ≤ n → Q m → Q n) → (f g : FieldShape) (cs : List Comparand) → IsContent table child f g cs → is_field_kept enum_view.alike child f g cs ≡ false → AllByRecursion (λ (c : Choice). Q c.cost) (field_choices enum_view table f g) → Q (total f cs)
one_field enum_view law table child Q up f g cs h broken allowed =
    ⊎_elim
    (λ fate. let kept = fate_kept enum_view.alike child f g cs h.numbers h.fits_new h.holds fate in absurd (cc))
    (λ dear. dear)
    (field_fate enum_view law table child Q up f g cs h allowed)

-- Content that isn't kept costs at least as much as one of its field's choices.

pub contents_cost : ContentsCost
contents_cost enum_view law table child f g cs content broken =
    one_field enum_view law table child (λ n. (c : Choice) × IsAmong c (field_choices enum_view table f g) × (c.cost ≤ n))
    (λ m n le some. (some.0, some.1, let fewer = some.2 in omega (arith, fewer, le))) f g cs content broken
    (every_is_among (λ (c : Choice). (d : Choice) × IsAmong d (field_choices enum_view table f g) × (d.cost ≤ c.cost)) (field_choices enum_view table f g)
    (λ c among. (c, among, omega arith)))
