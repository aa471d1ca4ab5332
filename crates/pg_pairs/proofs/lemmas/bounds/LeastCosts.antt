-- What choices cost at least, and what the cheapest does.
use Rattle.std.proofs.Common.{◌≡◌, ℕ, ◌≤◌, List, [], ◌∷◌, length, true, false, if◌then◌else◌, Option, Some, None, option_map, IfSome, refl, sym, subst, arith, rules}
use Rattle.std.specs.List.{AllByRecursion}
use Rattle.std.proofs.lemmas.Bool.{leb-true}
use Rattle.pg_schema.specs.declared.parts.field.Element.{Element}
use Rattle.pg_schema.specs.declared.parts.field.Element.TheVariants as elements
use Rattle.pg_schema.specs.declared.parts.field.Presence.{Presence}
use Rattle.pg_schema.specs.declared.parts.field.Presence.TheVariants as presences
use Rattle.pg_schema.specs.Shape.{Shape, FieldShape, fields}
use Rattle.pg_wire.specs.declared.record.WireType.{WireType}
use Rattle.pg_wire.specs.declared.record.WireType.TheVariants.{Len}
use Rattle.pg_wire.specs.Records.{tag}
use Rattle.pg_dyn.specs.word.Coding.{form, form_wire}
use Rattle.pg_dyn.specs.encoding.Encoding.{cap}
use Rattle.pg_pairs.specs.declared.choices.case.Case.{Case}
use Rattle.pg_pairs.specs.declared.choices.choice.Choice.{Choice}
use Rattle.pg_pairs.specs.declared.choices.choice.Pair.{Pair}
use Rattle.pg_pairs.specs.views.EnumView.{EnumView}
use Rattle.pg_pairs.specs.choices.Costs.{least_body, nonzero_body, entry_cost, one_item, least_content}
use Rattle.pg_pairs.specs.choices.Choices.{Table, choice_of, zero_counts, unlike_cost, singular_cost, all_choices, affordable, choices, cheapest}
use Rattle.pg_pairs.specs.laws.CheapestLaws.{IsCheapest}
use Rattle.pg_pairs.specs.bounds.Covering.{IsWithin, IsAmong}
use Rattle.pg_pairs.specs.bounds.LeastCosts.{least_cost, LeastCostsAreExact}
use Rattle.pg_pairs.proofs.lemmas.choices.Among.{among_each}
use Rattle.pg_pairs.proofs.lemmas.choices.Cheaper.{cheapest_is_least}
use Rattle.pg_pairs.proofs.lemmas.choices.Offers.{HoldsOfEach, each_choice}
use Rattle.pg_wire.proofs.PublicLaws.{lengths_grow}

-- Costs are at least 1.

tag_some : (number : ℕ) (wire : WireType) → 1 ≤ length (tag number wire)
unfolding tag
tag_some number wire = lengths_grow.3 _

entry_some : (number key value : ℕ) → 1 ≤ entry_cost number key value
entry_some number key value = omega (arith, tag_some number Len)

item_some : (number : ℕ) (p : Presence) (e : Element) (o : Option ℕ) (n : ℕ) → 1 ≤ one_item (record { number = number; presence = p; element = e; oneof = o }) n
item_some number presences.Implicit e o n = omega (arith, tag_some number (form_wire (form e)))
item_some number presences.Explicit e o n = omega (arith, tag_some number (form_wire (form e)))
item_some number (presences.Repeated false) e o n = omega (arith, tag_some number (form_wire (form e)))
item_some number (presences.Repeated true) e o n = omega (arith, tag_some number Len)
item_some number (presences.Map key) e o n = entry_some number (least_body (elements.Scalar key)) n

one_item_some : (f : FieldShape) (n : ℕ) → 1 ≤ one_item f n
one_item_some f n = item_some f.number f.presence f.element f.oneof n

content_some : (number : ℕ) (p : Presence) (e : Element) (o : Option ℕ) → 1 ≤ least_content (record { number = number; presence = p; element = e; oneof = o })
content_some number presences.Implicit e o = item_some number presences.Implicit e o (nonzero_body e)
content_some number presences.Explicit e o = item_some number presences.Explicit e o (least_body e)
content_some number (presences.Repeated packed) e o = item_some number (presences.Repeated packed) e o (least_body e)
content_some number (presences.Map key) e o = item_some number (presences.Map key) e o (least_body e)

least_content_some : (f : FieldShape) → 1 ≤ least_content f
least_content_some f = content_some f.number f.presence f.element f.oneof

unlike_some : (f g : FieldShape) → 1 ≤ unlike_cost f g
unlike_some f g = elim (zero_counts f g) as (λ b. 1 ≤ (if b then least_content f else one_item f (nonzero_body f.element))) [ true ↦ least_content_some f | false ↦ one_item_some f (nonzero_body f.element) ]

-- a bound that is no number, or at least 1
abbrev IsSomeLength : Option ℕ → Type 0
IsSomeLength (Some n) = 1 ≤ n
IsSomeLength None = Unit {0}

singular_some : (number : ℕ) (p q : Presence) (e d : Element) (o r : Option ℕ) → IsSomeLength (singular_cost (record { number = number; presence = p; element = e; oneof = o }) (record { number = number; presence = q; element = d; oneof = r }))
singular_some number (presences.Repeated true) presences.Explicit e d o r = content_some number (presences.Repeated true) e o
singular_some number (presences.Repeated false) presences.Explicit e d o r = let some = content_some number (presences.Repeated false) e o in omega arith
singular_some number (presences.Repeated packed) presences.Implicit e d o r = content_some number (presences.Repeated packed) e o
singular_some number (presences.Repeated packed) (presences.Repeated q) e d o r = tt
singular_some number (presences.Repeated packed) (presences.Map key) e d o r = tt
singular_some number presences.Implicit q e d o r = tt
singular_some number presences.Explicit q e d o r = tt
singular_some number (presences.Map key) q e d o r = tt

mapped_some : (h : ℕ → ℕ) → ((n : ℕ) → 1 ≤ h n) → (o : Option ℕ) → IsSomeLength (option_map h o)
mapped_some h some None = tt
mapped_some h some (Some n) = some n

-- Lists of choices.

-- each choice costs at least 1
abbrev AreSome : List Choice → Type 0
AreSome cs = AllByRecursion (λ (c : Choice). 1 ≤ c.cost) cs

some-offered : (number : ℕ) (case : Case) (part : ℕ) (o : Option ℕ) → IsSomeLength o → AreSome (choice_of number case part o)
some-offered number case part None some = tt
some-offered number case part (Some n) some = (some, tt)

-- The choices of a pair under a table.
module _ (enum_view : EnumView) (table : Table) where
  some-each : (f g : FieldShape) → HoldsOfEach (λ (c : Choice). 1 ≤ c.cost) enum_view table f g
  some-each f g =
      search (rules, unlike_some, some-offered, singular_some, least_content_some, mapped_some, entry_some, one_item_some)

  some-all : (gs fs : List FieldShape) → AreSome (all_choices enum_view table gs fs)
  some-all = each_choice (λ (c : Choice). 1 ≤ c.cost) enum_view table some-each (λ a b. let both = least_content_some a in omega arith)

-- of what an encoding may have too each costs at least 1, and none more than that
some-affordable : (cs : List Choice) → AreSome cs → AllByRecursion (λ (c : Choice). (1 ≤ c.cost) × (c.cost ≤ cap)) (affordable cs)
some-affordable [] h = tt
some-affordable (c ∷ cs) h = search (rules, some-affordable cs h.1, leb-true)

-- The cheapest of a list.

abbrev pub cost_of : Option Choice → Option ℕ
cost_of o = option_map (λ (c : Choice). c.cost) o

cheapest_among : (cs : List Choice) (d : Choice) → cheapest cs ≡ Some d → IsAmong d cs
cheapest_among cs d is = (subst (λ o. IsCheapest o cs) is (cheapest_is_least cs)).0

-- The laws.

pub each_length : (enum_view : EnumView) (old new : Shape) (table : Table) (pair : Pair) → AllByRecursion (λ (c : Choice). (1 ≤ c.cost) × (c.cost ≤ cap)) (choices enum_view table old new pair)
each_length enum_view old new table pair = some-affordable (all_choices enum_view table (fields new pair.new) (fields old pair.old)) (some-all enum_view table (fields new pair.new) (fields old pair.old))

-- A least cost is a length that an encoding of a breaking message may have.
pub least_costs_are_lengths : (enum_view : EnumView) (old new : Shape) (table : Table) (pair : Pair) → IfSome (least_cost enum_view table old new pair) (λ n. (1 ≤ n) × (n ≤ cap))
least_costs_are_lengths enum_view old new table pair = of (cheapest (choices enum_view table old new pair)) refl
  where
    of : (o : Option Choice) → cheapest (choices enum_view table old new pair) ≡ o → IfSome (cost_of o) (λ n. (1 ≤ n) × (n ≤ cap))
    of None e = tt
    of (Some c) e = among_each (λ (c : Choice). (1 ≤ c.cost) × (c.cost ≤ cap)) c (choices enum_view table old new pair) (cheapest_among (choices enum_view table old new pair) c e) (each_length enum_view old new table pair)

pub least_costs_are_exact : LeastCostsAreExact
least_costs_are_exact enum_view old new table pair there =
    search (rules, below, cheapest_is_least, chosen_of)
  where
    chosen_of : (o : Option Choice) (x : ℕ) → cheapest (choices enum_view table old new pair) ≡ o → cost_of o ≡ Some x → (c : Choice) × IsAmong c (choices enum_view table old new pair) × (c.cost ≡ x)
    chosen_of None x e is = absurd (cc)
    chosen_of (Some c) x e is = (c, cheapest_among (choices enum_view table old new pair) c e, let same : c.cost ≡ x = cc in same)

    below : (o : Option Choice) → IsCheapest o (choices enum_view table old new pair) → AllByRecursion (λ (c : Choice). IsWithin (cost_of o) c.cost) (choices enum_view table old new pair)
    below (Some c) least = least.1
    below None none = subst (AllByRecursion (λ (c : Choice). IsWithin None c.cost)) (sym none) tt
