-- The choices of a pair: how a message of the old type can break, and what a message costs that does.
use Rattle.std.specs.Prelude.{ℕ, ◌+◌, ◌*◌, nat_le, List, [], ◌∷◌, ◌++◌, filter, flat_map, Bool, true, false, not, ◌&&◌, ◌||◌, if◌then◌else◌, Option, Some, None, option_map, option_and_then}
use Rattle.pg_schema.specs.declared.parts.field.Scalar.{Scalar}
use Rattle.pg_schema.specs.declared.parts.field.Element.{Element}
use Rattle.pg_schema.specs.declared.parts.field.Element.TheVariants as elements
use Rattle.pg_schema.specs.declared.parts.field.Presence.{Presence}
use Rattle.pg_schema.specs.declared.parts.field.Presence.TheVariants as presences
use Rattle.pg_schema.specs.Shape.{Shape, FieldShape, fields, field_at, is_singular, is_implicit}
use Rattle.pg_dyn.specs.word.Coding.{form}
use Rattle.pg_dyn.specs.reading.Content.{same_oneof}
use Rattle.pg_dyn.specs.encoding.Encoding.{cap}
use Rattle.pg_pairs.specs.declared.choices.case.Case.{Case}
use Rattle.pg_pairs.specs.declared.choices.case.Case.TheVariants as cases
use Rattle.pg_pairs.specs.declared.choices.choice.Choice.{Choice}
use Rattle.pg_pairs.specs.declared.choices.choice.Pair.{Pair}
use Rattle.pg_pairs.specs.views.EnumView.{EnumView}
use Rattle.pg_pairs.specs.gaps.Likeness.{like}
use Rattle.pg_pairs.specs.gaps.Gaps.{body_length, gap_item}
use Rattle.pg_pairs.specs.choices.Costs.{with_length, least_body, nonzero_body, entry_cost, one_item, least_content}

-- For a pair: not there, or its bound. Without a number it says that no message of the pair breaks.
abbrev pub Table : Type 0
Table = Pair → Option (Option ℕ)

-- no pair is there
abbrev pub no_bounds : Table
no_bounds pair = None

-- the bound of a pair, where it is there and a number
abbrev pub number_for : Table → Pair → Option ℕ
number_for table pair = option_and_then (λ bound. bound) (table pair)

-- the number by which a case is printed
abbrev pub case_number : Case → ℕ
case_number cases.Unlike = 1
case_number cases.Gap = 2
case_number cases.Child = 3
case_number cases.List = 4
case_number cases.Map = 5
case_number cases.Oneof = 6

-- two fields meet
abbrev pub is_oneof : Case → Bool
is_oneof cases.Oneof = true
is_oneof case = false

abbrev pub choice : ℕ → Case → ℕ → ℕ → Choice
choice number case part cost = record { number = number; case = case; part = part; cost = cost }

-- the choice of that cost, where there is one
abbrev pub choice_of : ℕ → Case → ℕ → Option ℕ → List Choice
choice_of number case part None = []
choice_of number case part (Some cost) = choice number case part cost ∷ []

-- zero counts as an item of the old field beside the new one
abbrev pub zero_counts : FieldShape → FieldShape → Bool
zero_counts f g =
    not (is_implicit f.presence || (is_singular f.presence && is_singular g.presence && is_implicit g.presence))

-- unlike fields: the least content; not zero where both are singular and the new one is implicit
abbrev pub unlike_cost : FieldShape → FieldShape → ℕ
unlike_cost f g = if zero_counts f g then least_content f else one_item f (nonzero_body f.element)

-- the least body of a gap's item
abbrev pub gap_body : EnumView → Bool → Element → Element → Option ℕ
gap_body enum_view zero old new = option_map (body_length (form old)) (gap_item enum_view zero old new)

-- the pair of two elements that are messages
abbrev pub child_pair : Element → Element → Option Pair
child_pair (elements.Message s) (elements.Message t) = Some (record { old = s; new = t })
child_pair old new = None

-- a child's bound as a body
abbrev pub child_body : Table → Element → Element → Option ℕ
child_body table old new = option_map with_length (option_and_then (number_for table) (child_pair old new))

-- a list where the new type has one item: a packed record isn't accepted, of two records the last counts, and a zero
-- isn't shown
abbrev pub singular_cost : FieldShape → FieldShape → Option ℕ
singular_cost f g = of f.presence g.presence
  where
    of : Presence → Presence → Option ℕ
    of (presences.Repeated true) presences.Explicit = Some (least_content f)
    of (presences.Repeated false) presences.Explicit = Some (2 * least_content f)
    of (presences.Repeated packed) presences.Implicit = Some (least_content f)
    of (presences.Repeated packed) (presences.Repeated q) = None
    of (presences.Repeated packed) (presences.Map key) = None
    of presences.Implicit q = None
    of presences.Explicit q = None
    of (presences.Map key) q = None

-- a field that is no map in either type
abbrev pub plain_choices : EnumView → Table → FieldShape → FieldShape → List Choice
plain_choices enum_view table f g =
    if like f.element g.element then
    choice_of f.number cases.Gap 0 (option_map (one_item f) (gap_body enum_view (zero_counts f g) f.element g.element))
    ++ choice_of f.number cases.Child 0 (option_map (one_item f) (child_body table f.element g.element))
    ++ choice_of f.number cases.List 0 (singular_cost f g)
    else choice f.number cases.Unlike 0 (unlike_cost f g) ∷ []

-- a map in both types: the parts are the key, 1, and the value, 2
abbrev pub map_choices : EnumView → Table → FieldShape → FieldShape → Scalar → Scalar → List Choice
map_choices enum_view table f g k l =
    if like (elements.Scalar k) (elements.Scalar l) && like f.element g.element then
    choice_of f.number cases.Map 1 (option_map (λ body. entry_cost f.number body (least_body f.element))
    (gap_body enum_view true (elements.Scalar k) (elements.Scalar l)))
    ++ choice_of f.number cases.Map 2 (option_map (one_item f) (gap_body enum_view true f.element g.element))
    ++ choice_of f.number cases.Map 2 (option_map (one_item f) (child_body table f.element g.element))
    else choice f.number cases.Map 0 (least_content f) ∷ []

-- the type of a map's keys
abbrev pub map_key : Presence → Option Scalar
map_key (presences.Map key) = Some key
map_key p = None

-- of a map beside a map, of two fields that are none, and of a map beside a field that is none
abbrev pub choices_by : EnumView → Table → FieldShape → FieldShape → Option Scalar → Option Scalar → List Choice
choices_by enum_view table f g (Some k) (Some l) = map_choices enum_view table f g k l
choices_by enum_view table f g None None = plain_choices enum_view table f g
choices_by enum_view table f g k l = choice f.number cases.Unlike 0 (unlike_cost f g) ∷ []

-- the choices of one field, by case and part
abbrev pub field_choices : EnumView → Table → FieldShape → FieldShape → List Choice
field_choices enum_view table f g = choices_by enum_view table f g (map_key f.presence) (map_key g.presence)

abbrev pub in_one_oneof : Option FieldShape → Option FieldShape → Bool
in_one_oneof (Some g) (Some h) = same_oneof g.oneof h.oneof
in_one_oneof g h = false

-- two fields of both types, in one new oneof and not in one old oneof
abbrev pub joins : List FieldShape → FieldShape → FieldShape → Bool
joins gs a b = not (same_oneof a.oneof b.oneof) && in_one_oneof (field_at gs a.number) (field_at gs b.number)

abbrev pub joined_choices : List FieldShape → FieldShape → List FieldShape → List Choice
joined_choices gs a later =
    flat_map (λ (b : FieldShape).
    if joins gs a b then choice a.number cases.Oneof b.number (least_content a + least_content b) ∷ [] else []) later

-- the choices of a field beside the new type's field of its number, where there is one
abbrev pub choices_beside : EnumView → Table → FieldShape → Option FieldShape → List Choice
choices_beside enum_view table f (Some g) = field_choices enum_view table f g
choices_beside enum_view table f None = []

-- the choices of the fields, by number, case and part
abbrev pub all_choices : EnumView → Table → List FieldShape → List FieldShape → List Choice
all_choices enum_view table gs [] = []
all_choices enum_view table gs (f ∷ later) =
    choices_beside enum_view table f (field_at gs f.number) ++ joined_choices gs f later
    ++ all_choices enum_view table gs later

-- what costs more than an encoding may have is no choice
abbrev pub affordable : List Choice → List Choice
affordable cs = filter (λ (c : Choice). nat_le c.cost cap) cs

abbrev pub choices : EnumView → Table → Shape → Shape → Pair → List Choice
choices enum_view table old new pair =
    affordable (all_choices enum_view table (fields new pair.new) (fields old pair.old))

-- of equal costs the former
abbrev pub cheaper : Choice → Option Choice → Choice
cheaper c None = c
cheaper c (Some d) = if nat_le c.cost d.cost then c else d

-- a choice of the least cost, of several the first; none where there is no choice
abbrev pub cheapest : List Choice → Option Choice
cheapest [] = None
cheapest (c ∷ cs) = Some (cheaper c (cheapest cs))
