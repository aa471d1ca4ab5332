-- How far costs go: a cause's, and what an edge's is more than its child's bound.
use Rattle.std.proofs.Common.{◌≡◌, ℕ, zero, suc, ◌+◌, ◌/◌, ◌≤◌, ℤ, pos, negsuc, List, [], ◌∷◌, length, Bool, true, false, nat_lt, Option, Some, None, option_map, IfSome, refl, arith, length-append, rules}
use Rattle.std.specs.List.{AllByRecursion}
use Rattle.pg_schema.specs.declared.parts.field.Scalar.TheVariants.{Int32}
use Rattle.pg_schema.specs.declared.parts.field.Element.{Element}
use Rattle.pg_schema.specs.declared.parts.field.Element.TheVariants as elements
use Rattle.pg_schema.specs.declared.parts.field.Presence.{Presence}
use Rattle.pg_schema.specs.declared.parts.field.Presence.TheVariants as presences
use Rattle.pg_schema.specs.Shape.{Shape, FieldShape}
use Rattle.pg_wire.specs.declared.record.WireType.{WireType}
use Rattle.pg_wire.specs.declared.record.WireType.TheVariants.{Varint, I64, Len, I32}
use Rattle.pg_wire.specs.Varint.{shortest_within, varint}
use Rattle.pg_wire.specs.Records.{length_before, tag}
use Rattle.pg_dyn.specs.message.Message.{Leaf, Int, Bytes}
use Rattle.pg_dyn.specs.word.Coding.{Form, Integer, Single, Double, Text, Raw, body, form, form_wire, int32, scalar_form, word_bytes}
use Rattle.pg_dyn.proofs.Lists.{each_filtered}
use Rattle.pg_pairs.specs.declared.choices.case.Case.{Case}
use Rattle.pg_pairs.specs.declared.choices.case.Case.TheVariants as cases
use Rattle.pg_pairs.specs.declared.choices.choice.Choice.{Choice}
use Rattle.pg_pairs.specs.declared.choices.choice.Pair.{Pair}
use Rattle.pg_pairs.specs.declared.gaps.gap_kind.Gap.{Gap}
use Rattle.pg_pairs.specs.declared.gaps.gap_kind.Gap.TheVariants as gaps
use Rattle.pg_pairs.specs.views.EnumView.{EnumView}
use Rattle.pg_pairs.specs.bounds.Covering.{IsAmong}
use Rattle.pg_pairs.specs.gaps.Gaps.{body_length, gap, item_named, item_of}
use Rattle.pg_pairs.specs.choices.Costs.{with_length, least_of_wire, least_body, least_nonzero, nonzero_body, entry_cost, one_item, least_content}
use Rattle.pg_pairs.specs.choices.Choices.{choice_of, zero_counts, unlike_cost, gap_body, child_body, singular_cost, all_choices, no_bounds}
use Rattle.pg_pairs.specs.choices.Causes.{causes}
use Rattle.pg_pairs.proofs.lemmas.choices.Among.{among_each}
use Rattle.pg_pairs.proofs.lemmas.choices.Offers.{HoldsOfEach, each_choice}

-- Lengths.

within_short : (m n : ℕ) → length (shortest_within m n) ≤ suc m
within_short zero n = omega arith
within_short (suc m) n = search (rules, within_short m (n / 128), nat_lt)

varint_short : (n : ℕ) → length (varint n) ≤ 10
unfolding varint
varint_short n = within_short 9 n

tag_short : (number : ℕ) (wire : WireType) → length (tag number wire) ≤ 10
unfolding tag
tag_short number wire = varint_short _

pub lengths_near : (n : ℕ) → with_length n ≤ n + 10
lengths_near n = let short = varint_short n in omega arith

wire_low : (wire : WireType) → least_of_wire wire ≤ 8
wire_low Varint = omega arith
wire_low I64 = omega arith
wire_low Len = omega arith
wire_low I32 = omega arith

least_low : (e : Element) → least_body e ≤ 8
least_low e = wire_low (form_wire (form e))

form_low : (f : Form) → least_nonzero f ≤ 8
form_low (Integer whole) = wire_low whole.wire
form_low Single = omega arith
form_low Double = omega arith
form_low Text = omega arith
form_low Raw = omega arith

nonzero_low : (e : Element) → nonzero_body e ≤ 8
nonzero_low (elements.Message t) = omega arith
nonzero_low (elements.Scalar s) = form_low (form (elements.Scalar s))
nonzero_low (elements.Enum e) = form_low (form (elements.Enum e))

entry_near : (number key value : ℕ) → entry_cost number key value ≤ key + value + 22
entry_near number key value = let own = tag_short number Len in let whole = lengths_near (2 + key + value) in omega arith

item_by : (number : ℕ) (p : Presence) (e : Element) (o : Option ℕ) (n : ℕ) → one_item (record { number = number; presence = p; element = e; oneof = o }) n ≤ n + 30
item_by number presences.Implicit e o n = let own = tag_short number (form_wire (form e)) in omega arith
item_by number presences.Explicit e o n = let own = tag_short number (form_wire (form e)) in omega arith
item_by number (presences.Repeated false) e o n = let own = tag_short number (form_wire (form e)) in omega arith
item_by number (presences.Repeated true) e o n = let own = tag_short number Len in let whole = lengths_near n in omega arith
item_by number (presences.Map key) e o n = let low = least_low (elements.Scalar key) in let entry = entry_near number (least_body (elements.Scalar key)) n in omega arith

pub item_near : (f : FieldShape) (n : ℕ) → one_item f n ≤ n + 30
item_near f n = item_by f.number f.presence f.element f.oneof n

content_by : (number : ℕ) (p : Presence) (e : Element) (o : Option ℕ) → least_content (record { number = number; presence = p; element = e; oneof = o }) ≤ 38
content_by number presences.Implicit e o = let low = nonzero_low e in let near = item_by number presences.Implicit e o (nonzero_body e) in omega arith
content_by number presences.Explicit e o = let low = least_low e in let near = item_by number presences.Explicit e o (least_body e) in omega arith
content_by number (presences.Repeated packed) e o = let low = least_low e in let near = item_by number (presences.Repeated packed) e o (least_body e) in omega arith
content_by number (presences.Map key) e o = let low = least_low e in let near = item_by number (presences.Map key) e o (least_body e) in omega arith

content_low : (f : FieldShape) → least_content f ≤ 38
content_low f = content_by f.number f.presence f.element f.oneof

unlike_low : (f g : FieldShape) → unlike_cost f g ≤ 38
unlike_low f g = search (rules, nonzero_low, item_near, content_low)

-- none, or a number that is no more
abbrev IsUpTo : ℕ → Option ℕ → Type 0
IsUpTo most o = IfSome o (λ n. n ≤ most)

mapped_low : (h : ℕ → ℕ) (few many : ℕ) → ((n : ℕ) → n ≤ few → h n ≤ many) → (o : Option ℕ) → IsUpTo few o → IsUpTo many (option_map h o)
mapped_low h few many low None up = tt
mapped_low h few many low (Some n) up = low n up

singular_low : (number : ℕ) (p q : Presence) (e d : Element) (o r : Option ℕ) → IsUpTo 100 (singular_cost (record { number = number; presence = p; element = e; oneof = o }) (record { number = number; presence = q; element = d; oneof = r }))
singular_low number (presences.Repeated true) presences.Explicit e d o r = let low = content_by number (presences.Repeated true) e o in omega arith
singular_low number (presences.Repeated false) presences.Explicit e d o r = let low = content_by number (presences.Repeated false) e o in omega arith
singular_low number (presences.Repeated packed) presences.Implicit e d o r = let low = content_by number (presences.Repeated packed) e o in omega arith
singular_low number (presences.Repeated packed) (presences.Repeated q) e d o r = tt
singular_low number (presences.Repeated packed) (presences.Map key) e d o r = tt
singular_low number presences.Implicit q e d o r = tt
singular_low number presences.Explicit q e d o r = tt
singular_low number (presences.Map key) q e d o r = tt

-- Gaps: their items are numbers or strings of one letter.

word_short : (wire : WireType) (word : ℕ) → length (word_bytes wire word) ≤ 10
unfolding word_bytes
word_short Varint word = varint_short word
word_short I64 word = omega arith
word_short I32 word = omega arith
word_short Len word = omega arith

before_short : (wire : WireType) (bytes : List ℕ) → length (length_before wire bytes) ≤ 10
before_short Varint bytes = omega arith
before_short I64 bytes = omega arith
before_short I32 bytes = omega arith
before_short Len bytes = varint_short (length bytes)

short_body : (f : Form) (item : Leaf) → length (body f item) ≤ 10 → body_length f item ≤ 20
short_body f item short = search (rules, length-append, before_short)

named_low : (f : Form) (value : ℤ) → body_length f (item_named f value) ≤ 20
named_low (Integer whole) value = short_body (Integer whole) (Int value) (word_short whole.wire (whole.word value))
named_low Single value = short_body Single (Int value) (omega arith)
named_low Double value = short_body Double (Int value) (omega arith)
named_low Text (pos n) = short_body Text (Bytes (n ∷ [])) (omega arith)
named_low Text (negsuc n) = short_body Text (Bytes []) (omega arith)
named_low Raw (pos n) = short_body Raw (Bytes (n ∷ [])) (omega arith)
named_low Raw (negsuc n) = short_body Raw (Bytes []) (omega arith)

item_low : (f : Form) (g : Gap) → IsUpTo 20 (option_map (body_length f) (item_of f g))
item_low f gaps.Unlike = tt
item_low f gaps.None = tt
item_low f (gaps.Least bytes value) = named_low f value

gap_low : (enum_view : EnumView) (counts : Bool) (old new : Element) → IsUpTo 20 (gap_body enum_view counts old new)
gap_low enum_view counts (elements.Message s) new = tt
gap_low enum_view counts (elements.Scalar s) (elements.Message t) = tt
gap_low enum_view counts (elements.Scalar s) (elements.Scalar t) = item_low (scalar_form s) (gap s t)
gap_low enum_view counts (elements.Scalar s) (elements.Enum t) = item_low (scalar_form s) (gap s Int32)
gap_low enum_view counts (elements.Enum s) (elements.Message t) = tt
gap_low enum_view counts (elements.Enum s) (elements.Scalar t) = item_low (form (elements.Enum s)) (gap Int32 t)
gap_low enum_view counts (elements.Enum s) (elements.Enum t) = of (enum_view.least s t counts) refl
  where
    of : (o : Option ℤ) → enum_view.least s t counts ≡ o → IsUpTo 20 (gap_body enum_view counts (elements.Enum s) (elements.Enum t))
    of None is = rw is tt
    of (Some n) is = rw is (named_low (Integer int32) n)

-- Choices without bounds.

abbrev AreLow : List Choice → Type 0
AreLow cs = AllByRecursion (λ (c : Choice). c.cost ≤ 100) cs

low-offered : (number : ℕ) (case : Case) (part : ℕ) (o : Option ℕ) → IsUpTo 100 o → AreLow (choice_of number case part o)
low-offered number case part None up = tt
low-offered number case part (Some n) up = (up, tt)

-- no bound is there, so that no child has a cost
low-child : (f : FieldShape) (case : Case) (part : ℕ) (e d : Element) → AreLow (choice_of f.number case part (option_map (one_item f) (child_body no_bounds e d)))
low-child f case part (elements.Message s) (elements.Message t) = tt
low-child f case part (elements.Message s) (elements.Scalar t) = tt
low-child f case part (elements.Message s) (elements.Enum t) = tt
low-child f case part (elements.Scalar s) d = tt
low-child f case part (elements.Enum s) d = tt

module _ (enum_view : EnumView) where
  low-each : (f g : FieldShape) → HoldsOfEach (λ (c : Choice). c.cost ≤ 100) enum_view no_bounds f g
  low-each f g = record {
    unlike = let low = unlike_low f g in omega arith;
    gap = λ no_map. low-gap (zero_counts f g) cases.Gap 0;
    child = λ no_map. low-child f cases.Child 0 f.element g.element;
    list = λ no_map. low-offered f.number cases.List 0 (singular_cost f g) (singular_low f.number f.presence g.presence f.element g.element f.oneof g.oneof);
    apart = λ k is_map. let low = content_low f in omega arith;
    key = λ k l is_map.
        let low = least_low f.element in
        let keys = gap_body enum_view true (elements.Scalar k) (elements.Scalar l) in
        low-offered f.number cases.Map 1 (option_map (λ body. entry_cost f.number body (least_body f.element)) keys)
        (mapped_low (λ body. entry_cost f.number body (least_body f.element)) 20 100 (λ n up. let near = entry_near f.number n (least_body f.element) in omega arith) keys (gap_low enum_view true (elements.Scalar k) (elements.Scalar l)));
    value = λ k is_map. low-gap true cases.Map 2;
    value_child = λ k is_map. low-child f cases.Map 2 f.element g.element;
  }
    where
      low-gap : (counts : Bool) (case : Case) (part : ℕ) → AreLow (choice_of f.number case part (option_map (one_item f) (gap_body enum_view counts f.element g.element)))
      low-gap counts case part =
          low-offered f.number case part (option_map (one_item f) (gap_body enum_view counts f.element g.element))
          (mapped_low (one_item f) 20 100 (λ n up. let near = item_near f n in omega arith) (gap_body enum_view counts f.element g.element) (gap_low enum_view counts f.element g.element))

  pub low-all : (gs fs : List FieldShape) → AreLow (all_choices enum_view no_bounds gs fs)
  low-all = each_choice (λ (c : Choice). c.cost ≤ 100) enum_view no_bounds low-each (λ a b. let one = content_low a in let other = content_low b in omega arith)

  pub causes_are_low : (old new : Shape) (pair : Pair) (c : Choice) → IsAmong c (causes enum_view old new pair) → c.cost ≤ 100
  causes_are_low old new pair c among = search (rules, among_each, each_filtered, low-all)
