-- Small certificates as they are written, by computation.
use Rattle.std.specs.Prelude.{codes}
use Rattle.std.specs.String.{string_bytes}
use Rattle.std.specs.Fmt.{digits}
use Rattle.std.proofs.Common.{◌≡◌, ℕ, true, List, [], ◌∷◌, ◌++◌, length, reverse, slice_get, slice_index, unwrap_or, Option, Some, None, option_map, refl, ap, sym, ◌∙◌, append_assoc, arith, lit<}
use Rattle.std.proofs.lemmas.List.{length-map, reverse-append}
use Rattle.std.proofs.lemmas.Option.{slice_get-map}
use Rattle.hex.proofs.OnLiterals.{hex_on_literals}
use Rattle.pg_schema.specs.declared.parts.message_type.MessageType.{MessageType}
use Rattle.pg_schema.specs.declared.parts.Parts.{Parts}
use Rattle.pg_dyn.specs.declared.view_name.ViewName.{ViewName}
use Rattle.pg_dyn.specs.declared.view_name.ViewName.TheVariants as views
use Rattle.pg_cert.specs.declared.heading.Heading.{Heading}
use Rattle.pg_cert.specs.declared.heading.Heading.TheVariants as headings
use Rattle.pg_cert.specs.Certificate.{are_bounds, Claim}
use Rattle.pg_cert.specs.Witness.{AreBytes, is_witness}
use Rattle.pg_cert.specs.inner.Reading.{after_heading, front}
use Rattle.pg_cert.specs.Text.{IsClaimOf, Names, names_of, text_of, view_of, witness_word}
use Rattle.pg_cert.specs.inner.Lines.{last_text, lines_text}
use Rattle.pg_cert.specs.laws.Worked.{by_names, child_witness, in_child, inner, minus_one, one_renamed, outer, to_unsigned, unchanged}
use Rattle.pg_cert.specs.laws.WorkedTexts.{AreNamed, IsNoText, IsNotTextOf, IsTextOf, WorkedTexts, m_and_n, only_m, only_n}
use Rattle.pg_cert.proofs.WholeRead.{head-row}
use Rattle.pg_cert.proofs.WitnessRead.{last-row}

-- the types of these names
abbrev listed : List (List ℕ) → Names
listed names id = unwrap_or (slice_get names id.index) []

as_listed : (names : List (List ℕ)) (parts : Parts) → AreNamed names parts → names_of parts ≡ listed names
as_listed names parts are = λ j id. at id.index j
  where
    at : (i : ℕ) → unwrap_or (option_map (λ (t : MessageType). string_bytes t.name) (slice_get parts.types.items i)) [] ≡ unwrap_or (slice_get names i) []
    at i = ap (λ found. unwrap_or found []) (sym (slice_get-map (λ (t : MessageType). string_bytes t.name) parts.types.items i) ∙ ap (λ ns. slice_get ns i) are)

as_many : (names : List (List ℕ)) (parts : Parts) → AreNamed names parts → length parts.types.items ≡ length names
as_many names parts are = sym (length-map parts.types.items (λ (t : MessageType). string_bytes t.name)) ∙ ap length are

-- a claim of so many types on each side
abbrev OfAsMany : ℕ → Claim → Type 0
OfAsMany n claim = (old new : Parts) → length old.types.items ≡ n → length new.types.items ≡ n → IsClaimOf old new claim

text_is : (names : List (List ℕ)) (claim : Claim) (heading : Heading) (text : List ℕ) → OfAsMany (length names) claim → are_bounds claim.bounds ≡ true → is_witness claim.witness ≡ true → AreBytes claim.witness → view_of heading ≡ claim.view → text ≡ text_of heading (listed names) (listed names) claim → IsTextOf names claim text
text_is names claim heading text of_types bounds witness bytes viewed spelled old new old_named new_named = record {
  has_texts = record {
    of_schemas = of_types old new (as_many names old old_named) (as_many names new new_named);
    bounds = bounds;
    witness = witness;
    bytes = bytes;
  };
  heading = heading;
  viewed = viewed;
  spelled = spelled ∙ sym (λ j. text_of heading (as_listed names old old_named j) (as_listed names new new_named j) claim);
}

of_first : (view : ViewName) (bound : Option ℕ) (witness : Option (List ℕ)) → OfAsMany 1 (record { view = view; root = unchanged.root; bounds = record { pair = unchanged.root; bound = bound } ∷ []; witness = witness })
of_first view bound witness old new a b = record { root = (omega (arith, a), omega (arith, b)); bounds = ((omega (arith, a), omega (arith, b)), tt) }

of_both : OfAsMany 2 (in_child (outer ∷ inner ∷ []) (Some child_witness))
of_both old new a b = record {
  root = (omega (arith, a), omega (arith, b));
  bounds = ((omega (arith, a), omega (arith, b)), ((omega (arith, a), omega (arith, b)), tt));
}

unchanged_field : IsTextOf only_m unchanged (codes "protogate-certificate 1\nroot M M\npair M M none\nwitness none\nend\n")
unchanged_field = text_is only_m unchanged headings.First _ (of_first views.Numbers None None) refl refl tt refl refl

tree_unchanged : IsTextOf only_n unchanged (codes "protogate-certificate 1\nroot N N\npair N N none\nwitness none\nend\n")
tree_unchanged = text_is only_n unchanged headings.First _ (of_first views.Numbers None None) refl refl tt refl refl

second_version : IsTextOf only_m unchanged (codes "protogate-certificate 2\nview numbers\nroot M M\npair M M none\nwitness none\nend\n")
second_version = text_is only_m unchanged (headings.Second views.Numbers) _ (of_first views.Numbers None None) refl refl tt refl refl

second_by_names : IsTextOf only_m (by_names unchanged) (codes "protogate-certificate 2\nview names\nroot M M\npair M M none\nwitness none\nend\n")
second_by_names = text_is only_m (by_names unchanged) (headings.Second views.Names) _ (of_first views.Names None None) refl refl tt refl refl

renamed_number : IsTextOf only_m one_renamed (codes "protogate-certificate 2\nview names\nroot M M\npair M M 2\nwitness 0801\nend\n")
unfolding digits hex_on_literals
renamed_number = text_is only_m one_renamed (headings.Second views.Names) _ (of_first views.Names (Some 2) (Some (8 ∷ 1 ∷ []))) refl refl (lit< tt, (lit< tt, tt)) refl refl

int32_to_uint32 : IsTextOf only_m (to_unsigned (Some 11)) (codes "protogate-certificate 1\nroot M M\npair M M 11\nwitness 08ffffffffffffffffff01\nend\n")
unfolding digits hex_on_literals
int32_to_uint32 = text_is only_m (to_unsigned (Some 11)) headings.First _ (of_first views.Numbers (Some 11) (Some minus_one)) refl refl (lit< tt, (lit< tt, (lit< tt, (lit< tt, (lit< tt, (lit< tt, (lit< tt, (lit< tt, (lit< tt, (lit< tt, (lit< tt, tt))))))))))) refl refl

child_breaks : IsTextOf m_and_n (in_child (outer ∷ inner ∷ []) (Some child_witness)) (codes "protogate-certificate 1\nroot N N\npair N N 8\npair M M 6\nwitness 1206088080808008\nend\n")
unfolding digits hex_on_literals
child_breaks = text_is m_and_n (in_child (outer ∷ inner ∷ []) (Some child_witness)) headings.First _ of_both refl refl (lit< tt, (lit< tt, (lit< tt, (lit< tt, (lit< tt, (lit< tt, (lit< tt, (lit< tt, tt)))))))) refl refl

-- two strings with another byte at that offset
apart : (at a b : ℕ) (text other : List ℕ) → slice_index text at ≡ a → slice_index other at ≡ b → (a ≡ b → ⊥) → text ≡ other → ⊥
apart at a b text other is_a is_b differ same = differ (sym is_a ∙ ap (λ t. slice_index t at) same ∙ is_b)

-- a string with that byte has the heading of version 1
only_first : (text : List ℕ) → slice_index text 22 ≡ 49 → (heading : Heading) (later : List ℕ) → text ≡ front heading ++ later → heading ≡ headings.First
only_first text byte headings.First later is = refl
only_first text byte (headings.Second views.Numbers) later is = absurd (let bad : ◌≡◌ {A = ℕ} 49 50 = sym byte ∙ ap (λ t. slice_index t 22) is in omega arith)
only_first text byte (headings.Second views.Names) later is = absurd (let bad : ◌≡◌ {A = ℕ} 49 50 = sym byte ∙ ap (λ t. slice_index t 22) is in omega arith)

-- another string in version 1
another : (names : List (List ℕ)) (claim : Claim) (text other : List ℕ) → IsTextOf names claim text → slice_index text 22 ≡ 49 → slice_index other 22 ≡ 49 → (text ≡ other → ⊥) → IsNotTextOf names claim other
another names claim text other is first other_first differ old new old_named new_named certifies =
    let one = is old new old_named new_named in
    let here : one.heading ≡ headings.First = only_first text first one.heading _ (one.spelled ∙ head-row one.heading (names_of old) (names_of new) claim) in
    let there : certifies.heading ≡ headings.First = only_first other other_first certifies.heading _ (certifies.spelled ∙ head-row certifies.heading (names_of old) (names_of new) claim) in
    differ (one.spelled ∙ ap (λ (h : Heading). text_of h (names_of old) (names_of new) claim) (here ∙ sym there) ∙ sym certifies.spelled)

another_bound : IsNotTextOf only_m (to_unsigned (Some 11)) (codes "protogate-certificate 1\nroot M M\npair M M 12\nwitness 08ffffffffffffffffff01\nend\n")
another_bound = another only_m (to_unsigned (Some 11)) _ _ int32_to_uint32 refl refl (apart 43 49 50 _ _ refl refl (λ h. omega (arith, h)))

another_witness : IsNotTextOf only_m (to_unsigned (Some 11)) (codes "protogate-certificate 1\nroot M M\npair M M 11\nwitness 08ffffffffffffffffff02\nend\n")
another_witness = another only_m (to_unsigned (Some 11)) _ _ int32_to_uint32 refl refl (apart 74 49 50 _ _ refl refl (λ h. omega (arith, h)))

another_order : IsNotTextOf m_and_n (in_child (outer ∷ inner ∷ []) (Some child_witness)) (codes "protogate-certificate 1\nroot N N\npair M M 6\npair N N 8\nwitness 1206088080808008\nend\n")
another_order = another m_and_n (in_child (outer ∷ inner ∷ []) (Some child_witness)) _ _ child_breaks refl refl (apart 38 78 77 _ _ refl refl (λ h. omega (arith, h)))

views_differ : views.Numbers ≡ views.Names → ⊥
views_differ h = absurd (cc)

names_in_first : IsNotTextOf only_m (by_names unchanged) (codes "protogate-certificate 1\nroot M M\npair M M none\nwitness none\nend\n")
names_in_first old new old_named new_named certifies =
    let first : certifies.heading ≡ headings.First = only_first (codes "protogate-certificate 1\nroot M M\npair M M none\nwitness none\nend\n") refl certifies.heading _ (certifies.spelled ∙ head-row certifies.heading (names_of old) (names_of new) (by_names unchanged)) in
    views_differ (sym (ap view_of first) ∙ certifies.viewed)

only_names : (heading : Heading) (later : List ℕ) → codes "protogate-certificate 2\nview names\nroot M M\npair M M none\nwitness none\nend\n" ≡ front heading ++ later → view_of heading ≡ views.Numbers → ⊥
only_names headings.First later is view = let bad : ◌≡◌ {A = ℕ} 50 49 = ap (λ t. slice_index t 22) is in omega arith
only_names (headings.Second views.Numbers) later is view = let bad : ◌≡◌ {A = ℕ} 97 117 = ap (λ t. slice_index t 30) is in omega arith
only_names (headings.Second views.Names) later is view = views_differ (sym view)

another_view : IsNotTextOf only_m unchanged (codes "protogate-certificate 2\nview names\nroot M M\npair M M none\nwitness none\nend\n")
another_view old new old_named new_named certifies = only_names certifies.heading _ (certifies.spelled ∙ head-row certifies.heading (names_of old) (names_of new) unchanged) certifies.viewed

-- the string begins with no heading
no_text : (text : List ℕ) → ((heading : Heading) (later : List ℕ) → text ≡ front heading ++ later → ⊥) → IsNoText text
no_text text differs old new claim certifies =
    differs certifies.heading (after_heading (names_of old) (names_of new) claim) (certifies.spelled ∙ head-row certifies.heading (names_of old) (names_of new) claim)

no_view-heading : (heading : Heading) (later : List ℕ) → codes "protogate-certificate 2\nroot M M\npair M M none\nwitness none\nend\n" ≡ front heading ++ later → ⊥
no_view-heading headings.First later is = let bad : ◌≡◌ {A = ℕ} 50 49 = ap (λ t. slice_index t 22) is in omega arith
no_view-heading (headings.Second views.Numbers) later is = let bad : ◌≡◌ {A = ℕ} 114 118 = ap (λ t. slice_index t 24) is in omega arith
no_view-heading (headings.Second views.Names) later is = let bad : ◌≡◌ {A = ℕ} 114 118 = ap (λ t. slice_index t 24) is in omega arith

no_view : IsNoText (codes "protogate-certificate 2\nroot M M\npair M M none\nwitness none\nend\n")
no_view = no_text _ no_view-heading

view_in_first-heading : (heading : Heading) (later : List ℕ) → codes "protogate-certificate 1\nview numbers\nroot M M\npair M M none\nwitness none\nend\n" ≡ front heading ++ later → ⊥
view_in_first-heading headings.First later is = let bad : ◌≡◌ {A = ℕ} 118 114 = ap (λ t. slice_index t 24) is in omega arith
view_in_first-heading (headings.Second views.Numbers) later is = let bad : ◌≡◌ {A = ℕ} 49 50 = ap (λ t. slice_index t 22) is in omega arith
view_in_first-heading (headings.Second views.Names) later is = let bad : ◌≡◌ {A = ℕ} 49 50 = ap (λ t. slice_index t 22) is in omega arith

view_in_first : IsNoText (codes "protogate-certificate 1\nview numbers\nroot M M\npair M M none\nwitness none\nend\n")
view_in_first = no_text _ view_in_first-heading

another_version-heading : (heading : Heading) (later : List ℕ) → codes "protogate-certificate 3\nview numbers\nroot M M\npair M M none\nwitness none\nend\n" ≡ front heading ++ later → ⊥
another_version-heading headings.First later is = let bad : ◌≡◌ {A = ℕ} 51 49 = ap (λ t. slice_index t 22) is in omega arith
another_version-heading (headings.Second views.Numbers) later is = let bad : ◌≡◌ {A = ℕ} 51 50 = ap (λ t. slice_index t 22) is in omega arith
another_version-heading (headings.Second views.Names) later is = let bad : ◌≡◌ {A = ℕ} 51 50 = ap (λ t. slice_index t 22) is in omega arith

another_version : IsNoText (codes "protogate-certificate 3\nview numbers\nroot M M\npair M M none\nwitness none\nend\n")
another_version = no_text _ another_version-heading

no_root-heading : (heading : Heading) (later : List ℕ) → codes "protogate-certificate 1\npair M M none\nwitness none\nend\n" ≡ front heading ++ later → ⊥
no_root-heading headings.First later is = let bad : ◌≡◌ {A = ℕ} 112 114 = ap (λ t. slice_index t 24) is in omega arith
no_root-heading (headings.Second views.Numbers) later is = let bad : ◌≡◌ {A = ℕ} 49 50 = ap (λ t. slice_index t 22) is in omega arith
no_root-heading (headings.Second views.Names) later is = let bad : ◌≡◌ {A = ℕ} 49 50 = ap (λ t. slice_index t 22) is in omega arith

no_root : IsNoText (codes "protogate-certificate 1\npair M M none\nwitness none\nend\n")
no_root = no_text _ no_root-heading

no_line-heading : (heading : Heading) (later : List ℕ) → [] ≡ front heading ++ later → ⊥
no_line-heading headings.First later is = let bad : ◌≡◌ {A = ℕ} 0 112 = ap (λ t. slice_index t 0) is in omega arith
no_line-heading (headings.Second views.Numbers) later is = let bad : ◌≡◌ {A = ℕ} 0 112 = ap (λ t. slice_index t 0) is in omega arith
no_line-heading (headings.Second views.Names) later is = let bad : ◌≡◌ {A = ℕ} 0 112 = ap (λ t. slice_index t 0) is in omega arith

no_line : IsNoText []
no_line = no_text _ no_line-heading

-- the last bytes of each string
abbrev Ends : List ℕ → Type 0
Ends text = (front : List ℕ) × (text ≡ front ++ codes "end\n")

ends_after : (front text : List ℕ) → Ends text → Ends (front ++ text)
ends_after front text is = (front ++ is.0, ap (λ t. front ++ t) is.1 ∙ sym (append_assoc front is.0 (codes "end\n")))

last_ends : (witness : Option (List ℕ)) → Ends (last_text witness)
last_ends witness = (codes "witness " ++ (witness_word witness ++ 10 ∷ []), last-row witness ∙ ap (λ t. codes "witness " ++ t) (sym (append_assoc (witness_word witness) (10 ∷ []) (codes "end\n"))))

text_ends : (heading : Heading) (old new : Names) (claim : Claim) → Ends (text_of heading old new claim)
text_ends heading old new claim =
    let last = ends_after (lines_text old new claim.bounds) _ (last_ends claim.witness) in
    let second = ends_after (new claim.root.new) _ (ends_after (10 ∷ []) _ last) in
    let first = ends_after (old claim.root.old) _ (ends_after (32 ∷ []) _ second) in
    let whole = ends_after (front heading) _ first in
    (whole.0, head-row heading old new claim ∙ whole.1)

no_end : IsNoText (codes "protogate-certificate 1\nroot M M\npair M M none\nwitness none\n")
no_end old new claim certifies =
    let ends = text_ends certifies.heading (names_of old) (names_of new) claim in
    apart 1 101 100 (reverse (codes "protogate-certificate 1\nroot M M\npair M M none\nwitness none\n")) (reverse (codes "end\n") ++ reverse ends.0) refl refl (λ h. omega (arith, h)) (ap reverse (certifies.spelled ∙ ends.1) ∙ reverse-append ends.0 (codes "end\n"))

pub worked_texts : WorkedTexts
worked_texts = record {
  unchanged_field = unchanged_field;
  int32_to_uint32 = int32_to_uint32;
  child_breaks = child_breaks;
  tree_unchanged = tree_unchanged;
  second_version = second_version;
  second_by_names = second_by_names;
  renamed_number = renamed_number;
  another_bound = another_bound;
  another_witness = another_witness;
  another_order = another_order;
  names_in_first = names_in_first;
  another_view = another_view;
  no_view = no_view;
  view_in_first = view_in_first;
  another_version = another_version;
  no_root = no_root;
  no_end = no_end;
  no_line = no_line;
}
