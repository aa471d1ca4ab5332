-- Each message inside parts weighs less than a message with these parts. These lemmas are among the definitions, since
-- the models of messages cite what rests on them, and what a model cites may not rest on proofs of its own crate.
use Rattle.std.specs.Prelude.{◌≡◌, refl, ℕ, suc, ◌≤◌, map, List, [], ◌∷◌, ◌++◌, Option, ⊤}
use Rattle.std.proofs.Common.{arith}
use denote.Param.Weighed.{most}
use Rattle.std.specs.List.{AllByRecursion}
use Rattle.pg_dyn.specs.message.Message.{Leaf, Part}
use Rattle.pg_dyn.specs.message.Kept.{Kept}
use Rattle.pg_dyn.specs.message.KeptParts.{KeptItem, Plain, Msg}
use Rattle.pg_dyn.specs.message.Replacing.{all_parts, kept_onto, kept_part}
use Rattle.pg_dyn.specs.message.Weights.{weight}

-- what more parts in front do
abbrev pub Deeper : ℕ → Kept → Kept → Type 0
Deeper deep later whole = (deep ≤ weight whole) × (weight later ≤ weight whole)

-- more than the message that an item is
abbrev pub heft : KeptItem → ℕ
heft (Plain manner leaf) = 0
heft (Msg listed child) = suc (weight child)

part_deep : (number : ℕ) (key : Option Leaf) (item : KeptItem) (later : Kept) → 1 ≤ weight later
    → Deeper (heft item) later (kept_part number key item later)
part_deep number key (Plain manner leaf) later h = (omega arith, omega arith)
part_deep number key (Msg listed child) later h = (omega arith, omega arith)

-- parts in front of others
onto_two : (ps qs : List (Part KeptItem)) (later : Kept)
    → kept_onto (ps ++ qs) later ≡ kept_onto ps (kept_onto qs later)
onto_two [] qs later = refl
onto_two (p ∷ ps) qs later = rw (onto_two ps qs later) refl

pub each_any : {A : Type 0} (xs : List A) → AllByRecursion (λ (x : A). ⊤) xs
each_any [] = tt
each_any (x ∷ xs) = (tt, each_any xs)

-- no element of a list is deeper than its part is heavy
pub list_deep : {A : Type 0} (part : A → Part KeptItem) (deep : A → ℕ) (P : A → Type 0)
    → ((x : A) → P x → deep x ≤ heft (part x).item)
    → (xs : List A) (later : Kept) → AllByRecursion P xs → 1 ≤ weight later
    → Deeper (most deep xs) later (kept_onto (map part xs) later)
list_deep part deep P each [] later all h = (omega arith, omega arith)
list_deep part deep P each (x ∷ xs) later all h =
    let rest = list_deep part deep P each xs later all.1 h in
    let first = part_deep (part x).number (part x).key (part x).item (kept_onto (map part xs) later)
    (omega (arith, h, rest.1)) in
    (omega (arith, rest.0, first.0, first.1, each x all.0), omega (arith, rest.1, first.1))

pub fields_deep : {C : Type 0} (parts : ℕ → C → List (Part KeptItem)) (deep : ℕ × C → ℕ) (P : ℕ × C → Type 0)
    → ((f : ℕ × C) (later : Kept) → P f → 1 ≤ weight later → Deeper (deep f) later (kept_onto (parts f.0 f.1) later))
    → (fs : List (ℕ × C)) (later : Kept) → AllByRecursion P fs → 1 ≤ weight later
    → Deeper (most deep fs) later (kept_onto (all_parts parts fs) later)
fields_deep parts deep P each [] later all h = (omega arith, omega arith)
fields_deep parts deep P each (f ∷ fs) later all h =
    let rest = fields_deep parts deep P each fs later all.1 h in
    let first = each f (kept_onto (all_parts parts fs) later) all.0 (omega (arith, h, rest.1)) in
    rw (onto_two (parts f.0 f.1) (all_parts parts fs) later)
    (omega (arith, rest.0, first.0, first.1), omega (arith, rest.1, first.1))
