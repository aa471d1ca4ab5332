-- The path down of a witness, by the cheapest choices.
use Rattle.std.proofs.Common.{◌≡◌, ℕ, ◌<◌, ◌≤◌, List, [], ◌∷◌, ◌++◌, length, true, is_some, option_and_then, option_map, Option, Some, None, refl, ap, ap₂, sym, ◌∙◌, subst, subst₂, arith, append_assoc}
use Rattle.pg_schema.specs.Shape.{Shape}
use Rattle.pg_dyn.specs.message.Message.{Message}
use Rattle.pg_dyn.specs.fitting.Fits.{Fits}
use Rattle.pg_dyn.specs.message.Kept.{Kept, message_of, type_of}
use Rattle.pg_pairs.proofs.lemmas.choices.Among.{among_each}
use Rattle.pg_pairs.specs.declared.choices.choice.Choice.{Choice}
use Rattle.pg_pairs.specs.declared.choices.choice.Pair.{Pair}
use Rattle.pg_pairs.specs.views.EnumView.{EnumView}
use Rattle.pg_pairs.specs.witness.Carried.{carried, choice_child}
use Rattle.pg_pairs.specs.witness.CarriedChoices.{ChildGiven, ChildReached, ChildThere}
use Rattle.pg_pairs.specs.choices.Choices.{cheapest, Table, number_for, choices}
use Rattle.pg_pairs.specs.laws.CheapestLaws.{IsCheapest, CheapestIsLeast}
use Rattle.pg_pairs.specs.bounds.Covering.{IsWithin, IsAmong}
use Rattle.pg_pairs.specs.bounds.Laws.{ReachedBy}
use Rattle.pg_least.specs.declared.witness.PairChoice.{PairChoice}
use Rattle.pg_least.specs.inner.Descent.{IsCarriedFrom, IsStep, IsPathDown, IsWholePath, first_step}
use Rattle.pg_least.specs.From.{IsExactTable}
use Rattle.pg_least.specs.Searched.{IsPath, carried_along}

-- the number of a pair's bound
pub number_there : (table : Table) (pair : Pair) → is_some (number_for table pair) ≡ true → (n : ℕ) × (table pair ≡ Some (Some n))
number_there table pair h = of (table pair) h
  where
    of : (o : Option (Option ℕ)) → is_some (option_and_then (λ bound. bound) o) ≡ true → (n : ℕ) × (o ≡ Some (Some n))
    of (Some (Some n)) h = (n, refl)
    of (Some None) h = absurd (cc)
    of None h = absurd (cc)

pub number_of : (table : Table) (pair : Pair) (n : ℕ) → table pair ≡ Some (Some n) → is_some (number_for table pair) ≡ true
number_of table pair n is = rw is refl

same_number : {n m : ℕ} {o : Option (Option ℕ)} → o ≡ Some (Some n) → o ≡ Some (Some m) → n ≡ m
same_number h k = cc

pub first_on : (steps : List PairChoice) (last next : PairChoice) → first_step (steps ++ last ∷ []) next ≡ first_step steps last
first_on [] last next = refl
first_on (s ∷ steps) last next = refl

module _ (enum_view : EnumView) (old new : Shape) (table : Table) where
  module _ (exact : IsExactTable enum_view old new table) (least : CheapestIsLeast) (pair : Pair) (number : is_some (number_for table pair) ≡ true) where
    is_cheapest : (o : Option Choice) → cheapest (choices enum_view table old new pair) ≡ o → IsCheapest o (choices enum_view table old new pair)
    is_cheapest o is = subst (λ x. IsCheapest x (choices enum_view table old new pair)) is (least (choices enum_view table old new pair))

    -- the cheapest choice costs what the bound says
    pub cheapest_step : (c : Choice) → cheapest (choices enum_view table old new pair) ≡ Some c → IsStep enum_view old new table (record { pair = pair; choice = c })
    cheapest_step c is =
        let (n, there) = number_there table pair number in
        let (d, chosen, cost) = (exact pair (Some n) there).chosen n refl in
        let (among, all) = is_cheapest (Some c) is in
        let above : c.cost ≤ d.cost = among_each (λ (x : Choice). c.cost ≤ x.cost) d (choices enum_view table old new pair) chosen all in
        let below : n ≤ c.cost = among_each (λ (x : Choice). IsWithin (Some n) x.cost) c (choices enum_view table old new pair) among (exact pair (Some n) there).covered.bound_below in
        let same : n ≡ c.cost = omega arith in
        record { is_first = is; among = among; costs = there ∙ ap (λ x. Some (Some x)) same }

    pub never_none : cheapest (choices enum_view table old new pair) ≡ None → ⊥
    never_none is =
        let (n, there) = number_there table pair number in
        let (d, chosen, cost) = (exact pair (Some n) there).chosen n refl in
        subst (IsAmong d) (is_cheapest None is) chosen

  -- One step more at the end.
  pub path_on : (steps : List PairChoice) (last next : PairChoice) → IsPathDown enum_view old new table steps last → choice_child old new last.pair last.choice ≡ Some next.pair → IsStep enum_view old new table next → IsPathDown enum_view old new table (steps ++ last ∷ []) next
  path_on [] last next path child step = (path, child, step)
  path_on (s ∷ steps) last next (here, down, later) child step =
      (here, down ∙ ap (λ (x : PairChoice). Some x.pair) (sym (first_on steps last next)), path_on steps last next later child step)

  -- the last step of a path, and the path without it
  pub last_step : (steps : List PairChoice) (last : PairChoice) → IsPathDown enum_view old new table steps last → IsStep enum_view old new table last
  last_step [] last path = path
  last_step (s ∷ steps) last path = last_step steps last path.2

  pub path_off : (steps : List PairChoice) (s last : PairChoice) → IsPathDown enum_view old new table (steps ++ s ∷ []) last → IsPathDown enum_view old new table steps s × (choice_child old new s.pair s.choice ≡ Some last.pair)
  path_off [] s last (here, down, later) = (here, down)
  path_off (x ∷ steps) s last (here, down, later) =
      let (path, child) = path_off steps s last later in
      ((here, down ∙ ap (λ (y : PairChoice). Some y.pair) (first_on steps s last), path), child)

  -- The steps to a last one without a child, and this one, are the path from the first one's pair.
  pub whole_is_path : (steps : List PairChoice) (last : PairChoice) → IsPathDown enum_view old new table steps last → choice_child old new last.pair last.choice ≡ None
      → IsPath enum_view old new table (first_step steps last).pair (steps ++ last ∷ [])
  whole_is_path [] last step ends = (refl, step.is_first, ends)
  whole_is_path (s ∷ []) last (here, down, later) ends = (refl, here.is_first, down, whole_is_path [] last later ends)
  whole_is_path (s ∷ t ∷ steps) last (here, down, later) ends = (refl, here.is_first, down, whole_is_path (t ∷ steps) last later ends)

  -- The child of a step costs less than it.
  pub child_number : (child : Pair) (c : Choice) (o : Option Pair) → o ≡ Some child → ChildThere table o c.cost → (n : ℕ) × (table child ≡ Some (Some n)) × (n < c.cost)
  child_number child c o is there = subst (λ x. ChildThere table x c.cost) is there

  pub costs_less : (child : Pair) (c : Choice) (o : Option Pair) (next : PairChoice) → o ≡ Some child → ChildThere table o c.cost → next.pair ≡ child → IsStep enum_view old new table next → next.choice.cost < c.cost
  costs_less child c o next is there at step =
      let (n, bound, less) = child_number child c o is there in
      let same : next.choice.cost ≡ n = same_number (sym (ap table at) ∙ step.costs) bound in
      omega arith

  -- What is given to a step's message: nothing, or the message of its child.
  pub no_child : (o : Option Pair) → o ≡ None → ChildReached enum_view old new table o None
  no_child o is = subst (λ x. ChildReached enum_view old new table x None) (sym is) tt

  pub child_given : (o : Option Pair) (last : PairChoice) (m : Message) → o ≡ Some last.pair → IsStep enum_view old new table last → ReachedBy enum_view old new last.pair m last.choice.cost → ChildReached enum_view old new table o (Some m)
  child_given o last m is step reached = subst (λ x. ChildReached enum_view old new table x (Some m)) (sym is) (last.choice.cost, step.costs, reached)

-- two steps of one pair by one choice are one step
same_step : (s t : PairChoice) → s.pair ≡ t.pair → s.choice ≡ t.choice → s ≡ t
same_step s t pair choice = λ j. record { pair = pair j; choice = choice j }

same_choice : {c d : Choice} {o : Option Choice} → o ≡ Some c → o ≡ Some d → c ≡ d
same_choice h k = cc

same_child : {p q : Pair} {o : Option Pair} → o ≡ Some p → o ≡ Some q → p ≡ q
same_child h k = cc

never_both : {p : Pair} {o : Option Pair} → o ≡ None → o ≡ Some p → ⊥
never_both h k = cc

-- A table has one path from a pair.
pub one_path : (enum_view : EnumView) (old new : Shape) (table : Table) (pair : Pair) (ss ts : List PairChoice)
    → IsPath enum_view old new table pair ss → IsPath enum_view old new table pair ts → ss ≡ ts
one_path enum_view old new table pair [] ts h k = absurd h
one_path enum_view old new table pair (s ∷ []) [] h k = absurd k
one_path enum_view old new table pair (s ∷ []) (t ∷ []) h k =
    ap (λ (x : PairChoice). x ∷ []) (same_step s t (h.0 ∙ sym k.0) (same_choice h.1 k.1))
one_path enum_view old new table pair (s ∷ []) (t ∷ u ∷ ts) h k =
    absurd (never_both h.2 (ap (choice_child old new pair) (same_choice h.1 k.1) ∙ k.2))
one_path enum_view old new table pair (s ∷ r ∷ ss) [] h k = absurd k
one_path enum_view old new table pair (s ∷ r ∷ ss) (t ∷ []) h k =
    absurd (never_both k.2 (ap (choice_child old new pair) (same_choice k.1 h.1) ∙ h.2))
one_path enum_view old new table pair (s ∷ r ∷ ss) (t ∷ u ∷ ts) h k =
    let below : u.pair ≡ r.pair = same_child (ap (choice_child old new pair) (same_choice h.1 k.1) ∙ k.2) h.2 in
    let later : r ∷ ss ≡ u ∷ ts =
    one_path enum_view old new table r.pair (r ∷ ss) (u ∷ ts) h.3
    (subst (λ (p : Pair). IsPath enum_view old new table p (u ∷ ts)) below k.3) in
    ap₂ (λ (x : PairChoice) (xs : List PairChoice). x ∷ xs) (same_step s t (h.0 ∙ sym k.0) (same_choice h.1 k.1)) later

-- The message of the last of these steps, whose path begins with that first one. It is what the path carries from there on.
pub record IsInside (enum_view : EnumView) (old new : Shape) (first : PairChoice) (on steps : List PairChoice) (m : Kept) : Type 0 where
  pub table : Table
  pub last : PairChoice
  pub later : List PairChoice
  pub along : carried_along enum_view old new (last ∷ later) ≡ Some (message_of m)
  pub whole : steps ++ last ∷ later ≡ on
  pub path : IsPathDown enum_view old new table steps last
  pub first_is : first_step steps last ≡ first
  pub fits : Fits old m
  pub type_is : type_of m ≡ last.pair.old
  pub reached : ReachedBy enum_view old new last.pair (message_of m) last.choice.cost

-- The step's choice is one of its pair's under some table of bounds. Its child, where it has one, is a message of the child's old type that breaks and has the length of its bound.
pub record IsRound (enum_view : EnumView) (old new : Shape) (step : PairChoice) (child : Option Kept) : Type 0 where
  pub table : Table
  pub among : IsAmong step.choice (choices enum_view table old new step.pair)
  pub given : ChildGiven old (choice_child old new step.pair step.choice) child
  pub reached : ChildReached enum_view old new table (choice_child old new step.pair step.choice) (option_map message_of child)

module _ (enum_view : EnumView) (old new : Shape) where
  -- the last step's choice has no child
  pub last_round : (table : Table) (steps : List PairChoice) (last : PairChoice) → IsWholePath enum_view old new table steps last → IsRound enum_view old new last None
  last_round table steps last whole = record {
    table = table;
    among = (last_step enum_view old new table steps last whole.path).among;
    reached = no_child enum_view old new table (choice_child old new last.pair last.choice) whole.ends;
    given = subst (λ o. ChildGiven old o None) (sym whole.ends) tt;
  }

  pub innermost : (table : Table) (steps : List PairChoice) (last : PairChoice) (m : Kept) → IsWholePath enum_view old new table steps last → Fits old m → type_of m ≡ last.pair.old → ReachedBy enum_view old new last.pair (message_of m) last.choice.cost
      → message_of m ≡ carried enum_view old new last.pair last.choice None → IsInside enum_view old new (first_step steps last) (steps ++ last ∷ []) steps m
  innermost table steps last m whole fits type_is reached made = record {
    table = table;
    last = last;
    later = [];
    along = ap Some (sym made);
    whole = refl;
    path = whole.path;
    first_is = refl;
    fits = fits;
    type_is = type_is;
    reached = reached;
  }

  -- the message inside is that of the next step's child
  pub next_round : (first step : PairChoice) (on steps all : List PairChoice) (inner : Kept) → IsInside enum_view old new first on all inner → all ≡ steps ++ step ∷ [] → IsRound enum_view old new step (Some inner)
  next_round first step on steps all inner inside is =
      let whole : IsPathDown enum_view old new inside.table (steps ++ step ∷ []) inside.last = subst (λ ss. IsPathDown enum_view old new inside.table ss inside.last) is inside.path in
      let (path, child) = path_off enum_view old new inside.table steps step inside.last whole in
      record {
        table = inside.table;
        among = (last_step enum_view old new inside.table steps step path).among;
        reached = child_given enum_view old new inside.table (choice_child old new step.pair step.choice) inside.last (message_of inner) child (last_step enum_view old new inside.table all inside.last inside.path) inside.reached;
        given = subst (λ o. ChildGiven old o (Some inner)) (sym child) (inside.fits, inside.type_is);
      }

  -- one step out
  pub round : (first step : PairChoice) (on steps all : List PairChoice) (inner m : Kept) → IsInside enum_view old new first on all inner → all ≡ steps ++ step ∷ [] → Fits old m → type_of m ≡ step.pair.old → ReachedBy enum_view old new step.pair (message_of m) step.choice.cost
      → message_of m ≡ carried enum_view old new step.pair step.choice (Some (message_of inner)) → IsInside enum_view old new first on steps m
  round first step on steps all inner m inside is fits type_is reached made =
      let whole : IsPathDown enum_view old new inside.table (steps ++ step ∷ []) inside.last = subst (λ ss. IsPathDown enum_view old new inside.table ss inside.last) is inside.path in
      let (path, child) = path_off enum_view old new inside.table steps step inside.last whole in
      record {
        table = inside.table;
        last = step;
        later = inside.last ∷ inside.later;
        along = ap (λ (o : Option Message). Some (carried enum_view old new step.pair step.choice o)) inside.along ∙ ap Some (sym made);
        whole = sym (append_assoc steps (step ∷ []) (inside.last ∷ inside.later)) ∙ ap (λ (ss : List PairChoice). ss ++ inside.last ∷ inside.later) (sym is) ∙ inside.whole;
        path = path;
        first_is = sym (first_on steps step inside.last) ∙ ap (λ ss. first_step ss inside.last) (sym is) ∙ inside.first_is;
        fits = fits;
        type_is = type_is;
        reached = reached;
      }

  -- With no step left the message is what the whole path carries.
  pub outermost : (first : PairChoice) (on steps : List PairChoice) (m : Kept) → length steps ≡ 0 → IsInside enum_view old new first on steps m → carried_along enum_view old new on ≡ Some (message_of m)
  outermost first on [] m none inside = subst (λ (ss : List PairChoice). carried_along enum_view old new ss ≡ Some (message_of m)) inside.whole inside.along
  outermost first on (s ∷ steps) m none inside = absurd (omega arith)

  -- The message that one path from a pair carries is the one that each does.
  pub carried_from : (table : Table) (pair : Pair) (steps : List PairChoice) (last : PairChoice) (m : Message) → IsWholePath enum_view old new table steps last → (first_step steps last).pair ≡ pair
      → carried_along enum_view old new (steps ++ last ∷ []) ≡ Some m → IsCarriedFrom enum_view old new table pair m
  carried_from table pair steps last m whole first along path is =
      let own : IsPath enum_view old new table pair (steps ++ last ∷ []) =
      subst (λ (p : Pair). IsPath enum_view old new table p (steps ++ last ∷ [])) first (whole_is_path enum_view old new table steps last whole.path whole.ends) in
      ap (carried_along enum_view old new) (one_path enum_view old new table pair path (steps ++ last ∷ []) is own) ∙ along

  -- The message of the first step's choice has as many bytes as the table says of its pair.
  pub reached_there : (table : Table) (pair : Pair) (steps : List PairChoice) (last : PairChoice) (m : Message) → IsPathDown enum_view old new table steps last → (first_step steps last).pair ≡ pair
      → ReachedBy enum_view old new (first_step steps last).pair m (first_step steps last).choice.cost → (n : ℕ) → table pair ≡ Some (Some n) → ReachedBy enum_view old new pair m n
  reached_there table pair steps last m path first reached n is = of steps path first reached
    where
      of : (ss : List PairChoice) → IsPathDown enum_view old new table ss last → (first_step ss last).pair ≡ pair → ReachedBy enum_view old new (first_step ss last).pair m (first_step ss last).choice.cost → ReachedBy enum_view old new pair m n
      of [] step first reached = subst₂ (λ (p : Pair) k. ReachedBy enum_view old new p m k) first (same_number step.costs (ap table first ∙ is)) reached
      of (s ∷ ss) down first reached = subst₂ (λ (p : Pair) k. ReachedBy enum_view old new p m k) first (same_number down.0.costs (ap table first ∙ is)) reached
