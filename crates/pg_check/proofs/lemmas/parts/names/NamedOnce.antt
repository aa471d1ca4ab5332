-- Of names that are there once: what is no package's part has its name alone.
use Rattle.std.proofs.Common.{◌≡◌, ◌∙◌, ◌⊎◌, inl, inr, ℕ, ◌+◌, ◌≤◌, Bool, true, false, cond, List, [], ◌∷◌, ◌++◌, reverse, Some, None, sym, ap, refl, arith, rules}
use Rattle.std.specs.Str.{bytes_eq}
use Rattle.std.proofs.lemmas.List.{reverse-append}
use Rattle.std.proofs.lemmas.Option.{same_Some}
use Rattle.std.proofs.lemmas.Slice.Eq.{bytes_eq-Decides}
use Rattle.pg_link.specs.names.Files.{Declared}
use Rattle.pg_link.specs.names.Names.{Text, is_package}
use Rattle.pg_link.specs.names.Outline.{file_names}
use Rattle.pg_link.specs.names.Standing.{AllMayStand, Bearer, MayStand, NoneTwice, Standing, all_standings, bearer, bearers, first_of, standing, standings, standings_from}
use Rattle.pg_link.specs.uses.Targets.{all_declared}
use Rattle.pg_link.specs.walk.Walk.{Entry}
use Rattle.pg_schema.proofs.lemmas.rules.PairLemmas.{and_left, and_right}
use Rattle.pg_check.proofs.lemmas.parts.Totals.{as_one, one, total, total_joined, total_map}

-- what a name counts that is no part of a package
abbrev pub weight : (Text → ℕ) → Declared → ℕ
weight f d = cond (is_package d.kind) 0 (f d.name)

-- what a part of a package counts
abbrev pub part : (Text → ℕ) → Declared → ℕ
part f d = cond (is_package d.kind) (f d.name) 0

abbrev any : Text → Standing → ℕ
any x s = one x s.declared.name

abbrev weight_of : Text → Standing → ℕ
weight_of x s = weight (one x) s.declared

abbrev part_of : Text → Standing → ℕ
part_of x s = part (one x) s.declared

total_reverse : {X : Type 0} (f : X → ℕ) (xs : List X) → total f (reverse xs) ≡ total f xs
total_reverse f [] = refl
total_reverse f (x ∷ xs) =
    let rest : total f (reverse xs) ≡ total f xs = total_reverse f xs in
    let joined : total f (reverse xs ++ x ∷ []) ≡ total f (reverse xs) + total f (x ∷ []) = total_joined f (reverse xs) (x ∷ []) in
    let turned : total f (reverse (x ∷ xs)) ≡ total f (reverse xs ++ x ∷ []) = ap (total f) (reverse-append (x ∷ []) xs) in
    omega (arith, rest, joined, turned)

-- ---- who bears a name

none_first : (bs : List Standing) → first_of bs ≡ None → bs ≡ []
none_first bs h = grind arith

none_bear : (x : Text) (ss : List Standing) → bearers ss x ≡ [] → total (any x) ss ≡ 0
none_bear x [] h = refl
none_bear x (s ∷ ss) h = by (bytes_eq x s.declared.name) refl (λ none. none_bear x ss none) h
  where
    by : (b : Bool) → bytes_eq x s.declared.name ≡ b → (bearers ss x ≡ [] → total (any x) ss ≡ 0) → cond b (s ∷ bearers ss x) (bearers ss x) ≡ [] → total (any x) (s ∷ ss) ≡ 0
    by true is next k = absurd (cc (k))
    by false is next k = let first : any x s ≡ 0 = ap as_one is in let rest : total (any x) ss ≡ 0 = next k in omega (arith, first, rest)

none_borne : (x : Text) (before : List Standing) → bearer (reverse before) x ≡ None → total (any x) before ≡ 0
none_borne x before h = sym (total_reverse (any x) before) ∙ none_bear x (reverse before) (none_first (bearers (reverse before) x) h)

kind_of_first : (s : Standing) (bs : List Standing) (b : Bearer) → first_of (s ∷ bs) ≡ Some b → s.declared.kind ≡ b.kind
kind_of_first s bs b is = ap (λ (c : Bearer). c.kind) (same_Some _ b is)

some_part : (x : Text) (ss : List Standing) (b : Bearer) → bearer ss x ≡ Some b → is_package b.kind ≡ true → 1 ≤ total (part_of x) ss
some_part x [] b is ours = absurd (cc (is))
some_part x (s ∷ ss) b is ours = by (bytes_eq x s.declared.name) refl (λ later. some_part x ss b later ours) is
  where
    by : (c : Bool) → bytes_eq x s.declared.name ≡ c → (bearer ss x ≡ Some b → 1 ≤ total (part_of x) ss) → first_of (cond c (s ∷ bearers ss x) (bearers ss x)) ≡ Some b → 1 ≤ total (part_of x) (s ∷ ss)
    by true same next k = search (rules, kind_of_first, as_one)
    by false same next k = let rest : 1 ≤ total (part_of x) ss = next k in omega (arith, rest)

some_part_borne : (x : Text) (before : List Standing) (b : Bearer) → bearer (reverse before) x ≡ Some b → is_package b.kind ≡ true → 1 ≤ total (part_of x) before
some_part_borne x before b is ours = search (rules, some_part, total_reverse)

-- ---- each name

either : (x : Text) (d : Declared) → weight (one x) d + part (one x) d ≡ one x d.name
either x d = search (rules, one)

both : (x : Text) (ss : List Standing) → total (weight_of x) ss + total (part_of x) ss ≡ total (any x) ss
both x [] = refl
both x (s ∷ ss) = search (rules, either, both x ss)

pub record IsOnce {X : Type 0} (w p : X → ℕ) (xs : List X) : Type 0 where
  pub few : total w xs ≤ 1
  pub alone : (total w xs ≡ 0) ⊎ (total p xs ≡ 0)

pub none_of : {X : Type 0} (w p : X → ℕ) (xs : List X) → 1 ≤ total p xs → (total w xs ≡ 0) ⊎ (total p xs ≡ 0) → total w xs ≡ 0
none_of w p xs some h5 = grind arith

no_more : {X : Type 0} (w p : X → ℕ) (x : X) (xs : List X) → w x ≡ 0 → p x ≡ 0 → IsOnce w p xs → IsOnce w p (x ∷ xs)
no_more w p x xs first second once = search (rules, total)

-- the name comes first here, and none before it is alike
first_alone : (x : Text) (s : Standing) (before : List Standing) → any x s ≡ 1 → total (any x) before ≡ 0 → IsOnce (weight_of x) (part_of x) (s ∷ before)
first_alone x s before here none = search (rules, both, one)

one_more : (x : Text) (s : Standing) (before : List Standing) → MayStand (reverse before) s → any x s ≡ 1 → x ≡ s.declared.name → IsOnce (weight_of x) (part_of x) before → IsOnce (weight_of x) (part_of x) (s ∷ before)
one_more x s before h4 here is once = grind (arith, first_alone, none_borne, reverse, some_part_borne, and_left, none_of, one, and_right)

each_once : (x : Text) (ss : List Standing) → AllMayStand ss → IsOnce (weight_of x) (part_of x) ss
each_once x [] h = record { few = omega arith; alone = inl refl }
each_once x (s ∷ before) h = search (rules, one_more, as_one, bytes_eq-Decides, either, no_more, each_once x before h.1)

-- ---- the names of all files

declared_total : (f : Declared → ℕ) (n : ℕ) (es : List Entry) → total (λ (s : Standing). f s.declared) (standings_from n es) ≡ total f (all_declared es)
declared_total f n [] = refl
declared_total f n (e ∷ es) =
    let first : total (λ (s : Standing). f s.declared) (standings n e.1.tree) ≡ total f (file_names e.1.tree) = total_map (λ (s : Standing). f s.declared) (standing n) (file_names e.1.tree) in
    let rest : total (λ (s : Standing). f s.declared) (standings_from (n + 1) es) ≡ total f (all_declared es) = declared_total f (n + 1) es in
    let left : total (λ (s : Standing). f s.declared) (standings n e.1.tree ++ standings_from (n + 1) es) ≡ total (λ (s : Standing). f s.declared) (standings n e.1.tree) + total (λ (s : Standing). f s.declared) (standings_from (n + 1) es) = total_joined (λ (s : Standing). f s.declared) (standings n e.1.tree) (standings_from (n + 1) es) in
    let right : total f (file_names e.1.tree ++ all_declared es) ≡ total f (file_names e.1.tree) + total f (all_declared es) = total_joined f (file_names e.1.tree) (all_declared es) in
    omega (arith, first, rest, left, right)

pub once_named : (es : List Entry) → NoneTwice (all_standings es) → (x : Text) → IsOnce (weight (one x)) (part (one x)) (all_declared es)
once_named es none x =
    let once = each_once x (reverse (all_standings es)) none in
    let few = once.few in
    let ws : total (weight_of x) (reverse (all_standings es)) ≡ total (weight (one x)) (all_declared es) = total_reverse (weight_of x) (all_standings es) ∙ declared_total (weight (one x)) 0 es in
    let ps : total (part_of x) (reverse (all_standings es)) ≡ total (part (one x)) (all_declared es) = total_reverse (part_of x) (all_standings es) ∙ declared_total (part (one x)) 0 es in
    record { few = omega (arith, few, ws); alone = by once.alone ws ps }
  where
    by : {a b c d : ℕ} → (a ≡ 0) ⊎ (b ≡ 0) → a ≡ c → b ≡ d → (c ≡ 0) ⊎ (d ≡ 0)
    by (inl h) ac bd = inl (sym ac ∙ h)
    by (inr h) ac bd = inr (sym bd ∙ h)
