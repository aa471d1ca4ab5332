-- A fault that isn't 'unexpected' is reported where its reason is due.
use Rattle.std.proofs.Common.{◌≡◌, ℕ, zero, suc, Bool, true, false, cond, List, [], ◌∷◌, ◌++◌, length, length-append, refl, sym, ◌∙◌, ap, arith, ◌⊎◌, inl, inr, Ok, Err, append_assoc, subst}
use Rattle.pg_lex.specs.Symbol.{Symbol, Placed}
use Rattle.pg_syntax.specs.declared.error.Reason.{Reason}
use Rattle.pg_syntax.specs.declared.error.Reason.TheVariants as reasons
use Rattle.pg_syntax.specs.declared.error.Fault.{Fault}
use Rattle.pg_syntax.specs.Tree.{Tree, Empty, Leaf, Both, At, spell, symbols}
use Rattle.pg_syntax.specs.Grammar.{Class, is_in, Look, looks, look_of, Grammar, Row, One, Seq, Pick, Optional, Many, Node, Unless, Refused, Checked, Closed, Derives}
use Rattle.pg_syntax.specs.inner.Reading.{Point, Outcome, ◌>>=◌, fault, next_in, first_of, one_of, repeated, instead, read}
use Rattle.pg_syntax.specs.Due.{Due, Behind}
use Rattle.pg_syntax.proofs.Check.{check}
use Rattle.pg_syntax.proofs.Classes.{and_parts}
use Rattle.pg_syntax.proofs.Trees.{symbols-append, stands_spell}
use Rattle.pg_syntax.proofs.Law.{Found, bind_err, refuted}
use Rattle.pg_syntax.proofs.Grammars.{law}

-- What is said of a reason, before the symbols w and after the symbols v.
abbrev pub Telling : Type 1
Telling = Reason → List Symbol → List Symbol → Type 0

-- The fault is after tokens and before others, between which that is said of its reason.
pub record Stops (P : Telling) (p : Point) (f : Fault) : Type 0 where
  pub front : List Placed
  pub back : List Placed
  pub splits : p.rest ≡ front ++ back
  pub left : f.left ≡ length back
  pub holds : P f.reason (symbols back) (symbols front)

-- The fault is 'unexpected', or it is so between tokens.
abbrev pub Told : Telling → Point → Fault → Type 0
Told P p f = (f.reason ≡ reasons.Unexpected) ⊎ Stops P p f

told_here : (P : Telling) (reason : Reason) (p : Point) → P reason (symbols p.rest) [] → Told P p (fault reason p)
told_here P reason p h = inr (record { front = []; back = p.rest; splits = refl; left = refl; holds = h })

told_as : (P Q : Telling) (p : Point) (f : Fault) → ((w v : List Symbol) → symbols p.rest ≡ v ++ w → P f.reason w v → Q f.reason w v) → Told P p f → Told Q p f
told_as P Q p f turn (inl e) = inl e
told_as P Q p f turn (inr h) = inr (record {
  front = h.front;
  back = h.back;
  splits = h.splits;
  left = h.left;
  holds = turn (symbols h.back) (symbols h.front) (ap symbols h.splits ∙ symbols-append h.front h.back) h.holds;
})

abbrev pub behind : (Tree → Type 0) → Telling → Telling
behind D P r w = Behind D (P r w)

-- what is said after a tree that was found
told_behind : (D : Tree → Type 0) (P : Telling) (p : Point) (t : Tree) (q : Point) (f : Fault) → Found D p t q → Told P q f → Told (behind D P) p f
told_behind D P p t q f found (inl e) = inl e
told_behind D P p t q f found (inr h) = inr (record {
  front = found.front ++ h.front;
  back = h.back;
  splits = found.splits ∙ ap (λ x. found.front ++ x) h.splits ∙ sym (append_assoc found.front h.front h.back);
  left = h.left;
  holds = (t, symbols h.front, found.derives, symbols-append found.front h.front ∙ ap (λ v. v ++ symbols h.front) (stands_spell t found.front found.stands), h.holds);
})

abbrev due_in : Grammar → Telling
due_in g r w v = Due r g w v

abbrev TellsDue : Grammar → Type 0
TellsDue g = (p : Point) (f : Fault) → read g p ≡ Err f → Told (due_in g) p f

ok_is_no_err : (x : Tree × Point) (f : Fault) → ◌≡◌ {A = Outcome} (Ok x) (Err f) → ⊥
ok_is_no_err x f h = cc

-- ---- one token

abbrev taken_or : Point → Placed → List Placed → Bool → Outcome
taken_or p t ts b = cond b (Ok (Leaf t.symbol, record { last = t.to; rest = ts })) (Err (fault reasons.Unexpected p))

unexpected_one : (c : Class) (p : Point) (ts : List Placed) (f : Fault) → one_of c p ts ≡ Err f → f.reason ≡ reasons.Unexpected
unexpected_one c p [] f e = refuted (λ x. x.reason ≡ reasons.Unexpected) (fault reasons.Unexpected p) f e refl
unexpected_one c p (t ∷ ts) f e = go (is_in c t.symbol) e
  where
    go : (b : Bool) → taken_or p t ts b ≡ Err f → f.reason ≡ reasons.Unexpected
    go true e = absurd (ok_is_no_err _ f e)
    go false e = refuted (λ x. x.reason ≡ reasons.Unexpected) (fault reasons.Unexpected p) f e refl

-- ---- one after the other, and rows

due_seq : (g h : Grammar) → check g ≡ true → TellsDue g → TellsDue h → TellsDue (Seq g h)
due_seq g h k one two p f e = elim (bind_err (read g p) (λ t q. read h q >>= λ u end. Ok (Both t u, end)) f e) [
  | inl a ↦ told_as (due_in g) (due_in (Seq g h)) p f (λ w v split d. inl d) (one p f a)
  | inr (t, m, b, c) ↦ elim (bind_err (read h m) (λ u end. Ok (Both t u, end)) f c) [
    | inl l ↦
        let later = told_behind (Derives g) (due_in h) p t m f ((law g k).found p t m b) (two m f l) in
        told_as (behind (Derives g) (due_in h)) (due_in (Seq g h)) p f (λ w v split d. inr d) later
    | inr (u, end, l, n) ↦ cc
  ]
]

row_joined : (D : Tree → Type 0) (P : List Symbol → Type 0) (v : List Symbol) → Behind D (Behind (Row D) P) v → Behind (Row D) P v
row_joined D P v (t, w, d, e, (u, x, f, i, p)) = (Both t u, x, (d, f), e ∙ ap (λ y. spell t ++ y) i ∙ sym (append_assoc (spell t) (spell u) x), p)

abbrev row_from : List Class → (Point → Outcome) → ℕ → Point → Bool → Outcome
row_from cs r n p b = cond b (r p >>= λ t q. repeated n cs r q >>= λ u end. Ok (Both t u, end)) (Ok (Empty, p))

row_turn : (cs : List Class) (g : Grammar) → check g ≡ true → TellsDue g → (n : ℕ) → ((m : Point) (f : Fault) → repeated n cs (read g) m ≡ Err f → Told (behind (Row (Derives g)) (due_in g)) m f)
    → (p : Point) (f : Fault) (b : Bool) → row_from cs (read g) n p b ≡ Err f → Told (behind (Row (Derives g)) (due_in g)) p f
row_turn cs g k one n more p f false e = absurd (ok_is_no_err _ f e)
row_turn cs g k one n more p f true e = elim (bind_err (read g p) (λ t q. repeated n cs (read g) q >>= λ u end. Ok (Both t u, end)) f e) [
  | inl a ↦ told_as (due_in g) (behind (Row (Derives g)) (due_in g)) p f (λ w v split d. (Empty, v, tt, refl, d)) (one p f a)
  | inr (t, m, b, c) ↦ elim (bind_err (repeated n cs (read g) m) (λ u end. Ok (Both t u, end)) f c) [
    | inl l ↦
        let later = told_behind (Derives g) (behind (Row (Derives g)) (due_in g)) p t m f ((law g k).found p t m b) (more m f l) in
        told_as (behind (Derives g) (behind (Row (Derives g)) (due_in g))) (behind (Row (Derives g)) (due_in g)) p f (λ w v split d. row_joined (Derives g) (Due f.reason g w) v d) later
    | inr (u, end, l, x) ↦ cc
  ]
]

due_row : (cs : List Class) (g : Grammar) → check g ≡ true → TellsDue g → (n : ℕ) (p : Point) (f : Fault) → repeated n cs (read g) p ≡ Err f → Told (behind (Row (Derives g)) (due_in g)) p f
due_row cs g k one zero p f e = absurd (ok_is_no_err (Empty, p) f e)
due_row cs g k one (suc n) p f e = row_turn cs g k one n (due_row cs g k one n) p f (next_in cs p) e

-- ---- choices

due_pick : (look : Look) (g h : Grammar) → TellsDue g → TellsDue h → TellsDue (Pick look g h)
due_pick look g h one two p f e = go (looks look (symbols p.rest)) refl e
  where
    go : (b : Bool) → looks look (symbols p.rest) ≡ b → cond b (read g p) (read h p) ≡ Err f → Told (due_in (Pick look g h)) p f
    go true is e = told_as (due_in g) (due_in (Pick look g h)) p f (λ w v split d. inl (ap (looks look) (sym split) ∙ is, d)) (one p f e)
    go false is e = told_as (due_in h) (due_in (Pick look g h)) p f (λ w v split d. inr (ap (looks look) (sym split) ∙ is, d)) (two p f e)

due_optional : (cs : List Class) (g : Grammar) → TellsDue g → TellsDue (Optional cs g)
due_optional cs g one p f e = go (next_in cs p) e
  where
    go : (b : Bool) → cond b (read g p) (Ok (Empty, p)) ≡ Err f → Told (due_in (Optional cs g)) p f
    go true e = one p f e
    go false e = absurd (ok_is_no_err (Empty, p) f e)

due_node : (g : Grammar) → TellsDue g → TellsDue (Node g)
due_node g one p f e = elim (bind_err (read g p) (λ t q. Ok (At (record { from = first_of p.rest; to = q.last }) t, q)) f e) [ inl a ↦ one p f a | inr (t, m, b, c) ↦ cc ]

told_instead : (P : Telling) (reason : Reason) (p : Point) (f : Fault) → ◌≡◌ {A = Outcome} (Err (fault reason p)) (Err f) → P reason (symbols p.rest) [] → Told P p f
told_instead P reason p f e h = refuted (Told P p) (fault reason p) f e (told_here P reason p h)

due_unless : (reason : Reason) (g : Grammar) → TellsDue g → TellsDue (Unless reason g)
due_unless reason g one p f e = go (looks (look_of reason) (symbols p.rest)) refl e
  where
    go : (b : Bool) → looks (look_of reason) (symbols p.rest) ≡ b → cond b (Err (fault reason p)) (read g p) ≡ Err f → Told (due_in (Unless reason g)) p f
    go true is e = told_instead (due_in (Unless reason g)) reason p f e (inl (refl, refl))
    go false is e = told_as (due_in g) (due_in (Unless reason g)) p f (λ w v split d. inr (ap (looks (look_of reason)) (sym split) ∙ is, d)) (one p f e)

due_checked : (reason : Reason) (test : List Symbol → Bool) (g : Grammar) → TellsDue (Checked reason test g)
due_checked reason test g p f e = go (read g p) e
  where
    told : ◌≡◌ {A = Outcome} (Err (fault reason p)) (Err f) → Told (due_in (Checked reason test g)) p f
    told e = told_instead (due_in (Checked reason test g)) reason p f e (refl, refl)

    passed : (x : Tree × Point) (b : Bool) → ◌≡◌ {A = Outcome} (cond b (Ok x) (Err (fault reason p))) (Err f) → Told (due_in (Checked reason test g)) p f
    passed x true e = absurd (ok_is_no_err x f e)
    passed x false e = told e

    go : (o : Outcome) → instead reason test p o ≡ Err f → Told (due_in (Checked reason test g)) p f
    go (Ok x) e = passed x (test (spell x.0)) e
    go (Err other) e = told e

-- ---- all forms

due : (g : Grammar) → check g ≡ true → TellsDue g
due (One c) k p f e = inl (unexpected_one c p p.rest f e)
due (Seq g h) k p f e =
    let a = and_parts (check g) _ k in
    let b = and_parts (check h) _ a.1 in
    due_seq g h a.0 (due g a.0) (due h b.0) p f e
due (Pick look g h) k p f e =
    let a = and_parts (check g) _ k in
    let b = and_parts (check h) _ a.1 in
    due_pick look g h (due g a.0) (due h b.0) p f e
due (Optional cs g) k p f e = let a = and_parts (check g) _ k in due_optional cs g (due g a.0) p f e
due (Many cs g) k p f e = let a = and_parts (check g) _ k in due_row cs g a.0 (due g a.0) (length p.rest) p f e
due (Node g) k p f e = let a = and_parts (check g) _ k in due_node g (due g a.0) p f e
due (Unless reason g) k p f e = let a = and_parts (check g) _ k in due_unless reason g (due g a.0) p f e
due (Refused reason) k p f e = told_instead (due_in (Refused reason)) reason p f e (refl, refl)
due (Checked reason test g) k p f e = due_checked reason test g p f e
due (Closed cs g) k p f e = let a = and_parts (check g) _ k in due g a.0 p f e

-- ---- at the fault

same_front : (xs ys us vs : List Placed) → xs ++ us ≡ ys ++ vs → length us ≡ length vs → xs ≡ ys
same_front [] [] us vs e l = refl
same_front [] (y ∷ ys) us vs e l = absurd (omega (arith, ap length e, length-append ys vs))
same_front (x ∷ xs) [] us vs e l = absurd (omega (arith, ap length e, length-append xs us))
same_front (x ∷ xs) (y ∷ ys) us vs e l =
    let head : x ≡ y = cc in
    let rest : xs ++ us ≡ ys ++ vs = cc in
    rw (head, same_front xs ys us vs rest l) refl

same_back : (xs ys us vs : List Placed) → xs ++ us ≡ ys ++ vs → length us ≡ length vs → us ≡ vs
same_back [] [] us vs e l = e
same_back [] (y ∷ ys) us vs e l = absurd (omega (arith, ap length e, length-append ys vs))
same_back (x ∷ xs) [] us vs e l = absurd (omega (arith, ap length e, length-append xs us))
same_back (x ∷ xs) (y ∷ ys) us vs e l =
    let rest : xs ++ us ≡ ys ++ vs = cc in
    same_back xs ys us vs rest l

pub due_at : (g : Grammar) → check g ≡ true → (p : Point) (f : Fault) (front back : List Placed) → read g p ≡ Err f → p.rest ≡ front ++ back → f.left ≡ length back
    → (f.reason ≡ reasons.Unexpected) ⊎ Due f.reason g (symbols back) (symbols front)
due_at g k p f front back e splits left = go (due g k p f e)
  where
    moved : (xs ys us vs : List Placed) → xs ≡ us → ys ≡ vs → Due f.reason g (symbols ys) (symbols xs) → Due f.reason g (symbols vs) (symbols us)
    moved xs ys us vs a b d = subst (λ x. Due f.reason g (symbols vs) (symbols x)) a (subst (λ y. Due f.reason g (symbols y) (symbols xs)) b d)

    go : Told (due_in g) p f → (f.reason ≡ reasons.Unexpected) ⊎ Due f.reason g (symbols back) (symbols front)
    go (inl u) = inl u
    go (inr h) =
        let same = sym h.splits ∙ splits in
        let counts = sym h.left ∙ left in
        inr (moved h.front h.back front back (same_front h.front front h.back back same counts) (same_back h.front front h.back back same counts) h.holds)
