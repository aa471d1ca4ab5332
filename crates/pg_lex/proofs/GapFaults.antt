-- Where a reader of gaps comes to an open comment, one begins.
use Rattle.std.proofs.Common.{◌≡◌, ℕ, ◌+◌, ◌<◌, ◌≤◌, Bool, true, false, cond, eqb, List, [], ◌∷◌, ◌++◌, length, refl, sym, ◌∙◌, ap, arith, Option, Some, None, ◌⊎◌, inl, inr, Err, length-append}
use Rattle.std.specs.Prelude.{◌||◌, ◌==◌}
use Rattle.pg_lex.specs.declared.error.LexError.{LexError}
use Rattle.pg_lex.specs.declared.error.LexError.TheVariants as errors
use Rattle.pg_lex.specs.Bytes.{is_blank, begins}
use Rattle.pg_lex.specs.Faults.{OpensComment, Names, place_of}
use Rattle.pg_lex.specs.Gap.{Stage, Between, Slash, Line, Block, Star, step, IsGap}
use Rattle.pg_lex.specs.Run.{if_some, run}
use Rattle.pg_lex.specs.Scan.{skip, Skipped, Rest, Open, start_of, at_end, skipped, skipped_at, place_of as place_behind}
use Rattle.pg_lex.proofs.Bits.{same}
use Rattle.pg_lex.proofs.GapLaws.{skip_gap, passes, Passes}

-- ---- comments without an end

-- no `*/` in the bytes
abbrev Unclosed : List ℕ → Type 0
Unclosed bytes = (inner rest : List ℕ) → ¬ (bytes ≡ inner ++ 42 ∷ 47 ∷ rest)

-- what is in front of an open comment's end, by the stage in it
abbrev StaysOpen : Stage → List ℕ → Type 0
StaysOpen Between bytes = ⊥
StaysOpen Slash bytes = (body : List ℕ) × (bytes ≡ 42 ∷ body) × Unclosed body
StaysOpen Line bytes = ⊥
StaysOpen Block bytes = Unclosed bytes
StaysOpen Star bytes = Unclosed (42 ∷ bytes)

unclosed_nil : Unclosed []
unclosed_nil [] rest h = cc
unclosed_nil (c ∷ inner) rest h = cc

unclosed_star : Unclosed (42 ∷ [])
unclosed_star [] rest h = cc
unclosed_star (c ∷ inner) rest h = unclosed_nil inner rest (let e : [] ≡ inner ++ 42 ∷ 47 ∷ rest = cc in e)

-- a byte in front that begins no `*/`
unclosed_cons : (b : ℕ) (bytes : List ℕ) → Unclosed bytes → ((rest : List ℕ) → ¬ (b ∷ bytes ≡ 42 ∷ 47 ∷ rest)) → Unclosed (b ∷ bytes)
unclosed_cons b bytes h first [] rest e = first rest e
unclosed_cons b bytes h first (c ∷ inner) rest e = h inner rest (let k : bytes ≡ inner ++ 42 ∷ 47 ∷ rest = cc in k)

not_star : (b : ℕ) (bytes rest : List ℕ) → eqb b 42 ≡ false → ¬ (b ∷ bytes ≡ 42 ∷ 47 ∷ rest)
not_star b bytes rest h e = let star : b ≡ 42 = cc in let no : eqb b 42 ≡ true = ap (λ x. eqb x 42) star in cc

not_slash : (b : ℕ) (bytes rest : List ℕ) → eqb b 47 ≡ false → ¬ (42 ∷ b ∷ bytes ≡ 42 ∷ 47 ∷ rest)
not_slash b bytes rest h e = let slash : b ≡ 47 = cc in let no : eqb b 47 ≡ true = ap (λ x. eqb x 47) slash in cc

-- the choices of a step
pub choice : {T : Type 0} {goal : T} (p : Bool) (x y : T) → cond p x y ≡ goal → ((p ≡ true) × (x ≡ goal)) ⊎ ((p ≡ false) × (y ≡ goal))
choice true x y h = inl (refl, h)
choice false x y h = inr (refl, h)

-- one byte more in front of what stays open
stays_cons : (s t : Stage) (b : ℕ) (bytes : List ℕ) → (s ≡ Between → ⊥) → step s b ≡ Some t → StaysOpen t bytes → StaysOpen s (b ∷ bytes)
stays_cons Between t b bytes inside e h = absurd (inside refl)
stays_cons Slash t b bytes inside e h = elim (choice (eqb b 47) _ _ e) [
  | inl (slash, k) ↦ absurd (let is : t ≡ Line = cc in rw is at h)
  | inr (other, k) ↦ elim (choice (eqb b 42) _ _ k) [
    | inl (star, k) ↦ (bytes, ap (λ x. x ∷ bytes) (same b 42 star), let is : t ≡ Block = cc in rw is at h)
    | inr (none, k) ↦ absurd (let wrong : ◌≡◌ {A = Option Stage} None (Some t) = k in cc)
  ]
]
stays_cons Line t b bytes inside e h = elim (choice (eqb b 10) _ _ e) [
  | inl (end, k) ↦ absurd (let is : t ≡ Between = cc in rw is at h)
  | inr (other, k) ↦ absurd (let is : t ≡ Line = cc in rw is at h)
]
stays_cons Block t b bytes inside e h = elim (choice (eqb b 42) _ _ e) [
  | inl (star, k) ↦ let is : t ≡ Star = cc in rw (same b 42 star) (rw is at h)
  | inr (other, k) ↦ let is : t ≡ Block = cc in unclosed_cons b bytes (rw is at h) (λ rest. not_star b bytes rest other)
]
stays_cons Star t b bytes inside e h = elim (choice (eqb b 47) _ _ e) [
  | inl (slash, k) ↦ absurd (let is : t ≡ Between = cc in rw is at h)
  | inr (other, k) ↦ elim (choice (eqb b 42) _ _ k) [
    | inl (star, k) ↦ let is : t ≡ Star = cc in unclosed_cons 42 (b ∷ bytes) (rw (same b 42 star) (rw is at h)) (λ rest. not_slash b bytes rest other)
    | inr (plain, k) ↦ let is : t ≡ Block = cc in unclosed_cons 42 (b ∷ bytes) (unclosed_cons b bytes (rw is at h) (λ rest. not_star b bytes rest plain)) (λ rest. not_slash b bytes rest other)
  ]
]

-- What a reader in a stage passed over before a comment without an end: a gap; or it is in that comment.
abbrev Reaches : Stage → List ℕ → List ℕ → List ℕ → Type 0
Reaches s start bytes left =
    ((gap : List ℕ) × (bytes ≡ gap ++ left) × (run step (Some s) gap ≡ Some Between) × OpensComment left)
    ⊎ ((left ≡ start) × StaysOpen s bytes)

at_end_reaches : (start : List ℕ) (s : Stage) (left : List ℕ) → at_end start s ≡ Open left → Reaches s start [] left
at_end_reaches start Between left h = cc
at_end_reaches start Line left h = cc
at_end_reaches start Slash left h = cc
at_end_reaches start Block left h = inr (cc, unclosed_nil)
at_end_reaches start Star left h = inr (cc, unclosed_star)

-- a comment begins between others only by a `/`
begun : (b : ℕ) (t : Stage) (bytes : List ℕ) → step Between b ≡ Some t → StaysOpen t bytes → OpensComment (b ∷ bytes)
begun b t bytes e h = elim (choice (is_blank b) _ _ e) [
  | inl (blank, k) ↦ absurd (let is : t ≡ Between = cc in rw is at h)
  | inr (other, k) ↦ elim (choice (eqb b 47) _ _ k) [
    | inl (slash, k) ↦ let is : t ≡ Slash = cc in let opened : StaysOpen Slash bytes = rw is at h in
        (opened.0, ap (λ x. x ∷ bytes) (same b 47 slash) ∙ ap (λ x. 47 ∷ x) opened.1, opened.2)
    | inr (none, k) ↦ absurd (let wrong : ◌≡◌ {A = Option Stage} None (Some t) = k in cc)
  ]
]

reaches_cons : (s t : Stage) (b : ℕ) (start bytes left : List ℕ) → step s b ≡ Some t → Reaches t (start_of start s (b ∷ bytes)) bytes left → Reaches s start (b ∷ bytes) left
reaches_cons s t b start bytes left e (inl (gap, split, gone, opens)) = inl (b ∷ gap, ap (λ x. b ∷ x) split, rw e gone, opens)
reaches_cons s t b start bytes left e (inr (is, stays)) = go s e is
  where
    go : (s : Stage) → step s b ≡ Some t → left ≡ start_of start s (b ∷ bytes) → Reaches s start (b ∷ bytes) left
    go Between k same = inl ([], sym same, refl, rw same (begun b t bytes k stays))
    go Slash k same = inr (same, stays_cons Slash t b bytes (λ p. cc) k stays)
    go Line k same = inr (same, stays_cons Line t b bytes (λ p. cc) k stays)
    go Block k same = inr (same, stays_cons Block t b bytes (λ p. cc) k stays)
    go Star k same = inr (same, stays_cons Star t b bytes (λ p. cc) k stays)

reaches : (start : List ℕ) (s : Stage) (bytes left : List ℕ) → skip start s bytes ≡ Open left → Reaches s start bytes left
reaches start s [] left h = at_end_reaches start s left h
reaches start s (b ∷ bytes) left h = go (step s b) refl h (λ t k. reaches (start_of start s (b ∷ bytes)) t bytes left k)
  where
    go : (next : Option Stage) → step s b ≡ next → if_some next (λ t. skip (start_of start s (b ∷ bytes)) t bytes) (Rest (start_of start s (b ∷ bytes))) ≡ Open left
        → ((t : Stage) → skip (start_of start s (b ∷ bytes)) t bytes ≡ Open left → Reaches t (start_of start s (b ∷ bytes)) bytes left) → Reaches s start (b ∷ bytes) left
    go (Some t) e k again = reaches_cons s t b start bytes left e (again t k)
    go None e k again = cc

-- A fault of the scanner, after bytes that begin at an offset, names what begins there.
abbrev pub Reports : LexError → ℕ → List ℕ → Type 0
Reports e at bytes = (place_of e ≡ at) × Names e bytes

-- A gap that isn't passed over ends at a comment without an end.
pub skipped_fault : (at : ℕ) (bytes : List ℕ) (e : LexError) → skipped at bytes ≡ Err e → (gap rest : List ℕ) × (bytes ≡ gap ++ rest) × IsGap gap × Reports e (at + length gap) rest
unfolding skipped
skipped_fault at bytes e h = go (skip bytes Between bytes) refl h
  where
    begins_open : (left : List ℕ) → Reaches Between bytes bytes left → e ≡ errors.OpenComment (place_behind at bytes left) → (gap rest : List ℕ) × (bytes ≡ gap ++ rest) × IsGap gap × Reports e (at + length gap) rest
    begins_open left (inl (gap, split, is, opens)) k = (gap, left, split, is, rw k (omega (arith, ap length split, length-append gap left), opens))
    begins_open left (inr (same, stays)) k = absurd stays

    go : (s : Skipped) → skip bytes Between bytes ≡ s → skipped_at at bytes s ≡ Err e → (gap rest : List ℕ) × (bytes ≡ gap ++ rest) × IsGap gap × Reports e (at + length gap) rest
    go (Rest left) is k = cc
    go (Open left) is k = begins_open left (reaches bytes Between bytes left is) (let e : e ≡ errors.OpenComment (place_behind at bytes left) = cc in e)

-- ---- where a reader of gaps stops

-- It goes no further from where it came to.
pub settled : (bytes left : List ℕ) → skip bytes Between bytes ≡ Rest left → skip left Between left ≡ Rest left
settled bytes left h = go (passes bytes Between bytes left h)
  where
    go : Passes Between bytes bytes left → skip left Between left ≡ Rest left
    go (inl (gap, split, is)) = sym (skip_gap bytes Between gap left is) ∙ ap (skip bytes Between) (sym split) ∙ h
    go (inr (inl (none, line))) = rw none refl
    go (inr (inr (slash, alike))) = cc

-- what is left is no longer
shorter : (start : List ℕ) (s : Stage) (bytes left : List ℕ) → (s ≡ Slash → ⊥) → 0 < length left → skip start s bytes ≡ Rest left → length left ≤ length bytes
shorter start s bytes left apart some h = go (passes start s bytes left h)
  where
    go : Passes s start bytes left → length left ≤ length bytes
    go (inl (gap, split, is)) = omega (arith, ap length split, length-append gap left)
    go (inr (inl (none, line))) = absurd (omega (arith, ap length none, some))
    go (inr (inr (slash, alike))) = absurd (apart slash)

-- after a `/` that begins no comment
lone_slash : (c : ℕ) (bytes : List ℕ) → skip (47 ∷ c ∷ bytes) Between (47 ∷ c ∷ bytes) ≡ Rest (47 ∷ c ∷ bytes) → (c == 47 || c == 42) ≡ false
lone_slash c bytes h = go (eqb c 47) refl (eqb c 42) refl
  where
    go : (p : Bool) → eqb c 47 ≡ p → (q : Bool) → eqb c 42 ≡ q → (p || q) ≡ false
    go true e q k = absurd (let le = shorter (47 ∷ c ∷ bytes) Line bytes (47 ∷ c ∷ bytes) (λ p. cc) (omega arith) (rw e at h) in omega (arith, le))
    go false e true k = absurd (let le = shorter (47 ∷ c ∷ bytes) Block bytes (47 ∷ c ∷ bytes) (λ p. cc) (omega arith) (rw (e, k) at h) in omega (arith, le))
    go false e false k = refl

-- No white space is there, and no `/` that begins a comment.
pub settled_byte : (b : ℕ) (bytes : List ℕ) → skip (b ∷ bytes) Between (b ∷ bytes) ≡ Rest (b ∷ bytes) → (is_blank b ≡ false) × (b ≡ 47 → begins (λ c. c == 47 || c == 42) bytes ≡ false)
settled_byte b bytes h = (blank (is_blank b) refl, λ slash. comment bytes (ap (λ x. skip (x ∷ bytes) Between (x ∷ bytes)) (sym slash) ∙ h ∙ ap (λ x. Rest (x ∷ bytes)) slash))
  where
    blank : (t : Bool) → is_blank b ≡ t → t ≡ false
    blank true e = absurd (let le = shorter (b ∷ bytes) Between bytes (b ∷ bytes) (λ p. cc) (omega arith) (rw e at h) in omega (arith, le))
    blank false e = refl

    comment : (bytes : List ℕ) → skip (47 ∷ bytes) Between (47 ∷ bytes) ≡ Rest (47 ∷ bytes) → begins (λ c. c == 47 || c == 42) bytes ≡ false
    comment [] k = refl
    comment (c ∷ bytes) k = lone_slash c bytes k
