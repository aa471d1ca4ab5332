-- A reader of all the tokens.
use Rattle.std.proofs.Common.{◌≡◌, ℕ, zero, suc, ◌+◌, ◌<◌, List, [], ◌∷◌, ◌++◌, ◌-◌, drop, map, length, length-append, take, refl, sym, ◌∙◌, ap, arith, Ok, Err, append-nil, subst, add-one, Bool, true, false, ◌⊎◌, inl, inr}
use Rattle.std.specs.Prelude.{◌==◌}
use Rattle.std.proofs.lemmas.Bool.Decides.{Decides-eqb}
use Rattle.pg_lex.specs.Symbol.{Symbol, Placed}
use Rattle.pg_syntax.specs.declared.error.Reason.{Reason}
use Rattle.pg_syntax.specs.declared.error.Reason.TheVariants as reasons
use Rattle.pg_syntax.specs.declared.error.Fault.{Fault}
use Rattle.pg_syntax.specs.Tree.{Tree, spell, symbols, Stands}
use Rattle.pg_syntax.specs.Grammar.{Grammar, Derives}
use Rattle.pg_syntax.specs.inner.Reading.{Point, Fails, fault, read}
use Rattle.pg_syntax.specs.declared.error.Refusal.{Refusal}
use Rattle.pg_syntax.specs.declared.error.Refusal.TheVariants as refusals
use Rattle.std.proofs.lemmas.List.{length-map}
use Rattle.pg_syntax.specs.declared.error.SyntaxError.{SyntaxError}
use Rattle.pg_syntax.specs.Refusals.{Alike, Refused, Reports, place_of, error_of}
use Rattle.pg_syntax.specs.inner.Refusals.{Fits}
use Rattle.pg_syntax.proofs.Check.{check}
use Rattle.pg_syntax.proofs.Law.{Wrong, Agree, Meets, rests, wrong_here, wrong_later}
use Rattle.pg_syntax.proofs.Grammars.{law}
use Rattle.pg_syntax.proofs.Dues.{due_at}
use Rattle.pg_syntax.specs.Due.{Due}

pub agree_all : (ts : List Placed) (v : List Symbol) → v ≡ symbols ts → Agree 0 ts v
agree_all [] [] e = tt
agree_all [] (s ∷ v) e = cc
agree_all (t ∷ ts) [] e = cc
agree_all (t ∷ ts) (s ∷ v) e = let head : t.symbol ≡ s = cc in let rest : v ≡ symbols ts = cc in (head, λ le. agree_all ts v rest)

agree_front : (k n : ℕ) (ts : List Placed) (v : List Symbol) → k + n ≡ length ts → take (suc k) v ≡ take (suc k) (symbols ts) → Agree n ts v
agree_front k n [] [] e h = tt
agree_front k n [] (s ∷ v) e h = cc
agree_front k n (t ∷ ts) [] e h = cc
agree_front zero n (t ∷ ts) (s ∷ v) e h = let head : t.symbol ≡ s = cc in (head, λ le. absurd (omega arith))
agree_front (suc k) n (t ∷ ts) (s ∷ v) e h =
    let head : t.symbol ≡ s = cc in
    let rest : take (suc k) v ≡ take (suc k) (symbols ts) = cc in (head, λ le. agree_front k n ts v (omega arith) rest)

alike_agree : (reason : Reason) (k left : ℕ) (ts : List Placed) (v : List Symbol) → k + left ≡ length ts → Alike reason k v (symbols ts) → Agree (rests reason left) ts v
alike_agree reasons.Unexpected k left ts v e h = agree_front k left ts v e (rw add-one at h)
alike_agree reasons.NotProto3 k left ts v e h = agree_all ts v h
alike_agree reasons.Group k left ts v e h = agree_all ts v h
alike_agree reasons.Extension k left ts v e h = agree_all ts v h
alike_agree reasons.CustomOption k left ts v e h = agree_all ts v h
alike_agree reasons.WeakImport k left ts v e h = agree_all ts v h
alike_agree reasons.NestedTooDeep k left ts v e h = agree_all ts v h

module _ (g : Grammar) (checks : check g ≡ true) (p : Point) where
  meets : (n : ℕ) (t : Tree) → Derives g t → Agree n p.rest (spell t) → Meets n t [] (read g p)
  meets n t d agree = (law g checks).only n p t [] d refl (rw append-nil agree)

  pub whole_found : (t : Tree) (q : Point) → read g p ≡ Ok (t, q) → q.rest ≡ [] → Derives g t × Stands t p.rest
  whole_found t q e none =
      let read_it = (law g checks).found p t q e in
      let all : p.rest ≡ read_it.front = read_it.splits ∙ ap (λ x. read_it.front ++ x) none ∙ append-nil read_it.front in
      (read_it.derives, subst (Stands t) (sym all) read_it.stands)

  refused : (f : Fault) → (w : Wrong p f) → ((f.reason ≡ reasons.Unexpected) ⊎ Due f.reason g (symbols w.back) (symbols w.front)) → ((t : Tree) → Derives g t → Agree (rests f.reason f.left) p.rest (spell t) → ⊥) → Refused g f.reason f.left p.rest
  refused f w due wrong = record {
    front = w.front;
    back = w.back;
    splits = w.splits;
    left_is = w.left;
    names = w.names;
    due = due;
    none = λ t d alike. wrong t d (alike_agree f.reason (length w.front) f.left p.rest (spell t) (omega (arith, w.left, ap length w.splits, length-append w.front w.back)) alike);
  }

  pub whole_wrong : (f : Fault) → read g p ≡ Err f → Refused g f.reason f.left p.rest
  whole_wrong f e = let w = (law g checks).wrong p f e in refused f w (due_at g checks p f w.front w.back e w.splits w.left) (λ t d agree. let less : Meets (rests f.reason f.left) t [] (Err f) = rw e at (meets (rests f.reason f.left) t d agree) in omega arith)

  -- more tokens after a whole tree
  pub whole_more : (t : Tree) (q : Point) → read g p ≡ Ok (t, q) → 0 < length q.rest → Refused g reasons.Unexpected (length q.rest) p.rest
  whole_more t q e more =
      refused (fault reasons.Unexpected q) (wrong_later p t q (fault reasons.Unexpected q) ((law g checks).found p t q e) (wrong_here reasons.Unexpected q tt)) (inl refl)
      (λ u d agree.
      let met : Meets (length q.rest) u [] (Ok (t, q)) = rw e at (meets (length q.rest) u d agree) in
      stops q.rest more (met (omega arith)).1)
    where
      stops : (ts : List Placed) → 0 < length ts → Agree (length q.rest) ts [] → ⊥
      stops [] lt agree = omega arith
      stops (a ∷ ts) lt agree = agree

  pub fits : (e : Refusal) → Fails e (read g p) → Fits g e p.rest
  fits refusals.Memory e = tt
  fits (refusals.Fault f) e = whole_wrong f e

-- a row that has no element
pub none_of : {X : Type 0} (xs : List X) (view : X → Placed) → length xs ≡ 0 → map view xs ≡ []
none_of [] view e = refl
none_of (x ∷ xs) view e = absurd (omega arith)

pub drop_front : (front back : List Placed) (n left : ℕ) → n ≡ length (front ++ back) → left ≡ length back → drop (n - left) (front ++ back) ≡ back
drop_front front back n left e d = rw (same_length front back n left e d) (go front)
  where
    same_length : (front back : List Placed) (n left : ℕ) → n ≡ length (front ++ back) → left ≡ length back → n - left ≡ length front
    same_length front back n left e d = omega (arith, length-append front back)

    go : (xs : List Placed) → drop (length xs) (xs ++ back) ≡ back
    go [] = refl
    go (x ∷ xs) = go xs

pub is_zero : (n : ℕ) (test : Bool) → test ≡ (n == 0) → test ≡ true → n ≡ 0
is_zero n test e on = (Decides-eqb n 0).0 (sym e ∙ on)

pub some_of : {X : Type 0} (xs : List X) (view : X → Placed) (test : Bool) → test ≡ (length xs == 0) → test ≡ false → 0 < length (map view xs)
some_of [] view test e off = let wrong : true ≡ false = sym e ∙ off in cc
some_of (x ∷ xs) view test e off = omega arith

-- a fault, reported with its offset
pub told : {X : Type 0} (g : Grammar) (xs : List X) (view : X → Placed) (end at : ℕ) (f : Fault) (error : SyntaxError) → Refused g f.reason f.left (map view xs)
    → at ≡ place_of end (drop (length xs - f.left) (map view xs)) → error ≡ error_of f.reason at → Reports g end (map view xs) error
told g xs view end at f error h is said =
    let counted : length xs ≡ length (h.front ++ h.back) = sym (length-map xs view) ∙ ap length h.splits in
    let back : drop (length xs - f.left) (map view xs) ≡ h.back = ap (drop (length xs - f.left)) h.splits ∙ drop_front h.front h.back (length xs) f.left counted h.left_is in
    inr (f.reason, f.left, h, said ∙ ap (error_of f.reason) (is ∙ ap (place_of end) back))
