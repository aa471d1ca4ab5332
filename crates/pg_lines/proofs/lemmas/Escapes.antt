-- A text with its escapes, by the run of bytes that stand for themselves.
use Rattle.std.proofs.Common.{◌≡◌, ℕ, ◌+◌, ◌-◌, ◌<◌, ◌≤◌, true, false, List, [], ◌++◌, length, get_or, take, drop, length-drop, get_or-drop, append_assoc, append-nil, take_all, arith}
use Rattle.std.proofs.lemmas.Bool.Decides.{nat_tests}
use Rattle.std.proofs.lemmas.List.{drop_more, take_more, drop_all}
use Rattle.pg_lines.specs.Json.{needs_escape, escape_of, in_string, escaped}

join : (a b : ℕ) → a ≤ b → a + (b - a) ≡ b
join a b h = omega arith

-- only ASCII bytes are escaped
pub needs_ascii : (byte : ℕ) → needs_escape byte ≡ true → byte < 128
needs_ascii byte h = grind (arith, nat_tests)

escaped-drop : (s : List ℕ) (i : ℕ) → i < length s → escaped (drop i s) ≡ in_string (get_or s i 0) ++ escaped (drop (i + 1) s)
escaped-drop s i h = rw (drop_more s i 0 h)

-- a byte that needs no escape joins the run
pub keep_byte : (s done total : List ℕ) (start i : ℕ) → start ≤ i → i < length s → needs_escape (get_or s i 0) ≡ false
    → done ++ (take (i - start) (drop start s) ++ escaped (drop i s)) ≡ total
    → done ++ (take (i + 1 - start) (drop start s) ++ escaped (drop (i + 1) s)) ≡ total
unfolding in_string
keep_byte s done total start i low within plain whole =
    let at : get_or (drop start s) (i - start) 0 ≡ get_or s i 0 = rw (get_or-drop start s (i - start) 0, join start i low) in
    let more = take_more (drop start s) (i - start) 0 (omega (arith, length-drop start s)) in
    let next : i + 1 - start ≡ i - start + 1 = omega arith in
    rw (next, more, at) (simp append_assoc (rw (escaped-drop s i within, plain) at whole))

-- a byte that needs one ends the run
pub escape_byte : (s done total : List ℕ) (start i : ℕ) → i < length s → needs_escape (get_or s i 0) ≡ true
    → done ++ (take (i - start) (drop start s) ++ escaped (drop i s)) ≡ total
    → (done ++ (take (i - start) (drop start s) ++ escape_of (get_or s i 0))) ++ (take (i + 1 - (i + 1)) (drop (i + 1) s) ++ escaped (drop (i + 1) s)) ≡ total
unfolding in_string
escape_byte s done total start i within needed whole =
    let zero : i + 1 - (i + 1) ≡ 0 = omega arith in
    let read = rw (escaped-drop s i within, needed) at whole in
    rw zero (simp append_assoc read)

-- at the end of the text, what is left is the run
pub escaped-end : (s done total : List ℕ) (start i : ℕ) → start ≤ i → i ≡ length s
    → done ++ (take (i - start) (drop start s) ++ escaped (drop i s)) ≡ total
    → done ++ drop start s ≡ total
escaped-end s done total start i low end whole =
    let all : take (i - start) (drop start s) ≡ drop start s = take_all _ _ (omega (arith, length-drop start s)) in
    let none : drop i s ≡ [] = drop_all i s (omega arith) in
    rw (all, none, append-nil) at whole
