-- The least word of some numbers is that of the shortest and least one, and there is only one such number.
use Rattle.std.proofs.Common.{◌≡◌, ◌≤◌, ◌^◌, ◌-◌, ℤ, pos, negsuc, List, [], ◌∷◌, ◌++◌, length, Bool, Option, Some, None, refl, arith, rules}
use Rattle.std.proofs.lemmas.Bool.{leb-true, leb-false, le-leb, lt-leb}
use Rattle.std.proofs.lemmas.Int.{ints}
use Rattle.std.specs.Int.Signed.{◌≤ℤ◌}
use Rattle.pg_wire.specs.Varint.{varint}
use Rattle.pg_wire.specs.Words.{IsBetween}
use Rattle.pg_wire.proofs.PublicLaws.{lengths_grow}
use Rattle.pg_pairs.specs.bounds.Covering.{IsAmong}
use Rattle.pg_pairs.specs.views.ViewLaws.{Differs, IsLeastOf, word_length}
use Rattle.pg_pairs.specs.views.LeastNumbers.{number_word, lesser, least_number, lesser_of}

-- Words rise with the lengths of their varints, and of one length with the numbers.

short : length (varint 2147483647) ≡ 5
unfolding varint
short = refl

long : length (varint 18446744071562067968) ≡ 10
unfolding varint
long = refl

lower : (n m : ℤ) → IsBetween (2 ^ 31) (2 ^ 31) n → IsBetween (2 ^ 31) (2 ^ 31) m → number_word n ≤ number_word m →
    word_length m ≡ word_length n → n ≤ℤ m
lower (pos a) (pos b) i j h e = omega (arith, ints)
lower (pos a) (negsuc b) i j h e = search (rules, lengths_grow, short, long)
lower (negsuc a) (pos b) i j h e = omega (arith, ints)
lower (negsuc a) (negsuc b) i j h e = omega (arith, ints)

-- The least of a list.

abbrev IsLeastIn : List ℤ → Option ℤ → Type 0
IsLeastIn ns (Some n) = IsAmong n ns × ((m : ℤ) → IsAmong m ns → number_word n ≤ number_word m)
IsLeastIn ns None = (m : ℤ) → IsAmong m ns → ⊥

of_more : (n : ℤ) (ns : List ℤ) (o : Option ℤ) → IsLeastIn ns o → IsLeastIn (n ∷ ns) (Some (lesser n o))
of_more n ns None none = search rules
of_more n ns (Some k) (among, least) = search (rules, leb-true, leb-false)

is_least : (ns : List ℤ) → IsLeastIn ns (least_number ns)
is_least [] = λ m h. h
is_least (n ∷ ns) = of_more n ns (least_number ns) (is_least ns)

-- Where a list has just the numbers that differ, its least is the shortest and least of them.

module _ (alike : ℤ → Bool) (zero : Bool) where
  of_list : (ns : List ℤ) (o : Option ℤ) → IsLeastIn ns o → ((n : ℤ) → IsAmong n ns → Differs alike zero n) →
      ((n : ℤ) → Differs alike zero n → IsAmong n ns) → IsLeastOf alike zero o
  of_list ns None none sound complete = λ n d. none n (complete n d)
  of_list ns (Some n) (among, least) sound complete = search (rules, lengths_grow, lower)

  pub least_of_those : (ns : List ℤ) → ((n : ℤ) → IsAmong n ns → Differs alike zero n) →
      ((n : ℤ) → Differs alike zero n → IsAmong n ns) → IsLeastOf alike zero (least_number ns)
  least_of_those ns sound complete = of_list ns (least_number ns) (is_least ns) sound complete

  -- There is only one.
  pub one_least : (a b : Option ℤ) → IsLeastOf alike zero a → IsLeastOf alike zero b → a ≡ b
  one_least None None h k = refl
  one_least None (Some m) h k = absurd (h m k.differs)
  one_least (Some n) None h k = absurd (k n h.differs)
  one_least (Some n) (Some m) h k = search (rules, word_length)

-- The least of two lists is the lesser of their least.

pub lesser_of-some : (n : ℤ) (o later : Option ℤ) →
    lesser_of (Some (lesser n o)) later ≡ Some (lesser n (lesser_of o later))
lesser_of-some n None later = refl
lesser_of-some n (Some k) None = refl
lesser_of-some n (Some k) (Some m) = search (rules, leb-true, le-leb, leb-false, lt-leb)

pub least_of_both : (ns ms : List ℤ) → lesser_of (least_number ns) (least_number ms) ≡ least_number (ns ++ ms)
least_of_both [] ms = refl
least_of_both (n ∷ ns) ms = search (rules, least_of_both ns ms, lesser_of-some)
