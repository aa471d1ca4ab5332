-- Tables of names, one list of declarations after the other.
use Rattle.std.proofs.Common.{◌≡◌, ℕ, zero, suc, ◌+◌, ◌<◌, ◌≤◌, Bool, true, false, cond, ◌&&◌, ◌⊎◌, List, [], ◌∷◌, ◌++◌, length, drop, get_or, Some, None, refl, ap, sym, subst, ◌∙◌, arith, add-one, rules}
use Rattle.std.proofs.Math.Path.{fun_ext}
use Rattle.std.proofs.lemmas.Bool.{false≢true}
use Rattle.std.proofs.lemmas.Slice.Eq.{bytes_eq-Decides}
use Rattle.std.specs.HashMap.{get_by_text}
use Rattle.std.specs.Map.{update}
use Rattle.std.specs.Str.{bytes_eq}
use Rattle.pg_schema.proofs.lemmas.rules.PairLemmas.{and_both, and_left, and_right}
use Rattle.pg_dyn.specs.message.Kept.{Kept, message_of}
use Rattle.pg_set.specs.declared.error.Unstated.{Unstated}
use Rattle.pg_set.specs.declared.reading.outline.Named.{Named}
use Rattle.pg_set.specs.declared.reading.outline.Named.TheVariants as nameds
use Rattle.pg_set.specs.inner.Declarations.{Adds, CannotAdd, Declaration, NameTable, all_declared, are_new, declared, is_package, may_be, no_names}
use Rattle.pg_set.specs.stated.StatedNames.{NameLookup}
use Rattle.pg_set.proofs.lemmas.outline.NameLoops.{seen}

-- ---- meanings

all_append : (means : NameLookup) (a b : List Declaration) → all_declared means (a ++ b) ≡ all_declared (all_declared means a) b
all_append means [] b = refl
all_append means (d ∷ a) b = all_append (declared means d) a b

pub and_assoc : (a b c : Bool) → (a && (b && c)) ≡ ((a && b) && c)
and_assoc true b c = refl
and_assoc false b c = refl

new_append : (means : NameLookup) (a b : List Declaration) → are_new means (a ++ b) ≡ (are_new means a && are_new (all_declared means a) b)
new_append means [] b = refl
new_append means (d ∷ a) b =
    ap (λ t. may_be (means d.0) d.1 && t) (new_append (declared means d) a b) ∙ and_assoc (may_be (means d.0) d.1) (are_new (declared means d) a) (are_new (all_declared (declared means d) a) b)

pub same_or_apart : (a b : List ℕ) → ((a ≡ b) × (bytes_eq a b ≡ true)) ⊎ (bytes_eq a b ≡ false)
same_or_apart a b = search (rules, bytes_eq-Decides)

-- what has a name once it is declared
pub declared_here : (means : NameLookup) (d : Declaration) (name : List ℕ) → bytes_eq d.0 name ≡ true → declared means d name ≡ Some d.1
declared_here means d name same = ap (λ b. cond b (Some d.1) (means name)) same

pub declared_elsewhere : (means : NameLookup) (d : Declaration) (name : List ℕ) → bytes_eq d.0 name ≡ false → declared means d name ≡ means name
declared_elsewhere means d name apart = ap (λ b. cond b (Some d.1) (means name)) apart

package_is : (thing : Named) → is_package thing ≡ true → thing ≡ nameds.Package
package_is nameds.Package is = refl
package_is (nameds.Type id) is = absurd (false≢true is)
package_is (nameds.Enum id) is = absurd (false≢true is)
package_is nameds.Entry is = absurd (false≢true is)
package_is nameds.Other is = absurd (false≢true is)

-- one that may be declared where another is, is that: both are packages
pub both_packages : (other thing : Named) → may_be (Some other) thing ≡ true → (other ≡ nameds.Package) × (thing ≡ nameds.Package)
both_packages other thing may = (package_is other (and_left (is_package other) (is_package thing) may), package_is thing (and_right (is_package other) (is_package thing) may))

-- ---- tables

pub adds_none : {Y : Type 0} (table : NameTable Y) → Adds [] table table
adds_none table = record { table = refl; fresh = refl }

pub adds_both : {Y : Type 0} (a b : List Declaration) (old mid new : NameTable Y) → Adds a old mid → Adds b mid new → Adds (a ++ b) old new
adds_both a b old mid new first second = record {
  table = second.table ∙ (ap (λ means. all_declared means b) first.table ∙ sym (all_append (get_by_text old) a b));
  fresh = new_append (get_by_text old) a b
      ∙ and_both (are_new (get_by_text old) a) (are_new (all_declared (get_by_text old) a) b) first.fresh (subst (λ means. are_new means b ≡ true) first.table second.fresh);
}

pub first_fails : {Y : Type 0} (a b : List Declaration) (table : NameTable Y) (e : Unstated) → CannotAdd a table e → CannotAdd (a ++ b) table e
first_fails a b table e fails fresh = fails (and_left (are_new (get_by_text table) a) (are_new (all_declared (get_by_text table) a) b) (sym (new_append (get_by_text table) a b) ∙ fresh))

pub later_fails : {Y : Type 0} (a b : List Declaration) (old mid : NameTable Y) (e : Unstated) → Adds a old mid → CannotAdd b mid e → CannotAdd (a ++ b) old e
later_fails a b old mid e first fails fresh =
    fails (subst (λ means. are_new means b ≡ true) (sym first.table) (and_right (are_new (get_by_text old) a) (are_new (all_declared (get_by_text old) a) b) (sym (new_append (get_by_text old) a b) ∙ fresh)))

pub adds_one : {Y : Type 0} (name : List ℕ) (thing : Named) (old new : NameTable Y) → ((other : List ℕ) → get_by_text new other ≡ update bytes_eq (get_by_text old) name (Some thing) other)
    → may_be (get_by_text old name) thing ≡ true → Adds ((name, thing) ∷ []) old new
adds_one name thing old new step may = record { table = fun_ext step; fresh = and_both (may_be (get_by_text old name) thing) true may refl }

pub one_fails : {Y : Type 0} (name : List ℕ) (there thing : Named) (table : NameTable Y) (e : Unstated) → get_by_text table name ≡ Some there → (is_package there && is_package thing) ≡ false → CannotAdd ((name, thing) ∷ []) table e
one_fails name there thing table e has apart fresh = search (rules, false≢true, and_left)

pub no_package_behind : (a b : Bool) → b ≡ false → (a && b) ≡ false
no_package_behind true b is = is
no_package_behind false b is = refl

-- ---- loops

-- what is left to declare comes to what all was to come to
pub record Left {Y : Type 0} (rest all : List Declaration) (now start : NameTable Y) : Type 0 where
  pub table : all_declared (get_by_text now) rest ≡ all_declared (get_by_text start) all
  pub fresh : are_new (get_by_text now) rest ≡ are_new (get_by_text start) all

pub left_all : {Y : Type 0} (all : List Declaration) (start : NameTable Y) → Left all all start start
left_all all start = record { table = refl; fresh = refl }

-- the first of what is left was declared
pub left_on : {Y : Type 0} (left own rest all : List Declaration) (now new start : NameTable Y) → left ≡ own ++ rest → Left left all now start → Adds own now new → Left rest all new start
left_on left own rest all now new start is before adds = record {
  table = ap (λ means. all_declared means rest) adds.table ∙ (sym (all_append (get_by_text now) own rest) ∙ (ap (all_declared (get_by_text now)) (sym is) ∙ before.table));
  fresh = ap (λ means. are_new means rest) adds.table
      ∙ (sym (new_append (get_by_text now) own rest ∙ ap (λ b. b && are_new (all_declared (get_by_text now) own) rest) adds.fresh) ∙ (ap (are_new (get_by_text now)) (sym is) ∙ before.fresh));
}

pub left_none : {Y : Type 0} (left all : List Declaration) (now start : NameTable Y) → left ≡ [] → Left left all now start → Adds all start now
left_none left all now start none before = record {
  table = ap (all_declared (get_by_text now)) (sym none) ∙ before.table;
  fresh = sym before.fresh ∙ ap (are_new (get_by_text now)) none;
}

pub left_fails : {Y : Type 0} (left own rest all : List Declaration) (now start : NameTable Y) (e : Unstated) → left ≡ own ++ rest → Left left all now start → CannotAdd own now e → CannotAdd all start e
left_fails left own rest all now start e is before fails fresh =
    first_fails own rest now e fails (ap (are_new (get_by_text now)) (sym is) ∙ (before.fresh ∙ fresh))

-- what a table has that had nothing
pub from_nothing : {Y : Type 0} (ds : List Declaration) (empty new : NameTable Y) → ((name : List ℕ) → get_by_text empty name ≡ None) → Adds ds empty new → (get_by_text new ≡ all_declared no_names ds) × (are_new no_names ds ≡ true)
from_nothing ds empty new none adds =
    let nothing : get_by_text empty ≡ no_names = fun_ext none in
    (adds.table ∙ ap (λ means. all_declared means ds) nothing, ap (λ means. are_new means ds) (sym nothing) ∙ adds.fresh)

pub fresh_there : {Y : Type 0} (empty : NameTable Y) (ds : List Declaration) → ((name : List ℕ) → get_by_text empty name ≡ None) → are_new no_names ds ≡ true → are_new (get_by_text empty) ds ≡ true
fresh_there empty ds none fresh = search (rules, fun_ext)

-- ---- messages that are left

suc_drop : (ms : List Kept) (i : ℕ) (m : Kept) → i < length ms → m ≡ get_or ms i m → seen (drop i ms) ≡ message_of m ∷ seen (drop (suc i) ms)
suc_drop [] i m h is = absurd (omega (arith, h))
suc_drop (x ∷ ms) zero m h is = ap (λ (b : Kept). message_of b ∷ seen ms) (sym is)
suc_drop (x ∷ ms) (suc i) m h is = suc_drop ms i m (omega (arith, h)) is

-- the first of those from an index on
pub seen_drop : (ms : List Kept) (i : ℕ) (m : Kept) → i < length ms → m ≡ get_or ms i m → seen (drop i ms) ≡ message_of m ∷ seen (drop (i + 1) ms)
seen_drop ms i m h is = rw add-one (suc_drop ms i m h is)

pub seen_past : (ms : List Kept) (i : ℕ) → length ms ≤ i → seen (drop i ms) ≡ []
seen_past [] zero h = refl
seen_past [] (suc i) h = refl
seen_past (x ∷ ms) zero h = absurd (omega (arith, h))
seen_past (x ∷ ms) (suc i) h = seen_past ms i (omega (arith, h))
