-- The numbers of message types and enums, with one more after the others.
use Rattle.std.proofs.Common.{◌≡◌, ◌∙◌, ◌⊎◌, ℕ, suc, ◌<◌, ◌≤◌, ◌+◌, Bool, true, false, cond, List, [], ◌∷◌, ◌++◌, map, filter, length, refl, sym, ap, true≢false, nat_lt, arith, Option, Some, None, position, string_bytes, rules}
use Rattle.std.proofs.lemmas.Bool.{lt-ltb, le-ltb, cases_lt, or_parts}
use Rattle.std.proofs.lemmas.List.{length-append, length-map, map-append}
use Rattle.std.proofs.lemmas.List.Elements.{filter-append}
use Rattle.std.proofs.lemmas.Option.{same_Some}
use Rattle.std.specs.HashMap.{get_by_text}
use Rattle.std.specs.List.{list_any, position_or_len, IsAmong}
use Rattle.std.specs.Map.{update}
use Rattle.std.specs.Option.{option_map}
use Rattle.std.specs.Str.{bytes_eq}
use Rattle.pg_link.specs.declared.names.index.Index as indexes
use Rattle.pg_link.specs.declared.names.Kind.{Kind}
use Rattle.pg_link.specs.declared.names.Kind.TheVariants as kinds
use Rattle.pg_link.specs.declared.names.Named as nameds
use Rattle.pg_link.specs.declared.uses.target.Target.TheVariants as targets
use Rattle.pg_link.specs.names.Files.{Declared}
use Rattle.pg_link.specs.names.Names.{Text, without_dot}
use Rattle.pg_link.specs.names.Standing.{Standing, MayStand, bearer, bearers}
use Rattle.pg_link.specs.inner.Indexed.{IsNumbered, added, declared_in, name_if, next_number, one_if, target_by, target_of, view}
use Rattle.pg_link.specs.uses.Targets.{enum_names, is_enum, is_message, names_of, number_in, numbered}
use Rattle.pg_link.proofs.lemmas.names.HeldNames.{among_filter, both_true, filter_among, none_bears, package_is}
use Rattle.pg_link.proofs.lemmas.names.FileMarks.{none_some, step_false, step_true}
use Rattle.pg_link.proofs.lemmas.names.SeenPaths.{among_map}
use Rattle.pg_link.proofs.lemmas.names.SameBytes.{same_text, text_same}
use Rattle.pg_link.proofs.lemmas.names.VisibleLaws.{any_found}

-- ---- positions

pub position_is : {X : Type 0} (p : X → Bool) (xs : List X) → position_or_len p xs < length xs → position p xs ≡ Some (position_or_len p xs)
position_is p xs within = rw (lt-ltb (position_or_len p xs) (length xs) within) refl

some_by : (n m k : ℕ) (b : Bool) → nat_lt n m ≡ b → (n < m) ⊎ (m ≤ n) → cond b (Some n) None ≡ Some k → (n ≡ k) × (n < m)
some_by n m k b is less at = grind (arith, same_Some, true≢false, le-ltb, none_some)

pub some_position : {X : Type 0} (p : X → Bool) (xs : List X) (k : ℕ) → position p xs ≡ Some k → (position_or_len p xs ≡ k) × (position_or_len p xs < length xs)
some_position p xs k at = some_by (position_or_len p xs) (length xs) k (nat_lt (position_or_len p xs) (length xs)) refl (cases_lt (position_or_len p xs) (length xs)) at

front_by : {X : Type 0} (p : X → Bool) (x : X) (xs ys : List X) (b : Bool) → p x ≡ b
    → (position_or_len p xs < length xs → position_or_len p (xs ++ ys) ≡ position_or_len p xs)
    → position_or_len p (x ∷ xs) < length (x ∷ xs) → position_or_len p (x ∷ (xs ++ ys)) ≡ position_or_len p (x ∷ xs)
front_by p x xs ys b pass rest within = grind (arith, step_true, step_false)

-- what is in front stays
in_front : {X : Type 0} (p : X → Bool) (xs ys : List X) → position_or_len p xs < length xs → position_or_len p (xs ++ ys) ≡ position_or_len p xs
in_front p [] ys within = absurd (omega (arith, within))
in_front p (x ∷ xs) ys within = front_by p x xs ys (p x) refl (in_front p xs ys) within

pub position_stays : {X : Type 0} (p : X → Bool) (xs ys : List X) (k : ℕ) → position p xs ≡ Some k → position p (xs ++ ys) ≡ Some k
position_stays p xs ys k at = search (rules, some_position, in_front, position_is, length-append)

-- what is new is last
at_end : {X : Type 0} (p : X → Bool) (xs : List X) (x : X) → list_any p xs ≡ false → p x ≡ true → position_or_len p (xs ++ x ∷ []) ≡ length xs
at_end p [] x none pass = step_true p x [] pass
at_end p (y ∷ ys) x none pass =
    let h = or_parts (p y) (list_any p ys) none in
    step_false p y (ys ++ x ∷ []) h.0 ∙ ap (λ (n : ℕ). suc n) (at_end p ys x h.1 pass)

pub position_last : {X : Type 0} (p : X → Bool) (xs : List X) (x : X) → list_any p xs ≡ false → p x ≡ true → position p (xs ++ x ∷ []) ≡ Some (length xs)
position_last p xs x none pass = search (rules, at_end, position_is, length-append)

-- ---- one more name

one_name : (test : Kind → Bool) (d : Declared) → names_of test (d ∷ []) ≡ cond (test d.kind) (d.name ∷ []) []
one_name test d = search rules

pub names_push : (test : Kind → Bool) (ds : List Declared) (d : Declared) → names_of test (ds ++ d ∷ []) ≡ names_of test ds ++ cond (test d.kind) (d.name ∷ []) []
names_push test ds d = search (rules, filter-append, map-append, one_name)

one_length : (b : Bool) (name : Text) → length (cond b (name ∷ []) []) ≡ one_if b
one_length b name = grind arith

pub count_push : (test : Kind → Bool) (ds : List Declared) (d : Declared) → length (names_of test (ds ++ d ∷ [])) ≡ length (names_of test ds) + one_if (test d.kind)
count_push test ds d = search (rules, names_push, length-append, one_length)

enum_push : (ds : List Declared) (d : Declared) → map without_dot (enum_names ds) ++ name_if (is_enum d.kind) (without_dot d.name) ≡ map without_dot (enum_names (ds ++ d ∷ []))
enum_push ds d = search (rules, map-append, names_push)

number_stays : (test : Kind → Bool) (ds : List Declared) (d : Declared) (full : Text) (k : ℕ) → number_in (names_of test ds) full ≡ Some k
    → number_in (names_of test (ds ++ d ∷ [])) full ≡ Some k
number_stays test ds d full k at = search (rules, names_push, position_stays)

number_last : (test : Kind → Bool) (ds : List Declared) (d : Declared) → test d.kind ≡ true → list_any (bytes_eq d.name) (names_of test ds) ≡ false
    → number_in (names_of test (ds ++ d ∷ [])) d.name ≡ Some (length (names_of test ds))
number_last test ds d is none = search (rules, names_push, position_last, text_same)

-- ---- targets

message_number : (o : Option ℕ) (n : ℕ) → option_map targets.Message o ≡ Some (targets.Message n) → o ≡ Some n
message_number o n is = grind (arith, none_some)

enum_number : (o : Option ℕ) (n : ℕ) → option_map targets.Enum o ≡ Some (targets.Enum n) → o ≡ Some n
enum_number o n is = grind (arith, none_some)

-- the target of a name stays
target_stays : (ds : List Declared) (d : Declared) (full : Text) (kind : Kind) (number : ℕ) → numbered ds true full kind ≡ target_by kind number
    → numbered (ds ++ d ∷ []) true full kind ≡ target_by kind number
target_stays ds d full kinds.Message number is = search (rules, number_stays, message_number)
target_stays ds d full kinds.Enum number is = search (rules, number_stays, enum_number)
target_stays ds d full kinds.Package number is = refl
target_stays ds d full kinds.Entry number is = refl
target_stays ds d full kinds.Value number is = refl
target_stays ds d full kinds.Field number is = refl
target_stays ds d full kinds.Oneof number is = refl
target_stays ds d full kinds.Service number is = refl
target_stays ds d full kinds.Method number is = refl

any_named : (test : Kind → Bool) (all : List Standing) (full : Text) → list_any (bytes_eq full) (names_of test (declared_in all)) ≡ true
    → (s : Standing) × IsAmong (bearers all full) s
any_named test all full any =
    let p = any_found (bytes_eq full) (names_of test (declared_in all)) any in
    let d = among_map (λ (x : Declared). x.name) (filter (λ (x : Declared). test x.kind) (declared_in all)) p.0 p.1 in
    let g = filter_among (λ (x : Declared). test x.kind) (declared_in all) d.0 d.1 in
    let s = among_map (λ (x : Standing). x.declared) all d.0 g.0 in
    let name : s.0.declared.name ≡ p.0 = ap (λ (x : Declared). x.name) s.2 ∙ d.2 in
    (s.0, among_filter (λ (x : Standing). bytes_eq full x.declared.name) all s.0 s.1 (text_same full s.0.declared.name (same_text full p.0 p.2 ∙ sym name)))

none_named_by : (test : Kind → Bool) (all : List Standing) (full : Text) (b : Bool) → bearer all full ≡ None
    → list_any (bytes_eq full) (names_of test (declared_in all)) ≡ b → list_any (bytes_eq full) (names_of test (declared_in all)) ≡ false
none_named_by test all full b none any = grind (arith, any_named, none_bears)

none_named : (test : Kind → Bool) (all : List Standing) (full : Text) → bearer all full ≡ None → list_any (bytes_eq full) (names_of test (declared_in all)) ≡ false
none_named test all full none = none_named_by test all full (list_any (bytes_eq full) (names_of test (declared_in all))) none refl

enums_long : (index : indexes.Index) (all : List Standing) → IsNumbered index all → length index.enums.items ≡ length (enum_names (declared_in all))
enums_long index all numbered = sym (length-map index.enums.items string_bytes) ∙ (ap length numbered.enums ∙ length-map (enum_names (declared_in all)) without_dot)

-- the target of a new name
new_target : (old : indexes.Index) (all : List Standing) (s : Standing) (number : ℕ) (kind : Kind) → IsNumbered old all → bearer all s.declared.name ≡ None
    → s.declared.kind ≡ kind → number ≡ next_number old kind → numbered (declared_in all ++ s.declared ∷ []) true s.declared.name kind ≡ target_by kind number
new_target old all s number kind before none is count = grind (arith, number_last, none_named, enums_long)

added_target : (old : indexes.Index) (all : List Standing) (s : Standing) (n : nameds.Named) → IsNumbered old all → MayStand all s
    → view n ≡ added s (bearer all s.declared.name) → n.number ≡ next_number old s.declared.kind
    → numbered (declared_in all ++ s.declared ∷ []) true s.declared.name n.kind ≡ target_of n
added_target old all s n before h6 made count = grind (arith, new_target, both_true, package_is)

each_by : (old new : indexes.Index) (all : List Standing) (s : Standing) (n m : nameds.Named) (full : Text) (b : Bool) → bytes_eq s.declared.name full ≡ b
    → IsNumbered old all → MayStand all s → view n ≡ added s (bearer all s.declared.name) → n.number ≡ next_number old s.declared.kind
    → cond b (Some n) (get_by_text old.names full) ≡ Some m → numbered (declared_in all ++ s.declared ∷ []) true full m.kind ≡ target_of m
each_by old new all s n m full true same before may made count at = search (rules, same_Some, same_text, added_target)
each_by old new all s n m full false same before may made count at = target_stays (declared_in all) s.declared full m.kind m.number (before.each full m at)

pub numbered_more : (old new : indexes.Index) (all : List Standing) (s : Standing) (n : nameds.Named) (name : Text) → name ≡ s.declared.name
    → ((cs : Text) → get_by_text new.names cs ≡ update bytes_eq (get_by_text old.names) name (Some n) cs)
    → length new.messages.items ≡ length old.messages.items + one_if (is_message s.declared.kind)
    → map string_bytes new.enums.items ≡ map string_bytes old.enums.items ++ name_if (is_enum s.declared.kind) (without_dot s.declared.name)
    → MayStand all s → view n ≡ added s (bearer all s.declared.name) → n.number ≡ next_number old s.declared.kind
    → IsNumbered old all → IsNumbered new (all ++ s ∷ [])
numbered_more old new all s n name same now messages enums may made count before = search (rules, map-append, count_push, enum_push, each_by)
