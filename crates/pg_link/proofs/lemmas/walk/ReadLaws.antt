-- What reads leave of a source, and which paths it is asked for, step by step.
use Rattle.std.proofs.Common.{◌≡◌, ◌∙◌, ◌+◌, ℕ, Bool, true, false, ◌||◌, List, [], ◌∷◌, ◌++◌, Option, All, String, string_bytes, ap, refl, sym, subst, length, length-append, map, append-nil, append_assoc, true≢false, codes, if◌then◌else◌, slice_index_or, arith, rules}
use Rattle.std.proofs.lemmas.Bool.{or_from, or_parts}
use Rattle.std.proofs.lemmas.List.{append_cancel_left, map-append, length-map}
use Rattle.std.proofs.lemmas.List.Folds.{list_any-append, list_any_at}
use Rattle.std.proofs.lemmas.Slice.Eq.{bytes_eq-Decides}
use Rattle.std.specs.Global.{Global}
use Rattle.std.specs.Str.{bytes_eq}
use Rattle.pg_link.specs.declared.sources.Sources.{Ghosts}
use Rattle.pg_link.specs.declared.walk.SourceFile as kept
use Rattle.pg_link.specs.declared.walk.Walk as walks
use Rattle.pg_link.specs.walk.FolderPath.{path_below}
use Rattle.pg_link.specs.names.Files.{Differ, is_path_of, paths_of}
use Rattle.pg_link.specs.names.Names.{Text}
use Rattle.pg_link.specs.walk.Reads.{Reads, ReadsApart, ReadsEach, world_of}
use Rattle.pg_link.specs.inner.Walking.{ReadsNew, ReadsAll, is_begun, entries, open_paths, has_path}
use Rattle.pg_link.specs.Sources.{also, AtMostOne}
use Rattle.pg_link.specs.walk.Walk.{Entry, outlines, path_of}
use Rattle.pg_link.proofs.lemmas.walk.PathLaws.{any-map, among_entries}
use Rattle.pg_link.proofs.lemmas.names.SameBytes.{same_text}
use Rattle.pg_link.proofs.lemmas.walk.WalkLaws.{outlines-push}

-- ---- what reads leave of a source

module _ {S : Type 0} (members : Ghosts S) (old : S) where
  -- a source that isn't asked
  pub unasked : Reads members old old 0
  unasked = record { counted = omega arith; same_given = refl; same_lacked = refl }

  -- reads, and then further ones
  pub reads_on : (mid new : S) (n : ℕ) → Reads members old mid 0 → Reads members mid new n → Reads members old new n
  reads_on mid new n first second = search rules

  pub same_world : (new : S) (n : ℕ) (folder : Text) (roots : List Text) → Reads members old new n → world_of members new folder roots ≡ world_of members old folder roots
  same_world new n folder roots reads = search rules

-- ---- tests

not_both : (a b : Bool) → (a ≡ true → b ≡ false) → b ≡ true → a ≡ false
not_both a b not is = grind (arith, true≢false)

equal : (a b : Bool) → (a ≡ true → b ≡ true) → (b ≡ true → a ≡ true) → a ≡ b
equal a b there back = grind arith

turned : (a b : Bool) → (a || b) ≡ (b || (a || false))
turned a b = grind arith

or_none : (a : Bool) → a ≡ (a || false)
or_none a = grind arith

grouped : (a b c : Bool) → (a || (b || c)) ≡ ((a || b) || c)
grouped a b c = grind arith

passed : (a b c : Bool) → ((a || b) || c) ≡ (b || (a || c))
passed a b c = grind arith

itself : (a : Text) → bytes_eq a a ≡ true
itself a = (bytes_eq-Decides a a).1 refl

-- ---- lists of paths

none_more : (x : Option (List Text)) → x ≡ also [] x
none_more x = grind (arith, append-nil)

also_both : (ps qs : List Text) (x : Option (List Text)) → also qs (also ps x) ≡ also (ps ++ qs) x
also_both ps qs x = grind (arith, append_assoc)

among_both : (p : Text) (ps qs : List Text) → is_path_of (ps ++ qs) p ≡ (is_path_of ps p || is_path_of qs p)
among_both p ps qs = list_any-append (bytes_eq p) ps qs

apart_both : (ps qs : List Text) → Differ ps → Differ qs → ((p : Text) → is_path_of qs p ≡ true → is_path_of ps p ≡ false) → Differ (ps ++ qs)
apart_both [] qs first next out = next
apart_both (p ∷ ps) qs first next out = (
  among_both p ps qs ∙ or_from (is_path_of ps p) (is_path_of qs p) first.0
      (not_both (is_path_of qs p) (bytes_eq p p || is_path_of ps p) (out p) (ap (λ b. b || is_path_of ps p) (itself p))),
  apart_both ps qs first.1 next (λ q has. (or_parts (bytes_eq q p) (is_path_of ps q) (out q has)).1),
)

-- ---- below a folder two paths stay two

below_equal : (b : Bool) (folder p q : Text)
    → (if b then p else folder ++ (codes "/" ++ p)) ≡ (if b then q else folder ++ (codes "/" ++ q)) → p ≡ q
below_equal b folder p q is = grind (arith, append_cancel_left, codes)

pub below_differs : (folder p q : Text) → bytes_eq (path_below folder p) (path_below folder q) ≡ bytes_eq p q
below_differs folder p q = search (rules, equal, bytes_eq-Decides, below_equal, codes, same_text)

among_below : (folder p : Text) (ps : List Text) → is_path_of (map (path_below folder) ps) (path_below folder p) ≡ is_path_of ps p
among_below folder p [] = refl
among_below folder p (q ∷ qs) = search (rules, below_differs, among_below folder p qs)

apart_below : (folder : Text) (ps : List Text) → Differ ps → Differ (map (path_below folder) ps)
apart_below folder [] apart = tt
apart_below folder (p ∷ ps) apart = (among_below folder p ps ∙ apart.0, apart_below folder ps apart.1)

-- ---- one visit

pub not_begun : (walk : walks.Walk) (path : Text) → is_path_of (open_paths walk) path ≡ false → has_path walk path ≡ false → is_begun walk path ≡ false
not_begun walk path none other = or_from (is_path_of (open_paths walk) path) (has_path walk path) none other

pub none_new : (folder : Text) (x y : Option (List Text)) (walk : walks.Walk) → y ≡ x → ReadsNew folder x y walk
none_new folder x y walk same = record { added = []; adds = same ∙ none_more x; apart = tt; is_new = λ p has. absurd (true≢false (sym has)) }

pub one_new : (folder : Text) (x y : Option (List Text)) (walk : walks.Walk) (path : Text) → is_begun walk path ≡ false
    → y ≡ also (path_below folder path ∷ []) x → ReadsNew folder x y walk
one_new folder x y walk path none adds = record {
  added = path ∷ [];
  adds = adds;
  apart = (refl, tt);
  is_new = λ p has. subst (λ (q : Text). is_begun walk q ≡ false) (sym (same_text p path (or_none (bytes_eq p path) ∙ has))) none;
}

pub at_most_new : (folder : Text) (x y : Option (List Text)) (walk : walks.Walk) (path : Text) → is_begun walk path ≡ false
    → AtMostOne (path_below folder path) x y → ReadsNew folder x y walk
at_most_new folder x y walk path none h7 = grind (arith, none_new, one_new)

pub none_read : (folder : Text) (x y : Option (List Text)) (walk : walks.Walk) → y ≡ x → ReadsAll folder x y walk walk
unfolding none_new
none_read folder x y walk same = record {
  reads = none_new folder x y walk same;
  count = omega arith;
  each = λ p. or_none (has_path walk p);
}

-- what was asked for, and then some more, where no other paths were begun meanwhile
then_new : (folder : Text) (x y z : Option (List Text)) (old mid : walks.Walk) (first : ReadsNew folder x y old) (next : ReadsNew folder y z mid)
    → ((p : Text) → is_begun mid p ≡ (is_begun old p || is_path_of first.added p)) → ReadsNew folder x z old
then_new folder x y z old mid first next begun = record {
  added = first.added ++ next.added;
  adds = next.adds ∙ (ap (also (map (path_below folder) next.added)) first.adds
      ∙ (also_both (map (path_below folder) first.added) (map (path_below folder) next.added) x
      ∙ ap (λ ps. also ps x) (sym (map-append (path_below folder) first.added next.added))));
  apart = apart_both first.added next.added first.apart next.apart (λ p has. (or_parts (is_begun old p) (is_path_of first.added p) (sym (begun p) ∙ next.is_new p has)).1);
  is_new = λ p has. new_in p (is_path_of first.added p) (is_path_of next.added p) refl refl (sym (among_both p first.added next.added) ∙ has);
}
  where
    new_in : (p : Text) (a b : Bool) → is_path_of first.added p ≡ a → is_path_of next.added p ≡ b → (a || b) ≡ true → is_begun old p ≡ false
    new_in p true b in_first in_next has = first.is_new p in_first
    new_in p false true in_first in_next has = (or_parts (is_begun old p) (is_path_of first.added p) (sym (begun p) ∙ next.is_new p in_next)).0
    new_in p false false in_first in_next has = absurd (true≢false (sym has))

read_meanwhile : (folder : Text) (x y : Option (List Text)) (old mid : walks.Walk) (all : ReadsAll folder x y old mid) → open_paths mid ≡ open_paths old
    → (p : Text) → is_begun mid p ≡ (is_begun old p || is_path_of all.reads.added p)
read_meanwhile folder x y old mid all opened p =
    ap (λ (ps : List Text). is_path_of ps p || has_path mid p) opened
    ∙ (ap (λ b. is_path_of (open_paths old) p || b) (all.each p) ∙ grouped (is_path_of (open_paths old) p) (has_path old p) (is_path_of all.reads.added p))

pub all_refused : (folder : Text) (x y z : Option (List Text)) (old mid : walks.Walk) → ReadsAll folder x y old mid → open_paths mid ≡ open_paths old
    → ReadsNew folder y z mid → ReadsNew folder x z old
all_refused folder x y z old mid all opened next = then_new folder x y z old mid all.reads next (read_meanwhile folder x y old mid all opened)

pub all_on : (folder : Text) (x y z : Option (List Text)) (old mid now : walks.Walk) → ReadsAll folder x y old mid → open_paths mid ≡ open_paths old
    → ReadsAll folder y z mid now → ReadsAll folder x z old now
unfolding all_refused then_new
all_on folder x y z old mid now all opened after = record {
  reads = all_refused folder x y z old mid all opened after.reads;
  count = omega (arith, all.count, after.count, length-append all.reads.added after.reads.added);
  each = λ p. after.each p
      ∙ (ap (λ b. b || is_path_of after.reads.added p) (all.each p)
      ∙ (sym (grouped (has_path old p) (is_path_of all.reads.added p) (is_path_of after.reads.added p))
      ∙ ap (λ b. has_path old p || b) (sym (among_both p all.reads.added after.reads.added))));
}

-- while the imports of a path are followed
pub record IsUnderWay (folder : Text) (before after : Option (List Text)) (old now : walks.Walk) (path : Text) : Type 0 where
  pub reads : ReadsNew folder before after old
  pub count : length (entries now) + 1 ≡ length (entries old) + length reads.added
  pub each : (p : Text) → (bytes_eq p path || has_path now p) ≡ (has_path old p || is_path_of reads.added p)
  pub is_unread : has_path now path ≡ false

first_way : (folder : Text) (x y : Option (List Text)) (old now : walks.Walk) (path : Text) → is_path_of (open_paths old) path ≡ false → has_path old path ≡ false
    → y ≡ also (path_below folder path ∷ []) x → entries now ≡ entries old → IsUnderWay folder x y old now path
unfolding one_new
first_way folder x y old now path closed none adds same =
    let has : (p : Text) → has_path now p ≡ has_path old p = λ p. ap (λ (es : List Entry). is_path_of (paths_of (outlines es)) p) same in
    record {
      reads = one_new folder x y old path (not_begun old path closed none) adds;
      count = omega (arith, ap length same);
      each = λ p. ap (λ b. bytes_eq p path || b) (has p) ∙ turned (bytes_eq p path) (has_path old p);
      is_unread = has path ∙ none;
    }

begun_meanwhile : (folder : Text) (x y : Option (List Text)) (old now : walks.Walk) (path : Text) (w : IsUnderWay folder x y old now path) → open_paths now ≡ path ∷ open_paths old
    → (p : Text) → is_begun now p ≡ (is_begun old p || is_path_of w.reads.added p)
begun_meanwhile folder x y old now path w opened p = search (rules, passed, grouped)

way_refused : (folder : Text) (x y z : Option (List Text)) (old now : walks.Walk) (path : Text) → IsUnderWay folder x y old now path → open_paths now ≡ path ∷ open_paths old
    → ReadsNew folder y z now → ReadsNew folder x z old
way_refused folder x y z old now path w opened next = then_new folder x y z old now w.reads next (begun_meanwhile folder x y old now path w opened)

next_way : (folder : Text) (x y z : Option (List Text)) (old mid now : walks.Walk) (path : Text) → IsUnderWay folder x y old mid path → open_paths mid ≡ path ∷ open_paths old
    → ReadsAll folder y z mid now → IsUnderWay folder x z old now path
unfolding way_refused then_new
next_way folder x y z old mid now path w opened after =
    let is_open : is_begun mid path ≡ true =
    ap (λ (ps : List Text). is_path_of ps path || has_path mid path) opened
    ∙ ap (λ b. (b || is_path_of (open_paths old) path) || has_path mid path) (itself path) in
    record {
      reads = way_refused folder x y z old mid path w opened after.reads;
      count = omega (arith, w.count, after.count, length-append w.reads.added after.reads.added);
      each = λ p. ap (λ b. bytes_eq p path || b) (after.each p)
          ∙ (grouped (bytes_eq p path) (has_path mid p) (is_path_of after.reads.added p)
          ∙ (ap (λ b. b || is_path_of after.reads.added p) (w.each p)
          ∙ (sym (grouped (has_path old p) (is_path_of w.reads.added p) (is_path_of after.reads.added p))
          ∙ ap (λ b. has_path old p || b) (sym (among_both p w.reads.added after.reads.added)))));
      is_unread = after.each path
          ∙ or_from (has_path mid path) (is_path_of after.reads.added path) w.is_unread
          (not_both (is_path_of after.reads.added path) (is_begun mid path) (after.reads.is_new path) is_open);
    }

pub way_done : (folder : Text) (x y : Option (List Text)) (old mid now : walks.Walk) (path : Text) (name : String Global) (file : kept.SourceFile) → IsUnderWay folder x y old mid path
    → string_bytes name ≡ path → entries now ≡ entries mid ++ (name, file) ∷ [] → ReadsAll folder x y old now
way_done folder x y old mid now path name file w same is =
    let e : Entry = (name, file) in
    record {
      reads = w.reads;
      count = omega (arith, w.count, ap length is, length-append (entries mid) (e ∷ []));
      each = λ p. ap (λ (es : List Entry). is_path_of (paths_of (outlines es)) p) is
          ∙ (ap (λ fs. is_path_of (paths_of fs) p) (outlines-push (entries mid) e)
          ∙ (ap (λ (q : Text). bytes_eq p q || has_path mid p) same ∙ w.each p));
    }

-- once its imports were followed, from where it was opened
pub imports_way : (folder : Text) (x y z : Option (List Text)) (old begun now : walks.Walk) (path : Text) → is_path_of (open_paths old) path ≡ false → has_path old path ≡ false
    → y ≡ also (path_below folder path ∷ []) x → entries begun ≡ entries old → open_paths begun ≡ path ∷ open_paths old → ReadsAll folder y z begun now
    → IsUnderWay folder x z old now path
imports_way folder x y z old begun now path closed none adds same opened all =
    next_way folder x y z old begun now path (first_way folder x y old begun path closed none adds same) opened all

pub imports_stopped : (folder : Text) (x y z : Option (List Text)) (old begun : walks.Walk) (path : Text) → is_path_of (open_paths old) path ≡ false → has_path old path ≡ false
    → y ≡ also (path_below folder path ∷ []) x → entries begun ≡ entries old → open_paths begun ≡ path ∷ open_paths old → ReadsNew folder y z begun
    → ReadsNew folder x z old
imports_stopped folder x y z old begun path closed none adds same opened next =
    way_refused folder x y z old begun path (first_way folder x y old begun path closed none adds same) opened next

-- ---- all roots

-- from nothing to here
pub record IsSoFar (folder : Text) (before after : Option (List Text)) (now : walks.Walk) : Type 0 where
  pub added : List Text
  pub adds : after ≡ also (map (path_below folder) added) before
  pub apart : Differ added
  pub count : length (entries now) ≡ length added
  pub each : (p : Text) → has_path now p ≡ is_path_of added p

pub first_far : (folder : Text) (x y : Option (List Text)) (now : walks.Walk) → y ≡ x → entries now ≡ [] → IsSoFar folder x y now
first_far folder x y now same none = search (rules, none_more)

far_new : (folder : Text) (x y z : Option (List Text)) (mid : walks.Walk) (far : IsSoFar folder x y mid) → open_paths mid ≡ [] → (next : ReadsNew folder y z mid)
    → (z ≡ also (map (path_below folder) (far.added ++ next.added)) x) × Differ (far.added ++ next.added)
far_new folder x y z mid far opened next = (
  next.adds ∙ (ap (also (map (path_below folder) next.added)) far.adds
      ∙ (also_both (map (path_below folder) far.added) (map (path_below folder) next.added) x
      ∙ ap (λ ps. also ps x) (sym (map-append (path_below folder) far.added next.added)))),
  apart_both far.added next.added far.apart next.apart
      (λ p has. sym (far.each p) ∙ (or_parts (is_path_of (open_paths mid) p) (has_path mid p) (next.is_new p has)).1),
)

pub far_refused : (folder : Text) (x y z : Option (List Text)) (mid : walks.Walk) → IsSoFar folder x y mid → open_paths mid ≡ [] → ReadsNew folder y z mid → ReadsApart x z
far_refused folder x y z mid far opened next =
    let both = far_new folder x y z mid far opened next in
    record { asked = map (path_below folder) (far.added ++ next.added); adds = both.0; apart = apart_below folder (far.added ++ next.added) both.1 }

pub next_far : (folder : Text) (x y z : Option (List Text)) (mid now : walks.Walk) → IsSoFar folder x y mid → open_paths mid ≡ [] → ReadsAll folder y z mid now → IsSoFar folder x z now
next_far folder x y z mid now far opened after =
    let both = far_new folder x y z mid far opened after.reads in
    record {
      added = far.added ++ after.reads.added;
      adds = both.0;
      apart = both.1;
      count = omega (arith, far.count, after.count, length-append far.added after.reads.added);
      each = λ p. after.each p ∙ (ap (λ b. b || is_path_of after.reads.added p) (far.each p) ∙ sym (among_both p far.added after.reads.added));
    }

has_own : (now : walks.Walk) → All (λ (e : Entry). has_path now (path_of e) ≡ true) (entries now)
has_own now = search (rules, slice_index_or, among_entries, any-map, string_bytes, list_any_at, itself)

pub far_apart : (folder : Text) (x y : Option (List Text)) (now : walks.Walk) → IsSoFar folder x y now → ReadsApart x y
far_apart folder x y now far = record { asked = map (path_below folder) far.added; adds = far.adds; apart = apart_below folder far.added far.apart }

pub all_far : (folder : Text) (x y : Option (List Text)) (now : walks.Walk) → IsSoFar folder x y now → ReadsEach folder x y (entries now)
unfolding far_apart
all_far folder x y now far = record {
  reads = far_apart folder x y now far;
  as_many = length-map far.added (path_below folder) ∙ sym far.count;
  has_each = λ k d within.
      among_below folder (path_of (slice_index_or (entries now) k d)) far.added
      ∙ (sym (far.each (path_of (slice_index_or (entries now) k d))) ∙ has_own now k d within);
}
