-- What a table of bounds says of the roots.
use Rattle.std.proofs.Common.{◌≡◌, ◌∙◌, ℕ, ◌<◌, List, [], ◌∷◌, map, length, true, Option, Some, None, is_some, string_bytes, inl, refl, ap, ap₂, sym, subst, ◌↔◌, lt-ltb}
use Rattle.std.specs.List.{AllByRecursion}
use Rattle.pg_schema.specs.declared.parts.Parts.{Parts}
use Rattle.pg_schema.specs.Parts.{name_at, shape_of}
use Rattle.pg_schema.specs.ShapeRules.{IsShape}
use Rattle.pg_schema.specs.Shape.{Shape}
use Rattle.pg_dyn.proofs.Lists.{each_weaker}
use Rattle.pg_pairs.proofs.lemmas.graph.Reaching.{every_is_among}
use Rattle.pg_pairs.specs.declared.choices.choice.Pair.{Pair}
use Rattle.pg_pairs.specs.bounds.Covering.{IsAmong}
use Rattle.pg_pairs.specs.choices.Causes.{HasNoCause, causes}
use Rattle.pg_pairs.specs.choices.Told.{Told, told_causes}
use Rattle.pg_pairs.specs.laws.ToldLaws.{CausesAreTold}
use Rattle.pg_pairs.specs.graph.Edges.{is_pair}
use Rattle.pg_pairs.specs.views.EnumView.{EnumView}
use Rattle.pg_pairs.specs.views.ViewLaws.{IsEnumView}
use Rattle.pg_pairs.specs.graph.Reached.{itself}
use Rattle.pg_cert.specs.declared.bounds.PairBound.{PairBound}
use Rattle.pg_cert.specs.Certificate.{bound_in}
use Rattle.pg_least.specs.Searched.{BoundSays, pairs_of}
use Rattle.pg_least.specs.From.{AreBoundsFrom, CompatibleWithoutCauses}
use Rattle.pg_least.specs.Loss.{AreRoots}
use Rattle.pg_least.proofs.PublicLaws.{compatible_is_seen, lost_messages_break, named_types_are_there, tables_by_lines}
use Rattle.pg_causes.specs.TypeLines.{GateSays, IsTypeLine}
use Rattle.pg_causes.specs.declared.overview.TypeLine.{TypeLine}

-- what the bound of a pair says is what `gate` says of it
gate_says : (enum_view : EnumView) (old new : Shape) (pair : Pair) (bound : Option ℕ) → BoundSays enum_view old new pair bound → GateSays enum_view old new pair bound
gate_says enum_view old new pair None compatible = record { each_is_seen = compatible_is_seen enum_view.alike old new pair compatible; compatible = compatible }
gate_says enum_view old new pair (Some bytes) least = record {
  message = least.message;
  lost = (lost_messages_break enum_view.alike old new pair least.message).1 least.breaks;
  long = least.length_is;
  none_shorter = λ other lost. least.least other ((lost_messages_break enum_view.alike old new pair other).0 lost);
  least = least;
}

-- both types of a name are there
there : (old new : Parts) (pair : Pair) → (name : List ℕ) × AreRoots old new name pair → (pair.old.index < length (shape_of old)) × (pair.new.index < length (shape_of new))
there old new pair (name, roots) = (named_types_are_there old name pair.old roots.old_named, named_types_are_there new name pair.new roots.new_named)

module _ (old new : Parts) (roots : List Pair) (alike : AllByRecursion (λ (p : Pair). (name : List ℕ) × AreRoots old new name p) roots) where
  pub old_there : AllByRecursion (λ (p : Pair). p.old.index < length (shape_of old)) roots
  old_there = each_weaker (λ (p : Pair). (name : List ℕ) × AreRoots old new name p) (λ (p : Pair). p.old.index < length (shape_of old)) (λ p so. (there old new p so).0) roots alike

  pub are_pairs : AllByRecursion (λ (p : Pair). is_pair (shape_of old) (shape_of new) p ≡ true) roots
  are_pairs =
      each_weaker (λ (p : Pair). (name : List ℕ) × AreRoots old new name p) (λ (p : Pair). is_pair (shape_of old) (shape_of new) p ≡ true)
      (λ p so. let both = there old new p so in rw (lt-ltb p.old.index (length (shape_of old)) both.0, lt-ltb p.new.index (length (shape_of new)) both.1) refl) roots alike

  module _ (enum_view : EnumView) (bounds : List PairBound) (law : IsEnumView enum_view) (is_old : IsShape (shape_of old)) (is_new : IsShape (shape_of new)) (without : CompatibleWithoutCauses) (from : AreBoundsFrom enum_view (shape_of old) (shape_of new) roots bounds) where
    roots_among : AllByRecursion (λ p. IsAmong p (pairs_of bounds)) roots
    roots_among = every_is_among (λ p. IsAmong p (pairs_of bounds)) roots (λ p among. from.reached.all p (record { root = p; among = among; leads = itself }))

    pub bounds_there : AllByRecursion (λ p. is_some (bound_in bounds p) ≡ true) roots
    bounds_there = each_weaker (λ p. IsAmong p (pairs_of bounds)) (λ p. is_some (bound_in bounds p) ≡ true) (λ p among. tables_by_lines.there bounds p among) roots roots_among

    none_without : (pair : Pair) → IsAmong pair (pairs_of bounds) → (bound_in bounds pair ≡ Some None) ↔ HasNoCause enum_view (shape_of old) (shape_of new) pair
    none_without pair among = (without enum_view (shape_of old) (shape_of new) roots bounds law is_old is_new are_pairs from pair among).1

    -- where the bound is 'none' the pair has no cause, and none is told
    pub none_caused : CausesAreTold → (pair : Pair) → bound_in bounds pair ≡ Some None → told_causes enum_view (shape_of old) (shape_of new) pair ≡ []
    none_caused told pair none = of (told_causes enum_view (shape_of old) (shape_of new) pair) refl
      where
        no_cause : causes enum_view (shape_of old) (shape_of new) pair ≡ []
        no_cause = (none_without pair (tables_by_lines.among bounds pair None none)).0 none pair itself

        of : (ts : List Told) → told_causes enum_view (shape_of old) (shape_of new) pair ≡ ts → told_causes enum_view (shape_of old) (shape_of new) pair ≡ []
        of [] is = is
        of (t ∷ ts) is =
            absurd (subst (IsAmong t.choice) no_cause (told.are_causes enum_view (shape_of old) (shape_of new) pair t (subst (IsAmong t) (sym is) (inl refl))))

    line_is : (line : TypeLine) (root : Pair) → (name : List ℕ) × AreRoots old new name root → Some (string_bytes line.name) ≡ name_at old.types.items root.old → Some line.bound ≡ bound_in bounds root → IsAmong root (pairs_of bounds) → IsTypeLine enum_view old new line
    line_is line root (name, alike) called bound among = record {
      pair = root;
      roots = let same : name ≡ string_bytes line.name = cc (called, alike.old_named) in subst (λ n. AreRoots old new n root) same alike;
      says = gate_says enum_view (shape_of old) (shape_of new) root line.bound (from.says root line.bound (sym bound));
      without_causes = (
        (λ none. (none_without root among).0 (sym bound ∙ ap Some none)),
        (λ no. let none : Some line.bound ≡ Some None = bound ∙ (none_without root among).1 no in cc),
      );
    }

    go : (rest : List Pair) (lines : List TypeLine) → AllByRecursion (λ (p : Pair). (name : List ℕ) × AreRoots old new name p) rest → AllByRecursion (λ p. IsAmong p (pairs_of bounds)) rest
        → map (λ (l : TypeLine). Some (string_bytes l.name)) lines ≡ map (λ (p : Pair). name_at old.types.items p.old) rest → map (λ (l : TypeLine). Some l.bound) lines ≡ map (bound_in bounds) rest → AllByRecursion (IsTypeLine enum_view old new) lines
    go rest [] alike among names bounded = tt
    go [] (line ∷ lines) alike among names bounded = absurd (cc)
    go (root ∷ rest) (line ∷ lines) alike among names bounded = (line_is line root alike.0 (cc) (cc) among.0, go rest lines alike.1 among.1 (cc) (cc))

    -- each line says what `gate` does
    pub lines_are : (lines : List TypeLine) → map (λ (l : TypeLine). Some (string_bytes l.name)) lines ≡ map (λ (p : Pair). name_at old.types.items p.old) roots → map (λ (l : TypeLine). Some l.bound) lines ≡ map (bound_in bounds) roots → AllByRecursion (IsTypeLine enum_view old new) lines
    lines_are lines names bounded = go roots lines alike roots_among names bounded

-- what is there in order is in order
pub all_there : {A B : Type 0} (f : A → B) (xs : List A) (ys : List B) → map (λ x. Some (f x)) xs ≡ map Some ys → map f xs ≡ ys
all_there f [] [] same = refl
all_there f [] (y ∷ ys) same = absurd (cc)
all_there f (x ∷ xs) [] same = absurd (cc)
all_there f (x ∷ xs) (y ∷ ys) same =
    let rest = all_there f xs ys (cc) in
    let here : f x ≡ y = cc in
    ap₂ (λ z zs. z ∷ zs) here rest
