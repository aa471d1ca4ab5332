use Rattle.std.proofs.Common.{◌≡◌, ◌∙◌, ◌++◌, ◌∷◌, [], Bool, true, List, Some, Option, Bor, String, IfSome, eqb, eqb-true, length, ap, ap₂, sym, subst, string_bytes, arith}
use Rattle.std.specs.Global.{Global}
use Rattle.std.specs.Option.{option_map}
use Rattle.pg_syntax.specs.declared.tree as tree
use Rattle.pg_link.specs.declared.names.Named as nameds
use Rattle.pg_link.specs.inner.Index.{names_seen, visible_of}
use Rattle.pg_link.specs.names.Names.{Names, Text, called, texts}
use Rattle.pg_link.specs.names.Resolves.{borne, innermost, part_words, reference, sought_among, written}
use Rattle.pg_link.proofs.lemmas.names.ResolvesLaws.{found_by, found_full, none_is}
use Rattle.pg_link.proofs.names.index.Index.found.Goals as goal

abbrev Ended : Type 0
Ended = Option (String Global × Bor Text × Bor nameds.Named)

-- the scope in which the search ended, of the name's own parts
scope_is : (names : Names) (scope : List Text) (n : tree.TypeName.TypeName) (parts : List tree.Name.Name) (first : Text) (o e : Ended) → o ≡ e
    → parts ≡ n.path.more.items → first ≡ string_bytes n.path.first.text
    → option_map (λ f. string_bytes f.0) o ≡ option_map called (innermost names (sought_among (part_words parts)) (called (first ∷ [])) scope)
    → option_map (λ f. string_bytes f.0) e ≡ option_map called (innermost names (sought_among (reference n).more) (called ((reference n).first ∷ [])) scope)
scope_is names scope n parts first o e same more word is =
    ap (option_map (λ (f : String Global × Bor Text × Bor nameds.Named). string_bytes f.0)) (sym same) ∙ (is
    ∙ ap₂ (λ (ps : List tree.Name.Name) (w : Text). option_map called (innermost names (sought_among (part_words ps)) (called (w ∷ [])) scope)) more word)

-- a word alone is all that is written
alone : (n : tree.TypeName.TypeName) (parts : List tree.Name.Name) (first : Text) (empty : Bool) → empty ≡ eqb (length parts) 0 → empty ≡ true
    → parts ≡ n.path.more.items → first ≡ string_bytes n.path.first.text → called (first ∷ []) ≡ written (reference n)
alone n [] first empty says none more word = ap₂ (λ (w : Text) (ps : List tree.Name.Name). called (w ∷ part_words ps)) word more
alone n (p ∷ parts) first empty says none more word = absurd (omega (arith, eqb-true (length (p ∷ parts)) 0 (sym says ∙ none)))

pub returns-then-name-clause-found : goal.returns-then-name-clause-found
returns-then-name-clause-found c =
    let names = names_seen c.args.self.now.names (visible_of c.args.visible) in
    let full : c.as_str.result.now ≡ written (reference c.args.name.now) =
    c.as_str.ensures.value ∙ (c.in_ok-push_name.ensures ∙ ap (λ (t : Text). t ++ written (reference c.args.name.now)) c.in_ok-text.ensures.bytes) in
    c.seen.ensures.borne ∙ (ap (borne names) full ∙ found_full names (texts c.args.scope.now) (reference c.args.name.now) c.if-name.true)

pub returns-in_default-clause-found : goal.returns-in_default-clause-found
returns-in_default-clause-found c =
    let names = names_seen c.args.self.now.names (visible_of c.args.visible) in
    let scope = texts c.args.scope.now in
    found_by names scope (reference c.args.name.now) _ c.if-name.false
    (scope_is names scope c.args.name.now c.deref-parts.result.now c.as_str-first.result.now _ _ (none_is _ c.in_default.not-Some) c.deref-parts.ensures.value c.as_str-first.ensures.value c.in_ok-full.ensures.outer)

pub returns-then-is_empty-clause-found : goal.returns-then-is_empty-clause-found
returns-then-is_empty-clause-found c =
    let names = names_seen c.args.self.now.names (visible_of c.args.visible) in
    let scope = texts c.args.scope.now in
    let outer : Text = string_bytes c.in-Some.full in
    let borne_here = subst (λ (o : Ended). IfSome o (λ f. Some (f.1.now, f.2.now.kind) ≡ borne names (string_bytes f.0 ++ called (c.as_str-first.result.now ∷ [])))) c.in-Some.is c.in_ok-full.ensures.borne in
    let word = alone c.args.name.now c.deref-parts.result.now c.as_str-first.result.now c.is_empty.result c.is_empty.ensures c.if-is_empty.true c.deref-parts.ensures.value c.as_str-first.ensures.value in
    borne_here ∙ (ap (λ (t : Text). borne names (outer ++ t)) word
    ∙ found_by names scope (reference c.args.name.now) (Some outer) c.if-name.false
    (scope_is names scope c.args.name.now c.deref-parts.result.now c.as_str-first.result.now _ _ c.in-Some.is c.deref-parts.ensures.value c.as_str-first.ensures.value c.in_ok-full.ensures.outer))

pub returns-clause-found : goal.returns-clause-found
returns-clause-found c =
    let names = names_seen c.args.self.now.names (visible_of c.args.visible) in
    let scope = texts c.args.scope.now in
    c.seen-2.ensures.borne ∙ (ap (borne names) (c.as_str-2.ensures.value ∙ c.in_ok-push_name-2.ensures)
    ∙ found_by names scope (reference c.args.name.now) (Some (string_bytes c.in-Some.full)) c.if-name.false
    (scope_is names scope c.args.name.now c.deref-parts.result.now c.as_str-first.result.now _ _ c.in-Some.is c.deref-parts.ensures.value c.as_str-first.ensures.value c.in_ok-full.ensures.outer))
