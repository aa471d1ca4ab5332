-- Linked files, as sources.
use Rattle.std.proofs.Common.{◌≡◌, ◌∙◌, ◌+◌, ℕ, suc, List, [], ◌∷◌, ◌++◌, map, take, slice_get, Option, Some, option_map, ap, sym, arith, rules}
use Rattle.std.proofs.Math.Seq.{take-suc}
use Rattle.std.proofs.lemmas.List.{map-append}
use Rattle.std.proofs.lemmas.Option.{get_or_from_slice_get, slice_get_within}
use Rattle.pg_link.specs.declared.uses.target.Target.{Target}
use Rattle.pg_link.specs.uses.Targets.{target_at}
use Rattle.pg_link.specs.walk.Walk.{Entry, path_of}
use Rattle.pg_check.specs.declared.parts.made_parts.Source as code
use Rattle.pg_check.specs.parts.EnumPlaces.{by_scope, enum_places}
use Rattle.pg_check.specs.inner.Sources.{target_in, source}
use Rattle.pg_check.specs.parts.Sources.{linked_source}

same_functions : {A B : Type 0} (f g : A → B) → ((x : A) → f x ≡ g x) → f ≡ g
same_functions f g h = λ i x. h x i

-- what a type name names, an enum by its index scope by scope
abbrev pub scoped : List Entry → Entry → ℕ → Option Target
scoped files e at = option_map (by_scope (enum_places files)) (target_at files e at)

-- the file of the code is the one that is linked
source_is : (files : List Entry) (e : Entry) (s : code.Source) → s.path.now ≡ path_of e → s.text.now ≡ e.1.bytes.items → s.tree.now ≡ e.1.tree
    → ((at : ℕ) → target_in s.targets at ≡ scoped files e at) → source s ≡ linked_source files e
source_is files e s path text tree targets = search (rules, same_functions)

pub take_next : {X : Type 0} (xs : List X) (i : ℕ) (x : X) → slice_get xs i ≡ Some x → take (i + 1) xs ≡ take i xs ++ x ∷ []
take_next xs i x at =
    let next : i + 1 ≡ suc i = omega (arith) in
    ap (λ n. take n xs) next ∙ (take-suc xs i x (slice_get_within xs i x at) ∙ ap (λ y. take i xs ++ y ∷ []) (get_or_from_slice_get xs i x x at))

-- one more of them
pub one_more_source : (files : List Entry) (i : ℕ) (e : Entry) (before after : List code.Source) (s : code.Source) → slice_get files i ≡ Some e
    → after ≡ before ++ s ∷ [] → s.path.now ≡ path_of e → s.text.now ≡ e.1.bytes.items → s.tree.now ≡ e.1.tree
    → ((at : ℕ) → target_in s.targets at ≡ scoped files e at) → map source before ≡ map (linked_source files) (take i files)
    → map source after ≡ map (linked_source files) (take (i + 1) files)
one_more_source files i e before after s at more path text tree targets so_far =
    ap (map source) more
    ∙ (map-append source before (s ∷ [])
    ∙ (ap (λ xs. xs ++ source s ∷ []) so_far
    ∙ (ap (λ x. map (linked_source files) (take i files) ++ x ∷ []) (source_is files e s path text tree targets)
    ∙ (sym (map-append (linked_source files) (take i files) (e ∷ []))
    ∙ sym (ap (map (linked_source files)) (take_next files i e at))))))
