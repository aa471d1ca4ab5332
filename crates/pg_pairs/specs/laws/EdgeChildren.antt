-- An edge is its pair's, and leads to one of the pair's children: a lemma, which the graph of two schemas cites as a
-- law.
use Rattle.std.specs.Prelude.{◌≡◌, List, [], ◌∷◌, ◌++◌, map, flat_map, filter, Bool, true, false, not, nat_eq, cond, ◌⊎◌}
use Rattle.std.proofs.Common.{inl, inr, ⊎_elim, refl, ap, sym, subst}
use Rattle.std.proofs.lemmas.Bool.{and_parts, eqb-true}
use Rattle.pg_schema.specs.Shape.{Shape, FieldShape, field_at, fields}
use Rattle.pg_pairs.specs.declared.choices.choice.Pair.{Pair}
use Rattle.pg_pairs.specs.declared.graph.edge.Edge.{Edge}
use Rattle.pg_pairs.specs.bounds.Covering.{IsAmong, all_children, children, children_beside, distinct, same_pair}
use Rattle.pg_pairs.specs.graph.Edges.{edge_to, edges}

pub same_pair-true : (p q : Pair) → same_pair p q ≡ true → p ≡ q
same_pair-true p q h =
    let both = and_parts (nat_eq p.old.index q.old.index) (nat_eq p.new.index q.new.index) h in
    λ i. record {
      old = record { index = eqb-true p.old.index q.old.index both.0 i };
      new = record { index = eqb-true p.new.index q.new.index both.1 i };
    }

-- a pair of a list is among its distinct pairs
pub among_distinct : (p : Pair) (ps : List Pair) → IsAmong p ps → IsAmong p (distinct ps)
among_distinct p [] h = absurd h
among_distinct p (q ∷ ps) h = ⊎_elim (λ same. inl same) (λ later. of (same_pair q p) refl (among_distinct p ps later)) h
  where
    among_kept : (test : Pair → Bool) (xs : List Pair) → IsAmong p xs → test p ≡ true → IsAmong p (filter test xs)
    among_kept test [] among is = absurd among
    among_kept test (x ∷ xs) among is =
        ⊎_elim
        (λ same. let here : test x ≡ true = subst (λ z. test z ≡ true) same is in
        subst (λ b. IsAmong p (cond b (x ∷ filter test xs) (filter test xs))) (sym here) (inl same))
        (λ later. by (test x) (among_kept test xs later is)) among
      where
        by : (b : Bool) → IsAmong p (filter test xs) → IsAmong p (cond b (x ∷ filter test xs) (filter test xs))
        by true m = inr m
        by false m = m

    of : (b : Bool) → same_pair q p ≡ b → IsAmong p (distinct ps) → IsAmong p (distinct (q ∷ ps))
    of true same later = inl (sym (same_pair-true q p same))
    of false apart later = inr (among_kept (λ x. not (same_pair q x)) (distinct ps) later (ap not apart))

pub among_append : {A : Type 0} (x : A) (xs ys : List A) → IsAmong x (xs ++ ys) → IsAmong x xs ⊎ IsAmong x ys
among_append x [] ys h = inr h
among_append x (y ∷ xs) ys h =
    ⊎_elim (λ same. inl (inl same)) (λ later. ⊎_elim (λ l. inl (inr l)) (λ r. inr r) (among_append x xs ys later)) h

pub append_left : {A : Type 0} (x : A) (xs ys : List A) → IsAmong x xs → IsAmong x (xs ++ ys)
append_left x [] ys h = absurd h
append_left x (y ∷ xs) ys h = ⊎_elim (λ same. inl same) (λ later. inr (append_left x xs ys later)) h

pub append_right : {A : Type 0} (x : A) (xs ys : List A) → IsAmong x ys → IsAmong x (xs ++ ys)
append_right x [] ys h = h
append_right x (y ∷ xs) ys h = inr (append_right x xs ys h)

-- an edge is its pair's, and leads to one of the pair's children
pub edge_leads : (old new : Shape) (pair : Pair) (edge : Edge) → IsAmong edge (edges old new pair) →
    (edge.from ≡ pair) × IsAmong edge.child (children old new pair)
edge_leads old new pair edge among =
    let found = of (fields old pair.old) among in
    (found.0, among_distinct edge.child (all_children (fields new pair.new) (fields old pair.old)) found.1)
  where
    own : (f : FieldShape) (ps : List Pair) → IsAmong edge (map (edge_to pair f) ps) →
        (edge.from ≡ pair) × IsAmong edge.child ps
    own f [] h = absurd h
    own f (p ∷ ps) h =
        ⊎_elim (λ same. (ap (λ (e : Edge). e.from) same, inl (ap (λ (e : Edge). e.child) same)))
        (λ later. let (from, child) = own f ps later in (from, inr child)) h

    of : (fs : List FieldShape) →
        IsAmong edge (flat_map (λ (f : FieldShape).
        map (edge_to pair f) (children_beside f (field_at (fields new pair.new) f.number))) fs) →
        (edge.from ≡ pair) × IsAmong edge.child (all_children (fields new pair.new) fs)
    of [] h = absurd h
    of (f ∷ fs) h =
        let ps = children_beside f (field_at (fields new pair.new) f.number) in
        ⊎_elim
        (λ here. let (from, child) = own f ps here in
        (from, append_left edge.child ps (all_children (fields new pair.new) fs) child))
        (λ later. let (from, child) = of fs later in
        (from, append_right edge.child ps (all_children (fields new pair.new) fs) child))
        (among_append edge (map (edge_to pair f) ps)
        (flat_map (λ (f : FieldShape).
        map (edge_to pair f) (children_beside f (field_at (fields new pair.new) f.number))) fs) h)
