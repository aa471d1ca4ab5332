-- What a search claims of its table and its witness.
use Rattle.std.proofs.Common.{◌≡◌, ℕ, ◌≤◌, ◌&&◌, List, [], ◌∷◌, flat_map, filter, find, length, Bool, true, false, not, nat_le, cond, is_some, option_map, Option, Some, None, refl, ap, sym, ◌∙◌, subst, arith}
use Rattle.std.proofs.lemmas.Bool.{and_parts, leb-true}
use Rattle.pg_schema.specs.Shape.{Shape}
use Rattle.pg_schema.specs.ShapeRules.{IsShape}
use Rattle.pg_dyn.specs.declared.view_name.ViewName.{ViewName}
use Rattle.pg_dyn.specs.encoding.Encoding.{cap, enc}
use Rattle.pg_dyn.specs.message.Kept.{Kept, message_of, type_of}
use Rattle.pg_pairs.specs.declared.choices.choice.Pair.{Pair}
use Rattle.pg_pairs.specs.views.EnumView.{EnumView}
use Rattle.pg_pairs.specs.views.ViewLaws.{IsEnumView}
use Rattle.pg_pairs.specs.choices.Choices.{number_for}
use Rattle.pg_pairs.specs.bounds.Covering.{children, distinct, same_pair, Covers}
use Rattle.pg_pairs.specs.bounds.Laws.{ExactIsLeast, NoneIsCompatible, ReachedBy}
use Rattle.pg_cert.proofs.Tables.{same_pair-refl}
use Rattle.pg_cert.specs.declared.bounds.PairBound.{PairBound}
use Rattle.pg_cert.specs.Certificate.{are_bounds, bound_in, is_bound, Claim, IsWitnessedIfThere}
use Rattle.pg_cert.specs.Witness.{is_witness}
use Rattle.pg_least.specs.inner.Descent.{IsCarriedFrom, IsTableOf}
use Rattle.pg_least.specs.Searched.{BoundSays, IsSearched, pairs_of, CarriesWitness}

-- the first of the pairs is there
first_there : (bounds : List PairBound) (p : Pair) (ps : List Pair) → pairs_of bounds ≡ p ∷ ps → is_some (bound_in bounds p) ≡ true
first_there [] p ps h = absurd (cc)
first_there (b ∷ bounds) p ps h =
    let same : b.pair ≡ p = cc in
    rw (ap (same_pair p) same ∙ same_pair-refl p) refl

-- a bound that is there is one
bound_there : (bounds : List PairBound) (p : Pair) (bound : Option ℕ) → are_bounds bounds ≡ true → bound_in bounds p ≡ Some bound → is_bound bound ≡ true
bound_there [] p bound h is = absurd (cc)
bound_there (b ∷ bounds) p bound h is = of (same_pair p b.pair) refl (bound_there bounds p bound outer.1) is
  where
    outer : (is_bound b.bound ≡ true) × (are_bounds bounds ≡ true)
    outer =
        let parts = and_parts (is_bound b.bound && not (is_some (bound_in bounds b.pair))) (are_bounds bounds) h in
        ((and_parts (is_bound b.bound) (not (is_some (bound_in bounds b.pair))) parts.0).0, parts.1)

    of : (t : Bool) → same_pair p b.pair ≡ t → (bound_in bounds p ≡ Some bound → is_bound bound ≡ true) → option_map (λ (x : PairBound). x.bound) (cond t (Some b) (find (λ (x : PairBound). same_pair p x.pair) bounds)) ≡ Some bound → is_bound bound ≡ true
    of true e later found = let same : b.bound ≡ bound = cc in subst (λ x. is_bound x ≡ true) same outer.0
    of false e later found = later found

-- a number in a table is at least one
pub one_at_least : (bounds : List PairBound) (p : Pair) (n : ℕ) → are_bounds bounds ≡ true → bound_in bounds p ≡ Some (Some n) → 1 ≤ n
one_at_least bounds p n h is = leb-true 1 n (and_parts (nat_le 1 n) (nat_le n cap) (bound_there bounds p (Some n) h is)).0

pub never_empty : (bytes : List ℕ) → 1 ≤ length bytes → is_witness (Some bytes) ≡ false → ⊥
never_empty [] some h = omega arith
never_empty (byte ∷ bytes) some h = cc

module _ (enum_view : EnumView) (old new : Shape) (law : IsEnumView enum_view) (shape_old : IsShape old) (shape_new : IsShape new) (least : ExactIsLeast) (none : NoneIsCompatible) (view : ViewName) (root : Pair) (bounds : List PairBound) (table : IsTableOf enum_view old new root bounds) where
  covers : Covers enum_view old new (bound_in bounds) root
  covers = record {
    root_there = first_there bounds root (filter (λ q. not (same_pair root q)) (distinct (flat_map (children old new) (pairs_of bounds)))) table.reached.in_order;
    each = λ pair bound is. (table.exact pair bound is).covered;
  }

  says : (pair : Pair) (bound : Option ℕ) → bound_in bounds pair ≡ Some bound → BoundSays enum_view old new pair bound
  says pair (Some n) is = least enum_view old new (bound_in bounds) law shape_old shape_new table.exact pair n is
  says pair None is = none enum_view old new (bound_in bounds) root law shape_old shape_new covers pair is

  abbrev pub claim : Option (List ℕ) → Claim
  claim witness = record { view = view; root = root; bounds = bounds; witness = witness }

  searched : (witness : Option (List ℕ)) → IsWitnessedIfThere enum_view old new root (bound_in bounds root) witness → is_some witness ≡ is_some (number_for (bound_in bounds) root) → IsSearched enum_view old new root (claim witness)
  searched witness witnessed where_it_breaks = record {
    root_is = refl;
    holds = record { covers = covers; witnessed = witnessed };
    witness_where_it_breaks = where_it_breaks;
    reached = table.reached;
    exact = table.exact;
    says = says;
  }

  pub searched_none : is_some (number_for (bound_in bounds) root) ≡ false → IsSearched enum_view old new root (claim None)
  searched_none no_number = searched None tt (sym no_number)

  -- with a message of as many bytes as the root's bound says
  module _ (kept : Kept) (type_is : type_of kept ≡ root.old) (n : ℕ) (number : bound_in bounds root ≡ Some (Some n)) (reached : ReachedBy enum_view old new root (message_of kept) n) (bytes : List ℕ) (written : bytes ≡ enc old (type_of kept) (message_of kept)) where
    of_root : bytes ≡ enc old root.old (message_of kept)
    of_root = written ∙ ap (λ t. enc old t (message_of kept)) type_is

    pub bytes_length : length bytes ≡ n
    bytes_length = ap length of_root ∙ reached.1

    pub searched_some : IsSearched enum_view old new root (claim (Some bytes))
    searched_some =
        searched (Some bytes)
        (record {
          message = message_of kept;
          breaks = reached.0;
          written = sym of_root;
          length_is = number ∙ ap (λ x. Some (Some x)) (sym bytes_length);
        })
        (rw number refl)

    pub carried_some : IsCarriedFrom enum_view old new (bound_in bounds) root (message_of kept) → CarriesWitness enum_view old new (claim (Some bytes))
    carried_some along path is = ap (option_map (enc old root.old)) (along path is) ∙ ap Some (sym of_root)
