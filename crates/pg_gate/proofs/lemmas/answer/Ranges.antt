-- The pairs that a root pair leads to are pairs of the schemas' types.
use Rattle.std.proofs.Common.{◌≡◌, ◌<◌, List, [], ◌∷◌, map, length, true, refl, subst, ltb-true, lt-ltb, nat_lt}
use Rattle.std.specs.List.{AllByRecursion}
use Rattle.std.proofs.lemmas.Bool.{and_parts}
use Rattle.std.proofs.lemmas.List.{length-map}
use Rattle.pg_schema.specs.declared.parts.message_type.MessageType.{MessageType}
use Rattle.pg_schema.specs.declared.parts.Parts.{Parts}
use Rattle.pg_schema.specs.Parts.{field_shape, shape_of}
use Rattle.pg_schema.specs.ShapeRules.{IsShape}
use Rattle.pg_dyn.proofs.Lists.{each_weaker}
use Rattle.pg_pairs.specs.declared.choices.choice.Pair.{Pair}
use Rattle.pg_pairs.specs.bounds.Covering.{children}
use Rattle.pg_pairs.specs.graph.Edges.{is_pair}
use Rattle.pg_pairs.specs.views.EnumView.{EnumView}
use Rattle.pg_pairs.specs.graph.Reached.{LeadsTo}
use Rattle.pg_pairs.proofs.PublicLaws.{pairs_lead_to_pairs}
use Rattle.pg_cert.specs.declared.bounds.PairBound.{PairBound}
use Rattle.pg_cert.specs.Certificate.{Claim}
use Rattle.pg_cert.specs.Text.{IsClaimOf, IsPairOf}
use Rattle.pg_least.specs.Searched.{IsSearched}

pub each_unmapped : {A B : Type 0} (P : B → Type 0) (f : A → B) (xs : List A) → AllByRecursion P (map f xs) → AllByRecursion (λ x. P (f x)) xs
each_unmapped P f [] all = tt
each_unmapped P f (x ∷ xs) all = (all.0, each_unmapped P f xs all.1)

module _ (old new : Parts) where
  pub as_types : (pair : Pair) → is_pair (shape_of old) (shape_of new) pair ≡ true → IsPairOf old new pair
  as_types pair known =
      let both = and_parts (nat_lt pair.old.index (length (shape_of old))) (nat_lt pair.new.index (length (shape_of new))) known in (
        subst (λ n. pair.old.index < n) (length-map old.types.items (λ (t : MessageType). map field_shape t.fields.items)) (ltb-true pair.old.index (length (shape_of old)) both.0),
        subst (λ n. pair.new.index < n) (length-map new.types.items (λ (t : MessageType). map field_shape t.fields.items)) (ltb-true pair.new.index (length (shape_of new)) both.1),
      )

-- the pairs of a certificate that a search answers are pairs of the schemas' types, if the root is one
pub searched_there : (enum_view : EnumView) (old new : Parts) (claim : Claim) → IsShape (shape_of old) → IsShape (shape_of new)
    → claim.root.old.index < length (shape_of old) → claim.root.new.index < length (shape_of new)
    → IsSearched enum_view (shape_of old) (shape_of new) claim.root claim → IsClaimOf old new claim
searched_there enum_view old new claim is_old is_new old_there new_there searched =
    let known : is_pair (shape_of old) (shape_of new) claim.root ≡ true =
    rw (lt-ltb claim.root.old.index (length (shape_of old)) old_there, lt-ltb claim.root.new.index (length (shape_of new)) new_there) refl in
    record {
      root = as_types old new claim.root known;
      bounds = each_weaker (λ (b : PairBound). LeadsTo (children (shape_of old) (shape_of new)) claim.root b.pair) (λ (b : PairBound). IsPairOf old new b.pair)
          (λ b leads. as_types old new b.pair (pairs_lead_to_pairs (shape_of old) (shape_of new) is_old is_new claim.root b.pair known leads)) claim.bounds
          (each_unmapped (LeadsTo (children (shape_of old) (shape_of new)) claim.root) (λ (b : PairBound). b.pair) claim.bounds searched.reached.led_to);
    }
