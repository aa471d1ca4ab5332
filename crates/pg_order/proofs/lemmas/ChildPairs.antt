-- The children of one field, as they are encoded and as they are written.
use Rattle.std.proofs.Common.{◌≡◌, ℕ, ◌≤◌, List, [], ◌∷◌, ◌++◌, map, length, Bool, true, false, cond, nat_eq, Option, Some, refl, ap, ap₂, sym, subst, ◌∙◌, arith, length-append}
use Rattle.std.specs.Bool.{⊤}
use Rattle.std.specs.List.{AllByRecursion}
use Rattle.std.proofs.lemmas.Bool.{eqb-true, false_from_ne_true}
use Rattle.pg_schema.specs.declared.parts.field.TypeId.{TypeId}
use Rattle.pg_schema.specs.declared.parts.field.Element.{Element}
use Rattle.pg_schema.specs.declared.parts.field.Element.TheVariants as elements
use Rattle.pg_schema.specs.declared.parts.field.Presence.{Presence}
use Rattle.pg_schema.specs.Shape.{Shape, FieldShape, fields, field_at}
use Rattle.pg_schema.specs.ShapeRules.{IsShape}
use Rattle.pg_dyn.specs.message.Message.{Leaf, Bytes, Message, ends, holds, nests, IsPlain, Part, unknown_of}
use Rattle.pg_dyn.specs.encoding.Writing.{bytes_of, records_in}
use Rattle.pg_dyn.specs.encoding.Encoding.{cap, child_type, encoded_parts, enc}
use Rattle.pg_dyn.specs.reading.Decoding.{dec}
use Rattle.pg_dyn.specs.fitting.Belonging.{IsMessage, KeyFits, LeafFits}
use Rattle.pg_dyn.specs.laws.ByComparands.{comparands_at, is_field_kept}
use Rattle.pg_dyn.specs.views.Comparison.{View, Alike, Comparand, Expected, Kept, comparands, expected, expects, same_message, unshared_bytes, writes}
use Rattle.pg_dyn.proofs.lemmas.fitting.Belonging.{child_type_is}
use Rattle.pg_dyn.proofs.lemmas.reading.Fields.{field_of}
use Rattle.pg_order.specs.MayWrite.{MayBeParts, MayWrite}
use Rattle.pg_order.specs.Sees.{IsSeen, seen_parts, sees}
use Rattle.pg_order.proofs.lemmas.FieldSeen.{IsAgain, Pair, new_of, old_of}
use Rattle.pg_order.proofs.lemmas.Growth.{part_more}
use Rattle.pg_order.proofs.lemmas.Embedded.{KeptTo, as_pair, child_kept, kept_field}

-- what is written and what is expected of each part
abbrev pub rewritten : List (Part Leaf) → List (Part Expected) → List Comparand
rewritten [] es = []
rewritten (p ∷ ps) [] = []
rewritten (p ∷ ps) (e ∷ es) = record { number = p.number; key = p.key; written = p.item; expected = e.item } ∷ rewritten ps es

no_leaf : (n : ℕ) (p : Presence) (e : Element) (o : Option ℕ) (leaf : Leaf) (t : TypeId) → e ≡ elements.Message t → LeafFits (field_of n p e o) leaf → ⊥
no_leaf n p (elements.Message u) o leaf t is h = h
no_leaf n p (elements.Scalar s) o leaf t is h = cc
no_leaf n p (elements.Enum s) o leaf t is h = cc

-- a later part's message is no longer
later_shorter : (shape : Shape) (a : TypeId) (p : Part Leaf) (ps : List (Part Leaf)) (later : Message) (whole bound : ℕ) → length (bytes_of (records_in (fields shape a) (p ∷ ps)) ++ bytes_of (unknown_of later)) ≤ bound → length (bytes_of (records_in (fields shape a) ps) ++ bytes_of (unknown_of later)) ≤ bound
later_shorter shape a p ps later whole bound w =
    omega (arith, part_more (fields shape a) p ps, length-append (bytes_of (records_in (fields shape a) ps)) (bytes_of (unknown_of later)), length-append (bytes_of (records_in (fields shape a) (p ∷ ps))) (bytes_of (unknown_of later)))

module _ (view : View) (old new : Shape) (is_old : IsShape old) (is_new : IsShape new) where
  -- each child is seen in what was written of it, where the new type keeps all children that are no longer
  abbrev pub PartsSeen : (a : TypeId) (v : Message) (ps : List (Part Leaf)) → MayBeParts old a v ps → Type 0
  PartsSeen a (ends unknown) ps is = ⊤
  PartsSeen a (holds number key leaf later) ps (qs, is, rest) = PartsSeen a later qs rest
  PartsSeen a (nests number key c later) ps (qs, bytes, is, written, rest) =
      ((u : TypeId) → KeptTo view old new is_old is_new (length (enc old (child_type (fields old a) number) c)) (child_type (fields old a) number) u → IsSeen view old new (child_type (fields old a) number) u c bytes written)
      × PartsSeen a later qs rest

  module _ (a b : TypeId) where
    abbrev seen_in : (v : Message) (ps : List (Part Leaf)) → MayBeParts old a v ps → List (Part Expected)
    seen_in v ps is = seen_parts view old new a b v ps is

    abbrev inside : (number : ℕ) (c : Message) (bytes : List ℕ) → MayWrite old (child_type (fields old a) number) c bytes → Message → Bool
    inside number c bytes written =
        sees view (fields old (child_type (fields old a) number)) (fields new (child_type (fields new b) number))
        (seen_parts view old new (child_type (fields old a) number) (child_type (fields new b) number) c written.parts written.are_parts) bytes

    abbrev alike_part : ℕ → Option Leaf → Leaf → Part Expected
    alike_part number key leaf = record { number = number; key = key; item = Alike leaf }

    abbrev kept_part : ℕ → Option Leaf → (Message → Bool) → Part Expected
    kept_part number key test = record { number = number; key = key; item = Kept test }

    abbrev leaf_part : ℕ → Option Leaf → Leaf → Part Leaf
    leaf_part number key leaf = record { number = number; key = key; item = leaf }

    pub writes_back : (v : Message) (ps : List (Part Leaf)) (is : MayBeParts old a v ps) → map writes (rewritten ps (seen_parts view old new a b v ps is)) ≡ ps
    writes_back (ends unknown) ps h = subst (λ xs. map writes (rewritten xs []) ≡ xs) (sym h) refl
    writes_back (holds number key leaf later) ps (qs, is, rest) =
        subst (λ xs. map writes (rewritten xs (alike_part number key leaf ∷ seen_in later qs rest)) ≡ xs) (sym is) (ap (λ (xs : List (Part Leaf)). leaf_part number key leaf ∷ xs) (writes_back later qs rest))
    writes_back (nests number key c later) ps (qs, bytes, is, written, rest) =
        subst (λ xs. map writes (rewritten xs (kept_part number key (inside number c bytes written) ∷ seen_in later qs rest)) ≡ xs) (sym is) (ap (λ (xs : List (Part Leaf)). leaf_part number key (Bytes bytes) ∷ xs) (writes_back later qs rest))

    pub expects_back : (v : Message) (ps : List (Part Leaf)) (is : MayBeParts old a v ps) → map expects (rewritten ps (seen_parts view old new a b v ps is)) ≡ seen_parts view old new a b v ps is
    expects_back (ends unknown) ps h = subst (λ xs. map expects (rewritten xs []) ≡ []) (sym h) refl
    expects_back (holds number key leaf later) ps (qs, is, rest) =
        let es = alike_part number key leaf ∷ seen_in later qs rest in
        subst (λ xs. map expects (rewritten xs es) ≡ es) (sym is) (ap (λ (xs : List (Part Expected)). alike_part number key leaf ∷ xs) (expects_back later qs rest))
    expects_back (nests number key c later) ps (qs, bytes, is, written, rest) =
        let es = kept_part number key (inside number c bytes written) ∷ seen_in later qs rest in
        subst (λ xs. map expects (rewritten xs es) ≡ es) (sym is) (ap (λ (xs : List (Part Expected)). kept_part number key (inside number c bytes written) ∷ xs) (expects_back later qs rest))

    cond_none : (t : Bool) (x y : Comparand) (xs ys : List Comparand) → (xs ≡ [] → ys ≡ []) → cond t (x ∷ xs) xs ≡ [] → cond t (y ∷ ys) ys ≡ []
    cond_none true x y xs ys later h = absurd (let clash : ◌≡◌ {A = List Comparand} [] (x ∷ xs) = sym h in cc)
    cond_none false x y xs ys later h = later h

    -- a number without comparands has none of what is written either
    pub none_again : (n : ℕ) (v : Message) (ps : List (Part Leaf)) (is : MayBeParts old a v ps) → comparands_at n (comparands view old new a b v) ≡ [] → comparands_at n (rewritten ps (seen_parts view old new a b v ps is)) ≡ []
    none_again n (ends unknown) ps h none = subst (λ xs. comparands_at n (rewritten xs []) ≡ []) (sym h) refl
    none_again n (holds number key leaf later) ps (qs, is, rest) none =
        let es = alike_part number key leaf ∷ seen_in later qs rest in
        subst (λ xs. comparands_at n (rewritten xs es) ≡ []) (sym is) (cond_none (nat_eq number n) _ _ _ _ (none_again n later qs rest) none)
    none_again n (nests number key c later) ps (qs, bytes, is, written, rest) none =
        let es = kept_part number key (inside number c bytes written) ∷ seen_in later qs rest in
        subst (λ xs. comparands_at n (rewritten xs es) ≡ []) (sym is) (cond_none (nat_eq number n) _ _ _ _ (none_again n later qs rest) none)

    pub record ChildPair (f g : FieldShape) (z : Pair) : Type 0 where
      pub single : is_field_kept view (dec new) f g (old_of f.number z ∷ []) ≡ true
      pub seen : (u : TypeId) → g.element ≡ elements.Message u → IsAgain (dec new) u z
      pub key_fits : KeyFits f.presence z.key

    pub record FieldPairs (f g : FieldShape) (cs ds : List Comparand) : Type 0 where
      pub pairs : List Pair
      pub olds : comparands_at f.number cs ≡ map (old_of f.number) pairs
      pub news : comparands_at f.number ds ≡ map (new_of f.number) pairs
      pub each : AllByRecursion (ChildPair f g) pairs

    module _ (f g : FieldShape) (found : field_at (fields old a) f.number ≡ Some f) (at_g : field_at (fields new b) f.number ≡ Some g) where
      same_field : (number : ℕ) (x : FieldShape) → field_at (fields old a) number ≡ Some x → number ≡ f.number → x ≡ f
      same_field number x at same =
          let k : ◌≡◌ {A = Option FieldShape} (Some x) (Some f) = sym at ∙ ap (field_at (fields old a)) same ∙ found in
          cc

      -- of a field that holds no messages all is as it was
      pub same_leaves : ((t : TypeId) → f.element ≡ elements.Message t → ⊥) → (v : Message) → IsMessage old a v → (ps : List (Part Leaf)) (is : MayBeParts old a v ps) → comparands_at f.number (comparands view old new a b v) ≡ comparands_at f.number (rewritten ps (seen_parts view old new a b v ps is))
      same_leaves none (ends unknown) h ps is = subst (λ xs. [] ≡ comparands_at f.number (rewritten xs [])) (sym is) refl
      same_leaves none (holds number key leaf later) h ps (qs, is, rest) =
          let es = alike_part number key leaf ∷ seen_in later qs rest in
          subst (λ xs. comparands_at f.number (comparands view old new a b (holds number key leaf later)) ≡ comparands_at f.number (rewritten xs es)) (sym is)
          (ap (λ (xs : List Comparand). cond (nat_eq number f.number) (record { number = number; key = key; written = leaf; expected = Alike leaf } ∷ xs) xs) (same_leaves none later h.2 qs rest))
      same_leaves none (nests number key c later) h ps (qs, bytes, is, written, rest) =
          let es = kept_part number key (inside number c bytes written) ∷ seen_in later qs rest in
          subst (λ xs. comparands_at f.number (comparands view old new a b (nests number key c later)) ≡ comparands_at f.number (rewritten xs es)) (sym is)
          (other (nat_eq number f.number) refl _ _ _ _ (same_leaves none later h.4 qs rest))
        where
          other : (t : Bool) → nat_eq number f.number ≡ t → (x y : Comparand) (xs ys : List Comparand) → xs ≡ ys → cond t (x ∷ xs) xs ≡ cond t (y ∷ ys) ys
          other true e x y xs ys same = absurd (none h.1 (sym (ap (λ (k : FieldShape). k.element) (same_field number h.0.field h.0.found (eqb-true number f.number e))) ∙ h.2))
          other false e x y xs ys same = same

      module _ (t : TypeId) (is_t : f.element ≡ elements.Message t) (bound : ℕ) (kept : KeptTo view old new is_old is_new bound a b) (small : bound ≤ cap) where
        left_out : (number : ℕ) → nat_eq number f.number ≡ false → (x y : Comparand) (cs ds : List Comparand) → FieldPairs f g cs ds → x.number ≡ number → y.number ≡ number → FieldPairs f g (x ∷ cs) (y ∷ ds)
        left_out number e x y cs ds r at_x at_y = record {
          pairs = r.pairs;
          olds = ap (λ b. cond b (x ∷ comparands_at f.number cs) (comparands_at f.number cs)) (ap (λ m. nat_eq m f.number) at_x ∙ e) ∙ r.olds;
          news = ap (λ b. cond b (y ∷ comparands_at f.number ds) (comparands_at f.number ds)) (ap (λ m. nat_eq m f.number) at_y ∙ e) ∙ r.news;
          each = r.each;
        }

        put_in : (number : ℕ) → nat_eq number f.number ≡ true → (z : Pair) (cs ds : List Comparand) → ChildPair f g z → FieldPairs f g cs ds → FieldPairs f g (old_of number z ∷ cs) (new_of number z ∷ ds)
        put_in number e z cs ds good r =
            let at = eqb-true number f.number e in
            record {
              pairs = z ∷ r.pairs;
              olds = ap (λ b. cond b (old_of number z ∷ comparands_at f.number cs) (comparands_at f.number cs)) e ∙ ap₂ (λ (x : Comparand) (xs : List Comparand). x ∷ xs) (ap (λ m. old_of m z) at) r.olds;
              news = ap (λ b. cond b (new_of number z ∷ comparands_at f.number ds) (comparands_at f.number ds)) e ∙ ap₂ (λ (x : Comparand) (xs : List Comparand). x ∷ xs) (ap (λ m. new_of m z) at) r.news;
              each = (good, r.each);
            }

        module _ (number : ℕ) (key : Option Leaf) (c later : Message) (h : IsMessage old a (nests number key c later)) (plain : IsPlain c) (within : length (enc old a (nests number key c later)) ≤ bound) (bytes : List ℕ) (written : MayWrite old (child_type (fields old a) number) c bytes) (at : number ≡ f.number)
            (seen : (u : TypeId) → KeptTo view old new is_old is_new (length (enc old (child_type (fields old a) number) c)) (child_type (fields old a) number) u → IsSeen view old new (child_type (fields old a) number) u c bytes written) where
          abbrev of_old : TypeId
          of_old = child_type (fields old a) number

          abbrev of_new : TypeId
          of_new = child_type (fields new b) number

          abbrev pub the_pair : Pair
          the_pair = record {
            key = key;
            before = enc old of_old c;
            after = bytes;
            test = same_message view (fields old of_old) (fields new of_new) (expected view old new of_old of_new c) (unshared_bytes old of_old (fields new of_new) c);
            again = sees view (fields old of_old) (fields new of_new) (seen_parts view old new of_old of_new c written.parts written.are_parts) bytes;
          }

          kept_here : KeptTo view old new is_old is_new (length (enc old a (nests number key c later))) a b
          kept_here x is plain_x shorter = kept x is plain_x (omega arith)

          small_here : length (enc old a (nests number key c later)) ≤ cap
          small_here = omega arith

          new_found : field_at (fields new b) number ≡ Some g
          new_found = ap (field_at (fields new b)) at ∙ at_g

          is_child : IsMessage old of_old c
          is_child = subst (λ x. IsMessage old x c) (sym (child_type_is (fields old a) number h.0.field h.1 h.0.found h.2)) h.3

          same_f : h.0.field ≡ f
          same_f = same_field number h.0.field h.0.found at

          single_kept : is_field_kept view (dec new) h.0.field g (old_of h.0.field.number the_pair ∷ []) ≡ true
          unfolding as_pair
          single_kept = kept_field view old new is_old is_new a b number key c later h g new_found kept_here small_here c is_child plain (omega arith)

          pub pair_good : ChildPair f g the_pair
          pair_good = record {
            single = subst (λ (x : FieldShape). is_field_kept view (dec new) x g (old_of x.number the_pair ∷ []) ≡ true) same_f single_kept;
            seen = λ u is_u.
                let s = seen u (child_kept view old new is_old is_new a b number key c later h g new_found u is_u kept_here small_here) in
                record {
                  message = s.message;
                  is_read = s.is_read;
                  passes = subst (λ x. sees view (fields old of_old) (fields new x) (seen_parts view old new of_old x c written.parts written.are_parts) bytes s.message ≡ true) (sym (child_type_is (fields new b) number g u new_found is_u)) s.is_seen;
                };
            key_fits = subst (λ (x : FieldShape). KeyFits x.presence key) same_f h.0.key_fits;
          }

        pub field_pairs : (v : Message) → IsMessage old a v → IsPlain v → length (enc old a v) ≤ bound → (ps : List (Part Leaf)) (is : MayBeParts old a v ps) → PartsSeen a v ps is → FieldPairs f g (comparands view old new a b v) (rewritten ps (seen_parts view old new a b v ps is))
        unfolding enc
        field_pairs (ends unknown) h plain within ps is seen = subst (λ xs. FieldPairs f g [] (rewritten xs [])) (sym is) (record { pairs = []; olds = refl; news = refl; each = tt })
        field_pairs (holds number key leaf later) h plain within ps (qs, is, rest) seen =
            let again = field_pairs later h.2 plain (later_shorter old a (leaf_part number key leaf) (encoded_parts old a later) later 0 bound within) qs rest seen in
            let es = alike_part number key leaf ∷ seen_in later qs rest in
            subst (λ xs. FieldPairs f g (comparands view old new a b (holds number key leaf later)) (rewritten xs es)) (sym is)
            (left_out number (false_from_ne_true (nat_eq number f.number) (λ e. no_leaf h.0.field.number h.0.field.presence h.0.field.element h.0.field.oneof leaf t (ap (λ (k : FieldShape). k.element) (same_field number h.0.field h.0.found (eqb-true number f.number e)) ∙ is_t) h.1)) _ _ (comparands view old new a b later) (rewritten qs (seen_in later qs rest)) again refl refl)
        field_pairs (nests number key c later) h plain within ps (qs, bytes, is, written, rest) seen =
            let again = field_pairs later h.4 plain.1 (later_shorter old a (leaf_part number key (Bytes (enc old (child_type (fields old a) number) c))) (encoded_parts old a later) later 0 bound within) qs rest seen.1 in
            let es = kept_part number key (inside number c bytes written) ∷ seen_in later qs rest in
            subst (λ xs. FieldPairs f g (comparands view old new a b (nests number key c later)) (rewritten xs es)) (sym is)
            (elim (nat_eq number f.number) as (λ x. nat_eq number f.number ≡ x → FieldPairs f g (comparands view old new a b (nests number key c later)) (rewritten (leaf_part number key (Bytes bytes) ∷ qs) es)) [
              | true ↦ λ e.
                  put_in number e (the_pair number key c later h plain.0 within bytes written (eqb-true number f.number e) seen.0) (comparands view old new a b later) (rewritten qs (seen_in later qs rest))
                  (pair_good number key c later h plain.0 within bytes written (eqb-true number f.number e) seen.0) again
              | false ↦ λ e. left_out number e _ _ (comparands view old new a b later) (rewritten qs (seen_in later qs rest)) again refl refl
            ] refl)
