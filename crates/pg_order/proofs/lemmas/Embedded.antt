-- Where all messages of a type that are no longer than one are kept, so are all children of a field that are no longer than its child.
use Rattle.std.proofs.Common.{◌≡◌, ℕ, ◌^◌, ◌<◌, ◌≤◌, [], ◌∷◌, filter, length, true, cond, Option, Some, ap, sym, subst, ◌∙◌, arith, eq-eqb, length-append}
use Rattle.pg_schema.specs.declared.parts.field.TypeId.{TypeId}
use Rattle.pg_schema.specs.declared.parts.field.Scalar.{Scalar}
use Rattle.pg_schema.specs.declared.parts.field.Element.{Element}
use Rattle.pg_schema.specs.declared.parts.field.Element.TheVariants as elements
use Rattle.pg_schema.specs.declared.parts.field.Presence.TheVariants as presences
use Rattle.pg_schema.specs.Shape.{Shape, FieldShape, fields, field_at}
use Rattle.pg_schema.specs.ShapeRules.{IsField, IsShape, PresenceFits}
use Rattle.pg_wire.specs.Records.{written}
use Rattle.pg_dyn.specs.message.Message.{Leaf, Bytes, Message, ends, nests, IsPlain, is_of, unknown_of}
use Rattle.pg_dyn.specs.encoding.Writing.{bytes_of, entry_bytes, field_records, records_in}
use Rattle.pg_dyn.specs.encoding.Encoding.{cap, child_type, encoded_parts, enc}
use Rattle.pg_dyn.specs.reading.Decoding.{dec}
use Rattle.pg_dyn.specs.fitting.Belonging.{IsMessage}
use Rattle.pg_dyn.specs.laws.ByComparands.{EachFieldKept, comparands_at, is_field_kept}
use Rattle.pg_dyn.specs.laws.OwnParts.{ShortBodies}
use Rattle.pg_dyn.specs.views.Comparison.{View, comparands, expected, same, same_message, unshared_bytes}
use Rattle.pg_dyn.specs.views.Breaking.{is_kept}
use Rattle.pg_dyn.proofs.Lists.{each_at}
use Rattle.pg_dyn.proofs.lemmas.fitting.Belonging.{child_type_is, fields-IsType, is_flat}
use Rattle.pg_dyn.proofs.lemmas.laws.Flat.{own_short}
use Rattle.pg_dyn.proofs.lemmas.reading.Fields.{field_of}
use Rattle.pg_dyn.proofs.lemmas.reading.records.Splitting.{found_number}
use Rattle.pg_dyn.proofs.lemmas.views.ByComparands.{comparands_kept}
use Rattle.pg_order.proofs.lemmas.FieldSeen.{Pair, key_or, old_of}
use Rattle.pg_order.proofs.lemmas.Growth.{one_shorter}
use Rattle.pg_order.proofs.lemmas.Meets.{none_meet}
use Rattle.pg_order.proofs.lemmas.SingleChild.{IsReadSo, single_says}

-- the first body of a map's records
first_short : (n : ℕ) (k : Scalar) (e : Element) (o : Option ℕ) (z : Pair) → ShortBodies (field_records (field_of n (presences.Map k) e o) (record { number = n; key = z.key; item = Bytes z.before } ∷ [])) → length (entry_bytes k e (key_or k z) (Bytes z.before)) < 2 ^ 64
unfolding written
first_short n k e o z h = h.0

module _ (view : View) (old new : Shape) (is_old : IsShape old) (is_new : IsShape new) where
  abbrev pub KeptTo : ℕ → TypeId → TypeId → Type 0
  KeptTo n a b = (x : Message) → IsMessage old a x → IsPlain x → length (enc old a x) ≤ n → is_kept view old new a b x ≡ true

  module _ (a b : TypeId) (number : ℕ) (key : Option Leaf) (c later : Message) (h : IsMessage old a (nests number key c later)) where
    abbrev of_old : TypeId
    of_old = child_type (fields old a) number

    abbrev of_new : TypeId
    of_new = child_type (fields new b) number

    abbrev f : FieldShape
    f = h.0.field

    number_is : f.number ≡ number
    number_is = found_number (fields old a) number f h.0.found

    type_is : of_old ≡ h.1
    type_is = child_type_is (fields old a) number f h.1 h.0.found h.2

    -- a child alone in the field
    unfoldable pub alone : Message → Message
    alone x = nests number key x (ends [])

    alone_is : (x : Message) → IsMessage old of_old x → IsMessage old a (alone x)
    unfolding alone
    alone_is x is = (record { field = h.0.field; found = h.0.found; key_fits = h.0.key_fits; before = tt; alone = tt }, h.1, h.2, subst (λ t. IsMessage old t x) type_is is, tt)

    alone_short : (x : Message) → length (enc old of_old x) ≤ length (enc old of_old c) → length (enc old a (alone x)) ≤ length (enc old a (nests number key c later))
    unfolding alone enc
    alone_short x shorter =
        omega (
          arith,
          one_shorter number key (enc old of_old x) (enc old of_old c) shorter (fields old a) (encoded_parts old a later),
          length-append (bytes_of (records_in (fields old a) (record { number = number; key = key; item = Bytes (enc old of_old x) } ∷ []))) [],
          length-append (bytes_of (records_in (fields old a) (record { number = number; key = key; item = Bytes (enc old of_old c) } ∷ encoded_parts old a later))) (bytes_of (unknown_of later)),
        )

    module _ (g : FieldShape) (at_g : field_at (fields new b) number ≡ Some g) (kept : KeptTo (length (enc old a (nests number key c later))) a b) (small : length (enc old a (nests number key c later)) ≤ cap) (x : Message) (is : IsMessage old of_old x) (plain : IsPlain x) (shorter : length (enc old of_old x) ≤ length (enc old of_old c)) where
      -- the child as it is encoded, with what the new type has to show of it
      unfoldable pub as_pair : Pair
      as_pair = record {
        key = key;
        before = enc old of_old x;
        after = enc old of_old x;
        test = same_message view (fields old of_old) (fields new of_new) (expected view old new of_old of_new x) (unshared_bytes old of_old (fields new of_new) x);
        again = same_message view (fields old of_old) (fields new of_new) (expected view old new of_old of_new x) (unshared_bytes old of_old (fields new of_new) x);
      }

      kept_alone : is_kept view old new a b (alone x) ≡ true
      unfolding alone
      kept_alone = kept (alone x) (alone_is x is) (plain, tt) (alone_short x shorter)

      short : length (enc old a (alone x)) < 2 ^ 64
      short = omega (arith, alone_short x shorter, small)

      each : EachFieldKept view (dec new) (fields old a) (fields new b) (comparands view old new a b (alone x))
      unfolding alone
      each =
          comparands_kept view old new a b (alone x) is_old is_new (alone_is x is) (plain, tt) short
          (none_meet view old new a b (alone x) is_old is_new (alone_is x is) (plain, tt) short kept_alone) kept_alone

      one : comparands_at f.number (comparands view old new a b (alone x)) ≡ old_of f.number as_pair ∷ []
      unfolding alone as_pair enc
      one =
          ap (λ t. cond t (old_of number as_pair ∷ []) []) (eq-eqb number f.number (sym number_is))
          ∙ ap (λ m. old_of m as_pair ∷ []) (sym number_is)

      pub kept_field : is_field_kept view (dec new) f g (old_of f.number as_pair ∷ []) ≡ true
      kept_field = subst (λ cs. is_field_kept view (dec new) f g cs ≡ true) one (each f g (ap (field_at (fields old a)) number_is ∙ h.0.found) (ap (field_at (fields new b)) number_is ∙ at_g))

      same_number : g.number ≡ f.number
      same_number = found_number (fields new b) number g at_g ∙ sym number_is

      old_fits : PresenceFits f.presence (elements.Message h.1) f.oneof
      old_fits = subst (λ e. PresenceFits f.presence e f.oneof) h.2 (each_at (IsField (length old)) (fields old a) number f h.0.found (fields-IsType old a is_old).each).presence_fits

      own_bodies : ShortBodies (field_records f (filter (is_of f.number) (encoded_parts old a (alone x))))
      own_bodies =
          each_at (λ e. ShortBodies (field_records e (filter (is_of e.number) (encoded_parts old a (alone x))))) (fields old a) number f h.0.found
          (own_short (length old) (fields old a) (encoded_parts old a (alone x)) (unknown_of (alone x)) (is_flat old a (fields-IsType old a is_old) (alone x) (alone_is x is) short))

      entry_short : (k : Scalar) → f.presence ≡ presences.Map k → length (entry_bytes k (elements.Message h.1) (key_or k as_pair) (Bytes as_pair.before)) < 2 ^ 64
      unfolding alone as_pair enc
      entry_short k is_map =
          first_short f.number k (elements.Message h.1) f.oneof as_pair
          (subst (λ e. ShortBodies (field_records (field_of f.number (presences.Map k) e f.oneof) (record { number = f.number; key = key; item = Bytes (enc old of_old x) } ∷ []))) h.2
          (subst (λ p. ShortBodies (field_records (field_of f.number p f.element f.oneof) (record { number = f.number; key = key; item = Bytes (enc old of_old x) } ∷ []))) is_map
          (subst (λ m. ShortBodies (field_records f (record { number = m; key = key; item = Bytes (enc old of_old x) } ∷ []))) (sym number_is)
          (subst (λ t. ShortBodies (field_records f (cond t (record { number = number; key = key; item = Bytes (enc old of_old x) } ∷ []) []))) (eq-eqb number f.number (sym number_is)) own_bodies))))

      module _ (u : TypeId) (is_u : g.element ≡ elements.Message u) where
        kept_so : is_field_kept view (dec new) (field_of f.number f.presence (elements.Message h.1) f.oneof) (field_of f.number g.presence (elements.Message u) g.oneof) (old_of f.number as_pair ∷ []) ≡ true
        kept_so =
            subst (λ e. is_field_kept view (dec new) (field_of f.number f.presence e f.oneof) (field_of f.number g.presence (elements.Message u) g.oneof) (old_of f.number as_pair ∷ []) ≡ true) h.2
            (subst (λ e. is_field_kept view (dec new) f (field_of f.number g.presence e g.oneof) (old_of f.number as_pair ∷ []) ≡ true) is_u
            (subst (λ m. is_field_kept view (dec new) f (field_of m g.presence g.element g.oneof) (old_of f.number as_pair ∷ []) ≡ true) same_number kept_field))

        new_fits : PresenceFits g.presence (elements.Message u) g.oneof
        new_fits = subst (λ e. PresenceFits g.presence e g.oneof) is_u (each_at (IsField (length new)) (fields new b) number g at_g (fields-IsType new b is_new).each).presence_fits

        says : IsReadSo (dec new) u as_pair
        unfolding as_pair
        says = single_says view (dec new) f.number h.1 u f.oneof g.oneof as_pair f.presence g.presence old_fits new_fits h.0.key_fits entry_short kept_so

        pub child_is_kept : is_kept view old new of_old u x ≡ true
        unfolding as_pair is_kept same
        child_is_kept =
            let new_type = child_type_is (fields new b) number g u at_g is_u in
            let read = says.is_read in
            rw read (subst (λ t. same_message view (fields old of_old) (fields new t) (expected view old new of_old t x) (unshared_bytes old of_old (fields new t) x) says.message ≡ true) new_type says.passes)

    -- All children that are no longer are kept.
    pub child_kept : (g : FieldShape) → field_at (fields new b) number ≡ Some g → (u : TypeId) → g.element ≡ elements.Message u → KeptTo (length (enc old a (nests number key c later))) a b → length (enc old a (nests number key c later)) ≤ cap → KeptTo (length (enc old of_old c)) of_old u
    child_kept g at_g u is_u kept small = λ x is plain shorter. child_is_kept g at_g kept small x is plain shorter u is_u
