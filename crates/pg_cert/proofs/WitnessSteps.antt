-- What the old writer writes is what is read again, so that there is one message of it.
use Rattle.std.proofs.Common.{◌≡◌, ◌<◌, ◌≤◌, ℕ, zero, suc, List, [], ◌∷◌, length, get_or, true, Option, Some, None, refl, ap, sym, ◌∙◌, subst, arith}
use Rattle.pg_schema.specs.Shape.{Shape, FieldShape, fields, field_at}
use Rattle.pg_schema.specs.ShapeRules.{IsShape}
use Rattle.pg_dyn.specs.fitting.Belonging.{IsMessage}
use Rattle.pg_dyn.specs.views.Breaking.{Breaks}
use Rattle.pg_dyn.specs.reading.Decoding.{dec}
use Rattle.pg_dyn.specs.encoding.Encoding.{cap, enc}
use Rattle.pg_dyn.specs.message.Kept.{Kept, message_of, type_of}
use Rattle.pg_dyn.specs.message.KeptParts as kept_parts
use Rattle.pg_dyn.specs.laws.Laws.{ReadsAgain}
use Rattle.pg_dyn.specs.message.Message.{Message, IsPlain, ends, holds, nests}
use Rattle.pg_pairs.specs.declared.choices.choice.Pair.{Pair}
use Rattle.pg_pairs.specs.views.EnumView.{EnumView}
use Rattle.pg_cert.specs.Certificate.{HasLength, IsWitnessed}
use Rattle.pg_cert.specs.Witness.{IsWritten, is_witness}
use Rattle.pg_cert.specs.inner.WitnessRead.{IsWriting}
use Rattle.pg_dyn.proofs.PublicLaws.{plain_is_kept}

past_end : (s : Shape) (i : ℕ) → (i < length s → ⊥) → get_or s i [] ≡ []
past_end [] i h = refl
past_end (fs ∷ s) zero h = absurd (h (omega arith))
past_end (fs ∷ s) (suc i) h = past_end s i (λ k. h (omega arith))

module _ (old : Shape) (root : Pair) (bytes : List ℕ) where
  -- a type that isn't there has the empty message alone
  none_written : fields old root.old ≡ [] → (v : Message) → IsMessage old root.old v → IsPlain v → enc old root.old v ≡ []
  unfolding enc
  none_written none (ends []) is plain = rw none refl
  none_written none (ends (r ∷ rs)) is plain = absurd plain
  none_written none (holds number key leaf later) is plain =
      let clash : None ≡ Some is.0.field = ap (λ (fs : List FieldShape). field_at fs number) (sym none) ∙ is.0.found in absurd (cc)
  none_written none (nests number key child later) is plain =
      let clash : None ≡ Some is.0.field = ap (λ (fs : List FieldShape). field_at fs number) (sym none) ∙ is.0.found in absurd (cc)

  pub no_type : (root.old.index < length old → ⊥) → is_witness (Some bytes) ≡ true → IsWritten old root bytes → ⊥
  no_type absent some is =
      let empty : bytes ≡ [] = sym is.written ∙ none_written (past_end old root.old.index absent) is.message is.is_message is.is_plain in
      let clash : is_witness (Some []) ≡ true = subst (λ xs. is_witness (Some xs) ≡ true) empty some in cc

  module _ (again : ReadsAgain) (is_shape : IsShape old) where
    -- the message that is written is the one that is read
    read_of : (is : IsWritten old root bytes) → dec old root.old bytes ≡ Some is.message
    read_of is = ap (dec old root.old) (sym is.written) ∙ again old root.old is.message is_shape is.is_message is.has_encoding

    message_is : (v : Message) (is : IsWritten old root bytes) → dec old root.old bytes ≡ Some v → is.message ≡ v
    message_is v is read = let both : ◌≡◌ {A = Option Message} (Some is.message) (Some v) = sym (read_of is) ∙ read in cc

    pub not_plain : (m : Kept) → dec old root.old bytes ≡ Some (message_of m) → (kept_parts.IsPlain m → ⊥) → IsWritten old root bytes → ⊥
    not_plain m read unplain is = unplain ((plain_is_kept m).1 (subst IsPlain (message_is (message_of m) is read) is.is_plain))

    pub not_read : dec old root.old bytes ≡ None → IsWritten old root bytes → ⊥
    not_read none is = let both : ◌≡◌ {A = Option Message} None (Some is.message) = sym none ∙ read_of is in cc

  module _ (m : Kept) (writing : IsWriting old root bytes m) where
    pub written_of : IsWritten old root bytes
    written_of = record {
      message = message_of m;
      is_message = subst (λ t. IsMessage old t (message_of m)) writing.type_is writing.fits.is_message;
      is_plain = (plain_is_kept m).0 writing.is_plain;
      has_encoding = writing.has_encoding;
      written = writing.written;
    }

    -- by the type that it says itself
    pub own_written : enc old (type_of m) (message_of m) ≡ bytes
    own_written = ap (λ t. enc old t (message_of m)) writing.type_is ∙ writing.written

    pub own_within : length (enc old (type_of m) (message_of m)) ≤ cap
    own_within = subst (λ t. length (enc old t (message_of m)) ≤ cap) (sym writing.type_is) writing.has_encoding

    module _ (enum_view : EnumView) (new : Shape) (bound : Option (Option ℕ)) where
      pub witnessed_of : HasLength bound bytes → Breaks enum_view.alike old new root.old root.new (message_of m) → IsWitnessed enum_view old new root bound bytes
      witnessed_of long breaks = record { message = message_of m; breaks = breaks; written = writing.written; length_is = long }

      pub keeps_of : ReadsAgain → IsShape old → (Breaks enum_view.alike old new root.old root.new (message_of m) → ⊥) → IsWitnessed enum_view old new root bound bytes → ⊥
      unfolding written_of
      keeps_of again is_shape kept_ is =
          let written : IsWritten old root bytes = record { message = is.message; is_message = is.breaks.is_message; is_plain = is.breaks.is_plain; has_encoding = is.breaks.has_encoding; written = is.written } in
          kept_ (subst (Breaks enum_view.alike old new root.old root.new) (message_is again is_shape (message_of m) written (read_of again is_shape written_of)) is.breaks)
