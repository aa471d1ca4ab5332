use Rattle.std.proofs.Common.{◌≡◌, List, [], ◌∷◌, true, Some, None, Option, ℕ, refl, negsuc, pos, arith}
use Rattle.pg_schema.specs.declared.parts.field.Scalar.TheVariants.{Int32, Uint32}
use Rattle.pg_schema.specs.Shape.{Shape}
use Rattle.pg_wire.specs.Records.{tag}
use Rattle.pg_wire.specs.Varint.{varint}
use Rattle.pg_dyn.specs.word.Coding.{word_bytes}
use Rattle.pg_dyn.specs.message.Message.{Int, ends, nests}
use Rattle.pg_dyn.specs.laws.Examples.{linked, one}
use Rattle.pg_pairs.specs.declared.choices.choice.Pair.{Pair}
use Rattle.pg_pairs.specs.views.EnumView.{by_numbers}
use Rattle.pg_pairs.specs.bounds.Covering.{Covers}
use Rattle.pg_cert.specs.declared.bounds.PairBound.{PairBound}
use Rattle.pg_cert.specs.Certificate.{are_bounds, bound_in}
use Rattle.pg_cert.specs.Faults.{first_fault}
use Rattle.pg_cert.specs.laws.Worked.{minus_one, signed, unsigned, tree, unchanged, to_unsigned, outer, inner}
use Rattle.pg_cert.proofs.Coverings.{covers_without_fault}
use Rattle.pg_cert.proofs.Witnesses.{zero_not_written, same_is_kept}
use Rattle.pg_cert.proofs.laws.worked_certificates.Goals as goal

covers : (old new : Shape) (bounds : List PairBound) (root : Pair) → are_bounds bounds ≡ true → first_fault by_numbers old new bounds root ≡ None → Covers by_numbers old new (bound_in bounds) root
covers old new bounds root distinct faultless = (covers_without_fault by_numbers old new bounds root distinct).0 faultless

apart : ◌≡◌ {A = Option (Option ℕ)} (Some (Some 7)) (Some (Some 8)) → ⊥
apart h = let same : ◌≡◌ {A = ℕ} 7 8 = cc in omega arith

pub returns : goal.returns
unfolding tag varint word_bytes
returns c =
    let found = c.worked_examples.ensures in
    record {
      unchanged_field = (record { covers = covers signed signed unchanged.bounds unchanged.root refl refl; witnessed = tt }, refl, refl);
      compatible_verdict = refl;
      int32_to_uint32 = (
        record {
          covers = covers signed unsigned (to_unsigned (Some 11)).bounds (to_unsigned (Some 11)).root refl refl;
          witnessed = record { message = one (Int (negsuc 0)); breaks = found.int32_to_uint32.breaks; written = found.int32_to_uint32.written_as; length_is = refl };
        },
        refl,
        refl,
      );
      breaks_verdict = refl;
      child_breaks = (
        record {
          covers = covers (linked Uint32) (linked Int32) (outer ∷ inner ∷ []) outer.pair refl refl;
          witnessed = record { message = nests 2 None (one (Int (pos 2147483648))) (ends []); breaks = found.child_breaks.breaks; written = found.child_breaks.written_as; length_is = refl };
        },
        refl,
        refl,
      );
      bound_alone = (record { covers = covers (linked Uint32) (linked Int32) (outer ∷ inner ∷ []) outer.pair refl refl; witnessed = tt }, refl, refl);
      at_least_verdict = refl;
      tree_unchanged = (record { covers = covers tree tree unchanged.bounds unchanged.root refl refl; witnessed = tt }, refl, refl);
      no_table = refl;
      child_missing = refl;
      bound_too_high = refl;
      none_too_high = refl;
      child_too_high = refl;
      first_of_two = refl;
      zero_before = zero_not_written c.reads_again.ensures found.same_type;
      wrong_length = (record { message = nests 2 None (one (Int (pos 2147483648))) (ends []); is_message = found.child_breaks.breaks.is_message; is_plain = found.child_breaks.breaks.is_plain; has_encoding = found.child_breaks.breaks.has_encoding; written = found.child_breaks.written_as }, λ h. apart h);
      witness_kept = (record { message = one (Int (negsuc 0)); is_message = found.same_type.is_message; is_plain = found.same_type.is_plain; has_encoding = found.int32_to_uint32.breaks.has_encoding; written = found.same_type.written_as }, refl, same_is_kept c.self_compatible.ensures (Some (Some 11)) minus_one);
      pair_twice = refl;
      zero_is_no_bound = refl;
      bound_above_the_most = refl;
      greatest_bound = refl;
    }
