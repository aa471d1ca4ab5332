-- The examples of what is read back, by computation.
use Rattle.std.proofs.Common.{◌≡◌, true, false, inl, ⊎_elim, refl, sym, subst, true≢false}
use Rattle.std.specs.Str.{is_utf8, chars}
use Rattle.pg_schema.specs.declared.parts.field.Presence.TheVariants.{Repeated}
use Rattle.pg_schema.specs.Shape.{Shape}
use Rattle.pg_wire.specs.Reading.{exactly, row}
use Rattle.pg_wire.specs.Varint.{varint_at, varint}
use Rattle.pg_wire.specs.Words.{signed, unzigzag}
use Rattle.pg_wire.specs.Records.{tag_parts, record_at, records_of, tag, written}
use Rattle.pg_dyn.specs.word.Coding.{word_bytes, word_in}
use Rattle.pg_dyn.specs.encoding.Encoding.{enc}
use Rattle.pg_dyn.specs.reading.Decoding.{dec}
use Rattle.pg_dyn.specs.laws.Examples.{first, second, int32, tree}
use Rattle.pg_pairs.specs.declared.choices.choice.Pair.{Pair}
use Rattle.pg_pairs.specs.bounds.Covering.{IsAmong, children}
use Rattle.pg_pairs.specs.graph.Reached.{itself, onwards}
use Rattle.pg_pairs.specs.laws.SmallPairs.{both}
use Rattle.pg_pairs.specs.home.Returns.{Returns, packs}
use Rattle.pg_pairs.specs.home.Home.{home, comes_home}
use Rattle.pg_pairs.specs.laws.HomeExamples.{HomeExamples, list_of_int32}
use Rattle.pg_pairs.proofs.lemmas.home.ReturnSteps.{led}

-- a pair whose children are itself alone
alone : (old new : Shape) (root : Pair) → ((c : Pair) → IsAmong c (children old new root) → c ≡ root) → packs old new root ≡ false → Returns old new root
alone old new root only none p leads =
    let is : p ≡ root = led (children old new) root (λ q. q ≡ root) refl (λ q c same among. only c (subst (λ r. IsAmong c (children old new r)) same among)) p leads in
    subst (λ q. packs old new q ≡ false) (sym is) none

pub home_examples : HomeExamples
unfolding is_utf8 chars exactly row varint_at varint signed unzigzag tag_parts record_at records_of tag written word_bytes word_in enc dec home comes_home
home_examples = record {
  lacked_field_is_relayed = refl;
  unknown_records_stand_last = refl;
  lacked_field_is_home = refl;
  zero_is_dropped = refl;
  zero_is_not_missed = refl;
  zero_of_a_child_is_not_missed = refl;
  zero_is_missed = refl;
  outside_is_equal = refl;
  zero_outside_is_missed = refl;
  singular_is_packed = refl;
  packed_is_not_home = refl;
  unpacked_is_home = refl;
  packed_is_outside = λ returns. true≢false (returns (both first) itself);
  unpacked_returns = alone int32 (list_of_int32 (Repeated false)) (both first) (λ c among. absurd among) refl;
  root_does_not_pack = refl;
  packing_child_is_outside = λ returns. true≢false (returns (both first) (onwards (both second) (both first) itself (inl refl)));
  packed_in_both_returns = alone (list_of_int32 (Repeated true)) (list_of_int32 (Repeated true)) (both first) (λ c among. absurd among) refl;
  tree_returns = alone tree tree (both first) (λ c among. ⊎_elim (λ same. same) (λ never. absurd never) among) refl;
}
