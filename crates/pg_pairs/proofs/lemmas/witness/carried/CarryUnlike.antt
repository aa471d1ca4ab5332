-- Messages that reach the choice of unlike fields which are no maps, where an item and what is read are of different kinds.
use Rattle.std.proofs.Common.{◌≡◌, [], ◌∷◌, Bool, false, ◌&&◌, refl, rules}
use Rattle.std.proofs.lemmas.Bool.{and_right}
use Rattle.pg_schema.specs.Shape.{FieldShape}
use Rattle.pg_dyn.specs.message.Message.{Message, is_zero}
use Rattle.pg_dyn.specs.word.Coding.{form}
use Rattle.pg_dyn.specs.reading.Decoding.{Reader}
use Rattle.pg_dyn.specs.encoding.Writing.{field_records}
use Rattle.pg_dyn.specs.views.Comparison.{View, Alike, hides_zero, Kept, Comparand, writes}
use Rattle.pg_dyn.specs.laws.ByComparands.{is_field_kept}
use Rattle.pg_pairs.proofs.lemmas.gaps.GapItems.{IsLeafy}
use Rattle.pg_pairs.proofs.lemmas.bounds.AcrossPlain.{NotMap}
use Rattle.pg_pairs.proofs.lemmas.bounds.Broken.{one_unkept}
use Rattle.pg_pairs.proofs.lemmas.gaps.KindsRead.{kind, form_kind, other_kind_matches_none, child_matches_no_leaf}

-- a leaf of another kind, in any presence
pub other_kind_broken : (view : View) (child : Reader) (f g : FieldShape) → NotMap child g → IsLeafy g.element → (c : Comparand) → c.number ≡ f.number → c.expected ≡ Alike c.written → (hides_zero f g && is_zero c.written) ≡ false → (kind c.written ≡ form_kind (form g.element) → ⊥) → is_field_kept view child f g (c ∷ []) ≡ false
other_kind_broken view child f g plain leafy c number so visible other =
    search (rules, one_unkept, other_kind_matches_none)

-- a child beside a field of leaves
pub child_lost : (view : View) (child : Reader) (f g : FieldShape) → NotMap child g → IsLeafy g.element → (c : Comparand) (test : Message → Bool) → c.number ≡ f.number → c.expected ≡ Kept test → is_field_kept view child f g (c ∷ []) ≡ false
child_lost view child f g plain leafy c test number so =
    one_unkept view child f g c number (rw so (and_right (hides_zero f g) false refl))
    (λ qs e. child_matches_no_leaf view child f g plain leafy c test so (field_records f (writes c ∷ [])) qs e)
