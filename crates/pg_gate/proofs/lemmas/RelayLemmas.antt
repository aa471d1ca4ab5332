-- A plain old message that is relayed returns.
use Rattle.std.proofs.Common.{◌≡◌, ◌≤◌, ℕ, List, length, true, false, true≢false, Option, Some, None, refl, ap, sym, ◌∙◌, subst}
use Rattle.pg_schema.specs.declared.parts.field.TypeId.{TypeId}
use Rattle.pg_schema.specs.Shape.{Shape}
use Rattle.pg_schema.specs.ShapeRules.{IsShape}
use Rattle.pg_dyn.specs.message.Message.{Message}
use Rattle.pg_dyn.specs.encoding.Encoding.{cap, enc}
use Rattle.pg_dyn.specs.reading.Decoding.{dec}
use Rattle.pg_dyn.specs.fitting.Belonging.{IsMessage}
use Rattle.pg_dyn.specs.fitting.Fits.{Fits}
use Rattle.pg_dyn.specs.message.Kept.{Kept, message_of, type_of}
use Rattle.pg_pairs.specs.declared.choices.choice.Pair.{Pair}
use Rattle.pg_pairs.specs.home.Home.{home, comes_home}
use Rattle.pg_pairs.specs.laws.ComesHome.{MessagesComeHome}
use Rattle.pg_gate.specs.Relaying.{BringsHome}

-- the old type reads a message that returns, and reads it back
read_home : (old new : Shape) (a b : TypeId) (v w : Message) → dec new b (enc old a v) ≡ Some w → comes_home old new a b v ≡ true → (x : Message) × (dec old a (enc new b w) ≡ Some x) × (home old new a b v x ≡ true)
unfolding comes_home
read_home old new a b v w read h = of (dec old a (enc new b w)) refl
  where
    of : (o : Option Message) → dec old a (enc new b w) ≡ o → (x : Message) × (dec old a (enc new b w) ≡ Some x) × (home old new a b v x ≡ true)
    of (Some x) again = (x, again, rw (read, again) at h)
    of None again = let no : false ≡ true = rw (read, again) at h in absurd (true≢false (sym no))

brings_home : MessagesComeHome → (old new : Shape) (pair : Pair) → IsShape old → IsShape new → (w : Message) (bytes again : List ℕ) → dec new pair.new bytes ≡ Some w → IsMessage new pair.new w → again ≡ enc new pair.new w → length again ≤ cap → BringsHome old new pair bytes again
brings_home law old new pair shape_old shape_new w bytes again read is_new same short view compatible returns v is plain written small =
    let read_v : dec new pair.new (enc old pair.old v) ≡ Some w = ap (dec new pair.new) written ∙ read in
    let fits : length (enc old pair.old v) ≤ cap = subst (λ bs. length bs ≤ cap) (sym written) small in
    let comes = law view old new pair shape_old shape_new compatible returns v is plain fits w read_v is_new (subst (λ bs. length bs ≤ cap) same short) in
    subst (λ bs. (x : Message) × (dec old pair.old bs ≡ Some x) × (home old new pair.old pair.new v x ≡ true)) (sym same) (read_home old new pair.old pair.new v w read_v comes)

-- a message returns where the one that the new type reads fits the schema, and the encoder writes that one again
pub writes_home : MessagesComeHome → (old new : Shape) (pair : Pair) → IsShape old → IsShape new → (m : Kept) (bytes again : List ℕ) → dec new pair.new bytes ≡ Some (message_of m) → Fits new m × (type_of m ≡ pair.new) → (again ≡ enc new (type_of m) (message_of m)) × (length again ≤ cap) → BringsHome old new pair bytes again
writes_home law old new pair shape_old shape_new m bytes again read fits written =
    brings_home law old new pair shape_old shape_new (message_of m) bytes again read (subst (λ t. IsMessage new t (message_of m)) fits.1 fits.0.is_message)
    (written.0 ∙ ap (λ t. enc new t (message_of m)) fits.1) written.1
