-- What `gate_all` says of a message type is what `gate_with` says of it.
use Rattle.std.proofs.Common.{◌≡◌, ◌≤◌, ℕ, List, length, Option, Some, None, string_bytes, refl, ap, ap₂, sym, subst, arith}
use Rattle.pg_schema.specs.declared.parts.field.TypeId.{TypeId}
use Rattle.pg_schema.specs.declared.parts.Parts.{Parts}
use Rattle.pg_schema.specs.Invariant.{IsSchema}
use Rattle.pg_schema.specs.Parts.{shape_of}
use Rattle.pg_schema.specs.Shape.{Shape}
use Rattle.pg_dyn.specs.views.Breaking.{Compatible, Least}
use Rattle.pg_pairs.proofs.lemmas.choices.Among.{among_each}
use Rattle.pg_pairs.specs.declared.choices.choice.Pair.{Pair}
use Rattle.pg_pairs.specs.views.EnumView.{EnumView}
use Rattle.pg_pairs.specs.views.NamedView.{seen_under}
use Rattle.pg_least.specs.Loss.{AreRoots}
use Rattle.pg_causes.specs.declared.overview.TypeLine.{TypeLine}
use Rattle.pg_causes.specs.TypeLines.{GateSays, IsTypeLine}
use Rattle.pg_gate.specs.laws.Agreement.{AllSaysWhatGateSays, bytes_to_break}
use Rattle.pg_gate.specs.answer.Answer.{IsAnswerBy}
use Rattle.pg_gate.specs.declared.answer.gate.Answer.{Answer}
use Rattle.pg_gate.specs.declared.answer.gate.Answer.TheVariants as answers

-- the bound that the gate gives of compatible types is none; where there is a least length, it gives that length
none_said : (enum_view : EnumView) (old new : Shape) (pair : Pair) (bound : Option ℕ) → GateSays enum_view old new pair bound → Compatible enum_view.alike old new pair.old pair.new → bound ≡ None
none_said enum_view old new pair None says compatible = refl
none_said enum_view old new pair (Some bytes) says compatible = absurd (compatible says.least.message says.least.breaks)

least_said : (enum_view : EnumView) (old new : Shape) (pair : Pair) (bound : Option ℕ) (n : ℕ) → GateSays enum_view old new pair bound → Least enum_view.alike old new pair.old pair.new n → bound ≡ Some n
least_said enum_view old new pair None n says least = absurd (says.compatible least.message least.breaks)
least_said enum_view old new pair (Some bytes) n says least =
    let low = says.least.least least.message least.breaks in
    let high = least.least says.least.message says.least.breaks in
    let low_is = least.length_is in
    let high_is = says.least.length_is in
    let same : bytes ≡ n = omega arith in
    ap Some same

-- the types of one full name are one pair
one_pair : (old new : Parts) (name : List ℕ) (p q : Pair) → IsSchema old → IsSchema new → AreRoots old new name p → AreRoots old new name q → p ≡ q
one_pair old new name p q old_is new_is of_p of_q =
    ap₂ (λ (a b : TypeId). record { old = a; new = b }) (old_is.names p.old q.old name of_p.old_named of_q.old_named) (new_is.names p.new q.new name of_p.new_named of_q.new_named)

line_is : (enum_view : EnumView) (old new : Parts) (line : TypeLine) (answer : Answer) → IsSchema old → IsSchema new → IsTypeLine enum_view old new line → IsAnswerBy enum_view old new (string_bytes line.name) answer → line.bound ≡ bytes_to_break old answer
line_is enum_view old new line (answers.Compatible certificate) old_is new_is is answer =
    let same = one_pair old new (string_bytes line.name) is.pair certificate.root old_is new_is is.roots answer.roots in
    none_said enum_view (shape_of old) (shape_of new) certificate.root line.bound
    (subst (λ (pair : Pair). GateSays enum_view (shape_of old) (shape_of new) pair line.bound) same is.says) answer.compatible
line_is enum_view old new line (answers.Breaks witness certificate) old_is new_is is answer =
    let same = one_pair old new (string_bytes line.name) is.pair certificate.root old_is new_is is.roots answer.roots in
    least_said enum_view (shape_of old) (shape_of new) certificate.root line.bound _
    (subst (λ (pair : Pair). GateSays enum_view (shape_of old) (shape_of new) pair line.bound) same is.says) answer.least

pub all_says_what_gate_says : AllSaysWhatGateSays
all_says_what_gate_says view old new old_is new_is overview is line among answer is_answer =
    line_is (seen_under view old new) old new line answer old_is new_is
    (among_each (IsTypeLine (seen_under view old new) old new) line overview.types.items among is.types) is_answer.1
