use Rattle.std.proofs.Common.{◌≡◌, ℤ, Bool, ◌&&◌, SFits, of_z, to_z, rules, ap, ap₂, ◌∙◌}
use Rattle.std.specs.Int.{w128}
use Rattle.std.specs.List.{list_any}
use Rattle.std.specs.Ordering.{int_eq}
use Rattle.std.proofs.lemmas.Int.{to_z-of_z}
use Rattle.pg_set.specs.stated.Codes.{label_codes, type_codes}
use Rattle.pg_set.proofs.reading.codes.is_taken.Goals as goal

-- what is said of a number as it is passed holds of the number
passed : (test : ℤ → Bool) (passed stated : ℤ) (r : Bool) → SFits w128 passed → r ≡ test (to_z w128 (of_z w128 passed)) → passed ≡ stated → r ≡ test stated
passed test n stated r fits e is = e ∙ (ap test (to_z-of_z w128 n fits) ∙ ap test is)

pub returns : goal.returns
returns c =
    let code : SFits w128 c.number-code.result = search rules in
    let label : SFits w128 c.label_of-label.result = search rules in
    c.both.ensures
    ∙ ap₂ (λ a b. a && b) (passed (λ n. list_any (int_eq n) type_codes) c.number-code.result _ c.is_type-has_type.result code c.is_type-has_type.ensures c.number-code.ensures)
    (passed (λ n. list_any (int_eq n) label_codes) c.label_of-label.result _ c.is_label-has_label.result label c.is_label-has_label.ensures c.label_of-label.ensures)
