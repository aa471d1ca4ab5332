-- The words rise, so the values of one number are next to each other.
use Rattle.std.proofs.Common.{◌≡◌, ◌-◌, ◌∙◌, List, map, true, false, ltb, leb, take, drop, length, length-drop, ap, subst, arith, rules}
use Rattle.std.specs.List.Sorted.{IsPartitionPoint}
use Rattle.std.proofs.lemmas.List.{take_all}
use Rattle.std.proofs.lemmas.List.Sorted.{IsNonDecreasingBy-drop, IsNonDecreasingBy-take, IsPartitionPoint-from_clause, IsPartitionedBy-leb, IsPartitionedBy-ltb}
use Rattle.pg_schema.specs.declared.parts.enum_type.EnumValue.{EnumValue}
use Rattle.pg_dyn.specs.views.ViewNames.{named}
use Rattle.pg_pairs.specs.views.LeastNumbers.{number_word}
use Rattle.pg_pairs.specs.inner.MissingNames.{is_missing}
use Rattle.pg_pairs.proofs.lemmas.views.FoundValues.{cut}
use Rattle.pg_pairs.proofs.views.names.values_beside.Goals as goal

pub returns : goal.returns
returns c =
    let xs = c.args.values.now in
    let v = named c.args.value.now in
    let w = number_word c.args.value.now.number in
    let start = c.partition_point-start.result in
    let count = c.partition_point-count.result in
    let rest = take (length xs - start) (drop start xs) in
    let same : rest ≡ drop start xs = take_all (length xs - start) (drop start xs) (let long = length-drop start xs in omega arith) in
    let lower : IsPartitionPoint (λ (y : EnumValue). ltb (number_word y.number) w ≡ true) (λ (y : EnumValue). ltb (number_word y.number) w ≡ false) xs start =
    IsPartitionPoint-from_clause (λ (y : EnumValue). ltb (number_word y.number) w) xs start c.partition_point-start.ensures.partitioned (IsPartitionedBy-ltb (λ (y : EnumValue). number_word y.number) xs w c.requires) (λ a r f h. search rules) in
    let upper : IsPartitionPoint (λ (y : EnumValue). leb (number_word y.number) w ≡ true) (λ (y : EnumValue). leb (number_word y.number) w ≡ false) rest count =
    IsPartitionPoint-from_clause (λ (y : EnumValue). leb (number_word y.number) w) rest count c.partition_point-count.ensures.partitioned
    (IsPartitionedBy-leb (λ (y : EnumValue). number_word y.number) rest w (IsNonDecreasingBy-take (λ (y : EnumValue). number_word y.number) (length xs - start) (drop start xs) (IsNonDecreasingBy-drop (λ (y : EnumValue). number_word y.number) start xs c.requires))) (λ a r f h. search rules) in
    ap (λ ys. is_missing (map named (take count ys)) v) same
    ∙ cut xs v start count c.partition_point-start.ensures.bound (let k = ap length same in let le = c.partition_point-count.ensures.bound in omega arith) lower
    (subst (λ (ys : List EnumValue). IsPartitionPoint (λ (y : EnumValue). leb (number_word y.number) w ≡ true) (λ (y : EnumValue). leb (number_word y.number) w ≡ false) ys count) same upper)
