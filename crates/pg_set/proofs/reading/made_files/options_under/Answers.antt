use Rattle.std.proofs.Common.{Global, Vec, ap, get_or, map, option_map, sym, ◌∙◌}
use Rattle.pg_schema.specs.declared.parts.options.FileOption.{FileOption}
use Rattle.pg_dyn.specs.message.Kept.{message_of}
use Rattle.pg_set.specs.inner.reading.SetItems.{said}
use Rattle.pg_set.specs.stated.Views.{option_view}
use Rattle.pg_set.proofs.lemmas.writing.FileLaws.{same_default}
use Rattle.pg_set.proofs.lemmas.reading.OptionItems.{found_more, none_more}
use Rattle.pg_set.proofs.reading.made_files.options_under.Goals as goal
use Rattle.pg_set.proofs.reading.made_files.options_under.Goals.{in-Some+in_ok-value+in_ok-push, in_default}

pub loop-number-preserved : goal.loop-number-preserved
loop-number-preserved c =
    let m = message_of c.args.message.now in
    let numbers = c.args.numbers.now in
    let i = c.loop-number.number-index in
    let n = get_or numbers i 0 in
    let before = c.loop-number.options.items in
    let at = same_default numbers i 0 n c.loop-number-test.true in
    elim c.match-found.branch [
      | in-Some+in_ok-value+in_ok-push w ↦
          ap (λ (v : Vec FileOption Global). map option_view v.items) w.options-is
          ∙ (ap (map option_view) w.in_ok-push.ensures.items
          ∙ found_more m numbers i n (said w.in-Some.value) before w.in_ok-value.value c.loop-number-test.true at
          (sym c.item-found.ensures ∙ ap (λ o. option_map said o) w.in-Some.is) w.in_ok-value.ensures c.loop-number.invariant)
      | in_default w ↦
          ap (λ (v : Vec FileOption Global). map option_view v.items) w.options-is
          ∙ none_more m numbers i n before c.loop-number-test.true at (sym c.item-found.ensures ∙ ap (λ o. option_map said o) w.in_default.is) c.loop-number.invariant
    ]
