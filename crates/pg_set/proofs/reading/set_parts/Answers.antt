use Rattle.std.proofs.Common.{◌≡◌, map, ap, filter, not, ◌∙◌}
use Rattle.pg_dyn.specs.message.Kept.{message_of}
use Rattle.pg_set.specs.stated.SetMessages.{children_at}
use Rattle.pg_set.specs.stated.FileMessages.{is_skipped}
use Rattle.pg_set.proofs.lemmas.reading.ReadLaws.{set_refused, set_stated}
use Rattle.pg_set.proofs.reading.set_parts.Goals as goal

pub returns : goal.returns
returns c =
    let set = message_of c.args.set.now in
    let all = c.as_slice-all.result.now in
    let files = c.as_slice-files.result.now in
    let seen : map message_of all ≡ children_at 1 set = ap (λ xs. map message_of xs) c.as_slice-all.ensures.value ∙ c.in_ok-all_files.ensures in
    let kept : map message_of files ≡ filter (λ m. not (is_skipped m)) (map message_of all) = ap (λ xs. map message_of xs) c.as_slice-files.ensures.value ∙ c.in_ok-kept_files.ensures in
    record {
      ok = set_stated set c.skips-skips.result all files seen c.skips-skips.ensures kept c.files_parts.result c.files_parts.ensures.ok;
      refused = set_refused set c.skips-skips.result all files seen c.skips-skips.ensures kept c.files_parts.result c.files_parts.ensures.refused;
    }
