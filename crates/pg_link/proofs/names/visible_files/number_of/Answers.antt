use Rattle.std.proofs.Common.{◌≡◌, ◌∙◌, ℕ, Some, slice_get, ap, sym, subst, arith}
use Rattle.std.specs.Option.{unwrap_or}
use Rattle.pg_link.proofs.lemmas.names.FileMarks.{number_of}
use Rattle.pg_link.proofs.names.visible_files.number_of.Goals as goal

pub returns : goal.returns
returns c =
    let f = number_of c.args.files.now.entries c.args.count c.args.path.now c.requires in
    let same : c.unwrap_or.result ≡ f.number = c.unwrap_or.ensures ∙ ap (λ o. unwrap_or o 0) (c.get_index_of.ensures.index ∙ f.is_number) in
    record {
      before = omega (arith, same, f.before);
      file = (f.entry, subst (λ (k : ℕ). slice_get c.args.files.now.entries k ≡ Some f.entry) (sym same) f.is_there, f.has_path);
    }
