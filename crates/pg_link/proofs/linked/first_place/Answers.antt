use Rattle.std.proofs.Common.{◌∙◌, List, ℕ, take, refl, sym, ap}
use Rattle.pg_lex.specs.Place.{line, column}
use Rattle.pg_link.proofs.linked.first_place.Goals as goal

pub returns-clause-place : goal.returns-clause-place
returns-clause-place c = record {
  number = c.args.named.now.file;
  others = c.args.named.now.others.items;
  file = (c.in_ok-path.path.now, c.in_ok-path.file.now);
  is_first = refl;
  is_there = sym c.in_ok-path.ensures.entry;
  is_path = c.as_str.ensures.value;
  is_line = c.place-line.ensures.line ∙ ap (λ (l : List ℕ). line (take c.args.named.now.at l)) c.deref.ensures.value;
  is_column = c.place-line.ensures.column ∙ ap (λ (l : List ℕ). column (take c.args.named.now.at l)) c.deref.ensures.value;
}
