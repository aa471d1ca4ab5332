-- The command has the shape of `specs/CommandLine.antt`, so clap's words on simple commands are exact.
use Rattle.std.proofs.Common.{◌≡◌, ◌∙◌, List, refl, rules, ap, sym, subst, true, inl, inr}
use Rattle.std.proofs.lemmas.Result.{err_from_is_err_and}
use Rattle.clap.proofs.OnLiterals.{clap_on_literals}
use Rattle.std.specs.Borrow.{Bor}
use Rattle.clap.specs.Walk.{texts}
use Rattle.clap.specs.Words.{App, HasKind, Text, app_of, fault_of, is_simple, is_simple_and_free, kind_of, subcommand_of}
use Rattle.pg_call.specs.CommandLine.{view_names, whole_app}
use Rattle.pg_call.proofs.CallLemmas.{some_kinds}
use Rattle.pg_call.proofs.command_line.matches_of.Goals as goal

simple : (names : Bor (List (Bor Text))) → is_simple (whole_app names) ≡ true
unfolding clap_on_literals
simple names = refl

free : (names : Bor (List (Bor Text))) → is_simple_and_free (whole_app names) ≡ true
unfolding clap_on_literals
free names = refl

pub returns-in_err-matches-clause-refused : goal.returns-in_err-matches-clause-refused
returns-in_err-matches-clause-refused c =
    let shape = c.in_ok-command.ensures.shape in
    let names = c.as_slice.result in
    let are_names : texts names.now ≡ view_names = search rules in
    let words = texts c.args.words.now in
    let error = c.in_err-matches.field-0.0 in
    let kinds : HasKind (fault_of (whole_app names) words) error =
    subst (λ (a : App). HasKind (fault_of a words) error) shape (c.in_err-matches.ensures.kinds (ap is_simple_and_free shape ∙ free names)) in
    let passed = err_from_is_err_and c.from_residual-in_err-matches.result c.from_residual-in_err-matches.ensures.1 in
    rw (passed.1, passed.2) (λ other. elim kinds [
      | inl memory ↦ absurd (other memory)
      | inr among ↦ record { names = names; are_names = are_names; by_clap = some_kinds (kind_of error) (fault_of (whole_app names) words) among }
    ])

pub returns-clause-taken : goal.returns-clause-taken
returns-clause-taken c =
    let shape = c.in_ok-command.ensures.shape in
    let words = texts c.args.words.now in
    let parse = c.in_ok-matches.ensures in
    let app = app_of c.in_ok-command.command in
    record {
      names = c.as_slice.result;
      are_names = search rules;
      taken = ap (λ (a : App). fault_of a words) (sym shape) ∙ parse.kinds (ap is_simple_and_free shape ∙ free c.as_slice.result);
      entered =
          (parse.matches (ap is_simple shape ∙ simple c.as_slice.result)).1
          ∙ ap (λ (a : App). subcommand_of a words) shape;
      is_there = search rules;
    }
