-- All that files declare may be declared one after the other, where names occur once and none is a part of a package.
use Rattle.std.proofs.Common.{◌≡◌, ℕ, true, ◌&&◌, List, [], ◌∷◌, ◌++◌, None, length, ap, sym, ◌∙◌, rules}
use Rattle.std.specs.HashMap.{get_by_text}
use Rattle.std.specs.List.{flat_map}
use Rattle.pg_schema.specs.rules.Pairs.{are_distinct}
use Rattle.pg_dyn.specs.message.Message.{Message}
use Rattle.pg_set.specs.declared.error.Unstated.{Unstated}
use Rattle.pg_set.specs.declared.error.Unstated.TheVariants as errors
use Rattle.pg_set.specs.inner.Declarations.{CannotAdd, Declaration, NameTable, are_new, file_declared, files_declared, no_names}
use Rattle.pg_set.specs.stated.Numbering.{Counts, behind_file, no_counts}
use Rattle.pg_set.specs.inner.reading.OutlinedScopes.{MayPlace}
use Rattle.pg_set.specs.stated.Outlines.{file_types}
use Rattle.pg_set.specs.stated.StatedTable.{are_free, may_declare}
use Rattle.pg_set.proofs.lemmas.outline.Declaring.{Left, fresh_there, left_fails}
use Rattle.pg_set.proofs.lemmas.outline.DeclaredLists.{parts_files, things_files}
use Rattle.pg_set.proofs.lemmas.outline.FreshNames.{apart_fresh, are_apart, fresh_apart, parts, things}
use Rattle.pg_set.proofs.lemmas.outline.Fronts.{packages_free}
use Rattle.pg_set.proofs.lemmas.outline.OutlinedFiles.{may_place, may_stand}
use Rattle.pg_set.proofs.lemmas.outline.ScopeNames.{some_names}

module _ (depth : ℕ) (ms : List Message) where
  abbrev ds : List Declaration
  ds = files_declared depth no_counts ms

  free_is : (are_distinct (things ds) && are_apart (things ds) (parts ds)) ≡ are_free depth ms
  free_is = search (rules, are_apart, things_files, parts_files, packages_free, some_names)

  pub fresh_free : are_new no_names (files_declared depth no_counts ms) ≡ true → are_free depth ms ≡ true
  fresh_free fresh = sym free_is ∙ fresh_apart ds fresh

  pub free_fresh : are_free depth ms ≡ true → are_new no_names (files_declared depth no_counts ms) ≡ true
  free_fresh free = apart_fresh ds (free_is ∙ free)

-- a file is refused where not all may be declared, memory aside
pub file_refused : {Y : Type 0} (depth : ℕ) (before : List Message) (m : Message) (later all rest left : List Message) (counts : Counts) (empty mid : NameTable Y) (e : Unstated) → (before ++ m ∷ []) ++ later ≡ all → rest ≡ m ∷ left
    → ((name : List ℕ) → get_by_text empty name ≡ None) → counts.types ≡ length (flat_map (file_types depth) before)
    → Left (files_declared depth counts rest) (files_declared depth no_counts all) mid empty → (MayPlace depth counts m → CannotAdd (file_declared depth counts m) mid e) → may_declare depth all ≡ true → e ≡ errors.Memory
file_refused depth before m later all rest left counts empty mid e whole first none types declared fails may =
    let stand = may_stand depth all may in
    left_fails (files_declared depth counts rest) (file_declared depth counts m) (files_declared depth (behind_file depth counts m) left) (files_declared depth no_counts all) mid empty e (ap (files_declared depth counts) first) declared
    (fails (may_place depth before m later all whole stand counts types)) (fresh_there empty (files_declared depth no_counts all) none (free_fresh depth all stand.free))
