-- What is found, as a target.
use Rattle.std.proofs.Common.{◌≡◌, ℕ, Bool, true, false, List, Some, None, arith, rules}
use Rattle.std.specs.HashMap.{get_by_text}
use Rattle.pg_link.specs.declared.names.index.Index as indexes
use Rattle.pg_link.specs.declared.names.Kind.{Kind}
use Rattle.pg_link.specs.declared.names.Named as nameds
use Rattle.pg_link.specs.declared.uses.target.Target.{Target}
use Rattle.pg_link.specs.names.Files.{Declared}
use Rattle.pg_link.specs.names.Names.{Text, Names}
use Rattle.pg_link.specs.names.Resolves.{found}
use Rattle.pg_link.specs.names.Standing.{Standing}
use Rattle.pg_link.specs.inner.Indexed.{IsNumbered, declared_in, taken_by, target_by}
use Rattle.pg_link.specs.uses.Targets.{numbered, target_in}
use Rattle.pg_link.specs.uses.Unresolved.{NamesNoTarget, may_stand}
use Rattle.pg_link.specs.uses.Uses.{Use}
use Rattle.pg_link.proofs.lemmas.names.FileMarks.{none_some}

taken_number : (ds : List Declared) (takes : Bool) (full : Text) (kind : Kind) (number : ℕ) → numbered ds true full kind ≡ target_by kind number
    → numbered ds takes full kind ≡ taken_by takes kind number
taken_number ds takes full kind number is = grind arith

pub target_is : (index : indexes.Index) (all : List Standing) (visible : Names) (u : Use) (full : Text) (n : nameds.Named) (t : Target) → IsNumbered index all
    → get_by_text index.names full ≡ Some n → found visible u.scope u.name ≡ Some (full, n.kind) → taken_by u.takes_enums n.kind n.number ≡ Some t
    → target_in (declared_in all) visible u ≡ Some t
target_is index all visible u full n t numbers held is taken = search (rules, taken_number)

none_stands : (takes : Bool) (kind : Kind) (number : ℕ) → taken_by takes kind number ≡ None → may_stand takes kind ≡ false
none_stands takes kind number none = grind (arith, none_some)

pub no_target : (visible : Names) (u : Use) (full : Text) (kind : Kind) (number : ℕ) → found visible u.scope u.name ≡ Some (full, kind)
    → taken_by u.takes_enums kind number ≡ None → NamesNoTarget visible u
no_target visible u full kind number is none = search (rules, none_stands)
