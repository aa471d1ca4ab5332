-- What is said of all files of a side, by its list and its words.
use Rattle.std.proofs.Common.{◌≡◌, ◌<◌, ◌++◌, List, [], Bool, Option, None, length, refl, subst, sym, inl, inr}
use Rattle.std.specs.Prelude.{IsTrue}
use Rattle.pg_call.specs.Paths.{BothPaths, Paths}
use Rattle.pg_link.specs.declared.sources.Sources.{Ghosts}
use Rattle.pg_link.specs.names.Names.{Text}
use Rattle.pg_link.specs.walk.Reads.{Reads}
use Rattle.pg_link.specs.walk.Walk.{World}
use Rattle.pg_gate.specs.answer.Files.{IsErrorOf}
use Rattle.pg_gate.specs.answer.Folders.{world_at}
use Rattle.pg_gate.specs.answer.Grants.{Listed}
use Rattle.pg_gate.specs.answer.Lists.{IsListed, IsTextIf, IsUnnamed, IsUnreadable, names_if, namers}
use Rattle.pg_gate.specs.declared.error.Fault.{Fault}
use Rattle.pg_gate.specs.declared.error.Fault.TheVariants as faults
use Rattle.pg_gate.specs.declared.error.GateError.{GateError}
use Rattle.pg_gate.specs.declared.error.ListError.TheVariants as errors
use Rattle.pg_lines.specs.declared.side.Side.{Side}
use Rattle.pg_gate.specs.inner.Lists as inner
use Rattle.pg_gate.specs.inner.Sources.{world_of}
use Rattle.pg_gate.proofs.lemmas.ErrorLemmas.{error-weaker}

pub error_of-weaker : (F G : Fault → Type 0) (side : Side) → ((fault : Fault) → F fault → G fault) → (error : GateError) → IsErrorOf F side error → IsErrorOf G side error
error_of-weaker F G side weaker error is =
    error-weaker (λ of found. (of ≡ side) × F found) (λ of found. (of ≡ side) × G found) (λ x. x) (λ x. x) (λ x. x) (λ of fault says. (says.0, weaker fault says.1)) error is

pub unreadable : (give : Text → Text → Bool) (lack : Text → Bool) (path bytes : Text) → IsTrue (give path bytes) → (fault : Fault) → inner.IsNoText path bytes fault
    → IsUnreadable give lack path fault
unreadable give lack path bytes given (faults.Link error) is = absurd is.1
unreadable give lack path bytes given (faults.Check error) is = absurd is.1
unreadable give lack path bytes given (faults.Set error) is = absurd is.1
unreadable give lack path bytes given (faults.List (errors.NotUtf8 place)) is = record { bytes = bytes; given = given; no_text = is.0; place_is = is.1 }
unreadable give lack path bytes given (faults.List (errors.NoFile place)) is = absurd is.1

-- a side that names no file
pub unnamed : (give : Text → Text → Bool) (files : Paths) (list : Option Text) → IsTextIf give files.list list → (fault : Fault) → inner.IsUnnamed files.files files.list list fault
    → IsUnnamed give files fault
unnamed give files list is_text fault is = record { list = list; is_text = is_text; none = is.0; is_fault = is.1 }

-- the files of a side with those of its list
abbrev pub with_list : Paths → Option Text → Paths
with_list files list = record files { files = files.files ++ names_if list; list = None }

pub listed_by : (give : Text → Text → Bool) (files : Paths) (list : Option Text) → IsTextIf give files.list list → 0 < length (namers files.files list)
    → IsListed give files (with_list files list)
listed_by give files list is_text some = record { list = list; is_text = is_text; some = some; all_are = refl }

-- what is made of copies is just these
pub as_listed : (files all : Paths) (list : Option Text) (includes paths : List Text) → all ≡ record { folder = files.folder; includes = includes; files = paths; list = None }
    → includes ≡ files.includes → paths ≡ files.files ++ names_if list → all ≡ with_list files list
as_listed files all list includes paths is same named = rw (is, same, named) refl

module _ {S : Type 0} (members : Ghosts S) (old : S) (files : Paths) (list : Option Text) (is_text : IsTextIf (members.may_give old) files.list list)
    (some : 0 < length (namers files.files list)) where
  -- of what holds whatever the files are
  pub listed : (holds : World → Type 0) → holds (world_at (members.may_give old) (members.may_lack old) (with_list files list)) → Listed (members.may_give old) (members.may_lack old) files holds
  listed holds so = record { all = with_list files list; is_listed = listed_by (members.may_give old) files list is_text some; so = so }

  -- a source that is read again gives and lacks what it did
  pub after_reads : (now : S) (all : Paths) (holds : World → Type 0) → Reads members old now 0 → all ≡ with_list files list → holds (world_of members now all)
      → Listed (members.may_give old) (members.may_lack old) files holds
  after_reads now all holds reads same so =
      listed holds (subst (λ a. holds (world_at (members.may_give old) (members.may_lack old) a)) same
      (subst (λ lack. holds (world_at (members.may_give old) lack all)) reads.same_lacked
      (subst (λ give. holds (world_at give (members.may_lack now) all)) reads.same_given so)))
