-- A file, each rule with the fault that is found of it.
use Rattle.std.proofs.Common.{◌≡◌, ◌∙◌, ◌⊎◌, ◌↔◌, inl, inr, ◌≤◌, ℕ, zero, suc, List, [], ◌∷◌, ◌++◌, length, Option, Some, None, sym, ap, subst, refl, arith, rules}
use Rattle.pg_link.specs.declared.error.Place.{Place}
use Rattle.pg_check.specs.declared.error.CheckError.{CheckError}
use Rattle.pg_check.specs.declared.rules.fault.Fault.{Fault}
use Rattle.pg_check.specs.declared.rules.fault.Rule.TheVariants as rules
use Rattle.pg_check.specs.Errors.{error_of}
use Rattle.pg_check.specs.rules.BrokenRules.{BreaksFile, bad_file_option, in_enum, in_message, in_packaged_service, in_service, too_many_types}
use Rattle.pg_check.specs.inner.Faults.{broken, broken_at, order}
use Rattle.pg_check.specs.rules.Files as files
use Rattle.pg_check.specs.inner.FileFaults as file_faults
use Rattle.pg_check.specs.rules.Firsts.{IsBehind, IsOneOf}
use Rattle.pg_check.specs.rules.KeepsRules.{EnumKeeps, FileKeeps, MessageKeeps, StatementKeeps}
use Rattle.pg_check.specs.parts.MadeParts.{Source}
use Rattle.pg_check.specs.rules.Outline.{Enum, Message, file_messages, scoped_enums, statements_behind}
use Rattle.pg_check.proofs.lemmas.rules.FirstFaults.{IsFound}
use Rattle.pg_check.proofs.lemmas.rules.Judged.{Judged, all, at_one, both, each, kept_as, nothing, broken_as}
use Rattle.pg_check.proofs.lemmas.rules.JudgedEnums.{EnumFault, ServiceFault, enum_judged, enum_tells, enum_broken, service_judged, service_tells, service_broken}
use Rattle.pg_check.proofs.lemmas.rules.JudgedItems.{OptionFault, options_judged}
use Rattle.pg_check.proofs.lemmas.rules.JudgedMessages.{MessageFault, message_judged, message_tells, message_broken}
use Rattle.pg_syntax.specs.declared.tree as tree
use Rattle.pg_syntax.specs.declared.tree.Statement.TheVariants as statements

-- ---- the message type that is one too many

abbrev pub OneMore : ℕ → List Message → ℕ → Type 0
OneMore left ms n = (m : Message) × (before : List Message) × (after : List Message) × (ms ≡ before ++ m ∷ after) × (length before ≡ left) × (n ≡ m.name.span.from)

few_judged : (left : ℕ) (ms : List Message) → Judged (broken rules.TooManyTypes (file_faults.too_many left ms)) (length ms ≤ left) (λ f. (n : ℕ) × OneMore left ms n × (f ≡ broken_at rules.TooManyTypes n))
few_judged left ms = at_one rules.TooManyTypes (file_faults.too_many left ms) (iff left ms) (is left ms) there
  where
    iff : (left : ℕ) (ms : List Message) → (file_faults.too_many left ms ≡ None) ↔ (length ms ≤ left)
    iff left [] = ((λ h. omega arith), λ h. refl)
    iff zero (m ∷ ms) = ((λ h. absurd (cc (h))), λ h. absurd (omega (arith, h)))
    iff (suc left) (m ∷ ms) = search (rules, iff left ms)

    is : (left : ℕ) (ms : List Message) (n : ℕ) → file_faults.too_many left ms ≡ Some n → OneMore left ms n
    is left [] n h = absurd (cc (h))
    is zero (m ∷ ms) n h = let same : m.name.span.from ≡ n = cc (h) in (m, [], ms, refl, refl, sym same)
    is (suc left) (m ∷ ms) n h =
        let (x, before, after, split, many, at) = is left ms n h in
        (x, m ∷ before, after, ap (λ ys. m ∷ ys) split, ap suc many, at)

    many_at : (before after : List Message) (m : Message) → file_faults.too_many (length before) (before ++ m ∷ after) ≡ Some m.name.span.from
    many_at [] after m = refl
    many_at (x ∷ xs) after m = many_at xs after m

    there : (n : ℕ) → OneMore left ms n → file_faults.too_many left ms ≡ Some n
    there n (m, before, after, split, many, at) = search (rules, many_at)

-- ---- statements

abbrev pub StatementFault : tree.Statement.Statement → Fault → Type 0
StatementFault p f = (v : tree.Service.Service) × (p ≡ statements.Service v) × ServiceFault v.parts.items f

statement_judged : (p : tree.Statement.Statement) → Judged (file_faults.statement_fault p) (StatementKeeps p) (StatementFault p)
statement_judged (statements.Empty span) = nothing tt (λ f h. let is = h.1 in cc (is))
statement_judged (statements.Import i) = nothing tt (λ f h. let is = h.1 in cc (is))
statement_judged (statements.Option o) = nothing tt (λ f h. let is = h.1 in cc (is))
statement_judged (statements.Message m) = nothing tt (λ f h. let is = h.1 in cc (is))
statement_judged (statements.Enum e) = nothing tt (λ f h. let is = h.1 in cc (is))
statement_judged (statements.Service v) =
    broken_as (service_judged v) (λ f h. (v, refl, h)) (λ f h. let same : v ≡ h.0 = cc (h.1) in subst (λ (x : tree.Service.Service). ServiceFault x.parts.items f) (sym same) h.2)

-- ---- files

abbrev pub FileFault : Source → ℕ → Fault → Type 0
FileFault s left f =
    (((n : ℕ) × OneMore left (file_messages s.tree) n × (f ≡ broken_at rules.TooManyTypes n))
    ⊎ (((m : Message) × IsOneOf (file_messages s.tree) m × MessageFault s.targets m.body f) ⊎ ((e : Enum) × IsOneOf (scoped_enums s.tree) e × EnumFault e.tree f)))
    ⊎ (OptionFault (files.file_lines s.tree) f
    ⊎ (((p : tree.Statement.Statement) × IsBehind StatementKeeps s.tree.statements.items p × StatementFault p f)
    ⊎ ((p : tree.Statement.Statement) × IsBehind StatementKeeps (statements_behind s.tree.packaged) p × StatementFault p f)))

pub file_judged : (s : Source) (left : ℕ) → Judged (file_faults.file_fault s.targets left s.tree) ((length (file_messages s.tree) ≤ left) × FileKeeps s) (FileFault s left)
file_judged s left =
    kept_as (both _ _
    (both _ _ (few_judged left (file_messages s.tree))
    (both _ _ (all (file_faults.message_fault s.targets) (λ (m : Message). MessageKeeps s.targets m.body) (λ (m : Message). MessageFault s.targets m.body) (λ m. message_judged s.targets m.body) (file_messages s.tree))
    (all file_faults.found_fault (λ (e : Enum). EnumKeeps e.tree.parts.items) (λ (e : Enum). EnumFault e.tree) (λ e. enum_judged e.tree) (scoped_enums s.tree))))
    (both _ _ (options_judged (files.file_lines s.tree))
    (both _ _ (each file_faults.statement_fault StatementKeeps StatementFault statement_judged s.tree.statements.items)
    (each file_faults.statement_fault StatementKeeps StatementFault statement_judged (statements_behind s.tree.packaged))))) (
      (λ h. (h.0.0, record { messages = h.0.1.0; enums = h.0.1.1; options = h.1.0; front = h.1.1.0; behind = h.1.1.1 })),
      λ k. ((k.0, (k.1.messages, k.1.enums)), (k.1.options, (k.1.front, k.1.behind))),
    )

-- ---- in the words of what is broken

abbrev TellsFile : Source → ℕ → Place → Fault → Type 0
TellsFile s left place f = BreaksFile s left place (error_of f.rule place) (order f.rule) f.declared f.at

pub file_tells : (s : Source) (left : ℕ) (place : Place) (f : Fault) → FileFault s left f → TellsFile s left place f
file_tells s left place f (inl (inl (n, (m, before, after, split, many, at), is))) =
    subst (TellsFile s left place) (sym (is ∙ ap (broken_at rules.TooManyTypes) at)) (too_many_types m before after split many)
file_tells s left place f (inl (inr (inl (m, one, h)))) = in_message m (error_of f.rule place) (order f.rule) f.declared f.at one (message_tells s.targets m.body place f h)
file_tells s left place f (inl (inr (inr (e, one, h)))) = in_enum e (error_of f.rule place) (order f.rule) f.declared f.at one (enum_tells e.tree place f h)
file_tells s left place f (inr (inl (n, first, is))) = subst (TellsFile s left place) (sym is) (bad_file_option n first)
file_tells s left place f (inr (inr (inl (p, behind, (v, same, h))))) =
    in_service v (error_of f.rule place) (order f.rule) f.declared f.at (subst (IsBehind StatementKeeps s.tree.statements.items) same behind) (service_tells v.parts.items place f h)
file_tells s left place f (inr (inr (inr (p, behind, (v, same, h))))) =
    in_packaged_service v (error_of f.rule place) (order f.rule) f.declared f.at (subst (IsBehind StatementKeeps (statements_behind s.tree.packaged)) same behind) (service_tells v.parts.items place f h)

pub file_found : (s : Source) (left : ℕ) (place : Place) (e : CheckError) (c d a : ℕ) → BreaksFile s left place e c d a → IsFound (file_faults.file_fault s.targets left s.tree) d c
file_found s left place e c d a h = of h
  where
    there : (f : Fault) → FileFault s left f → IsFound (file_faults.file_fault s.targets left s.tree) f.declared (order f.rule)
    there = (file_judged s left).found

    of : {e : CheckError} {c d a : ℕ} → BreaksFile s left place e c d a → IsFound (file_faults.file_fault s.targets left s.tree) d c
    of (too_many_types m before after split many) = there (broken_at rules.TooManyTypes m.name.span.from) (inl (inl (m.name.span.from, (m, before, after, split, many, refl), refl)))
    of (in_message m e c d a one h) =
        message_broken (IsFound (file_faults.file_fault s.targets left s.tree)) s.targets m.body place (λ f g. there f (inl (inr (inl (m, one, g))))) e c d a h
    of (in_enum n e c d a one h) = enum_broken (IsFound (file_faults.file_fault s.targets left s.tree)) n.tree place (λ f g. there f (inl (inr (inr (n, one, g))))) e c d a h
    of (bad_file_option at first) = there (broken_at rules.BadOption at) (inr (inl (at, first, refl)))
    of (in_service v e c d a behind h) =
        service_broken (IsFound (file_faults.file_fault s.targets left s.tree)) v.parts.items place (λ f g. there f (inr (inr (inl (statements.Service v, behind, (v, refl, g)))))) e c d a h
    of (in_packaged_service v e c d a behind h) =
        service_broken (IsFound (file_faults.file_fault s.targets left s.tree)) v.parts.items place (λ f g. there f (inr (inr (inr (statements.Service v, behind, (v, refl, g)))))) e c d a h
