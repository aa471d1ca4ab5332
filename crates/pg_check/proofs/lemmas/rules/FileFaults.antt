-- The first rule that files break, one file after the other.
use Rattle.std.proofs.Common.{◌≡◌, ◌∙◌, ℕ, ◌+◌, ◌-◌, ◌<◌, List, [], ◌∷◌, map, drop, get_or, length, Option, Some, None, sym, ap, rules}
use Rattle.pg_check.specs.declared.declare.FileFault.{FileFault}
use Rattle.pg_check.specs.declared.rules.fault.Fault.{Fault}
use Rattle.pg_check.specs.declared.parts.made_parts.Source as code
use Rattle.pg_check.specs.inner.FirstBroken.{files_fault, in_file}
use Rattle.pg_check.specs.inner.FileFaults.{file_fault}
use Rattle.pg_check.specs.parts.MadeParts.{Source}
use Rattle.pg_check.specs.rules.Outline.{file_messages}
use Rattle.pg_check.specs.inner.Sources.{source}
use Rattle.pg_check.proofs.lemmas.rules.FirstLaws.{item_and_rest}

-- the fault of the next file, and those after it
step : (left place : ℕ) (files : List code.Source) (i : ℕ) (x : code.Source) (f : Option Fault) (whole : Option FileFault) → i < length files → x ≡ get_or files i x
    → f ≡ file_fault (source x).targets left (source x).tree → files_fault left place (map source (drop i files)) ≡ whole
    → in_file place f (files_fault (left - length (file_messages (source x).tree)) (place + 1) (map source (drop (i + 1) files))) ≡ whole
step left place files i x f whole h is fault before =
    ap (λ g. in_file place g (files_fault (left - length (file_messages (source x).tree)) (place + 1) (map source (drop (i + 1) files)))) fault
    ∙ (sym (ap (λ xs. files_fault left place (map source xs)) (item_and_rest files i x h ∙ ap (λ y. y ∷ drop (i + 1) files) (sym is))) ∙ before)

pub found_fault : (left place : ℕ) (files : List code.Source) (i : ℕ) (x : code.Source) (f : Option Fault) (fault : Fault) (whole : Option FileFault) → i < length files → x ≡ get_or files i x
    → f ≡ file_fault (source x).targets left (source x).tree → f ≡ Some fault → files_fault left place (map source (drop i files)) ≡ whole
    → Some (record { file = place; fault = fault }) ≡ whole
found_fault left place files i x f fault whole h is of some before =
    ap (λ g. in_file place g (files_fault (left - length (file_messages (source x).tree)) (place + 1) (map source (drop (i + 1) files)))) (sym some)
    ∙ step left place files i x f whole h is of before

pub next_file : (left place next : ℕ) (files : List code.Source) (i : ℕ) (x : code.Source) (f : Option Fault) (whole : Option FileFault) → i < length files → x ≡ get_or files i x
    → f ≡ file_fault (source x).targets left (source x).tree → f ≡ None → next ≡ left - length (file_messages (source x).tree) → files_fault left place (map source (drop i files)) ≡ whole
    → files_fault next (place + 1) (map source (drop (i + 1) files)) ≡ whole
next_file left place next files i x f whole h is of none goes before =
    ap (λ n. files_fault n (place + 1) (map source (drop (i + 1) files))) goes
    ∙ (ap (λ g. in_file place g (files_fault (left - length (file_messages (source x).tree)) (place + 1) (map source (drop (i + 1) files)))) (sym none)
    ∙ step left place files i x f whole h is of before)

-- the file whose fault is reported is one of them
pub fault_within : (left place : ℕ) (ss : List Source) (f : FileFault) → files_fault left place ss ≡ Some f → f.file < place + length ss
fault_within left place [] f h = absurd (cc (h))
fault_within left place (s ∷ ss) f h = search (rules, fault_within (left - length (file_messages s.tree)) (place + 1) ss f)
