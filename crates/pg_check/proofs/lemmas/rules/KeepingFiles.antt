-- No rule is reported of files exactly where they keep to the rules.
use Rattle.std.proofs.Common.{◌≡◌, ◌↔◌, ◌+◌, ◌-◌, ◌≤◌, ℕ, List, [], ◌∷◌, ◌++◌, length, flat_map, Option, None, sym, subst, refl, arith, length-append, rules}
use Rattle.std.specs.List.{AllByRecursion}
use Rattle.pg_check.specs.declared.declare.FileFault.{FileFault}
use Rattle.pg_check.specs.declared.rules.fault.Fault.{Fault}
use Rattle.pg_check.specs.inner.FileFaults as files
use Rattle.pg_check.specs.inner.FirstBroken.{files_fault, first_broken, in_file}
use Rattle.pg_check.specs.rules.KeepsRules.{FileKeeps, KeepsRules, source_messages}
use Rattle.pg_check.specs.parts.MadeParts.{Source}
use Rattle.pg_check.specs.rules.Outline.{file_messages}
use Rattle.pg_check.proofs.lemmas.rules.JudgedFiles.{file_judged}

pub in_file_none : (place : ℕ) (f : Option Fault) (others : Option FileFault) → (in_file place f others ≡ None) ↔ ((f ≡ None) × (others ≡ None))
in_file_none place f others = grind arith

split_count : (m n left : ℕ) → (m + n ≤ left) ↔ ((m ≤ left) × (n ≤ left - m))
split_count m n left = ((λ h. (omega (arith, h), omega (arith, h))), λ h. let a = h.0 in let b = h.1 in omega (arith, a, b))

files_keep : (left place : ℕ) (ss : List Source) → (files_fault left place ss ≡ None) ↔ ((length (flat_map source_messages ss) ≤ left) × AllByRecursion FileKeeps ss)
files_keep left place [] = ((λ h. (omega arith, tt)), λ h. refl)
files_keep left place (s ∷ ss) =
    let ms = file_messages s.tree in
    let two = in_file_none place (files.file_fault s.targets left s.tree) (files_fault (left - length ms) (place + 1) ss) in
    let one = (file_judged s left).none in
    let others = files_keep (left - length ms) (place + 1) ss in
    let count = split_count (length ms) (length (flat_map source_messages ss)) left in
    let all : length (ms ++ flat_map source_messages ss) ≡ length ms + length (flat_map source_messages ss) = length-append ms (flat_map source_messages ss) in (
      (λ h. let e = two.0 h in let f = one.0 e.0 in let g = others.0 e.1 in (subst (λ n. n ≤ left) (sym all) (count.1 (f.0, g.0)), (f.1, g.1))),
      λ k. let c = count.0 (subst (λ n. n ≤ left) all k.0) in two.1 (one.1 (c.0, k.1.0), others.1 (c.1, k.1.1)),
    )

pub none_broken : (ss : List Source) → (first_broken ss ≡ None) ↔ KeepsRules ss
none_broken ss = search (rules, files_keep)
