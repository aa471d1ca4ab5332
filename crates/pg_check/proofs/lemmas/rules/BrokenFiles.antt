-- What is reported of files is a rule that the first of them breaks which breaks one, and each rule that it breaks comes no earlier.
use Rattle.std.proofs.Common.{◌≡◌, ◌∙◌, ◌+◌, ◌-◌, ℕ, List, [], ◌∷◌, ◌++◌, length, flat_map, Option, Some, None, slice_get, sym, ap, subst, refl, arith, length-append, rules}
use Rattle.pg_link.specs.declared.error.Place.{Place}
use Rattle.pg_link.specs.walk.Walk.{IsPlace}
use Rattle.pg_check.specs.declared.declare.FileFault.{FileFault}
use Rattle.pg_check.specs.declared.error.CheckError.{CheckError}
use Rattle.pg_check.specs.declared.rules.fault.Fault.{Fault}
use Rattle.pg_check.specs.rules.BrokenRules.{BreaksFile, IsFirstBroken, left_behind}
use Rattle.pg_check.specs.inner.FirstBroken.{files_fault, first_broken, in_file}
use Rattle.pg_check.specs.Errors.{error_of}
use Rattle.pg_check.specs.inner.Faults.{order}
use Rattle.pg_check.specs.inner.FileFaults as files
use Rattle.pg_check.specs.rules.KeepsRules.{KeepsRules, source_messages}
use Rattle.pg_check.specs.parts.MadeParts.{Source}
use Rattle.pg_check.specs.rules.Outline.{file_messages}
use Rattle.pg_check.proofs.lemmas.rules.FirstFaults.{IsFound}
use Rattle.pg_check.proofs.lemmas.rules.JudgedFiles.{file_found, file_judged, file_tells}
use Rattle.pg_check.proofs.lemmas.rules.KeepingFiles.{in_file_none, none_broken}

-- ---- files

record HasFirst (left place : ℕ) (ss : List Source) (f : FileFault) : Type 0 where
  before : List Source
  file : Source
  after : List Source
  is : ss ≡ before ++ file ∷ after
  none : files_fault left place before ≡ None
  at : f.file ≡ place + length before
  fault : files.file_fault file.targets (left - length (flat_map source_messages before)) file.tree ≡ Some f.fault

has_first : (left place : ℕ) (ss : List Source) (f : FileFault) → files_fault left place ss ≡ Some f → HasFirst left place ss f
has_first left place [] f h = absurd (cc (h))
has_first left place (s ∷ ss) f h = by (files.file_fault s.targets left s.tree) refl h (has_first (left - length (file_messages s.tree)) (place + 1) ss f)
  where
    others : Option FileFault
    others = files_fault (left - length (file_messages s.tree)) (place + 1) ss

    by : (o : Option Fault) → files.file_fault s.targets left s.tree ≡ o → in_file place o others ≡ Some f
        → (others ≡ Some f → HasFirst (left - length (file_messages s.tree)) (place + 1) ss f) → HasFirst left place (s ∷ ss) f
    by (Some x) e g k =
        let same : record { file = place; fault = x } ≡ f = cc (g) in
        let whole : left ≡ left - 0 = omega arith in
        let at : place ≡ f.file = ap (λ (g : FileFault). g.file) same in record {
          before = [];
          file = s;
          after = ss;
          is = refl;
          none = refl;
          at = omega (arith, at);
          fault = ap (λ n. files.file_fault s.targets n s.tree) (sym whole) ∙ (e ∙ ap (λ (g : FileFault). Some g.fault) same);
        }
    by None e g k =
        let r = k g in
        let mine = file_messages s.tree in
        let theirs = flat_map source_messages r.before in
        let at : f.file ≡ place + 1 + length r.before = r.at in
        let sum : length (mine ++ theirs) ≡ length mine + length theirs = length-append mine theirs in
        let less : left - length (mine ++ theirs) ≡ left - length mine - length theirs = omega (arith, sum) in record {
          before = s ∷ r.before;
          file = r.file;
          after = r.after;
          is = ap (λ ys. s ∷ ys) r.is;
          none = (in_file_none place (files.file_fault s.targets left s.tree) (files_fault (left - length mine) (place + 1) r.before)).1 (e, r.none);
          at = omega (arith, at);
          fault = ap (λ n. files.file_fault r.file.targets n r.file.tree) less ∙ r.fault;
        }

at_length : (before after : List Source) (s : Source) → slice_get (before ++ s ∷ after) (length before) ≡ Some s
at_length [] after s = refl
at_length (x ∷ xs) after s = at_length xs after s

is_the_file : (ss before after : List Source) (n : ℕ) (s file : Source) → ss ≡ before ++ s ∷ after → n ≡ 0 + length before → slice_get ss n ≡ Some file → s ≡ file
is_the_file ss before after n s file is at there =
    let same : n ≡ length before = omega (arith, at) in
    let one : slice_get (before ++ s ∷ after) (length before) ≡ Some file = ap (slice_get (before ++ s ∷ after)) (sym same) ∙ (ap (λ l. slice_get l n) (sym is) ∙ there) in
    let two = at_length before after s in
    let both : Some s ≡ Some file = sym two ∙ one in cc (both)

-- the error of the first fault, where it is
pub record IsReported (files : List Source) (e : CheckError) : Type 0 where
  pub fault : FileFault
  pub is_first : first_broken files ≡ Some fault
  pub file : Source
  pub is_there : slice_get files fault.file ≡ Some file
  pub place : Place
  pub is_place : IsPlace place file.path file.text fault.fault.at
  pub is : e ≡ error_of fault.fault.rule place

pub reported : (ss : List Source) (e : CheckError) → IsReported ss e → IsFirstBroken ss e
reported ss e h =
    let r = has_first 4096 0 ss h.fault h.is_first in
    let f = h.fault.fault in
    let left = left_behind r.before in
    let same = is_the_file ss r.before r.after h.fault.file r.file h.file r.is r.at h.is_there in
    let fault : files.file_fault h.file.targets left h.file.tree ≡ Some f = ap (λ (s : Source). files.file_fault s.targets left s.tree) (sym same) ∙ r.fault in record {
      before = r.before;
      file = h.file;
      after = r.after;
      is = r.is ∙ ap (λ (s : Source). r.before ++ s ∷ r.after) same;
      before_keep = (none_broken r.before).0 r.none;
      place = h.place;
      code = order f.rule;
      declared = f.declared;
      at = f.at;
      is_place = h.is_place;
      breaks = subst (λ x. BreaksFile h.file left h.place x (order f.rule) f.declared f.at) (sym h.is) (file_tells h.file left h.place f ((file_judged h.file left).meets f fault));
      is_first = λ p other c d a b. subst (λ o. IsFound o d c) fault (file_found h.file left p other c d a b);
    }

-- ---- files that keep to the rules

none_at : (left place : ℕ) (before after : List Source) (s : Source) → files_fault left place (before ++ s ∷ after) ≡ None
    → files.file_fault s.targets (left - length (flat_map source_messages before)) s.tree ≡ None
none_at left place [] after s none = search (rules, in_file_none)
none_at left place (b ∷ bs) after s none =
    let mine = file_messages b.tree in
    let theirs = flat_map source_messages bs in
    let (own, others) = (in_file_none place (files.file_fault b.targets left b.tree) (files_fault (left - length mine) (place + 1) (bs ++ s ∷ after))).0 none in
    let sum : length (mine ++ theirs) ≡ length mine + length theirs = length-append mine theirs in
    let less : left - length (mine ++ theirs) ≡ left - length mine - length theirs = omega (arith, sum) in
    ap (λ n. files.file_fault s.targets n s.tree) less ∙ none_at (left - length mine) (place + 1) bs after s others

-- they break none
pub kept_unbroken : (ss : List Source) (e : CheckError) → KeepsRules ss → IsFirstBroken ss e → ⊥
kept_unbroken ss e keep h =
    let none = none_at 4096 0 h.before h.after h.file (subst (λ xs. first_broken xs ≡ None) h.is ((none_broken ss).1 keep)) in
    subst (λ o. IsFound o h.declared h.code) none (file_found h.file (left_behind h.before) h.place e h.code h.declared h.at h.breaks)
