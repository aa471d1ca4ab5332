use Rattle.std.proofs.Common.{◌≡◌, ◌∙◌, ◌+◌, ◌<◌, ℕ, List, [], ◌∷◌, ◌++◌, Some, true, false, sym, ap, subst, take, map, length, refl, string_bytes, arith, slice_index_or}
use Rattle.std.proofs.lemmas.List.{map_more, take_all}
use Rattle.std.proofs.lemmas.Result.{err_from_is_err_and}
use Rattle.pg_link.specs.declared.walk.imports.ImportLine as lines
use Rattle.pg_link.specs.declared.walk.Asking as askings
use Rattle.pg_link.specs.declared.walk.SourceFile as kept
use Rattle.pg_link.specs.declared.walk.reading.NewFile as news
use Rattle.pg_link.specs.names.Files.{Differ, is_path_of}
use Rattle.pg_link.specs.walk.Reads.{world_of}
use Rattle.pg_link.specs.walk.Walk.{World, Refuses}
use Rattle.pg_link.specs.inner.Walking.{Imports, IsSound, Follows, IsImportFault, VisitLists, entries, listed_paths, open_paths, has_path}
use Rattle.pg_link.proofs.lemmas.walk.LeadLaws.{all_listed}
use Rattle.pg_link.proofs.lemmas.walk.OrderLaws.{apart_more}
use Rattle.pg_link.proofs.lemmas.walk.PathLaws.{has_found}
use Rattle.pg_link.proofs.lemmas.walk.PostOrderLaws.{both_extend, file_listed, listed_before, next_listed, none_listed, same_extends, same_front}
use Rattle.pg_link.proofs.lemmas.walk.ReadLaws.{all_on, all_refused, at_most_new, imports_stopped, imports_way, none_new, none_read, not_begun, one_new, reads_on, same_world, unasked, way_done}
use Rattle.pg_link.proofs.lemmas.walk.WalkLaws.{follows_next, import_refused, line_path, new_refused, next_import, not_read, now_imports, one_more, open_count, reached_of, take_none}
use Rattle.pg_link.proofs.walk.+visits.Goals as goal

-- ---- a file

pub visit-returns-then-contains_key-clause-reads_new : goal.visit-returns-then-contains_key-clause-reads_new
visit-returns-then-contains_key-clause-reads_new g t c = none_new c.args.folder.now _ _ c.args.walk.now refl

pub visit-returns-then-contains_key-clause-reads_all : goal.visit-returns-then-contains_key-clause-reads_all
visit-returns-then-contains_key-clause-reads_all g t c = none_read c.args.folder.now _ _ c.args.walk.now refl

pub visit-returns-then-contains_key-clause-lists : goal.visit-returns-then-contains_key-clause-lists
visit-returns-then-contains_key-clause-lists g t c =
    listed_before c.args.walk.now c.args.path.now (has_found c.args.walk.now c.args.path.now ∙ (sym c.contains_key.ensures ∙ c.if-contains_key.true))

pub visit-returns-then-contains_key-clause-extends : goal.visit-returns-then-contains_key-clause-extends
visit-returns-then-contains_key-clause-extends g t c = same_extends c.args.walk.now c.args.walk.now refl

pub visit-returns-in_err-read-clause-reads_new : goal.visit-returns-in_err-read-clause-reads_new
visit-returns-in_err-read-clause-reads_new g t c =
    let none : has_path c.args.walk.now c.args.path.now ≡ false = has_found c.args.walk.now c.args.path.now ∙ (sym c.contains_key.ensures ∙ c.if-contains_key.false) in
    at_most_new c.args.folder.now _ _ c.args.walk.now c.args.path.now (not_begun c.args.walk.now c.args.path.now c.requires.1.1.1 none) c.in_err-read.ensures.asked_once

pub visit-returns-in_err-read-clause-refused : goal.visit-returns-in_err-read-clause-refused
visit-returns-in_err-read-clause-refused g t c =
    let walk = c.args.walk.now in
    let w = λ (roots : List (List ℕ)). world_of g.S.Sources c.args.source.now c.args.folder.now roots in
    let p = err_from_is_err_and c.from_residual.result c.from_residual.ensures.1 in
    let none : has_path walk c.args.path.now ≡ false = has_found walk c.args.path.now ∙ (sym c.contains_key.ensures ∙ c.if-contains_key.false) in
    rw (p.1, p.2) (λ roots f. new_refused (w roots) (open_paths walk) (entries walk) c.args.asking c.args.path.now _ c.in_err-read.field-0.0 f.is_sound f.asks
    c.requires.1.1.1 none (omega (arith, open_count walk, c.len.ensures.len, c.len-2.ensures.len)) c.in_err-read.ensures.fault)

pub visit-returns-in_err-begin-clause-reads_new : goal.visit-returns-in_err-begin-clause-reads_new
visit-returns-in_err-begin-clause-reads_new g t c =
    let none : has_path c.args.walk.now c.args.path.now ≡ false = has_found c.args.walk.now c.args.path.now ∙ (sym c.contains_key.ensures ∙ c.if-contains_key.false) in
    one_new c.args.folder.now _ _ c.args.walk.now c.args.path.now (not_begun c.args.walk.now c.args.path.now c.requires.1.1.1 none) c.in_ok-read.ensures.asked

pub visit-returns-in_err-visit_imports-clause-reads_new : goal.visit-returns-in_err-visit_imports-clause-reads_new
visit-returns-in_err-visit_imports-clause-reads_new g t c =
    let walk = c.args.walk.now in
    let path : List ℕ = c.args.path.now in
    let none : has_path walk path ≡ false = has_found walk path ∙ (sym c.contains_key.ensures ∙ c.if-contains_key.false) in
    imports_stopped c.args.folder.now _ _ _ walk c.begin.new.self path c.requires.1.1.1 none c.in_ok-read.ensures.asked
    c.in_ok-begin.ensures.same c.in_ok-begin.ensures.opened c.in_err-visit_imports.ensures.reads_new

pub visit-returns-in_err-visit_imports-clause-refused : goal.visit-returns-in_err-visit_imports-clause-refused
visit-returns-in_err-visit_imports-clause-refused g t c =
    let walk = c.args.walk.now in
    let path : List ℕ = c.args.path.now in
    let read : news.NewFile = c.in_ok-read.read in
    let e = c.in_err-visit_imports.field-0.0 in
    let w = λ (roots : List (List ℕ)). world_of g.S.Sources c.args.source.now c.args.folder.now roots in
    let p = err_from_is_err_and c.from_residual-in_err-visit_imports.result c.from_residual-in_err-visit_imports.ensures.1 in
    let none : has_path walk path ≡ false = has_found walk path ∙ (sym c.contains_key.ensures ∙ c.if-contains_key.false) in
    let room : length (open_paths walk) + length (entries walk) < 1024 = omega (arith, open_count walk, c.len.ensures.len, c.len-2.ensures.len, c.in_ok-read.ensures.room) in
    rw (p.1, p.2) (λ roots f.
    let now = same_world g.S.Sources c.args.source.now c.read_new.new.source 0 c.args.folder.now roots c.in_ok-read.ensures.reads in
    let i = now_imports (w roots) walk c.begin.new.self c.args.asking path read f c.in_ok-begin.ensures.same c.in_ok-begin.ensures.opened c.requires.1.1.1 none room
    record { is_given = c.in_ok-read.ensures.given; is_parsed = c.in_ok-read.ensures.parsed } c.in_ok-read.ensures.lines in
    subst (λ (x : World). Refuses x e) now
    (c.in_err-visit_imports.ensures.refused roots (subst (λ (x : World). Imports x c.begin.new.self path read) (sym now) i)))

pub visit-returns-clause-sound : goal.visit-returns-clause-sound
visit-returns-clause-sound g t c = λ roots f.
    let walk = c.args.walk.now in
    let path : List ℕ = c.args.path.now in
    let begun = c.begin.new.self in
    let mid = c.visit_imports.new.walk in
    let new = c.end.new.self in
    let read : news.NewFile = c.in_ok-read.read in
    let ls : List lines.ImportLine = read.lines.items in
    let w = world_of g.S.Sources c.args.source.now c.args.folder.now roots in
    let none : has_path walk path ≡ false = has_found walk path ∙ (sym c.contains_key.ensures ∙ c.if-contains_key.false) in
    let room : length (open_paths walk) + length (entries walk) < 1024 = omega (arith, open_count walk, c.len.ensures.len, c.len-2.ensures.len, c.in_ok-read.ensures.room) in
    let now = same_world g.S.Sources c.args.source.now c.read_new.new.source 0 c.args.folder.now roots c.in_ok-read.ensures.reads in
    let i = now_imports w walk begun c.args.asking path read f c.in_ok-begin.ensures.same c.in_ok-begin.ensures.opened c.requires.1.1.1 none room
    record { is_given = c.in_ok-read.ensures.given; is_parsed = c.in_ok-read.ensures.parsed } c.in_ok-read.ensures.lines in
    let after = c.in_ok-visit_imports.ensures in
    let sound : IsSound w (path ∷ open_paths walk) (entries mid) =
    subst (λ (x : World). IsSound x (path ∷ open_paths walk) (entries mid)) now
    (subst (λ (ps : List (List ℕ)). IsSound (world_of g.S.Sources c.read_new.new.source c.args.folder.now roots) ps (entries mid)) c.in_ok-begin.ensures.opened
    (after.sound roots (subst (λ (x : World). Imports x begun path read) (sym now) i))) in
    let last = c.in_ok-end.ensures.comes (not_read w path (open_paths walk) (entries mid) sound) in
    one_more w path (open_paths walk) (entries mid) (entries new) last.0 read.file ls sound last.1 last.2
    i.may_be (reached_of w (open_paths walk) c.args.asking path f.asks) c.in_ok-read.ensures.lines
    (all_listed mid (listed_paths begun) (map line_path ls) after.lists)
    after.apart

pub visit-returns-clause-opened : goal.visit-returns-clause-opened
visit-returns-clause-opened g t c =
    c.in_ok-end.ensures.opened _ _ (c.in_ok-visit_imports.ensures.opened ∙ c.in_ok-begin.ensures.opened)

pub visit-returns-clause-reads_new : goal.visit-returns-clause-reads_new
visit-returns-clause-reads_new g t c =
    let walk = c.args.walk.now in
    let path : List ℕ = c.args.path.now in
    let none : has_path walk path ≡ false = has_found walk path ∙ (sym c.contains_key.ensures ∙ c.if-contains_key.false) in
    imports_stopped c.args.folder.now _ _ _ walk c.begin.new.self path c.requires.1.1.1 none c.in_ok-read.ensures.asked
    c.in_ok-begin.ensures.same c.in_ok-begin.ensures.opened c.in_ok-visit_imports.ensures.reads_all.reads

pub visit-returns-in_err-end-clause-reads_new : goal.visit-returns-in_err-end-clause-reads_new
visit-returns-in_err-end-clause-reads_new g t c =
    let walk = c.args.walk.now in
    let path : List ℕ = c.args.path.now in
    let none : has_path walk path ≡ false = has_found walk path ∙ (sym c.contains_key.ensures ∙ c.if-contains_key.false) in
    imports_stopped c.args.folder.now _ _ _ walk c.begin.new.self path c.requires.1.1.1 none c.in_ok-read.ensures.asked
    c.in_ok-begin.ensures.same c.in_ok-begin.ensures.opened c.in_ok-visit_imports.ensures.reads_all.reads

pub visit-returns-clause-reads_all : goal.visit-returns-clause-reads_all
visit-returns-clause-reads_all g t c =
    let walk = c.args.walk.now in
    let path : List ℕ = c.args.path.now in
    let none : has_path walk path ≡ false = has_found walk path ∙ (sym c.contains_key.ensures ∙ c.if-contains_key.false) in
    let way = imports_way c.args.folder.now _ _ _ walk c.begin.new.self c.visit_imports.new.walk path c.requires.1.1.1 none c.in_ok-read.ensures.asked
    c.in_ok-begin.ensures.same c.in_ok-begin.ensures.opened c.in_ok-visit_imports.ensures.reads_all in
    let last = c.in_ok-end.ensures.comes way.is_unread in
    way_done c.args.folder.now _ _ walk c.visit_imports.new.walk c.end.new.self path last.0 c.in_ok-read.read.file way last.1 last.2

pub visit-returns-clause-extends : goal.visit-returns-clause-extends
visit-returns-clause-extends g t c =
    let walk = c.args.walk.now in
    let path : List ℕ = c.args.path.now in
    let mid = c.visit_imports.new.walk in
    let none : has_path walk path ≡ false = has_found walk path ∙ (sym c.contains_key.ensures ∙ c.if-contains_key.false) in
    let way = imports_way c.args.folder.now _ _ _ walk c.begin.new.self mid path c.requires.1.1.1 none c.in_ok-read.ensures.asked
    c.in_ok-begin.ensures.same c.in_ok-begin.ensures.opened c.in_ok-visit_imports.ensures.reads_all in
    let last = c.in_ok-end.ensures.comes way.is_unread in
    let file : kept.SourceFile = c.in_ok-read.read.file in
    both_extend walk mid c.end.new.self (both_extend walk c.begin.new.self mid (same_extends walk c.begin.new.self c.in_ok-begin.ensures.same) c.in_ok-visit_imports.ensures.extends)
    ((last.0, file) ∷ [], last.2)

pub visit-returns-clause-lists : goal.visit-returns-clause-lists
visit-returns-clause-lists g t c =
    let walk = c.args.walk.now in
    let path : List ℕ = c.args.path.now in
    let mid = c.visit_imports.new.walk in
    let none : has_path walk path ≡ false = has_found walk path ∙ (sym c.contains_key.ensures ∙ c.if-contains_key.false) in
    let way = imports_way c.args.folder.now _ _ _ walk c.begin.new.self mid path c.requires.1.1.1 none c.in_ok-read.ensures.asked
    c.in_ok-begin.ensures.same c.in_ok-begin.ensures.opened c.in_ok-visit_imports.ensures.reads_all in
    let last = c.in_ok-end.ensures.comes way.is_unread in
    let read : news.NewFile = c.in_ok-read.read in
    file_listed walk mid c.end.new.self path last.0 read.file read.lines.items
    (same_front walk c.begin.new.self mid (map line_path read.lines.items) c.in_ok-begin.ensures.same c.in_ok-visit_imports.ensures.lists)
    c.in_ok-read.ensures.lines last.1 last.2 none way.is_unread

-- ---- its imports

pub visit_imports-lines-init : goal.visit_imports-lines-init
visit_imports-lines-init g t c =
    let walk = c.args.walk.now in
    let ls : List lines.ImportLine = c.args.read.now.lines.items in
    record {
      sound = λ roots i. i.is_sound;
      opened = refl;
      before_is = ap (map string_bytes) c.new-before.ensures.empty ∙ ap (map line_path) (sym (take_none ls));
      differ = subst Differ (ap (map line_path) (sym (take_none ls))) tt;
      extends = same_extends walk walk refl;
      lists = none_listed walk walk (map line_path (take 0 ls)) refl (ap (map line_path) (take_none ls));
      asked = none_read c.args.folder.now _ _ walk refl;
      reads = unasked g.S.Sources c.args.source.now;
    }

pub visit_imports-returns-in_err-check-clause-refused : goal.visit_imports-returns-in_err-check-clause-refused
visit_imports-returns-in_err-check-clause-refused g t c =
    let path : List ℕ = c.args.path.now in
    let inv = c.lines.invariant in
    let line : lines.ImportLine = c.index-line.result.now in
    let read : news.NewFile = c.args.read.now in
    let here : askings.Asking = record { file = c.args.path; text = c.deref.result; at = line.at } in
    let next : List ℕ = c.as_str-next.result.now in
    let before : List (List ℕ) = map string_bytes c.lines.before.keys in
    let e = c.in_err-check.field-0.0 in
    let w = λ (roots : List (List ℕ)). world_of g.S.Sources c.args.source.now c.args.folder.now roots in
    let p = err_from_is_err_and c.from_residual.result c.from_residual.ensures.1 in
    rw (p.1, p.2) (λ roots i.
    let fault : IsImportFault (path ∷ i.before) before here next e =
    subst (λ (ps : List (List ℕ)). IsImportFault ps before here next e) (inv.opened ∙ i.opened) c.in_err-check.ensures.fault in
    let n = next_import (w roots) path read.file.bytes.items here.text.now next read.file.tree read.lines.items c.lines.index line
    i.may_be c.deref.ensures.value c.as_str-next.ensures.value i.its (omega arith) c.index-line.ensures in
    import_refused (w roots) i.before path here next before e refl n.0 i.comes (n.1 ∙ sym inv.before_is) fault)

pub visit_imports-returns-in_err-check-clause-reads_new : goal.visit_imports-returns-in_err-check-clause-reads_new
visit_imports-returns-in_err-check-clause-reads_new g t c = c.lines.invariant.asked.reads

pub visit_imports-returns-in_err-visit-clause-refused : goal.visit_imports-returns-in_err-visit-clause-refused
visit_imports-returns-in_err-visit-clause-refused g t c =
    let path : List ℕ = c.args.path.now in
    let inv = c.lines.invariant in
    let line : lines.ImportLine = c.index-line.result.now in
    let read : news.NewFile = c.args.read.now in
    let here : askings.Asking = record { file = c.args.path; text = c.deref.result; at = line.at } in
    let next : List ℕ = c.as_str-next.result.now in
    let e = c.in_err-visit.field-0.0 in
    let w = λ (roots : List (List ℕ)). world_of g.S.Sources c.args.source.now c.args.folder.now roots in
    let p = err_from_is_err_and c.from_residual-in_err-visit.result c.from_residual-in_err-visit.ensures.1 in
    rw (p.1, p.2) (λ roots i.
    let now = same_world g.S.Sources c.args.source.now c.lines.source 0 c.args.folder.now roots inv.reads in
    let n = next_import (w roots) path read.file.bytes.items here.text.now next read.file.tree read.lines.items c.lines.index line
    i.may_be c.deref.ensures.value c.as_str-next.ensures.value i.its (omega arith) c.index-line.ensures in
    let sound : IsSound (w roots) (path ∷ i.before) (entries c.lines.walk) =
    subst (λ (ps : List (List ℕ)). IsSound (w roots) ps (entries c.lines.walk)) i.opened (inv.sound roots i) in
    let follows = follows_next (w roots) c.lines.walk path i.before here next (inv.opened ∙ i.opened) sound refl n.0 i.comes in
    subst (λ (x : World). Refuses x e) now
    (c.in_err-visit.ensures.refused roots (subst (λ (x : World). Follows x c.lines.walk (Some here) next) (sym now) follows)))

pub visit_imports-returns-in_err-visit-clause-reads_new : goal.visit_imports-returns-in_err-visit-clause-reads_new
visit_imports-returns-in_err-visit-clause-reads_new g t c =
    let inv = c.lines.invariant in
    all_refused c.args.folder.now _ _ _ c.args.walk.now c.lines.walk inv.asked inv.opened c.in_err-visit.ensures.reads_new

pub visit_imports-lines-preserved : goal.visit_imports-lines-preserved
visit_imports-lines-preserved g t c =
    let walk = c.args.walk.now in
    let path : List ℕ = c.args.path.now in
    let inv = c.lines.invariant in
    let after = c.in_ok-visit.ensures in
    let new = c.visit.new.walk in
    let read : news.NewFile = c.args.read.now in
    let ls : List lines.ImportLine = read.lines.items in
    let line : lines.ImportLine = c.index-line.result.now in
    let here : askings.Asking = record { file = c.args.path; text = c.deref.result; at = line.at } in
    let next : List ℕ = c.as_str-next.result.now in
    let w = λ (roots : List (List ℕ)). world_of g.S.Sources c.args.source.now c.args.folder.now roots in
    let within : c.lines.index < length ls = omega arith in
    let at : next ≡ line_path (slice_index_or ls c.lines.index line) = c.as_str-next.ensures.value ∙ ap line_path c.index-line.ensures in
    let more : map line_path (take (c.lines.index + 1) ls) ≡ map line_path (take c.lines.index ls) ++ next ∷ [] =
    map_more line_path ls c.lines.index line within ∙ ap (λ (q : List ℕ). map line_path (take c.lines.index ls) ++ q ∷ []) (sym at) in
    let first : is_path_of (map line_path (take c.lines.index ls)) next ≡ false =
    subst (λ (qs : List (List ℕ)). is_path_of qs next ≡ false) inv.before_is c.in_ok-check.ensures.first in
    record {
      sound = λ roots i.
          let now = same_world g.S.Sources c.args.source.now c.lines.source 0 c.args.folder.now roots inv.reads in
          let n = next_import (w roots) path read.file.bytes.items here.text.now next read.file.tree ls c.lines.index line
          i.may_be c.deref.ensures.value c.as_str-next.ensures.value i.its within c.index-line.ensures in
          let sound : IsSound (w roots) (path ∷ i.before) (entries c.lines.walk) =
          subst (λ (ps : List (List ℕ)). IsSound (w roots) ps (entries c.lines.walk)) i.opened (inv.sound roots i) in
          let follows = follows_next (w roots) c.lines.walk path i.before here next (inv.opened ∙ i.opened) sound refl n.0 i.comes in
          subst (λ (x : World). IsSound x (open_paths walk) (entries new)) now
          (subst (λ (ps : List (List ℕ)). IsSound (world_of g.S.Sources c.lines.source c.args.folder.now roots) ps (entries new)) inv.opened
          (after.sound roots (subst (λ (x : World). Follows x c.lines.walk (Some here) next) (sym now) follows)));
      opened = after.opened ∙ inv.opened;
      before_is = c.in_ok-check.ensures.noted ∙ (ap (λ (qs : List (List ℕ)). qs ++ next ∷ []) inv.before_is ∙ sym more);
      differ = subst Differ (sym more) (apart_more (map line_path (take c.lines.index ls)) next inv.differ first);
      extends = both_extend walk c.lines.walk new inv.extends after.extends;
      lists = subst (λ (qs : List (List ℕ)). VisitLists (listed_paths walk) qs new) (sym more)
          (next_listed (listed_paths walk) (map line_path (take c.lines.index ls)) next c.lines.walk new inv.lists after.extends after.lists);
      asked = all_on c.args.folder.now _ _ _ walk c.lines.walk new inv.asked inv.opened after.reads_all;
      reads = reads_on g.S.Sources c.args.source.now c.lines.source _ 0 inv.reads after.reads;
    }

pub visit_imports-returns-clause-lists : goal.visit_imports-returns-clause-lists
visit_imports-returns-clause-lists g t c =
    let ls : List lines.ImportLine = c.args.read.now.lines.items in
    let whole : take c.lines.index ls ≡ ls = take_all c.lines.index ls (omega arith) in
    subst (λ (xs : List lines.ImportLine). VisitLists (listed_paths c.args.walk.now) (map line_path xs) c.lines.walk) whole c.lines.invariant.lists

pub visit_imports-returns-clause-apart : goal.visit_imports-returns-clause-apart
visit_imports-returns-clause-apart g t c =
    let ls : List lines.ImportLine = c.args.read.now.lines.items in
    let whole : take c.lines.index ls ≡ ls = take_all c.lines.index ls (omega arith) in
    subst (λ (xs : List lines.ImportLine). Differ (map line_path xs)) whole c.lines.invariant.differ

pub visit_imports-returns-clause-reads_new : goal.visit_imports-returns-clause-reads_new
visit_imports-returns-clause-reads_new g t c = c.lines.invariant.asked.reads
