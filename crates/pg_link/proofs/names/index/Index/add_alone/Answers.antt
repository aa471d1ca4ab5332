use Rattle.std.proofs.Common.{◌≡◌, ◌∙◌, ◌&&◌, ℕ, Bool, true, false, List, Some, None, inl, refl, sym, ap, string_bytes}
use Rattle.std.proofs.lemmas.Map.Text.{hash_map_updates_text}
use Rattle.std.specs.HashMap.{get_by_text}
use Rattle.std.specs.Map.{update}
use Rattle.std.specs.Str.{bytes_eq}
use Rattle.pg_link.specs.declared.names.index.Index as indexes
use Rattle.pg_link.specs.declared.names.Named as nameds
use Rattle.pg_link.specs.names.Names.{is_package}
use Rattle.pg_link.specs.inner.Made.{declared_of}
use Rattle.pg_link.specs.names.Standing.{Standing, bearer, standing}
use Rattle.pg_link.specs.inner.Indexed.{added, view}
use Rattle.pg_link.proofs.lemmas.names.NumberLaws.{numbered_more}
use Rattle.pg_link.proofs.lemmas.names.StandingLaws.{holds_more, none_held, one_held}
use Rattle.pg_link.proofs.names.index.Index.add_alone.Goals as goal

neither : (a b : Bool) → b ≡ false → (a && b) ≡ false
neither true b none = none
neither false b none = refl

pub returns : goal.returns
returns c = λ all lists.
    let old : indexes.Index = c.args.self.now in
    let mid : indexes.Index = c.count.new.self in
    let new : indexes.Index = record { names = c.insert.new.self; messages = mid.messages; enums = mid.enums } in
    let kept = c.in_ok-count.ensures.names in
    let s : Standing = standing c.args.file (declared_of c.args.declared) in
    let n : nameds.Named = c.first-named.result in
    let name : List ℕ = string_bytes c.args.declared.name in
    let absent : get_by_text old.names name ≡ None = ap (λ m. get_by_text m name) (sym kept) ∙ (sym c.in_ok-insert.ensures.old ∙ c.in-None.is) in
    let none : bearer all name ≡ None = none_held old.names all name lists.0 absent in
    let made : view n ≡ added s (bearer all name) = c.first-named.ensures.added ∙ ap (added s) (sym none) in
    let now : (cs : List ℕ) → get_by_text new.names cs ≡ update bytes_eq (get_by_text old.names) name (Some n) cs =
    λ cs. hash_map_updates_text name mid.names new.names _ c.in_ok-insert.ensures.updates cs ∙ ap (λ m. update bytes_eq (get_by_text m) name (Some n) cs) kept in (
      inl none,
      (
        holds_more old.names new.names all s n name refl now lists.0 made,
        numbered_more old new all s n name refl now c.in_ok-count.ensures.messages c.in_ok-count.ensures.enums (inl none) made
            (c.first-named.ensures.number ∙ c.next_number-number.ensures) lists.1,
      ),
    )

pub returns-in-Some : goal.returns-in-Some
returns-in-Some c = λ all lists.
    let old : indexes.Index = c.args.self.now in
    let n : nameds.Named = c.in-Some.field-0 in
    let name : List ℕ = string_bytes c.args.declared.name in
    let found : get_by_text old.names name ≡ Some n = ap (λ m. get_by_text m name) (sym c.in_ok-count.ensures.names) ∙ (sym c.in_ok-insert.ensures.old ∙ c.in-Some.is) in
    (view n, one_held old.names all name n lists.0 found, neither (is_package n.kind) (is_package c.args.declared.kind) c.requires)
