use Rattle.std.proofs.Common.{◌≡◌, ◌∙◌, ℕ, List, Some, None, inl, inr, refl, sym, ap, subst, string_bytes}
use Rattle.std.proofs.lemmas.Map.Text.{hash_map_updates_text}
use Rattle.std.specs.HashMap.{get_by_text}
use Rattle.std.specs.Map.{update}
use Rattle.std.specs.Str.{bytes_eq}
use Rattle.pg_link.specs.declared.names.index.Index as indexes
use Rattle.pg_link.specs.declared.names.Named as nameds
use Rattle.pg_link.specs.inner.Made.{declared_of}
use Rattle.pg_link.specs.names.Standing.{MayStand, Standing, bearer, standing}
use Rattle.pg_link.specs.inner.Indexed.{added, view}
use Rattle.pg_link.proofs.lemmas.names.NumberLaws.{numbered_more}
use Rattle.pg_link.proofs.lemmas.names.StandingLaws.{holds_more, none_held, one_held, put_over}
use Rattle.pg_link.proofs.names.index.Index.add_part.Goals as goal

pub returns-in-None : goal.returns-in-None
returns-in-None c = λ all lists.
    let old : indexes.Index = c.args.self.now in
    let mid : indexes.Index = c.count.new.self in
    let new : indexes.Index = record { names = c.insert.new.self; messages = mid.messages; enums = mid.enums } in
    let kept = c.in_ok-count.ensures.names in
    let s : Standing = standing c.args.file (declared_of c.args.declared) in
    let n : nameds.Named = c.first-alone.result in
    let name : List ℕ = string_bytes c.args.declared.name in
    let key : List ℕ = string_bytes c.in_ok-name.name in
    let same : key ≡ name = c.in_ok-name.ensures.cases in
    let absent : get_by_text old.names name ≡ None =
    ap (λ m. get_by_text m name) (sym kept) ∙ subst (λ (t : List ℕ). get_by_text mid.names t ≡ None) same (sym c.in_ok-insert.ensures.old ∙ c.in-None.is) in
    let none : bearer all name ≡ None = none_held old.names all name lists.0 absent in
    let made : view n ≡ added s (bearer all name) = c.first-alone.ensures.added ∙ ap (added s) (sym none) in
    let may : MayStand all s = inl none in
    let now : (cs : List ℕ) → get_by_text new.names cs ≡ update bytes_eq (get_by_text old.names) name (Some n) cs =
    λ cs. subst (λ (t : List ℕ). get_by_text new.names cs ≡ update bytes_eq (get_by_text mid.names) t (Some n) cs) same
    (hash_map_updates_text key mid.names new.names _ c.in_ok-insert.ensures.updates cs)
    ∙ ap (λ m. update bytes_eq (get_by_text m) name (Some n) cs) kept in (
      may,
      (
        holds_more old.names new.names all s n name refl now lists.0 made,
        numbered_more old new all s n name refl now c.in_ok-count.ensures.messages c.in_ok-count.ensures.enums may made
            (c.first-alone.ensures.number ∙ c.next_number-number.ensures) lists.1,
      ),
    )

pub returns-then-not-may_share : goal.returns-then-not-may_share
returns-then-not-may_share c = λ all lists.
    let old : indexes.Index = c.args.self.now in
    let n : nameds.Named = c.in-Some.named in
    let name : List ℕ = string_bytes c.args.declared.name in
    let mid : indexes.Index = c.count.new.self in
    let found : get_by_text old.names name ≡ Some n =
    ap (λ m. get_by_text m name) (sym c.in_ok-count.ensures.names)
    ∙ subst (λ (t : List ℕ). get_by_text mid.names t ≡ Some n) c.in_ok-name.ensures.cases (sym c.in_ok-insert.ensures.old ∙ c.in-Some.is) in
    (view n, one_held old.names all name n lists.0 found, sym c.may_share.ensures ∙ c.if-not-may_share.true)

pub returns-in_ok-insert-in-Some : goal.returns-in_ok-insert-in-Some
returns-in_ok-insert-in-Some c = λ all lists.
    let old : indexes.Index = c.args.self.now in
    let mid : indexes.Index = c.count.new.self in
    let new : indexes.Index = record { names = c.insert-in-Some.new.self; messages = mid.messages; enums = mid.enums } in
    let kept = c.in_ok-count.ensures.names in
    let s : Standing = standing c.args.file (declared_of c.args.declared) in
    let was : nameds.Named = c.in-Some.named in
    let n : nameds.Named = c.in_ok-more-in-Some.more in
    let name : List ℕ = string_bytes c.args.declared.name in
    let key : List ℕ = string_bytes c.in_ok-name.name in
    let same : key ≡ name = c.in_ok-name.ensures.cases in
    let found : get_by_text old.names name ≡ Some was =
    ap (λ m. get_by_text m name) (sym kept) ∙ subst (λ (t : List ℕ). get_by_text mid.names t ≡ Some was) same (sym c.in_ok-insert.ensures.old ∙ c.in-Some.is) in
    let some : bearer all name ≡ Some (view was) = one_held old.names all name was lists.0 found in
    let made : view n ≡ added s (bearer all name) = c.in_ok-more-in-Some.ensures.added (declared_of c.args.declared) ∙ ap (added s) (sym some) in
    let may : MayStand all s = inr (view was, some, sym c.may_share.ensures ∙ c.if-not-may_share.false) in
    let first : (cs : List ℕ) → get_by_text c.insert.new.self cs ≡ update bytes_eq (get_by_text old.names) name (Some c.first-alone.result) cs =
    λ cs. subst (λ (t : List ℕ). get_by_text c.insert.new.self cs ≡ update bytes_eq (get_by_text mid.names) t (Some c.first-alone.result) cs) same
    (hash_map_updates_text key mid.names c.insert.new.self _ c.in_ok-insert.ensures.updates cs)
    ∙ ap (λ m. update bytes_eq (get_by_text m) name (Some c.first-alone.result) cs) kept in
    let second : (cs : List ℕ) → get_by_text new.names cs ≡ update bytes_eq (get_by_text c.insert.new.self) name (Some n) cs =
    λ cs. hash_map_updates_text name c.insert.new.self new.names _ c.in_ok-insert-in-Some.ensures.updates cs in
    let now : (cs : List ℕ) → get_by_text new.names cs ≡ update bytes_eq (get_by_text old.names) name (Some n) cs =
    put_over (get_by_text old.names) (get_by_text c.insert.new.self) (get_by_text new.names) name (Some c.first-alone.result) (Some n) first second in (
      may,
      (
        holds_more old.names new.names all s n name refl now lists.0 made,
        numbered_more old new all s n name refl now c.in_ok-count.ensures.messages c.in_ok-count.ensures.enums may made
            (c.in_ok-more-in-Some.ensures.number ∙ c.next_number-number.ensures) lists.1,
      ),
    )
