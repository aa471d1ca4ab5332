use Rattle.std.proofs.Common.{◌≡◌, ◌∙◌, sym, ap, subst, Some, Bor, Option, IfSome}
use Rattle.std.specs.HashMap.{get_by_text}
use Rattle.std.specs.Option.{option_map}
use Rattle.pg_link.specs.declared.names.index.Index as indexes
use Rattle.pg_link.specs.declared.names.Kind.{Kind}
use Rattle.pg_link.specs.declared.names.Named as nameds
use Rattle.pg_link.specs.declared.uses.Site as sites
use Rattle.pg_link.specs.inner.Index.{names_seen}
use Rattle.pg_link.specs.names.Names.{Names, Text}
use Rattle.pg_link.specs.names.Resolves.{found}
use Rattle.pg_link.specs.inner.Made.{use_of}
use Rattle.pg_link.specs.uses.Uses.{Use}
use Rattle.pg_link.proofs.lemmas.uses.TargetLaws.{no_target, target_is}
use Rattle.pg_link.proofs.names.index.Index.target.Goals as goal

abbrev shown : Bor Text × Bor nameds.Named → Text × Kind
shown f = (f.0.now, f.1.now.kind)

-- what was found of the use
is_found : (visible : Names) (u : Use) (o : Option (Bor Text × Bor nameds.Named)) (full : Bor Text) (n : Bor nameds.Named)
    → option_map shown o ≡ found visible u.scope u.name → o ≡ Some (full, n) → found visible u.scope u.name ≡ Some (full.now, n.now.kind)
is_found visible u o full n is some = sym is ∙ ap (option_map shown) some

pub returns-in-Some-target_of-clause-target : goal.returns-in-Some-target_of-clause-target
returns-in-Some-target_of-clause-target c = λ all numbers.
    let index : indexes.Index = c.args.self.now in
    let visible : Names = names_seen index.names (Some c.args.visible.marks.now) in
    let site : sites.Site = c.args.site.now in
    let is = is_found visible (use_of site) c.in_ok-named.field-0 c.in-Some.field-0-0 c.in-Some.named c.in_ok-named.ensures.found c.in-Some.is in
    let held : get_by_text index.names c.in-Some.field-0-0.now ≡ Some c.in-Some.named.now =
    subst (λ (o : Option (Bor Text × Bor nameds.Named)). IfSome o (λ f. get_by_text index.names f.0.now ≡ Some f.1.now)) c.in-Some.is c.in_ok-named.ensures.held in
    target_is index all visible (use_of site) c.in-Some.field-0-0.now c.in-Some.named.now c.in-Some-target_of.target numbers held is (sym c.in-Some-target_of.ensures)

pub returns-in-None-target_of-clause-refused : goal.returns-in-None-target_of-clause-refused
returns-in-None-target_of-clause-refused c =
    let index : indexes.Index = c.args.self.now in
    let visible : Names = names_seen index.names (Some c.args.visible.marks.now) in
    let site : sites.Site = c.args.site.now in
    let is = is_found visible (use_of site) c.in_ok-named.field-0 c.in-Some.field-0-0 c.in-Some.named c.in_ok-named.ensures.found c.in-Some.is in
    no_target visible (use_of site) c.in-Some.field-0-0.now c.in-Some.named.now.kind c.in-Some.named.now.number is (sym c.in-None-target_of.ensures)
