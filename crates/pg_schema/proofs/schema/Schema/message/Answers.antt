use Rattle.std.proofs.Common.{◌≡◌, ◌↔◌, Option, Some, sym, ◌∙◌, subst}
use Rattle.pg_schema.specs.declared.parts.field.TypeId.{TypeId}
use Rattle.pg_schema.specs.declared.parts.Parts.{Parts}
use Rattle.pg_schema.specs.Parts.{name_at}
use Rattle.pg_schema.proofs.schema.Schema.message.Goals as goal

pub returns : goal.returns
returns c =
    subst (λ (parts : Parts). (id : TypeId) → (c.copied.result ≡ Some id) ↔ (name_at parts.types.items id ≡ Some c.args.name.now)) c.self.view_is
    (λ id. subst (λ (r : Option TypeId). (r ≡ Some id) ↔ (name_at c.self.inside.parts.types.items id ≡ Some c.args.name.now)) (sym (c.copied.ensures ∙ c.get.ensures.value))
    (c.self.invariant.1 id c.args.name.now))
