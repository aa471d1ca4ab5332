use Rattle.std.proofs.Common.{ap, sym, subst, ◌∙◌}
use Rattle.std.specs.List.{AllByRecursion}
use Rattle.pg_schema.specs.declared.parts.Parts.{Parts}
use Rattle.pg_set.specs.inner.writing.Small.{IsSmallType}
use Rattle.pg_set.specs.inner.writing.Writable.{IsWritable}
use Rattle.pg_set.proofs.lemmas.writing.SmallLaws.{all_small, all_writable}
use Rattle.pg_set.proofs.writing.set.Goals as goal

pub files-requires-clause-types : goal.files-requires-clause-types
files-requires-clause-types c =
    subst (λ (p : Parts). AllByRecursion IsSmallType p.types.items) (sym c.new-writer.ensures) (all_small c.args.source.now c.parts-parts.ensures.checked)

pub files-requires-clause-files : goal.files-requires-clause-files
files-requires-clause-files c =
    subst (AllByRecursion IsWritable) (sym (c.deref.ensures.value ∙ ap (λ (p : Parts). p.files.items) c.parts-parts.ensures.parts)) (all_writable c.args.source.now c.parts-parts.ensures.checked c.requires)
