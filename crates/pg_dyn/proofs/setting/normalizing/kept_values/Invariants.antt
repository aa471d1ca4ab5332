-- the items so far are kept as the field's, and all show what it keeps of them
use Rattle.std.specs.List.{AllByRecursion}
use Rattle.pg_schema.specs.Parts.{shape_of}
use Rattle.pg_dyn.specs.fitting.ContentFits.{ItemFits}
use Rattle.pg_dyn.specs.message.Seen.{item_seen}
use Rattle.pg_dyn.specs.fitting.Texts.{kept_item}
use Rattle.std.proofs.Common.{true}
use Rattle.pg_dyn.proofs.lemmas.setting.NormalizedLaws.{KeptUpTo, kept_once}
use Rattle.pg_dyn.proofs.setting.normalizing.kept_values.Given as goal

abbrev pub invariant-loop-value : goal.invariant-loop-value
invariant-loop-value l = record {
  fit : AllByRecursion (ItemFits (shape_of l.schema) l.element) l.value-items;
  kept : KeptUpTo (item_seen true) (kept_item l.element) (kept_once l.element) l.fn.values.items l.value-items l.value-index;
}
