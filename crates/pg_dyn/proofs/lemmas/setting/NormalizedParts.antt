-- What is true of each part of a content is true of each that a field holds of it.
use Rattle.std.proofs.Common.{List, [], ◌∷◌, rules, arith}
use Rattle.std.specs.List.{AllByRecursion}
use Rattle.pg_schema.specs.declared.parts.field.Presence.{Presence}
use Rattle.pg_dyn.specs.message.KeptParts.{KeptItem}
use Rattle.pg_dyn.specs.message.Message.{Part}
use Rattle.pg_dyn.specs.setting.Setting.{by_rising_key, normalized_by, put_entry}
use Rattle.pg_dyn.proofs.Lists.{each_filtered}

module _ (P : Part KeptItem → Type 0) where
  put_each : (p : Part KeptItem) (ps : List (Part KeptItem)) → P p → AllByRecursion P ps → AllByRecursion P (put_entry p ps)
  put_each p [] one each = (one, tt)
  put_each p (q ∷ qs) one each = search (rules, put_each p qs one each.1)

  rising_each : (ps : List (Part KeptItem)) → AllByRecursion P ps → AllByRecursion P (by_rising_key ps)
  rising_each [] each = tt
  rising_each (p ∷ ps) each = put_each p (by_rising_key ps) each.0 (rising_each ps each.1)

  pub normalized_each : (presence : Presence) (ps : List (Part KeptItem)) → AllByRecursion P ps → AllByRecursion P (normalized_by presence ps)
  normalized_each presence ps each = grind (arith, each_filtered, rising_each)
