-- Each part of a message that fits fits its field.
use Rattle.std.proofs.Common.{◌≡◌, List, [], ◌∷◌, refl, sym, subst, rules}
use Rattle.std.specs.List.{AllByRecursion}
use Rattle.pg_schema.specs.declared.parts.field.TypeId.{TypeId}
use Rattle.pg_schema.specs.Shape.{Shape}
use Rattle.pg_schema.specs.ShapeRules.{IsShape}
use Rattle.pg_dyn.specs.fitting.Fits.{Fits}
use Rattle.pg_dyn.specs.fitting.PartsFit.{HoldsPart}
use Rattle.pg_dyn.specs.message.Kept.{Kept, ends, type_of}
use Rattle.pg_dyn.specs.message.KeptParts.{KeptItem, parts_of, unknown_of}
use Rattle.pg_dyn.specs.message.Message.{Part}
use Rattle.pg_dyn.specs.message.Replacing.{kept_onto}
use Rattle.pg_dyn.proofs.lemmas.fitting.FitsToParts.{part_back}
use Rattle.pg_dyn.proofs.lemmas.fitting.PartsToFits.{Whole}
use Rattle.pg_dyn.proofs.lemmas.message.ReplacingLaws.{kept_whole, type_of-kept_onto}

module _ (shape : Shape) (type : TypeId) (is_shape : IsShape shape) where
  all_held : (ps : List (Part KeptItem)) (later : Kept) → type_of later ≡ type → Whole shape type (kept_onto ps later) → AllByRecursion (HoldsPart shape type) ps
  all_held [] later same h = tt
  all_held (p ∷ ps) later same h =
      search (rules, part_back, type_of-kept_onto, all_held ps later same)

pub parts_hold : (shape : Shape) (m : Kept) → IsShape shape → Fits shape m → AllByRecursion (HoldsPart shape (type_of m)) (parts_of m)
parts_hold shape m is_shape fits =
    all_held shape (type_of m) is_shape (parts_of m) (ends (type_of m) (unknown_of m)) refl
    (subst (Whole shape (type_of m)) (sym (kept_whole m)) (fits.is_message, fits.parts_agree))
