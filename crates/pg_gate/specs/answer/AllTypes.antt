-- What is found of all message types of two sides: what `gate_all` of pg_causes answers of their schemas, with the
-- fields of each cause, and what is noted beside.
use Rattle.std.specs.Prelude.{◌≡◌, Bool, ◌∷◌, map}
use Rattle.std.specs.List.{AllByRecursion}
use Rattle.pg_causes.specs.Overview.{IsOverview}
use Rattle.pg_causes.specs.declared.overview.Cause.{Cause}
use Rattle.pg_causes.specs.declared.overview.Overview.{Overview}
use Rattle.pg_dyn.specs.declared.view_name.ViewName.{ViewName}
use Rattle.pg_schema.specs.declared.parts.Parts.{Parts}
use Rattle.pg_gate.specs.answer.Notes.{AreNotes}
use Rattle.pg_gate.specs.answer.Showing.{IsExplained}
use Rattle.pg_gate.specs.answer.Steps.{named, named_at}
use Rattle.pg_gate.specs.declared.answer.all_types.AllTypes.{AllTypes}
use Rattle.pg_gate.specs.declared.answer.all_types.PlacedCause.{PlacedCause}

-- The fields are those of the cause, by number and by full names, in rising number: one, or all that meet in a new
-- oneof. Where it is asked for, the readings are those of its message by the types of its pair.
pub record IsPlaced (old new : Parts) (explain : Bool) (placed : PlacedCause) : Type 0 where
  pub fields : map named (placed.field ∷ placed.others.items)
      ≡ map (named_at old new placed.cause.at.pair) placed.cause.numbers.items
  pub explained : IsExplained explain old new placed.cause.at.pair placed.cause.message.items placed.readings

abbrev pub without_place : PlacedCause → Cause
without_place placed = placed.cause

-- There are just the causes, the types and the names of an overview of the two schemas under the view, in its order;
-- each cause with its fields. The notes are those of the two schemas where they are asked for, and else none.
pub record IsAllTypes (view : ViewName) (old new : Parts) (explain notes : Bool) (all : AllTypes) : Type 0 where
  pub overview : Overview
  pub is_overview : IsOverview view old new overview
  pub causes : map without_place all.causes.items ≡ overview.causes.items
  pub types : all.types ≡ overview.types
  pub removed : all.removed ≡ overview.removed
  pub added : all.added ≡ overview.added
  pub placed : AllByRecursion (IsPlaced old new explain) all.causes.items
  pub noted : AreNotes notes old new all.notes.items
