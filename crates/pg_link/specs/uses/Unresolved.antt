-- Why a name doesn't resolve.
use Rattle.std.specs.Prelude.{◌≡◌, Bool, false, List, None, Some, if◌then◌else◌}
use Rattle.pg_link.specs.declared.names.Kind.{Kind}
use Rattle.pg_link.specs.names.Names.{Text, Names, is_type}
use Rattle.pg_link.specs.names.Resolves.{Reference, found, Resolves, ResolvesToNone}
use Rattle.pg_link.specs.uses.Targets.{is_message}
use Rattle.pg_link.specs.uses.Uses.{Use}

-- it would resolve if all files were visible
pub record IsHidden (visible all : Names) (scope : List Text) (name : Reference) : Type 0 where
  pub none_visible : found visible scope name ≡ None
  pub full : Text
  pub resolves : Resolves all scope name full

-- no file has what it names
pub record IsUnknown (visible all : Names) (scope : List Text) (name : Reference) : Type 0 where
  pub none_visible : found visible scope name ≡ None
  pub none : ResolvesToNone all scope name

-- what a use may name: message types, and enums but for rpcs
abbrev pub may_stand : Bool → Kind → Bool
may_stand takes_enums kind = if takes_enums then is_type kind else is_message kind

-- a use names what it may not name
pub record NamesNoTarget (names : Names) (u : Use) : Type 0 where
  pub full : Text
  pub kind : Kind
  pub is_found : found names u.scope u.name ≡ Some (full, kind)
  pub is_no_target : may_stand u.takes_enums kind ≡ false
