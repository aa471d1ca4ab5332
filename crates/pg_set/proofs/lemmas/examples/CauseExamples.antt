-- The causes of small sets' bad references.
use Rattle.std.proofs.Common.{false, [], ◌∷◌, lit≤, refl}
use Rattle.std.specs.Prelude.{codes}
use Rattle.pg_schema.specs.declared.parts.field.Element.TheVariants as elements
use Rattle.pg_set.specs.refusals.BadReferences.{HasBadType, IsBadReference, means_in}
use Rattle.pg_set.specs.refusals.BadReferences as causes
use Rattle.pg_set.specs.examples.CauseExamples.{WorkedCauses, file_with, of_enum_code, sharing, without_dot, without_oneof}
use Rattle.pg_set.specs.stated.StatedTable.{type_named}

-- a set whose one field has a bad type
of_field : HasBadType (means_in (file_with without_dot)) without_dot → IsBadReference false (file_with without_dot)
of_field bad = causes.bad_declaration (file_with without_dot) refl (causes.in_type (0, _, lit≤ tt, refl, causes.bad_field (0, without_dot, lit≤ tt, refl, causes.bad_type refl bad)))

of_other : HasBadType (means_in (file_with of_enum_code)) of_enum_code → IsBadReference false (file_with of_enum_code)
of_other bad = causes.bad_declaration (file_with of_enum_code) refl (causes.in_type (0, _, lit≤ tt, refl, causes.bad_field (0, of_enum_code, lit≤ tt, refl, causes.bad_type refl bad)))

no_dot : HasBadType (means_in (file_with without_dot)) without_dot
no_dot = causes.unknown_name (codes "M") refl refl

no_oneof : IsBadReference false (file_with without_oneof)
no_oneof = causes.bad_declaration (file_with without_oneof) refl (causes.in_type (0, _, lit≤ tt, refl, causes.bad_field (0, without_oneof, lit≤ tt, refl, causes.bad_oneof (causes.without_oneof refl refl))))

other_kind : HasBadType (means_in (file_with of_enum_code)) of_enum_code
other_kind = causes.other_kind (type_named 0) (elements.Message (record { index = 0 })) refl refl refl

shared : IsBadReference false sharing
shared = causes.bad_declaration sharing refl (causes.in_type (0, _, lit≤ tt, refl, causes.shared_entry (0, _, lit≤ tt, refl, lit≤ tt)))

pub worked_causes : WorkedCauses
worked_causes = record {
  no_cause = refl;
  import_missing = causes.import_missing (0, _, lit≤ tt, refl, (0, codes "b", lit≤ tt, refl, refl));
  imports_go_round = causes.imports_go_round (codes "a") (codes "b" ∷ []) (refl, (refl, tt));
  no_dot = no_dot;
  set_without_dot = of_field no_dot;
  other_kind = other_kind;
  set_of_other_kind = of_other other_kind;
  set_without_oneof = no_oneof;
  no_sharing = refl;
  set_sharing = shared;
}
