use Rattle.pg_check.proofs.lemmas.RuleCodes.{file_code, file_part_code, enum_type_code, type_code}
use Rattle.pg_check.proofs.laws.rule_codes.Goals as goal

pub returns : goal.returns
returns c = record { of_files = file_code; of_types = type_code; of_enums = enum_type_code; of_file_parts = file_part_code }
