-- Where no fault of a message type or a file is found it keeps to the rules, and what keeps to them breaks none.
use Rattle.std.proofs.Common.{◌≡◌, ◌∙◌, ℕ, Bool, true, map, None, sym, subst, refl, arith, rules}
use Rattle.std.specs.List.{list_all}
use Rattle.std.proofs.lemmas.Bool.{false≢true}
use Rattle.pg_link.specs.declared.error.Place.{Place}
use Rattle.pg_schema.specs.declared.parts.file.File.{File}
use Rattle.pg_schema.specs.declared.parts.message_type.MessageType.{MessageType}
use Rattle.pg_schema.specs.rules.Files.{is_file_option}
use Rattle.pg_schema.proofs.lemmas.rules.PairLemmas.{and_left, and_right}
use Rattle.pg_check.specs.declared.error.CheckError.{CheckError}
use Rattle.pg_check.specs.declared.rules.fault.Rule.{Rule}
use Rattle.pg_check.specs.declared.rules.fault.Rule.TheVariants as rules
use Rattle.pg_check.specs.admitting.BrokenParts.{BreaksFilePart, BreaksType, bad_map_key, bad_oneof_member, bad_option, empty_oneof, in_fields, option_again, packed_not_allowed}
use Rattle.pg_check.specs.admitting.DeclaredParts as declared
use Rattle.pg_check.specs.admitting.KeepsParts as keeps
use Rattle.pg_check.specs.admitting.KeepsParts.{KeepsFilePart, KeepsType}
use Rattle.pg_check.specs.inner.PartFaults as faults
use Rattle.pg_check.specs.inner.Faults.{broken_at}
use Rattle.pg_check.specs.inner.MessageFaults.{fields_fault}
use Rattle.pg_check.specs.rules.Numbers as numbers
use Rattle.pg_check.specs.inner.NumberFaults as number_faults
use Rattle.pg_check.proofs.lemmas.admitting.PartShapes.{key_fails, member_fails, packed_fails, passes}
use Rattle.pg_check.proofs.lemmas.rules.FirstFaults.{IsFound}
use Rattle.pg_check.proofs.lemmas.rules.Judged.{again}
use Rattle.pg_check.proofs.lemmas.rules.JudgedMessages.{fields_broken, fields_judged}
use Rattle.pg_check.proofs.lemmas.rules.NoneLaws.{earlier_none}

-- ---- where no fault is found

pub fault_unless_none : (rule : Rule) (b : Bool) → faults.fault_unless rule b ≡ None → b ≡ true
fault_unless_none rule b h = grind arith

pub type_keeps : (t : MessageType) → faults.message_fault t ≡ None → KeepsType t
type_keeps t none =
    let two = (earlier_none (fields_fault (declared.declared_message t)) (faults.shapes_fault t)).0 none in
    let of_keys = (earlier_none (faults.fault_unless rules.BadMapKey (list_all keeps.field_has_key t.fields.items)) _).0 two.1 in
    let of_others = (earlier_none (faults.fault_unless rules.BadOneofMember (faults.has_oneofs t)) (faults.fault_unless rules.PackedNotAllowed (list_all keeps.is_packed_rightly t.fields.items))).0 of_keys.1 in
    let of_oneofs = fault_unless_none rules.BadOneofMember (faults.has_oneofs t) of_others.0 in
    record {
      fields = (fields_judged (declared.declared_message t)).none.0 two.0;
      map_keys = fault_unless_none rules.BadMapKey _ of_keys.0;
      oneof_members = and_left _ _ of_oneofs;
      oneofs = and_right (list_all keeps.may_be_member t.fields.items) _ of_oneofs;
      packed = fault_unless_none rules.PackedNotAllowed _ of_others.1;
    }

pub file_part_keeps : (f : File) → faults.file_fault f ≡ None → KeepsFilePart f
file_part_keeps f none = search (rules, earlier_none, fault_unless_none, again)

-- ---- what keeps to the rules breaks none

pub kept_type : (t : MessageType) (place : Place) (e : CheckError) (code : ℕ) → KeepsType t → BreaksType t place e code → ⊥
kept_type t place e code k (in_fields e1 c1 h) =
    let d = declared.declared_message t in
    let none : fields_fault d ≡ None = (fields_judged d).none.1 k.fields in
    subst (λ o. IsFound o 0 code) none (fields_broken (IsFound (fields_fault d)) d place (fields_judged d).found e code 0 0 h)
kept_type t place e code k (bad_map_key f key one is bad) = key_fails t.fields.items f key one is bad k.map_keys
kept_type t place e code k (bad_oneof_member f one has why) = member_fails t.fields.items f one has why k.oneof_members
kept_type t place e code k (empty_oneof h) = false≢true (sym h ∙ k.oneofs)
kept_type t place e code k (packed_not_allowed f one packed why) = packed_fails t.fields.items f one packed why k.packed

pub kept_file_part : (f : File) (place : Place) (e : CheckError) (code : ℕ) → KeepsFilePart f → BreaksFilePart f place e code → ⊥
kept_file_part f place e code k (bad_option o one bad) = false≢true (sym bad ∙ passes is_file_option f.options.items o k.known one)
kept_file_part f place e code k (option_again key first) =
    let twice = again rules.BadOption numbers.is_same number_faults.at (map declared.option_key f.options.items) in
    subst (λ o. IsFound o key.at 411) (twice.none.1 k.once) (twice.found (broken_at rules.BadOption key.at) (key, first, refl))
