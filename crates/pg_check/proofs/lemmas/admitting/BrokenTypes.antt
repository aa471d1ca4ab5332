-- What is reported of a message type is a rule that it breaks, and of its rules none is lower. All its faults are at one position.
use Rattle.std.proofs.Common.{◌≡◌, ◌∙◌, ℕ, false, List, ◌∷◌, ◌++◌, map, sym, subst, refl, rules}
use Rattle.std.specs.List.{list_all}
use Rattle.std.proofs.lemmas.Bool.{false≢true}
use Rattle.pg_link.specs.declared.error.Place.{Place}
use Rattle.pg_schema.specs.declared.parts.message_type.MessageType.{MessageType}
use Rattle.pg_schema.proofs.lemmas.rules.PairLemmas.{and_left, and_right}
use Rattle.pg_check.specs.declared.error.CheckError.{CheckError}
use Rattle.pg_check.specs.declared.rules.fault.Rule.TheVariants as rules
use Rattle.pg_check.specs.declared.rules.numbers.Keyed.{Keyed}
use Rattle.pg_check.specs.Errors.{error_of}
use Rattle.pg_check.specs.admitting.BrokenParts.{BreaksType, bad_map_key, bad_oneof_member, empty_oneof, packed_not_allowed}
use Rattle.pg_check.specs.admitting.BrokenParts as broken_parts
use Rattle.pg_check.specs.admitting.DeclaredParts as declared
use Rattle.pg_check.specs.admitting.KeepsParts as keeps
use Rattle.pg_check.specs.inner.PartFaults as faults
use Rattle.pg_check.specs.rules.BrokenRules.{BreaksFields, bad_field_item, bad_field_number, duplicate_number, json_name_clash, reserved_field_name, reserved_field_number}
use Rattle.pg_check.specs.inner.Faults.{order}
use Rattle.pg_check.specs.inner.MessageFaults.{fields_fault}
use Rattle.pg_check.specs.inner.NameFaults as names
use Rattle.pg_check.specs.inner.NumberFaults as number_faults
use Rattle.pg_check.proofs.lemmas.rules.FirstFaults.{IsFound, Meets, earlier_meets, found_left, found_right}
use Rattle.pg_check.proofs.lemmas.rules.JudgedMessages.{fields_judged, fields_tell, fields_broken}
use Rattle.pg_check.proofs.lemmas.admitting.PartRules.{At, item_at, one_of, test_meets, test_found}
use Rattle.pg_check.proofs.lemmas.admitting.PartShapes.{fails, key_breaks, key_fails, member_fails, oneof_breaks, packed_breaks, packed_fails}

module _ (t : MessageType) (place : Place) where
  at_key : (before after : List Keyed) (k : Keyed) → map declared.key_of t.fields.items ≡ before ++ k ∷ after → number_faults.at k ≡ 0
  at_key = one_of declared.key_of number_faults.at (λ f. refl) t.fields.items

  nowhere : (error : CheckError) (c d a : ℕ) → BreaksFields (declared.declared_message t) place error c d a → (d ≡ 0) × (a ≡ 0)
  nowhere error c d a (bad_field_number k first) = let at = at_key first.before first.after k first.is in (at, at)
  nowhere error c d a (duplicate_number k first) = let at = at_key first.before first.after k first.is in (at, at)
  nowhere error c d a (reserved_field_number k first) = let at = at_key first.before first.after k first.is in (at, at)
  nowhere error c d a (reserved_field_name n first) =
      let at = one_of declared.name_of names.at (λ f. refl) t.fields.items first.before first.after n first.is in (at, at)
  nowhere error c d a (bad_field_item e1 c1 a1 h) = search (rules, item_at)
  nowhere error c d a (json_name_clash n first) =
      let at = one_of declared.json_name_of names.at (λ f. refl) t.fields.items first.before first.after n first.is in (at, at)

  fields_meet : Meets (At (BreaksType t place) place) (fields_fault (declared.declared_message t))
  fields_meet f h =
      let B = BreaksFields (declared.declared_message t) place (error_of f.rule place) (order f.rule) in
      let tells = fields_tell (declared.declared_message t) place f ((fields_judged (declared.declared_message t)).meets f h) in
      let (d, a) = nowhere (error_of f.rule place) (order f.rule) f.declared f.at tells in
      (d, broken_parts.in_fields (error_of f.rule place) (order f.rule) (subst (λ n. B n 0) d (subst (B f.declared) a tells)))

  pub type_meets : Meets (At (BreaksType t place) place) (faults.message_fault t)
  type_meets = search (rules, earlier_meets, fields_meet, test_meets, key_breaks, oneof_breaks, packed_breaks)

  in_shapes : (c : ℕ) → IsFound (faults.shapes_fault t) 0 c → IsFound (faults.message_fault t) 0 c
  in_shapes c h = found_right (fields_fault (declared.declared_message t)) (faults.shapes_fault t) 0 c h

  bad_oneof_found : faults.has_oneofs t ≡ false → IsFound (faults.message_fault t) 0 408
  bad_oneof_found h = search (rules, in_shapes, found_right, found_left, test_found)

  pub type_found : (e : CheckError) (c : ℕ) → BreaksType t place e c → IsFound (faults.message_fault t) 0 c
  type_found e c (broken_parts.in_fields e1 c1 h) =
      found_left (fields_fault (declared.declared_message t)) (faults.shapes_fault t) 0 c
      (fields_broken (IsFound (fields_fault (declared.declared_message t))) (declared.declared_message t) place (fields_judged (declared.declared_message t)).found e c 0 0 h)
  type_found e c (bad_map_key f key one is bad) =
      in_shapes 407 (found_left (faults.fault_unless rules.BadMapKey (list_all keeps.field_has_key t.fields.items)) _ 0 407
      (test_found rules.BadMapKey (list_all keeps.field_has_key t.fields.items) (fails _ (key_fails t.fields.items f key one is bad))))
  type_found e c (bad_oneof_member f one has why) = bad_oneof_found (fails _ (λ both. member_fails t.fields.items f one has why (and_left _ _ both)))
  type_found e c (empty_oneof h) = bad_oneof_found (fails _ (λ both. false≢true (sym h ∙ and_right (list_all keeps.may_be_member t.fields.items) _ both)))
  type_found e c (packed_not_allowed f one packed why) =
      in_shapes 412 (found_right (faults.fault_unless rules.BadMapKey (list_all keeps.field_has_key t.fields.items)) _ 0 412
      (found_right (faults.fault_unless rules.BadOneofMember (faults.has_oneofs t)) _ 0 412
      (test_found rules.PackedNotAllowed (list_all keeps.is_packed_rightly t.fields.items) (fails _ (packed_fails t.fields.items f one packed why)))))
