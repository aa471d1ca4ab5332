-- A message's own body, each rule with the fault that is found of it.
use Rattle.std.proofs.Common.{◌≡◌, ◌⊎◌, inl, inr, ℕ, Bool, true, false, cond, not, ◌&&◌, ◌||◌, List, Option, Some, None, sym, subst, refl, rules}
use Rattle.std.specs.List.{list_all}
use Rattle.std.proofs.lemmas.Bool.{false≢true}
use Rattle.pg_link.specs.declared.error.Place.{Place}
use Rattle.pg_link.specs.declared.uses.target.Target.{Target}
use Rattle.pg_schema.specs.rules.TextSets.{is_among}
use Rattle.pg_check.specs.declared.error.CheckError.{CheckError}
use Rattle.pg_check.specs.declared.rules.fault.Fault.{Fault}
use Rattle.pg_check.specs.declared.rules.fault.Rule.TheVariants as rules
use Rattle.pg_check.specs.declared.rules.numbers.Keyed.{Keyed}
use Rattle.pg_check.specs.Errors.{error_of}
use Rattle.pg_check.specs.rules.BrokenRules.{BreaksFields, BreaksMessage, bad_field_item, bad_field_number, bad_field_option, bad_map_key, bad_message_option, bad_oneof_member, duplicate_number, empty_oneof, in_fields, json_name_clash, oneof_option, packed_not_allowed, reserved_field_name, reserved_field_number}
use Rattle.pg_check.specs.inner.Faults.{broken, broken_at, declared_fault, first_fault, option_fault, or_else, order}
use Rattle.pg_check.specs.rules.Firsts.{IsBehind, IsFirst, IsFirstAgain}
use Rattle.pg_check.specs.rules.KeepsRules.{FieldsKeep, MessageKeeps, OptionsKeep, has_field_number, has_key, is_free, is_free_name, is_no_option, is_packed_rightly, may_be_member, member_options, oneof_keeps}
use Rattle.pg_check.specs.rules.Members.{DeclaredField, members, place_of, settings, settings_of}
use Rattle.pg_check.specs.rules.Messages as messages
use Rattle.pg_check.specs.inner.MessageFaults as message_faults
use Rattle.pg_check.specs.rules.Names as names
use Rattle.pg_check.specs.inner.NameFaults as name_faults
use Rattle.pg_check.specs.rules.Numbers as numbers
use Rattle.pg_check.specs.inner.NumberFaults as number_faults
use Rattle.pg_check.proofs.lemmas.rules.FirstFaults.{IsFound}
use Rattle.pg_check.proofs.lemmas.rules.Judged.{Judged, again, both, each, each_test, kept_as, nothing, such, such_at_option, broken_as}
use Rattle.pg_check.proofs.lemmas.rules.JudgedItems.{ItemsFault, OptionFault, OptionFaultOf, items_judged, items_tell, items_broken, options_judged, own_options_judged}
use Rattle.pg_check.proofs.lemmas.rules.NoneLaws.{not_not}
use Rattle.pg_syntax.specs.declared.tree as tree
use Rattle.pg_syntax.specs.declared.tree.OneofPart.TheVariants as oneof_parts
use Rattle.pg_syntax.specs.declared.tree.Part.{Part}

-- ---- packed

abbrev pub PackedFault : (ℕ → Option Target) → DeclaredField → Fault → Type 0
PackedFault targets m f =
    (messages.may_be_packed targets m ≡ false)
    × ((s : tree.Setting.Setting) × IsFirst (λ s. not (messages.states_packed s)) (settings (settings_of m)) s × (f ≡ option_fault rules.PackedNotAllowed (place_of m) s.span.from))

packed_judged : (targets : ℕ → Option Target) (m : DeclaredField) → Judged (message_faults.member_packed targets m) (is_packed_rightly targets m ≡ true) (PackedFault targets m)
packed_judged targets m = by (messages.may_be_packed targets m)
  where
    list : List tree.Setting.Setting
    list = settings (settings_of m)

    at : tree.Setting.Setting → ℕ
    at s = s.span.from

    stated : Judged (declared_fault rules.PackedNotAllowed (place_of m) (message_faults.first_packed list)) (list_all (λ s. not (messages.states_packed s)) list ≡ true)
        (λ f. (s : tree.Setting.Setting) × IsFirst (λ s. not (messages.states_packed s)) list s × (f ≡ option_fault rules.PackedNotAllowed (place_of m) s.span.from))
    stated = such_at_option rules.PackedNotAllowed (place_of m) messages.states_packed (λ s. not (messages.states_packed s)) at (λ s. refl) list

    by : (b : Bool) → Judged (cond b None (declared_fault rules.PackedNotAllowed (place_of m) (message_faults.first_packed list))) ((b || list_all (λ s. not (messages.states_packed s)) list) ≡ true)
        (λ f. (b ≡ false) × ((s : tree.Setting.Setting) × IsFirst (λ s. not (messages.states_packed s)) list s × (f ≡ option_fault rules.PackedNotAllowed (place_of m) s.span.from)))
    by true = nothing refl (λ f h. false≢true (sym h.0))
    by false = broken_as stated (λ f h. (refl, h)) (λ f h. h.1)

-- ---- oneofs

abbrev pub LineFault : tree.OneofPart.OneofPart → Fault → Type 0
LineFault p f = (line : tree.OptionLine.OptionLine) × (p ≡ oneof_parts.Option line) × (f ≡ broken_at rules.BadOption line.span.from)

line_judged : (p : tree.OneofPart.OneofPart) → Judged (message_faults.oneof_option p) (is_no_option p ≡ true) (LineFault p)
line_judged (oneof_parts.Empty span) = nothing refl (λ f h. let is = h.1 in cc (is))
line_judged (oneof_parts.Option o) = record {
  none = ((λ h. absurd (cc (h))), λ h. absurd (false≢true h));
  meets = λ f h. let same : broken_at rules.BadOption o.span.from ≡ f = cc (h) in (o, refl, sym same);
  found = λ f h. of_line f h.0 h.1 h.2;
}
  where
    of_line : (f : Fault) (line : tree.OptionLine.OptionLine) → oneof_parts.Option o ≡ oneof_parts.Option line → f ≡ broken_at rules.BadOption line.span.from
        → IsFound (broken rules.BadOption (Some o.span.from)) f.declared (order f.rule)
    of_line f line same is = search rules
line_judged (oneof_parts.Map m) = nothing refl (λ f h. let is = h.1 in cc (is))
line_judged (oneof_parts.Field x) = nothing refl (λ f h. let is = h.1 in cc (is))

-- a oneof has no member, or else an option
abbrev pub OneofFault : tree.Oneof.Oneof → Fault → Type 0
OneofFault o f =
    ((messages.has_member o.parts.items ≡ false) × (f ≡ broken_at rules.BadOneofMember o.name.span.from))
    ⊎ ((messages.has_member o.parts.items ≡ true)
    × ((p : tree.OneofPart.OneofPart) × IsBehind (λ p. is_no_option p ≡ true) o.parts.items p × LineFault p f))

oneof_judged : (o : tree.Oneof.Oneof) → Judged (message_faults.oneof_fault o) (oneof_keeps o ≡ true) (OneofFault o)
oneof_judged o = by (messages.has_member o.parts.items)
  where
    lines : Judged (first_fault message_faults.oneof_option o.parts.items) (list_all is_no_option o.parts.items ≡ true)
        (λ f. (p : tree.OneofPart.OneofPart) × IsBehind (λ p. is_no_option p ≡ true) o.parts.items p × LineFault p f)
    lines = each_test message_faults.oneof_option is_no_option LineFault line_judged o.parts.items

    by : (b : Bool) → Judged (or_else (broken rules.BadOneofMember (cond b None (Some o.name.span.from))) (first_fault message_faults.oneof_option o.parts.items))
        ((b && list_all is_no_option o.parts.items) ≡ true)
        (λ f. ((b ≡ false) × (f ≡ broken_at rules.BadOneofMember o.name.span.from))
        ⊎ ((b ≡ true) × ((p : tree.OneofPart.OneofPart) × IsBehind (λ p. is_no_option p ≡ true) o.parts.items p × LineFault p f)))
    by true = search (rules, broken_as, lines, false≢true)
    by false = search (rules, false≢true)

-- ---- the body

-- numbers, names and reserved items
abbrev pub FieldsFault : messages.DeclaredMessage → Fault → Type 0
FieldsFault d f =
    (((k : Keyed) × IsFirst has_field_number d.keys k × (f ≡ broken_at rules.BadNumber k.at))
    ⊎ (((k : Keyed) × IsFirstAgain numbers.is_same d.keys k × (f ≡ broken_at rules.DuplicateNumber k.at))
    ⊎ (((k : Keyed) × IsFirst (is_free d.items) d.keys k × (f ≡ broken_at rules.ReservedNumber k.at))
    ⊎ ItemsFault numbers.lowest_field numbers.highest_field d.items f)))
    ⊎ (((n : names.Named) × IsFirst (is_free_name d.reserved_names) d.names n × (f ≡ broken_at rules.ReservedName n.at))
    ⊎ ((n : names.Named) × IsFirstAgain names.is_same d.json_names n × (f ≡ broken_at rules.JsonNameClash n.at)))

pub fields_judged : (d : messages.DeclaredMessage) → Judged (message_faults.fields_fault d) (FieldsKeep d) (FieldsFault d)
fields_judged d =
    kept_as (both _ _
    (both _ _ (such rules.BadNumber (λ (k : Keyed). not (numbers.is_field_number k.key)) has_field_number number_faults.at (λ k. not_not (numbers.is_field_number k.key)) d.keys)
    (both _ _ (again rules.DuplicateNumber numbers.is_same number_faults.at d.keys)
    (both _ _ (such rules.ReservedNumber (λ (k : Keyed). numbers.is_reserved d.items k.key) (is_free d.items) number_faults.at (λ k. refl) d.keys)
    (items_judged numbers.lowest_field numbers.highest_field d.items))))
    (both _ _ (such rules.ReservedName (λ (n : names.Named). is_among d.reserved_names n.text) (is_free_name d.reserved_names) name_faults.at (λ n. refl) d.names)
    (again rules.JsonNameClash names.is_same name_faults.at d.json_names))) (
      (λ h. record {
        numbers_fit = h.0.0;
        numbers_once = h.0.1.0;
        numbers_free = h.0.1.1.0;
        reserved = h.0.1.1.1;
        names_free = h.1.0;
        json_names_once = h.1.1;
      }),
      λ k. ((k.numbers_fit, (k.numbers_once, (k.numbers_free, k.reserved))), (k.names_free, k.json_names_once)),
    )

abbrev pub TellsFields : messages.DeclaredMessage → Place → Fault → Type 0
TellsFields d place f = BreaksFields d place (error_of f.rule place) (order f.rule) f.declared f.at

pub fields_tell : (d : messages.DeclaredMessage) (place : Place) (f : Fault) → FieldsFault d f → TellsFields d place f
fields_tell d place f (inl (inl (k, first, is))) = subst (TellsFields d place) (sym is) (bad_field_number k first)
fields_tell d place f (inl (inr (inl (k, first, is)))) = subst (TellsFields d place) (sym is) (duplicate_number k first)
fields_tell d place f (inl (inr (inr (inl (k, first, is))))) = subst (TellsFields d place) (sym is) (reserved_field_number k first)
fields_tell d place f (inl (inr (inr (inr h)))) =
    items_tell (TellsFields d place) numbers.lowest_field numbers.highest_field d.items place (λ rule at g. bad_field_item (error_of rule place) (order rule) at g) f h
fields_tell d place f (inr (inl (n, first, is))) = subst (TellsFields d place) (sym is) (reserved_field_name n first)
fields_tell d place f (inr (inr (n, first, is))) = subst (TellsFields d place) (sym is) (json_name_clash n first)

pub fields_broken : (P : (declared code : ℕ) → Type 0) (d : messages.DeclaredMessage) (place : Place) → ((f : Fault) → FieldsFault d f → P f.declared (order f.rule))
    → (e : CheckError) (c dd a : ℕ) → BreaksFields d place e c dd a → P dd c
fields_broken P d place k e c dd a (bad_field_number x first) = k (broken_at rules.BadNumber x.at) (inl (inl (x, first, refl)))
fields_broken P d place k e c dd a (duplicate_number x first) = k (broken_at rules.DuplicateNumber x.at) (inl (inr (inl (x, first, refl))))
fields_broken P d place k e c dd a (reserved_field_number x first) = k (broken_at rules.ReservedNumber x.at) (inl (inr (inr (inl (x, first, refl)))))
fields_broken P d place k e c dd a (bad_field_item e1 c1 a1 h) =
    items_broken P numbers.lowest_field numbers.highest_field d.items place (λ f g. k f (inl (inr (inr (inr g))))) e1 c1 a1 h
fields_broken P d place k e c dd a (reserved_field_name n first) = k (broken_at rules.ReservedName n.at) (inr (inl (n, first, refl)))
fields_broken P d place k e c dd a (json_name_clash n first) = k (broken_at rules.JsonNameClash n.at) (inr (inr (n, first, refl)))

abbrev pub ShapesFault : (ℕ → Option Target) → List DeclaredField → Fault → Type 0
ShapesFault targets ms f =
    ((m : DeclaredField) × IsFirst has_key ms m × (f ≡ broken_at rules.BadMapKey (place_of m)))
    ⊎ (((m : DeclaredField) × IsFirst may_be_member ms m × (f ≡ broken_at rules.BadOneofMember (place_of m)))
    ⊎ (((m : DeclaredField) × IsBehind (λ m. OptionsKeep (member_options m)) ms m × OptionFaultOf (place_of m) (member_options m) f)
    ⊎ ((m : DeclaredField) × IsBehind (λ m. is_packed_rightly targets m ≡ true) ms m × PackedFault targets m f)))

abbrev pub PartsFault : List Part → Fault → Type 0
PartsFault body f = OptionFault (messages.lines body) f ⊎ ((o : tree.Oneof.Oneof) × IsBehind (λ o. oneof_keeps o ≡ true) (messages.oneofs body) o × OneofFault o f)

abbrev pub MessageFault : (ℕ → Option Target) → List Part → Fault → Type 0
MessageFault targets body f = FieldsFault (messages.declared body) f ⊎ (ShapesFault targets (members body) f ⊎ PartsFault body f)

pub message_judged : (targets : ℕ → Option Target) (body : List Part) → Judged (message_faults.body_fault targets body) (MessageKeeps targets body) (MessageFault targets body)
message_judged targets body =
    let ms = members body in
    kept_as (both _ _ (fields_judged (messages.declared body))
    (both _ _
    (both _ _ (such rules.BadMapKey messages.has_bad_key has_key place_of (λ m. refl) ms)
    (both _ _ (such rules.BadOneofMember messages.is_bad_member may_be_member place_of (λ m. refl) ms)
    (both _ _ (each message_faults.member_option (λ m. OptionsKeep (member_options m)) (λ m. OptionFaultOf (place_of m) (member_options m)) (λ m. own_options_judged (place_of m) (member_options m)) ms)
    (each_test (message_faults.member_packed targets) (is_packed_rightly targets) (PackedFault targets) (packed_judged targets) ms))))
    (both _ _ (options_judged (messages.lines body)) (each_test message_faults.oneof_fault oneof_keeps OneofFault oneof_judged (messages.oneofs body))))) (
      (λ h. let (fs, (ss, ps)) = h in record {
        fields = fs;
        map_keys = ss.0;
        oneof_members = ss.1.0;
        field_options = ss.1.1.0;
        packed = ss.1.1.1;
        options = ps.0;
        oneofs = ps.1;
      }),
      λ k. (k.fields, ((k.map_keys, (k.oneof_members, (k.field_options, k.packed))), (k.options, k.oneofs))),
    )

-- ---- in the words of what is broken

abbrev pub TellsMessage : (ℕ → Option Target) → List Part → Place → Fault → Type 0
TellsMessage targets body place f = BreaksMessage targets body place (error_of f.rule place) (order f.rule) f.declared f.at

pub message_tells : (targets : ℕ → Option Target) (body : List Part) (place : Place) (f : Fault) → MessageFault targets body f → TellsMessage targets body place f
message_tells targets body place f (inl h) = in_fields (error_of f.rule place) (order f.rule) f.declared f.at (fields_tell (messages.declared body) place f h)
message_tells targets body place f (inr (inl (inl (m, first, is)))) = subst (TellsMessage targets body place) (sym is) (bad_map_key m first)
message_tells targets body place f (inr (inl (inr (inl (m, first, is))))) = subst (TellsMessage targets body place) (sym is) (bad_oneof_member m first)
message_tells targets body place f (inr (inl (inr (inr (inl (m, behind, (n, first, is))))))) = subst (TellsMessage targets body place) (sym is) (bad_field_option m n behind first)
message_tells targets body place f (inr (inl (inr (inr (inr (m, behind, (denied, (s, first, is)))))))) = subst (TellsMessage targets body place) (sym is) (packed_not_allowed m s behind denied first)
message_tells targets body place f (inr (inr (inl (n, first, is)))) = subst (TellsMessage targets body place) (sym is) (bad_message_option n first)
message_tells targets body place f (inr (inr (inr (o, behind, inl (none, is))))) = subst (TellsMessage targets body place) (sym is) (empty_oneof o behind none)
message_tells targets body place f (inr (inr (inr (o, behind, inr (some, (q, inside, (line, of_line, is))))))) =
    subst (TellsMessage targets body place) (sym is) (oneof_option o line behind some (subst (IsBehind (λ p. is_no_option p ≡ true) o.parts.items) of_line inside))

pub message_broken : (P : (declared code : ℕ) → Type 0) (targets : ℕ → Option Target) (body : List Part) (place : Place) → ((f : Fault) → MessageFault targets body f → P f.declared (order f.rule))
    → (e : CheckError) (c d a : ℕ) → BreaksMessage targets body place e c d a → P d c
message_broken P targets body place k e c d a (in_fields e1 c1 d1 a1 h) = fields_broken P (messages.declared body) place (λ f g. k f (inl g)) e1 c1 d1 a1 h
message_broken P targets body place k e c d a (bad_map_key m first) = k (broken_at rules.BadMapKey (place_of m)) (inr (inl (inl (m, first, refl))))
message_broken P targets body place k e c d a (bad_oneof_member m first) = k (broken_at rules.BadOneofMember (place_of m)) (inr (inl (inr (inl (m, first, refl)))))
message_broken P targets body place k e c d a (bad_field_option m at behind first) = k (option_fault rules.BadOption (place_of m) at) (inr (inl (inr (inr (inl (m, behind, (at, first, refl)))))))
message_broken P targets body place k e c d a (packed_not_allowed m s behind denied first) =
    k (option_fault rules.PackedNotAllowed (place_of m) s.span.from) (inr (inl (inr (inr (inr (m, behind, (denied, (s, first, refl))))))))
message_broken P targets body place k e c d a (bad_message_option at first) = k (broken_at rules.BadOption at) (inr (inr (inl (at, first, refl))))
message_broken P targets body place k e c d a (empty_oneof o behind none) = k (broken_at rules.BadOneofMember o.name.span.from) (inr (inr (inr (o, behind, inl (none, refl)))))
message_broken P targets body place k e c d a (oneof_option o line behind some inside) =
    k (broken_at rules.BadOption line.span.from) (inr (inr (inr (o, behind, inr (some, (oneof_parts.Option line, inside, (line, refl, refl)))))))
