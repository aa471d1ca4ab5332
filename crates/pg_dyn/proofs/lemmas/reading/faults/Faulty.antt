-- What has a fault has no reading.
use Rattle.std.proofs.Common.{◌≡◌, ◌≢◌, ℕ, suc, ◌≤◌, List, [], ◌∷◌, ◌++◌, length, true, false, not, ◌||◌, cond, Option, Some, None, is_some, option_and_then, Ok, Err, refl, ap, ap₂, sym, ◌∙◌, subst, arith, append_assoc, length-append, true≢false, rules}
use Rattle.std.specs.List.{AllByRecursion, list_all}
use Rattle.std.specs.Str.{is_utf8}
use Rattle.std.proofs.lemmas.Bool.{and_parts, or_cases}
use Rattle.pg_schema.specs.declared.parts.field.TypeId.{TypeId}
use Rattle.pg_schema.specs.declared.parts.field.Element.{Element}
use Rattle.pg_schema.specs.declared.parts.field.Presence.{Presence}
use Rattle.pg_schema.specs.Shape.{Shape, FieldShape, fields, field_at, is_map}
use Rattle.pg_wire.specs.declared.record.WireType.TheVariants.{Len}
use Rattle.pg_wire.specs.Reading.{Fault, row}
use Rattle.pg_wire.specs.Records.{WireRecord, IsRecord, Spells, record_at, records_of}
use Rattle.pg_wire.proofs.Bind.{ok_pair}
use Rattle.pg_wire.proofs.RecordLaws.{record_at-append, record_at_takes, length-IsRecord, Spells_from_records_of}
use Rattle.pg_dyn.specs.message.Message.{Message}
use Rattle.pg_dyn.specs.word.Coding.{Text, form, form_wire, element_at}
use Rattle.pg_dyn.specs.reading.Content.{same_wire, is_accepted, takes, leaves_in, option_from, entry_fields}
use Rattle.pg_dyn.specs.encoding.Writing.{bytes_of}
use Rattle.pg_dyn.specs.reading.Decoding.{Reader, is_child, all_plain_readable, is_readable, all_readable, dec}
use Rattle.pg_dyn.specs.reading.Faults.{AreRecords, Code, FirstFault, FirstFaultOf, HasFault, FaultOf, NotUtf8, TooDeep, Wire, no_record, in_record, the_root, not_text, bad_element, the_child, in_child, in_entry, missing_value}
use Rattle.pg_dyn.proofs.lemmas.reading.Fields.{field_of}
use Rattle.pg_dyn.proofs.lemmas.reading.records.Joining.{implied, readable_from_dec}
use Rattle.pg_dyn.proofs.Lists.{each_at, list_all_true}
use Rattle.pg_dyn.proofs.lemmas.reading.by_fields.PlainFields.{readable_is}

pub text_not_deep : NotUtf8 ≢ TooDeep
text_not_deep e = cc

pub wire_not_deep : (fault : Fault) → Wire fault ≢ TooDeep
wire_not_deep fault e = cc

-- the first record of bytes, and the others
pub record First (bytes : List ℕ) (rs : List WireRecord) : Type 0 where
  pub first : WireRecord
  pub others : List WireRecord
  pub are : rs ≡ first ∷ others
  pub read : record_at bytes ≡ Ok (first, bytes_of others)
  pub spelled : Spells (bytes_of others) others

pub first_of : (bytes : List ℕ) (rs : List WireRecord) → Spells bytes rs → 1 ≤ length bytes → First bytes rs
first_of bytes [] h some = absurd (let none = ap length h.joined in omega arith)
first_of bytes (r ∷ rs) h some = search (rules, record_at-append)

-- the records of a front are the first of the whole, and the others spell the back
pub record Split (back : List ℕ) (front_records rs : List WireRecord) : Type 0 where
  pub others : List WireRecord
  pub are : rs ≡ front_records ++ others
  pub spelled : Spells back others

-- the split with one more record in front
split_more : (back : List ℕ) (r s : WireRecord) (fr rs others : List WireRecord) → rs ≡ s ∷ others → s ≡ r → Split back fr others → Split back (r ∷ fr) rs
split_more back r s fr rs others are same later = record { others = later.others; are = are ∙ ap₂ (λ x xs. x ∷ xs) same later.are; spelled = later.spelled }

split : (back : List ℕ) (fr rs : List WireRecord) → AllByRecursion IsRecord fr → Spells (bytes_of fr ++ back) rs → Split back fr rs
split back [] rs each h = record { others = rs; are = refl; spelled = h }
split back (r ∷ fr) rs each h =
    let whole : bytes_of (r ∷ fr) ++ back ≡ r.bytes ++ (bytes_of fr ++ back) = append_assoc r.bytes (bytes_of fr) back in
    let own = record_at-append r (bytes_of fr ++ back) each.0 in
    let some : 1 ≤ length (bytes_of (r ∷ fr) ++ back) = omega (arith, ap length whole, length-append r.bytes (bytes_of fr ++ back), length-IsRecord r each.0) in
    let head = first_of (bytes_of (r ∷ fr) ++ back) rs h some in
    let same = ok_pair head.first r (bytes_of head.others) (bytes_of fr ++ back) (sym head.read ∙ ap record_at whole ∙ own) in
    split_more back r head.first fr rs head.others head.are same.0 (split back fr head.others each.1 (subst (λ xs. Spells xs head.others) same.1 head.spelled))

-- the whole's records, split at the back
pub split_at : (bytes front back : List ℕ) (fr rs : List WireRecord) → bytes ≡ front ++ back → Spells front fr → records_of bytes ≡ Ok rs → Split back fr rs
split_at bytes front back fr rs joined spelled records =
    let whole = Spells_from_records_of bytes rs records in
    let same : bytes ≡ bytes_of fr ++ back = joined ∙ ap (λ xs. xs ++ back) spelled.joined in
    split back fr rs spelled.each (subst (λ xs. Spells xs rs) same whole)

pub each_mid : {A : Type 0} (P : A → Type 0) (xs : List A) (y : A) (ys : List A) → AllByRecursion P (xs ++ y ∷ ys) → P y
each_mid P [] y ys h = h.0
each_mid P (x ∷ xs) y ys h = each_mid P xs y ys h.1

-- what is read isn't empty
pub nonempty : (back : List ℕ) (r : WireRecord) (rest : List ℕ) → record_at back ≡ Ok (r, rest) → 1 ≤ length back
nonempty back r rest h =
    let taken = record_at_takes back r rest h in
    omega (arith, ap length taken.1, length-append r.bytes rest, length-IsRecord r taken.0)

-- a string is taken from records of LEN alone
text_wire : (number : ℕ) (p : Presence) (e : Element) (oneof : Option ℕ) (r : WireRecord) → form e ≡ Text → is_accepted (field_of number p e oneof) r ≡ true → same_wire r.wire Len ≡ true
text_wire number p e oneof r is h = search (rules, and_parts, or_cases, field_of)

-- an entry that is readable has records that are
pub entry_records_of : (child : Reader) (fs : List FieldShape) (bytes : List ℕ) → is_some (option_and_then (λ rs. cond (all_plain_readable child fs rs) (Some rs) None) (option_from (records_of bytes))) ≡ true → (rs : List WireRecord) × (records_of bytes ≡ Ok rs) × (all_plain_readable child fs rs ≡ true)
entry_records_of child fs bytes h = search rules

module _ (shape : Shape) where
  -- what the reading of all records says of the one at the back
  back_readable : (fs : List FieldShape) (bytes front back rest : List ℕ) (r : WireRecord) (f : FieldShape) (fr rs : List WireRecord) → bytes ≡ front ++ back → Spells front fr → record_at back ≡ Ok (r, rest) → field_at fs r.number ≡ Some f → takes f r ≡ true → records_of bytes ≡ Ok rs → all_readable (dec shape) fs rs ≡ true → is_readable (dec shape) f r ≡ true
  back_readable fs bytes front back rest r f fr rs joined spelled read found taken records readable =
      let parts = split_at bytes front back fr rs joined spelled records in
      let head = first_of back parts.others parts.spelled (nonempty back r rest read) in
      let same = ok_pair head.first r (bytes_of head.others) rest (sym head.read ∙ read) in
      let are : rs ≡ fr ++ r ∷ head.others = parts.are ∙ ap (λ xs. fr ++ xs) (head.are ∙ ap (λ x. x ∷ head.others) same.0) in
      let each = list_all_true (λ s. list_all (λ g. not (takes g s) || is_readable (dec shape) g s) fs) (fr ++ r ∷ head.others) (subst (λ xs. all_readable (dec shape) fs xs ≡ true) are readable) in
      let one = each_mid (λ s. list_all (λ g. not (takes g s) || is_readable (dec shape) g s) fs ≡ true) fr r head.others each in
      implied (takes f r) (is_readable (dec shape) f r) (each_at (λ g. (not (takes g r) || is_readable (dec shape) g r) ≡ true) fs r.number f found (list_all_true (λ g. not (takes g r) || is_readable (dec shape) g r) fs one)) taken

  no_back : (bytes front back : List ℕ) (fault : Fault) (fr rs : List WireRecord) → bytes ≡ front ++ back → Spells front fr → 1 ≤ length back → record_at back ≡ Err fault → records_of bytes ≡ Ok rs → ⊥
  no_back bytes front back fault fr rs joined spelled some read records =
      let parts = split_at bytes front back fr rs joined spelled records in
      let head = first_of back parts.others parts.spelled some in
      let clash = sym head.read ∙ read in cc

  text_unreadable : (f : FieldShape) (r : WireRecord) → is_map f.presence ≡ false → form f.element ≡ Text → is_utf8 r.body ≡ false → takes f r ≡ true → is_readable (dec shape) f r ≡ true → ⊥
  text_unreadable f r no_map is bad taken readable =
      search (rules, readable_is, and_parts, text_wire, true≢false)

  element_unreadable : (f : FieldShape) (r : WireRecord) (fault : Fault) → is_map f.presence ≡ false → same_wire r.wire (form_wire (form f.element)) ≡ false → row (element_at (form_wire (form f.element))) r.body ≡ Err fault → is_readable (dec shape) f r ≡ true → ⊥
  element_unreadable f r fault no_map other bad readable =
      search (rules, readable_is, and_parts, true≢false)

  mutual
    fault_unreadable : (limit : ℕ) (fs : List FieldShape) (bytes : List ℕ) (code : Code) (place : ℕ) → HasFault shape limit fs bytes code place → code ≢ TooDeep
        → (rs : List WireRecord) → records_of bytes ≡ Ok rs → all_readable (dec shape) fs rs ≡ true → ⊥
    fault_unreadable _ fs bytes code place (the_root _ _) other rs records readable = other refl
    fault_unreadable _ fs bytes code place (no_record levels _ _ front back fault joined before some read) other rs records readable =
        no_back bytes front back fault before.0 rs joined before.1 some read records
    fault_unreadable _ fs bytes code place (in_record levels _ _ front back rest r f _ inner joined before read found taken fault) other rs records readable =
        record_unreadable levels f r code inner fault other taken (back_readable fs bytes front back rest r f before.0 rs joined before.1 read found taken records readable)

    record_unreadable : (levels : ℕ) (f : FieldShape) (r : WireRecord) (code : Code) (place : ℕ) → FaultOf shape AreRecords levels f r code place → code ≢ TooDeep
        → takes f r ≡ true → is_readable (dec shape) f r ≡ true → ⊥
    record_unreadable levels f r code place (not_text _ _ _ no_map is bad) other taken readable = text_unreadable f r no_map is bad taken readable
    record_unreadable levels f r code place (bad_element _ _ _ fault no_map packed bad) other taken readable = element_unreadable f r fault no_map packed bad readable
    record_unreadable _ f r code place (the_child _ _ t no_map is) other taken readable = other refl
    record_unreadable _ f r code place (in_child levels _ _ t _ inner no_map is fault) other taken readable =
        let plain = sym (readable_is (dec shape) f.number f.presence f.element f.oneof r no_map) ∙ readable in
        let child = (and_parts (is_some (leaves_in f r)) (is_child (dec shape) f.element r.body) plain).1 in
        let some : is_some (dec shape t r.body) ≡ true = subst (λ e. is_child (dec shape) e r.body ≡ true) is child in
        let inside = readable_from_dec shape t r.body some in
        fault_unreadable (suc levels) (fields shape t) r.body code inner fault other inside.0 inside.1 inside.2
    record_unreadable levels f r code place (in_entry _ _ _ key _ inner is fault) other taken readable =
        let entry = subst (λ p. is_readable (dec shape) (field_of f.number p f.element f.oneof) r ≡ true) is readable in
        let inside = entry_records_of (dec shape) (entry_fields key f.element) r.body entry in
        fault_unreadable (suc levels) (entry_fields key f.element) r.body code inner fault other inside.0 inside.1 inside.2
    record_unreadable _ f r code place (missing_value _ _ key t rs is message spelled none before) other taken readable = other refl

  mutual
    -- The first fault is one.
    pub first_is_fault : (limit : ℕ) (fs : List FieldShape) (bytes : List ℕ) (code : Code) (place : ℕ) → FirstFault shape limit fs bytes code place
        → HasFault shape limit fs bytes code place
    first_is_fault _ fs bytes _ _ (the_root _ _) = the_root fs bytes
    first_is_fault _ fs bytes _ _ (no_record levels _ _ front back fault joined before some read) =
        no_record levels fs bytes front back fault joined (before.records, before.spelled) some read
    first_is_fault _ fs bytes _ _ (in_record levels _ _ front back rest r f code place joined before read found taken fault) =
        in_record levels fs bytes front back rest r f code place joined (before.records, before.spelled) read found taken (first_of_record levels f r code place fault)

    first_of_record : (levels : ℕ) (f : FieldShape) (r : WireRecord) (code : Code) (place : ℕ) → FirstFaultOf shape levels f r code place
        → FaultOf shape AreRecords levels f r code place
    first_of_record levels f r _ _ (not_text _ _ _ no_map is bad) = not_text levels f r no_map is bad
    first_of_record levels f r _ _ (bad_element _ _ _ fault no_map packed bad) = bad_element levels f r fault no_map packed bad
    first_of_record _ f r _ _ (the_child _ _ t no_map is) = the_child f r t no_map is
    first_of_record _ f r _ _ (in_child levels _ _ t code place no_map is fault) =
        in_child levels f r t code place no_map is (first_is_fault (suc levels) (fields shape t) r.body code place fault)
    first_of_record levels f r _ _ (in_entry _ _ _ key code place is fault) =
        in_entry levels f r key code place is (first_is_fault (suc levels) (entry_fields key f.element) r.body code place fault)
    first_of_record _ f r _ _ (missing_value _ _ key t rs is message spelled none before) = missing_value f r key t rs is message spelled none (before.records, before.spelled)

  -- Bytes that have a fault, other than a message too deep, have no reading.
  pub dec_of_fault : (type : TypeId) (limit : ℕ) (bytes : List ℕ) (code : Code) (place : ℕ) → HasFault shape limit (fields shape type) bytes code place → code ≢ TooDeep
      → dec shape type bytes ≡ None
  dec_of_fault type limit bytes code place fault other = of (dec shape type bytes) refl
    where
      of : (o : Option Message) → dec shape type bytes ≡ o → dec shape type bytes ≡ None
      of None is = is
      of (Some m) is =
          let inside = readable_from_dec shape type bytes (ap is_some is) in
          absurd (fault_unreadable limit (fields shape type) bytes code place fault other inside.0 inside.1 inside.2)
