-- The records that a new type writes again of an old type's message, number by number.
use Rattle.std.proofs.Common.{◌≡◌, ℕ, ◌≤◌, List, [], ◌∷◌, ◌++◌, length, map, filter, true, not, ◌||◌, Option, Some, None, Ok, ◌⊎◌, refl, ap, sym, ◌∙◌, subst, append-nil, eqb-true, rules}
use Rattle.std.specs.List.{AllByRecursion, list_all}
use Rattle.std.proofs.lemmas.Bool.{false_from_ne_true}
use Rattle.pg_schema.specs.declared.parts.field.TypeId.{TypeId}
use Rattle.pg_schema.specs.Shape.{Shape, FieldShape, fields, field_at}
use Rattle.pg_schema.specs.ShapeRules.{IsType, IsShape}
use Rattle.pg_wire.specs.Records.{WireRecord, records_of}
use Rattle.pg_dyn.specs.message.Message.{Item, Message, Part, IsPlain, is_of, parts, unknown_of}
use Rattle.pg_dyn.specs.reading.Content.{takes, is_sibling, is_unknown}
use Rattle.pg_dyn.specs.encoding.Writing.{field_records, records_in}
use Rattle.pg_dyn.specs.encoding.Encoding.{cap, enc, encoded_parts}
use Rattle.pg_dyn.specs.reading.Decoding.{dec, is_readable, read_records}
use Rattle.pg_dyn.specs.fitting.Belonging.{IsMessage}
use Rattle.pg_dyn.specs.views.Comparison.{numbers, Expected, Comparand, comparands, writes, expects}
use Rattle.pg_dyn.specs.laws.ByComparands.{comparands_at, field_read, all_field_readable}
use Rattle.pg_dyn.specs.laws.Laws.{ReadsAgain, of_number}
use Rattle.pg_dyn.proofs.Lists.{each_weaker, each_filtered, filter_all, filter-append', filter_swap, filter-map, list_all_each, list_all_true, list_any_none, each_at}
use Rattle.pg_pairs.specs.home.Returns.{Returns}
use Rattle.pg_pairs.specs.home.Home.{homeward}
use Rattle.pg_pairs.proofs.lemmas.bounds.Messages.{field_written}
use Rattle.pg_dyn.proofs.PublicLaws.{decoding_is, encoding_spells, fields_are_found, message_splits, one_is_empty, records_of_fields, unknown_is_kept, writing_splits}
use Rattle.pg_pairs.proofs.lemmas.bounds.Dearer.{CompatibleTo}
use Rattle.pg_pairs.proofs.lemmas.home.HomeComparands.{home_comparands, same_writes, home_expected}
use Rattle.pg_pairs.proofs.lemmas.home.Returned.{part_again, encoded_again}
use Rattle.pg_pairs.proofs.lemmas.home.ChildrenHome.{pair_of, ChildrenComeHome}
use Rattle.pg_pairs.proofs.lemmas.bounds.KeptUpTo.{none_meet}
use Rattle.pg_pairs.proofs.lemmas.home.Gathering.{parts_are}
use Rattle.pg_pairs.proofs.lemmas.home.FieldsHome.{FieldComes, nothing_read, home_parts}
use Rattle.pg_pairs.proofs.lemmas.home.Outside.{outside_home}

comparands_none : (xs : List Comparand) → map writes xs ≡ [] → xs ≡ []
comparands_none [] h = refl
comparands_none (c ∷ xs) h = absurd (cc)

-- A message that the new type reads and writes again, between types that are compatible up to its length.
pub record Goes (old new : Shape) (a b : TypeId) (v w : Message) : Type 0 where
  pub reads_again : ReadsAgain
  pub shape_old : IsShape old
  pub shape_new : IsShape new
  pub is_message : IsMessage old a v
  pub is_plain : IsPlain v
  pub has_encoding : length (enc old a v) ≤ cap
  pub fine : CompatibleTo (length (enc old a v)) old new a b
  pub returns : Returns old new (pair_of a b)
  pub come : ChildrenComeHome old new v
  pub is_read : dec new b (enc old a v) ≡ Some w
  pub is_new : IsMessage new b w
  pub new_encoding : length (enc new b w) ≤ cap

module _ (old new : Shape) (a b : TypeId) (v w : Message) (goes : Goes old new a b v w) where
  abbrev fs : List FieldShape
  fs = fields old a

  abbrev gs : List FieldShape
  gs = fields new b

  abbrev cs : List Comparand
  cs = comparands numbers old new a b v

  abbrev hcs : List Comparand
  hcs = home_comparands old new a b v

  abbrev homing : List (Part Expected)
  homing = homeward old new a b v

  type_old : IsType (length old) fs
  type_old = fields_are_found.0 old a goes.shape_old

  type_new : IsType (length new) gs
  type_new = fields_are_found.0 new b goes.shape_new

  -- The records that the old type writes.

  abbrev written_old : List WireRecord
  written_old = records_in fs (encoded_parts old a v)

  spelled_old : records_of (enc old a v) ≡ Ok written_old
  spelled_old = encoding_spells old a v goes.shape_old goes.is_message goes.has_encoding ∙ ap (λ us. Ok (written_old ++ us)) (unknown_is_kept.1 v goes.is_plain) ∙ ap Ok (append-nil written_old)

  read_old : read_records (dec new) gs written_old ≡ Some w
  read_old = search (rules, decoding_is, spelled_old)

  abbrev pub own_of : FieldShape → List WireRecord
  own_of f = field_records f (map writes (comparands_at f.number cs))

  pub old_records : (f : FieldShape) → field_at fs f.number ≡ Some f → filter (of_number f.number) written_old ≡ own_of f
  old_records f found = (writing_splits fs (encoded_parts old a v) f.number type_old.rising).0 f found ∙ ap (field_records f) (field_written numbers old new a b v f.number)

  no_old_records : (n : ℕ) → comparands_at n cs ≡ [] → filter (of_number n) written_old ≡ []
  no_old_records n none = of (field_at fs n) refl
    where
      of : (o : Option FieldShape) → field_at fs n ≡ o → filter (of_number n) written_old ≡ []
      of None e = (writing_splits fs (encoded_parts old a v) n type_old.rising).1 e
      of (Some f) e =
          (writing_splits fs (encoded_parts old a v) n type_old.rising).0 f e
          ∙ ap (field_records f) (field_written numbers old new a b v n ∙ ap (map writes) none)
          ∙ records_of_fields.1 f

  new_apart : (g h : FieldShape) → field_at gs g.number ≡ Some g → field_at gs h.number ≡ Some h → is_sibling g h ≡ true → (filter (of_number g.number) written_old ≡ []) ⊎ (filter (of_number h.number) written_old ≡ [])
  new_apart g h at_g at_h sibling = search (rules, no_old_records, none_meet)

  -- the parts that the new type reads of a field's records
  pub new_parts : (f g : FieldShape) → field_at fs f.number ≡ Some f → field_at gs f.number ≡ Some g → field_read (dec new) g (own_of f) ≡ Some (filter (is_of f.number) (parts w))
  new_parts f g found at =
      let number : g.number ≡ f.number = fields_are_found.1 gs f.number g at in
      let own_at : field_at gs g.number ≡ Some g = ap (field_at gs) number ∙ at in
      ap (field_read (dec new) g) (sym (old_records f found) ∙ ap (λ n. filter (of_number n) written_old) (sym number))
      ∙ sym (parts_are (dec new) gs type_new.rising written_old (λ h. filter (of_number h.number) written_old) (λ h at_h. refl) new_apart g own_at)
      ∙ (message_splits (dec new) gs written_old w type_new.rising read_old).0 f.number g at

  -- The records that the new type writes again.

  abbrev pub again : List WireRecord
  again = records_in gs (encoded_parts new b w) ++ unknown_of w

  pub spelled_new : records_of (enc new b w) ≡ Ok again
  spelled_new = encoding_spells new b w goes.shape_new goes.is_new goes.new_encoding

  unknown_at : (f : FieldShape) → field_at fs f.number ≡ Some f → filter (of_number f.number) (unknown_of w) ≡ filter (is_unknown gs) (own_of f)
  unknown_at f found =
      search (rules, of_number, message_splits, type_new, read_old, filter_swap, old_records)

  abbrev pub at_number : FieldShape → List WireRecord
  at_number f = filter (of_number f.number) again

  pub again_at : (f : FieldShape) → field_at fs f.number ≡ Some f → (known : List WireRecord) → filter (of_number f.number) (records_in gs (encoded_parts new b w)) ≡ known → at_number f ≡ known ++ filter (is_unknown gs) (own_of f)
  again_at f found known is_known = search (rules, filter-append', of_number, unknown_at)

  pub new_records : (f g : FieldShape) → field_at gs f.number ≡ Some g → filter (of_number f.number) (records_in gs (encoded_parts new b w)) ≡ field_records g (filter (is_of f.number) (encoded_parts new b w))
  new_records f g at = (writing_splits gs (encoded_parts new b w) f.number type_new.rising).0 g at

  -- No content.

  pub none_expected : (f : FieldShape) → comparands_at f.number cs ≡ [] → filter (is_of f.number) homing ≡ []
  none_expected f none = sym (home_expected old new a b v f.number) ∙ ap (map expects) (comparands_none (comparands_at f.number hcs) (same_writes old new a b v f.number ∙ ap (map writes) none))

  pub none_left : (f : FieldShape) → field_at fs f.number ≡ Some f → comparands_at f.number cs ≡ [] → at_number f ≡ []
  none_left f found none = of (field_at gs f.number) refl
    where
      own_none : own_of f ≡ []
      own_none = ap (λ xs. field_records f (map writes xs)) none ∙ records_of_fields.1 f

      of : (o : Option FieldShape) → field_at gs f.number ≡ o → at_number f ≡ []
      of None e =
          again_at f found [] ((writing_splits gs (encoded_parts new b w) f.number type_new.rising).1 e) ∙ ap (filter (is_unknown gs)) own_none
      of (Some g) e =
          let some : ◌≡◌ {A = Option (List (Part Item))} (Some (filter (is_of f.number) (parts w))) (Some []) =
          sym (new_parts f g found e) ∙ ap (field_read (dec new) g) own_none ∙ nothing_read (dec new) g in
          let no_parts : filter (is_of f.number) (parts w) ≡ [] = cc in
          let no_encoded : filter (is_of f.number) (encoded_parts new b w) ≡ [] =
          ap (filter (is_of f.number)) (encoded_again new b w) ∙ filter-map (is_of f.number) (part_again new b) (parts w) ∙ ap (map (part_again new b)) no_parts in
          again_at f found [] (new_records f g e ∙ ap (field_records g) no_encoded ∙ records_of_fields.1 g) ∙ ap (filter (is_unknown gs)) own_none

  pub old_apart : (f h : FieldShape) → field_at fs f.number ≡ Some f → field_at fs h.number ≡ Some h → is_sibling f h ≡ true → (at_number f ≡ []) ⊎ (at_number h ≡ [])
  old_apart f h found_f found_h sibling = search (rules, none_left, no_comparands, one_is_empty)
    where
      no_comparands : (n : ℕ) → filter (is_of n) (encoded_parts old a v) ≡ [] → comparands_at n cs ≡ []
      no_comparands n none = comparands_none (comparands_at n cs) (sym (field_written numbers old new a b v n) ∙ none)

  -- What the old type reads of its own records.

  read_own : read_records (dec old) fs written_old ≡ Some v
  read_own = search (rules, decoding_is, spelled_old)

  own_apart : (f h : FieldShape) → field_at fs f.number ≡ Some f → field_at fs h.number ≡ Some h → is_sibling f h ≡ true → (filter (of_number f.number) written_old ≡ []) ⊎ (filter (of_number h.number) written_old ≡ [])
  own_apart f h found_f found_h sibling = search (rules, none_of, one_is_empty)
    where
      none_of : (f : FieldShape) → field_at fs f.number ≡ Some f → filter (is_of f.number) (encoded_parts old a v) ≡ [] → filter (of_number f.number) written_old ≡ []
      none_of f found none = (writing_splits fs (encoded_parts old a v) f.number type_old.rising).0 f found ∙ ap (field_records f) none ∙ records_of_fields.1 f

  own_read : (f : FieldShape) → field_at fs f.number ≡ Some f → field_read (dec old) f (own_of f) ≡ Some (filter (is_of f.number) (parts v))
  own_read f found =
      ap (field_read (dec old) f) (sym (old_records f found))
      ∙ sym (parts_are (dec old) fs type_old.rising written_old (λ h. filter (of_number h.number) written_old) (λ h at_h. refl) own_apart f found)
      ∙ (message_splits (dec old) fs written_old v type_old.rising read_own).0 f.number f found

  own_readable : (f : FieldShape) → field_at fs f.number ≡ Some f → all_field_readable (dec old) f (own_of f) ≡ true
  own_readable f found =
      let all = (message_splits (dec old) fs written_old v type_old.rising read_own).3 in
      let each : AllByRecursion (λ r. (not (takes f r) || is_readable (dec old) f r) ≡ true) written_old =
      each_weaker (λ r. list_all (λ h. not (takes h r) || is_readable (dec old) h r) fs ≡ true) (λ r. (not (takes f r) || is_readable (dec old) f r) ≡ true)
      (λ r h. each_at (λ h. (not (takes h r) || is_readable (dec old) h r) ≡ true) fs f.number f found (list_all_true (λ h. not (takes h r) || is_readable (dec old) h r) fs h)) written_old
      (list_all_true (λ r. list_all (λ h. not (takes h r) || is_readable (dec old) h r) fs) written_old all) in
      list_all_each (λ r. not (takes f r) || is_readable (dec old) f r) (own_of f)
      (subst (AllByRecursion (λ r. (not (takes f r) || is_readable (dec old) f r) ≡ true)) (old_records f found)
      (each_filtered (λ r. (not (takes f r) || is_readable (dec old) f r) ≡ true) (of_number f.number) written_old each))

  -- A field that the new type lacks.

  module _ (f : FieldShape) (found : field_at fs f.number ≡ Some f) (lacks : field_at gs f.number ≡ None) where
    not_taken : (r : WireRecord) → r.number ≡ f.number → is_unknown gs r ≡ true
    not_taken r number =
        search (rules, list_any_none, each_weaker, false_from_ne_true, eqb-true, records_of_fields, fields_are_found, type_new)

    pub lacked_records : at_number f ≡ own_of f
    lacked_records =
        again_at f found [] ((writing_splits gs (encoded_parts new b w) f.number type_new.rising).1 lacks)
        ∙ filter_all (is_unknown gs) (own_of f) (each_weaker (λ (r : WireRecord). r.number ≡ f.number) (λ r. is_unknown gs r ≡ true) not_taken (own_of f) (records_of_fields.0 f (map writes (comparands_at f.number cs))))

    pub lacked_comes : FieldComes (dec old) f None homing (at_number f)
    lacked_comes = search (rules, lacked_records, own_readable, own_read, home_parts, outside_home)
