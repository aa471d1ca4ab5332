-- Records of which those of each number are known are read as a message, if each field reads its own.
use Rattle.std.proofs.Common.{◌≡◌, List, [], ◌∷◌, map, filter, Bool, true, false, not, ◌&&◌, ◌||◌, Option, Some, option_and_then, ◌⊎◌, ⊎_elim, refl, ap, sym, ◌∙◌, subst, rules}
use Rattle.std.specs.List.{AllByRecursion, list_all, list_any}
use Rattle.std.proofs.lemmas.Bool.{and_right, cases_Bool, false_from_ne_true}
use Rattle.pg_schema.specs.Shape.{FieldShape, field_at}
use Rattle.pg_schema.specs.ShapeRules.{Rising}
use Rattle.pg_wire.specs.Records.{WireRecord}
use Rattle.pg_dyn.specs.reading.Optional.{all_some, joined}
use Rattle.pg_dyn.specs.message.Message.{Item, Message, Part, is_of, parts, message_from}
use Rattle.pg_dyn.specs.reading.Content.{takes, is_sibling, is_unknown, counted, content}
use Rattle.pg_dyn.specs.reading.Decoding.{Reader, is_readable, all_readable, read_part, field_parts, read_records}
use Rattle.pg_dyn.specs.laws.Laws.{of_number}
use Rattle.pg_dyn.specs.laws.ByComparands.{field_read, all_field_readable}
use Rattle.pg_dyn.proofs.Lists.{all_some-map, each_weaker, each_of_all, each_swap, filtered_out, list_all_each, list_all_true, list_any_none, after_last_of_none, filter-after_last_of_none, filter-filter_weaker, each_unfiltered}
use Rattle.pg_dyn.proofs.PublicLaws.{fields_are_found, message_splits, records_of_fields}

module _ (child : Reader) (fs : List FieldShape) (rising : Rising fs) (rs : List WireRecord) (own : FieldShape → List WireRecord)
    (numbered : (f : FieldShape) → field_at fs f.number ≡ Some f → filter (of_number f.number) rs ≡ own f)
    (apart : (f h : FieldShape) → field_at fs f.number ≡ Some f → field_at fs h.number ≡ Some h → is_sibling f h ≡ true → (own f ≡ []) ⊎ (own h ≡ [])) where
  abbrev reads : FieldShape → WireRecord → Bool
  reads f r = not (takes f r) || is_readable child f r

  taken_numbered : (f : FieldShape) → field_at fs f.number ≡ Some f → filter (takes f) rs ≡ filter (takes f) (own f)
  taken_numbered f found = sym (filter-filter_weaker (of_number f.number) (takes f) (records_of_fields.2 f) rs) ∙ ap (filter (takes f)) (numbered f found)

  nothing_taken : (f : FieldShape) → field_at fs f.number ≡ Some f → own f ≡ [] → AllByRecursion (λ r. takes f r ≡ false) rs
  nothing_taken f found none = filtered_out (takes f) rs (taken_numbered f found ∙ ap (filter (takes f)) none)

  no_siblings : (f : FieldShape) → field_at fs f.number ≡ Some f → (r : WireRecord) (rest : List WireRecord) → own f ≡ r ∷ rest → list_any (λ r. list_any (λ h. is_sibling f h && takes h r) fs) rs ≡ false
  no_siblings f found r rest some =
      list_any_none _ rs
      (each_weaker (λ r. AllByRecursion (λ h. (is_sibling f h && takes h r) ≡ false) fs) _ (λ r k. list_any_none _ fs k) rs
      (each_swap (λ h r. (is_sibling f h && takes h r) ≡ false) fs rs
      (each_weaker (λ h. field_at fs h.number ≡ Some h) _
      (λ h at.
      ⊎_elim
      (λ sibling.
      ⊎_elim (λ none. absurd (let no : ◌≡◌ {A = List WireRecord} [] (r ∷ rest) = sym none ∙ some in cc))
      (λ none. each_weaker (λ r. takes h r ≡ false) _ (λ r k. and_right (is_sibling f h) (takes h r) k) rs (nothing_taken h at none))
      (apart f h found at sibling))
      (λ no_sibling. each_of_all (λ r. (is_sibling f h && takes h r) ≡ false) (λ r. rw no_sibling) rs)
      (cases_Bool (is_sibling f h)))
      fs (fields_are_found.2 fs rising))))

  counted_is : (f : FieldShape) → field_at fs f.number ≡ Some f → (xs : List WireRecord) → own f ≡ xs → counted fs f rs ≡ filter (takes f) (own f)
  counted_is f found [] none =
      filter-after_last_of_none (takes f) _ rs (nothing_taken f found none) ∙ sym (ap (filter (takes f)) none)
  counted_is f found (r ∷ rest) some = ap (filter (takes f)) (after_last_of_none _ rs (no_siblings f found r rest some)) ∙ taken_numbered f found

  pub parts_are : (f : FieldShape) → field_at fs f.number ≡ Some f → field_parts child fs rs f ≡ field_read child f (own f)
  parts_are f found = ap (λ xs. option_and_then (λ qs. all_some (map (read_part child f.element) qs)) (content f xs)) (counted_is f found (own f) refl)

  module _ (made : FieldShape → List (Part Item)) (readable : (f : FieldShape) → field_at fs f.number ≡ Some f → all_field_readable child f (own f) ≡ true)
      (read : (f : FieldShape) → field_at fs f.number ≡ Some f → field_read child f (own f) ≡ Some (made f)) where
    read_by : (f : FieldShape) → field_at fs f.number ≡ Some f → AllByRecursion (λ r. reads f r ≡ true) rs
    read_by f found =
        each_unfiltered (λ r. reads f r ≡ true) (of_number f.number) (λ r other. rw (false_from_ne_true (takes f r) (λ taken. let own_number = records_of_fields.2 f r taken in cc))) rs
        (subst (AllByRecursion (λ r. reads f r ≡ true)) (sym (numbered f found)) (list_all_true (reads f) (own f) (readable f found)))

    all_read : all_readable child fs rs ≡ true
    all_read =
        list_all_each (λ r. list_all (λ f. reads f r) fs) rs
        (each_weaker (λ r. AllByRecursion (λ f. reads f r ≡ true) fs) (λ r. list_all (λ f. reads f r) fs ≡ true) (λ r each. list_all_each (λ f. reads f r) fs each) rs
        (each_swap (λ f r. reads f r ≡ true) fs rs
        (each_weaker (λ f. field_at fs f.number ≡ Some f) (λ f. AllByRecursion (λ r. reads f r ≡ true) rs) read_by fs (fields_are_found.2 fs rising))))

    pub the_message : Message
    the_message = message_from (joined (map made fs)) (filter (is_unknown fs) rs)

    pub is_read : read_records child fs rs ≡ Some the_message
    unfolding the_message
    is_read = search (rules, all_read, all_some-map, each_weaker, parts_are, fields_are_found)

    pub parts_made : (f : FieldShape) → field_at fs f.number ≡ Some f → filter (is_of f.number) (parts the_message) ≡ made f
    parts_made f found =
        let split = (message_splits child fs rs the_message rising is_read).0 f.number f found in
        let equal : ◌≡◌ {A = Option (List (Part Item))} (Some (filter (is_of f.number) (parts the_message))) (Some (made f)) = sym split ∙ parts_are f found ∙ read f found in
        cc
