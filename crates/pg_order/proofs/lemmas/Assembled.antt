-- Where each shared field's content is kept, and no two meet in one oneof, the records are read as a message that shows it, whatever
-- the comparands are.
use Rattle.std.proofs.Common.{◌≡◌, ℕ, List, [], ◌∷◌, map, filter, Bool, true, false, not, ◌&&◌, ◌||◌, Option, Some, None, option_and_then, unwrap_or, ⊎_elim, refl, ap, sym, ◌∙◌, subst, rules}
use Rattle.std.specs.List.{AllByRecursion, list_all, list_any}
use Rattle.std.proofs.lemmas.Bool.{and_parts, and_right, cases_Bool, false_from_ne_true}
use Rattle.pg_schema.specs.Shape.{FieldShape, field_at}
use Rattle.pg_schema.specs.ShapeRules.{Rising}
use Rattle.pg_wire.specs.Records.{WireRecord}
use Rattle.pg_dyn.specs.reading.Optional.{all_some, joined}
use Rattle.pg_dyn.specs.message.Message.{Message, Item, Part, is_of, parts, message_from}
use Rattle.pg_dyn.specs.reading.Content.{takes, is_unknown, is_sibling, counted, content}
use Rattle.pg_dyn.specs.encoding.Writing.{field_records, records_in}
use Rattle.pg_dyn.specs.reading.Decoding.{Reader, is_readable, all_readable, read_part, field_parts, read_records}
use Rattle.pg_dyn.specs.views.Comparison.{View, Comparand, writes, expects, same_content}
use Rattle.pg_dyn.specs.laws.Laws.{of_number}
use Rattle.pg_dyn.specs.laws.ByComparands.{comparands_at, field_read, is_shown, EachFieldKept, NoComparandsMeet}
use Rattle.pg_dyn.proofs.Lists.{all_some-map, each_weaker, each_of_all, each_swap, filter-map, filtered_out, list_all_each, list_all_true, list_any_none, after_last_of_none, filter-after_last_of_none, filter-filter_weaker, each_unfiltered}
use Rattle.pg_dyn.proofs.lemmas.reading.records.Splitting.{each_found, field_records_none, found_number, records_of_number, records_of_no_number, takes_number}
use Rattle.pg_dyn.proofs.lemmas.reading.records.ReadSplits.{reading_of, field_split}
use Rattle.pg_dyn.proofs.lemmas.reading.records.RecordsRead.{content_none}
use Rattle.pg_dyn.proofs.lemmas.views.ByComparands.{same_content-filter}

is_shown_some : (view : View) (f g : FieldShape) (cs : List Comparand) (o : Option (List (Part Item))) → is_shown view f g cs o ≡ true → (ps : List (Part Item)) × (o ≡ Some ps) × (same_content view f g (map expects cs) ps ≡ true)
is_shown_some view f g cs (Some ps) h = (ps, refl, h)
is_shown_some view f g cs None h = absurd (cc)

module _ (view : View) (child : Reader) (fs gs : List FieldShape) (cs : List Comparand) (rising_old : Rising fs) (rising_new : Rising gs) (apart : NoComparandsMeet gs cs) where
  abbrev pub rs : List WireRecord
  rs = records_in fs (map writes cs)

  abbrev pub own : FieldShape → List WireRecord
  own f = field_records f (map writes (comparands_at f.number cs))

  -- whether the field, where it takes the record, has a reading of it
  abbrev pub reads : FieldShape → WireRecord → Bool
  reads g r = not (takes g r) || is_readable child g r

  -- The records of a number are those of its field's comparands.

  pub of_field : (f : FieldShape) → field_at fs f.number ≡ Some f → filter (of_number f.number) rs ≡ own f
  of_field f found = records_of_number (map writes cs) fs f.number f rising_old found ∙ ap (field_records f) (filter-map (is_of f.number) writes cs)

  no_records : (n : ℕ) → comparands_at n cs ≡ [] → filter (of_number n) rs ≡ []
  no_records n none = of (field_at fs n) refl
    where
      of : (o : Option FieldShape) → field_at fs n ≡ o → filter (of_number n) rs ≡ []
      of None e = records_of_no_number (map writes cs) fs n e
      of (Some f) e =
          records_of_number (map writes cs) fs n f rising_old e
          ∙ ap (field_records f) (filter-map (is_of n) writes cs ∙ ap (map writes) none)
          ∙ field_records_none f

  -- The records that count for a new field.

  pub taken_numbered : (g : FieldShape) → filter (takes g) rs ≡ filter (takes g) (filter (of_number g.number) rs)
  taken_numbered g = sym (filter-filter_weaker (of_number g.number) (takes g) (takes_number g) rs)

  pub nothing_taken : (g : FieldShape) → comparands_at g.number cs ≡ [] → AllByRecursion (λ r. takes g r ≡ false) rs
  nothing_taken g none = filtered_out (takes g) rs (taken_numbered g ∙ ap (filter (takes g)) (no_records g.number none))

  no_siblings : (g : FieldShape) → field_at gs g.number ≡ Some g → (c : Comparand) (rest : List Comparand) → comparands_at g.number cs ≡ c ∷ rest → list_any (λ r. list_any (λ h. is_sibling g h && takes h r) gs) rs ≡ false
  no_siblings g found c rest some =
      list_any_none _ rs
      (each_weaker (λ r. AllByRecursion (λ h. (is_sibling g h && takes h r) ≡ false) gs) _ (λ r k. list_any_none _ gs k) rs
      (each_swap (λ h r. (is_sibling g h && takes h r) ≡ false) gs rs
      (each_weaker (λ h. field_at gs h.number ≡ Some h) _
      (λ h at.
      ⊎_elim
      (λ sibling.
      ⊎_elim (λ none. absurd (let no : ◌≡◌ {A = List Comparand} [] (c ∷ rest) = sym none ∙ some in cc))
      (λ none. each_weaker (λ r. takes h r ≡ false) _ (λ r k. and_right (is_sibling g h) (takes h r) k) rs (nothing_taken h none))
      (apart g h found at sibling))
      (λ no_sibling. each_of_all (λ r. (is_sibling g h && takes h r) ≡ false) (λ r. rw no_sibling) rs)
      (cases_Bool (is_sibling g h)))
      gs (each_found gs rising_new))))

  counted_is : (g : FieldShape) → field_at gs g.number ≡ Some g → (xs : List Comparand) → comparands_at g.number cs ≡ xs → counted gs g rs ≡ filter (takes g) (filter (of_number g.number) rs)
  counted_is g found [] none = search (rules, filter-after_last_of_none, nothing_taken, no_records)
  counted_is g found (c ∷ rest) some = ap (filter (takes g)) (after_last_of_none _ rs (no_siblings g found c rest some)) ∙ taken_numbered g

  -- The parts of a new field are those of its own records.

  parts_of_number : (g : FieldShape) → field_at gs g.number ≡ Some g → field_parts child gs rs g ≡ field_read child g (filter (of_number g.number) rs)
  parts_of_number g found = ap (λ xs. option_and_then (λ qs. all_some (map (read_part child g.element) qs)) (content g xs)) (counted_is g found (comparands_at g.number cs) refl)

  parts_read : (f g : FieldShape) → field_at fs f.number ≡ Some f → field_at gs f.number ≡ Some g → field_parts child gs rs g ≡ field_read child g (own f)
  parts_read f g found at = search (rules, found_number, parts_of_number, of_field)

  same_own : (f g : FieldShape) (qs : List (Part Item)) → same_content view f g (map expects (comparands_at f.number cs)) (filter (is_of f.number) qs) ≡ same_content view f g (map expects cs) qs
  same_own f g qs =
      ap (λ xs. same_content view f g xs (filter (is_of f.number) qs)) (sym (filter-map (is_of f.number) expects cs)) ∙ same_content-filter view f g (map expects cs) qs

  -- Where each field is kept, there is a message, and it shows each.
  module _ (kept : EachFieldKept view child fs gs cs) where
    read_by : (g : FieldShape) → field_at gs g.number ≡ Some g → AllByRecursion (λ r. reads g r ≡ true) rs
    read_by g at =
        each_unfiltered (λ r. reads g r ≡ true) (of_number g.number) (λ r other. rw (false_from_ne_true (takes g r) (λ taken. let own_number = takes_number g r taken in cc))) rs
        (of (field_at fs g.number) refl)
      where
        of : (o : Option FieldShape) → field_at fs g.number ≡ o → AllByRecursion (λ r. reads g r ≡ true) (filter (of_number g.number) rs)
        of None e = subst (AllByRecursion (λ r. reads g r ≡ true)) (sym (records_of_no_number (map writes cs) fs g.number e)) tt
        of (Some f) e =
            let number : f.number ≡ g.number = found_number fs g.number f e in
            let found : field_at fs f.number ≡ Some f = ap (field_at fs) number ∙ e in
            let each : AllByRecursion (λ r. reads g r ≡ true) (own f) =
            list_all_true (reads g) (own f) (and_parts _ _ (kept f g found (ap (field_at gs) number ∙ at))).0 in
            subst (AllByRecursion (λ r. reads g r ≡ true)) (sym (of_field f found) ∙ ap (λ n. filter (of_number n) rs) number) each

    all_read : all_readable child gs rs ≡ true
    all_read =
        list_all_each (λ r. list_all (λ g. reads g r) gs) rs
        (each_weaker (λ r. AllByRecursion (λ g. reads g r ≡ true) gs) (λ r. list_all (λ g. reads g r) gs ≡ true) (λ r each. list_all_each (λ g. reads g r) gs each) rs
        (each_swap (λ g r. reads g r ≡ true) gs rs
        (each_weaker (λ g. field_at gs g.number ≡ Some g) (λ g. AllByRecursion (λ r. reads g r ≡ true) rs) read_by gs (each_found gs rising_new))))

    kept_parts : (f g : FieldShape) → field_at fs f.number ≡ Some f → field_at gs f.number ≡ Some g → (qs : List (Part Item)) × (field_parts child gs rs g ≡ Some qs) × (same_content view f g (map expects (comparands_at f.number cs)) qs ≡ true)
    kept_parts f g found at = search (rules, is_shown_some, and_parts, parts_read)

    some_parts : (g : FieldShape) → field_at gs g.number ≡ Some g → (o : Option FieldShape) → field_at fs g.number ≡ o → field_parts child gs rs g ≡ Some (unwrap_or (field_parts child gs rs g) [])
    some_parts g at None e = search (rules, parts_of_number, records_of_no_number, content_none)
    some_parts g at (Some f) e = search (rules, found_number, kept_parts)

    pub the_message : Message
    the_message = message_from (joined (map (λ g. unwrap_or (field_parts child gs rs g) []) gs)) (filter (is_unknown gs) rs)

    pub is_read : read_records child gs rs ≡ Some the_message
    unfolding the_message
    is_read =
        rw (
          all_read,
          all_some-map (field_parts child gs rs) (λ g. unwrap_or (field_parts child gs rs g) []) gs
              (each_weaker (λ g. field_at gs g.number ≡ Some g) _ (λ g at. some_parts g at (field_at fs g.number) refl) gs (each_found gs rising_new)),
        )

    pub shows : (f g : FieldShape) → field_at fs f.number ≡ Some f → field_at gs f.number ≡ Some g → same_content view f g (map expects cs) (parts the_message) ≡ true
    shows f g found at =
        let (qs, read, same) = kept_parts f g found at in
        let split = field_split child gs rs the_message rising_new (reading_of child gs rs the_message is_read) f.number g at in
        let equal : ◌≡◌ {A = Option (List (Part Item))} (Some qs) (Some (filter (is_of f.number) (parts the_message))) = sym read ∙ split in
        let parts_are : qs ≡ filter (is_of f.number) (parts the_message) = cc in
        sym (same_own f g (parts the_message)) ∙ subst (λ ps. same_content view f g (map expects (comparands_at f.number cs)) ps ≡ true) parts_are same
