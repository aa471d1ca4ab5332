-- A message is kept where it is read and each shared field shows the same: what the new type lacks always comes back.
use Rattle.std.proofs.Common.{◌≡◌, ◌^◌, ◌<◌, List, [], ◌∷◌, filter, flat_map, length, Bool, true, false, not, Option, Some, None, is_none, Ok, refl, ap, sym, ◌∙◌, append-nil, eq-eqb, true≢false, rules}
use Rattle.std.specs.List.{list_any, list_all}
use Rattle.std.specs.Str.{bytes_eq}
use Rattle.std.proofs.lemmas.Bool.{and_parts, and_from, or_from, eqb-true, false_from_ne_true}
use Rattle.pg_schema.specs.declared.parts.field.TypeId.{TypeId}
use Rattle.pg_schema.specs.Shape.{Shape, FieldShape, fields, field_at}
use Rattle.pg_schema.specs.ShapeRules.{IsShape}
use Rattle.pg_wire.specs.Records.{WireRecord, records_of}
use Rattle.pg_dyn.specs.message.Message.{Leaf, Message, Part, parts, unknown_of, is_of, IsPlain}
use Rattle.pg_dyn.specs.reading.Content.{takes, is_unknown}
use Rattle.pg_dyn.specs.encoding.Writing.{field_records, records_in, bytes_of}
use Rattle.pg_dyn.specs.encoding.Encoding.{encoded_parts, enc}
use Rattle.pg_dyn.specs.reading.Decoding.{read_records, dec}
use Rattle.pg_dyn.specs.fitting.Belonging.{IsMessage}
use Rattle.pg_dyn.specs.views.Comparison.{View, same_content, outside, records_outside, unshared_bytes, expected, same}
use Rattle.pg_dyn.specs.views.Breaking.{is_kept}
use Rattle.pg_dyn.specs.laws.Laws.{SharedSame, IsKeptByField}
use Rattle.pg_dyn.proofs.Lists.{each_weaker, filter_all, filter_none, filter-flat_map, list_all_each, each_at, filter-filter_weaker, list_all_true}
use Rattle.pg_dyn.proofs.lemmas.reading.records.Splitting.{found_number, each_found, field_records_number, takes_number}
use Rattle.pg_dyn.proofs.lemmas.fitting.Belonging.{fields-IsType}
use Rattle.pg_dyn.proofs.lemmas.reading.records.ReadSplits.{reading_of, unknown_split}
use Rattle.pg_dyn.proofs.lemmas.reading.Depth.{dec_is}
use Rattle.pg_dyn.proofs.lemmas.laws.Again.{records_of-enc}
use Rattle.pg_dyn.proofs.lemmas.views.SelfSame.{bytes_eq_self, plain_unknown}

module _ (gs : List FieldShape) where
  -- a record's number isn't in the type
  abbrev is_outside : WireRecord → Bool
  is_outside r = is_none (field_at gs r.number)

  -- a field that isn't found takes nothing
  not_found : (r : WireRecord) (fs : List FieldShape) → is_none (field_at fs r.number) ≡ true → list_any (λ g. takes g r) fs ≡ false
  not_found r [] h = refl
  not_found r (g ∷ fs) h =
      search (
        rules,
        true≢false,
        or_from,
        false_from_ne_true,
        not_found r fs,
        eqb-true,
        takes_number,
        eq-eqb,
      )

  outside_unknown : (r : WireRecord) → is_outside r ≡ true → is_unknown gs r ≡ true
  outside_unknown r h = ap not (not_found r gs h)

  -- the records of a field, under the test for numbers outside
  own_outside : (ps : List (Part Leaf)) (fs : List FieldShape) → flat_map (λ (f : FieldShape). filter is_outside (field_records f (filter (is_of f.number) ps))) fs ≡ records_in (outside fs gs) ps
  own_outside ps [] = refl
  own_outside ps (f ∷ fs) =
      search (rules, field_records_number, filter_all, each_weaker, own_outside ps fs, filter_none)

  -- what is unknown of the written records with a number outside the type are the records of the fields outside it
  outside_of_written : (fs : List FieldShape) (ps : List (Part Leaf)) → records_outside gs (filter (is_unknown gs) (records_in fs ps)) ≡ records_in (outside fs gs) ps
  outside_of_written fs ps =
      filter-filter_weaker (is_unknown gs) is_outside outside_unknown (records_in fs ps)
      ∙ filter-flat_map is_outside (λ (f : FieldShape). field_records f (filter (is_of f.number) ps)) fs
      ∙ own_outside ps fs

-- whether a field, where it is shared, shows the same
abbrev shows_same : View → Shape → Shape → TypeId → TypeId → Message → Message → FieldShape → Option FieldShape → Bool
shows_same view old new a b v w f (Some g) = same_content view f g (expected view old new a b v) (parts w)
shows_same view old new a b v w f None = true

module _ (view : View) (old new : Shape) (a b : TypeId) (v : Message) (is_old : IsShape old) (is_new : IsShape new) (is_message : IsMessage old a v) (plain : IsPlain v) (short : length (enc old a v) < 2 ^ 64) where
  -- the records that the new type reads
  pub records_are : records_of (enc old a v) ≡ Ok (records_in (fields old a) (encoded_parts old a v))
  records_are = search (rules, records_of-enc, plain_unknown, append-nil)

  -- What the new type lacks comes back as it was written.
  pub unshared_come_back : (w : Message) → dec new b (enc old a v) ≡ Some w → bytes_of (records_outside (fields new b) (unknown_of w)) ≡ unshared_bytes old a (fields new b) v
  unshared_come_back w read =
      let at : read_records (dec new) (fields new b) (records_in (fields old a) (encoded_parts old a v)) ≡ Some w =
      sym (rw (dec_is new b (enc old a v), records_are) refl) ∙ read in
      let reading = reading_of (dec new) (fields new b) (records_in (fields old a) (encoded_parts old a v)) w at in
      let unknown = unknown_split (dec new) (fields new b) (records_in (fields old a) (encoded_parts old a v)) w (fields-IsType new b is_new).rising reading in
      ap bytes_of (ap (records_outside (fields new b)) unknown ∙ outside_of_written (fields new b) (fields old a) (encoded_parts old a v))

  pub kept_from : (w : Message) → dec new b (enc old a v) ≡ Some w → SharedSame view old new a b v w → is_kept view old new a b v ≡ true
  unfolding is_kept same
  kept_from w read shared =
      rw read
      (and_from _ _
      (list_all_each _ (fields old a) (each_weaker (λ (f : FieldShape). field_at (fields old a) f.number ≡ Some f) _ one (fields old a) (each_found (fields old a) (fields-IsType old a is_old).rising)))
      (ap (λ xs. bytes_eq xs (unshared_bytes old a (fields new b) v)) (unshared_come_back w read) ∙ bytes_eq_self (unshared_bytes old a (fields new b) v)))
    where
      one : (f : FieldShape) → field_at (fields old a) f.number ≡ Some f → shows_same view old new a b v w f (field_at (fields new b) f.number) ≡ true
      one f found =
          elim (field_at (fields new b) f.number) as (λ o. field_at (fields new b) f.number ≡ o → shows_same view old new a b v w f o ≡ true)
          [ None ↦ λ e. refl | Some g ↦ λ e. shared f.number f g found e ] refl

  pub kept_gives : is_kept view old new a b v ≡ true → IsKeptByField view old new a b v
  unfolding is_kept same
  kept_gives h = of (dec new b (enc old a v)) refl h
    where
      from : (w : Message) → dec new b (enc old a v) ≡ Some w → same view old new a b v w ≡ true → IsKeptByField view old new a b v
      from w read k = (
        w,
        read,
        λ n f g found_f found_g.
            let parts_of = and_parts (list_all (λ x. shows_same view old new a b v w x (field_at (fields new b) x.number)) (fields old a)) _ k in
            let each = list_all_true (λ x. shows_same view old new a b v w x (field_at (fields new b) x.number)) (fields old a) parts_of.0 in
            let at : field_at (fields new b) f.number ≡ Some g = ap (field_at (fields new b)) (found_number (fields old a) n f found_f) ∙ found_g in
            rw at at (each_at (λ x. shows_same view old new a b v w x (field_at (fields new b) x.number) ≡ true) (fields old a) n f found_f each),
      )

      of : (o : Option Message) → dec new b (enc old a v) ≡ o → is_kept view old new a b v ≡ true → IsKeptByField view old new a b v
      of None read k = absurd (true≢false (sym k ∙ rw read refl))
      of (Some w) read k = from w read (sym (rw read refl) ∙ k)
