-- What is written of the entry types of a message type's map fields, all of them: each field has its own, and there are no others.
use Rattle.std.proofs.Common.{◌≡◌, inl, inr, ℕ, Bool, true, false, cond, not, List, [], ◌∷◌, ◌++◌, map, filter, Option, Some, None, refl, ap, ap₂, sym, subst, ◌∙◌, rules}
use Rattle.std.proofs.lemmas.Bool.{false≢true}
use Rattle.std.proofs.lemmas.List.{append-nil}
use Rattle.std.proofs.lemmas.Slice.Eq.{bytes_eq-Decides}
use Rattle.std.specs.List.{AllByRecursion, list_all}
use Rattle.std.specs.Str.{bytes_eq}
use Rattle.std.specs.String.{string_bytes}
use Rattle.pg_schema.specs.declared.parts.field.Field.{Field}
use Rattle.pg_schema.specs.declared.parts.field.Presence.{Presence}
use Rattle.pg_schema.specs.declared.parts.field.Presence.TheVariants as presences
use Rattle.pg_schema.specs.declared.parts.field.Scalar.{Scalar}
use Rattle.pg_schema.specs.rules.DeclaredNames.{entry_name, entry_names}
use Rattle.pg_schema.specs.rules.Pairs.{are_distinct, differ}
use Rattle.pg_schema.specs.Shape.{is_map}
use Rattle.pg_schema.proofs.lemmas.rules.PairLemmas.{and_both, and_left, and_right}
use Rattle.pg_set.proofs.lemmas.lists.Tests.{not_so}
use Rattle.pg_dyn.specs.message.Message.{Message}
use Rattle.pg_set.specs.declared.reading.outline.Named.TheVariants as nameds
use Rattle.pg_set.specs.writing.Entries.{entries, entry_items}
use Rattle.pg_set.specs.writing.Items.{Items}
use Rattle.pg_set.specs.writing.Places.{Declared}
use Rattle.pg_set.specs.stated.SetMessages.{text_at}
use Rattle.pg_set.specs.stated.TypeMessages.{is_entry, is_no_entry}
use Rattle.pg_set.specs.stated.SetNames.{name_in, qualified}
use Rattle.pg_set.specs.stated.StatedNames.{NameLookup, first_of}
use Rattle.pg_set.specs.stated.StatedTypes.{last_named}
use Rattle.pg_set.proofs.lemmas.lists.Matched.{Has, differ_apart}
use Rattle.pg_set.proofs.lemmas.written.names.QualifiedNames.{entry_plain, is_plain, plain_in, scope_of}
use Rattle.pg_set.proofs.lemmas.written.Slots.{made}
use Rattle.pg_set.proofs.lemmas.written.WrittenFields.{entry_called, entry_is_entry, entry_parts, entry_written}
use Rattle.pg_set.proofs.lemmas.written.WrittenItems.{HasEntry, HasEntryName}

-- ---- field by field

-- what goes on over a field that is no map, and over a map's entry type, holds of all
pub each_entry : (all : Declared) (P : List Field → List Items → Type 0) → P [] [] → ((f : Field) (fs : List Field) (es : List Items) → is_map f.presence ≡ false → P fs es → P (f ∷ fs) es)
    → ((f : Field) (key : Scalar) (fs : List Field) (es : List Items) → f.presence ≡ presences.Map key → P fs es → P (f ∷ fs) (entry_parts all f key ∷ es)) → (fs : List Field) → P fs (entries all fs)
each_entry all P none plain mapped [] = none
each_entry all P none plain mapped (f ∷ fs) = of f.presence refl (each_entry all P none plain mapped fs)
  where
    of : (p : Presence) → f.presence ≡ p → P fs (entries all fs) → P (f ∷ fs) (entry_items all f ++ entries all fs)
    of presences.Implicit is later = subst (λ p. P (f ∷ fs) (entry_items all (record f { presence = p }) ++ entries all fs)) (sym is) (plain f fs (entries all fs) (ap is_map is) later)
    of presences.Explicit is later = subst (λ p. P (f ∷ fs) (entry_items all (record f { presence = p }) ++ entries all fs)) (sym is) (plain f fs (entries all fs) (ap is_map is) later)
    of (presences.Repeated packed) is later = subst (λ p. P (f ∷ fs) (entry_items all (record f { presence = p }) ++ entries all fs)) (sym is) (plain f fs (entries all fs) (ap is_map is) later)
    of (presences.Map key) is later = subst (λ p. P (f ∷ fs) (entry_items all (record f { presence = p }) ++ entries all fs)) (sym is) (mapped f key fs (entries all fs) is later)

module _ (all : Declared) where
  are_entries : (fs : List Field) → list_all is_entry (map made (entries all fs)) ≡ true
  are_entries =
      each_entry all (λ fs es. list_all is_entry (map made es) ≡ true) refl (λ f fs es plain later. later)
      (λ f key fs es is later. and_both (is_entry (entry_written all f key)) (list_all is_entry (map made es)) (entry_is_entry all f key) later)

  -- their names
  pub entries_called : (fs : List Field) → map (text_at 1) (map made (entries all fs)) ≡ entry_names fs
  entries_called =
      each_entry all (λ fs es. map (text_at 1) (map made es) ≡ entry_names fs) refl
      (λ f fs es plain later. later ∙ ap (λ b. cond b (entry_name (string_bytes f.name) ∷ []) [] ++ entry_names fs) (sym plain))
      (λ f key fs es is later. ap₂ (λ n ns. n ∷ ns) (entry_called all f key) later ∙ ap (λ p. cond (is_map p) (entry_name (string_bytes f.name) ∷ []) [] ++ entry_names fs) (sym is))

  -- where their qualified names mean entry types, those of the fields do
  pub entries_named : (means : NameLookup) (scope : List ℕ) (fs : List Field) → AllByRecursion (λ (f : Field). is_plain (string_bytes f.name) ≡ true) fs
      → AllByRecursion (λ e. means (qualified (scope_of scope) e) ≡ Some nameds.Entry) (map made (entries all fs)) → AllByRecursion (HasEntryName means scope) fs
  entries_named means scope =
      each_entry all
      (λ fs es. AllByRecursion (λ (f : Field). is_plain (string_bytes f.name) ≡ true) fs → AllByRecursion (λ e. means (qualified (scope_of scope) e) ≡ Some nameds.Entry) (map made es) → AllByRecursion (HasEntryName means scope) fs)
      (λ called mean. tt) (λ f fs es plain later called mean. ((λ map. absurd (false≢true (sym plain ∙ map))), later called.1 mean))
      (λ f key fs es is later called mean. (
        (λ map.
            ap means (sym (plain_in scope (entry_name (string_bytes f.name)) (entry_plain (string_bytes f.name) called.0)) ∙ ap (name_in (scope_of scope)) (sym (entry_called all f key))) ∙ mean.0),
        later called.1 mean.1,
      ))

  same_key : (key other : Scalar) → presences.Map key ≡ presences.Map other → key ≡ other
  same_key key other same = cc

  under : (entry : List ℕ → Option Message) (fs : List Field) → ((m : Message) → Has (λ x. x ≡ m) (map made (entries all fs)) → entry (text_at 1 m) ≡ Some m) → AllByRecursion (HasEntry all entry) fs
  under entry =
      each_entry all (λ fs es. ((m : Message) → Has (λ x. x ≡ m) (map made es) → entry (text_at 1 m) ≡ Some m) → AllByRecursion (HasEntry all entry) fs) (λ each. tt)
      (λ f fs es plain later each. ((λ key is. absurd (false≢true (sym plain ∙ ap is_map is))), later each))
      (λ f key fs es is later each. (
        (λ other so.
            ap entry (sym (entry_called all f key)) ∙ (each (entry_written all f key) (inl refl) ∙ ap (λ k. Some (entry_written all f k)) (same_key key other (sym is ∙ so)))),
        later (λ m has. each m (inr has)),
      ))

-- ---- entry types by their names

not_among : (ms : List Message) (name : List ℕ) → list_all (differ name) (map (text_at 1) ms) ≡ true → last_named ms name ≡ None
not_among [] name apart = refl
not_among (m ∷ ms) name apart =
    ap (λ o. first_of o (cond (bytes_eq (text_at 1 m) name) (Some m) None)) (not_among ms name (and_right (differ name (text_at 1 m)) (list_all (differ name) (map (text_at 1) ms)) apart))
    ∙ ap (λ b. cond b (Some m) None) (of (bytes_eq (text_at 1 m) name) refl (and_left (differ name (text_at 1 m)) (list_all (differ name) (map (text_at 1) ms)) apart))
  where
    of : (b : Bool) → bytes_eq (text_at 1 m) name ≡ b → differ name (text_at 1 m) ≡ true → b ≡ false
    of true same apart = absurd (differ_apart name (text_at 1 m) apart (sym ((bytes_eq-Decides (text_at 1 m) name).0 same)))
    of false same apart = refl

-- of messages whose names occur once, each has its own
last_is : (ms : List Message) (m : Message) → are_distinct (map (text_at 1) ms) ≡ true → Has (λ x. x ≡ m) ms → last_named ms (text_at 1 m) ≡ Some m
last_is [] m once has = absurd has
last_is (x ∷ ms) m once (inl here) = search (rules, not_among, and_left, bytes_eq-Decides)
last_is (x ∷ ms) m once (inr later) =
    ap (λ o. first_of o (cond (bytes_eq (text_at 1 x) (text_at 1 m)) (Some x) None)) (last_is ms m (and_right (list_all (differ (text_at 1 x)) (map (text_at 1) ms)) (are_distinct (map (text_at 1) ms)) once) later)

-- where their names occur once, each map field has its own under its name
pub have_entries : (all : Declared) (fs : List Field) → are_distinct (entry_names fs) ≡ true → AllByRecursion (HasEntry all (last_named (map made (entries all fs)))) fs
have_entries all fs once = under all (last_named (map made (entries all fs))) fs (λ m has. last_is (map made (entries all fs)) m (ap are_distinct (entries_called all fs) ∙ once) has)

-- ---- among the types inside a message type

module _ (test : Message → Bool) where
  pub all_pass : (ms : List Message) → list_all test ms ≡ true → filter test ms ≡ ms
  all_pass [] h = refl
  all_pass (m ∷ ms) h = ap (λ b. cond b (m ∷ filter test ms) (filter test ms)) (and_left (test m) (list_all test ms) h) ∙ ap (λ xs. m ∷ xs) (all_pass ms (and_right (test m) (list_all test ms) h))

  pub none_passes : (ms : List Message) → list_all (λ m. not (test m)) ms ≡ true → filter test ms ≡ []
  none_passes [] h = refl
  none_passes (m ∷ ms) h =
      ap (λ b. cond b (m ∷ filter test ms) (filter test ms)) (not_so (test m) (and_left (not (test m)) (list_all (λ x. not (test x)) ms) h)) ∙ none_passes ms (and_right (not (test m)) (list_all (λ x. not (test x)) ms) h)

  parted : (xs ys : List Message) → filter test (xs ++ ys) ≡ filter test xs ++ filter test ys
  parted [] ys = refl
  parted (x ∷ xs) ys = search (rules, parted xs ys)

pub made_parted : (xs ys : List Items) → map made (xs ++ ys) ≡ map made xs ++ map made ys
made_parted [] ys = refl
made_parted (x ∷ xs) ys = ap (λ ms. made x ∷ ms) (made_parted xs ys)

twice_not : (ms : List Message) → list_all is_entry ms ≡ true → list_all (λ m. not (is_no_entry m)) ms ≡ true
twice_not [] h = refl
twice_not (m ∷ ms) h = search (rules, and_both, and_left, and_right)

module _ (all : Declared) (nested : List Items) (fs : List Field) (plain : list_all is_no_entry (map made nested) ≡ true) where
  pub entries_kept : filter is_entry (map made (nested ++ entries all fs)) ≡ map made (entries all fs)
  entries_kept = search (rules, made_parted, parted, made, none_passes, all_pass, are_entries)

  pub others_kept : filter is_no_entry (map made (nested ++ entries all fs)) ≡ map made nested
  others_kept =
      ap (filter is_no_entry) (made_parted nested (entries all fs))
      ∙ (parted is_no_entry (map made nested) (map made (entries all fs))
      ∙ (ap₂ (λ xs ys. xs ++ ys) (all_pass is_no_entry (map made nested) plain) (none_passes is_no_entry (map made (entries all fs)) (twice_not (map made (entries all fs)) (are_entries all fs)))
      ∙ append-nil (map made nested)))
