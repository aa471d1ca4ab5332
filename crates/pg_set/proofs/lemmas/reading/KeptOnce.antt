-- What is kept of the names of entry types, field by field.
use Rattle.std.proofs.Common.{◌≡◌, Bor, ℕ, zero, suc, ◌+◌, ◌<◌, Bool, true, false, cond, not, nat_eq, ◌&&◌, List, [], ◌∷◌, ◌++◌, String, filter, length, map, take, get_or, Option, Some, None, is_some, refl, ap, ◌∙◌, add-one, rules}
use Rattle.std.proofs.lemmas.Slice.Eq.{bytes_eq-Decides}
use Rattle.std.proofs.lemmas.List.Folds.{list_all-map}
use Rattle.std.specs.BTreeMap.{BTreeMap, get_by_text}
use Rattle.std.specs.List.{list_all}
use Rattle.std.specs.Option.{option_copied}
use Rattle.std.specs.Str.{bytes_eq}
use Rattle.std.specs.String.{string_bytes}
use Rattle.pg_schema.specs.declared.parts.field.Field.{Field}
use Rattle.pg_schema.specs.rules.DeclaredNames.{entry_name}
use Rattle.pg_schema.specs.Shape.{is_map}
use Rattle.pg_dyn.specs.message.Kept.{Kept, message_of}
use Rattle.pg_dyn.specs.message.Message.{Message}
use Rattle.pg_set.specs.inner.reading.NamedEntries.{KeepsOnce, is_kept_once, once_of}
use Rattle.pg_set.specs.stated.StatedFields.{is_map_of}
use Rattle.pg_set.specs.stated.Views.{FieldView, field_view}
use Rattle.pg_set.proofs.lemmas.order.SetLaws.{all_step}
use Rattle.pg_set.proofs.lemmas.order.OrderSteps.{suc_of}

pub some_copied : (o : Option (Bor Bool)) → is_some (option_copied o) ≡ is_some o
some_copied None = refl
some_copied (Some b) = refl

pub twice_not : (b : Bool) → b ≡ not (not b)
twice_not true = refl
twice_not false = refl

pub kept_is : (n : ℕ) → is_kept_once (once_of n) ≡ nat_eq n 1
kept_is zero = refl
kept_is (suc zero) = refl
kept_is (suc (suc n)) = search rules

abbrev on : Bool → ℕ → ℕ
on true n = suc n
on false n = n

-- with one field more
counted_more : (entry : List ℕ) (fs : List FieldView) (f : FieldView) → length (filter (is_map_of entry) (fs ++ f ∷ [])) ≡ on (is_map_of entry f) (length (filter (is_map_of entry) fs))
counted_more entry [] f = search rules
counted_more entry (g ∷ fs) f = search (rules, counted_more entry fs f)

once_more : (n : ℕ) → Some (not (is_some (once_of n))) ≡ once_of (suc n)
once_more zero = refl
once_more (suc zero) = refl
once_more (suc (suc n)) = refl

module _ (fs : List Field) (i : ℕ) (f : Field) (h : i < length fs) (is : f ≡ get_or fs i f) where
  abbrev seen : List ℕ → ℕ
  seen entry = length (filter (is_map_of entry) (map field_view (take i fs)))

  count_is : (entry : List ℕ) → length (filter (is_map_of entry) (map field_view (take (suc i) fs))) ≡ on (is_map f.presence && bytes_eq (entry_name (string_bytes f.name)) entry) (seen entry)
  count_is entry = ap (λ vs. length (filter (is_map_of entry) vs)) (suc_of field_view fs i f h is) ∙ counted_more entry (map field_view (take i fs)) (field_view f)

  -- a field that is no map
  pub passed_over : {Y : Type 0} (once : BTreeMap (String Y) Bool) → is_map f.presence ≡ false → KeepsOnce (map field_view (take i fs)) once → KeepsOnce (map field_view (take (i + 1) fs)) once
  passed_over once plain keeps = search (rules, add-one, count_is)

  -- one that is, of which that is kept
  pub kept_more : {Y : Type 0} (old new : BTreeMap (String Y) Bool) (key : List ℕ) → is_map f.presence ≡ true → key ≡ entry_name (string_bytes f.name)
      → ((name : List ℕ) → get_by_text new name ≡ cond (bytes_eq key name) (Some (not (is_some (get_by_text old key)))) (get_by_text old name))
      → KeepsOnce (map field_view (take i fs)) old → KeepsOnce (map field_view (take (i + 1) fs)) new
  kept_more old new key is_one own step keeps = search (rules, add-one, count_is, is_some, bytes_eq-Decides, once_more)

-- ---- entry type by entry type

pub all_more : (test : Message → Bool) (ms : List Kept) (i : ℕ) (m : Kept) → i < length ms → m ≡ get_or ms i m → list_all test (map message_of (take i ms)) ≡ true → test (message_of m) ≡ true
    → list_all test (map message_of (take (i + 1) ms)) ≡ true
all_more test ms i m h is all here = search (rules, list_all-map, all_step)
