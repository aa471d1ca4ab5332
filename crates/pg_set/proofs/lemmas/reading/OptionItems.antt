-- Options of files, item by item.
use Rattle.std.proofs.Common.{◌≡◌, ℕ, zero, suc, ◌+◌, ◌<◌, ℤ, List, [], ◌∷◌, ◌++◌, map, length, take, get_or, Option, Some, None, option_map, refl, ap, sym, ◌∙◌, arith, add-one, rules}
use Rattle.std.proofs.lemmas.List.{append-nil, map-append}
use Rattle.std.specs.List.{cons_option}
use Rattle.pg_schema.specs.declared.parts.options.FileOption.{FileOption}
use Rattle.pg_schema.specs.declared.parts.options.OptionValue.{OptionValue}
use Rattle.pg_dyn.specs.message.Message.{Item, Message}
use Rattle.pg_set.specs.declared.descriptor.access.SetItem.{SetItem}
use Rattle.pg_set.specs.declared.descriptor.access.SetItem.TheVariants as items
use Rattle.pg_set.specs.inner.reading.SetItems.{said}
use Rattle.pg_set.specs.stated.StatedFiles.{numbered, option_of, option_value, options_under}
use Rattle.pg_set.specs.writing.Messages.{where_found}
use Rattle.pg_set.specs.stated.SetMessages.{item_at, number_of, text_of}
use Rattle.pg_set.specs.stated.Views.{OptionView, Text, option_view, value_of}

-- what an item says that is a number
pub number_said : (number : ℕ) (item : SetItem) (n : ℤ) → item ≡ items.Number n → (found : ℤ) → found ≡ number_of (said item) → value_of (numbered number found) ≡ option_value number (said item)
number_said number item n is found same = search rules

-- and one that isn't
pub text_said : (number : ℕ) (item : SetItem) → ((n : ℤ) → item ≡ items.Number n → ⊥) → (text : List ℕ) → text ≡ text_of (said item) → Text text ≡ option_value number (said item)
text_said number (items.Number n) other text is = absurd (other n refl)
text_said number (items.Text found) other text is = ap Text is
text_said number (items.Message child) other text is = ap Text is

-- ---- one after the other

in_front : (o : Option OptionView) (later behind : List OptionView) → cons_option o later ++ behind ≡ cons_option o (later ++ behind)
in_front None later behind = refl
in_front (Some v) later behind = refl

under_more : (m : Message) (ns : List ℕ) (i n : ℕ) (found : Option Item) → i < length ns → n ≡ get_or ns i n → item_at n m ≡ found
    → options_under m (take (i + 1) ns) ≡ options_under m (take i ns) ++ where_found (option_of n) found
under_more m ns i n found h is there = rw add-one (step ns i h is)
  where
    one : (o : Option Item) → cons_option (option_map (option_of n) o) [] ≡ where_found (option_of n) o
    one None = refl
    one (Some item) = refl

    step : (ns : List ℕ) (i : ℕ) → i < length ns → n ≡ get_or ns i n → options_under m (take (suc i) ns) ≡ options_under m (take i ns) ++ where_found (option_of n) found
    step [] i h is = absurd (omega (arith, h))
    step (k ∷ ns) zero h is = ap (λ j. cons_option (option_map (option_of j) (item_at j m)) []) (sym is) ∙ (one (item_at n m) ∙ ap (where_found (option_of n)) there)
    step (k ∷ ns) (suc i) h is =
        ap (cons_option (option_map (option_of k) (item_at k m))) (step ns i (omega (arith, h)) is)
        ∙ sym (in_front (option_map (option_of k) (item_at k m)) (options_under m (take i ns)) (where_found (option_of n) found))

pub found_more : (m : Message) (ns : List ℕ) (i n : ℕ) (item : Item) (made : List FileOption) (v : OptionValue) → i < length ns → n ≡ get_or ns i n → item_at n m ≡ Some item → value_of v ≡ option_value n item
    → map option_view made ≡ options_under m (take i ns) → map option_view (made ++ record { number = n; value = v } ∷ []) ≡ options_under m (take (i + 1) ns)
found_more m ns i n item made v h is there says before =
    map-append option_view made (record { number = n; value = v } ∷ [])
    ∙ (ap (λ vs. vs ++ record { number = n; value = value_of v } ∷ []) before
    ∙ (ap (λ w. options_under m (take i ns) ++ record { number = n; value = w } ∷ []) says ∙ sym (under_more m ns i n (Some item) h is there)))

pub none_more : (m : Message) (ns : List ℕ) (i n : ℕ) (made : List FileOption) → i < length ns → n ≡ get_or ns i n → item_at n m ≡ None → map option_view made ≡ options_under m (take i ns)
    → map option_view made ≡ options_under m (take (i + 1) ns)
none_more m ns i n made h is there before = before ∙ (sym (append-nil (options_under m (take i ns))) ∙ sym (under_more m ns i n None h is there))
