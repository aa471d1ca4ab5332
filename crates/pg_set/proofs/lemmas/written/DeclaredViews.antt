-- Views of fields in order of declaration, put by rising number, are those of the fields.
use Rattle.std.proofs.Common.{◌≡◌, inl, inr, ℕ, suc, true, List, [], ◌∷◌, map, length, refl, ap, sym, ◌∙◌, rules}
use Rattle.std.specs.List.{AllByRecursion}
use Rattle.pg_schema.specs.declared.parts.field.Field.{Field}
use Rattle.pg_schema.specs.declared.parts.message_type.MessageType.{MessageType}
use Rattle.pg_schema.specs.rules.Messages.{is_declared, numbers}
use Rattle.pg_schema.specs.rules.Pairs.{is_rising}
use Rattle.pg_set.specs.writing.Messages.{declared_fields}
use Rattle.pg_set.specs.stated.StatedTypes as stated
use Rattle.pg_set.specs.stated.Views.{FieldView, field_view}
use Rattle.pg_set.proofs.lemmas.written.DeclaredFields.{declared_count, declared_numbers, each_among}
use Rattle.pg_set.proofs.lemmas.lists.Matched.{Has}
use Rattle.pg_set.proofs.lemmas.lists.SameSorted.{same_in_order}
use Rattle.pg_set.proofs.lemmas.lists.Sorting.{by_key_in_order}

-- ---- views

pub view_numbers : (fs : List Field) → map (λ (v : FieldView). v.number) (map field_view fs) ≡ numbers fs
view_numbers [] = refl
view_numbers (f ∷ fs) = ap (λ ns. f.number ∷ ns) (view_numbers fs)

has_view : (gs : List Field) (f : Field) → Has (λ g. g ≡ f) gs → Has (λ v. v ≡ field_view f) (map field_view gs)
has_view [] f has = absurd has
has_view (g ∷ gs) f (inl here) = inl (ap field_view here)
has_view (g ∷ gs) f (inr later) = inr (has_view gs f later)

each_view : (gs fs : List Field) → AllByRecursion (λ (f : Field). Has (λ g. g ≡ f) gs) fs → AllByRecursion (λ w. Has (λ v. v ≡ w) (map field_view gs)) (map field_view fs)
each_view gs [] all = tt
each_view gs (f ∷ fs) all = (has_view gs f all.0, each_view gs fs all.1)

-- ---- by rising number

has_put : {A : Type 0} (key : A → ℕ) (P : A → Type 0) (x : A) (ys : List A) → Has P (x ∷ ys) → Has P (stated.put_in key x ys)
has_put key P x [] has = has
has_put key P x (y ∷ ys) has = search (rules, has_put key P x ys)

has_sorted : {A : Type 0} (key : A → ℕ) (P : A → Type 0) (xs : List A) → Has P xs → Has P (stated.by_key key xs)
has_sorted key P [] has = has
has_sorted key P (x ∷ xs) (inl here) = has_put key P x (stated.by_key key xs) (inl here)
has_sorted key P (x ∷ xs) (inr later) = has_put key P x (stated.by_key key xs) (inr (has_sorted key P xs later))

all_sorted : {A : Type 0} (key : A → ℕ) (xs ys : List A) → AllByRecursion (λ y. Has (λ z. z ≡ y) xs) ys → AllByRecursion (λ y. Has (λ z. z ≡ y) (stated.by_key key xs)) ys
all_sorted key xs [] all = tt
all_sorted key xs (y ∷ ys) all = (has_sorted key (λ z. z ≡ y) xs all.0, all_sorted key xs ys all.1)

put_length : {A : Type 0} (key : A → ℕ) (x : A) (ys : List A) → length (stated.put_in key x ys) ≡ suc (length ys)
put_length key x [] = refl
put_length key x (y ∷ ys) = search (rules, put_length key x ys)

sorted_length : {A : Type 0} (key : A → ℕ) (xs : List A) → length (stated.by_key key xs) ≡ length xs
sorted_length key [] = refl
sorted_length key (x ∷ xs) = put_length key x (stated.by_key key xs) ∙ ap suc (sorted_length key xs)

length_viewed : (fs : List Field) → length (map field_view fs) ≡ length fs
length_viewed [] = refl
length_viewed (f ∷ fs) = ap suc (length_viewed fs)

-- ---- a message type

module _ (t : MessageType) (rising : is_rising (numbers t.fields.items) ≡ true) (declared : is_declared t.declared.items t.fields.items ≡ true) where
  abbrev views : List FieldView
  views = map field_view (declared_fields t)

  pub sorted_are : stated.by_key stated.number_of views ≡ map field_view t.fields.items
  sorted_are =
      same_in_order stated.number_of (stated.by_key stated.number_of views) (map field_view t.fields.items)
      (sorted_length stated.number_of views ∙ (length_viewed (declared_fields t) ∙ (declared_count t rising declared ∙ sym (length_viewed t.fields.items))))
      (by_key_in_order stated.number_of views) (ap is_rising (view_numbers t.fields.items) ∙ rising)
      (all_sorted stated.number_of views (map field_view t.fields.items) (each_view (declared_fields t) t.fields.items (each_among t rising declared)))

  pub numbers_are : map stated.number_of views ≡ t.declared.items
  numbers_are = view_numbers (declared_fields t) ∙ declared_numbers t rising declared
