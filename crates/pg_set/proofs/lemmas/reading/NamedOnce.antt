-- The entry types that are written of a message type's map fields are those of just one field each.
use Rattle.std.proofs.Common.{◌≡◌, inl, inr, ℕ, Bool, true, cond, nat_eq, List, [], ◌∷◌, filter, length, map, refl, ap, sym, ◌∙◌, rules}
use Rattle.std.proofs.lemmas.Slice.Eq.{bytes_eq-Decides}
use Rattle.std.proofs.lemmas.List.Folds.{list_all-map}
use Rattle.std.specs.List.{list_all}
use Rattle.std.specs.Str.{bytes_eq}
use Rattle.std.specs.String.{string_bytes}
use Rattle.pg_schema.specs.declared.parts.field.Field.{Field}
use Rattle.pg_schema.specs.rules.DeclaredNames.{entry_name, entry_names}
use Rattle.pg_schema.specs.rules.Pairs.{are_distinct, differ}
use Rattle.pg_schema.specs.Shape.{is_map}
use Rattle.pg_schema.proofs.lemmas.rules.PairLemmas.{and_both, and_left, and_right, bytes_eq-sym}
use Rattle.pg_set.proofs.lemmas.order.Visited.{differs}
use Rattle.pg_set.specs.writing.Entries.{entries}
use Rattle.pg_set.specs.writing.Places.{Declared}
use Rattle.pg_set.specs.stated.SetMessages.{text_at}
use Rattle.pg_set.specs.stated.StatedFields.{is_map_of, is_named_once}
use Rattle.pg_set.specs.stated.Views.{field_view}
use Rattle.pg_set.proofs.lemmas.lists.Matched.{Has}
use Rattle.pg_set.proofs.lemmas.written.Slots.{made}
use Rattle.pg_set.proofs.lemmas.written.WrittenEntries.{entries_called}

abbrev pub map_fields : List Field → List Field
map_fields fs = filter (λ (f : Field). is_map f.presence) fs

abbrev pub entry_called : Field → List ℕ
entry_called f = entry_name (string_bytes f.name)

-- ---- how many have a name

abbrev is_called : List ℕ → Field → Bool
is_called name f = bytes_eq (entry_called f) name

viewed : (name : List ℕ) (fs : List Field) → length (filter (is_map_of name) (map field_view fs)) ≡ length (filter (is_called name) (map_fields fs))
viewed name [] = refl
viewed name (f ∷ fs) = search (rules, viewed name fs)

none_called : (name : List ℕ) (fs : List Field) → list_all (differ name) (map entry_called fs) ≡ true → length (filter (is_called name) fs) ≡ 0
none_called name [] apart = refl
none_called name (f ∷ fs) apart =
    ap (λ b. length (cond b (f ∷ filter (is_called name) fs) (filter (is_called name) fs)))
    (bytes_eq-sym (entry_called f) name ∙ differs name (entry_called f) (and_left (differ name (entry_called f)) (list_all (differ name) (map entry_called fs)) apart))
    ∙ none_called name fs (and_right (differ name (entry_called f)) (list_all (differ name) (map entry_called fs)) apart)

apart_from : (name : List ℕ) (f : Field) (fs : List Field) → list_all (differ name) (map entry_called fs) ≡ true → Has (λ g. g ≡ f) fs → differ name (entry_called f) ≡ true
apart_from name f [] apart has = absurd has
apart_from name f (g ∷ fs) apart (inl here) = search (rules, and_left)
apart_from name f (g ∷ fs) apart (inr later) = apart_from name f fs (and_right (differ name (entry_called g)) (list_all (differ name) (map entry_called fs)) apart) later

-- of fields whose names occur once, just one has the name of one of them
one_called : (f : Field) (fs : List Field) → are_distinct (map entry_called fs) ≡ true → Has (λ g. g ≡ f) fs → length (filter (is_called (entry_called f)) fs) ≡ 1
one_called f [] once has = absurd has
one_called f (g ∷ fs) once (inl here) = search (rules, bytes_eq-Decides, none_called, and_left)
one_called f (g ∷ fs) once (inr later) =
    ap (λ b. length (cond b (g ∷ filter (is_called (entry_called f)) fs) (filter (is_called (entry_called f)) fs)))
    (differs (entry_called g) (entry_called f) (apart_from (entry_called g) f fs (and_left (list_all (differ (entry_called g)) (map entry_called fs)) (are_distinct (map entry_called fs)) once) later))
    ∙ one_called f fs (and_right (list_all (differ (entry_called g)) (map entry_called fs)) (are_distinct (map entry_called fs)) once) later

-- ---- what is written of them

names_of_maps : (fs : List Field) → map entry_called (map_fields fs) ≡ entry_names fs
names_of_maps [] = refl
names_of_maps (f ∷ fs) = search (rules, names_of_maps fs)

-- just one map field has the name
abbrev is_once : List Field → List ℕ → Bool
is_once fs name = nat_eq (length (filter (is_map_of name) (map field_view fs))) 1

each_once : (fs gs : List Field) → ((f : Field) → Has (λ g. g ≡ f) gs → Has (λ g. g ≡ f) (map_fields fs)) → are_distinct (map entry_called (map_fields fs)) ≡ true → list_all (is_once fs) (map entry_called gs) ≡ true
each_once fs [] inside once = refl
each_once fs (g ∷ gs) inside once =
    and_both (is_once fs (entry_called g)) (list_all (is_once fs) (map entry_called gs))
    (ap (λ n. nat_eq n 1) (viewed (entry_called g) fs ∙ one_called g (map_fields fs) once (inside g (inl refl)))) (each_once fs gs (λ f has. inside f (inr has)) once)

-- where the names of entry types occur once, each is that of just one field
pub written_once : (all : Declared) (fs : List Field) → are_distinct (entry_names fs) ≡ true → list_all (is_named_once (map field_view fs)) (map made (entries all fs)) ≡ true
written_once all fs once =
    sym (list_all-map (is_once fs) (text_at 1) (map made (entries all fs)))
    ∙ (ap (list_all (is_once fs)) (entries_called all fs ∙ sym (names_of_maps fs)) ∙ each_once fs (map_fields fs) (λ f has. has) (ap are_distinct (names_of_maps fs) ∙ once))
