-- What is written of files states them.
use Rattle.std.proofs.Common.{◌≡◌, ℕ, suc, ◌+◌, ◌<◌, ◌≤◌, ℤ, pos, Bool, true, false, cond, nat_eq, ◌&&◌, ◌||◌, List, [], ◌∷◌, ◌++◌, map, find, length, codes, Option, Some, None, option_map, slice_get, refl, ap, ap₂, sym, subst, ◌∙◌, arith, rules}
use Rattle.std.proofs.lemmas.List.{length-map}
use Rattle.std.specs.List.{cons_option, list_all}
use Rattle.std.specs.Str.{bytes_eq}
use Rattle.std.specs.String.{string_bytes}
use Rattle.pg_schema.specs.declared.parts.file.File.{File}
use Rattle.pg_schema.specs.declared.parts.file.Import.{Import}
use Rattle.pg_schema.specs.declared.parts.options.FileOption.{FileOption}
use Rattle.pg_schema.specs.declared.parts.options.OptionValue.{OptionValue}
use Rattle.pg_schema.specs.declared.parts.options.OptionValue.TheVariants as values
use Rattle.pg_schema.specs.rules.Files.{is_file, is_file_option, is_of_kind}
use Rattle.pg_schema.specs.rules.Scopes.{enum_places, service_places, type_places}
use Rattle.pg_schema.proofs.lemmas.rules.PairLemmas.{and_left, and_right}
use Rattle.pg_dyn.specs.message.Message.{Item, Message}
use Rattle.pg_set.specs.writing.Items.{item}
use Rattle.pg_set.specs.inner.reading.MadeImports.{import_of}
use Rattle.pg_set.specs.writing.Messages.{enums_items, types_items, where_found}
use Rattle.pg_set.specs.stated.Numbering.{PlacedFile}
use Rattle.pg_set.specs.writing.Places.{Declared}
use Rattle.pg_set.specs.stated.SetMessages.{children_at, numbers_at, options_at, text_at, texts_at}
use Rattle.pg_set.specs.stated.FileMessages.{is_place, is_proto3, kept_imports, option_places}
use Rattle.pg_set.specs.stated.TypeMessages.{is_marked}
use Rattle.pg_set.specs.writing.Set.{file_items, file_options, option_items, public_places, services_items}
use Rattle.pg_set.specs.stated.SetNames.{file_scope, package_scope}
use Rattle.pg_set.specs.stated.StatedFiles as files
use Rattle.pg_set.specs.stated.StatedNames.{only_if}
use Rattle.pg_set.specs.stated.Views.{OptionView, file_view, import_view, option_view}
use Rattle.pg_set.proofs.lemmas.lists.Tests.{is_below, itself, not_higher, not_lower}
use Rattle.pg_set.proofs.lemmas.reading.FileItems.{imports_made}
use Rattle.pg_set.proofs.lemmas.reading.MadeOptions.{all_under, found_one, option_item, same_option, value_is, views_under}
use Rattle.pg_set.proofs.lemmas.outline.Outlining.{same_file}
use Rattle.pg_set.proofs.lemmas.rows.PlaceIds.{enums_of_places, services_of_places, types_of_places}
use Rattle.pg_set.proofs.lemmas.written.names.QualifiedNames.{package_words, scope_of}
use Rattle.pg_set.proofs.lemmas.written.Slots.{Slot, at, children_said, children_slot, counts_slot, filled_said, filled_slot, item_found, made, numbers_said, options_said, options_slot, says, text_said, text_slot, texts_said, texts_slot}

-- ---- options

abbrev item_of : FileOption → Item
item_of o = option_item o.value

one_option : (k : ℕ) (v : OptionValue) → option_items k v ≡ item k (option_item v) ∷ []
one_option k (values.Flag true) = refl
one_option k (values.Flag false) = refl
one_option k (values.Mode mode) = refl
one_option k (values.Text text) = refl

option_found : (n : ℕ) (os : List FileOption) → slice_get (at n (file_options os)) 0 ≡ option_map item_of (find (λ (o : FileOption). nat_eq o.number n) os)
option_found n [] = refl
option_found n (o ∷ os) = search (rules, option_found n os, one_option, option_map, option_item)

option_is : (os : List FileOption) (number : ℕ) (found : Option FileOption) → find (λ (o : FileOption). nat_eq o.number number) os ≡ found → list_all is_file_option os ≡ true → (later : List OptionView)
    → cons_option (option_map (files.option_of number) (option_map item_of found)) later ≡ where_found option_view found ++ later
option_is os number None is kinds later = refl
option_is os number (Some o) is kinds later =
    let known = found_one os number o is kinds in
    ap (λ w. w ∷ later) (same_option (sym known.0) (value_is number o.value (subst (λ k. is_of_kind k o.value ≡ true) known.0 known.1)))

options_are : (os : List FileOption) (ns : List ℕ) → list_all is_file_option os ≡ true → files.options_under (made (file_options os)) ns ≡ views_under os ns
options_are os [] kinds = refl
options_are os (n ∷ ns) kinds = search (rules, options_are os ns kinds, option_map, made, item_found, option_found, option_is)

-- ---- imports

abbrev pub path_of : Import → List ℕ
path_of i = string_bytes i.path

none_before : (place p : ℕ) (is : List Import) → p < place → is_marked (map pos (public_places place is)) p ≡ false
none_before place p [] h = refl
none_before place p (i ∷ is) h = of i.is_public (none_before (suc place) p is (omega (arith, h)))
  where
    of : (b : Bool) → is_marked (map pos (public_places (suc place) is)) p ≡ false → is_marked (map pos (cond b (place ∷ public_places (suc place) is) (public_places (suc place) is))) p ≡ false
    of true later = ap (λ b. b || is_marked (map pos (public_places (suc place) is)) p) (not_lower p place h) ∙ later
    of false later = later

marked_here : (place : ℕ) (i : Import) (is : List Import) → is_marked (map pos (public_places place (i ∷ is))) place ≡ i.is_public
marked_here place i is = of i.is_public
  where
    of : (b : Bool) → is_marked (map pos (cond b (place ∷ public_places (suc place) is) (public_places (suc place) is))) place ≡ b
    of true = ap (λ b. b || is_marked (map pos (public_places (suc place) is)) place) (itself place)
    of false = none_before (suc place) place is (omega arith)

marked_later : (place p : ℕ) (i : Import) (is : List Import) → place < p → is_marked (map pos (public_places place (i ∷ is))) p ≡ is_marked (map pos (public_places (suc place) is)) p
marked_later place p i is h = search (rules, not_higher)

imports_kept : (marks : List ℤ) (place : ℕ) (is : List Import) → ((p : ℕ) → place ≤ p → is_marked marks p ≡ is_marked (map pos (public_places place is)) p)
    → kept_imports false marks place (map path_of is) ≡ map import_of is
imports_kept marks place [] same = refl
imports_kept marks place (i ∷ is) same =
    ap₂ (λ b later. (path_of i, b) ∷ later) (same place (omega arith) ∙ marked_here place i is)
    (imports_kept marks (suc place) is (λ p h. same p (omega (arith, h)) ∙ marked_later place p i is (omega (arith, h))))

are_places : (count place : ℕ) (is : List Import) → place + length is ≤ count → list_all (is_place count) (map pos (public_places place is)) ≡ true
are_places count place [] h = refl
are_places count place (i ∷ is) h = of i.is_public (are_places count (suc place) is (omega (arith, h)))
  where
    of : (b : Bool) → list_all (is_place count) (map pos (public_places (suc place) is)) ≡ true → list_all (is_place count) (map pos (cond b (place ∷ public_places (suc place) is) (public_places (suc place) is))) ≡ true
    of true later = ap (λ b. b && list_all (is_place count) (map pos (public_places (suc place) is))) (is_below place count (omega (arith, h))) ∙ later
    of false later = later

-- ---- files

abbrev pub file_written : Declared → File → Message
file_written all f = made (file_items all f)

-- with the indices of what is declared in it
abbrev pub placed_file : Declared → File → PlacedFile
placed_file all f = record { message = file_written all f; types = type_places f.types.items; enums = enum_places f.enums.items; services = service_places f.services.items }

abbrev file_slots : Declared → File → List Slot
file_slots all f =
    text_slot 12 (codes "proto3") ∷ counts_slot 10 (public_places 0 f.imports.items) ∷ options_slot 8 (file_options f.options.items) ∷ children_slot 6 (services_items all f.services.items)
    ∷ children_slot 5 (enums_items all f.enums.items) ∷ children_slot 4 (types_items (length all.types) all f.types.items) ∷ texts_slot 3 (map path_of f.imports.items)
    ∷ filled_slot 2 (string_bytes f.package) ∷ text_slot 1 (string_bytes f.name) ∷ []

pub file_called : (all : Declared) (f : File) → text_at 1 (made (file_items all f)) ≡ string_bytes f.name
file_called all f = text_said 1 (made (file_items all f)) (string_bytes f.name) (says 1 (file_slots all f) refl)

pub file_is_proto3 : (all : Declared) (f : File) → is_proto3 (made (file_items all f)) ≡ true
file_is_proto3 all f = ap (λ t. bytes_eq t (codes "proto3")) (text_said 12 (made (file_items all f)) (codes "proto3") (says 12 (file_slots all f) refl))

pub file_imports : (all : Declared) (f : File) → texts_at 3 (made (file_items all f)) ≡ map path_of f.imports.items
file_imports all f = texts_said 3 (made (file_items all f)) (map path_of f.imports.items) (says 3 (file_slots all f) refl)

pub file_package : (all : Declared) (f : File) → text_at 2 (file_written all f) ≡ string_bytes f.package
file_package all f = filled_said 2 (file_written all f) (string_bytes f.package) (says 2 (file_slots all f) refl)

-- its scope is its package
pub file_scoped : (all : Declared) (f : File) → is_file f ≡ true → file_scope (file_written all f) ≡ scope_of (string_bytes f.package)
file_scoped all f rules = ap package_scope (file_package all f) ∙ package_words (string_bytes f.package) (and_left _ _ (and_left _ _ rules))

pub types_of_file : (all : Declared) (f : File) → children_at 4 (file_written all f) ≡ map made (types_items (length all.types) all f.types.items)
types_of_file all f = children_said 4 (file_written all f) (types_items (length all.types) all f.types.items) (says 4 (file_slots all f) refl)

pub enums_of_file : (all : Declared) (f : File) → children_at 5 (file_written all f) ≡ map made (enums_items all f.enums.items)
enums_of_file all f = children_said 5 (file_written all f) (enums_items all f.enums.items) (says 5 (file_slots all f) refl)

pub services_of_file : (all : Declared) (f : File) → children_at 6 (file_written all f) ≡ map made (services_items all f.services.items)
services_of_file all f = children_said 6 (file_written all f) (services_items all f.services.items) (says 6 (file_slots all f) refl)

module _ (all : Declared) (f : File) (rules : is_file f ≡ true) where
  abbrev m : Message
  m = file_written all f

  abbrev is : List Import
  is = f.imports.items

  abbrev slots : List Slot
  slots = file_slots all f

  numbers_are : numbers_at 10 m ≡ map pos (public_places 0 is)
  numbers_are = numbers_said 10 m (public_places 0 is) (says 10 slots refl)

  places_there : files.has_public_places m ≡ true
  places_there =
      ap₂ (λ n marks. list_all (is_place n) marks) (ap length (file_imports all f) ∙ length-map is path_of) numbers_are ∙ are_places (length is) 0 is (omega arith)

  imports_are : files.imports false m ≡ map import_view is
  imports_are =
      ap (map files.import_seen) (ap₂ (λ marks texts. kept_imports false marks 0 texts) numbers_are (file_imports all f) ∙ imports_kept (map pos (public_places 0 is)) 0 is (λ p h. refl))
      ∙ sym (imports_made is (map import_of is) refl)

  its_options : files.options_under (options_at 8 m) option_places ≡ map option_view f.options.items
  its_options =
      ap (λ o. files.options_under o option_places) (options_said 8 m (file_options f.options.items) (says 8 slots refl))
      ∙ (options_are f.options.items option_places (and_right _ _ rules) ∙ all_under f.options.items (and_right _ _ (and_left _ _ rules)) (and_right _ _ rules))

  -- with its indices it states the file
  pub file_is : files.file false (placed_file all f) ≡ Some (file_view f)
  file_is =
      ap (λ b. only_if b (Some (files.file_of false (placed_file all f)))) places_there
      ∙ ap Some (same_file (file_called all f) (file_package all f) imports_are (types_of_places f.types.items) (enums_of_places f.enums.items) (services_of_places f.services.items) its_options)
