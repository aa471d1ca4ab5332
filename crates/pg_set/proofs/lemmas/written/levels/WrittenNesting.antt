-- What is written nests its message types no deeper than the schema does.
use Rattle.std.proofs.Common.{◌≡◌, ℕ, zero, suc, Bool, true, List, [], ◌∷◌, ◌++◌, length, map, filter, Option, Some, None, slice_get, refl, ap, ◌∙◌}
use Rattle.std.proofs.lemmas.Bool.{false≢true}
use Rattle.std.specs.List.{list_all}
use Rattle.pg_schema.specs.declared.parts.field.TypeId.{TypeId}
use Rattle.pg_schema.specs.declared.parts.file.File.{File}
use Rattle.pg_schema.specs.declared.parts.message_type.MessageType.{MessageType}
use Rattle.pg_schema.proofs.lemmas.rules.PairLemmas.{and_both, and_left, and_right}
use Rattle.pg_dyn.specs.message.Message.{Message}
use Rattle.pg_schema.specs.standing.Nesting.{holds_inside}
use Rattle.pg_schema.specs.standing.Nesting as schema
use Rattle.pg_schema.specs.standing.Places.{most_deep}
use Rattle.pg_set.specs.writing.Messages.{type_items, types_items, where_found}
use Rattle.pg_set.specs.writing.Places.{Declared}
use Rattle.pg_set.specs.stated.SetMessages.{children_at}
use Rattle.pg_set.specs.stated.TypeMessages.{is_no_entry}
use Rattle.pg_set.specs.stated.StatedTable.{nest_within, nests_within}
use Rattle.pg_set.proofs.lemmas.written.Slots.{made}
use Rattle.pg_set.proofs.lemmas.written.WrittenFiles.{file_written, types_of_file}
use Rattle.pg_set.proofs.lemmas.written.WrittenTypes.{none_entry, type_nested}

none_nested : (depth : ℕ) → nest_within depth [] ≡ true
none_nested zero = refl
none_nested (suc depth) = refl

-- what is inside a message type
abbrev nests : (depth : ℕ) → Message → Bool
nests depth m = nest_within depth (filter is_no_entry (children_at 3 m))

module _ (all : Declared) where
  -- so deep for message types of which so many levels are written
  abbrev NestWithin : (depth levels : ℕ) → Type 0
  NestWithin depth levels = (ids : List TypeId) → schema.nest_within depth all.types ids ≡ true → nest_within depth (map made (types_items levels all ids)) ≡ true

  nest_each : (depth levels : ℕ) → NestWithin depth levels → NestWithin (suc depth) (suc levels)
  nest_each depth levels deeper [] shallow = refl
  nest_each depth levels deeper (id ∷ ids) shallow =
      let here = holds_inside (schema.nest_within depth all.types) (slice_get all.types id.index) in
      of (slice_get all.types id.index) (and_left here (schema.nest_within (suc depth) all.types ids) shallow) (nest_each depth levels deeper ids (and_right here (schema.nest_within (suc depth) all.types ids) shallow))
    where
      of : (o : Option MessageType) → holds_inside (schema.nest_within depth all.types) o ≡ true → list_all (nests depth) (map made (types_items (suc levels) all ids)) ≡ true
          → list_all (nests depth) (map made (where_found (λ (t : MessageType). type_items all (types_items levels all t.nested_types.items) t) o ++ types_items (suc levels) all ids)) ≡ true
      of None h later = later
      of (Some t) h later =
          and_both (nests depth (made (type_items all (types_items levels all t.nested_types.items) t))) (list_all (nests depth) (map made (types_items (suc levels) all ids)))
          (ap (nest_within depth) (type_nested all (types_items levels all t.nested_types.items) t (none_entry all levels t.nested_types.items)) ∙ deeper t.nested_types.items h) later

  nested : (depth levels : ℕ) → NestWithin depth levels
  nested depth zero ids shallow = none_nested depth
  nested zero (suc levels) [] shallow = refl
  nested zero (suc levels) (id ∷ ids) shallow = absurd (false≢true shallow)
  nested (suc depth) (suc levels) ids shallow = nest_each depth levels (nested depth levels) ids shallow

  pub files_nest : (fs : List File) → list_all (λ (f : File). schema.nest_within most_deep all.types f.types.items) fs ≡ true → list_all (nests_within most_deep) (map (file_written all) fs) ≡ true
  files_nest [] shallow = refl
  files_nest (f ∷ fs) shallow =
      let here = schema.nest_within most_deep all.types f.types.items in
      let later = list_all (λ (g : File). schema.nest_within most_deep all.types g.types.items) fs in
      and_both (nests_within most_deep (file_written all f)) (list_all (nests_within most_deep) (map (file_written all) fs))
      (ap (nest_within most_deep) (types_of_file all f) ∙ nested most_deep (length all.types) f.types.items (and_left here later shallow)) (files_nest fs (and_right here later shallow))
