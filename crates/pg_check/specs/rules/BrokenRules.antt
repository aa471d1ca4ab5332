-- What each error says: the fact that doesn't hold, by the words of the rules that files keep to. Of each rule and list
-- the first declaration that breaks it is named, with its code, its byte, and the byte that is reported (proto3
-- language guide, "Assigning Field Numbers", "Reserved Fields", "Enumerations", "Oneof", "Maps", "JSON Mapping"; proto3
-- language specification, "Option").
use Rattle.std.specs.Prelude.{◌≡◌, ◌≤◌, ◌-◌, ℕ, true, false, not, nat_eq, List, ◌∷◌, ◌++◌, length, map, flat_map, Option}
use Rattle.pg_link.specs.declared.error.Place.{Place}
use Rattle.pg_link.specs.declared.uses.target.Target.{Target}
use Rattle.pg_link.specs.walk.Walk.{IsPlace}
use Rattle.pg_check.specs.declared.error.CheckError.{CheckError}
use Rattle.pg_check.specs.declared.error.CheckError.TheVariants as errors
use Rattle.pg_check.specs.declared.rules.numbers.Keyed.{Keyed}
use Rattle.pg_check.specs.declared.rules.numbers.Numbers.{Numbers}
use Rattle.pg_check.specs.rules.Enums as enums
use Rattle.pg_check.specs.rules.Files.{file_lines, rpc_body, rpc_lines, service_lines}
use Rattle.pg_check.specs.rules.Firsts.{IsBehind, IsFirst, IsFirstAgain, IsNotAfter, IsOneOf}
use Rattle.pg_check.specs.rules.KeepsRules.{KeepsRules, OptionsKeep, StatementKeeps, has_field_number, has_key, has_some, has_value_number, is_free, is_free_name, is_no_option, is_packed_rightly, is_right, lies_within, may_be_member, member_options, method_options, oneof_keeps, rises, source_messages, value_options}
use Rattle.pg_check.specs.parts.MadeParts.{Source}
use Rattle.pg_check.specs.rules.Members.{DeclaredField, members, place_of, settings, settings_of}
use Rattle.pg_check.specs.rules.Messages as messages
use Rattle.pg_check.specs.rules.Names as names
use Rattle.pg_check.specs.rules.Numbers as numbers
use Rattle.pg_check.specs.rules.Options.{OptionAt, name_of}
use Rattle.pg_check.specs.rules.Outline.{Enum, Message, scoped_enums, statements_behind}
use Rattle.pg_check.specs.rules.ReservedItems.{overlap}
use Rattle.pg_syntax.specs.declared.tree as tree
use Rattle.pg_syntax.specs.declared.tree.EnumPart.TheVariants as enum_parts
use Rattle.pg_syntax.specs.declared.tree.OneofPart.TheVariants as oneof_parts
use Rattle.pg_syntax.specs.declared.tree.Part.{Part}
use Rattle.pg_syntax.specs.declared.tree.ServicePart.TheVariants as service_parts
use Rattle.pg_syntax.specs.declared.tree.Statement.TheVariants as statements

-- ---- options and reserved items

-- an option that is unknown or of a wrong kind, or one that was given before
pub data IsBadOption (options : List OptionAt) : ℕ → Type 0 where
  wrong : (o : OptionAt) → IsFirst is_right options o → IsBadOption options o.at
  again : (n : names.Named) → IsFirstAgain names.is_same (map name_of options) n → IsBadOption options n.at

pub record IsFirstBadOption (options : List OptionAt) (at : ℕ) : Type 0 where
  pub is : IsBadOption options at
  pub is_first : (other : ℕ) → IsBadOption options other → at ≤ other

pub data BreaksItems (lowest highest : ℕ) (items : List Numbers) (place : Place) : CheckError → (code at : ℕ)
    → Type 0 where
  beyond : (r : Numbers) → IsFirst (lies_within lowest highest) items r
      → BreaksItems lowest highest items place (errors.BadNumber place) 401 r.at
  falling : (r : Numbers) → IsFirst rises items r
      → BreaksItems lowest highest items place (errors.RangeOverlap place) 405 r.at
  overlapping : (r : Numbers) → IsFirstAgain overlap items r
      → BreaksItems lowest highest items place (errors.RangeOverlap place) 405 r.at

-- ---- message types

-- numbers, names and reserved items
pub data BreaksFields (d : messages.DeclaredMessage) (place : Place) : CheckError → (code declared at : ℕ)
    → Type 0 where
  bad_field_number : (k : Keyed) → IsFirst has_field_number d.keys k
      → BreaksFields d place (errors.BadNumber place) 401 k.at k.at
  duplicate_number : (k : Keyed) → IsFirstAgain numbers.is_same d.keys k
      → BreaksFields d place (errors.DuplicateNumber place) 402 k.at k.at
  reserved_field_number : (k : Keyed) → IsFirst (is_free d.items) d.keys k
      → BreaksFields d place (errors.ReservedNumber place) 403 k.at k.at
  reserved_field_name : (n : names.Named) → IsFirst (is_free_name d.reserved_names) d.names n
      → BreaksFields d place (errors.ReservedName place) 404 n.at n.at
  bad_field_item : (e : CheckError) (code at : ℕ)
      → BreaksItems numbers.lowest_field numbers.highest_field d.items place e code at
      → BreaksFields d place e code at at
  json_name_clash : (n : names.Named) → IsFirstAgain names.is_same d.json_names n
      → BreaksFields d place (errors.JsonNameClash place) 406 n.at n.at

pub data BreaksMessage (targets : ℕ → Option Target) (body : List Part) (place : Place) : CheckError
    → (code declared at : ℕ) → Type 0 where
  in_fields : (e : CheckError) (code declared at : ℕ) → BreaksFields (messages.declared body) place e code declared at
      → BreaksMessage targets body place e code declared at
  bad_map_key : (m : DeclaredField) → IsFirst has_key (members body) m
      → BreaksMessage targets body place (errors.BadMapKey place) 407 (place_of m) (place_of m)
  bad_oneof_member : (m : DeclaredField) → IsFirst may_be_member (members body) m
      → BreaksMessage targets body place (errors.BadOneofMember place) 408 (place_of m) (place_of m)
  empty_oneof : (o : tree.Oneof.Oneof) → IsBehind (λ o. oneof_keeps o ≡ true) (messages.oneofs body) o
      → messages.has_member o.parts.items ≡ false
      → BreaksMessage targets body place (errors.BadOneofMember place) 408 o.name.span.from o.name.span.from
  oneof_option : (o : tree.Oneof.Oneof) (line : tree.OptionLine.OptionLine)
      → IsBehind (λ o. oneof_keeps o ≡ true) (messages.oneofs body) o
      → messages.has_member o.parts.items ≡ true
      → IsBehind (λ p. is_no_option p ≡ true) o.parts.items (oneof_parts.Option line)
      → BreaksMessage targets body place (errors.BadOption place) 411 line.span.from line.span.from
  bad_message_option : (at : ℕ) → IsFirstBadOption (messages.lines body) at
      → BreaksMessage targets body place (errors.BadOption place) 411 at at
  bad_field_option : (m : DeclaredField) (at : ℕ) → IsBehind (λ m. OptionsKeep (member_options m)) (members body) m
      → IsFirstBadOption (member_options m) at
      → BreaksMessage targets body place (errors.BadOption place) 411 (place_of m) at
  packed_not_allowed : (m : DeclaredField) (s : tree.Setting.Setting)
      → IsBehind (λ m. is_packed_rightly targets m ≡ true) (members body) m
      → messages.may_be_packed targets m ≡ false
      → IsFirst (λ s. not (messages.states_packed s)) (settings (settings_of m)) s
      → BreaksMessage targets body place (errors.PackedNotAllowed place) 412 (place_of m) s.span.from

-- ---- enums

-- values and reserved items of an enum that is declared at that byte
pub data BreaksValues (d : enums.DeclaredEnum) (name_at : ℕ) (place : Place) : CheckError → (code declared at : ℕ)
    → Type 0 where
  bad_value_number : (k : Keyed) → IsFirst has_value_number d.keys k
      → BreaksValues d name_at place (errors.BadNumber place) 401 k.at k.at
  reserved_value_number : (k : Keyed) → IsFirst (is_free d.items) d.keys k
      → BreaksValues d name_at place (errors.ReservedNumber place) 403 k.at k.at
  reserved_value_name : (n : names.Named) → IsFirst (is_free_name d.reserved_names) d.names n
      → BreaksValues d name_at place (errors.ReservedName place) 404 n.at n.at
  bad_value_item : (error : CheckError) (code at : ℕ)
      → BreaksItems numbers.lowest_value numbers.highest_value d.items place error code at
      → BreaksValues d name_at place error code at at
  first_not_zero : (k : Keyed) (more : List Keyed) → d.keys ≡ k ∷ more → nat_eq k.key (numbers.rank false 0) ≡ false
      → BreaksValues d name_at place (errors.EnumFirstNotZero place) 409 k.at k.at
  alias : (k : Keyed) → d.has_aliases ≡ false → IsFirstAgain numbers.is_same d.keys k
      → BreaksValues d name_at place (errors.EnumAlias place) 410 k.at k.at
  empty_enum : has_some d.keys ≡ false
      → BreaksValues d name_at place (errors.EnumEmpty place) 414 name_at name_at

pub data BreaksEnum (e : tree.Enum.Enum) (place : Place) : CheckError → (code declared at : ℕ) → Type 0 where
  in_values : (error : CheckError) (code declared at : ℕ)
      → BreaksValues (enums.declared e.parts.items) e.name.span.from place error code declared at
      → BreaksEnum e place error code declared at
  bad_enum_option : (at : ℕ) → IsFirstBadOption (enums.lines e.parts.items) at
      → BreaksEnum e place (errors.BadOption place) 411 at at
  bad_value_option : (v : tree.EnumValue.EnumValue) (at : ℕ)
      → IsBehind (λ p. OptionsKeep (value_options p)) e.parts.items (enum_parts.Value v)
      → IsFirstBadOption (value_options (enum_parts.Value v)) at
      → BreaksEnum e place (errors.BadOption place) 411 v.name.span.from at

-- ---- services and files

pub data BreaksService (body : List tree.ServicePart.ServicePart) (place : Place) : CheckError → (code declared at : ℕ)
    → Type 0 where
  bad_service_option : (at : ℕ) → IsFirstBadOption (service_lines body) at
      → BreaksService body place (errors.BadOption place) 411 at at
  bad_method_option : (r : tree.Rpc.Rpc) (at : ℕ)
      → IsBehind (λ p. OptionsKeep (method_options p)) body (service_parts.Rpc r)
      → IsFirstBadOption (rpc_lines (rpc_body r.body)) at
      → BreaksService body place (errors.BadOption place) 411 at at

-- a file after which so many more message types may come
pub data BreaksFile (s : Source) (left : ℕ) (place : Place) : CheckError → (code declared at : ℕ) → Type 0 where
  too_many_types : (m : Message) (before after : List Message) → source_messages s ≡ before ++ m ∷ after
      → length before ≡ left
      → BreaksFile s left place (errors.TooManyTypes place) 413 m.name.span.from m.name.span.from
  in_message : (m : Message) (e : CheckError) (code declared at : ℕ) → IsOneOf (source_messages s) m
      → BreaksMessage s.targets m.body place e code declared at → BreaksFile s left place e code declared at
  in_enum : (n : Enum) (e : CheckError) (code declared at : ℕ) → IsOneOf (scoped_enums s.tree) n
      → BreaksEnum n.tree place e code declared at → BreaksFile s left place e code declared at
  bad_file_option : (at : ℕ) → IsFirstBadOption (file_lines s.tree) at
      → BreaksFile s left place (errors.BadOption place) 411 at at
  in_service : (v : tree.Service.Service) (e : CheckError) (code declared at : ℕ)
      → IsBehind StatementKeeps s.tree.statements.items (statements.Service v)
      → BreaksService v.parts.items place e code declared at → BreaksFile s left place e code declared at
  in_packaged_service : (v : tree.Service.Service) (e : CheckError) (code declared at : ℕ)
      → IsBehind StatementKeeps (statements_behind s.tree.packaged) (statements.Service v)
      → BreaksService v.parts.items place e code declared at → BreaksFile s left place e code declared at

-- how many more message types may come after files
abbrev pub left_behind : List Source → ℕ
left_behind files = 4096 - length (flat_map source_messages files)

-- An error names a rule that is broken: the files before keep to the rules, its file breaks it at the position, and of
-- no rule does the first declaration that breaks it come before, nor is it this one where its code is lower.
pub record IsFirstBroken (files : List Source) (e : CheckError) : Type 0 where
  pub before : List Source
  pub file : Source
  pub after : List Source
  pub is : files ≡ before ++ file ∷ after
  pub before_keep : KeepsRules before
  pub place : Place
  pub code : ℕ
  pub declared : ℕ
  pub at : ℕ
  pub is_place : IsPlace place file.path file.text at
  pub breaks : BreaksFile file (left_behind before) place e code declared at
  pub is_first : (p : Place) (other : CheckError) (c d a : ℕ) → BreaksFile file (left_behind before) p other c d a
      → IsNotAfter declared code d c
