-- What the messages of fields state, step by step.
use Rattle.std.proofs.Common.{◌≡◌, Bool, true, List, map, Option, Some, None, ap, ◌∙◌, option_map, option_and_then, rules}
use Rattle.std.specs.List.{list_all}
use Rattle.pg_schema.specs.declared.parts.field.Element.{Element}
use Rattle.pg_schema.specs.declared.parts.field.Field.{Field}
use Rattle.pg_schema.specs.declared.parts.field.Scalar.{Scalar}
use Rattle.pg_schema.specs.rules.DeclaredNames.{entry_name}
use Rattle.pg_dyn.specs.message.Message.{Message}
use Rattle.pg_set.specs.stated.SetMessages.{text_at}
use Rattle.pg_set.specs.stated.StatedEntries.{entry}
use Rattle.pg_set.specs.stated.StatedFields.{Items, Owner, field, fields, is_named_once, map_items, map_of, names_its_entry}
use Rattle.pg_set.specs.stated.StatedNames.{NameLookup, each, only_if}
use Rattle.pg_set.specs.stated.Views.{field_view}

-- a map field that names its entry type has the items of that one, where it is there and has its form
module _ (means : NameLookup) (o : Owner) (m : Message) where
  abbrev of_entry : Option Message → Option Items
  of_entry e = option_and_then (λ x. option_map map_of (entry means x)) e

  named_entry : (e : Option Message) → names_its_entry o m ≡ true → o.entries (entry_name (text_at 1 m)) ≡ e → map_items means o m ≡ of_entry e
  named_entry e names is = ap (λ b. only_if b (of_entry (o.entries (entry_name (text_at 1 m))))) names ∙ ap of_entry is

  pub no_entry_type : names_its_entry o m ≡ true → o.entries (entry_name (text_at 1 m)) ≡ None → map_items means o m ≡ None
  no_entry_type names none = named_entry None names none

  pub no_form : (e : Message) → names_its_entry o m ≡ true → o.entries (entry_name (text_at 1 m)) ≡ Some e → entry means e ≡ None → map_items means o m ≡ None
  no_form e names is none = named_entry (Some e) names is ∙ ap (option_map map_of) none

  pub map_there : (e : Message) (pair : Scalar × Element) → names_its_entry o m ≡ true → o.entries (entry_name (text_at 1 m)) ≡ Some e → entry means e ≡ Some pair → map_items means o m ≡ Some (map_of pair)
  map_there e pair names is has = named_entry (Some e) names is ∙ ap (option_map map_of) has

-- the fields of a message type are these, where each of its entry types is that of just one
pub fields_named : (means : NameLookup) (o : Owner) (entries ms : List Message) (fs : List Field) (b : Bool) → each (field means o) ms ≡ Some (map field_view fs)
    → list_all (is_named_once (map field_view fs)) entries ≡ b → fields means o entries ms ≡ only_if b (Some (map field_view fs))
fields_named means o entries ms fs b made is = search (rules, option_and_then)
