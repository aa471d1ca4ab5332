-- How a field keeps its items: just those of a string field as `Text` (proto3 language guide, "Scalar Value Types").
use Rattle.std.specs.Prelude.{Bool, true, false}
use Rattle.pg_schema.specs.declared.parts.field.Element.{Element}
use Rattle.pg_schema.specs.declared.parts.field.Element.TheVariants as elements
use Rattle.pg_schema.specs.declared.parts.field.Scalar.{Scalar}
use Rattle.pg_schema.specs.declared.parts.field.Scalar.TheVariants as scalars
use Rattle.pg_dyn.specs.fitting.Fits.{is_string}
use Rattle.pg_dyn.specs.message.KeptParts.{KeptItem, Plain, Msg}
use Rattle.pg_dyn.specs.message.Message.{Part}

-- items of the element are held as strings or as bytes
abbrev pub holds_bytes : Element → Bool
holds_bytes (elements.Scalar s) = of s
  where
    of : Scalar → Bool
    of scalars.String = true
    of scalars.Bytes = true
    of s = false
holds_bytes (elements.Enum e) = false
holds_bytes (elements.Message t) = false

-- the item, and the part, as a field of the element keeps it
abbrev pub kept_item : Element → KeptItem → KeptItem
kept_item element (Plain manner leaf) = Plain (record { listed = manner.listed; text = is_string element }) leaf
kept_item element (Msg listed child) = Msg listed child

abbrev pub kept_in : Element → Part KeptItem → Part KeptItem
kept_in element p = record { number = p.number; key = p.key; item = kept_item element p.item }
