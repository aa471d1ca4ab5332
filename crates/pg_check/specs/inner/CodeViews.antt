-- Fields, messages and enums as the code has them.
use Rattle.std.specs.Prelude.{string_bytes}
use Rattle.pg_check.specs.declared.rules.member.DeclaredField as code
use Rattle.pg_check.specs.declared.rules.member.DeclaredField.TheVariants as codes_of
use Rattle.pg_check.specs.declared.rules.outline.FoundEnum as enums
use Rattle.pg_check.specs.declared.rules.outline.FoundMessage as messages
use Rattle.pg_check.specs.rules.Members.{Mapped, DeclaredField, Plain}
use Rattle.pg_check.specs.rules.Outline.{Message, Enum}

abbrev pub member : code.DeclaredField → DeclaredField
member (codes_of.Field f oneof) = Plain f.now oneof
member (codes_of.Map m oneof) = Mapped m.now oneof

abbrev pub message : messages.FoundMessage → Message
message f = record {
  scope = string_bytes f.scope;
  full = string_bytes f.full;
  name = f.tree.now.name;
  body = f.tree.now.parts.items;
}

abbrev pub enumeration : enums.FoundEnum → Enum
enumeration f = record { scope = string_bytes f.scope; full = string_bytes f.full; tree = f.tree.now }
