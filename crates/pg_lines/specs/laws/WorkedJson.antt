-- Small lines as JSON: one of each kind.
use Rattle.std.specs.Prelude.{◌≡◌, ℕ, [], ◌∷◌, ◌++◌, Option, Some, None, codes, string_bytes}
use Rattle.pg_link.specs.declared.error.Place.{Place}
use Rattle.pg_lines.specs.Json.{field_object, json_of, quoted, step_object}
use Rattle.pg_lines.specs.Line.{Cause, backward, bound, breaks, cause, certificate, compatible, forward, name, reading, refused, shown, step, witness}
use Rattle.pg_lines.specs.declared.step.NamedField.{NamedField}
use Rattle.pg_lines.specs.declared.step.Step.{Step}
use Rattle.pg_lines.specs.declared.side.Side.{Side}
use Rattle.pg_lines.specs.declared.side.Side.TheVariants as sides
use Rattle.pg_lines.specs.declared.line.Listed.TheVariants as listed
use Rattle.pg_lines.specs.declared.location.Location.{Location}
use Rattle.pg_lines.specs.declared.location.Location.TheVariants as location
use Rattle.pg_lines.specs.declared.refusal.Refusal.{Refusal}

-- the first line of m.proto, and that column of it
pub record IsFirstLine (at : ℕ) (place : Place) : Type 0 where
  pub file : string_bytes place.file ≡ codes "m.proto"
  pub line : place.line ≡ 1
  pub column : place.column ≡ at

abbrev pub refusal : Option Side → ℕ → Location → Refusal
refusal side code location = record { side = side; code = code; location = location }

pub record WorkedJson : Type 0 where
  -- a quotation mark, a backslash, a control character with an escape of its own, one without, and `é`
  pub odd : quoted (codes "a\"\\\n" ++ 31 ∷ 195 ∷ 169 ∷ [])
      ≡ codes "\"a\\\"\\\\\\n\\u001f" ++ 195 ∷ 169 ∷ codes "\""
  pub empty : quoted [] ≡ codes "\"\""
  pub compatible_line : json_of (compatible (codes "p.M")) ≡ codes "{\"kind\":\"compatible\",\"type\":\"p.M\"}\n"
  pub breaks_line : json_of (breaks (codes "M") 12) ≡ codes "{\"kind\":\"breaks\",\"type\":\"M\",\"length\":12}\n"
  pub bound_line : json_of (bound (codes "M") 0) ≡ codes "{\"kind\":\"bound\",\"type\":\"M\",\"length\":0}\n"
  pub witness_line : json_of (witness (8 ∷ 255 ∷ [])) ≡ codes "{\"kind\":\"witness\",\"message\":\"08ff\"}\n"
  pub forward_line : json_of forward ≡ codes "{\"kind\":\"forward\"}\n"
  pub backward_line : json_of backward ≡ codes "{\"kind\":\"backward\"}\n"
  pub reading_line : json_of (reading sides.New (codes "again -\n"))
      ≡ codes "{\"kind\":\"reading\",\"side\":\"new\",\"text\":\"again -\\n\"}\n"
  pub removed_line : json_of (name listed.Removed (codes "M")) ≡ codes "{\"kind\":\"removed\",\"type\":\"M\"}\n"
  pub added_line : json_of (name listed.Added (codes "M")) ≡ codes "{\"kind\":\"added\",\"type\":\"M\"}\n"
  pub declared_line : json_of (name listed.Declared (codes "M")) ≡ codes "{\"kind\":\"declared\",\"type\":\"M\"}\n"
  pub certificate_line : json_of (certificate (codes "end\n")) ≡ codes "{\"kind\":\"certificate\",\"text\":\"end\\n\"}\n"
  pub shown_line : json_of (shown (codes "again -\n")) ≡ codes "{\"kind\":\"shown\",\"text\":\"again -\\n\"}\n"
  pub refused_byte : json_of (refused (refusal (Some sides.Old) 503 (location.AtByte 3)))
      ≡ codes "{\"kind\":\"refused\",\"side\":\"old\",\"code\":\"E503\",\"file\":null,\"line\":null,\"column\":null,"
      ++ codes "\"byte\":3,\"old\":null,\"new\":null,\"number\":null,\"case\":null,\"says\":\"The tag is invalid.\"}\n"
  pub refused_place : (place : Place) → IsFirstLine 9 place
      → json_of (refused (refusal None 203 (location.InPlace place)))
      ≡ codes "{\"kind\":\"refused\",\"side\":null,\"code\":\"E203\",\"file\":\"m.proto\",\"line\":1,\"column\":9,"
      ++ (codes "\"byte\":null,\"old\":null,\"new\":null,\"number\":null,\"case\":null,"
      ++ codes "\"says\":\"The group is not supported.\"}\n")
  pub placed_field : (field : NamedField) (place : Place) → string_bytes field.name ≡ codes "M.a"
      → field.place ≡ Some place → IsFirstLine 19 place
      → field_object field ≡ codes "{\"name\":\"M.a\",\"file\":\"m.proto\",\"line\":1,\"column\":19}"
  pub bare_field : (field : NamedField) → string_bytes field.name ≡ codes "M.a" → field.place ≡ None
      → field_object field ≡ codes "{\"name\":\"M.a\",\"file\":null,\"line\":null,\"column\":null}"
  pub step_line : (s : Step) → s.number ≡ 4
      → json_of (step s) ≡ codes "{\"kind\":\"step\",\"number\":4,\"old\":" ++ (field_object s.old
      ++ (codes ",\"new\":" ++ (field_object s.new ++ codes "}\n")))
  pub cause_line : (c : Cause) (second third : Step) → c.why ≡ codes "list-to-one"
      → c.message ≡ 10 ∷ 0 ∷ [] → c.field.number ≡ 1 → c.others ≡ second ∷ third ∷ []
      → json_of (cause c)
      ≡ codes "{\"kind\":\"cause\",\"why\":\"list-to-one\",\"length\":2,\"message\":\"0a00\",\"number\":1,\"old\":"
      ++ (field_object c.field.old ++ (codes ",\"new\":" ++ (field_object c.field.new ++ (codes ",\"others\":["
      ++ (step_object second ++ (codes "," ++ (step_object third ++ codes "]}\n")))))))
  pub cause_alone : (c : Cause) → c.why ≡ codes "map" → c.message ≡ 10 ∷ 0 ∷ []
      → c.field.number ≡ 1 → c.others ≡ []
      → json_of (cause c)
      ≡ codes "{\"kind\":\"cause\",\"why\":\"map\",\"length\":2,\"message\":\"0a00\",\"number\":1,\"old\":"
      ++ (field_object c.field.old ++ (codes ",\"new\":" ++ (field_object c.field.new ++ codes ",\"others\":[]}\n")))
