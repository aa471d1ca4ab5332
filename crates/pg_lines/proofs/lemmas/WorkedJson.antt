-- Small lines as JSON, by computation.
use Rattle.std.specs.Prelude.{codes, decimal, string_bytes, Some, None}
use Rattle.std.proofs.Common.{◌≡◌, [], ◌∷◌, ◌++◌, refl, append_assoc}
use Rattle.std.specs.Fmt.{digits}
use Rattle.pg_link.specs.declared.error.Place.{Place}
use Rattle.pg_lines.specs.Json.{code_string, field_object, hex_string, in_string, json_of, number_or_null, quoted, side_or_null, side_string, step_object, steps_array, text_or_null, word}
use Rattle.pg_lines.specs.Line.{Cause, backward, bound, breaks, cause, certificate, compatible, forward, name, reading, refused, shown, step, witness}
use Rattle.pg_lines.specs.declared.step.NamedField.{NamedField}
use Rattle.pg_lines.specs.declared.step.Step.{Step}
use Rattle.pg_lines.specs.declared.side.Side.TheVariants as sides
use Rattle.pg_lines.specs.declared.line.Listed.TheVariants as listed
use Rattle.pg_lines.specs.declared.location.Location.TheVariants as location
use Rattle.pg_lines.specs.Sentences.{grammar_sentence, record_sentence, sentence_of}
use Rattle.pg_lines.specs.laws.WorkedJson.{IsFirstLine, WorkedJson, refusal}

odd : quoted (codes "a\"\\\n" ++ 31 ∷ 195 ∷ 169 ∷ [])
    ≡ codes "\"a\\\"\\\\\\n\\u001f" ++ 195 ∷ 169 ∷ codes "\""
unfolding quoted in_string digits
odd = refl

empty : quoted [] ≡ codes "\"\""
unfolding quoted in_string digits
empty = refl

compatible_line : json_of (compatible (codes "p.M")) ≡ codes "{\"kind\":\"compatible\",\"type\":\"p.M\"}\n"
unfolding quoted in_string digits
compatible_line = refl

breaks_line : json_of (breaks (codes "M") 12) ≡ codes "{\"kind\":\"breaks\",\"type\":\"M\",\"length\":12}\n"
unfolding quoted in_string digits
breaks_line = refl

bound_line : json_of (bound (codes "M") 0) ≡ codes "{\"kind\":\"bound\",\"type\":\"M\",\"length\":0}\n"
unfolding quoted in_string digits
bound_line = refl

witness_line : json_of (witness (8 ∷ 255 ∷ [])) ≡ codes "{\"kind\":\"witness\",\"message\":\"08ff\"}\n"
unfolding hex_string word digits
witness_line = refl

forward_line : json_of forward ≡ codes "{\"kind\":\"forward\"}\n"
forward_line = refl

backward_line : json_of backward ≡ codes "{\"kind\":\"backward\"}\n"
backward_line = refl

reading_line : json_of (reading sides.New (codes "again -\n"))
    ≡ codes "{\"kind\":\"reading\",\"side\":\"new\",\"text\":\"again -\\n\"}\n"
unfolding quoted in_string side_string word digits
reading_line = refl

removed_line : json_of (name listed.Removed (codes "M")) ≡ codes "{\"kind\":\"removed\",\"type\":\"M\"}\n"
unfolding quoted in_string digits
removed_line = refl

added_line : json_of (name listed.Added (codes "M")) ≡ codes "{\"kind\":\"added\",\"type\":\"M\"}\n"
unfolding quoted in_string digits
added_line = refl

declared_line : json_of (name listed.Declared (codes "M")) ≡ codes "{\"kind\":\"declared\",\"type\":\"M\"}\n"
unfolding quoted in_string digits
declared_line = refl

certificate_line : json_of (certificate (codes "end\n")) ≡ codes "{\"kind\":\"certificate\",\"text\":\"end\\n\"}\n"
unfolding quoted in_string digits
certificate_line = refl

shown_line : json_of (shown (codes "again -\n")) ≡ codes "{\"kind\":\"shown\",\"text\":\"again -\\n\"}\n"
unfolding quoted in_string digits
shown_line = refl

refused_byte : json_of (refused (refusal (Some sides.Old) 503 (location.AtByte 3)))
    ≡ codes "{\"kind\":\"refused\",\"side\":\"old\",\"code\":\"E503\",\"file\":null,\"line\":null,\"column\":null,"
    ++ codes "\"byte\":3,\"old\":null,\"new\":null,\"number\":null,\"case\":null,\"says\":\"The tag is invalid.\"}\n"
unfolding quoted in_string side_or_null side_string word code_string text_or_null number_or_null sentence_of record_sentence digits
refused_byte = refl

refused_place : (place : Place) → IsFirstLine 9 place
    → json_of (refused (refusal None 203 (location.InPlace place)))
    ≡ codes "{\"kind\":\"refused\",\"side\":null,\"code\":\"E203\",\"file\":\"m.proto\",\"line\":1,\"column\":9,"
    ++ (codes "\"byte\":null,\"old\":null,\"new\":null,\"number\":null,\"case\":null,"
    ++ codes "\"says\":\"The group is not supported.\"}\n")
unfolding quoted in_string side_or_null code_string text_or_null number_or_null sentence_of grammar_sentence digits
refused_place place is = rw (is.file, is.line, is.column) refl

placed_field : (field : NamedField) (place : Place) → string_bytes field.name ≡ codes "M.a"
    → field.place ≡ Some place → IsFirstLine 19 place
    → field_object field ≡ codes "{\"name\":\"M.a\",\"file\":\"m.proto\",\"line\":1,\"column\":19}"
unfolding field_object quoted in_string digits
placed_field field place named at is = rw (named, at, is.file, is.line, is.column) refl

bare_field : (field : NamedField) → string_bytes field.name ≡ codes "M.a" → field.place ≡ None
    → field_object field ≡ codes "{\"name\":\"M.a\",\"file\":null,\"line\":null,\"column\":null}"
unfolding field_object quoted in_string digits
bare_field field named at = rw (named, at) refl

step_line : (s : Step) → s.number ≡ 4
    → json_of (step s) ≡ codes "{\"kind\":\"step\",\"number\":4,\"old\":" ++ (field_object s.old
    ++ (codes ",\"new\":" ++ (field_object s.new ++ codes "}\n")))
unfolding digits
step_line s number = rw number (simp append_assoc refl)

one : decimal 1 ≡ codes "1"
unfolding digits
one = refl

two : decimal 2 ≡ codes "2"
unfolding digits
two = refl

bytes : hex_string (10 ∷ 0 ∷ []) ≡ codes "\"0a00\""
unfolding word hex_string digits
bytes = refl

list_to_one : quoted (codes "list-to-one") ≡ codes "\"list-to-one\""
unfolding quoted in_string
list_to_one = refl

map_word : quoted (codes "map") ≡ codes "\"map\""
unfolding quoted in_string
map_word = refl

cause_line : (c : Cause) (second third : Step) → c.why ≡ codes "list-to-one"
    → c.message ≡ 10 ∷ 0 ∷ [] → c.field.number ≡ 1 → c.others ≡ second ∷ third ∷ []
    → json_of (cause c)
    ≡ codes "{\"kind\":\"cause\",\"why\":\"list-to-one\",\"length\":2,\"message\":\"0a00\",\"number\":1,\"old\":"
    ++ (field_object c.field.old ++ (codes ",\"new\":" ++ (field_object c.field.new ++ (codes ",\"others\":["
    ++ (step_object second ++ (codes "," ++ (step_object third ++ codes "]}\n")))))))
unfolding steps_array
cause_line c second third why message number others = rw (why, message, number, others, list_to_one, two, one, bytes) (simp append_assoc refl)

cause_alone : (c : Cause) → c.why ≡ codes "map" → c.message ≡ 10 ∷ 0 ∷ []
    → c.field.number ≡ 1 → c.others ≡ []
    → json_of (cause c)
    ≡ codes "{\"kind\":\"cause\",\"why\":\"map\",\"length\":2,\"message\":\"0a00\",\"number\":1,\"old\":"
    ++ (field_object c.field.old ++ (codes ",\"new\":" ++ (field_object c.field.new ++ codes ",\"others\":[]}\n")))
unfolding steps_array
cause_alone c why message number others = rw (why, message, number, others, map_word, two, one, bytes) (simp append_assoc refl)

pub worked_json : WorkedJson
worked_json = record {
  odd = odd;
  empty = empty;
  compatible_line = compatible_line;
  breaks_line = breaks_line;
  bound_line = bound_line;
  witness_line = witness_line;
  forward_line = forward_line;
  backward_line = backward_line;
  reading_line = reading_line;
  removed_line = removed_line;
  added_line = added_line;
  declared_line = declared_line;
  certificate_line = certificate_line;
  shown_line = shown_line;
  refused_byte = refused_byte;
  refused_place = refused_place;
  placed_field = placed_field;
  bare_field = bare_field;
  step_line = step_line;
  cause_line = cause_line;
  cause_alone = cause_alone;
}
