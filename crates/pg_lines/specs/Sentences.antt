-- The sentence of a code: made by tools/docs/errors.py --write of what the error types say.
use Rattle.std.specs.Prelude.{ℕ, [], ◌==◌, ◌/◌, if◌then◌else◌, codes}
use Rattle.pg_link.specs.names.Names.{Text}

unfoldable pub token_sentence : ℕ → Text
token_sentence code =
    if code == 101 then codes "The source file is not UTF-8."
    else if code == 102 then codes "Unexpected character."
    else if code == 103 then codes "The string literal crosses a line boundary."
    else if code == 104 then codes "The string literal has an invalid escape sequence or is not UTF-8."
    else if code == 105 then codes "The block comment is never closed."
    else if code == 106 then codes "The integer is out of range."
    else if code == 107 then codes "The number is a float, where only integers are supported."
    else if code == 108 then codes "The file has more than 4,194,304 bytes."
    else []

unfoldable pub grammar_sentence : ℕ → Text
grammar_sentence code =
    if code == 201 then codes "The first statement is not `syntax = \"proto3\";`."
    else if code == 202 then codes "Unexpected token or end of file."
    else if code == 203 then codes "The group is not supported."
    else if code == 204 then codes "The extension is not supported."
    else if code == 205 then codes "The custom option is not supported."
    else if code == 206 then codes "The weak import is not supported."
    else if code == 207 then codes "The message is nested too deep."
    else []

unfoldable pub file_sentence : ℕ → Text
file_sentence code =
    if code == 301 then codes "The file was not found."
    else if code == 302 then codes "The file recursively imports itself."
    else if code == 303 then codes "The import was listed twice."
    else if code == 304 then codes "The name is already defined."
    else if code == 305 then codes "The type is not defined."
    else if code == 306 then codes "The name is not a type."
    else if code == 307 then codes "The type is defined in a file that is not imported."
    else if code == 308 then codes "There are more than 1,024 files."
    else if code == 309 then codes "The file could not be read."
    else []

unfoldable pub rule_sentence : ℕ → Text
rule_sentence code =
    if code == 401 then codes "The number of the field, value or reserved item is out of range."
    else if code == 402 then codes "The field number has already been used in this message."
    else if code == 403 then codes "The number is reserved."
    else if code == 404 then codes "The name is reserved."
    else if code == 405 then codes "The reserved range ends before it begins, or overlaps another."
    else if code == 406 then codes "The JSON name of the field conflicts with that of another field."
    else if code == 407 then codes "Keys of map fields cannot be float, double, bytes, message or enum types."
    else if code == 408 then codes "A oneof must have at least one field, and none that is a map, repeated or optional."
    else if code == 409 then codes "The first enum value must be zero in proto3."
    else if code == 410 then codes "The number is used by another value of the enum, which does not set allow_alias."
    else if code == 411 then codes "The option is unknown, has a value of the wrong kind, or was already set."
    else if code == 412 then codes "[packed = true] can only be specified for repeated primitive fields."
    else if code == 413 then codes "There are more than 4,096 message types."
    else if code == 414 then codes "Enums must contain at least one value."
    else if code == 415 then codes "A name is not a valid identifier, or the descriptors do not fit together."
    else []

unfoldable pub record_sentence : ℕ → Text
record_sentence code =
    if code == 501 then codes "The varint has more than ten bytes."
    else if code == 502 then codes "The input ends inside the record or varint."
    else if code == 503 then codes "The tag is invalid."
    else if code == 504 then codes "The group is not supported."
    else if code == 505 then codes "The tag has an unknown wire type."
    else []

unfoldable pub message_sentence : ℕ → Text
message_sentence code =
    if code == 604 then codes "The string is not UTF-8."
    else if code == 607 then codes "The encoding has more than 2,147,483,647 bytes."
    else if code == 608 then codes "The message is nested too deep."
    else []

unfoldable pub set_sentence : ℕ → Text
set_sentence code =
    if code == 702 then codes "A file of the set is not proto3."
    else if code == 703 then codes "A field of the set has an unsupported type or label."
    else if code == 704 then codes "The set has an invalid reference."
    else []

unfoldable pub certificate_sentence : ℕ → Text
certificate_sentence code =
    if code == 801 then codes "The bytes are not a certificate of these schemas."
    else if code == 802 then codes "The certificate has no bound for the root."
    else if code == 803 then codes "The certificate has no bound for a child of a pair."
    else if code == 804 then codes "The bound is too high: a shorter message breaks at field NUMBER by case CASE."
    else if code == 805 then codes "The old writer never writes the witness."
    else if code == 806 then codes "The length of the witness is not the bound of the root."
    else if code == 807 then codes "The witness does not break."
    else []

unfoldable pub gate_sentence : ℕ → Text
gate_sentence code =
    if code == 901 then codes "The old schema, or that of `show`, has no such message type."
    else if code == 902 then codes "The new schema has no such message type."
    else if code == 905 then codes "The argument is not pairs of hexadecimal digits."
    else if code == 906 then codes "The list of files isn't UTF-8."
    else if code == 907 then codes "No file is named."
    else []

abbrev pub sentence_in : (hundred : ℕ) → ℕ → Text
sentence_in hundred code =
    if hundred == 1 then token_sentence code
    else if hundred == 2 then grammar_sentence code
    else if hundred == 3 then file_sentence code
    else if hundred == 4 then rule_sentence code
    else if hundred == 5 then record_sentence code
    else if hundred == 6 then message_sentence code
    else if hundred == 7 then set_sentence code
    else if hundred == 8 then certificate_sentence code
    else if hundred == 9 then gate_sentence code
    else []

-- codes of a hundred are of one subject
unfoldable pub sentence_of : ℕ → Text
sentence_of code = sentence_in (code / 100) code
