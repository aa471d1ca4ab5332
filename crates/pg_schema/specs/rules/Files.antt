-- What holds of each file and service, taken by itself.
use Rattle.std.specs.Prelude.{ℕ, Bool, nat_eq, nat_lt, ◌&&◌, List, [], ◌∷◌, map}
use Rattle.std.specs.List.{list_all, list_any}
use Rattle.std.specs.String.{string_bytes}
use Rattle.pg_schema.specs.declared.parts.file.File.{File}
use Rattle.pg_schema.specs.declared.parts.options.FileOption.{FileOption}
use Rattle.pg_schema.specs.declared.parts.options.OptionValue.{OptionValue}
use Rattle.pg_schema.specs.declared.parts.options.OptionValue.TheVariants as values
use Rattle.pg_schema.specs.declared.parts.service.Method.{Method}
use Rattle.pg_schema.specs.declared.parts.service.Service.{Service}
use Rattle.pg_schema.specs.rules.Pairs.{is_rising}
use Rattle.pg_schema.specs.rules.Words.{is_word, is_package}

-- descriptor.proto, `FileOptions`, as far as this profile takes them: java_multiple_files, deprecated, cc_enable_arenas
abbrev pub flag_options : List ℕ
flag_options = 10 ∷ 23 ∷ 31 ∷ []

-- java_package, java_outer_classname, go_package, objc_class_prefix, csharp_namespace, swift_prefix, php_class_prefix,
-- php_namespace, ruby_package
abbrev pub text_options : List ℕ
text_options = 1 ∷ 8 ∷ 11 ∷ 36 ∷ 37 ∷ 39 ∷ 40 ∷ 41 ∷ 45 ∷ []

-- the value is of the option's kind; optimize_for is number 9
abbrev pub is_of_kind : ℕ → OptionValue → Bool
is_of_kind number (values.Flag flag) = list_any (nat_eq number) flag_options
is_of_kind number (values.Mode mode) = nat_eq number 9
is_of_kind number (values.Text text) = list_any (nat_eq number) text_options

abbrev pub is_file_option : FileOption → Bool
is_file_option o = is_of_kind o.number o.value

abbrev pub option_numbers : List FileOption → List ℕ
option_numbers options = map (λ (o : FileOption). o.number) options

-- proto3 language specification, "Package", "Option"; options of a file come by rising number, each once
abbrev pub is_file : File → Bool
is_file f = is_package (string_bytes f.package) && is_rising (0 ∷ option_numbers f.options.items)
    && list_all is_file_option f.options.items

-- proto3 language specification, "Service definition": what a method sends and answers are of so many message types
abbrev pub is_method : ℕ → Method → Bool
is_method types m = is_word (string_bytes m.name) && nat_lt m.input.index types && nat_lt m.output.index types

abbrev pub is_service : ℕ → Service → Bool
is_service types s = list_all (is_method types) s.methods.items
