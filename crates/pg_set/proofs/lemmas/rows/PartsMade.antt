-- The parts of a schema, made one kind after the other: there where each kind is, and missing where one is.
use Rattle.std.proofs.Common.{◌≡◌, List, Option, Some, None, option_map, option_and_then, refl, ap, ◌∙◌}
use Rattle.pg_set.specs.stated.Stated as stated
use Rattle.pg_set.specs.stated.Views.{EnumView, FileView, ServiceView, TypeView}

-- parts are there where each of them is
pub parts_there : (types : Option (List TypeView)) (enums : List EnumView) (services : Option (List ServiceView)) (files : Option (List FileView)) (ts : List TypeView) (ss : List ServiceView) (fs : List FileView)
    → files ≡ Some fs → types ≡ Some ts → services ≡ Some ss
    → option_and_then (λ made. option_and_then (λ named. option_map (λ called. stated.parts_of named enums called made) services) types) files ≡ Some (stated.parts_of ts enums ss fs)
parts_there types enums services files ts ss fs one two three =
    ap (option_and_then (λ made. option_and_then (λ named. option_map (λ called. stated.parts_of named enums called made) services) types)) one
    ∙ (ap (option_and_then (λ named. option_map (λ called. stated.parts_of named enums called fs) services)) two ∙ ap (option_map (λ called. stated.parts_of ts enums called fs)) three)

-- and aren't where one isn't
pub files_missing : (types : Option (List TypeView)) (enums : List EnumView) (services : Option (List ServiceView)) (files : Option (List FileView)) → files ≡ None
    → option_and_then (λ made. option_and_then (λ named. option_map (λ called. stated.parts_of named enums called made) services) types) files ≡ None
files_missing types enums services files none = ap (option_and_then (λ made. option_and_then (λ named. option_map (λ called. stated.parts_of named enums called made) services) types)) none

pub types_missing : (types : Option (List TypeView)) (enums : List EnumView) (services : Option (List ServiceView)) (files : Option (List FileView)) → types ≡ None
    → option_and_then (λ made. option_and_then (λ named. option_map (λ called. stated.parts_of named enums called made) services) types) files ≡ None
types_missing types enums services None none = refl
types_missing types enums services (Some fs) none = ap (option_and_then (λ named. option_map (λ called. stated.parts_of named enums called fs) services)) none

pub services_missing : (types : Option (List TypeView)) (enums : List EnumView) (services : Option (List ServiceView)) (files : Option (List FileView)) → services ≡ None
    → option_and_then (λ made. option_and_then (λ named. option_map (λ called. stated.parts_of named enums called made) services) types) files ≡ None
services_missing types enums services None none = refl
services_missing None enums services (Some fs) none = refl
services_missing (Some ts) enums services (Some fs) none = ap (option_map (λ called. stated.parts_of ts enums called fs)) none
