-- What is reported of parts that come from no source file is the first rule that they break, and of one part the lowest code.
use Rattle.std.proofs.Common.{◌≡◌, ◌≤◌, ◌<◌, ℕ, Bool, true, false, nat_le, List, [], ◌∷◌, ◌++◌, length, map, Option, Some, None, sym, subst, refl, arith}
use Rattle.std.specs.List.{list_all, AllByRecursion}
use Rattle.std.proofs.lemmas.Bool.Decides.{nat_tests}
use Rattle.pg_link.specs.declared.error.Place.{Place}
use Rattle.pg_schema.specs.declared.parts.enum_type.EnumType.{EnumType}
use Rattle.pg_schema.specs.declared.parts.file.File.{File}
use Rattle.pg_schema.specs.declared.parts.Parts.{Parts}
use Rattle.pg_schema.specs.rules.Files.{is_file_option}
use Rattle.pg_check.specs.declared.error.CheckError.{CheckError}
use Rattle.pg_check.specs.declared.rules.fault.Fault.{Fault}
use Rattle.pg_check.specs.declared.rules.fault.Rule.TheVariants as rules
use Rattle.pg_check.specs.admitting.BrokenParts.{BreaksFilePart, BreaksFirst, IsFirstBrokenPart, IsNowhere, bad_option, in_enum, in_file, in_type, option_again, too_many_types}
use Rattle.pg_check.specs.Errors.{error_of}
use Rattle.pg_check.specs.declared.rules.numbers.Keyed.{Keyed}
use Rattle.pg_check.specs.inner.Faults.{broken_at, first_fault, or_else, order}
use Rattle.pg_check.specs.rules.Firsts.{IsBehind, IsFirstAgain, IsNotAfter}
use Rattle.pg_check.specs.rules.Numbers as numbers
use Rattle.pg_check.specs.inner.NumberFaults as number_faults
use Rattle.pg_check.specs.admitting.DeclaredParts as declared
use Rattle.pg_check.specs.admitting.KeepsParts.{KeepsAll, KeepsEnumType, KeepsFilePart, KeepsType}
use Rattle.pg_check.specs.inner.PartFaults as faults
use Rattle.pg_check.proofs.lemmas.rules.FirstFaults.{IsFound, Meets, earlier_meets, first_meets}
use Rattle.pg_check.proofs.lemmas.rules.Judged.{again}
use Rattle.pg_check.proofs.lemmas.rules.JudgedEnums.{values_judged}
use Rattle.pg_check.proofs.lemmas.rules.NoneLaws.{first_fault_none}
use Rattle.pg_check.proofs.lemmas.admitting.PartRules.{At, one_of, test_meets}
use Rattle.pg_check.proofs.lemmas.admitting.PartShapes.{some_fails}
use Rattle.pg_check.proofs.lemmas.admitting.BrokenTypes.{type_meets, type_found}
use Rattle.pg_check.proofs.lemmas.admitting.KeptPartRules.{fault_unless_none, file_part_keeps, kept_file_part, kept_type, type_keeps}
use Rattle.pg_check.proofs.lemmas.admitting.BrokenEnumTypes.{enum_type_meets, enum_type_found}

-- ---- all parts

option_at : (f : File) (k : Keyed) → IsFirstAgain numbers.is_same (map declared.option_key f.options.items) k → k.at ≡ 0
option_at f k first = one_of declared.option_key number_faults.at (λ o. refl) f.options.items first.before first.after k first.is

file_part_meets : (f : File) (place : Place) → Meets (At (BreaksFilePart f place) place) (faults.file_fault f)
file_part_meets f place =
    let B = BreaksFilePart f place in
    earlier_meets (At B place) (faults.fault_unless rules.BadOption (list_all is_file_option f.options.items)) _
    (test_meets B place rules.BadOption (list_all is_file_option f.options.items) (λ h.
    let (o, (one, is)) = some_fails is_file_option f.options.items h in
    bad_option o one is))
    (λ g h. let (k, first, is) = (again rules.BadOption numbers.is_same number_faults.at (map declared.option_key f.options.items)).meets g h in
    subst (At B place) (sym is) (option_at f k first, option_again k first))

code_low : (declared code other : ℕ) → declared ≡ 0 → IsNotAfter declared code 0 other → code ≤ other
code_low declared code other h4 h5 = grind arith

lowest : (o : Option Fault) (f : Fault) (c : ℕ) → o ≡ Some f → f.declared ≡ 0 → IsFound o 0 c → order f.rule ≤ c
lowest o f c is zero h = code_low f.declared (order f.rule) c zero (subst (λ p. IsFound p 0 c) is h)

enum_type_keeps : (e : EnumType) → faults.enum_fault e ≡ None → KeepsEnumType e
enum_type_keeps e = (values_judged 0 (declared.declared_enum e)).none.0

all_keep : {X : Type 0} (P Q : X → Type 0) → ((x : X) → P x → Q x) → (xs : List X) → AllByRecursion P xs → AllByRecursion Q xs
all_keep P Q k [] h = tt
all_keep P Q k (x ∷ xs) h = (k x h.0, all_keep P Q k xs h.1)

abbrev Reports : Parts → Place → Fault → Type 0
Reports parts place f = BreaksFirst parts place (error_of f.rule place)

or_meets : (P : Fault → Type 0) (a b : Option Fault) → Meets P a → (a ≡ None → Meets P b) → Meets P (or_else a b)
or_meets P a b one other = grind arith

many : (n : ℕ) → nat_le n 4096 ≡ false → 4096 < n
many n h = grind (arith, nat_tests)

few : (n : ℕ) → nat_le n 4096 ≡ true → n ≤ 4096
few n h = grind (arith, nat_tests)

types_meet : (parts : Parts) (place : Place) → length parts.types.items ≤ 4096 → Meets (Reports parts place) (first_fault faults.message_fault parts.types.items)
types_meet parts place small =
    first_meets (Reports parts place) faults.message_fault KeepsType type_keeps parts.types.items (λ t behind f h.
    let both = type_meets t place f h in
    in_type t (error_of f.rule place) (order f.rule) small behind both.1 (λ other c b. lowest (faults.message_fault t) f c h both.0 (type_found t place other c b)))

enums_meet : (parts : Parts) (place : Place) → length parts.types.items ≤ 4096 → AllByRecursion KeepsType parts.types.items → Meets (Reports parts place) (first_fault faults.enum_fault parts.enums.items)
enums_meet parts place small types =
    first_meets (Reports parts place) faults.enum_fault KeepsEnumType enum_type_keeps parts.enums.items (λ e behind f h.
    let both = enum_type_meets e place f h in
    in_enum e (error_of f.rule place) (order f.rule) small types behind both.1 (λ other c b. lowest (faults.enum_fault e) f c h both.0 (enum_type_found e place other c b)))

files_meet : (parts : Parts) (place : Place) → length parts.types.items ≤ 4096 → AllByRecursion KeepsType parts.types.items → AllByRecursion KeepsEnumType parts.enums.items
    → Meets (Reports parts place) (first_fault faults.file_fault parts.files.items)
files_meet parts place small types enumerations =
    first_meets (Reports parts place) faults.file_fault KeepsFilePart file_part_keeps parts.files.items
    (λ x behind f h. in_file x (error_of f.rule place) (order f.rule) small types enumerations behind (file_part_meets x place f h).1)

parts_meet : (parts : Parts) (place : Place) → Meets (Reports parts place) (faults.parts_fault parts)
parts_meet parts place = by (nat_le (length parts.types.items) 4096) refl
  where
    rest : Option Fault
    rest = or_else (first_fault faults.enum_fault parts.enums.items) (first_fault faults.file_fault parts.files.items)

    by : (b : Bool) → nat_le (length parts.types.items) 4096 ≡ b
        → Meets (Reports parts place) (or_else (or_else (faults.fault_unless rules.TooManyTypes b) (first_fault faults.message_fault parts.types.items)) rest)
    by false e = λ f h. let same : broken_at rules.TooManyTypes 0 ≡ f = cc (h) in subst (Reports parts place) same (too_many_types (many (length parts.types.items) e))
    by true e =
        let small = few (length parts.types.items) e in
        or_meets (Reports parts place) (first_fault faults.message_fault parts.types.items) rest (types_meet parts place small) (λ none.
        let types = all_keep _ KeepsType type_keeps parts.types.items ((first_fault_none faults.message_fault parts.types.items).0 none) in
        or_meets (Reports parts place) (first_fault faults.enum_fault parts.enums.items) (first_fault faults.file_fault parts.files.items) (enums_meet parts place small types) (λ no_enum.
        let enumerations = all_keep _ KeepsEnumType enum_type_keeps parts.enums.items ((first_fault_none faults.enum_fault parts.enums.items).0 no_enum) in
        files_meet parts place small types enumerations))

pub reported_part : (parts : Parts) (f : Fault) (place : Place) → faults.parts_fault parts ≡ Some f → IsNowhere place
    → IsFirstBrokenPart parts (error_of f.rule place)
reported_part parts f place is_first nowhere = record { place = place; is_nowhere = nowhere; breaks = parts_meet parts place f is_first }

-- ---- parts of which no rule is reported

or_none : (a b : Option Fault) → or_else a b ≡ None → (a ≡ None) × (b ≡ None)
or_none a b h = grind arith

pub none_broken : (parts : Parts) → faults.parts_fault parts ≡ None → KeepsAll parts
none_broken parts none =
    let (of_types, others) = or_none (faults.types_fault parts.types.items) _ none in
    let (of_count, each_type) = or_none (faults.fault_unless rules.TooManyTypes (nat_le (length parts.types.items) 4096)) (first_fault faults.message_fault parts.types.items) of_types in
    let (each_enum, each_file) = or_none (first_fault faults.enum_fault parts.enums.items) (first_fault faults.file_fault parts.files.items) others in
    record {
      few_types = few (length parts.types.items) (fault_unless_none rules.TooManyTypes (nat_le (length parts.types.items) 4096) of_count);
      types = all_keep _ KeepsType type_keeps parts.types.items ((first_fault_none faults.message_fault parts.types.items).0 each_type);
      enums = all_keep _ KeepsEnumType enum_type_keeps parts.enums.items ((first_fault_none faults.enum_fault parts.enums.items).0 each_enum);
      files = all_keep _ KeepsFilePart file_part_keeps parts.files.items ((first_fault_none faults.file_fault parts.files.items).0 each_file);
    }

-- ---- parts that keep to the rules

kept_at : {X : Type 0} (Keeps : X → Type 0) (before after : List X) (x : X) → AllByRecursion Keeps (before ++ x ∷ after) → Keeps x
kept_at Keeps [] after x keep = keep.0
kept_at Keeps (b ∷ bs) after x keep = kept_at Keeps bs after x keep.1

kept_there : {X : Type 0} (Keeps : X → Type 0) (xs : List X) (x : X) → AllByRecursion Keeps xs → IsBehind Keeps xs x → Keeps x
kept_there Keeps xs x keep behind = kept_at Keeps behind.before behind.after x (subst (AllByRecursion Keeps) behind.is keep)

none_first : (parts : Parts) (place : Place) (e : CheckError) → KeepsAll parts → BreaksFirst parts place e → ⊥
none_first parts place e keep (too_many_types more) = let small = keep.few_types in omega (arith, more, small)
none_first parts place e keep (in_type t error code small behind breaks low) =
    kept_type t place error code (kept_there KeepsType parts.types.items t keep.types behind) breaks
none_first parts place e keep (in_enum n error code small types behind breaks low) =
    let keeps = kept_there KeepsEnumType parts.enums.items n keep.enums behind in
    subst (λ o. IsFound o 0 code) ((values_judged 0 (declared.declared_enum n)).none.1 keeps) (enum_type_found n place error code breaks)
none_first parts place e keep (in_file f error code small types enumerations behind breaks) =
    kept_file_part f place error code (kept_there KeepsFilePart parts.files.items f keep.files behind) breaks

-- they break none
pub kept_unbroken : (parts : Parts) (e : CheckError) → KeepsAll parts → IsFirstBrokenPart parts e → ⊥
kept_unbroken parts e keep h = none_first parts h.place e keep h.breaks
