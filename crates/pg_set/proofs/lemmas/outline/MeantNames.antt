-- What a table means, once declarations are in it: message types and enums by their indices, and entry types.
use Rattle.std.proofs.Common.{◌≡◌, ℕ, suc, Bool, true, false, cond, ◌⊎◌, inl, inr, List, [], ◌∷◌, Option, Some, None, refl, ap, ap₂, sym, subst, ◌∙◌, add-one, rules}
use Rattle.std.proofs.Math.Path.{fun_ext}
use Rattle.std.proofs.lemmas.Bool.{false≢true}
use Rattle.std.specs.HashMap.{get_by_text}
use Rattle.std.specs.List.{flat_map, position_from}
use Rattle.std.specs.Prelude.{option_map}
use Rattle.std.specs.Str.{bytes_eq}
use Rattle.pg_schema.specs.rules.TextSets.{is_among}
use Rattle.pg_schema.proofs.lemmas.rules.PairLemmas.{and_left, and_right, bytes_eq-sym}
use Rattle.pg_dyn.specs.message.Message.{Message}
use Rattle.pg_set.specs.declared.reading.outline.Named.{Named}
use Rattle.pg_set.specs.declared.reading.outline.Named.TheVariants as nameds
use Rattle.pg_set.specs.inner.Declarations.{Declaration, NameTable, all_declared, are_new, declared, files_declared, is_package, may_be, no_names}
use Rattle.pg_set.specs.stated.Numbering.{no_counts}
use Rattle.pg_set.specs.stated.Outlines.{file_enums, file_types}
use Rattle.pg_set.specs.stated.StatedNames.{NameLookup, first_of}
use Rattle.pg_set.specs.inner.reading.Owners.{may_name}
use Rattle.pg_set.specs.stated.StatedTable.{entry_names, enum_named, meaning, names_of as row_names, type_named}
use Rattle.pg_set.proofs.lemmas.outline.Declaring.{both_packages, declared_elsewhere, declared_here, same_or_apart}
use Rattle.pg_set.proofs.lemmas.outline.DeclaredPlaces.{entries_files, entries_named, enums_files, is_entry_name, is_enum_name, is_type_name, placed, types_files}
use Rattle.pg_set.proofs.lemmas.outline.FreshNames.{pick}

-- the first declaration of that name
abbrev found : List Declaration → List ℕ → Option Named
found [] name = None
found (d ∷ ds) name = cond (bytes_eq d.0 name) (Some d.1) (found ds name)

module _ (test : Named → Bool) where
  -- one of another kind, or of another name
  not_picked : (d : Declaration) (ds : List Declaration) (name : List ℕ) → test d.1 ≡ false → found (pick test (d ∷ ds)) name ≡ found (pick test ds) name
  not_picked d ds name is = ap (λ b. found (cond b (d ∷ pick test ds) (pick test ds)) name) is

  picked : (d : Declaration) (ds : List Declaration) (name : List ℕ) → test d.1 ≡ true → bytes_eq d.0 name ≡ true → found (pick test (d ∷ ds)) name ≡ Some d.1
  picked d ds name is same = ap (λ b. found (cond b (d ∷ pick test ds) (pick test ds)) name) is ∙ ap (λ b. cond b (Some d.1) (found (pick test ds) name)) same

  other_name : (d : Declaration) (ds : List Declaration) (name : List ℕ) → bytes_eq d.0 name ≡ false → found (pick test (d ∷ ds)) name ≡ found (pick test ds) name
  other_name d ds name apart = search (rules, pick, not_picked)

  -- what has a name is declared again only as a package
  none_again : test nameds.Package ≡ false → (ds : List Declaration) (means : NameLookup) (name : List ℕ) (thing : Named) → are_new means ds ≡ true → means name ≡ Some thing → found (pick test ds) name ≡ None
  none_again hidden [] means name thing fresh has = refl
  none_again hidden (d ∷ ds) means name thing fresh has =
      of (λ again here. none_again hidden ds (declared means d) name again (and_right (may_be (means d.0) d.1) (are_new (declared means d) ds) fresh) here) (same_or_apart d.0 name)
    where
      of : ((again : Named) → declared means d name ≡ Some again → found (pick test ds) name ≡ None) → ((d.0 ≡ name) × (bytes_eq d.0 name ≡ true)) ⊎ (bytes_eq d.0 name ≡ false) → found (pick test (d ∷ ds)) name ≡ None
      of later (inl same) =
          let may : may_be (Some thing) d.1 ≡ true = subst (λ o. may_be o d.1 ≡ true) (ap means same.0 ∙ has) (and_left (may_be (means d.0) d.1) (are_new (declared means d) ds) fresh) in
          not_picked d ds name (ap test (both_packages thing d.1 may).1 ∙ hidden) ∙ later d.1 (declared_here means d name same.1)
      of later (inr apart) = other_name d ds name apart ∙ later thing (declared_elsewhere means d name apart ∙ has)

abbrev meant : List Declaration → NameLookup → List ℕ → Option Named
meant ds means name =
    first_of (found (pick is_type_name ds) name) (first_of (found (pick is_enum_name ds) name) (first_of (found (pick is_entry_name ds) name) (may_name (means name))))

three : (a a' b b' c c' d d' : Option Named) → a ≡ a' → b ≡ b' → c ≡ c' → d ≡ d' → first_of a (first_of b (first_of c d)) ≡ first_of a' (first_of b' (first_of c' d'))
three a a' b b' c c' d d' p q r s = ap₂ first_of p (ap₂ first_of q (ap₂ first_of r s))

-- what may come to be a package, or a name of nothing that may be named, meant nothing
hidden_package : (o : Option Named) → may_be o nameds.Package ≡ true → may_name o ≡ None
hidden_package None may = refl
hidden_package (Some nameds.Package) may = refl
hidden_package (Some (nameds.Type id)) may = absurd (false≢true may)
hidden_package (Some (nameds.Enum id)) may = absurd (false≢true may)
hidden_package (Some nameds.Entry) may = absurd (false≢true may)
hidden_package (Some nameds.Other) may = absurd (false≢true may)

hidden_other : (o : Option Named) → may_be o nameds.Other ≡ true → may_name o ≡ None
hidden_other None may = refl
hidden_other (Some other) may = absurd (false≢true (and_right (is_package other) false may))

module _ (means : NameLookup) (name : List ℕ) (at : List ℕ) (ds : List Declaration) (is : at ≡ name) (same : bytes_eq at name ≡ true) where
  -- a name that is declared here, by what it is that of
  meant_here : (thing : Named) → may_be (means at) thing ≡ true → found (pick is_type_name ds) name ≡ None → found (pick is_enum_name ds) name ≡ None → found (pick is_entry_name ds) name ≡ None → may_name (Some thing) ≡ meant ((at, thing) ∷ ds) means name
  meant_here nameds.Package may a b c = search (rules, three, pick, is_type_name, is_enum_name, is_entry_name, hidden_package)
  meant_here (nameds.Type id) may a b c = sym (ap (λ o. first_of o (first_of (found (pick is_enum_name ds) name) (first_of (found (pick is_entry_name ds) name) (may_name (means name))))) (picked is_type_name (at, nameds.Type id) ds name refl same))
  meant_here (nameds.Enum id) may a b c = search (rules, pick, is_entry_name, picked, is_enum_name)
  meant_here nameds.Entry may a b c = search (rules, three, pick, is_type_name, is_enum_name, is_entry_name, picked)
  meant_here nameds.Other may a b c = search (rules, three, pick, is_type_name, is_enum_name, is_entry_name, hidden_other)

-- what a name means after declarations: a message type, an enum or an entry type among them, or what it meant
meant_all : (ds : List Declaration) (means : NameLookup) (name : List ℕ) → are_new means ds ≡ true → may_name (all_declared means ds name) ≡ meant ds means name
meant_all [] means name fresh = refl
meant_all (d ∷ ds) means name fresh = meant_all ds (declared means d) name later ∙ of (same_or_apart d.0 name)
  where
    later : are_new (declared means d) ds ≡ true
    later = and_right (may_be (means d.0) d.1) (are_new (declared means d) ds) fresh

    of : ((d.0 ≡ name) × (bytes_eq d.0 name ≡ true)) ⊎ (bytes_eq d.0 name ≡ false) → meant ds (declared means d) name ≡ meant (d ∷ ds) means name
    of (inl same) =
        let here = declared_here means d name same.1 in
        let a = none_again is_type_name refl ds (declared means d) name d.1 later here in
        let b = none_again is_enum_name refl ds (declared means d) name d.1 later here in
        let c = none_again is_entry_name refl ds (declared means d) name d.1 later here in
        three (found (pick is_type_name ds) name) None (found (pick is_enum_name ds) name) None (found (pick is_entry_name ds) name) None (may_name (declared means d name)) (may_name (Some d.1)) a b c (ap may_name here)
        ∙ meant_here means name d.0 ds same.0 same.1 d.1 (and_left (may_be (means d.0) d.1) (are_new (declared means d) ds) fresh) a b c
    of (inr apart) =
        three (found (pick is_type_name ds) name) (found (pick is_type_name (d ∷ ds)) name) (found (pick is_enum_name ds) name) (found (pick is_enum_name (d ∷ ds)) name) (found (pick is_entry_name ds) name)
        (found (pick is_entry_name (d ∷ ds)) name) (may_name (declared means d name)) (may_name (means name)) (sym (other_name is_type_name d ds name apart)) (sym (other_name is_enum_name d ds name apart))
        (sym (other_name is_entry_name d ds name apart)) (ap may_name (declared_elsewhere means d name apart))

-- ---- by indices

found_placed : (thing : ℕ → Named) (names : List (List ℕ)) (place : ℕ) (name : List ℕ) → found (placed thing place names) name ≡ option_map thing (position_from (bytes_eq name) place names)
found_placed thing [] place name = refl
found_placed thing (n ∷ names) place name = search (rules, found_placed thing names (suc place) name, placed, bytes_eq-sym, add-one)

found_entries : (names : List (List ℕ)) (name : List ℕ) → found (entries_named names) name ≡ cond (is_among names name) (Some nameds.Entry) None
found_entries [] name = refl
found_entries (n ∷ names) name = search (rules, found_entries names name, entries_named, bytes_eq-sym)

first_alone : (o : Option Named) → first_of o None ≡ o
first_alone None = refl
first_alone (Some x) = refl

-- the table of the files' names means what their rows do
pub files_meant : {Y : Type 0} (depth : ℕ) (ms : List Message) (names : NameTable Y) → get_by_text names ≡ all_declared no_names (files_declared depth no_counts ms) → are_new no_names (files_declared depth no_counts ms) ≡ true
    → (λ name. may_name (get_by_text names name)) ≡ meaning (flat_map (file_types depth) ms) (flat_map (file_enums depth) ms)
files_meant depth ms names table fresh =
    let ds = files_declared depth no_counts ms in
    let types = flat_map (file_types depth) ms in
    let enums = flat_map (file_enums depth) ms in
    fun_ext (λ name.
    ap (λ (means : NameLookup). may_name (means name)) table ∙ (meant_all ds no_names name fresh
    ∙ ap₂ first_of (ap (λ xs. found xs name) (types_files depth no_counts ms) ∙ found_placed type_named (row_names types) 0 name)
    (ap₂ first_of (ap (λ xs. found xs name) (enums_files depth no_counts ms) ∙ found_placed enum_named (row_names enums) 0 name)
    (first_alone (found (pick is_entry_name ds) name) ∙ (ap (λ xs. found xs name) (entries_files depth no_counts ms) ∙ found_entries (flat_map entry_names types) name)))))
