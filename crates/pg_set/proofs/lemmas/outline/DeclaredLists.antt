-- What declarations of files come to: their names, the parts of their packages, and their message types, enums and entry types.
use Rattle.std.proofs.Common.{◌≡◌, ℕ, zero, suc, Bool, true, false, cond, not, List, [], ◌∷◌, ◌++◌, map, refl, ap, ap₂, ◌∙◌, append-nil, rules}
use Rattle.std.proofs.lemmas.List.{map-append}
use Rattle.std.proofs.lemmas.List.Elements.{filter-append}
use Rattle.std.specs.List.{flat_map}
use Rattle.pg_dyn.specs.message.Message.{Message}
use Rattle.pg_set.specs.declared.reading.outline.Named.{Named}
use Rattle.pg_set.specs.inner.Declarations.{Declaration, all_named, enums_declared, files_declared, is_package, package_declared, package_part, services_declared, type_declared, types_declared}
use Rattle.pg_set.specs.stated.SetNames.{package_parts, enums_names, file_scope, files_names, qualified, qualified_names, own_names, services_names, types_names}
use Rattle.pg_set.specs.stated.Numbering.{Counts, behind_file, behind_type, inner_types, inside_file, inside_type}
use Rattle.pg_set.specs.stated.SetMessages.{children_at}
use Rattle.pg_set.proofs.lemmas.outline.FreshNames.{is_thing, names_of, parts, pick, things}

-- ---- lists

pub pick_append : (test : Named → Bool) (a b : List Declaration) → pick test (a ++ b) ≡ pick test a ++ pick test b
pick_append test a b = filter-append (λ (d : Declaration). test d.1) a b

names_append : (test : Named → Bool) (a b : List Declaration) → names_of (pick test (a ++ b)) ≡ names_of (pick test a) ++ names_of (pick test b)
names_append test a b = ap names_of (pick_append test a b) ∙ map-append (λ (d : Declaration). d.0) (pick test a) (pick test b)

pub pick_all : (test : Named → Bool) (scope : List ℕ) (thing : Named) → test thing ≡ true → (ms : List Message) → pick test (all_named scope thing ms) ≡ all_named scope thing ms
pick_all test scope thing is [] = refl
pick_all test scope thing is (m ∷ ms) = search (rules, pick_all test scope thing is ms, pick)

pub pick_none : (test : Named → Bool) (scope : List ℕ) (thing : Named) → test thing ≡ false → (ms : List Message) → pick test (all_named scope thing ms) ≡ []
pick_none test scope thing is [] = refl
pick_none test scope thing is (m ∷ ms) =
    ap (λ b. cond b ((qualified scope m, thing) ∷ pick test (all_named scope thing ms)) (pick test (all_named scope thing ms))) is ∙ pick_none test scope thing is ms

names_all : (scope : List ℕ) (thing : Named) (ms : List Message) → names_of (all_named scope thing ms) ≡ qualified_names scope ms
names_all scope thing [] = refl
names_all scope thing (m ∷ ms) = ap (λ ns. qualified scope m ∷ ns) (names_all scope thing ms)

-- ---- from what single declarations come to, to what all of files do

module _ {X : Type 0} (h : List Declaration → List X) (none : h [] ≡ []) (split : (a b : List Declaration) → h (a ++ b) ≡ h a ++ h b)
    (of_type : List ℕ → ℕ → Message → List X) (type_is : (full : List ℕ) (place : ℕ) (m : Message) → h (type_declared full place m) ≡ of_type full place m)
    (of_enums : List ℕ → ℕ → List Message → List X) (enums_are : (scope : List ℕ) (place : ℕ) (ms : List Message) → h (enums_declared scope place ms) ≡ of_enums scope place ms)
    (of_types : ℕ → List ℕ → Counts → List Message → List X) (no_depth : (scope : List ℕ) (counts : Counts) (ms : List Message) → [] ≡ of_types 0 scope counts ms)
    (no_types : (depth : ℕ) (scope : List ℕ) (counts : Counts) → [] ≡ of_types (suc depth) scope counts [])
    (one_type : (depth : ℕ) (scope : List ℕ) (counts : Counts) (m : Message) (ms : List Message)
    → (of_type (qualified scope m) counts.types m ++ of_enums (qualified scope m) counts.enums (children_at 4 m) ++ of_types depth (qualified scope m) (inside_type counts m) (inner_types m))
    ++ of_types (suc depth) scope (behind_type depth scope counts m) ms ≡ of_types (suc depth) scope counts (m ∷ ms)) where
  each_type : (depth : ℕ) → ((scope : List ℕ) (counts : Counts) (ms : List Message) → h (types_declared depth scope counts ms) ≡ of_types depth scope counts ms)
      → (scope : List ℕ) (ms : List Message) (counts : Counts) → h (types_declared (suc depth) scope counts ms) ≡ of_types (suc depth) scope counts ms
  each_type depth deeper scope [] counts = none ∙ no_types depth scope counts
  each_type depth deeper scope (m ∷ ms) counts =
      let own = type_declared (qualified scope m) counts.types m in
      let enums = enums_declared (qualified scope m) counts.enums (children_at 4 m) in
      let inside = types_declared depth (qualified scope m) (inside_type counts m) (inner_types m) in
      split (own ++ enums ++ inside) (types_declared (suc depth) scope (behind_type depth scope counts m) ms)
      ∙ (ap₂ (λ a b. a ++ b)
      (split (own ++ enums) inside
      ∙ ap₂ (λ a b. a ++ b) (split own enums ∙ ap₂ (λ a b. a ++ b) (type_is (qualified scope m) counts.types m) (enums_are (qualified scope m) counts.enums (children_at 4 m))) (deeper (qualified scope m) (inside_type counts m) (inner_types m)))
      (each_type depth deeper scope ms (behind_type depth scope counts m)) ∙ one_type depth scope counts m ms)

  types_are : (depth : ℕ) (scope : List ℕ) (counts : Counts) (ms : List Message) → h (types_declared depth scope counts ms) ≡ of_types depth scope counts ms
  types_are zero scope counts ms = none ∙ no_depth scope counts ms
  types_are (suc depth) scope counts ms = each_type depth (types_are depth) scope ms counts

  module _ (of_package : List ℕ → List X) (package_is : (name : List ℕ) → h (package_declared name) ≡ of_package name)
      (of_services : List ℕ → List Message → List X) (services_are : (scope : List ℕ) (ms : List Message) → h (services_declared scope ms) ≡ of_services scope ms) (depth : ℕ)
      (of_files : Counts → List Message → List X) (no_files : (counts : Counts) → [] ≡ of_files counts [])
      (one_file : (counts : Counts) (m : Message) (ms : List Message)
      → (of_package (file_scope m) ++ of_enums (file_scope m) counts.enums (children_at 5 m) ++ of_types depth (file_scope m) (inside_file counts m) (children_at 4 m) ++ of_services (file_scope m) (children_at 6 m))
      ++ of_files (behind_file depth counts m) ms ≡ of_files counts (m ∷ ms)) where
    pub files_are : (ms : List Message) (counts : Counts) → h (files_declared depth counts ms) ≡ of_files counts ms
    files_are [] counts = none ∙ no_files counts
    files_are (m ∷ ms) counts =
        let at = file_scope m in
        let own = package_declared at in
        let enums = enums_declared at counts.enums (children_at 5 m) in
        let types = types_declared depth at (inside_file counts m) (children_at 4 m) in
        let services = services_declared at (children_at 6 m) in
        split (own ++ enums ++ types ++ services) (files_declared depth (behind_file depth counts m) ms)
        ∙ (ap₂ (λ a b. a ++ b)
        (split (own ++ enums ++ types) services
        ∙ ap₂ (λ a b. a ++ b)
        (split (own ++ enums) types
        ∙ ap₂ (λ a b. a ++ b) (split own enums ∙ ap₂ (λ a b. a ++ b) (package_is at) (enums_are at counts.enums (children_at 5 m))) (types_are depth at (inside_file counts m) (children_at 4 m)))
        (services_are at (children_at 6 m))) (files_are ms (behind_file depth counts m)) ∙ one_file counts m ms)

-- ---- names

things_all : (scope : List ℕ) (thing : Named) → is_package thing ≡ false → (ms : List Message) → things (all_named scope thing ms) ≡ qualified_names scope ms
things_all scope thing is ms = ap names_of (pick_all is_thing scope thing (ap not is) ms) ∙ names_all scope thing ms

things_type : (full : List ℕ) (place : ℕ) (m : Message) → things (type_declared full place m) ≡ own_names full m
things_type full place m = search (rules, names_append, is_thing, things_all)

things_enums : (scope : List ℕ) (place : ℕ) (ms : List Message) → things (enums_declared scope place ms) ≡ enums_names scope ms
things_enums scope place [] = refl
things_enums scope place (m ∷ ms) = search (rules, things_enums scope (suc place) ms, names_append, is_thing, things_all)

things_services : (scope : List ℕ) (ms : List Message) → things (services_declared scope ms) ≡ services_names scope ms
things_services scope [] = refl
things_services scope (m ∷ ms) = search (rules, things_services scope ms, names_append, is_thing, things_all)

things_parts : (names : List (List ℕ)) → things (map package_part names) ≡ []
things_parts [] = refl
things_parts (n ∷ ns) = things_parts ns

-- the names of all but packages
pub things_files : (depth : ℕ) (counts : Counts) (ms : List Message) → things (files_declared depth counts ms) ≡ files_names depth ms
things_files depth counts ms =
    files_are things refl (names_append is_thing) (λ full place m. own_names full m) things_type (λ scope place es. enums_names scope es) things_enums (λ d scope k ts. types_names d scope ts)
    (λ scope k ts. refl) (λ d scope k. refl) (λ d scope k t ts. refl) (λ name. []) (λ name. things_parts (package_parts name)) services_names things_services depth
    (λ k fs. files_names depth fs) (λ k. refl) (λ k f fs. refl) ms counts

-- ---- parts of packages

parts_all : (scope : List ℕ) (thing : Named) → is_package thing ≡ false → (ms : List Message) → parts (all_named scope thing ms) ≡ []
parts_all scope thing is ms = ap names_of (pick_none is_package scope thing is ms)

parts_type : (full : List ℕ) (place : ℕ) (m : Message) → parts (type_declared full place m) ≡ []
parts_type full place m = search (rules, names_append, parts_all)

parts_enums : (scope : List ℕ) (place : ℕ) (ms : List Message) → parts (enums_declared scope place ms) ≡ []
parts_enums scope place [] = refl
parts_enums scope place (m ∷ ms) = search (rules, parts_enums scope (suc place) ms, names_append, parts_all)

parts_services : (scope : List ℕ) (ms : List Message) → parts (services_declared scope ms) ≡ []
parts_services scope [] = refl
parts_services scope (m ∷ ms) = search (rules, parts_services scope ms, names_append, parts_all)

parts_parts : (names : List (List ℕ)) → parts (map package_part names) ≡ names
parts_parts [] = refl
parts_parts (n ∷ ns) = ap (λ xs. n ∷ xs) (parts_parts ns)

-- the parts of their packages
pub parts_files : (depth : ℕ) (counts : Counts) (ms : List Message) → parts (files_declared depth counts ms) ≡ flat_map package_parts (map file_scope ms)
parts_files depth counts ms =
    files_are parts refl (names_append is_package) (λ full place m. []) parts_type (λ scope place es. []) parts_enums (λ d scope k ts. [])
    (λ scope k ts. refl) (λ d scope k. refl) (λ d scope k t ts. refl) package_parts (λ name. parts_parts (package_parts name)) (λ scope ss. []) parts_services depth
    (λ k fs. flat_map package_parts (map file_scope fs)) (λ k. refl)
    (λ k f fs. ap (λ ps. ps ++ flat_map package_parts (map file_scope fs)) (append-nil _ ∙ (append-nil _ ∙ append-nil (package_parts (file_scope f))))) ms counts
