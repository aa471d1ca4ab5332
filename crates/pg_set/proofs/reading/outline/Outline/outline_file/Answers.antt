use Rattle.std.proofs.Common.{◌≡◌, ◌≤◌, ◌^◌, ◌++◌, ◌∷◌, [], List, filter, length, map, refl, sym, ap, ap₂, subst, ◌∙◌, arith, append_assoc, length-append}
use Rattle.std.proofs.lemmas.List.{length-map}
use Rattle.std.proofs.lemmas.Result.{err_from_is_err_and}
use Rattle.pg_schema.specs.rules.Scopes.{enum_places, service_places, type_places}
use Rattle.pg_dyn.specs.message.Kept.{message_of}
use Rattle.pg_set.specs.inner.reading.OutlinedRows.{NameOneofs, row, type_row}
use Rattle.pg_set.specs.stated.Outlines.{enum_rows, file_enums, file_types, row_in, rows_in, type_rows}
use Rattle.pg_set.specs.inner.reading.OutlinedPlaces.{counts_of, placed_file, placed_type}
use Rattle.pg_set.specs.stated.Numbering.{inside_file, placed_types, places_of_types}
use Rattle.pg_set.specs.inner.Declarations.{Adds, package_declared}
use Rattle.pg_set.specs.stated.SetMessages.{children_at}
use Rattle.pg_set.specs.stated.SetNames.{file_scope, package_scope}
use Rattle.pg_set.specs.stated.TypeMessages.{is_entry}
use Rattle.pg_set.proofs.lemmas.outline.OutlinedFiles.{file_added, file_enums_fail, file_services_fail, file_types_fail, parts_fail}
use Rattle.pg_set.proofs.lemmas.outline.OutlinedNames.{rows_long, seen_long}
use Rattle.pg_set.proofs.lemmas.outline.OutlinedPlaces.{counts_are, file_placed}
use Rattle.pg_set.proofs.lemmas.order.OrderSteps.{map_more}
use Rattle.pg_set.proofs.reading.outline.Outline.outline_file.Goals as goal

pub returns-in_err-own_scope-clause-refused : goal.returns-in_err-own_scope-clause-refused
returns-in_err-own_scope-clause-refused c =
    let m = message_of c.args.message.now in
    let here : package_scope c.text-own_package.result.now ≡ file_scope m = ap package_scope c.text-own_package.ensures in
    let p = err_from_is_err_and c.from_residual.result c.from_residual.ensures.1 in
    rw (p.1, p.2) (λ may. parts_fail c.args.depth (counts_of c.args.self.now) m (package_scope c.text-own_package.result.now) here c.args.self.now.names _ c.in_err-own_scope.ensures.refused)

pub returns-in_err-without_entries-clause-refused : goal.returns-in_err-without_entries-clause-refused
returns-in_err-without_entries-clause-refused c =
    let m = message_of c.args.message.now in
    let types = map message_of c.as_slice-own_types.result.now in
    let same_types : types ≡ children_at 4 m = ap (λ xs. map message_of xs) c.as_slice-own_types.ensures.value ∙ c.in_ok-types_inside.ensures in
    let p = err_from_is_err_and c.from_residual-in_err-without_entries.result c.from_residual-in_err-without_entries.ensures.1 in
    rw (p.1, p.2) (λ may fresh. c.in_err-without_entries.ensures.refused (ap (filter is_entry) same_types ∙ may.no_entries))

pub returns-in_err-enums-clause-refused : goal.returns-in_err-enums-clause-refused
returns-in_err-enums-clause-refused c =
    let m = message_of c.args.message.now in
    let depth = c.args.depth in
    let at = c.as_str-scope.result.now in
    let made : at ≡ package_scope c.text-own_package.result.now = c.as_str-scope.ensures.value ∙ c.in_ok-own_scope.ensures.scope in
    let here : at ≡ file_scope m = made ∙ ap package_scope c.text-own_package.ensures in
    let parts = subst (λ s. Adds (package_declared s) c.args.self.now.names c.declare_scope.new.names) (sym made) c.in_ok-own_scope.ensures.adds in
    let enums = map message_of c.as_slice-own_enums.result.now in
    let same_enums : enums ≡ children_at 5 m = ap (λ xs. map message_of xs) c.as_slice-own_enums.ensures.value ∙ c.in_ok-enums_inside.ensures in
    let p = err_from_is_err_and c.from_residual-in_err-enums.result c.from_residual-in_err-enums.ensures.1 in
    rw (p.1, p.2) (λ may. file_enums_fail depth (counts_of c.args.self.now) m at here c.args.self.now.names c.declare_scope.new.names parts enums same_enums _ c.in_err-enums.ensures.refused)

pub returns-in_err-types-clause-refused : goal.returns-in_err-types-clause-refused
returns-in_err-types-clause-refused c =
    let m = message_of c.args.message.now in
    let depth = c.args.depth in
    let at = c.as_str-scope.result.now in
    let made : at ≡ package_scope c.text-own_package.result.now = c.as_str-scope.ensures.value ∙ c.in_ok-own_scope.ensures.scope in
    let here : at ≡ file_scope m = made ∙ ap package_scope c.text-own_package.ensures in
    let parts = subst (λ s. Adds (package_declared s) c.args.self.now.names c.declare_scope.new.names) (sym made) c.in_ok-own_scope.ensures.adds in
    let types = map message_of c.as_slice-own_types.result.now in
    let same_types : types ≡ children_at 4 m = ap (λ xs. map message_of xs) c.as_slice-own_types.ensures.value ∙ c.in_ok-types_inside.ensures in
    let type_count : type_rows depth at types ≡ file_types depth m = ap (λ a. type_rows depth a types) here ∙ ap (type_rows depth (file_scope m)) same_types in
    let enums = map message_of c.as_slice-own_enums.result.now in
    let same_enums : enums ≡ children_at 5 m = ap (λ xs. map message_of xs) c.as_slice-own_enums.ensures.value ∙ c.in_ok-enums_inside.ensures in
    let long = rows_long row c.args.self.now.enums.items c.outline_enums.new.enums.items (rows_in at enums) c.in_ok-enums.ensures.rows in
    let p = err_from_is_err_and c.from_residual-in_err-types.result c.from_residual-in_err-types.ensures.1 in
    let self = c.args.self.now in
    let counts : record { types = length self.types.items; enums = length c.outline_enums.new.enums.items; services = length self.services.items } ≡ inside_file (counts_of self) m =
    counts_are _ (inside_file (counts_of self) m) refl (omega (arith, long, ap length same_enums, length-map enums (row_in at))) refl in
    rw (p.1, p.2) (λ may.
    let a = may.few_types in
    file_types_fail depth (counts_of self) m at here c.args.self.now.names c.declare_scope.new.names parts enums same_enums
    c.outline_enums.new.names c.in_ok-enums.ensures.adds (record { types = length self.types.items; enums = length c.outline_enums.new.enums.items; services = length self.services.items }) counts types same_types _
    (c.in_err-types.ensures.refused (omega (arith, a, ap length type_count))
    (subst (NameOneofs depth) (sym same_types) may.oneofs)))

pub returns-in_err-services-clause-refused : goal.returns-in_err-services-clause-refused
returns-in_err-services-clause-refused c =
    let m = message_of c.args.message.now in
    let depth = c.args.depth in
    let at = c.as_str-scope.result.now in
    let made : at ≡ package_scope c.text-own_package.result.now = c.as_str-scope.ensures.value ∙ c.in_ok-own_scope.ensures.scope in
    let here : at ≡ file_scope m = made ∙ ap package_scope c.text-own_package.ensures in
    let parts = subst (λ s. Adds (package_declared s) c.args.self.now.names c.declare_scope.new.names) (sym made) c.in_ok-own_scope.ensures.adds in
    let types = map message_of c.as_slice-own_types.result.now in
    let same_types : types ≡ children_at 4 m = ap (λ xs. map message_of xs) c.as_slice-own_types.ensures.value ∙ c.in_ok-types_inside.ensures in
    let enums = map message_of c.as_slice-own_enums.result.now in
    let same_enums : enums ≡ children_at 5 m = ap (λ xs. map message_of xs) c.as_slice-own_enums.ensures.value ∙ c.in_ok-enums_inside.ensures in
    let services = map message_of c.as_slice-own_services.result.now in
    let same_services : services ≡ children_at 6 m = ap (λ xs. map message_of xs) c.as_slice-own_services.ensures.value ∙ c.in_ok-services_inside.ensures in
    let p = err_from_is_err_and c.from_residual-in_err-services.result c.from_residual-in_err-services.ensures.1 in
    let self = c.args.self.now in
    let long = rows_long row c.args.self.now.enums.items c.outline_enums.new.enums.items (rows_in at enums) c.in_ok-enums.ensures.rows in
    let counts : record { types = length self.types.items; enums = length c.outline_enums.new.enums.items; services = length self.services.items } ≡ inside_file (counts_of self) m =
    counts_are _ (inside_file (counts_of self) m) refl (omega (arith, long, ap length same_enums, length-map enums (row_in at))) refl in
    rw (p.1, p.2) (λ may.
    file_services_fail depth (counts_of self) m at here c.args.self.now.names c.declare_scope.new.names parts enums same_enums
    c.outline_enums.new.names c.in_ok-enums.ensures.adds (record { types = length self.types.items; enums = length c.outline_enums.new.enums.items; services = length self.services.items }) counts types same_types
    c.outline_types.new.self.names c.in_ok-types.ensures.outlined.adds services same_services _
    c.in_err-services.ensures.refused)

pub returns : goal.returns
returns c =
    let m = message_of c.args.message.now in
    let depth = c.args.depth in
    let at = c.as_str-scope.result.now in
    let made : at ≡ package_scope c.text-own_package.result.now = c.as_str-scope.ensures.value ∙ c.in_ok-own_scope.ensures.scope in
    let here : at ≡ file_scope m = made ∙ ap package_scope c.text-own_package.ensures in
    let parts = subst (λ s. Adds (package_declared s) c.args.self.now.names c.declare_scope.new.names) (sym made) c.in_ok-own_scope.ensures.adds in
    let types = map message_of c.as_slice-own_types.result.now in
    let same_types : types ≡ children_at 4 m = ap (λ xs. map message_of xs) c.as_slice-own_types.ensures.value ∙ c.in_ok-types_inside.ensures in
    let enums = map message_of c.as_slice-own_enums.result.now in
    let same_enums : enums ≡ children_at 5 m = ap (λ xs. map message_of xs) c.as_slice-own_enums.ensures.value ∙ c.in_ok-enums_inside.ensures in
    let services = map message_of c.as_slice-own_services.result.now in
    let same_services : services ≡ children_at 6 m = ap (λ xs. map message_of xs) c.as_slice-own_services.ensures.value ∙ c.in_ok-services_inside.ensures in
    let t0 = c.args.self.now.names in
    let t1 = c.declare_scope.new.names in
    let t2 = c.outline_enums.new.names in
    let t3 = c.outline_types.new.self.names in
    let t4 = c.outline_services.new.names in
    let self = c.args.self.now in
    let deep = c.outline_types.new.self in
    let type_count : type_rows depth at types ≡ file_types depth m = ap (λ a. type_rows depth a types) here ∙ ap (type_rows depth (file_scope m)) same_types in
    let enum_count : rows_in at enums ++ enum_rows depth at types ≡ file_enums depth m =
    ap (λ a. rows_in a enums ++ enum_rows depth a types) here ∙ ap₂ (λ es ts. rows_in (file_scope m) es ++ enum_rows depth (file_scope m) ts) same_enums same_types in
    let own = rows_long row self.enums.items c.outline_enums.new.enums.items (rows_in at enums) c.in_ok-enums.ensures.rows in
    let counts : record { types = length self.types.items; enums = length c.outline_enums.new.enums.items; services = length self.services.items } ≡ inside_file (counts_of self) m =
    counts_are _ (inside_file (counts_of self) m) refl (omega (arith, own, ap length same_enums, length-map enums (row_in at))) refl in
    record {
      outlined = record {
        types = c.in_ok-types.ensures.outlined.rows ∙ ap (λ rs. map type_row self.types.items ++ rs) type_count;
        enums = c.in_ok-types.ensures.outlined.enum_rows ∙ (ap (λ rs. rs ++ enum_rows depth at types) c.in_ok-enums.ensures.rows
            ∙ (append_assoc (map row self.enums.items) (rows_in at enums) (enum_rows depth at types) ∙ ap (λ rs. map row self.enums.items ++ rs) enum_count));
        services = c.in_ok-services.ensures.rows ∙ (ap (λ ss. map row ss ++ rows_in at services) c.in_ok-types.ensures.outlined.others.0
            ∙ ap (λ rs. map row self.services.items ++ rs) (ap (λ a. rows_in a services) here ∙ ap (rows_in (file_scope m)) same_services));
        files = ap (map placed_file) (rw c.reborrow.ensures at c.in_ok-push.ensures.items) ∙ (map_more placed_file deep.files.items _ ∙ ap₂ (λ fs f. map placed_file fs ++ f ∷ []) c.in_ok-types.ensures.outlined.others.1
            (file_placed depth m at types (counts_of self) (type_places c.in_ok-types.types.items) (enum_places c.in_ok-enums.enums.items) (service_places c.in_ok-services.services.items)
            (length self.enums.items) (length c.as_slice-own_enums.result.now) (length deep.services.items) (length c.as_slice-own_services.result.now) here same_types
            (c.in_ok-types.ensures.ids ∙ ap (λ k. places_of_types depth at k types) counts) c.in_ok-enums.ensures.ids refl (sym (seen_long c.as_slice-own_enums.result.now) ∙ ap length same_enums)
            c.in_ok-services.ensures.ids (ap length c.in_ok-types.ensures.outlined.others.0) (sym (seen_long c.as_slice-own_services.result.now) ∙ ap length same_services)));
        placed = c.in_ok-types.ensures.outlined.placed
            ∙ ap (λ ps. map placed_type self.types.items ++ ps) (ap (λ k. placed_types depth at k types) counts ∙ (ap (λ a. placed_types depth a (inside_file (counts_of self) m) types) here ∙ ap (placed_types depth (file_scope m) (inside_file (counts_of self) m)) same_types));
        adds = file_added depth (counts_of self) m at here t0 t1 parts enums same_enums t2 c.in_ok-enums.ensures.adds
            (record { types = length self.types.items; enums = length c.outline_enums.new.enums.items; services = length self.services.items }) counts types same_types t3 c.in_ok-types.ensures.outlined.adds services same_services t4
            c.in_ok-services.ensures.adds;
        few_types = c.in_ok-types.ensures.outlined.few_types;
        oneofs = subst (NameOneofs depth) same_types c.in_ok-types.ensures.outlined.oneofs;
        no_entries = ap (filter is_entry) (sym same_types) ∙ c.in_ok-without_entries.ensures.ok;
      };
      refused = tt;
    }
