-- What holds of each type name that a file uses holds of the type names of its messages and services.
use Rattle.std.proofs.Common.{◌≡◌, ℕ, ◌+◌, List, [], ◌∷◌, ◌++◌, flat_map, string_bytes, sym, ap, subst, refl, rules}
use Rattle.std.specs.List.{AllByRecursion}
use Rattle.pg_link.specs.names.Names.{Text}
use Rattle.pg_link.specs.uses.Uses.{Use, field_uses, file_uses, in_rpc, map_uses, oneof_part_uses, part_uses, row_uses, service_part_uses, statement_uses}
use Rattle.pg_check.specs.parts.MadeServices.{rpc_in, stated_service}
use Rattle.pg_check.specs.parts.ResolvedTypes.{file_services, type_name_of, words_of}
use Rattle.pg_check.specs.rules.Members.{DeclaredField, members, members_from, members_in, oneof_members, oneofs_in}
use Rattle.pg_check.specs.rules.Outline.{Message, all_messages, file_messages, full_name, messages_in, package_of, row_list, row_messages, statement_messages}
use Rattle.pg_check.proofs.lemmas.parts.Eachs.{back_of, front_of, joined_all}
use Rattle.pg_check.proofs.lemmas.parts.names.ScopeWords.{Fits, file_fits, fits_in, words_are}
use Rattle.pg_check.proofs.lemmas.parts.names.WordTrees.{IsGood, nodes_good, runs_good}
use Rattle.pg_check.proofs.lemmas.parts.names.WordedFiles.{IsGoodFile, IsGoodPart, IsGoodStatement}
use Rattle.pg_syntax.specs.declared.tree as tree
use Rattle.pg_syntax.specs.declared.tree.OneofPart.TheVariants as oneof_parts
use Rattle.pg_syntax.specs.declared.tree.Part.{Part, Row_of-Part, end_of-Part, more_of-Part}
use Rattle.pg_syntax.specs.declared.tree.Part.TheVariants as parts
use Rattle.pg_syntax.specs.declared.tree.ServicePart.TheVariants as service_parts
use Rattle.pg_syntax.specs.declared.tree.Statement.TheVariants as statements
use Rattle.pg_syntax.specs.Views as view

row_uses_are : {m : _} (scope : List Text) (row : Row_of-Part m) → row_uses scope row ≡ flat_map (part_uses scope) (row_list row)
row_uses_are scope end_of-Part = refl
row_uses_are scope (more_of-Part p rest) = ap (λ us. part_uses scope p ++ us) (row_uses_are scope rest)

module _ (P : Use → Type 0) where
  -- ---- members

  abbrev pub MemberHolds : List Text → DeclaredField → Type 0
  MemberHolds scope m = AllByRecursion P (field_uses scope (type_name_of m))

  oneof_members_hold : (scope : List Text) (place : ℕ) (ps : List tree.OneofPart.OneofPart) → AllByRecursion P (flat_map (oneof_part_uses scope) ps) → AllByRecursion (MemberHolds scope) (oneof_members place ps)
  oneof_members_hold scope place [] h = tt
  oneof_members_hold scope place (oneof_parts.Empty span ∷ ps) h = oneof_members_hold scope place ps h
  oneof_members_hold scope place (oneof_parts.Option o ∷ ps) h = oneof_members_hold scope place ps h
  oneof_members_hold scope place (oneof_parts.Map m ∷ ps) h =
      let rest = flat_map (oneof_part_uses scope) ps in
      (back_of P (field_uses scope m.key.value) (field_uses scope m.value) (front_of P (map_uses scope m) rest h), oneof_members_hold scope place ps (back_of P (map_uses scope m) rest h))
  oneof_members_hold scope place (oneof_parts.Field f ∷ ps) h =
      let rest = flat_map (oneof_part_uses scope) ps in
      (front_of P (field_uses scope f.type_name) rest h, oneof_members_hold scope place ps (back_of P (field_uses scope f.type_name) rest h))

  members_hold : (scope : List Text) (place : ℕ) (ps : List Part) → AllByRecursion P (flat_map (part_uses scope) ps) → AllByRecursion (MemberHolds scope) (members_from place ps)
  members_hold scope place [] h = tt
  members_hold scope place (p ∷ ps) h =
      let rest = flat_map (part_uses scope) ps in
      joined_all (MemberHolds scope) (members_in place p) (members_from (place + oneofs_in p) ps) (one p (front_of P (part_uses scope p) rest h))
      (members_hold scope (place + oneofs_in p) ps (back_of P (part_uses scope p) rest h))
    where
      one : (q : Part) → AllByRecursion P (part_uses scope q) → AllByRecursion (MemberHolds scope) (members_in place q)
      one (parts.Empty span) k = tt
      one (parts.Message' name shape row span) k = tt
      one (parts.Enum e) k = tt
      one (parts.Oneof o) k = oneof_members_hold scope place o.parts.items k
      one (parts.Option o) k = tt
      one (parts.Reserved r) k = tt
      one (parts.Map m) k = (back_of P (field_uses scope m.key.value) (field_uses scope m.value) k, tt)
      one (parts.Field f) k = (k, tt)

  -- ---- messages

  abbrev pub MessageHolds : Message → Type 0
  MessageHolds m = AllByRecursion (MemberHolds (words_of m.full)) (members m.body)

  message_holds : (scope : List Text) (m : Message) → Fits scope m.full → AllByRecursion P (flat_map (part_uses scope) m.body) → MessageHolds m
  message_holds scope m fits h = subst (λ ws. AllByRecursion (MemberHolds ws) (members m.body)) (sym (words_are scope m.full fits)) (members_hold scope 0 m.body h)

  mutual
    part_messages_hold : (scope : List Text) (place : List ℕ) (p : Part) → Fits scope place → IsGoodPart p → AllByRecursion P (part_uses scope p) → AllByRecursion MessageHolds (messages_in place p)
    part_messages_hold scope place (parts.Empty span) fits good h = tt
    part_messages_hold scope place (parts.Message' name shape row span) fits good h =
        let inner = scope ++ string_bytes name.text ∷ [] in
        let full = full_name place name in
        let own : Fits inner full = fits_in scope place (string_bytes name.text) fits good.1.0 in (
          message_holds inner (record { scope = place; full = full; name = name; body = row_list row }) own (subst (AllByRecursion P) (row_uses_are inner row) h),
          row_messages_hold inner full row own good.1.1.1.0 h,
        )
    part_messages_hold scope place (parts.Enum e) fits good h = tt
    part_messages_hold scope place (parts.Oneof o) fits good h = tt
    part_messages_hold scope place (parts.Option o) fits good h = tt
    part_messages_hold scope place (parts.Reserved r) fits good h = tt
    part_messages_hold scope place (parts.Map m) fits good h = tt
    part_messages_hold scope place (parts.Field f) fits good h = tt

    row_messages_hold : {m : _} (scope : List Text) (place : List ℕ) (row : Row_of-Part m) → Fits scope place → IsGood (view.row (view.part_nodes row)) → AllByRecursion P (row_uses scope row) → AllByRecursion MessageHolds (row_messages place row)
    row_messages_hold scope place end_of-Part fits good h = tt
    row_messages_hold scope place (more_of-Part p rest) fits good h =
        let both = nodes_good (view.part p) (view.part_nodes rest) good in
        joined_all MessageHolds (messages_in place p) (row_messages place rest) (part_messages_hold scope place p fits both.0 (front_of P (part_uses scope p) (row_uses scope rest) h))
        (row_messages_hold scope place rest fits both.1 (back_of P (part_uses scope p) (row_uses scope rest) h))

  body_messages_hold : (scope : List Text) (place : List ℕ) (ps : List Part) → Fits scope place → AllByRecursion IsGoodPart ps → AllByRecursion P (flat_map (part_uses scope) ps) → AllByRecursion MessageHolds (flat_map (messages_in place) ps)
  body_messages_hold scope place [] fits good h = tt
  body_messages_hold scope place (p ∷ ps) fits good h =
      let rest = flat_map (part_uses scope) ps in
      joined_all MessageHolds (messages_in place p) (flat_map (messages_in place) ps) (part_messages_hold scope place p fits good.0 (front_of P (part_uses scope p) rest h))
      (body_messages_hold scope place ps fits good.1 (back_of P (part_uses scope p) rest h))

  statement_messages_hold : (scope : List Text) (place : List ℕ) (s : tree.Statement.Statement) → Fits scope place → IsGoodStatement s → AllByRecursion P (statement_uses scope s) → AllByRecursion MessageHolds (statement_messages place s)
  statement_messages_hold scope place (statements.Empty span) fits good h = tt
  statement_messages_hold scope place (statements.Import i) fits good h = tt
  statement_messages_hold scope place (statements.Option o) fits good h = tt
  statement_messages_hold scope place (statements.Message m) fits good h = search (rules, string_bytes, fits_in, runs_good, message_holds, body_messages_hold)
  statement_messages_hold scope place (statements.Enum e) fits good h = tt
  statement_messages_hold scope place (statements.Service s) fits good h = tt

  all_messages_hold : (scope : List Text) (place : List ℕ) (ss : List tree.Statement.Statement) → Fits scope place → AllByRecursion IsGoodStatement ss → AllByRecursion P (flat_map (statement_uses scope) ss) → AllByRecursion MessageHolds (all_messages place ss)
  all_messages_hold scope place [] fits good h = tt
  all_messages_hold scope place (s ∷ ss) fits good h =
      let rest = flat_map (statement_uses scope) ss in
      joined_all MessageHolds (statement_messages place s) (all_messages place ss) (statement_messages_hold scope place s fits good.0 (front_of P (statement_uses scope s) rest h))
      (all_messages_hold scope place ss fits good.1 (back_of P (statement_uses scope s) rest h))

  -- ---- services

  abbrev pub RpcHolds : List Text → tree.Rpc.Rpc → Type 0
  RpcHolds scope r = P (in_rpc scope r.input.type_name) × P (in_rpc scope r.output.type_name)

  abbrev pub ServiceHolds : List ℕ → tree.Service.Service → Type 0
  ServiceHolds place s = AllByRecursion (RpcHolds (words_of (full_name place s.name))) (flat_map rpc_in s.parts.items)

  rpcs_hold : (scope : List Text) (ps : List tree.ServicePart.ServicePart) → AllByRecursion P (flat_map (service_part_uses scope) ps) → AllByRecursion (RpcHolds scope) (flat_map rpc_in ps)
  rpcs_hold scope [] h = tt
  rpcs_hold scope (service_parts.Empty span ∷ ps) h = rpcs_hold scope ps h
  rpcs_hold scope (service_parts.Option o ∷ ps) h = rpcs_hold scope ps h
  rpcs_hold scope (service_parts.Rpc r ∷ ps) h = ((h.0, h.1.0), rpcs_hold scope ps h.1.1)

  all_services_hold : (scope : List Text) (place : List ℕ) (ss : List tree.Statement.Statement) → Fits scope place → AllByRecursion IsGoodStatement ss → AllByRecursion P (flat_map (statement_uses scope) ss) → AllByRecursion (ServiceHolds place) (flat_map stated_service ss)
  all_services_hold scope place [] fits good h = tt
  all_services_hold scope place (statements.Empty span ∷ ss) fits good h = all_services_hold scope place ss fits good.1 h
  all_services_hold scope place (statements.Import i ∷ ss) fits good h = all_services_hold scope place ss fits good.1 h
  all_services_hold scope place (statements.Option o ∷ ss) fits good h = all_services_hold scope place ss fits good.1 h
  all_services_hold scope place (statements.Message m ∷ ss) fits good h = search (rules, all_services_hold scope place ss fits good.1 (back_of P (statement_uses scope (statements.Message m)) (flat_map (statement_uses scope) ss) h))
  all_services_hold scope place (statements.Enum e ∷ ss) fits good h = all_services_hold scope place ss fits good.1 h
  all_services_hold scope place (statements.Service s ∷ ss) fits good h =
      let inner = scope ++ string_bytes s.name.text ∷ [] in
      let full = full_name place s.name in
      let own : Fits inner full = fits_in scope place (string_bytes s.name.text) fits good.0.1.0 in
      let here = statement_uses scope (statements.Service s) in
      let rest = flat_map (statement_uses scope) ss in (
        subst (λ ws. AllByRecursion (RpcHolds ws) (flat_map rpc_in s.parts.items)) (sym (words_are inner full own)) (rpcs_hold inner s.parts.items (front_of P here rest h)),
        all_services_hold scope place ss fits good.1 (back_of P here rest h),
      )

  -- ---- files

  module _ (file : tree.FileTree.FileTree) (good : IsGoodFile file) (h : AllByRecursion P (file_uses file)) where
    pub messages_resolved : AllByRecursion MessageHolds (file_messages file)
    messages_resolved = search (rules, file_fits, joined_all, all_messages_hold, front_of, back_of)

    pub services_resolved : AllByRecursion (ServiceHolds (package_of file)) (file_services file)
    services_resolved = search (rules, file_fits, joined_all, all_services_hold, front_of, back_of)
