-- The type names that a source file uses begin one after the other, so that no two of them begin at one byte.
use Rattle.std.proofs.Common.{◌≡◌, ◌∙◌, ℕ, suc, ◌<◌, ◌≤◌, Bool, true, false, cond, ◌==◌, List, [], ◌∷◌, ◌++◌, flat_map, map, nat_lt, slice_get, codes, Option, Some, None, string_bytes, sym, ap, subst, refl, arith, append_assoc, rules}
use Rattle.std.specs.List.{AllByRecursion, list_all}
use Rattle.std.proofs.lemmas.Bool.Decides.{nat_tests}
use Rattle.std.proofs.lemmas.Option.{get_or_from_slice_get, slice_get_within}
use Rattle.pg_lex.specs.Lexes.{Rises}
use Rattle.pg_lex.specs.Symbol.{Placed}
use Rattle.pg_lex.proofs.TextLaws.{text-rises}
use Rattle.pg_link.specs.names.Names.{Text}
use Rattle.pg_link.specs.names.Outline.{statements_behind}
use Rattle.pg_link.specs.names.Resolves.{reference}
use Rattle.pg_link.specs.uses.Targets.{file_places, use_at}
use Rattle.pg_link.specs.uses.Uses.{Use, field_uses, file_scope, file_uses, in_field, in_rpc, is_scalar, map_uses, message_uses, oneof_part_uses, oneof_uses, part_uses, row_uses, rpc_uses, service_part_uses, service_uses, statement_uses}
use Rattle.pg_link.specs.Linked.{IsLinkedUp, LinkedFiles}
use Rattle.pg_link.specs.walk.Walk.{Entry, IsParsed}
use Rattle.pg_schema.specs.rules.Pairs.{is_rising}
use Rattle.pg_schema.proofs.lemmas.rules.PairLemmas.{and_both}
use Rattle.pg_syntax.specs.declared.tree as tree
use Rattle.pg_syntax.specs.declared.tree.Part.{Part, Row_of-Part, end_of-Part, more_of-Part}
use Rattle.pg_syntax.specs.declared.tree.Part.TheVariants as parts
use Rattle.pg_syntax.specs.declared.tree.ServicePart.TheVariants as service_parts
use Rattle.pg_syntax.specs.declared.tree.Statement.TheVariants as statements
use Rattle.pg_syntax.specs.Tree.{Tree, Empty, Leaf, Both, At, Stands, end_of}
use Rattle.pg_syntax.specs.Views as view

-- ---- uses between two bytes

-- the uses begin one after the other, from a byte on and before another
abbrev pub Lie : (from to : ℕ) → List Use → Type 0
Lie from to [] = from ≤ to
Lie from to (u ∷ us) = (from ≤ u.at) × Lie (suc u.at) to us

lie_earlier : (from later to : ℕ) (us : List Use) → from ≤ later → Lie later to us → Lie from to us
lie_earlier from later to [] less h = let rest : later ≤ to = h in omega (arith, less, rest)
lie_earlier from later to (u ∷ us) less h = let first : later ≤ u.at = h.0 in (omega (arith, less, first), h.1)

lie_joined : (from middle to : ℕ) (us vs : List Use) → Lie from middle us → Lie middle to vs → Lie from to (us ++ vs)
lie_joined from middle to [] vs h k = lie_earlier from middle to vs h k
lie_joined from middle to (u ∷ us) vs h k = (h.0, lie_joined (suc u.at) middle to us vs h.1 k)

lie_longer : (from to more : ℕ) (us : List Use) → to ≤ more → Lie from to us → Lie from more us
lie_longer from to more [] less h = let rest : from ≤ to = h in omega (arith, less, rest)
lie_longer from to more (u ∷ us) less h = (h.0, lie_longer (suc u.at) to more us less h.1)

-- ---- rows of tokens

end_after : (at : ℕ) (ts : List Placed) → Rises at ts → at ≤ end_of at ts
end_after at [] h = omega arith
end_after at (t ∷ ts) h = let first : at ≤ t.from = h.0 in let second : t.from < t.to = h.1 in let rest : t.to ≤ end_of t.to ts = end_after t.to ts h.2 in omega (arith, first, second, rest)

rises_front : (at : ℕ) (ts us : List Placed) → Rises at (ts ++ us) → Rises at ts
rises_front at [] us h = tt
rises_front at (t ∷ ts) us h = (h.0, h.1, rises_front t.to ts us h.2)

rises_back : (at : ℕ) (ts us : List Placed) → Rises at (ts ++ us) → Rises (end_of at ts) us
rises_back at [] us h = h
rises_back at (t ∷ ts) us h = rises_back t.to ts us h.2

end_joined : (at : ℕ) (ts us : List Placed) → end_of at (ts ++ us) ≡ end_of (end_of at ts) us
end_joined at [] us = refl
end_joined at (t ∷ ts) us = end_joined t.to ts us

-- ---- trees and the uses in them

-- in whatever row of tokens the tree has, the uses lie between the first and the last
abbrev pub Carries : Tree → List Use → Type 0
Carries t us = (at : ℕ) (ts : List Placed) → Rises at ts → Stands t ts → Lie at (end_of at ts) us

carries_none : (t : Tree) → Carries t []
carries_none t at ts rises stands = end_after at ts rises

carries_both : (t u : Tree) (us vs : List Use) → Carries t us → Carries u vs → Carries (Both t u) (us ++ vs)
carries_both t u us vs h k at ts rises stands = search (rules, lie_joined, rises_front, rises_back, end_joined)

carries_front : (t u : Tree) (us : List Use) → Carries t us → Carries (Both t u) us
carries_front t u us h at ts rises stands = search (rules, end_joined, end_after, rises_back, lie_longer, rises_front)

carries_back : (t u : Tree) (us : List Use) → Carries u us → Carries (Both t u) us
carries_back t u us h = carries_both t u [] us (carries_none t) h

carries_at : (span : _) (t : Tree) (us : List Use) → Carries t us → Carries (At span t) us
carries_at span t us h at ts rises stands = h at ts rises stands.1

-- the use of a type name, which begins where the name does
carries_name : (n : tree.TypeName.TypeName) (u : Use) → u.at ≡ n.span.from → Carries (view.type_name n) (u ∷ [])
carries_name n u is at h5 rises stands = grind (arith, end_after)

-- the nodes of a tree, before others, have the tokens of the tree
regrouped : (t : Tree) (more : List Tree) (ts : List Placed) → Stands (view.row (view.nodes t ++ more)) ts → Stands (Both t (view.row more)) ts
regrouped Empty more ts h = h
regrouped (Leaf s) more ts h = h
regrouped (At span t) more ts h = h
regrouped (Both t u) more ts h =
    let rest = regrouped u more h.1 h.4 in
    (h.0 ++ rest.0, rest.1, h.2 ∙ (ap (λ xs. h.0 ++ xs) rest.2 ∙ sym (append_assoc h.0 rest.0 rest.1)), (h.0, rest.0, refl, h.3, rest.3), rest.4)

carries_nodes : (t : Tree) (more : List Tree) (us vs : List Use) → Carries t us → Carries (view.row more) vs → Carries (view.row (view.nodes t ++ more)) (us ++ vs)
carries_nodes t more us vs h k at ts rises stands = carries_both t (view.row more) us vs h k at ts rises (regrouped t more ts stands)

carries_runs : {X : Type 0} (to_tree : X → Tree) (uses : X → List Use) → ((x : X) → Carries (to_tree x) (uses x)) → (xs : List X) → Carries (view.runs to_tree xs) (flat_map uses xs)
carries_runs to_tree uses each [] = carries_none Empty
carries_runs to_tree uses each (x ∷ xs) = carries_nodes (to_tree x) (view.all_nodes to_tree xs) (uses x) (flat_map uses xs) (each x) (carries_runs to_tree uses each xs)

carries_block : {X : Type 0} (to_tree : X → Tree) (uses : X → List Use) → ((x : X) → Carries (to_tree x) (uses x)) → (xs : List X) → Carries (view.block to_tree xs) (flat_map uses xs)
carries_block to_tree uses each xs = search (rules, carries_back, carries_front, carries_runs)

-- ---- fields and maps

name_carries : (scope : List Text) (n : tree.TypeName.TypeName) → Carries (view.type_name n) (field_uses scope n)
name_carries scope n = by (is_scalar (reference n))
  where
    by : (b : Bool) → Carries (view.type_name n) (cond b [] (in_field scope n ∷ []))
    by true = carries_none (view.type_name n)
    by false = carries_name n (in_field scope n) refl

label_carries : (l : Option tree.Label.Label) (t : Tree) (us : List Use) → Carries t us → Carries (view.labelled l t) us
label_carries None t us h = h
label_carries (Some l) t us h = carries_back (view.label l) t us h

field_carries : (scope : List Text) (f : tree.Field.Field) → Carries (view.field f) (field_uses scope f.type_name)
field_carries scope f = search (rules, carries_at, label_carries, carries_front, name_carries)

map_carries : (scope : List Text) (f : tree.MapField.MapField) → Carries (view.map_field f) (map_uses scope f)
map_carries scope f =
    let of_key = field_uses scope f.key.value in
    let of_value = field_uses scope f.value in
    let last = Both (view.name f.name) (view.field_end (f.number, f.settings)) in
    let value = view.type_before 62 f.value in
    let key = view.type_before 44 f.key.value in
    carries_at f.span (Both (view.word (codes "map")) (Both (view.mark 60) (Both key (Both value last)))) (of_key ++ of_value)
    (carries_back (view.word (codes "map")) (Both (view.mark 60) (Both key (Both value last))) (of_key ++ of_value)
    (carries_back (view.mark 60) (Both key (Both value last)) (of_key ++ of_value)
    (carries_both key (Both value last) of_key of_value
    (carries_front (view.type_name f.key.value) (view.mark 44) of_key (name_carries scope f.key.value))
    (carries_front value last of_value (carries_front (view.type_name f.value) (view.mark 62) of_value (name_carries scope f.value))))))

oneof_part_carries : (scope : List Text) (p : tree.OneofPart.OneofPart) → Carries (view.oneof_part p) (oneof_part_uses scope p)
oneof_part_carries scope p = grind (arith, carries_none, map_carries, field_carries)

-- what follows a word and a name in a node
headed : (span : _) (w : List ℕ) (n : tree.Name.Name) (t : Tree) (us : List Use) → Carries t us → Carries (At span (Both (view.word w) (Both (view.name n) t))) us
headed span w n t us h = search (rules, carries_at, carries_back)

oneof_carries : (scope : List Text) (o : tree.Oneof.Oneof) → Carries (view.oneof o) (oneof_uses scope o)
oneof_carries scope o = search (rules, headed, carries_block, oneof_part_carries)

-- ---- messages

mutual
  part_carries : (scope : List Text) (p : Part) → Carries (view.part p) (part_uses scope p)
  part_carries scope (parts.Empty span) = carries_none (view.empties span)
  part_carries scope (parts.Message' name shape row span) =
      let inner = scope ++ string_bytes name.text ∷ [] in
      let body = view.row (view.part_nodes row) in
      headed span (codes "message") name (Both (view.mark 123) (Both body (view.mark 125))) (row_uses inner row)
      (carries_back (view.mark 123) (Both body (view.mark 125)) (row_uses inner row) (carries_front body (view.mark 125) (row_uses inner row) (row_carries inner row)))
  part_carries scope (parts.Enum e) = carries_none (view.enumeration e)
  part_carries scope (parts.Oneof o) = oneof_carries scope o
  part_carries scope (parts.Option o) = carries_none (view.option o)
  part_carries scope (parts.Reserved r) = carries_none (view.reserved false r)
  part_carries scope (parts.Map m) = map_carries scope m
  part_carries scope (parts.Field f) = field_carries scope f

  row_carries : {m : _} (scope : List Text) (row : Row_of-Part m) → Carries (view.row (view.part_nodes row)) (row_uses scope row)
  row_carries scope end_of-Part = carries_none Empty
  row_carries scope (more_of-Part p rest) = carries_nodes (view.part p) (view.part_nodes rest) (part_uses scope p) (row_uses scope rest) (part_carries scope p) (row_carries scope rest)

message_carries : (scope : List Text) (m : tree.Message.Message) → Carries (view.message m) (message_uses scope m)
message_carries scope m =
    headed m.span (codes "message") m.name (view.block view.part m.parts.items) (message_uses scope m)
    (carries_block view.part (part_uses (scope ++ string_bytes m.name.text ∷ [])) (part_carries (scope ++ string_bytes m.name.text ∷ [])) m.parts.items)

-- ---- services

closed_carries : (is_stream : Bool) (n : tree.TypeName.TypeName) (u : Use) → u.at ≡ n.span.from → Carries (view.closed_type is_stream n) (u ∷ [])
closed_carries false n u is = carries_front (view.type_name n) (view.mark 41) (u ∷ []) (carries_name n u is)
closed_carries true n u is = carries_back (view.word (codes "stream")) (view.type_before 41 n) (u ∷ []) (carries_front (view.type_name n) (view.mark 41) (u ∷ []) (carries_name n u is))

argument_carries : (a : tree.Argument.Argument) (u : Use) → u.at ≡ a.type_name.span.from → Carries (view.argument a) (u ∷ [])
argument_carries a u is = search (rules, carries_at, carries_back, closed_carries)

rpc_carries : (scope : List Text) (r : tree.Rpc.Rpc) → Carries (view.rpc r) (rpc_uses scope r)
rpc_carries scope r =
    let input = in_rpc scope r.input.type_name in
    let output = in_rpc scope r.output.type_name in
    let last = Both (view.argument r.output) (view.rpc_end r.body) in
    headed r.span (codes "rpc") r.name (Both (view.argument r.input) (Both (view.word (codes "returns")) last)) (input ∷ output ∷ [])
    (carries_both (view.argument r.input) (Both (view.word (codes "returns")) last) (input ∷ []) (output ∷ [])
    (argument_carries r.input input refl)
    (carries_back (view.word (codes "returns")) last (output ∷ []) (carries_front (view.argument r.output) (view.rpc_end r.body) (output ∷ []) (argument_carries r.output output refl))))

service_part_carries : (scope : List Text) (p : tree.ServicePart.ServicePart) → Carries (view.service_part p) (service_part_uses scope p)
service_part_carries scope (service_parts.Empty span) = carries_none (view.empties span)
service_part_carries scope (service_parts.Option o) = carries_none (view.option o)
service_part_carries scope (service_parts.Rpc r) = rpc_carries scope r

service_carries : (scope : List Text) (s : tree.Service.Service) → Carries (view.service s) (service_uses scope s)
service_carries scope s = search (rules, headed, carries_block, service_part_carries)

-- ---- files

statement_carries : (scope : List Text) (s : tree.Statement.Statement) → Carries (view.statement s) (statement_uses scope s)
statement_carries scope (statements.Empty span) = carries_none (view.empties span)
statement_carries scope (statements.Import i) = carries_none (view.import_line i)
statement_carries scope (statements.Option o) = carries_none (view.option o)
statement_carries scope (statements.Message m) = message_carries scope m
statement_carries scope (statements.Enum e) = carries_none (view.enumeration e)
statement_carries scope (statements.Service s) = service_carries scope s

behind_carries : (scope : List Text) (p : Option tree.Packaged.Packaged) → Carries (view.perhaps view.packaged p) (flat_map (statement_uses scope) (statements_behind p))
behind_carries scope None = carries_none Empty
behind_carries scope (Some p) = search (rules, carries_back, carries_runs, statement_carries)

file_carries : (file : tree.FileTree.FileTree) → Carries (view.file file) (file_uses file)
file_carries file =
    let scope = file_scope file in
    let front = flat_map (statement_uses scope) file.statements.items in
    let behind = flat_map (statement_uses scope) (statements_behind file.packaged) in
    let bodies = Both (view.runs view.statement file.statements.items) (view.perhaps view.packaged file.packaged) in
    carries_at file.span (Both (view.syntax_head file.syntax) (Both (view.mark 59) bodies)) (front ++ behind)
    (carries_back (view.syntax_head file.syntax) (Both (view.mark 59) bodies) (front ++ behind)
    (carries_back (view.mark 59) bodies (front ++ behind)
    (carries_both (view.runs view.statement file.statements.items) (view.perhaps view.packaged file.packaged) front behind
    (carries_runs view.statement (statement_uses scope) (statement_carries scope) file.statements.items) (behind_carries scope file.packaged))))

-- the uses of a source file begin one after the other
pub uses_lie : (text : List ℕ) (file : tree.FileTree.FileTree) (h : IsParsed text file) → Lie 0 (end_of 0 h.tokens) (file_uses file)
uses_lie text file h = file_carries file 0 h.tokens (text-rises text h.tokens h.has_tokens.1) h.stands

-- ---- the use at a byte

later_found : (v : Use) (from to : ℕ) (all us : List Use) → v.at < from → Lie from to us → AllByRecursion (λ u. use_at all u.at ≡ Some u) us → AllByRecursion (λ u. use_at (v ∷ all) u.at ≡ Some u) us
later_found v from to all [] less h k = tt
later_found v from to all (u ∷ us) less h k =
    let first : from ≤ u.at = h.0 in
    let apart : (v.at == u.at) ≡ false = others v.at u.at (omega (arith, less, first)) in
    (ap (λ b. cond b (Some v) (use_at all u.at)) apart ∙ k.0, later_found v (suc u.at) to all us (omega (arith, less, first)) h.1 k.1)
  where
    others : (m n : ℕ) → m < n → (m == n) ≡ false
    others m n l = grind (arith, nat_tests)

-- each use is the first that begins at its byte
each_found : (from to : ℕ) (us : List Use) → Lie from to us → AllByRecursion (λ u. use_at us u.at ≡ Some u) us
each_found from to [] h = tt
each_found from to (v ∷ vs) h =
    (ap (λ b. cond b (Some v) (use_at vs v.at)) (same v.at), later_found v (suc v.at) to vs vs (omega arith) h.1 (each_found (suc v.at) to vs h.1))
  where
    same : (n : ℕ) → (n == n) ≡ true
    same n = grind (arith, nat_tests)

pub uses_found : (text : List ℕ) (file : tree.FileTree.FileTree) → IsParsed text file → AllByRecursion (λ u. use_at (file_uses file) u.at ≡ Some u) (file_uses file)
uses_found text file h = each_found 0 (end_of 0 h.tokens) (file_uses file) (uses_lie text file h)

-- ---- the bytes at which they begin

all_later : (m from to : ℕ) (us : List Use) → m < from → Lie from to us → list_all (nat_lt m) (map (λ (u : Use). u.at) us) ≡ true
all_later m from to [] less h = refl
all_later m from to (u ∷ us) less h =
    let first : from ≤ u.at = h.0 in
    and_both (nat_lt m u.at) (list_all (nat_lt m) (map (λ (v : Use). v.at) us)) (below m u.at (omega (arith, less, first))) (all_later m (suc u.at) to us (omega (arith, less, first)) h.1)
  where
    below : (k n : ℕ) → k < n → nat_lt k n ≡ true
    below k n l = grind (arith, nat_tests)

rising : (from to : ℕ) (us : List Use) → Lie from to us → is_rising (map (λ (u : Use). u.at) us) ≡ true
rising from to [] h = refl
rising from to (u ∷ us) h = search (rules, and_both, nat_lt, all_later, rising (suc u.at) to us h.1)

pub places_rise : (l : LinkedFiles) → IsLinkedUp l → (number : ℕ) (e : Entry) → slice_get l.files number ≡ Some e → is_rising (file_places e) ≡ true
places_rise l up number e at =
    let parsed : IsParsed e.1.bytes.items e.1.tree =
    subst (λ (x : Entry). IsParsed x.1.bytes.items x.1.tree) (get_or_from_slice_get l.files number e e at) (up.parsed number e (slice_get_within l.files number e at)) in
    rising 0 (end_of 0 parsed.tokens) (file_uses e.1.tree) (uses_lie e.1.bytes.items e.1.tree parsed)
