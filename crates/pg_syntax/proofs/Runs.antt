-- Rows in which empty statements that follow one another are one element.
use Rattle.std.proofs.Common.{◌≡◌, ◌<◌, Bool, true, false, cond, ◌&&◌, ℕ, zero, suc, List, [], ◌∷◌, ◌++◌, length, append-nil, append_assoc, refl, sym, subst, ◌∙◌, ap, Ok, Err}
use Rattle.std.proofs.lemmas.Bool.{false≢true}
use Rattle.pg_lex.specs.Symbol.{Symbol}
use Rattle.pg_lex.specs.declared.token.Span.{Span}
use Rattle.pg_syntax.specs.declared.cursor.Parser.{Parser}
use Rattle.pg_syntax.specs.declared.error.Fault.{Fault}
use Rattle.pg_syntax.specs.declared.error.Reason.{Reason}
use Rattle.pg_syntax.specs.declared.error.Refusal.{Refusal}
use Rattle.pg_syntax.specs.Tree.{Tree, At, spell, symbols}
use Rattle.pg_syntax.specs.Grammar.{Grammar, Class, looks, look_of, One, Seq, Pick, Optional, Many, Node, Unless, Refused, Checked, Closed}
use Rattle.pg_syntax.specs.inner.Reading.{Point, point, Outcome, Fails, ◌>>=◌, fault, first_of, next_in, instead, read}
use Rattle.pg_syntax.specs.Proto3.{empty, option, labelled_field, plain_field, map_field, oneof_part, oneof, reserved, enum_value, enum_part, enumeration, rpc_part, rpc, service_part, service, part_in, message, import_line, statement}
use Rattle.pg_syntax.specs.Views as view
use Rattle.pg_syntax.specs.Views.{all_nodes, nodes, run, runs}
use Rattle.pg_syntax.proofs.Classes.{and_parts}
use Rattle.pg_syntax.proofs.Rows.{GoesOn, again, stop, wrong}

-- ---- the nodes of lists

all_joined : {X : Type 0} (to_tree : X → Tree) (xs ys : List X) → all_nodes to_tree (xs ++ ys) ≡ all_nodes to_tree xs ++ all_nodes to_tree ys
all_joined to_tree [] ys = refl
all_joined to_tree (x ∷ xs) ys =
    ap (λ ts. nodes (to_tree x) ++ ts) (all_joined to_tree xs ys) ∙ sym (append_assoc (nodes (to_tree x)) (all_nodes to_tree xs) (all_nodes to_tree ys))

-- one element more
pub added : {X : Type 0} (to_tree : X → Tree) (xs ys : List X) (x : X) → ys ≡ xs ++ x ∷ [] → all_nodes to_tree ys ≡ all_nodes to_tree xs ++ nodes (to_tree x)
added to_tree xs ys x is =
    ap (all_nodes to_tree) is ∙ (all_joined to_tree xs (x ∷ []) ∙ ap (λ ts. all_nodes to_tree xs ++ ts) (append-nil (nodes (to_tree x))))

-- a last element instead of another, with more nodes after it
pub merged : {X : Type 0} (to_tree : X → Tree) (front old new : List X) (x y z : X) → old ≡ front ++ x ∷ [] → new ≡ front ++ y ∷ []
    → nodes (to_tree y) ≡ nodes (to_tree x) ++ nodes (to_tree z) → all_nodes to_tree new ≡ all_nodes to_tree old ++ nodes (to_tree z)
merged to_tree front old new x y z was is joins =
    added to_tree front new y is
    ∙ (ap (λ ts. all_nodes to_tree front ++ ts) joins
    ∙ (sym (append_assoc (all_nodes to_tree front) (nodes (to_tree x)) (nodes (to_tree z)))
    ∙ ap (λ ts. ts ++ nodes (to_tree z)) (sym (added to_tree front old x was))))

-- ---- runs of empty statements

run_joined : (first : Span) (ss : List Span) (next : Span) (more : List Span) → nodes (run first (ss ++ next ∷ more)) ≡ nodes (run first ss) ++ nodes (run next more)
run_joined first [] next more = refl
run_joined first (s ∷ ss) next more = ap (λ ts. view.empty first ∷ ts) (run_joined s ss next more)

-- a run after another
pub joined_run : (first : Span) (ss : List Span) (next : Span) (more both : List Span) → both ≡ (ss ++ next ∷ []) ++ more
    → nodes (run first both) ≡ nodes (run first ss) ++ nodes (run next more)
joined_run first ss next more both is =
    ap (λ ts. nodes (run first ts)) (is ∙ append_assoc ss (next ∷ []) more) ∙ run_joined first ss next more

-- ---- grammars that give nodes

abbrev pub is_node : Grammar → Bool
is_node (Pick look g h) = is_node g && is_node h
is_node (Node g) = true
is_node (Unless reason g) = is_node g
is_node (Refused reason) = true
is_node (Checked reason test g) = is_node g
is_node (Closed cs g) = is_node g
is_node g = false

first_of_two : (t u : Tree) (p q : Point) → ◌≡◌ {A = Outcome} (Ok (t, p)) (Ok (u, q)) → t ≡ u
first_of_two t u p q h = let e : ◌≡◌ {A = Tree × Point} (t, p) (u, q) = cc in ap (λ (x : Tree × Point). x.0) e

abbrev IsNode : Tree → Type 0
IsNode t = nodes t ≡ t ∷ []

of_two : (b : Bool) (one two : Outcome) (t : Tree) (q : Point) → (one ≡ Ok (t, q) → IsNode t) → (two ≡ Ok (t, q) → IsNode t) → cond b one two ≡ Ok (t, q) → IsNode t
of_two true one two t q first second e = first e
of_two false one two t q first second e = second e

at_node : (from : ℕ) (o : Outcome) (t : Tree) (q : Point) → (o >>= λ u m. Ok (At (record { from = from; to = m.last }) u, m)) ≡ Ok (t, q) → IsNode t
at_node from (Ok x) t q e = subst IsNode (first_of_two (At (record { from = from; to = x.1.last }) x.0) t x.1 q e) refl
at_node from (Err f) t q e = cc

passed : (b : Bool) (x : Tree × Point) (f : Fault) (t : Tree) (q : Point) → cond b (Ok x) (Err f) ≡ Ok (t, q) → ◌≡◌ {A = Outcome} (Ok x) (Ok (t, q))
passed true x f t q e = e
passed false x f t q e = cc

checked : (reason : Reason) (test : List Symbol → Bool) (p : Point) (o : Outcome) (t : Tree) (q : Point) → instead reason test p o ≡ Ok (t, q) → o ≡ Ok (t, q)
checked reason test p (Ok x) t q e = passed (test (spell x.0)) x (fault reason p) t q e
checked reason test p (Err f) t q e = cc

pub one_node : (g : Grammar) (p : Point) (t : Tree) (q : Point) → is_node g ≡ true → read g p ≡ Ok (t, q) → nodes t ≡ t ∷ []
one_node (One c) p t q k e = absurd (false≢true k)
one_node (Seq g h) p t q k e = absurd (false≢true k)
one_node (Optional cs g) p t q k e = absurd (false≢true k)
one_node (Many cs g) p t q k e = absurd (false≢true k)
one_node (Pick look g h) p t q k e =
    let both = and_parts (is_node g) (is_node h) k in
    of_two (looks look (symbols p.rest)) (read g p) (read h p) t q (one_node g p t q both.0) (one_node h p t q both.1) e
one_node (Node g) p t q k e = at_node (first_of p.rest) (read g p) t q e
one_node (Unless reason g) p t q k e = of_two (looks (look_of reason) (symbols p.rest)) (Err (fault reason p)) (read g p) t q (λ none. cc) (one_node g p t q k) e
one_node (Refused reason) p t q k e = cc
one_node (Checked reason test g) p t q k e = one_node g p t q k (checked reason test p (read g p) t q e)
one_node (Closed cs g) p t q k e = one_node g p t q k e

pub oneof_part_node : is_node oneof_part ≡ true
unfolding oneof_part empty option map_field labelled_field plain_field
oneof_part_node = refl

pub enum_part_node : is_node enum_part ≡ true
unfolding enum_part empty option reserved enum_value
enum_part_node = refl

pub rpc_part_node : is_node rpc_part ≡ true
unfolding rpc_part empty option
rpc_part_node = refl

pub service_part_node : is_node service_part ≡ true
unfolding service_part empty option rpc
service_part_node = refl

message_node : (depth : ℕ) → is_node (message depth) ≡ true
unfolding message
message_node zero = refl
message_node (suc depth) = refl

pub part_node : (depth : ℕ) → is_node (part_in (message depth)) ≡ true
unfolding part_in empty enumeration oneof option reserved map_field labelled_field plain_field
part_node depth = rw (message_node depth) refl

pub statement_node : (depth : ℕ) → is_node (statement depth) ≡ true
unfolding statement empty import_line option enumeration service
statement_node depth = rw (message_node depth) refl

-- ---- loops: one answer for each of their goals

abbrev pub itself : Tree → Tree
itself t = t

abbrev pub GoesOnRuns : {X : Type 0} → (X → Tree) → List Class → Grammar → Point → List X → Point → Type 0
GoesOnRuns to_tree cs g start done p = GoesOn itself cs g start (all_nodes to_tree done) p

module _ {X : Type 0} (to_tree : X → Tree) (cs : List Class) (g : Grammar) (start p : Parser) (done : List X) (row : GoesOnRuns to_tree cs g (point start) done (point p)) (more : Bool) (test : more ≡ next_in cs (point p)) where
  pub again_runs : is_node g ≡ true → (q : Parser) (x : X) (items : List X) → more ≡ true → read g (point p) ≡ Ok (to_tree x, point q) → length q.rest.now < length p.rest.now
      → all_nodes to_tree items ≡ all_nodes to_tree done ++ nodes (to_tree x) → GoesOnRuns to_tree cs g (point start) items (point q)
  again_runs is q x items on reads less adds =
      again itself cs g start p (all_nodes to_tree done) row more test q (to_tree x) (all_nodes to_tree items) on reads less
      (adds ∙ ap (λ ts. all_nodes to_tree done ++ ts) (one_node g (point p) (to_tree x) (point q) is reads))

  pub stop_runs : more ≡ false → read (Many cs g) (point start) ≡ Ok (runs to_tree done, point p)
  stop_runs off = stop itself cs g start p (all_nodes to_tree done) row more test off

  pub wrong_runs : (e : Refusal) → more ≡ true → Fails e (read g (point p)) → Fails e (read (Many cs g) (point start))
  wrong_runs e on reads = wrong itself cs g start p (all_nodes to_tree done) row more test e on reads
