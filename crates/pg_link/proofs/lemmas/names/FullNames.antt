-- Full names begin with a dot, and names through the index of linked files.
use Rattle.std.proofs.Common.{◌≡◌, Bool, cond, List, [], ◌∷◌, ◌++◌, refl, subst, Option, Some, None, Result, IfOk, IfErr, arith, rules}
use Rattle.std.proofs.lemmas.Option.{same_Some}
use Rattle.std.specs.Option.{option_map, option_and_then}
use Rattle.pg_link.specs.declared.names.Kind.{Kind}
use Rattle.pg_link.specs.names.Names.{Text, Names, called}
use Rattle.pg_link.specs.names.Resolves.{Reference, Resolves, borne, innermost, sought_among, written}
use Rattle.pg_link.proofs.lemmas.names.FileMarks.{none_some}

abbrev pub HasDot : Text → Type 0
HasDot full = (rest : Text) × (full ≡ 46 ∷ rest)

dot_behind : (outer : List Text) (name : Reference) → HasDot (called outer ++ written name)
dot_behind [] name = (name.first ++ called name.more, refl)
dot_behind (w ∷ ws) name = ((w ++ called ws) ++ written name, refl)

in_scope : (name : Reference) (o : Option (List Text)) (full : Text) → option_map (λ (outer : List Text). called outer ++ written name) o ≡ Some full → HasDot full
in_scope name None full is = absurd (none_some full is)
in_scope name (Some outer) full is = subst HasDot (same_Some _ full is) (dot_behind outer name)

meant_by : (names : Names) (scope : List Text) (name : Reference) (b : Bool) (full : Text)
    → cond b (Some (written name)) (option_map (λ (outer : List Text). called outer ++ written name) (innermost names (sought_among name.more) (called (name.first ∷ [])) scope)) ≡ Some full
    → HasDot full
meant_by names scope name b full is = grind (arith, same_Some, in_scope)

borne_name : (names : Names) (m full : Text) (kind : Kind) (o : Option Kind) → option_map {U = Text × Kind} (λ (k : Kind). (m, k)) o ≡ Some (full, kind) → m ≡ full
borne_name names m full kind o is = grind (arith, none_some, same_Some)

found_dot : (names : Names) (o : Option Text) (full : Text) (kind : Kind) → ((f : Text) → o ≡ Some f → HasDot f) → option_and_then (borne names) o ≡ Some (full, kind) → HasDot full
found_dot names o full kind dotted is = grind (arith, none_some, borne_name)

-- what a name resolves to begins with a dot
pub has_dot : (names : Names) (scope : List Text) (name : Reference) (full : Text) → Resolves names scope name full → HasDot full
has_dot names scope name full r = search (rules, found_dot, meant_by)

pub if_ok : {X E : Type 0} (P Q : X → Type 0) (r : Result X E) → ((x : X) → P x → Q x) → IfOk r P → IfOk r Q
if_ok P Q r more is = grind arith

pub if_err : {X E : Type 0} (P Q : E → Type 0) (r : Result X E) → ((e : E) → P e → Q e) → IfErr r P → IfErr r Q
if_err P Q r more is = grind arith
