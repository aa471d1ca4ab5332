-- Where a reason is due: the points of the grammar that it speaks of (this profile's choice).
use Rattle.std.specs.Prelude.{◌≡◌, ◌⊎◌, true, false, List, [], ◌++◌}
use Rattle.pg_lex.specs.Symbol.{Symbol}
use Rattle.pg_syntax.specs.declared.error.Reason.{Reason}
use Rattle.pg_syntax.specs.Tree.{Tree, spell}
use Rattle.pg_syntax.specs.Grammar.{Grammar, Row, Derives, looks, look_of, One, Seq, Pick, Optional, Many, Node, Unless, Refused, Checked, Closed}

-- The symbols v begin with those of a tree for which D holds, and for the rest P holds.
abbrev pub Behind : (Tree → Type 0) → (List Symbol → Type 0) → List Symbol → Type 0
Behind D P v = (t : Tree) × (u : List Symbol) × D t × (v ≡ spell t ++ u) × P u

-- After the symbols v, and before w, the grammar comes to a point of which the reason speaks: where it leaves out what
-- looks so, where it has nothing for that reason, or where what begins has to pass the reason's test.
abbrev pub Due : Reason → Grammar → List Symbol → List Symbol → Type 0
Due reason (One c) w v = ⊥
Due reason (Seq g h) w v = Due reason g w v ⊎ Behind (Derives g) (Due reason h w) v
Due reason (Pick look g h) w v =
    ((looks look (v ++ w) ≡ true) × Due reason g w v) ⊎ ((looks look (v ++ w) ≡ false) × Due reason h w v)
Due reason (Optional cs g) w v = Due reason g w v
Due reason (Many cs g) w v = Behind (Row (Derives g)) (Due reason g w) v
Due reason (Node g) w v = Due reason g w v
Due reason (Unless other g) w v =
    ((other ≡ reason) × (v ≡ [])) ⊎ ((looks (look_of other) (v ++ w) ≡ false) × Due reason g w v)
Due reason (Refused other) w v = (other ≡ reason) × (v ≡ [])
Due reason (Checked other test g) w v = (other ≡ reason) × (v ≡ [])
Due reason (Closed cs g) w v = Due reason g w v
