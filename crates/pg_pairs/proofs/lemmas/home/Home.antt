-- Messages return: by induction over the message.
use Rattle.std.proofs.Common.{◌≡◌, ℕ, true, Some, true≢false, rules}
use Rattle.std.proofs.lemmas.Bool.{false_from_ne_true}
use Rattle.pg_schema.specs.declared.parts.field.TypeId.{TypeId}
use Rattle.pg_schema.specs.Shape.{Shape}
use Rattle.pg_schema.specs.ShapeRules.{IsShape}
use Rattle.pg_dyn.specs.message.Message.{Message, ends, holds, nests}
use Rattle.pg_dyn.specs.encoding.Encoding.{enc}
use Rattle.pg_dyn.specs.reading.Decoding.{dec}
use Rattle.pg_dyn.specs.views.Comparison.{View}
use Rattle.pg_dyn.specs.views.Breaking.{Compatible}
use Rattle.pg_pairs.specs.home.Home.{home, comes_home}
use Rattle.pg_dyn.specs.laws.Laws.{ReadsAgain}
use Rattle.pg_dyn.specs.views.ViewNames.{KeptByNumber}
use Rattle.pg_pairs.proofs.lemmas.bounds.Dearer.{CompatibleTo}
use Rattle.pg_pairs.proofs.lemmas.home.ChildrenHome.{ComesHome, ChildrenComeHome}
use Rattle.pg_pairs.specs.laws.ComesHome.{MessagesComeHome}
use Rattle.pg_pairs.proofs.lemmas.home.HomeMessage.{comes}

module _ (reads_again : ReadsAgain) (old new : Shape) (shape_old : IsShape old) (shape_new : IsShape new) where
  from_children : (v : Message) → ChildrenComeHome old new v → ComesHome old new v
  from_children v come a b fine returns is plain small w read is_new small_new =
      search (rules, comes)

  each_child : (v : Message) → ChildrenComeHome old new v
  each_child (ends unknown) = tt
  each_child (holds number key leaf later) = each_child later
  each_child (nests number key child later) = (from_children child (each_child child), each_child later)

  pub every_message : (v : Message) → ComesHome old new v
  every_message v = from_children v (each_child v)

home_from : (old new : Shape) (a b : TypeId) (v w x : Message) → dec new b (enc old a v) ≡ Some w → dec old a (enc new b w) ≡ Some x → home old new a b v x ≡ true → comes_home old new a b v ≡ true
unfolding comes_home
home_from old new a b v w x read again is_home = rw (read, again) is_home

-- What is compatible under a view is so by number, up to any length.
by_number : KeptByNumber → (view : View) (old new : Shape) (a b : TypeId) (n : ℕ) → Compatible view old new a b → CompatibleTo n old new a b
by_number kept_by_number view old new a b n compatible u breaks =
    search (rules, false_from_ne_true, true≢false)

pub messages_come_home : ReadsAgain → KeptByNumber → MessagesComeHome
messages_come_home reads_again kept_by_number view old new pair shape_old shape_new compatible returns v is plain small w read is_new small_new =
    search (rules, every_message, by_number, home_from)
