-- Items that are seen are read as themselves.
use Rattle.std.proofs.Common.{◌≡◌, true, Some, sym, subst, rules}
use Rattle.std.proofs.lemmas.Bool.{and_parts}
use Rattle.pg_schema.specs.declared.parts.field.Element.{Element}
use Rattle.pg_schema.specs.declared.parts.field.Element.TheVariants as elements
use Rattle.pg_dyn.specs.message.Message.{Leaf, Int}
use Rattle.pg_dyn.specs.word.Coding.{form, body, leaf_in}
use Rattle.pg_dyn.specs.views.Comparison.{View, alike_leaves}
use Rattle.pg_pairs.specs.gaps.TrueGaps.{is_alike_read, is_seen}
use Rattle.pg_dyn.proofs.PublicLaws.{equal_leaves}

-- what is alike is equal
pub alike_equal : (view : View) (e g : Element) (a b : Leaf) → alike_leaves view e g a b ≡ true → a ≡ b
alike_equal view (elements.Enum s) (elements.Enum t) (Int m) (Int n) h = (equal_leaves (Int m) (Int n)).0 (and_parts _ _ h).0
alike_equal view e g a b h = (equal_leaves a b).0 h

-- an item that is seen is read as itself
pub seen_read : (view : View) (e g : Element) (item : Leaf) → is_seen view e g item ≡ true → leaf_in (form g) (body (form e) item) ≡ Some item
seen_read view e g item h = search (rules, alike_equal)

-- and it is alike
pub seen_alike : (view : View) (e g : Element) (item : Leaf) → is_seen view e g item ≡ true → alike_leaves view e g item item ≡ true
seen_alike view e g item h = subst (λ o. is_alike_read view e g item o ≡ true) (seen_read view e g item h) h

pub seen_from : (view : View) (e g : Element) (item : Leaf) → leaf_in (form g) (body (form e) item) ≡ Some item → alike_leaves view e g item item ≡ true → is_seen view e g item ≡ true
seen_from view e g item read alike = subst (λ o. is_alike_read view e g item o ≡ true) (sym read) alike
