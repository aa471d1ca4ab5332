use Rattle.std.proofs.Common.{◌≡◌, Bool, true, false, refl, arith}
use Rattle.pg_schema.specs.Parts.{shape_of}
use Rattle.pg_schema.specs.Shape.{fields}
use Rattle.pg_dyn.specs.fitting.ContentFits.{NoneSiblings}
use Rattle.pg_dyn.proofs.lemmas.fitting.OneofLaws.{each_once}
use Rattle.pg_dyn.proofs.lemmas.setting.WholeFaults.{no_siblings_from}
use Rattle.pg_dyn.proofs.oneofs.none_siblings.Goals as goal

pub returns : goal.returns
returns c = (
  (λ e. no_siblings_from (fields (shape_of c.args.schema.now) c.args.type_id) c.args.contents.now (c.each_oneof_once.ensures.once e)),
  λ apart. of c apart c.each_oneof_once.result refl,
)
  where
    of : (c : goal.After-each_oneof_once) → NoneSiblings (fields (shape_of c.args.schema.now) c.args.type_id) c.args.contents.now → (b : Bool) → c.each_oneof_once.result ≡ b → c.each_oneof_once.result ≡ true
    of c apart true e = e
    of c apart false e =
        let (o, many) = c.each_oneof_once.ensures.twice e in
        absurd (omega (arith, many, each_once (fields (shape_of c.args.schema.now) c.args.type_id) c.args.contents.now c.requires apart o))
