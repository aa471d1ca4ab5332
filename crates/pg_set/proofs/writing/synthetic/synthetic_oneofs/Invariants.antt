use Rattle.std.proofs.Common.{◌≡◌, ◌++◌, map, drop}
use Rattle.std.specs.String.{string_bytes}
use Rattle.pg_set.specs.inner.Lent.{lent}
use Rattle.pg_set.specs.inner.writing.MadeNames.{HasMade}
use Rattle.pg_set.specs.writing.Synthetic.{synthetic_oneofs}
use Rattle.pg_set.proofs.lemmas.writing.SyntheticLaws.{onto}
use Rattle.pg_set.proofs.writing.synthetic.synthetic_oneofs.Given as goal

abbrev pub invariant-loop-field : goal.invariant-loop-field
invariant-loop-field l = record {
  made : map string_bytes l.made.items ++ synthetic_oneofs (onto (map string_bytes l.made.items) (map string_bytes l.names)) (lent (drop l.field-index l.fields)) ≡ synthetic_oneofs (map string_bytes l.names) (lent l.fields);
  taken : HasMade (onto (map string_bytes l.made.items) (map string_bytes l.names)) l.taken;
}
