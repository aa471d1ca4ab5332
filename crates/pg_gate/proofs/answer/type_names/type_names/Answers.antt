use Rattle.pg_gate.proofs.answer.type_names.type_names.Goals as goal

pub returns-clause-named : goal.returns-clause-named
returns-clause-named g c = record {
  schema = c.in_ok-schema.field-0.schema;
  of_side = c.in_ok-schema.ensures.compiled;
  so = c.in_ok-names.ensures;
}
