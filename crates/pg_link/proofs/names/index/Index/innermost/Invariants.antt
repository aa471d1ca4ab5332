use Rattle.std.proofs.Common.{◌≡◌, ◌≤◌, ◌∷◌, [], take, length, string_bytes}
use Rattle.pg_link.specs.names.Names.{texts, called}
use Rattle.pg_link.specs.inner.Index.{names_seen, visible_of}
use Rattle.pg_link.specs.names.Resolves.{innermost, sought_among, part_words}
use Rattle.pg_link.proofs.names.index.Index.innermost.Given as goal

abbrev pub invariant-scopes : goal.invariant-scopes
invariant-scopes l = record {
  within : l.len ≤ length l.scope;
  text : string_bytes l.full ≡ called (texts (take l.len l.scope));
  same : innermost (names_seen l.self.names (visible_of l.visible)) (sought_among (part_words l.parts)) (called (l.word ∷ [])) (texts (take l.len l.scope))
      ≡ innermost (names_seen l.self.names (visible_of l.visible)) (sought_among (part_words l.parts)) (called (l.word ∷ [])) (texts l.scope);
}

abbrev pub decreases-scopes : goal.decreases-scopes
decreases-scopes l = l.len
