use Rattle.std.proofs.Common.{◌≡◌, ◌∙◌, ℕ, List, None, Some, Option, Bor, is_some, true, cond, ap, sym, take}
use Rattle.std.specs.BTreeMap.{BTreeMap}
use Rattle.std.specs.Str.{bytes_eq}
use Rattle.std.proofs.lemmas.Map.Text.{is_eq-slice_cmp}
use Rattle.std.proofs.lemmas.Slice.Eq.{bytes_eq-Decides}
use Rattle.pg_notes.specs.Named.{place_of}
use Rattle.pg_notes.specs.inner.Tables.{at_name, found_or}
use Rattle.pg_notes.proofs.Firsts.{added, first_more, kept, none_there}
use Rattle.pg_notes.proofs.tables.names_of.Goals.{then-not-contains_key+in_ok-insert, else-not-contains_key}
use Rattle.pg_notes.proofs.tables.names_of.Goals as goal

pub loop-index-preserved : goal.loop-index-preserved
loop-index-preserved g c =
    let old : List ℕ → Option ℕ = at_name c.loop-index.names in
    let i : ℕ = c.loop-index.index in
    let key : List ℕ = c.name-name.result.now in
    let called : key ≡ g.T.Named.name_of c.index-items-index.result = c.name-name.ensures in
    let more = λ (q : List ℕ). ap (λ (found : Option ℕ). found_or found (bytes_eq q key) i) (c.loop-index.invariant q)
    ∙ (ap (λ (n : List ℕ). found_or (place_of g.T.Named.name_of (take i c.args.items.now) q) (bytes_eq q n) i) called
    ∙ sym (first_more (λ (item : _). bytes_eq q (g.T.Named.name_of item)) c.args.items.now i c.index-items-index.result c.loop-index-test.true c.index-items-index.is)) in
    elim c.if-not-contains_key.branch [
      | then-not-contains_key+in_ok-insert w ↦
          let fresh : old key ≡ None = none_there (old key) (sym c.contains_key.ensures ∙ w.if-not-contains_key.true) in
          λ q. ap (λ (t : BTreeMap (Bor (List ℕ)) ℕ). at_name t q) w.names-is
          ∙ (w.in_ok-insert.ensures.updates.0 (record { ref_ptr = (0, 0); now = q })
          ∙ (ap (λ b. cond b (Some i) (old q)) (is_eq-slice_cmp key q) ∙ (added bytes_eq bytes_eq-Decides old key i fresh q ∙ more q)))
      | else-not-contains_key w ↦
          let there : is_some (old key) ≡ true = sym c.contains_key.ensures ∙ w.if-not-contains_key.false in
          λ q. ap (λ (t : BTreeMap (Bor (List ℕ)) ℕ). at_name t q) w.names-is ∙ (kept bytes_eq bytes_eq-Decides old key i there q ∙ more q)
    ]
