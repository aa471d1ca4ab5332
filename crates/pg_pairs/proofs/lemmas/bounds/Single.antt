-- Messages with content in one field: they are kept just where this is.
use Rattle.std.proofs.Common.{◌≡◌, ◌≢◌, ◌↔◌, ℕ, ◌<◌, ◌≤◌, List, [], ◌∷◌, ◌++◌, length, map, filter, true, false, nat_eq, cond, Some, ⊎_elim, refl, ap, ap₂, sym, ◌∙◌, subst, subst₂, arith, eqb-true, eq-eqb, ne_eqb, true≢false, append-nil, rules}
use Rattle.std.specs.List.{AllByRecursion}
use Rattle.std.proofs.lemmas.Bool.{cases_Bool, false_from_ne_true}
use Rattle.pg_schema.specs.declared.parts.field.TypeId.{TypeId}
use Rattle.pg_schema.specs.Shape.{Shape, FieldShape, fields, field_at}
use Rattle.pg_schema.specs.ShapeRules.{IsShape, Rising}
use Rattle.pg_dyn.specs.message.Message.{Leaf, Message, IsPlain, Part, is_of, unknown_of}
use Rattle.pg_dyn.specs.encoding.Writing.{field_records, records_in, bytes_of}
use Rattle.pg_dyn.specs.encoding.Encoding.{encoded_parts, enc, cap}
use Rattle.pg_dyn.specs.reading.Decoding.{dec}
use Rattle.pg_dyn.specs.fitting.Belonging.{IsMessage}
use Rattle.pg_dyn.specs.views.Comparison.{View, Comparand, writes, comparands}
use Rattle.pg_dyn.specs.views.Breaking.{is_kept}
use Rattle.pg_dyn.specs.laws.ByComparands.{comparands_at, is_field_kept, EachFieldKept, NoComparandsMeet}
use Rattle.pg_dyn.proofs.Lists.{each-map, each_weaker, filter_all, filter_none}
use Rattle.pg_pairs.specs.inner.Contents.{total}
use Rattle.pg_pairs.proofs.lemmas.bounds.Comparands.{empty_kept}
use Rattle.pg_pairs.proofs.lemmas.bounds.Messages.{one_found}
use Rattle.pg_dyn.proofs.PublicLaws.{comparands_are_written, fields_are_found, kept_by_comparands, records_of_fields, siblings_mutual}

pub of_other : (n m : ℕ) (ps : List (Part Leaf)) → (n ≡ m → ⊥) → AllByRecursion (λ (p : Part Leaf). p.number ≡ n) ps → filter (is_of m) ps ≡ []
of_other n m ps apart h = filter_none (is_of m) ps (each_weaker (λ (p : Part Leaf). p.number ≡ n) (λ p. is_of m p ≡ false) (λ p at. ne_eqb p.number m (λ k. apart (sym at ∙ k))) ps h)

pub of_own : (n : ℕ) (ps : List (Part Leaf)) → AllByRecursion (λ (p : Part Leaf). p.number ≡ n) ps → filter (is_of n) ps ≡ ps
of_own n ps h = filter_all (is_of n) ps (each_weaker (λ (p : Part Leaf). p.number ≡ n) (λ p. is_of n p ≡ true) (λ p at. eq-eqb p.number n at) ps h)

-- the records of parts of one field are this field's
pub none_of_others : (ps : List (Part Leaf)) (n : ℕ) → AllByRecursion (λ (p : Part Leaf). p.number ≡ n) ps → (fs : List FieldShape) → AllByRecursion (λ g. n < g.number) fs → records_in fs ps ≡ []
none_of_others ps n h [] above = refl
none_of_others ps n h (g ∷ fs) above =
    ap₂ (λ xs ys. xs ++ ys) (ap (field_records g) (of_other n g.number ps (λ k. omega (arith, above.0)) h) ∙ records_of_fields.1 g) (none_of_others ps n h fs above.1)

pub single_records : (fs : List FieldShape) → Rising fs → (f : FieldShape) → (ps : List (Part Leaf)) → AllByRecursion (λ (p : Part Leaf). p.number ≡ f.number) ps → field_at fs f.number ≡ Some f → records_in fs ps ≡ field_records f ps
single_records [] rising f ps h found = absurd (cc)
single_records (x ∷ fs) rising f ps h found =
    elim (nat_eq x.number f.number) as (λ b. nat_eq x.number f.number ≡ b → cond b (Some x) (field_at fs f.number) ≡ Some f → records_in (x ∷ fs) ps ≡ field_records f ps) [
      | true ↦ λ e k.
          let same : x ≡ f = cc in
          let at = eqb-true x.number f.number e in
          ap₂ (λ xs ys. xs ++ ys)
          (ap₂ field_records same (ap (λ n. filter (is_of n) ps) at ∙ of_own f.number ps h))
          (none_of_others ps f.number h fs (subst (λ n. AllByRecursion (λ g. n < g.number) fs) at rising.0))
          ∙ append-nil (field_records f ps)
      | false ↦ λ e k.
          ap₂ (λ xs ys. xs ++ ys)
          (ap (field_records x) (of_other f.number x.number ps (λ at. let no = eq-eqb x.number f.number (sym at) in absurd (cc)) h) ∙ records_of_fields.1 x)
          (single_records fs rising.1 f ps h k)
    ] refl found

-- its length is that of the field's records
pub single_length : (view : View) (old new : Shape) (shape_old : IsShape old) (a b : TypeId) (v : Message) (f : FieldShape) → unknown_of v ≡ [] → field_at (fields old a) f.number ≡ Some f → AllByRecursion (λ (c : Comparand). c.number ≡ f.number) (comparands view old new a b v) → length (enc old a v) ≡ total f (comparands view old new a b v)
unfolding enc
single_length view old new shape_old a b v f no_unknown found one =
    let written_by : records_in (fields old a) (encoded_parts old a v) ≡ field_records f (map writes (comparands view old new a b v)) =
    ap (records_in (fields old a)) (sym (comparands_are_written view old new a b v))
    ∙ single_records (fields old a) (fields_are_found.0 old a shape_old).rising f (map writes (comparands view old new a b v))
    (each-map (λ (p : Part Leaf). p.number ≡ f.number) writes (comparands view old new a b v) one) found in
    ap₂ (λ xs us. length (bytes_of xs ++ bytes_of us)) written_by no_unknown ∙ ap length (append-nil (bytes_of (field_records f (map writes (comparands view old new a b v)))))

-- A message with content in one field only is kept just where this is.
module _ (view : View) (old new : Shape) (shape_old : IsShape old) (shape_new : IsShape new) (a b : TypeId) (v : Message) (is : IsMessage old a v) (plain : IsPlain v)
    (small : length (enc old a v) ≤ cap) (f g : FieldShape) (found : field_at (fields old a) f.number ≡ Some f) (at : field_at (fields new b) f.number ≡ Some g)
    (one : AllByRecursion (λ (c : Comparand). c.number ≡ f.number) (comparands view old new a b v)) where
  abbrev cs : List Comparand
  cs = comparands view old new a b v

  own : comparands_at f.number cs ≡ cs
  own = filter_all (λ (c : Comparand). nat_eq c.number f.number) cs (each_weaker (λ (c : Comparand). c.number ≡ f.number) (λ c. nat_eq c.number f.number ≡ true) (λ c k. eq-eqb c.number f.number k) cs one)

  none_beside : (n : ℕ) → n ≢ f.number → comparands_at n cs ≡ []
  none_beside n apart = search (rules, filter_none, each_weaker, ne_eqb)

  none_meet : NoComparandsMeet (fields new b) cs
  none_meet e h at_e at_h sibling =
      search (rules, none_beside, siblings_mutual, eqb-true, eq-eqb, cases_Bool)

  law : (is_kept view old new a b v ≡ true) ↔ EachFieldKept view (dec new) (fields old a) (fields new b) cs
  law = kept_by_comparands view old new a b v shape_old shape_new is plain small none_meet

  each_kept : is_field_kept view (dec new) f g (comparands_at f.number cs) ≡ true → EachFieldKept view (dec new) (fields old a) (fields new b) cs
  each_kept kept e h found_e at_h =
      ⊎_elim
      (λ here.
      let number = eqb-true e.number f.number here in
      let same_old : f ≡ e = one_found (fields old a) f.number f e found (ap (field_at (fields old a)) (sym number) ∙ found_e) in
      let same_new : g ≡ h = one_found (fields new b) f.number g h at (ap (field_at (fields new b)) (sym number) ∙ at_h) in
      subst₂ (λ (x y : FieldShape). is_field_kept view (dec new) x y (comparands_at x.number cs) ≡ true) same_old same_new kept)
      (λ other.
      let none = none_beside e.number (λ same. let here = eq-eqb e.number f.number same in absurd (cc)) in
      subst (λ xs. is_field_kept view (dec new) e h xs ≡ true) (sym none) (empty_kept view (dec new) e h))
      (cases_Bool (nat_eq e.number f.number))

  pub single_broken : is_field_kept view (dec new) f g cs ≡ false → is_kept view old new a b v ≡ false
  single_broken broken = search (rules, false_from_ne_true, true≢false, law, own)

  pub field_broken : is_kept view old new a b v ≡ false → is_field_kept view (dec new) f g (comparands_at f.number cs) ≡ false
  field_broken broken = search (rules, false_from_ne_true, true≢false, law, each_kept)
