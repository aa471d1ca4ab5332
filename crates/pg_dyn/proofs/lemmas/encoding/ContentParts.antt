-- What a writer is asked of a field's parts, and what it notes and writes of them: as entries of a map, as items and as numbers.
use Rattle.std.proofs.Common.{◌≡◌, ◌++◌, ℕ, List, length, map, flat_map, Bool, true, false, Result, IfErr, IfOk, ap, sym, subst, ◌∙◌, rules}
use Rattle.std.specs.List.{AllByRecursion}
use Rattle.pg_schema.specs.declared.parts.field.Element.TheVariants as elements
use Rattle.pg_schema.specs.declared.parts.field.Presence.TheVariants as presences
use Rattle.pg_schema.specs.declared.parts.field.Scalar.{Scalar}
use Rattle.pg_schema.specs.Shape.{FieldShape, Shape, is_map, is_packable}
use Rattle.pg_dyn.specs.declared.error.DynError.{DynError}
use Rattle.pg_dyn.specs.declared.number_list.NumberList.{NumberList}
use Rattle.pg_dyn.specs.encoding.Lending.{AreKeyed, AreKeyless, Bare, bare_leaf, entry_part, item_part, lent_item}
use Rattle.pg_dyn.specs.encoding.Writing.{is_packed}
use Rattle.pg_dyn.specs.encoding.Written.{Adds, BareFits, CanBePacked, LeavesFit, MayNotAdd, capped, entry_record, field_lengths, field_written, item_bytes, item_lengths, number_bytes, number_lengths, packed_bytes, packed_lengths}
use Rattle.pg_dyn.specs.fitting.PartsFit.{IsPartOf}
use Rattle.pg_dyn.specs.message.KeptParts.{KeptItem}
use Rattle.pg_dyn.specs.message.Message.{Part}
use Rattle.pg_dyn.specs.reading.Held.{read_as}
use Rattle.pg_dyn.specs.word.Coding.{InRange, scalar_form}
use Rattle.pg_dyn.specs.word.NumberLists.{numbers_in}
use Rattle.pg_dyn.proofs.lemmas.encoding.EncodeSteps.{entries_fit, entries_noted, entries_written, items_noted, items_written, keyed, keyless, keys_fit, packed_noted, packed_written, values_fit}
use Rattle.pg_dyn.proofs.lemmas.encoding.LentWeights.{entries_weigh, items_weigh, parts_weight, weights}
use Rattle.pg_dyn.proofs.lemmas.encoding.NumberWords.{numbers_fit, numbers_noted, numbers_written}

-- the lengths that are noted of a field's parts, and their bytes
pub record Says (shape : Shape) (f : FieldShape) (ps : List (Part KeptItem)) (noted bytes : List ℕ) : Type 0 where
  pub noted_are : noted ≡ field_lengths shape f ps
  pub bytes_are : bytes ≡ field_written shape f ps

-- what is counted and written of these is counted and written of the parts
module _ {shape : Shape} {f : FieldShape} {ps : List (Part KeptItem)} {noted bytes : List ℕ} (says : Says shape f ps noted bytes) where
  pub adds : {A E : Type 0} (r : Result A E) (left : A → List ℕ) (lengths before after : List ℕ) → IfOk r (λ x. Adds lengths noted before bytes after (left x))
      → IfOk r (λ x. Adds lengths (field_lengths shape f ps) before (field_written shape f ps) after (left x))
  adds r left lengths before after h = search rules

  pub may_not : {A : Type 0} (r : Result A DynError) (lengths : List ℕ) → IfErr r (MayNotAdd lengths noted bytes)
      → IfErr r (MayNotAdd lengths (field_lengths shape f ps) (field_written shape f ps))
  may_not r lengths h = search rules

  pub counted : {E : Type 0} (r : Result ℕ E) → IfOk r (λ len. len ≡ capped (length bytes)) → IfOk r (λ len. len ≡ capped (length (field_written shape f ps)))
  counted r h = subst (λ bs. IfOk r (λ len. len ≡ capped (length bs))) says.bytes_are h

  pub listed : {E : Type 0} (r : Result ℕ E) (before after : List ℕ) → IfOk r (λ len. after ≡ before ++ noted)
      → IfOk r (λ len. after ≡ before ++ field_lengths shape f ps)
  listed r before after h = subst (λ ns. IfOk r (λ len. after ≡ before ++ ns)) says.noted_are h

module _ {V E : Type 0} (item : V → Bare) (key_of value_of : E → V) (shape : Shape) (f : FieldShape) (key : Scalar) (es : List E) (ps : List (Part KeptItem)) where
  pub record Entries : Type 0 where
    pub keys : AllByRecursion (λ e. InRange (scalar_form key) (bare_leaf (item (key_of e)))) es
    pub fit : AllByRecursion (λ e. BareFits shape f.element (item (value_of e))) es
    pub weigh : parts_weight ps ≡ weights (λ e. item (value_of e)) es
    pub says : Says shape f ps (flat_map (λ e. item_lengths shape (item (value_of e))) es) (flat_map (λ e. entry_record shape f.number key f.element (bare_leaf (item (key_of e))) (item (value_of e))) es)

  pub entries : f.presence ≡ presences.Map key → AllByRecursion (IsPartOf shape f) ps → (AreKeyed ps → ps ≡ map (entry_part item key_of value_of f.number) es) → Entries
  entries is fit parts =
      let are : ps ≡ map (entry_part item key_of value_of f.number) es = parts (keyed shape f key ps is fit) in
      let fits = subst (AllByRecursion (IsPartOf shape f)) are fit in
      record {
        keys = keys_fit item key_of value_of shape f f.number key es is fits;
        fit = entries_fit item key_of value_of shape f f.number es fits;
        weigh = ap parts_weight are ∙ entries_weigh item key_of value_of f.number es;
        says = record {
          noted_are = sym (ap (field_lengths shape f) are ∙ entries_noted item key_of value_of shape f key es is);
          bytes_are = sym (ap (field_written shape f) are ∙ entries_written item key_of value_of shape f key es is);
        };
      }

module _ {V : Type 0} (item : V → Bare) (shape : Shape) (f : FieldShape) (vs : List V) (ps : List (Part KeptItem)) where
  pub record Items : Type 0 where
    pub fit : AllByRecursion (λ v. BareFits shape f.element (item v)) vs
    pub weigh : parts_weight ps ≡ weights item vs
    pub singly : is_packed f.presence ≡ false → Says shape f ps (flat_map (λ v. item_lengths shape (item v)) vs) (flat_map (λ v. item_bytes shape f.number f.element (item v)) vs)
    pub packed : is_packed f.presence ≡ true → is_packable f.element ≡ true → Says shape f ps (packed_lengths item f.element vs) (packed_bytes item f.number f.element vs)

  pub items : is_map f.presence ≡ false → AllByRecursion (IsPartOf shape f) ps → (AreKeyless ps → (l : Bool) × (ps ≡ map (item_part item f.number l) vs)) → Items
  items single fit parts =
      search (
        rules,
        keyless,
        values_fit,
        parts_weight,
        items_weigh,
        items_noted,
        items_written,
        packed_noted,
        packed_written,
      )

module _ (shape : Shape) (f : FieldShape) (ns : NumberList) (ps : List (Part KeptItem)) where
  pub record Numbers (packed : Bool) (scalar : Scalar) : Type 0 where
    pub fit : LeavesFit lent_item (elements.Scalar scalar) (numbers_in ns)
    pub says : Says shape f ps (number_lengths packed (elements.Scalar scalar) ns) (number_bytes packed f.number (elements.Scalar scalar) ns)

  pub numbers : (packed : Bool) (scalar : Scalar) → packed ≡ is_packed f.presence → scalar ≡ read_as f.element → is_map f.presence ≡ false → CanBePacked f.presence f.element
      → AllByRecursion (IsPartOf shape f) ps → ps ≡ map (item_part lent_item f.number true) (numbers_in ns) → Numbers packed scalar
  numbers packed scalar is_row is_scalar single can fit are = subst (λ b. Numbers b scalar) (sym is_row) (subst (Numbers (is_packed f.presence)) (sym is_scalar) (
      let fits = values_fit lent_item shape f f.number true (numbers_in ns) (subst (AllByRecursion (IsPartOf shape f)) are fit) in
      record {
        fit = numbers_fit shape f ns fits;
        says = record {
          noted_are = sym (ap (field_lengths shape f) are ∙ numbers_noted shape f ns);
          bytes_are = sym (ap (field_written shape f) are ∙ numbers_written shape f ns single can fits);
        };
      }))
