-- What a test of one content reports.
use Rattle.std.proofs.Common.{Bool, Vec, Global, IsOk, IfErr, ◌≡◌, ℕ, ℤ, ◌<◌, ◌≤◌, ⊎_elim, List, [], ◌∷◌, map, flat_map, Result, Ok, Err, Option, Some, None, inl, inr, refl, sym, subst, arith, rules, true}
use Rattle.std.specs.Prelude.{⊤}
use Rattle.std.specs.List.{AllByRecursion}
use Rattle.std.proofs.lemmas.Str.{IsUtf8-from_is_utf8, utf8_valid_len-IsUtf8, utf8_valid_len-IsValidUpTo}
use Rattle.pg_schema.specs.declared.parts.field.Scalar.{Scalar}
use Rattle.pg_schema.specs.declared.parts.field.TypeId.{TypeId}
use Rattle.pg_schema.specs.declared.parts.field.Element.{Element}
use Rattle.pg_schema.specs.declared.parts.field.Element.TheVariants as elements
use Rattle.pg_schema.specs.declared.parts.field.Presence.{Presence}
use Rattle.pg_schema.specs.declared.parts.field.Presence.TheVariants as presences
use Rattle.pg_schema.specs.Shape.{Shape, FieldShape, fields, field_at}
use Rattle.pg_wire.specs.declared.error.WireError.{WireError}
use Rattle.pg_dyn.specs.declared.error.DynError.{DynError}
use Rattle.pg_dyn.specs.declared.error.DynError.TheVariants as errors
use Rattle.pg_dyn.specs.declared.message.Content.{Content}
use Rattle.pg_dyn.specs.declared.message.Content.TheVariants as contents
use Rattle.pg_dyn.specs.declared.message.Value.{Value}
use Rattle.pg_dyn.specs.declared.message.Value.TheVariants as values
use Rattle.pg_dyn.specs.word.Coding.{Form, InRange, scalar_form}
use Rattle.pg_dyn.specs.message.Message.{Int}
use Rattle.pg_dyn.specs.word.WordOf.{IsInteger, IsIntegerOf}
use Rattle.pg_dyn.specs.message.Seen.{leaf_of, IsKey}
use Rattle.pg_dyn.specs.fitting.ScalarItems.{IsItemOf, IsKindOf, IsOutOfRange, IsNoText, IsFaultOf}
use Rattle.pg_dyn.specs.setting.ContentFaults.{ElementFault, FirstOfTwo, FirstOf, HasPresence, HasItemFault, HasKeyTwice, FieldFault, ContentFault, items_in, IsLowest, HasNoFault, HasNoEarlyFault}
use Rattle.pg_dyn.specs.error.Codes.{code_of}
use Rattle.pg_dyn.specs.fitting.ContentFits.{ItemFits, EntryFits, ItemsFit}
use Rattle.pg_dyn.specs.inner.Reported.{Reports, EntryFault, TakesContent}
use Rattle.pg_dyn.proofs.lemmas.setting.LowestFault.{none_first, reported_so}
use Rattle.pg_dyn.proofs.lemmas.fitting.ItemLeaves.{in_range, item_is_key}
use Rattle.std.specs.Str.{is_utf8}

-- Of several faults.

module _ (F : DynError → Type 0) where
  pub lowest : (e : DynError) → F e → code_of e ≤ 605 → (F errors.Memory → ⊥) → ((w : WireError) → F (errors.Wire w) → ⊥) → (601 < code_of e → F errors.NoSuchField → ⊥) → (602 < code_of e → F errors.WrongKind → ⊥) → (603 < code_of e → F errors.OutOfRange → ⊥)
      → (604 < code_of e → (at : ℕ) → F (errors.NotUtf8 at) → ⊥) → IsLowest F e
  lowest e h most memory wire number kind range text = search (rules, arith)

-- What is wrong with an item.

integer_kind : (f : Form) (n : ℤ) → IsInteger f → IsKindOf f (values.Int n)
integer_kind f n h = grind arith

of_integer : (s : Scalar) (v : Value) → IsOutOfRange s v → IsKindOf (scalar_form s) v
of_integer s v h = grind (arith, integer_kind)

of_text : (s : Scalar) (v : Value) (at : ℕ) → IsNoText s at v → IsKindOf (scalar_form s) v × (IsOutOfRange s v → ⊥)
of_text s v at h = grind arith

-- an item of the scalar has none of these

int_kind : (f : Form) (n : ℤ) → InRange f (Int n) → IsKindOf f (values.Int n)
int_kind f n h = grind arith

int_range : (f : Form) (n : ℤ) → InRange f (Int n) → IsIntegerOf f n
int_range f n h = grind arith

item_kind : (f : Form) (v : Value) → IsKey v → InRange f (leaf_of v) → IsKindOf f v
item_kind f v key h = grind (arith, int_kind)

kind_of_item : (s : Scalar) (v : Value) → IsItemOf s v → IsKindOf (scalar_form s) v
kind_of_item s v h = item_kind (scalar_form s) v (item_is_key s v h) (in_range s v h)

range_of_item : (s : Scalar) (v : Value) → IsItemOf s v → IsOutOfRange s v → ⊥
range_of_item s v h out = grind (arith, int_range)

text_of_item : (s : Scalar) (v : Value) (at : ℕ) → IsItemOf s v → IsNoText s at v → ⊥
text_of_item s (values.Int x) at h none = none
text_of_item s (values.F32 x) at h none = none
text_of_item s (values.F64 x) at h none = none
text_of_item s (values.Text x) at h none = none
text_of_item s (values.Bytes bytes) at h none =
    let text : is_utf8 bytes.items ≡ true = subst (λ f. InRange f (leaf_of (values.Bytes bytes))) none.0 h in
    let whole = utf8_valid_len-IsUtf8 bytes.items (IsUtf8-from_is_utf8 bytes.items text) in
    absurd (omega (arith, none.1.short, whole, utf8_valid_len-IsValidUpTo bytes.items at none.1))
text_of_item s (values.Msg x) at h none = none

-- An item, and what is wrong with it.

pub no_scalar_fault : (s : Scalar) (v : Value) → IsItemOf s v → (e : DynError) → IsFaultOf s v e → ⊥
no_scalar_fault s v item e k = grind (arith, kind_of_item, range_of_item, text_of_item)

scalar_lowest : (s : Scalar) (v : Value) (e : DynError) → IsFaultOf s v e → IsLowest (IsFaultOf s v) e × (code_of e < 605)
scalar_lowest s v e k = grind (arith, lowest, of_integer, of_text)

-- what a test of an item answers, in the words of its scalar
pub reported_scalar : (s : Scalar) (v : Value) (r : Result (Unit {0}) DynError) → (IsOk r → IsItemOf s v) → IfErr r (IsFaultOf s v) → Reports (IsItemOf s v) (IsFaultOf s v) r
reported_scalar s v (Ok t) fits fault = fits refl
reported_scalar s v (Err e) fits fault = scalar_lowest s v e fault

-- the errors of items
abbrev IsOfItem : DynError → Type 0
IsOfItem errors.WrongKind = ⊤
IsOfItem errors.OutOfRange = ⊤
IsOfItem (errors.NotUtf8 at) = ⊤
IsOfItem e = ⊥

module _ (shape : Shape) where
  scalar_error : (s : Scalar) (v : Value) (e : DynError) → IsFaultOf s v e → IsOfItem e
  scalar_error s v e k = grind arith

  item_error : (element : Element) (v : Value) (e : DynError) → ElementFault shape element v e → IsOfItem e
  item_error element v e k = grind (arith, scalar_error)

  any_error : (xs : List (Element × Value)) (e : DynError) → FirstOf (λ (x : Element × Value). ElementFault shape x.0 x.1) xs e → IsOfItem e
  any_error [] e k = absurd k
  any_error (x ∷ xs) e (inl k) = item_error x.0 x.1 e k
  any_error (x ∷ xs) e (inr k) = any_error xs e k.1

  child_right : (t : TypeId) (v : Value) → ItemFits shape (elements.Message t) v → (e : DynError) → ElementFault shape (elements.Message t) v e → ⊥
  child_right t v h e k = grind arith

  child_wrong : (t : TypeId) (v : Value) → (ItemFits shape (elements.Message t) v → ⊥) → ElementFault shape (elements.Message t) v errors.WrongKind
  child_wrong t v none = grind arith

  pub item_right : (element : Element) (v : Value) → ItemFits shape element v → HasNoEarlyFault (ElementFault shape element v)
  item_right element v h e early k = grind (arith, no_scalar_fault, child_right)

  pub reported_other : (t : TypeId) (v : Value) → (ItemFits shape (elements.Message t) v → ⊥) → IsLowest (ElementFault shape (elements.Message t) v) errors.WrongKind × (code_of errors.WrongKind < 605)
  reported_other t v none = search (rules, arith, lowest, child_wrong)

  pub entry_right : (key : Scalar) (element : Element) (x : Value × Value) → EntryFits shape key element x → HasNoEarlyFault (EntryFault shape key element x)
  entry_right key element x h e early k = ⊎_elim (λ a. item_right (elements.Scalar key) x.0 h.0 e early a) (λ b. item_right element x.1 h.1 e early b.1) k

-- The content of a field.

first_to : {A B : Type 0} (F : B → DynError → Type 0) (f : A → B) (xs : List A) (e : DynError) → FirstOf (λ x. F (f x)) xs e → FirstOf F (map f xs) e
first_to F f [] e k = k
first_to F f (x ∷ xs) e (inl k) = inl k
first_to F f (x ∷ xs) e (inr k) = inr (k.0, first_to F f xs e k.1)

first_back : {A B : Type 0} (F : B → DynError → Type 0) (f : A → B) (xs : List A) (e : DynError) → FirstOf F (map f xs) e → FirstOf (λ x. F (f x)) xs e
first_back F f [] e k = k
first_back F f (x ∷ xs) e (inl k) = inl k
first_back F f (x ∷ xs) e (inr k) = inr (k.0, first_back F f xs e k.1)

-- of two elements for each one
first_two : {A B : Type 0} (F : B → DynError → Type 0) (f g : A → B) (xs : List A) (e : DynError) → FirstOf (λ x. FirstOfTwo (F (f x)) (F (g x))) xs e → FirstOf F (flat_map (λ x. f x ∷ g x ∷ []) xs) e
first_two F f g [] e k = k
first_two F f g (x ∷ xs) e (inl (inl k)) = inl k
first_two F f g (x ∷ xs) e (inl (inr k)) = inr (k.0, inl k.1)
first_two F f g (x ∷ xs) e (inr k) = search (rules, first_two F f g xs e k.1)

neither : {A B : Type 0} (F : B → DynError → Type 0) (f g : A → B) (x : A) (other : DynError) → (F (f x) other → ⊥) → (F (g x) other → ⊥) → FirstOfTwo (F (f x)) (F (g x)) other → ⊥
neither F f g x other first second (inl h) = first h
neither F f g x other first second (inr h) = second h.1

two_back : {A B : Type 0} (F : B → DynError → Type 0) (f g : A → B) (xs : List A) (e : DynError) → FirstOf F (flat_map (λ x. f x ∷ g x ∷ []) xs) e → FirstOf (λ x. FirstOfTwo (F (f x)) (F (g x))) xs e
two_back F f g [] e k = k
two_back F f g (x ∷ xs) e (inl k) = inl (inl k)
two_back F f g (x ∷ xs) e (inr (none, inl k)) = inl (inr (none, k))
two_back F f g (x ∷ xs) e (inr (none, inr k)) = inr ((λ other same. neither F f g x other (none other same) (k.0 other same)), two_back F f g xs e k.1)

module _ (shape : Shape) (f : FieldShape) (c : Content) where
  to_field : (e : DynError) → HasItemFault shape f c e → FieldFault shape f c e
  to_field errors.WrongKind k = inr k
  to_field errors.OutOfRange k = k
  to_field (errors.NotUtf8 at) k = k
  to_field errors.Memory k = any_error shape (items_in f c) errors.Memory k
  to_field errors.NoSuchField k = any_error shape (items_in f c) errors.NoSuchField k
  to_field errors.OneofTwice k = any_error shape (items_in f c) errors.OneofTwice k
  to_field errors.DuplicateKey k = absurd (any_error shape (items_in f c) errors.DuplicateKey k)
  to_field errors.TooLong k = any_error shape (items_in f c) errors.TooLong k
  to_field (errors.TooDeep at) k = any_error shape (items_in f c) (errors.TooDeep at) k
  to_field (errors.Wire w) k = any_error shape (items_in f c) (errors.Wire w) k

  module _ (has : HasPresence f.presence c) where
    from_field : (e : DynError) → code_of e < 605 → FieldFault shape f c e → HasItemFault shape f c e
    from_field e early k = grind arith

module _ (shape : Shape) (n : ℕ) (element : Element) (oneof : Option ℕ) (r : Result (Unit {0}) DynError) where
  abbrev with_presence : Presence → FieldShape
  with_presence p = record { number = n; presence = p; element = element; oneof = oneof }

  abbrev TellsField : Presence → Content → Type 0
  TellsField p c = Reports (ItemsFit shape p element c) (FieldFault shape (with_presence p) c) r

  of_items : (p : Presence) (c : Content) (P : Type 0) (F : DynError → Type 0) → HasPresence p c → (P → ItemsFit shape p element c) → ((e : DynError) → F e → HasItemFault shape (with_presence p) c e)
      → ((e : DynError) → HasItemFault shape (with_presence p) c e → F e) → Reports P F r → TellsField p c
  of_items p c P F has right to back h = search (rules, reported_so, to_field, from_field)

  pub reported_list : (packed : Bool) (vs : Vec Value Global) → Reports (AllByRecursion (ItemFits shape element) vs.items) (FirstOf (ElementFault shape element) vs.items) r → TellsField (presences.Repeated packed) (contents.Many vs)
  reported_list packed vs h =
      of_items (presences.Repeated packed) (contents.Many vs) (AllByRecursion (ItemFits shape element) vs.items) (FirstOf (ElementFault shape element) vs.items) tt (λ k. k)
      (first_to (λ (x : Element × Value). ElementFault shape x.0 x.1) (λ (v : Value). (element, v)) vs.items) (first_back (λ (x : Element × Value). ElementFault shape x.0 x.1) (λ (v : Value). (element, v)) vs.items) h

  pub reported_map : (key : Scalar) (es : Vec (Value × Value) Global) → Reports (AllByRecursion (EntryFits shape key element) es.items) (FirstOf (EntryFault shape key element) es.items) r → TellsField (presences.Map key) (contents.Map es)
  reported_map key es h =
      of_items (presences.Map key) (contents.Map es) (AllByRecursion (EntryFits shape key element) es.items) (FirstOf (EntryFault shape key element) es.items) tt (λ k. k)
      (first_two (λ (x : Element × Value). ElementFault shape x.0 x.1) (λ (x : Value × Value). (elements.Scalar key, x.0)) (λ (x : Value × Value). (element, x.1)) es.items)
      (two_back (λ (x : Element × Value). ElementFault shape x.0 x.1) (λ (x : Value × Value). (elements.Scalar key, x.0)) (λ (x : Value × Value). (element, x.1)) es.items) h

module _ (shape : Shape) (n : ℕ) (element : Element) (oneof : Option ℕ) where
  -- a content with right items has no fault but a key twice
  pub items_right : (p : Presence) (c : Content) → ItemsFit shape p element c → HasNoEarlyFault (FieldFault shape (record { number = n; presence = p; element = element; oneof = oneof }) c)
  items_right presences.Implicit (contents.One v) h e early k = ⊎_elim (λ a. item_right shape element v h e early a) (λ b. b.1) (from_field shape (record { number = n; presence = presences.Implicit; element = element; oneof = oneof }) (contents.One v) tt e early k)
  items_right presences.Explicit (contents.One v) h e early k = ⊎_elim (λ a. item_right shape element v h e early a) (λ b. b.1) (from_field shape (record { number = n; presence = presences.Explicit; element = element; oneof = oneof }) (contents.One v) tt e early k)
  items_right (presences.Repeated packed) (contents.Many vs) h e early k =
      none_first (ItemFits shape element) (ElementFault shape element) (item_right shape element) vs.items h e early
      (first_back (λ (x : Element × Value). ElementFault shape x.0 x.1) (λ (v : Value). (element, v)) vs.items e
      (from_field shape (record { number = n; presence = presences.Repeated packed; element = element; oneof = oneof }) (contents.Many vs) tt e early k))
  items_right (presences.Map key) (contents.Map es) h e early k =
      none_first (EntryFits shape key element) (EntryFault shape key element) (entry_right shape key element) es.items h e early
      (two_back (λ (x : Element × Value). ElementFault shape x.0 x.1) (λ (x : Value × Value). (elements.Scalar key, x.0)) (λ (x : Value × Value). (element, x.1)) es.items e
      (from_field shape (record { number = n; presence = presences.Map key; element = element; oneof = oneof }) (contents.Map es) tt e early k))
  items_right presences.Implicit (contents.Many vs) h e early k = absurd h
  items_right presences.Implicit (contents.Map es) h e early k = absurd h
  items_right presences.Explicit (contents.Many vs) h e early k = absurd h
  items_right presences.Explicit (contents.Map es) h e early k = absurd h
  items_right (presences.Repeated packed) (contents.One v) h e early k = absurd h
  items_right (presences.Repeated packed) (contents.Map es) h e early k = absurd h
  items_right (presences.Map key) (contents.One v) h e early k = absurd h
  items_right (presences.Map key) (contents.Many vs) h e early k = absurd h

-- Under a number of a type.

module _ (shape : Shape) (type : TypeId) (n : ℕ) (c : Content) where
  abbrev Fault : DynError → Type 0
  Fault = ContentFault shape type n c

  pub no_such_field : None ≡ field_at (fields shape type) n → IsLowest Fault errors.NoSuchField
  no_such_field is = lowest Fault errors.NoSuchField (sym is) (omega arith) (λ k. k.2) (λ w k. k.2) (λ low k. omega arith) (λ low k. omega arith) (λ low k. omega arith) (λ low at k. omega arith)

  module _ (f : FieldShape) (found : field_at (fields shape type) n ≡ Some f) where
    to_content : (e : DynError) → FieldFault shape f c e → Fault e
    to_content e k = grind arith

    same : (g : FieldShape) → field_at (fields shape type) n ≡ Some g → g ≡ f
    same g there = search rules

    here : (e : DynError) → (g : FieldShape) × (field_at (fields shape type) n ≡ Some g) × FieldFault shape g c e → FieldFault shape f c e
    here e k = subst (λ g. FieldFault shape g c e) (same k.0 k.1) k.2

    from_content : (e : DynError) → Fault e → FieldFault shape f c e
    from_content e k = grind (arith, here)

    pub content_lowest : (e : DynError) → IsLowest (FieldFault shape f c) e → IsLowest Fault e
    content_lowest e h = (to_content e h.0, λ other low k. h.1 other low (from_content other k))

    module _ (items : ItemsFit shape f.presence f.element c) where
      right : HasNoEarlyFault (FieldFault shape f c)
      right = items_right shape f.number f.element f.oneof f.presence c items

      -- none of the faults that a test of items finds
      pub taken_early : HasNoEarlyFault Fault
      taken_early e early k = right e early (from_content e k)

      pub taken_once : (HasKeyTwice c → ⊥) → HasNoFault Fault
      taken_once once e k = search (rules, arith, from_content e k, right)

      pub taken_twice : HasKeyTwice c → IsLowest Fault errors.DuplicateKey
      taken_twice twice = search (rules, arith, to_content, from_content, right)

-- a content that a field takes has none of the faults that a test of items finds
pub takes_early : (shape : Shape) (type : TypeId) (x : ℕ × Content) → TakesContent shape type x → HasNoEarlyFault (ContentFault shape type x.0 x.1)
takes_early shape type x (f, taken) = taken_early shape type x.0 x.1 f taken.found taken.items
