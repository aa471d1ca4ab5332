-- What setting the contents of a choice makes: its message.
use Rattle.std.proofs.Common.{◌≡◌, ℕ, ◌<◌, List, [], ◌∷◌, map, Bool, true, false, nat_lt, if◌then◌else◌, Option, Some, None, option_map, ◌⊎◌, inl, inr, ⊎_elim, refl, ap, ap₂, sym, ◌∙◌, subst, append-nil, arith, eqb-true, rules}
use Rattle.std.specs.List.{AllByRecursion}
use Rattle.pg_schema.specs.declared.parts.field.TypeId.{TypeId}
use Rattle.pg_schema.specs.declared.parts.field.Element.{Element}
use Rattle.pg_schema.specs.declared.parts.field.Element.TheVariants as elements
use Rattle.pg_schema.specs.declared.parts.field.Presence.{Presence}
use Rattle.pg_schema.specs.declared.parts.field.Presence.TheVariants as presences
use Rattle.std.proofs.lemmas.Bool.{and_left, and_right, cases_Bool, lt-ltb, le-ltb}
use Rattle.pg_schema.specs.Shape.{Shape, FieldShape, fields, field_at, is_repeated}
use Rattle.pg_schema.specs.ShapeRules.{IsShape, Rising}
use Rattle.pg_dyn.specs.declared.message.Content.{Content}
use Rattle.pg_dyn.specs.declared.message.Content.TheVariants as contents
use Rattle.pg_dyn.specs.declared.message.Value.{Value}
use Rattle.pg_dyn.specs.declared.message.Value.TheVariants as values
use Rattle.pg_dyn.specs.message.Message.{Leaf, Item, Message, Part, is_zero, place_of, places, with_part}
use Rattle.pg_dyn.specs.word.Coding.{form, zero_leaf}
use Rattle.pg_dyn.specs.fitting.Belonging.{LeafFits, IsMessage}
use Rattle.pg_dyn.specs.message.Message as model
use Rattle.pg_dyn.specs.message.Kept.{Kept, ends, type_of, message_of}
use Rattle.pg_dyn.specs.message.KeptParts.{KeptItem, Plain, Msg}
use Rattle.pg_dyn.specs.reading.Content.{same_oneof}
use Rattle.pg_dyn.specs.message.Replacing.{kept_part, kept_onto, kept_from, is_sibling_number, with_content}
use Rattle.pg_dyn.specs.message.Seen.{leaf_of, item_seen, content_seen}
use Rattle.pg_dyn.specs.setting.Setting.{normalized, normalized_by, IsSetTo}
use Rattle.pg_dyn.specs.fitting.Texts.{kept_in}
use Rattle.pg_dyn.proofs.Lists.{each_at, each_weaker, list_any_none}
use Rattle.pg_pairs.specs.declared.choices.case.Case.{Case}
use Rattle.pg_pairs.specs.declared.choices.case.Case.TheVariants as cases
use Rattle.pg_pairs.specs.declared.choices.choice.Choice.{Choice}
use Rattle.pg_pairs.specs.declared.choices.choice.Pair.{Pair}
use Rattle.pg_pairs.specs.views.EnumView.{EnumView}
use Rattle.pg_pairs.specs.views.ViewLaws.{IsEnumView}
use Rattle.pg_pairs.specs.gaps.Gaps.{gap_item}
use Rattle.pg_pairs.specs.choices.Choices.{is_oneof, Table, zero_counts, choices}
use Rattle.pg_pairs.specs.bounds.Covering.{IsAmong}
use Rattle.pg_pairs.specs.bounds.Laws.{ReachedBy}
use Rattle.pg_pairs.specs.witness.Carried.{nonzero_leaf, item_by, least_leaf, least_key, least_part_of, least_part, alone, item_alone, lost_onto, key_alone, carried_field, carried_two, carried_of, carried, field_child, child_of, choice_child}
use Rattle.pg_pairs.specs.witness.CarriedChoices.{ChildGiven, ChildReached}
use Rattle.pg_pairs.specs.inner.CarriedItems.{items_before, entries_before, content_before, content_alone, Puts, value_item}
use Rattle.pg_pairs.proofs.lemmas.witness.carried.CarryContents.{child_there_is}
use Rattle.pg_pairs.proofs.lemmas.witness.LeastContents.{nonzero_is}
use Rattle.pg_pairs.proofs.lemmas.bounds.Messages.{one_found}
use Rattle.pg_pairs.proofs.lemmas.witness.Reached.{choice_known, choices_carried}
use Rattle.pg_dyn.proofs.PublicLaws.{contents_are_seen, fields_are_found, parts_keep_types, siblings_mutual}

-- The parts of a content in a message are those that are seen of it.

value_made : (number : ℕ) (key : Option Leaf) (listed : Bool) (value : Value) (later : Kept) → message_of (kept_part number key (item_seen listed value) later) ≡ with_part number key (value_item value) (message_of later)
value_made number key listed (values.Int n) later = refl
value_made number key listed (values.F32 bits) later = refl
value_made number key listed (values.F64 bits) later = refl
value_made number key listed (values.Text text) later = refl
value_made number key listed (values.Bytes bytes) later = refl
value_made number key listed (values.Msg child) later = refl

items_made : (number : ℕ) (xs : List Value) (later : Kept) → message_of (kept_onto (map (λ value. record { number = number; key = None; item = item_seen true value }) xs) later) ≡ items_before number xs (message_of later)
items_made number [] later = refl
items_made number (value ∷ xs) later = search (rules, items_made number xs later, value_made)

content_made : (number : ℕ) (content : Content) (later : Kept) → message_of (kept_onto (content_seen number content) later) ≡ content_before number content (message_of later)
content_made number (contents.One value) later = value_made number None false value later
content_made number (contents.Many vs) later = items_made number vs.items later
content_made number (contents.Map es) later = entries es.items
  where
    entries : (xs : List (Value × Value)) → message_of (kept_onto (map (λ (e : Value × Value). record { number = number; key = Some (leaf_of e.0); item = item_seen false e.1 }) xs) later) ≡ entries_before number xs (message_of later)
    entries [] = refl
    entries (e ∷ xs) = search (rules, entries xs, value_made)

-- at most one part
abbrev IsShort : {A : Type 0} → List A → Type 0
IsShort [] = Unit {0}
IsShort (p ∷ []) = Unit {0}
IsShort (p ∷ q ∷ ps) = ⊥

kept_short : (e : Element) (ps : List (Part KeptItem)) → IsShort ps → IsShort (map (kept_in e) ps)
kept_short e [] h = tt
kept_short e (p ∷ []) h = tt
kept_short e (p ∷ q ∷ ps) h = absurd h

kept_number : (e : Element) (n : ℕ) (ps : List (Part KeptItem)) → AllByRecursion (λ (p : Part KeptItem). p.number ≡ n) ps → AllByRecursion (λ (p : Part KeptItem). p.number ≡ n) (map (kept_in e) ps)
kept_number e n [] h = tt
kept_number e n (p ∷ ps) h = (h.0, kept_number e n ps h.1)

short_back : {A B : Type 0} (f : A → B) (xs : List A) → IsShort (map f xs) → IsShort xs
short_back f [] h = tt
short_back f (x ∷ []) h = tt
short_back f (x ∷ y ∷ xs) h = absurd h

-- A choice's message has one part, but for two zeros in a list.

abbrev IsSettled : Presence → Message → Type 0
IsSettled p v = (is_repeated p ≡ true) ⊎ IsShort (places v)

either : (p : Presence) (b : Bool) (v w : Message) → IsSettled p v → IsSettled p w → IsSettled p (if b then v else w)
either p true v w h k = h
either p false v w h k = k

alone_short : (number : ℕ) (key : Option Leaf) (item : Item) → IsShort (places (alone number key item))
alone_short number key (model.Plain leaf) = tt
alone_short number key (model.Msg child) = tt

least_short : (number : ℕ) (p : Presence) (e : Element) → IsShort (places (least_part_of number p e (model.ends [])))
least_short number p (elements.Message t) = tt
least_short number p (elements.Scalar s) = tt
least_short number p (elements.Enum s) = tt

item_short : (number : ℕ) (key : Option Leaf) (item : Option Item) → IsShort (places (item_alone number key item))
item_short number key (Some item) = alone_short number key item
item_short number key None = tt

key_short : (number : ℕ) (e : Element) (key : Option Leaf) → IsShort (places (key_alone number e key))
key_short number e (Some key) = alone_short number (Some key) (item_by (λ x. zero_leaf x) e)
key_short number e None = tt

lost_normalized : (number : ℕ) (p q : Presence) (zero : Item) → IsSettled p (lost_onto number p q zero)
lost_normalized number presences.Implicit q zero = inr (alone_short number None zero)
lost_normalized number presences.Explicit q zero = inr (alone_short number None zero)
lost_normalized number (presences.Map k) q zero = inr (alone_short number None zero)
lost_normalized number (presences.Repeated w) q zero = inl refl

carried_normalized : (enum_view : EnumView) (f g : FieldShape) (case : Case) (part : ℕ) (child : Option Message) → IsSettled f.presence (carried_field enum_view f g case part child)
carried_normalized enum_view f g cases.Unlike part child =
    either f.presence (zero_counts f g) _ _ (inr (least_short f.number f.presence f.element)) (inr (alone_short f.number (least_key f.presence) (item_by (λ x. nonzero_leaf x) f.element)))
carried_normalized enum_view f g cases.Gap part child = inr (item_short f.number None (option_map model.Plain (gap_item enum_view (zero_counts f g) f.element g.element)))
carried_normalized enum_view f g cases.Child part child = inr (item_short f.number None (option_map model.Msg child))
carried_normalized enum_view f g cases.List part child = lost_normalized f.number f.presence g.presence (item_by (λ x. zero_leaf x) f.element)
carried_normalized enum_view f g cases.Map part child =
    search (rules, either, key_short, item_short, alone_short)
carried_normalized enum_view f g cases.Oneof part child = inr tt

-- whether the first part is a zero
abbrev first_is_zero : Message → Bool
first_is_zero (model.ends unknown) = false
first_is_zero (model.holds number key leaf later) = is_zero leaf
first_is_zero (model.nests number key child later) = false

module _ (shape : Shape) (type : TypeId) where
  abbrev made : List (Part KeptItem) → Message
  made ps = message_of (kept_from type ps [])

  place_made : (number : ℕ) (key : Option Leaf) (item : KeptItem) (later : Kept) → places (message_of (kept_part number key item later)) ≡ record { number = number; key = key } ∷ places (message_of later)
  place_made number key (Plain listed leaf) later = refl
  place_made number key (Msg listed child) later = refl

  places_made : (ps : List (Part KeptItem)) → places (made ps) ≡ map place_of ps
  places_made [] = refl
  places_made (p ∷ ps) = place_made p.number p.key p.item (kept_from type ps []) ∙ ap (λ xs. place_of p ∷ xs) (places_made ps)

  made_short : (ps : List (Part KeptItem)) (v : Message) → made ps ≡ v → IsShort (places v) → IsShort ps
  made_short ps v is short = short_back place_of ps (subst IsShort (sym (ap places is) ∙ places_made ps) short)

  -- A content that is short or in a list stays as it is where it is set, but for a zero in an implicit field.
  normalized_same : (p : Presence) (ps : List (Part KeptItem)) → IsSettled p (made ps) → (p ≡ presences.Implicit → first_is_zero (made ps) ≡ false) → normalized_by p ps ≡ ps
  normalized_same presences.Implicit ps (inl h) nonzero = absurd (cc)
  normalized_same presences.Implicit ps (inr h) nonzero = implicit ps (made_short ps (made ps) refl h) (nonzero refl)
    where
      item : (number : ℕ) (key : Option Leaf) (x : KeptItem) → first_is_zero (message_of (kept_part number key x (ends type []))) ≡ false → normalized_by presences.Implicit (record { number = number; key = key; item = x } ∷ []) ≡ record { number = number; key = key; item = x } ∷ []
      item number key (Plain listed leaf) zero = rw zero refl
      item number key (Msg listed child) zero = refl

      implicit : (qs : List (Part KeptItem)) → IsShort qs → first_is_zero (made qs) ≡ false → normalized_by presences.Implicit qs ≡ qs
      implicit [] short zero = refl
      implicit (p ∷ []) short zero = item p.number p.key p.item zero
      implicit (p ∷ q ∷ qs) short zero = absurd short
  normalized_same presences.Explicit ps h nonzero = refl
  normalized_same (presences.Repeated w) ps h nonzero = refl
  normalized_same (presences.Map k) ps (inl h) nonzero = absurd (cc)
  normalized_same (presences.Map k) ps (inr h) nonzero = entry ps (made_short ps (made ps) refl h)
    where
      entry : (qs : List (Part KeptItem)) → IsShort qs → normalized_by (presences.Map k) qs ≡ qs
      entry [] short = refl
      entry (p ∷ []) short = refl
      entry (p ∷ q ∷ qs) short = absurd short

  -- an implicit field's leaf isn't zero
  not_zero_at : (number : ℕ) (e : Element) (o : Option ℕ) (leaf : Leaf) → LeafFits (record { number = number; presence = presences.Implicit; element = e; oneof = o }) leaf → is_zero leaf ≡ false
  not_zero_at number (elements.Message t) o leaf fits = absurd fits
  not_zero_at number (elements.Scalar s) o leaf fits = fits.1
  not_zero_at number (elements.Enum e) o leaf fits = fits.1

  message_nonzero : (f : FieldShape) (ps : List (Part KeptItem)) → field_at (fields shape type) f.number ≡ Some f → AllByRecursion (λ (p : Part KeptItem). p.number ≡ f.number) ps → IsMessage shape type (made ps) → f.presence ≡ presences.Implicit → first_is_zero (made ps) ≡ false
  message_nonzero f [] found own m implicit = refl
  message_nonzero f (p ∷ ps) found own m implicit = search (rules, one_found, not_zero_at)

  with_content_empty : (fs : List FieldShape) (f : FieldShape) (qs : List (Part KeptItem)) → with_content fs f qs (ends type []) ≡ kept_from type qs []
  with_content_empty fs f qs = ap (λ x. kept_from type x []) (append-nil qs)

module _ (enum_view : EnumView) (old new : Shape) (table : Table) (law : IsEnumView enum_view) (shape_old : IsShape old) (shape_new : IsShape new) (pair : Pair) (c : Choice) (among : IsAmong c (choices enum_view table old new pair)) where
  -- A choice of one field: its content stays as it is where it is set, and makes the choice's message.
  module _ (single : is_oneof c.case ≡ false) (f g : FieldShape) (found : field_at (fields old pair.old) c.number ≡ Some f) (at : field_at (fields new pair.new) c.number ≡ Some g) (own : f.number ≡ c.number) where
    pub carried_is : (child : Option Message) → carried enum_view old new pair c child ≡ carried_field enum_view f g c.case c.part child
    carried_is child = search rules

    child_is : choice_child old new pair c ≡ field_child f g c.case c.part
    child_is = ap₂ (λ x y. child_of x y c) found at

    -- an implicit field holds no message
    not_implicit : (type : TypeId) → f.element ≡ elements.Message type → f.presence ≡ presences.Implicit → ⊥
    not_implicit type element implicit = search (rules, each_at, fields_are_found)

    -- the content of an implicit field isn't zero
    nonzero : (content : Content) (child : Option Kept) → made old pair.old (content_seen c.number content) ≡ carried_field enum_view f g c.case c.part (option_map message_of child) → ChildGiven old (choice_child old new pair c) child → f.presence ≡ presences.Implicit → first_is_zero (made old pair.old (content_seen c.number content)) ≡ false
    nonzero content child is given implicit = of (field_child f g c.case c.part) child refl is (subst (λ o. ChildGiven old o child) child_is given)
      where
        of : (wanted : Option Pair) (o : Option Kept) → field_child f g c.case c.part ≡ wanted → made old pair.old (content_seen c.number content) ≡ carried_field enum_view f g c.case c.part (option_map message_of o) → ChildGiven old wanted o → first_is_zero (made old pair.old (content_seen c.number content)) ≡ false
        of None None none is given =
            message_nonzero old pair.old f (content_seen c.number content) (ap (field_at (fields old pair.old)) own ∙ found)
            (subst (λ n. AllByRecursion (λ (p : Part KeptItem). p.number ≡ n) (content_seen c.number content)) (sym own) (contents_are_seen.0 c.number content))
            (subst (λ v. ReachedBy enum_view old new pair v c.cost) (carried_is None ∙ sym is)
            (choices_carried enum_view old new table law shape_old shape_new pair c among None (subst (λ o. ChildReached enum_view old new table o None) (sym (child_is ∙ none)) tt))).0.is_message implicit
        of None (Some m) none is given = absurd given
        of (Some p) None some is given = absurd given
        of (Some p) (Some m) some is given = absurd (not_implicit p.old (child_there_is f g c.case c.part p some) implicit)

    pub carried_single : (content : Content) (child : Option Kept) → content_alone c.number content ≡ carried_field enum_view f g c.case c.part (option_map message_of child) → (m : Kept) → IsSetTo old c.number content (ends pair.old []) m → ChildGiven old (choice_child old new pair c) child → message_of m ≡ carried enum_view old new pair c (option_map message_of child)
    carried_single content child is m (f', found', m_is) given =
        let ps = content_seen c.number content in
        let field_is : f' ≡ f = one_found (fields old pair.old) c.number f' f found' found in
        let made_is : made old pair.old ps ≡ carried_field enum_view f g c.case c.part (option_map message_of child) = content_made c.number content (ends pair.old []) ∙ is in
        let stays : normalized f ps ≡ map (kept_in f.element) ps =
        ap (map (kept_in f.element)) (normalized_same old pair.old f.presence ps (subst (IsSettled f.presence) (sym made_is) (carried_normalized enum_view f g c.case c.part (option_map message_of child))) (nonzero content child made_is given)) in
        let m_made : m ≡ kept_from pair.old (map (kept_in f.element) ps) [] =
        m_is ∙ ap (λ x. with_content (fields old pair.old) x (normalized x ps) (ends pair.old [])) field_is
        ∙ ap (λ qs. with_content (fields old pair.old) f qs (ends pair.old [])) stays ∙ with_content_empty old pair.old (fields old pair.old) f (map (kept_in f.element) ps) in
        ap message_of m_made ∙ contents_are_seen.2 f.element ps (ends pair.old []) ∙ made_is ∙ sym (carried_is (option_map message_of child))

-- The least contents of two fields.

least_nonzero : (number : ℕ) (p : Presence) (e : Element) → p ≡ presences.Implicit → first_is_zero (least_part_of number p e (model.ends [])) ≡ false
least_nonzero number p (elements.Message t) implicit = refl
least_nonzero number p (elements.Scalar s) implicit = ap (λ q. is_zero (least_leaf q (elements.Scalar s))) implicit ∙ nonzero_is (form (elements.Scalar s))
least_nonzero number p (elements.Enum s) implicit = ap (λ q. is_zero (least_leaf q (elements.Enum s))) implicit ∙ nonzero_is (form (elements.Enum s))

-- two oneofs that aren't one, the other way round
apart_sym : (a b : Option ℕ) → same_oneof a b ≡ false → same_oneof b a ≡ false
apart_sym a b h = ⊎_elim (λ same. absurd (let yes = siblings_mutual.0 b a same in let no : true ≡ false = sym yes ∙ h in cc)) (λ no. no) (cases_Bool (same_oneof b a))

not_sibling : (fs : List FieldShape) → Rising fs → (f e : FieldShape) → field_at fs f.number ≡ Some f → same_oneof e.oneof f.oneof ≡ false → is_sibling_number fs e f.number ≡ false
not_sibling fs rising f e found apart =
    search (rules, list_any_none, each_weaker, fields_are_found, and_right, one_found, eqb-true, and_left)

module _ (type : TypeId) where
  -- a content set after one part of a lower number that isn't in its oneof
  with_content_behind : (fs : List FieldShape) (e : FieldShape) (number : ℕ) (key : Option Leaf) (item : KeptItem) (qs : List (Part KeptItem)) → is_sibling_number fs e number ≡ false → nat_lt number e.number ≡ true → nat_lt e.number number ≡ false → with_content fs e qs (kept_from type (record { number = number; key = key; item = item } ∷ []) []) ≡ kept_from type (record { number = number; key = key; item = item } ∷ qs) []
  with_content_behind fs e number key (Plain listed leaf) qs sibling below above =
      rw (sibling) (rw (below, above) (ap (λ x. kept_from type (record { number = number; key = key; item = Plain listed leaf } ∷ x) []) (append-nil qs)))
  with_content_behind fs e number key (Msg listed child) qs sibling below above =
      rw (sibling) (rw (below, above) (ap (λ x. kept_from type (record { number = number; key = key; item = Msg listed child } ∷ x) []) (append-nil qs)))

  behind_short : (fs : List FieldShape) (e : FieldShape) (number : ℕ) (ps qs : List (Part KeptItem)) → IsShort ps → AllByRecursion (λ (p : Part KeptItem). p.number ≡ number) ps → is_sibling_number fs e number ≡ false → nat_lt number e.number ≡ true → nat_lt e.number number ≡ false → with_content fs e qs (kept_from type ps []) ≡ kept_onto ps (kept_from type qs [])
  behind_short fs e number [] qs short own sibling below above = ap (λ x. kept_from type x []) (append-nil qs)
  behind_short fs e number (p ∷ []) qs short own sibling below above =
      with_content_behind fs e p.number p.key p.item qs (subst (λ n. is_sibling_number fs e n ≡ false) (sym own.0) sibling) (subst (λ n. nat_lt n e.number ≡ true) (sym own.0) below) (subst (λ n. nat_lt e.number n ≡ false) (sym own.0) above)
  behind_short fs e number (p ∷ q ∷ ps) qs short own sibling below above = absurd short

module _ (enum_view : EnumView) (old new : Shape) (table : Table) (law : IsEnumView enum_view) (shape_old : IsShape old) (shape_new : IsShape new) (pair : Pair) (c : Choice) (among : IsAmong c (choices enum_view table old new pair)) where
  -- the least content of a field stays as it is where it is set
  least_stays : (f : FieldShape) (ps : List (Part KeptItem)) → made old pair.old ps ≡ least_part f (model.ends []) → normalized f ps ≡ map (kept_in f.element) ps
  least_stays f ps is =
      ap (map (kept_in f.element)) (normalized_same old pair.old f.presence ps (inr (subst (λ v. IsShort (places v)) (sym is) (least_short f.number f.presence f.element)))
      (λ implicit. ap first_is_zero is ∙ least_nonzero f.number f.presence f.element implicit))

  pub carried_double : is_oneof c.case ≡ true → (f e g : FieldShape) → field_at (fields old pair.old) c.number ≡ Some f → field_at (fields old pair.old) c.part ≡ Some e → field_at (fields new pair.new) c.number ≡ Some g → f.number ≡ c.number → e.number ≡ c.part → (first second : Content) (child : Option Message) → Puts c.number first (least_part f) → Puts c.part second (least_part e) → (m n : Kept) → IsSetTo old c.number first (ends pair.old []) m → IsSetTo old c.part second m n → message_of n ≡ carried enum_view old new pair c child
  carried_double six f e g found found_e at own own_e first second child puts puts_e m n (f', found', m_is) (e', found_e', n_is) =
      let ps = content_seen c.number first in
      let qs = content_seen c.part second in
      let made_ps : made old pair.old ps ≡ least_part f (model.ends []) = content_made c.number first (ends pair.old []) ∙ puts (model.ends []) in
      let made_qs : made old pair.old qs ≡ least_part e (model.ends []) = content_made c.part second (ends pair.old []) ∙ puts_e (model.ends []) in
      let (below, apart) = (choice_known enum_view law old new shape_old shape_new table pair c among).0 six in
      let rising = (fields_are_found.0 old pair.old shape_old).rising in
      let first_is : f' ≡ f = one_found (fields old pair.old) c.number f' f found' found in
      let m_made : m ≡ kept_from pair.old (map (kept_in f.element) ps) [] =
      m_is ∙ ap (λ x. with_content (fields old pair.old) x (normalized x ps) (ends pair.old [])) first_is
      ∙ ap (λ xs. with_content (fields old pair.old) f xs (ends pair.old [])) (least_stays f ps made_ps) ∙ with_content_empty old pair.old (fields old pair.old) f (map (kept_in f.element) ps) in
      let type_is : type_of m ≡ pair.old = ap type_of m_made ∙ parts_keep_types.0 (map (kept_in f.element) ps) (ends pair.old []) in
      let second_is : e' ≡ e = one_found (fields old pair.old) c.part e' e (ap (λ t. field_at (fields old t) c.part) (sym type_is) ∙ found_e') found_e in
      let not_in : is_sibling_number (fields old pair.old) e c.number ≡ false =
      subst (λ k. is_sibling_number (fields old pair.old) e k ≡ false) own (not_sibling (fields old pair.old) rising f e (ap (field_at (fields old pair.old)) own ∙ found) (apart_sym f.oneof e.oneof (apart f e found found_e))) in
      let less : c.number < e.number = omega (arith, below, own_e) in
      let behind = behind_short pair.old (fields old pair.old) e c.number (map (kept_in f.element) ps) (map (kept_in e.element) qs) (kept_short f.element ps (made_short old pair.old ps (least_part f (model.ends [])) made_ps (least_short f.number f.presence f.element))) (kept_number f.element c.number ps (contents_are_seen.0 c.number first)) not_in (lt-ltb c.number e.number less) (le-ltb e.number c.number (omega (arith, less))) in
      let n_made : n ≡ kept_onto (map (kept_in f.element) ps) (kept_from pair.old (map (kept_in e.element) qs) []) =
      n_is ∙ ap (λ t. with_content (fields old t) e' (normalized e' qs) m) type_is
      ∙ ap (λ x. with_content (fields old pair.old) x (normalized x qs) m) second_is
      ∙ ap₂ (λ xs x. with_content (fields old pair.old) e xs x) (least_stays e qs made_qs) m_made ∙ behind in
      let carried_is : carried enum_view old new pair c child ≡ least_part f (least_part e (model.ends [])) =
      ap₂ (λ x y. carried_of enum_view x y (field_at (fields old pair.old) c.part) c child) found at
      ∙ ap (λ (b : Bool). if b then carried_two f (field_at (fields old pair.old) c.part) else carried_field enum_view f g c.case c.part child) six
      ∙ ap (carried_two f) found_e in
      ap message_of n_made ∙ contents_are_seen.2 f.element ps (kept_from pair.old (map (kept_in e.element) qs) [])
      ∙ content_made c.number first (kept_from pair.old (map (kept_in e.element) qs) []) ∙ puts (made old pair.old (map (kept_in e.element) qs))
      ∙ ap (least_part f) (contents_are_seen.2 e.element qs (ends pair.old []) ∙ made_qs) ∙ sym carried_is
