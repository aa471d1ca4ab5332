-- Where a name is declared, through the index.
use Rattle.std.proofs.Common.{◌≡◌, ◌∙◌, ℕ, zero, suc, Bool, true, false, cond, String, string_bytes, length, IfNone, List, [], ◌∷◌, map, slice_get, take, refl, sym, ap, arith, Option, Some, None, IfSome}
use Rattle.std.proofs.lemmas.Option.{same_Some, slice_get_read}
use Rattle.std.specs.Global.{Global}
use Rattle.std.specs.HashMap.{get_by_text}
use Rattle.std.specs.List.{IsAmong}
use Rattle.std.specs.Map.{lookup}
use Rattle.std.specs.Str.{bytes_eq}
use Rattle.pg_lex.specs.Place.{line, column}
use Rattle.pg_link.specs.declared.names.index.Index as indexes
use Rattle.pg_link.specs.declared.names.Named as nameds
use Rattle.pg_link.specs.inner.Index.{files_of}
use Rattle.pg_link.specs.inner.Settled.{HasFirst, IsFirstPlace}
use Rattle.pg_link.specs.Linked.{IsDeclaredAt, IsDeclaredNowhere}
use Rattle.pg_link.specs.names.Names.{Text}
use Rattle.pg_link.specs.names.Standing.{Bearer, Standing, all_standings, bearers, first_of, standing}
use Rattle.pg_link.specs.inner.Indexed.{Lists, view}
use Rattle.pg_link.specs.walk.Walk.{Entry, path_of}
use Rattle.pg_link.proofs.lemmas.names.HeldNames.{among_filter, filter_among, none_bears, standing_there, stands_of}
use Rattle.pg_link.proofs.lemmas.names.FileMarks.{none_some}
use Rattle.pg_link.proofs.lemmas.names.VisibleLaws.{first_among}
use Rattle.pg_link.proofs.lemmas.names.StandingLaws.{none_held, one_held}
use Rattle.pg_link.proofs.lemmas.names.SameBytes.{same_text, text_same}
use Rattle.pg_link.proofs.lemmas.uses.UseFaultLaws.{among_at}

pub if_some : {X : Type 0} (P Q : X → Type 0) (o : Option X) → ((x : X) → P x → Q x) → IfSome o P → IfSome o Q
if_some P Q o more is = grind arith

-- who bears a name first
pub record FirstBearer (bs : List Standing) (b : Bearer) : Type 0 where
  pub standing : Standing
  pub among : IsAmong bs standing
  pub is_at : b.at ≡ standing.declared.at
  pub others : List ℕ
  pub files : b.files ≡ standing.file ∷ others

first_bearer : (bs : List Standing) (b : Bearer) → first_of bs ≡ Some b → FirstBearer bs b
first_bearer [] b is = absurd (none_some b is)
first_bearer (s ∷ more) b is =
    let same = same_Some _ b is in
    record {
      standing = s;
      among = first_among s more;
      is_at = ap (λ (x : Bearer). x.at) (sym same);
      others = map (λ (t : Standing). t.file) more;
      files = ap (λ (x : Bearer). x.files) (sym same);
    }

first_same : (a b : ℕ) (xs ys : List ℕ) → a ∷ xs ≡ b ∷ ys → a ≡ b
first_same a b xs ys is = same_Some a b (ap (λ (l : List ℕ). slice_get l 0) is)

pub declared_there : (index : indexes.Index) (es : List Entry) (full : Text) (name : Text) (n : nameds.Named) (path : Text) (l c : ℕ) → Lists index (all_standings es)
    → get_by_text index.names name ≡ Some n → name ≡ 46 ∷ full → IsFirstPlace es (files_of n) n.at path l c → IsDeclaredAt es full path l c
declared_there index es full name n path l c lists held dotted p =
    let b = first_bearer (bearers (all_standings es) name) (view n) (one_held index.names (all_standings es) name n lists.0 held) in
    let f = filter_among (λ (s : Standing). bytes_eq name s.declared.name) (all_standings es) b.standing b.among in
    let s = stands_of 0 es b.standing f.0 in
    let number : s.number ≡ p.number =
    sym (s.is_file ∙ omega arith) ∙ first_same b.standing.file p.number b.others p.others (sym b.files ∙ p.is_first) in
    let same : s.entry ≡ p.file = same_Some s.entry p.file (sym s.is_there ∙ (ap (slice_get es) number ∙ p.is_there)) in
    record {
      file = s.entry;
      declared = b.standing.declared;
      is_there = among_at es s.number s.entry s.is_there;
      declares = s.declares;
      is_named = sym (same_text name b.standing.declared.name f.1) ∙ dotted;
      is_path = p.is_path ∙ ap (λ (e : Entry). path_of e) (sym same);
      is_line = p.is_line ∙ (ap (λ (e : Entry). line (take n.at e.1.bytes.items)) (sym same) ∙ ap (λ (k : ℕ). line (take k s.entry.1.bytes.items)) b.is_at);
      is_column = p.is_column ∙ (ap (λ (e : Entry). column (take n.at e.1.bytes.items)) (sym same) ∙ ap (λ (k : ℕ). column (take k s.entry.1.bytes.items)) b.is_at);
    }

-- ---- none

pub record EntryOf (es : List (String Global × nameds.Named)) (full : Text) (n : nameds.Named) : Type 0 where
  pub number : ℕ
  pub name : String Global
  pub is_there : slice_get es number ≡ Some (name, n)
  pub is_named : full ≡ string_bytes name

entry_by : (full : Text) (e : String Global × nameds.Named) (es : List (String Global × nameds.Named)) (n : nameds.Named) (b : Bool) → bytes_eq full (string_bytes e.0) ≡ b
    → (lookup (λ (k : String Global). bytes_eq full (string_bytes k)) es ≡ Some n → EntryOf es full n)
    → cond b (Some e.1) (lookup (λ (k : String Global). bytes_eq full (string_bytes k)) es) ≡ Some n → EntryOf (e ∷ es) full n
entry_by full e es n true same rest is =
    record { number = zero; name = e.0; is_there = ap (λ (m : nameds.Named). Some (e.0, m)) (same_Some e.1 n is); is_named = same_text full (string_bytes e.0) same }
entry_by full e es n false same rest is =
    let h = rest is in
    record { number = suc h.number; name = h.name; is_there = h.is_there; is_named = h.is_named }

entry_of : (full : Text) (es : List (String Global × nameds.Named)) (n : nameds.Named) → lookup (λ (k : String Global). bytes_eq full (string_bytes k)) es ≡ Some n → EntryOf es full n
entry_of full [] n is = absurd (none_some n is)
entry_of full (e ∷ es) n is = entry_by full e es n (bytes_eq full (string_bytes e.0)) refl (entry_of full es n) is

absent_by : (index : indexes.Index) (es : List Entry) (full : Text) (s : Standing) (o : Option nameds.Named) → get_by_text index.names (46 ∷ full) ≡ o → Lists index (all_standings es)
    → ((k : ℕ) (name : String Global) (n : nameds.Named) → slice_get index.names.entries k ≡ Some (name, n) → string_bytes name ≡ 46 ∷ full → ⊥)
    → IsAmong (bearers (all_standings es) (46 ∷ full)) s → ⊥
absent_by index es full s None is lists none among = none_bears (bearers (all_standings es) (46 ∷ full)) s (none_held index.names (all_standings es) (46 ∷ full) lists.0 is) among
absent_by index es full s (Some n) is lists none among =
    let e = entry_of (46 ∷ full) index.names.entries n is in
    none e.number e.name n e.is_there (sym e.is_named)

pub declared_nowhere : (index : indexes.Index) (es : List Entry) (full : Text) → Lists index (all_standings es)
    → ((k : ℕ) (name : String Global) (n : nameds.Named) → slice_get index.names.entries k ≡ Some (name, n) → string_bytes name ≡ 46 ∷ full → ⊥)
    → IsDeclaredNowhere es full
declared_nowhere index es full lists none = λ file d among has named.
    let i : ℕ = among.0 in
    let at : slice_get es i ≡ Some file = slice_get_read es (length es) i file refl among.1.0 among.1.1 in
    let there = standing_there 0 es i i file d (omega arith) at has in
    absent_by index es full (standing i d) (get_by_text index.names (46 ∷ full)) refl lists none
    (among_filter (λ (s : Standing). bytes_eq (46 ∷ full) s.declared.name) (all_standings es) (standing i d) there (text_same (46 ∷ full) d.name (sym named)))

-- what bears a name has a first file
pub has_first : (index : indexes.Index) (es : List Entry) (name : Text) (n : nameds.Named) → Lists index (all_standings es) → get_by_text index.names name ≡ Some n
    → HasFirst es (files_of n)
has_first index es name n lists held =
    let b = first_bearer (bearers (all_standings es) name) (view n) (one_held index.names (all_standings es) name n lists.0 held) in
    let f = filter_among (λ (s : Standing). bytes_eq name s.declared.name) (all_standings es) b.standing b.among in
    let s = stands_of 0 es b.standing f.0 in
    record {
      number = b.standing.file;
      others = b.others;
      file = s.entry;
      is_first = b.files;
      is_there = ap (slice_get es) (s.is_file ∙ omega arith) ∙ s.is_there;
    }

pub if_none : {X : Type 0} (P Q : Type 0) (o : Option X) → (P → Q) → IfNone o P → IfNone o Q
if_none P Q o more is = grind arith
