-- The item of the gap between two like elements is a least one that isn't seen.
use Rattle.std.proofs.Common.{◌≡◌, ℕ, ℤ, ◌^◌, ◌≤◌, Bool, true, false, Option, Some, None, refl, ap, sym, ◌∙◌, subst, rules}
use Rattle.std.proofs.lemmas.Bool.Decides.{Decides-int_eq}
use Rattle.pg_schema.specs.declared.parts.field.EnumId.{EnumId}
use Rattle.pg_schema.specs.declared.parts.field.Scalar.{Scalar}
use Rattle.pg_schema.specs.declared.parts.field.Scalar.TheVariants as scalars
use Rattle.pg_schema.specs.declared.parts.field.Element.{Element}
use Rattle.pg_schema.specs.declared.parts.field.Element.TheVariants as elements
use Rattle.pg_schema.specs.declared.parts.field.Presence.TheVariants as presences
use Rattle.pg_schema.specs.ShapeRules.{PresenceFits}
use Rattle.pg_wire.specs.Words.{IsBetween}
use Rattle.pg_dyn.specs.message.Message.{Leaf, Int, F32, F64, Bytes}
use Rattle.pg_dyn.specs.word.Coding.{form, scalar_form, word_bytes, InRange}
use Rattle.pg_dyn.specs.views.Comparison.{View, numbers}
use Rattle.pg_pairs.specs.declared.gaps.gap_kind.Gap.{Gap}
use Rattle.pg_pairs.specs.declared.gaps.gap_kind.Gap.TheVariants as gaps
use Rattle.pg_pairs.specs.views.EnumView.{EnumView}
use Rattle.pg_pairs.specs.views.ViewLaws.{IsEnumView, Differs, Counts, IsLeastOf, IsShortest}
use Rattle.pg_pairs.specs.gaps.Likeness.{like}
use Rattle.pg_pairs.specs.gaps.Gaps.{body_length, gap, item_named, item_of, gap_item}
use Rattle.pg_pairs.specs.gaps.TrueGaps.{is_alike_read, is_seen, ItemCounts, IsUnseen, IsGapItem, IsTrueOf}
use Rattle.pg_pairs.proofs.lemmas.gaps.Gaps.{gap_table}
use Rattle.pg_dyn.proofs.PublicLaws.{bodies_read_again}

-- no message
abbrev pub IsLeafy : Element → Type 0
IsLeafy (elements.Message t) = ⊥
IsLeafy (elements.Scalar s) = Unit {0}
IsLeafy (elements.Enum e) = Unit {0}

pub implicit_leafy : (e : Element) (o : Option ℕ) → PresenceFits presences.Implicit e o → IsLeafy e
implicit_leafy (elements.Scalar s) o h = tt
implicit_leafy (elements.Enum s) o h = tt
implicit_leafy (elements.Message s) o h = absurd h

pub leafy_like : (e d : Element) → like e d ≡ true → IsLeafy d → IsLeafy e
leafy_like (elements.Message s) (elements.Message t) h leafy = absurd leafy
leafy_like (elements.Message s) (elements.Scalar t) h leafy = absurd (cc)
leafy_like (elements.Message s) (elements.Enum t) h leafy = absurd (cc)
leafy_like (elements.Scalar s) d h leafy = tt
leafy_like (elements.Enum s) d h leafy = tt

-- Elements that are read as these scalars are. Two enums aren't.
record ReadAs (view : View) (old new : Element) (s t : Scalar) : Type 0 where
  old_form : form old ≡ scalar_form s
  seen_same : (item : Leaf) → is_seen view old new item ≡ is_seen numbers (elements.Scalar s) (elements.Scalar t) item

module _ (view : View) (zero : Bool) (old new : Element) (s t : Scalar) (like_them : ReadAs view old new s t) where
  range_as : (item : Leaf) → InRange (form old) item → InRange (scalar_form s) item
  range_as item h = subst (λ f. InRange f item) like_them.old_form h

  unseen_as : (item : Leaf) → IsUnseen view zero old new item → IsUnseen numbers zero (elements.Scalar s) (elements.Scalar t) item
  unseen_as item u = record { in_range = range_as item u.in_range; counts = u.counts; not_seen = sym (like_them.seen_same item) ∙ u.not_seen }

  of_table : (g : Gap) → like (elements.Scalar s) (elements.Scalar t) ≡ true → IsTrueOf s t g → IsGapItem view zero old new (item_of (scalar_form s) g)
  of_table gaps.Unlike is_like h = absurd (cc)
  of_table gaps.None is_like h = λ item range counts. like_them.seen_same item ∙ h.1 zero item (range_as item range) counts
  of_table (gaps.Least length value) is_like h =
      let item = item_named (scalar_form s) value in
      let named : IsGapItem numbers zero (elements.Scalar s) (elements.Scalar t) (Some (item_named (scalar_form s) value)) = h.2 zero in
      record {
        unseen = record {
          in_range = subst (λ f. InRange f item) (sym like_them.old_form) named.unseen.in_range;
          counts = named.unseen.counts;
          not_seen = like_them.seen_same item ∙ named.unseen.not_seen;
        };
        least = λ other u. subst (λ f. body_length f item ≤ body_length f other) (sym like_them.old_form) (named.least other (unseen_as other u));
      }

  gap_as : like (elements.Scalar s) (elements.Scalar t) ≡ true → IsGapItem view zero old new (item_of (scalar_form s) (gap s t))
  gap_as is_like = of_table (gap s t) is_like (gap_table s t)

-- what was read, of a scalar by an enum's reader or the other way round, or of scalars under another view
read_scalar_scalar : (view : View) (s t : Scalar) (item : Leaf) (o : Option Leaf) → is_alike_read view (elements.Scalar s) (elements.Scalar t) item o ≡ is_alike_read numbers (elements.Scalar s) (elements.Scalar t) item o
read_scalar_scalar view s t item (Some read) = refl
read_scalar_scalar view s t item None = refl

read_scalar_enum : (view : View) (s : Scalar) (t : EnumId) (item : Leaf) (o : Option Leaf) → is_alike_read view (elements.Scalar s) (elements.Enum t) item o ≡ is_alike_read numbers (elements.Scalar s) (elements.Scalar scalars.Int32) item o
read_scalar_enum view s t item (Some read) = refl
read_scalar_enum view s t item None = refl

read_enum_scalar : (view : View) (s : EnumId) (t : Scalar) (item : Leaf) (o : Option Leaf) → is_alike_read view (elements.Enum s) (elements.Scalar t) item o ≡ is_alike_read numbers (elements.Scalar scalars.Int32) (elements.Scalar t) item o
read_enum_scalar view s t item (Some read) = refl
read_enum_scalar view s t item None = refl

-- two enums: the law of the enum view
module _ (enum_view : EnumView) (zero : Bool) (s t : EnumId) where
  counts_item : (z : Bool) (n : ℤ) → Counts z n → ItemCounts z (Int n)
  counts_item true n h = h
  counts_item false n h = h

  item_counts : (z : Bool) (n : ℤ) → ItemCounts z (Int n) → Counts z n
  item_counts true n h = h
  item_counts false n h = h

  -- a number in range is read as itself, so it is seen where it is alike
  enum_seen : (n : ℤ) → IsBetween (2 ^ 31) (2 ^ 31) n → is_seen enum_view.alike (elements.Enum s) (elements.Enum t) (Int n) ≡ enum_view.alike s t n
  enum_seen n h =
      ap (is_alike_read enum_view.alike (elements.Enum s) (elements.Enum t) (Int n)) (bodies_read_again (elements.Enum t) (Int n) h).read
      ∙ rw ((Decides-int_eq n n).1 refl)

  enum_unseen : (n : ℤ) → Differs (enum_view.alike s t) zero n → IsUnseen enum_view.alike zero (elements.Enum s) (elements.Enum t) (Int n)
  enum_unseen n d = record { in_range = d.in_range; counts = counts_item zero n d.counts; not_seen = enum_seen n d.in_range ∙ d.not_alike }

  enum_differs : (n : ℤ) → IsUnseen enum_view.alike zero (elements.Enum s) (elements.Enum t) (Int n) → Differs (enum_view.alike s t) zero n
  enum_differs n u = record { in_range = u.in_range; counts = item_counts zero n u.counts; not_alike = sym (enum_seen n u.in_range) ∙ u.not_seen }

  none_item : ((n : ℤ) → Differs (enum_view.alike s t) zero n → ⊥) → IsGapItem enum_view.alike zero (elements.Enum s) (elements.Enum t) None
  none_item none (Int n) range counts = search (rules, enum_differs)
  none_item none (F32 bits) range counts = absurd range
  none_item none (F64 bits) range counts = absurd range
  none_item none (Bytes bytes) range counts = absurd range

  least_item : (n : ℤ) → IsShortest (enum_view.alike s t) zero n → (other : Leaf) → IsUnseen enum_view.alike zero (elements.Enum s) (elements.Enum t) other → body_length (form (elements.Enum s)) (Int n) ≤ body_length (form (elements.Enum s)) other
  unfolding word_bytes
  least_item n h (Int m) u = h.shortest m (enum_differs m u)
  least_item n h (F32 bits) u = absurd u.in_range
  least_item n h (F64 bits) u = absurd u.in_range
  least_item n h (Bytes bytes) u = absurd u.in_range

  enum_gap : IsLeastOf (enum_view.alike s t) zero (enum_view.least s t zero) → IsGapItem enum_view.alike zero (elements.Enum s) (elements.Enum t) (gap_item enum_view zero (elements.Enum s) (elements.Enum t))
  enum_gap h = of (enum_view.least s t zero) refl h
    where
      of : (o : Option ℤ) → enum_view.least s t zero ≡ o → IsLeastOf (enum_view.alike s t) zero o → IsGapItem enum_view.alike zero (elements.Enum s) (elements.Enum t) (gap_item enum_view zero (elements.Enum s) (elements.Enum t))
      of (Some n) e h = rw e (record { unseen = enum_unseen n h.differs; least = least_item n h })
      of None e h = rw e (none_item h)

pub gap_item_is : (enum_view : EnumView) → IsEnumView enum_view → (zero : Bool) (old new : Element) → IsLeafy old → like old new ≡ true → IsGapItem enum_view.alike zero old new (gap_item enum_view zero old new)
gap_item_is enum_view law zero (elements.Message s) new leafy is_like = absurd leafy
gap_item_is enum_view law zero (elements.Scalar s) (elements.Message t) leafy is_like = absurd (cc)
gap_item_is enum_view law zero (elements.Scalar s) (elements.Scalar t) leafy is_like =
    search (rules, gap_as, read_scalar_scalar)
gap_item_is enum_view law zero (elements.Scalar s) (elements.Enum t) leafy is_like =
    search (rules, gap_as, read_scalar_enum)
gap_item_is enum_view law zero (elements.Enum s) (elements.Message t) leafy is_like = absurd (cc)
gap_item_is enum_view law zero (elements.Enum s) (elements.Scalar t) leafy is_like =
    search (rules, gap_as, read_enum_scalar)
gap_item_is enum_view law zero (elements.Enum s) (elements.Enum t) leafy is_like = enum_gap enum_view zero s t (law s t zero)
