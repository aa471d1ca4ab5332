-- Reading the heading of a certificate.
use Rattle.std.proofs.Common.{◌≡◌, ℕ, List, ◌++◌, slice_index, Option, Some, refl, ap, sym, ◌∙◌, arith}
use Rattle.pg_dyn.specs.declared.view_name.ViewName.{ViewName}
use Rattle.pg_dyn.specs.declared.view_name.ViewName.TheVariants as views
use Rattle.pg_cert.specs.declared.heading.Heading.{Heading}
use Rattle.pg_cert.specs.declared.heading.Heading.TheVariants as headings
use Rattle.pg_cert.specs.inner.Reading.{front}
use Rattle.pg_cert.proofs.Fronts.{same_after}

-- the versions differ in the byte after the first word
versions_apart : (view : ViewName) (r s : List ℕ) → front headings.First ++ r ≡ front (headings.Second view) ++ s → ⊥
versions_apart views.Numbers r s is = let bad : ◌≡◌ {A = ℕ} 49 50 = ap (λ t. slice_index t 22) is in omega arith
versions_apart views.Names r s is = let bad : ◌≡◌ {A = ℕ} 49 50 = ap (λ t. slice_index t 22) is in omega arith

-- the views in the second byte of their names
views_apart : (r s : List ℕ) → front (headings.Second views.Numbers) ++ r ≡ front (headings.Second views.Names) ++ s → ⊥
views_apart r s is = let bad : ◌≡◌ {A = ℕ} 117 97 = ap (λ t. slice_index t 30) is in omega arith

-- a string has one heading
pub same_heading : (h k : Heading) (r s : List ℕ) → front h ++ r ≡ front k ++ s → (h ≡ k) × (r ≡ s)
same_heading headings.First headings.First r s is = (refl, same_after (front headings.First) r s is)
same_heading headings.First (headings.Second view) r s is = absurd (versions_apart view r s is)
same_heading (headings.Second view) headings.First r s is = absurd (versions_apart view s r (sym is))
same_heading (headings.Second views.Numbers) (headings.Second views.Numbers) r s is = (refl, same_after (front (headings.Second views.Numbers)) r s is)
same_heading (headings.Second views.Numbers) (headings.Second views.Names) r s is = absurd (views_apart r s is)
same_heading (headings.Second views.Names) (headings.Second views.Numbers) r s is = absurd (views_apart s r (sym is))
same_heading (headings.Second views.Names) (headings.Second views.Names) r s is = (refl, same_after (front (headings.Second views.Names)) r s is)

-- what a string of that heading is read as
abbrev pub IsReadAs : Heading → List ℕ → Option (Heading × List ℕ) → Type 0
IsReadAs heading text found = (rest : List ℕ) → text ≡ front heading ++ rest → found ≡ Some (heading, rest)

module _ (text : List ℕ) (found : Option (Heading × List ℕ)) where
  -- read with one heading, it has no other
  pub read_as : (read heading : Heading) (rest : List ℕ) → text ≡ front read ++ rest → found ≡ Some (read, rest) → IsReadAs heading text found
  read_as read heading rest is made other spelled =
      let same = same_heading read heading rest other (sym is ∙ spelled) in
      let heading_is = same.0 in let rest_is = same.1 in
      made ∙ (λ j. Some (heading_is j, rest_is j))

  -- with one of the views in version 2
  pub read_second : ((rest : List ℕ) → text ≡ front (headings.Second views.Numbers) ++ rest → ⊥) → IsReadAs (headings.Second views.Names) text found → (view : ViewName) → IsReadAs (headings.Second view) text found
  read_second none names views.Numbers rest is = absurd (none rest is)
  read_second none names views.Names rest is = names rest is

  -- with one of the versions
  pub read_heading : ((rest : List ℕ) → text ≡ front headings.First ++ rest → ⊥) → ((view : ViewName) → IsReadAs (headings.Second view) text found) → (heading : Heading) → IsReadAs heading text found
  read_heading none second headings.First rest is = absurd (none rest is)
  read_heading none second (headings.Second view) rest is = second view rest is
