-- What clap's getters read, by its matches.
use Rattle.std.proofs.Common.{◌≡◌, ◌≢◌, ◌∙◌, List, [], ◌∷◌, Option, Some, None, refl, sym, ap₂, unwrap_or, option_map}
use Rattle.clap.specs.Kinds.{IsAmong, Kinds}
use Rattle.clap.specs.Words.{Row, Text, subcommand_name_of, subcommand_rows_of}
use Rattle.clap.specs.declared.ArgMatches.{ArgMatches}
use Rattle.clap.specs.declared.ArgMatches.TheViews.{out-ArgMatches}
use Rattle.clap.specs.declared.error.ErrorKind.{ErrorKind}

pub apply-unwrap_or : {A B : Type 0} (f : A → B) (o : Option A) (d : A) → f (unwrap_or o d) ≡ unwrap_or (option_map f o) (f d)
apply-unwrap_or f None d = refl
apply-unwrap_or f (Some x) d = refl

-- a pair that may be there, by its halves
pub halves : {X Y : Type 0} (o : Option (X × Y)) (x : X) (y : Y) → option_map (λ p. p.0) o ≡ Some x → option_map (λ p. p.1) o ≡ Some y → o ≡ Some (x, y)
halves None x y first second = cc
halves (Some p) x y first second =
    let here : p.0 ≡ x = cc in
    let there : p.1 ≡ y = cc in
    ap₂ (λ a b. Some (a, b)) here there

-- a list with a kind in it isn't empty
pub some_kinds : (kind : ErrorKind) (kinds : Kinds) → IsAmong kind kinds → kinds ≢ []
some_kinds kind [] among none = among
some_kinds kind (k ∷ kinds) among none = cc

first_of_pair : {X Y Z : Type 0} (f : X → Y) (g : X → Z) (o : Option X) → option_map f o ≡ option_map (λ (p : Y × Z). p.0) (option_map (λ x. (f x, g x)) o)
first_of_pair f g None = refl
first_of_pair f g (Some x) = refl

-- the name and the rows of the subcommand that a parse entered, as the getter gives them
pub subcommand_rows_of-Some : (m : ArgMatches) (name : Text) (rows : List Row) → subcommand_name_of m ≡ Some name
    → option_map (λ p. p.1) (subcommand_rows_of m) ≡ Some rows → subcommand_rows_of m ≡ Some (name, rows)
subcommand_rows_of-Some m name rows named below =
    halves (subcommand_rows_of m) name rows (sym (first_of_pair _ _ (out-ArgMatches m).subcommand) ∙ named) below
