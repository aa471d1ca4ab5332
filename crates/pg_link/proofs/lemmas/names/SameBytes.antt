-- Lists of bytes that are the same, or differ.
use Rattle.std.proofs.Common.{◌≡◌, true, false, true≢false, rules}
use Rattle.std.proofs.lemmas.Slice.Eq.{bytes_eq-Decides}
use Rattle.std.specs.Str.{bytes_eq}
use Rattle.pg_link.specs.names.Names.{Text}

pub same_text : (a b : Text) → bytes_eq a b ≡ true → a ≡ b
same_text a b is = (bytes_eq-Decides a b).0 is

pub text_same : (a b : Text) → a ≡ b → bytes_eq a b ≡ true
text_same a b is = (bytes_eq-Decides a b).1 is

-- they differ either way
pub differ_turned : (a b : Text) → bytes_eq a b ≡ false → bytes_eq b a ≡ false
differ_turned a b other = search (rules, true≢false, text_same, same_text)
