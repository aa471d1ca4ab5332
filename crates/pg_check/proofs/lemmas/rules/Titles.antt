-- Names with their offsets, one after the other.
use Rattle.std.proofs.Common.{◌≡◌, ℕ, ◌+◌, ◌<◌, Bool, true, false, List, [], ◌∷◌, ◌++◌, length, map, take, drop, get_or, Option, Some, sym, ◌∙◌, ap, subst, rules}
use Rattle.std.specs.List.{list_any}
use Rattle.std.specs.String.{string_bytes}
use Rattle.std.proofs.lemmas.List.{get_or-map, length-map, map_more}
use Rattle.pg_schema.specs.rules.TextSets.{is_among}
use Rattle.pg_check.specs.declared.rules.names.Titled.{Titled}
use Rattle.pg_check.specs.inner.NameFaults.{at, text_of, titled}
use Rattle.pg_check.specs.rules.Names.{is_same}
use Rattle.pg_check.specs.inner.NumberFaults.{first_again}
use Rattle.pg_check.proofs.lemmas.rules.FirstLaws.{again_more, again_found}
use Rattle.pg_check.proofs.lemmas.rules.TextSets.{same_among}

named_at : (texts : List Titled) (i : ℕ) (x : Titled) → i < length texts → x ≡ get_or texts i x → get_or (map titled texts) i (titled x) ≡ titled x
named_at texts i x h is = get_or-map titled texts i x (titled x) h ∙ ap titled (sym is)

within : (texts : List Titled) (i : ℕ) → i < length texts → i < length (map titled texts)
within texts i h = subst (λ n. i < n) (sym (length-map texts titled)) h

among_at : (texts : List Titled) (i : ℕ) (x : Titled) (b : Bool) → i < length texts → x ≡ get_or texts i x → is_among (map text_of (take i (map titled texts))) (string_bytes x.text) ≡ b
    → list_any (is_same (get_or (map titled texts) i (titled x))) (take i (map titled texts)) ≡ b
among_at texts i x b h is e = search (rules, named_at, same_among)

pub title_found : (texts : List Titled) (i : ℕ) (x : Titled) (whole : Option ℕ) → i < length texts → x ≡ get_or texts i x → is_among (map text_of (take i (map titled texts))) (string_bytes x.text) ≡ true
    → first_again is_same at (take i (map titled texts)) (drop i (map titled texts)) ≡ whole → Some x.at ≡ whole
title_found texts i x whole h is old left =
    ap (λ n. Some (at n)) (sym (named_at texts i x h is))
    ∙ again_found is_same at (map titled texts) i (titled x) whole (within texts i h) (among_at texts i x true h is old) left

pub title_left : (texts : List Titled) (i : ℕ) (x : Titled) (whole : Option ℕ) → i < length texts → x ≡ get_or texts i x → is_among (map text_of (take i (map titled texts))) (string_bytes x.text) ≡ false
    → first_again is_same at (take i (map titled texts)) (drop i (map titled texts)) ≡ whole → first_again is_same at (take (i + 1) (map titled texts)) (drop (i + 1) (map titled texts)) ≡ whole
title_left texts i x whole h is new left =
    again_more is_same at (map titled texts) i (titled x) whole (within texts i h) (among_at texts i x false h is new) left

pub titles_step : (texts : List Titled) (i : ℕ) (x : Titled) (key : List ℕ) → i < length texts → x ≡ get_or texts i x → key ≡ string_bytes x.text
    → map text_of (take (i + 1) (map titled texts)) ≡ map text_of (take i (map titled texts)) ++ key ∷ []
titles_step texts i x key h is same =
    map_more text_of (map titled texts) i (titled x) (within texts i h)
    ∙ (ap (λ n. map text_of (take i (map titled texts)) ++ text_of n ∷ []) (named_at texts i x h is)
    ∙ ap (λ k. map text_of (take i (map titled texts)) ++ k ∷ []) (sym same))
