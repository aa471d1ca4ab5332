-- The fields of a message by rising number, as the program holds them.
use Rattle.std.specs.Prelude.{◌≢◌, ℕ, ◌<◌, List, ◌∷◌, ◌++◌, filter, nat_lt, Vec, vec_len, vec_capacity}
use Rattle.std.specs.List.{AllByRecursion}
use Rattle.std.specs.declared.alloc.Global.{Global}
use Rattle.pg_dyn.specs.declared.message.Content.{Content}

abbrev pub fields_below : {A : Type 0} → ℕ → List (ℕ × A) → List (ℕ × A)
fields_below {A} number fields = filter (λ (f : ℕ × A). nat_lt f.0 number) fields

abbrev pub fields_above : {A : Type 0} → ℕ → List (ℕ × A) → List (ℕ × A)
fields_above {A} number fields = filter (λ (f : ℕ × A). nat_lt number f.0) fields

-- with this content under the number, whatever was there
abbrev pub put_field : {A : Type 0} → ℕ → A → List (ℕ × A) → List (ℕ × A)
put_field number content fields = fields_below number fields ++ (number, content) ∷ fields_above number fields

-- without a content under the number
abbrev pub remove_field : {A : Type 0} → ℕ → List (ℕ × A) → List (ℕ × A)
remove_field number fields = fields_below number fields ++ fields_above number fields

-- a content can be put under the number without memory: one is there, or there is room for one more
abbrev pub HasRoom : ℕ → Vec (ℕ × Content) Global → Type 0
HasRoom number fields = AllByRecursion (λ (f : ℕ × Content). f.0 ≢ number) fields.items → vec_len fields < vec_capacity fields
