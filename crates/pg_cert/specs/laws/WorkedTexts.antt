-- Small certificates, spelled by hand, and strings that certify nothing.
use Rattle.std.specs.Prelude.{◌≡◌, ℕ, List, [], ◌∷◌, map, codes, Some}
use Rattle.std.specs.String.{string_bytes}
use Rattle.pg_schema.specs.declared.parts.message_type.MessageType.{MessageType}
use Rattle.pg_schema.specs.declared.parts.Parts.{Parts}
use Rattle.pg_cert.specs.Certificate.{Claim}
use Rattle.pg_cert.specs.Text.{Certifies}
use Rattle.pg_cert.specs.laws.Worked.{by_names, child_witness, in_child, inner, one_renamed, outer, to_unsigned, unchanged}

-- the full names of a schema's message types, in their order
abbrev pub AreNamed : List (List ℕ) → Parts → Type 0
AreNamed names parts = map (λ (t : MessageType). string_bytes t.name) parts.types.items ≡ names

-- the string certifies the claim, of all schemas whose types have these names
abbrev pub IsTextOf : List (List ℕ) → Claim → List ℕ → Type 0
IsTextOf names claim text = (old new : Parts) → AreNamed names old → AreNamed names new → Certifies old new text claim

-- the string certifies another claim, if any
abbrev pub IsNotTextOf : List (List ℕ) → Claim → List ℕ → Type 0
IsNotTextOf names claim text =
    (old new : Parts) → AreNamed names old → AreNamed names new → ¬ (Certifies old new text claim)

-- the string certifies no claim of any schemas
abbrev pub IsNoText : List ℕ → Type 0
IsNoText text = (old new : Parts) (claim : Claim) → ¬ (Certifies old new text claim)

abbrev pub only_m : List (List ℕ)
only_m = codes "M" ∷ []

abbrev pub only_n : List (List ℕ)
only_n = codes "N" ∷ []

-- the types of a message in a message
abbrev pub m_and_n : List (List ℕ)
m_and_n = codes "M" ∷ codes "N" ∷ []

pub record WorkedTexts : Type 0 where
  pub unchanged_field : IsTextOf only_m unchanged
      (codes "protogate-certificate 1\nroot M M\npair M M none\nwitness none\nend\n")
  pub int32_to_uint32 : IsTextOf only_m (to_unsigned (Some 11))
      (codes "protogate-certificate 1\nroot M M\npair M M 11\nwitness 08ffffffffffffffffff01\nend\n")
  pub child_breaks : IsTextOf m_and_n (in_child (outer ∷ inner ∷ []) (Some child_witness))
      (codes "protogate-certificate 1\nroot N N\npair N N 8\npair M M 6\nwitness 1206088080808008\nend\n")
  pub tree_unchanged : IsTextOf only_n unchanged
      (codes "protogate-certificate 1\nroot N N\npair N N none\nwitness none\nend\n")
  -- the second version, under either view
  pub second_version : IsTextOf only_m unchanged
      (codes "protogate-certificate 2\nview numbers\nroot M M\npair M M none\nwitness none\nend\n")
  pub second_by_names : IsTextOf only_m (by_names unchanged)
      (codes "protogate-certificate 2\nview names\nroot M M\npair M M none\nwitness none\nend\n")
  pub renamed_number : IsTextOf only_m one_renamed
      (codes "protogate-certificate 2\nview names\nroot M M\npair M M 2\nwitness 0801\nend\n")
  -- one line is wrong
  pub another_bound : IsNotTextOf only_m (to_unsigned (Some 11))
      (codes "protogate-certificate 1\nroot M M\npair M M 12\nwitness 08ffffffffffffffffff01\nend\n")
  pub another_witness : IsNotTextOf only_m (to_unsigned (Some 11))
      (codes "protogate-certificate 1\nroot M M\npair M M 11\nwitness 08ffffffffffffffffff02\nend\n")
  pub another_order : IsNotTextOf m_and_n (in_child (outer ∷ inner ∷ []) (Some child_witness))
      (codes "protogate-certificate 1\nroot N N\npair M M 6\npair N N 8\nwitness 1206088080808008\nend\n")
  -- the first version means the view by numbers, and the second names its view
  pub names_in_first : IsNotTextOf only_m (by_names unchanged)
      (codes "protogate-certificate 1\nroot M M\npair M M none\nwitness none\nend\n")
  pub another_view : IsNotTextOf only_m unchanged
      (codes "protogate-certificate 2\nview names\nroot M M\npair M M none\nwitness none\nend\n")
  pub no_view : IsNoText (codes "protogate-certificate 2\nroot M M\npair M M none\nwitness none\nend\n")
  pub view_in_first : IsNoText
      (codes "protogate-certificate 1\nview numbers\nroot M M\npair M M none\nwitness none\nend\n")
  pub another_version : IsNoText
      (codes "protogate-certificate 3\nview numbers\nroot M M\npair M M none\nwitness none\nend\n")
  pub no_root : IsNoText (codes "protogate-certificate 1\npair M M none\nwitness none\nend\n")
  pub no_end : IsNoText (codes "protogate-certificate 1\nroot M M\npair M M none\nwitness none\n")
  pub no_line : IsNoText []
