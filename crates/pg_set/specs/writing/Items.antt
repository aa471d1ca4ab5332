-- Parts of a message by kind, as the rows of a descriptor's table need them.
use Rattle.std.specs.Prelude.{ℕ, ℤ, pos, Bool, true, false, List, [], ◌∷◌, map, Option, Some, None}
use Rattle.pg_dyn.specs.message.Message.{Int, Bytes, Item, Plain, Msg, Part, message_from}

-- what is in a message: parts by rising number
abbrev pub Items : Type 0
Items = List (Part Item)

abbrev pub item : ℕ → Item → Part Item
item number it = record { number = number; key = None; item = it }

abbrev pub text : ℕ → List ℕ → Items
text number bytes = item number (Plain (Bytes bytes)) ∷ []

abbrev pub texts : ℕ → List (List ℕ) → Items
texts number list = map (λ bytes. item number (Plain (Bytes bytes))) list

abbrev pub whole : ℕ → ℤ → Items
whole number n = item number (Plain (Int n)) ∷ []

-- numbers, types, labels and indices that aren't negative
abbrev pub count : ℕ → ℕ → Items
count number n = whole number (pos n)

abbrev pub counts : ℕ → List ℕ → Items
counts number list = map (λ n. item number (Plain (Int (pos n)))) list

abbrev pub flag : ℕ → Bool → Items
flag number true = count number 1
flag number false = count number 0

-- a mark that is written where it is true
abbrev pub mark : ℕ → Bool → Items
mark number true = flag number true
mark number false = []

-- an option as stated, also false
abbrev pub stated : ℕ → Option Bool → Items
stated number (Some b) = flag number b
stated number None = []

-- a string where it isn't empty
abbrev pub filled : ℕ → List ℕ → Items
filled number [] = []
filled number (byte ∷ bytes) = text number (byte ∷ bytes)

abbrev pub child : ℕ → Items → Items
child number parts = item number (Msg (message_from parts [])) ∷ []

abbrev pub children : ℕ → List Items → Items
children number list = map (λ parts. item number (Msg (message_from parts []))) list

-- options, where one is stated
abbrev pub options : ℕ → Items → Items
options number [] = []
options number (p ∷ ps) = child number (p ∷ ps)

-- a string, where there is one
abbrev pub maybe_text : ℕ → Option (List ℕ) → Items
maybe_text number (Some bytes) = text number bytes
maybe_text number None = []

-- an index, where there is one
abbrev pub maybe_count : ℕ → Option ℕ → Items
maybe_count number (Some n) = count number n
maybe_count number None = []
