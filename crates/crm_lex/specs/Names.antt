-- What a name is, and when a word is a text.
use Rattle.std.specs.Prelude.{ℕ, nat_eq, nat_le, ◌==◌, ◌&&◌, ◌||◌, Bool, not, List, length}
use Rattle.std.specs.Cmp.Lexicographic.{pointwise}
use Rattle.std.specs.List.{list_all}

-- two texts are the same, byte by byte
abbrev pub is : List ℕ → List ℕ → Bool
is word text = pointwise nat_eq word text

-- an ASCII letter or digit, `_`, `-` or `.`
abbrev pub is_name_byte : ℕ → Bool
is_name_byte b =
    nat_le 97 b && nat_le b 122 || nat_le 65 b && nat_le b 90 || nat_le 48 b && nat_le b 57 || b == 95 || b == 45 || b == 46

-- the name of a node, a resource or a rule: 1 to 256 such bytes (rule of this project)
abbrev pub is_name : List ℕ → Bool
is_name word = not (length word == 0) && nat_le (length word) 256 && list_all is_name_byte word
