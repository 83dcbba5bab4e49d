-- How a word looks.
use Rattle.std.specs.Prelude.{ℕ, nat_lt, ◌==◌, ◌+◌, ◌-◌, if◌then◌else◌, List, length, take, drop, Option, Some, None}
use Rattle.std.specs.List.{position_or_len}
use Rattle.std.specs.Option.{option_map}
use Rattle.crm_lex.specs.Names.{is}

-- what stands after a text with which the word begins
abbrev pub after : List ℕ → List ℕ → Option (List ℕ)
after text word = if is (take (length text) word) text then Some (drop (length text) word) else None

-- what stands before a text in which the word ends
abbrev pub before : List ℕ → List ℕ → Option (List ℕ)
before text word = if is (drop (length word - length text) word) text then Some (take (length word - length text) word) else None

-- where the first such byte of the word is
abbrev pub byte_place : ℕ → List ℕ → Option ℕ
byte_place byte word =
    let place = position_or_len (λ b. b == byte) word in if nat_lt place (length word) then Some place else None

-- what stands before and after the first such byte of the word
abbrev pub cut_at : ℕ → List ℕ → Option (List ℕ × List ℕ)
cut_at byte word = option_map (λ place. (take place word, drop (place + 1) word)) (byte_place byte word)
