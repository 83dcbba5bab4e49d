-- The forms of the words on the command line.
use Rattle.std.specs.Prelude.{ℕ, nat_lt, ◌==◌, ◌&&◌, if◌then◌else◌, Option, Some, None, List, [], ◌∷◌, codes, length, option_map, slice_index}
use Rattle.std.specs.Str.{bytes_eq}
use Rattle.faults.specs.Digits.{number_up_to}
use Rattle.sim_core.specs.declared.words.Command.{Command}
use Rattle.sim_core.specs.declared.words.Command.TheVariants.{Check, Scores, Why, Graph, Survive, Audit, Replay, Gen, World, Help, Version}

-- what one word asks for, or none
abbrev pub word_command : List ℕ → Option Command
word_command word =
    if bytes_eq word (codes "check") then Some Check
    else (if bytes_eq word (codes "scores") then Some Scores
    else (if bytes_eq word (codes "why") then Some Why
    else (if bytes_eq word (codes "graph") then Some Graph
    else (if bytes_eq word (codes "survive") then Some Survive
    else (if bytes_eq word (codes "audit") then Some Audit
    else (if bytes_eq word (codes "replay") then Some Replay
    else (if bytes_eq word (codes "--help") then Some Help
    else (if bytes_eq word (codes "--version") then Some Version else None))))))))

-- the number of a case or of a simulated cluster: without a leading zero, and of 32 bits
abbrev pub case_number : List ℕ → Option ℕ
case_number word = if nat_lt 1 (length word) && slice_index word 0 == 48 then None else number_up_to 4294967295 word

-- what a word with a number asks for, or none
abbrev pub two_words_command : List ℕ → List ℕ → Option Command
two_words_command word other =
    if bytes_eq word (codes "gen") then option_map Gen (case_number other)
    else (if bytes_eq word (codes "world") then option_map World (case_number other) else None)

-- what these words ask for, or none where they are no form
abbrev pub command_of : List (List ℕ) → Option Command
command_of [] = None
command_of (word ∷ []) = word_command word
command_of (word ∷ other ∷ []) = two_words_command word other
command_of (word ∷ other ∷ another ∷ others) = None
