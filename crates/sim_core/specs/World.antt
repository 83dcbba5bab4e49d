-- What is written by the word `world`.
use Rattle.std.specs.Prelude.{ℕ, List}
use Rattle.input_reading.specs.declared.input.reading.Input.{Input}
use Rattle.simulated.specs.WorldTexts.{IsWorldText}

-- the text is that of the run of the simulated cluster of this number, for the cluster and the first journal that the input tells
abbrev pub IsWorldOf : ℕ → Input → List ℕ → Type 0
IsWorldOf number whole text = IsWorldText whole.head.cluster whole.head.journal number text
