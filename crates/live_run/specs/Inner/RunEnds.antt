-- How a run ends, and what is written of one that asks for a line which isn't read (follows from the definition of what is reached).
use Rattle.std.specs.Prelude.{◌≡◌, ℕ, Option, Some, None, Result, Ok, Err, List, [], ◌++◌}
use Rattle.cluster_io.specs.Streams.{Adds}
use Rattle.cluster_io.specs.declared.sink.WriteFault.{WriteFault}
use Rattle.live_run.specs.declared.line_stop.LineStop.{LineStop}
use Rattle.live_run.specs.declared.line_stop.LineStop.TheVariants as why
use Rattle.live_run.specs.LineCauses.{line_refusal_text}
use Rattle.live_run.specs.HeldAndWritten.{WritesInPart}
use Rattle.live_run.specs.declared.live_end.LiveEnd.{LiveEnd}
use Rattle.live_run.specs.declared.live_end.LiveEnd.TheVariants as end

-- a run ends so whose last text was written, unless the sink failed
abbrev pub end_as : LiveEnd → Result (Unit {0}) WriteFault → LiveEnd
end_as how (Ok done) = how
end_as how (Err fault) = end.WriteFault

-- what a run ends with that asks for a line which isn't read, by why it isn't: `refused LINE CAUSE` is written behind what was held back, or a front of
-- these where the sink failed. Where the source has failed, nothing was held back
abbrev pub EndsLines : List ℕ → Option LineStop → LiveEnd → Option (List ℕ) → Option (List ℕ) → Type 0
EndsLines held (Some (why.Refused n cause)) end.Refused before after = Adds before (held ++ line_refusal_text n cause) after
EndsLines held (Some (why.Refused n cause)) end.WriteFault before after = WritesInPart held (line_refusal_text n cause) before after
EndsLines held (Some why.TooLarge) end.TooLarge before after = Adds before held after
EndsLines held (Some why.TooLarge) end.WriteFault before after = WritesInPart held [] before after
EndsLines held (Some why.ReadFault) end.ReadFault before after = after ≡ before
EndsLines held None end.ReadFault before after = after ≡ before
EndsLines held stop how before after = ⊥
