-- The words of the command line: what each reads, and which status and text an input gets with it. Each word has one line in each table.
use Rattle.std.specs.Prelude.{ℕ, Bool, true, false, List}
use Rattle.cases.specs.Case.{case_text}
use Rattle.sim_core.specs.declared.help.TheConstants.{HELP, VERSION}
use Rattle.sim_core.specs.declared.status.Status.{Status}
use Rattle.sim_core.specs.declared.words.Command.{Command}
use Rattle.sim_core.specs.declared.words.Command.TheVariants.{Check, Scores, Why, Graph, Survive, Audit, Replay, Gen, World, Help, Version}
use Rattle.sim_core.specs.Audit.{IsAuditOutput}
use Rattle.sim_core.specs.Check.{IsCheckText}
use Rattle.sim_core.specs.GenSummary.{IsSummaryText}
use Rattle.sim_core.specs.Graph.{IsGraphText}
use Rattle.sim_core.specs.Outputs.{IsOutput}
use Rattle.sim_core.specs.OwnText.{IsOwnText}
use Rattle.sim_core.specs.Replay.{IsReplayOutput}
use Rattle.sim_core.specs.Scores.{IsScoresText}
use Rattle.sim_core.specs.Survive.{IsSurviveText}
use Rattle.sim_core.specs.Why.{IsWhyOf}
use Rattle.sim_core.specs.World.{IsWorldOf}

-- what a word reads: nothing, an input to its end before it writes, or line by line while it writes
pub data Intake : Type 0 where
  nothing : Intake
  whole_input : Intake
  live : Intake

abbrev pub intake : Command → Intake
intake Check = whole_input
intake Scores = whole_input
intake Why = whole_input
intake Graph = whole_input
intake Survive = whole_input
intake Audit = whole_input
intake Replay = live
intake (Gen number) = nothing
intake (World number) = whole_input
intake Help = nothing
intake Version = nothing

-- whether a word takes memory, so that it may run out of it
abbrev pub takes_memory : Command → Bool
takes_memory Check = true
takes_memory Scores = true
takes_memory Why = true
takes_memory Graph = true
takes_memory Survive = true
takes_memory Audit = true
takes_memory Replay = true
takes_memory (Gen number) = true
takes_memory (World number) = true
takes_memory Help = false
takes_memory Version = false

-- with a word an input of this content gets this status and this text. With a word that reads nothing each input does. That a content has room is asked beside
-- it (`IsReadWhole`)
abbrev pub Gets : Command → List ℕ → Status → List ℕ → Type 0
Gets Check input status text = IsOutput IsCheckText input status text
Gets Scores input status text = IsOutput IsScoresText input status text
Gets Why input status text = IsOutput IsWhyOf input status text
Gets Graph input status text = IsOutput IsGraphText input status text
Gets Survive input status text = IsOutput IsSurviveText input status text
Gets Audit input status text = IsAuditOutput input status text
Gets Replay input status text = IsReplayOutput input status text
Gets (Gen number) input status text = IsOutput (IsSummaryText number) (case_text number) status text
Gets (World number) input status text = IsOutput (IsWorldOf number) input status text
Gets Help input status text = IsOwnText HELP.now status text
Gets Version input status text = IsOwnText VERSION.now status text
