-- An input gets one status and one text with each word.
use Rattle.std.proofs.Common.{◌≡◌, ℕ, List, refl, sym, ap, subst, ◌∙◌}
use Rattle.cases.specs.Case.{case_text}
use Rattle.cluster_types.specs.declared.journal.Action.{Action}
use Rattle.cluster_types.specs.Plans.{precedes_by_number}
use Rattle.cluster_types.specs.Steps.{numbered}
use Rattle.cluster_types.specs.Texts.{graph_text, scores_text}
use Rattle.decision_account.proofs.OneAccount as account
use Rattle.input_reading.specs.declared.input.reading.Input.{Input}
use Rattle.input_reading.specs.Reading.{IsTextRefused, ReadsInput}
use Rattle.input_reading.proofs.OneReading.{not_both, one_fault, one_input}
use Rattle.input_reading.proofs.ValidInput.{journal_rests}
use Rattle.plan_laws.proofs.OnePlacement.{one_placement}
use Rattle.plan_laws.proofs.OnePlan.{one_list}
use Rattle.simulated.proofs.OneEnd as worlds
use Rattle.trace_text.specs.Losses.{survive_text}
use Rattle.sim_core.specs.declared.status.Status.{Status}
use Rattle.sim_core.specs.declared.status.Status.TheVariants.{Done, Refused}
use Rattle.sim_core.specs.declared.words.Command.{Command}
use Rattle.sim_core.specs.declared.words.Command.TheVariants.{Check, Scores, Why, Graph, Survive, Audit, Replay, Gen, World, Help, Version}
use Rattle.sim_core.specs.Check.{IsCheckText}
use Rattle.sim_core.specs.Commands.{Gets}
use Rattle.sim_core.specs.GenSummary.{IsSummaryText}
use Rattle.sim_core.specs.Graph.{IsGraphText}
use Rattle.sim_core.specs.Outputs.{IsOutput, IsRefusal, IsTextOf}
use Rattle.sim_core.specs.Scores.{IsScoresText}
use Rattle.sim_core.specs.Survive.{IsSurviveText}
use Rattle.sim_core.specs.Why.{IsWhyOf}
use Rattle.sim_core.specs.World.{IsWorldOf}
use Rattle.sim_core.proofs.OneAudit.{one_audit, one_refusal}
use Rattle.sim_core.proofs.OneReplay.{one_replay}
use Rattle.sim_core.proofs.OneReport.{one_report}
use Rattle.sim_core.proofs.OneSummary.{one_summary}

-- of what is read of the input this says one text
abbrev SaysOne : List ℕ → (Input → List ℕ → Type 0) → Type 0
SaysOne input Says = (whole : Input) (text more : List ℕ) → ReadsInput input whole → Says whole text → Says whole more → text ≡ more

-- with a word that says one text of what is read
module _ (input : List ℕ) (Says : Input → List ℕ → Type 0) (one : SaysOne input Says) where
  one_said : (text more : List ℕ) → IsTextOf Says input text → IsTextOf Says input more → text ≡ more
  one_said text more a b =
      let same : b.whole ≡ a.whole = one_input input b.whole a.whole b.reads a.reads in
      one a.whole text more a.reads a.says (subst (λ (w : Input). Says w more) same b.says)

  read_or_refused : (text more : List ℕ) → IsTextOf Says input text → ¬ IsRefusal (IsTextRefused input) more
  read_or_refused text more a b = not_both input (record { whole = a.whole; reads = a.reads }) (record { line = b.line; why = b.why; fault = b.fault })

  one_output : (text more : List ℕ) (status other : Status) → IsOutput Says input status text → IsOutput Says input other more → (status ≡ other) × (text ≡ more)
  one_output text more Done Done a b = (refl, one_said text more a b)
  one_output text more Done Refused a b = absurd (read_or_refused text more a b)
  one_output text more Refused Done a b = absurd (read_or_refused more text b a)
  one_output text more Refused Refused a b = (refl, one_refusal (IsTextRefused input) (one_fault input) text more a b)
  one_output text more Done _ a b = absurd b
  one_output text more Refused _ a b = absurd b
  one_output text more _ other a b = absurd a

-- each word does
module _ (input : List ℕ) where
  one_check : SaysOne input IsCheckText
  one_check = λ whole text more reads a b. a ∙ sym b

  one_scores : SaysOne input IsScoresText
  one_scores = λ whole text more reads a b.
      let same : a.placed ≡ b.placed
      = one_placement whole.head.cluster whole.head.journal.events whole.head.journal.promotions a.placed b.placed a.is b.is in
      a.printed ∙ (ap (scores_text whole.head.cluster) same ∙ sym b.printed)

  one_why : SaysOne input IsWhyOf
  one_why = λ whole text more reads a b.
      account.one_text whole.head.cluster whole.head.journal.events whole.head.journal.promotions a.placed b.placed text more a.is b.is

  one_graph : SaysOne input IsGraphText
  one_graph = λ whole text more reads a b.
      let c = whole.head.cluster in
      let same : a.actions ≡ b.actions
      = one_list c whole.head.journal.events whole.head.journal.promotions a.placed b.placed a.actions b.actions a.is b.is in
      a.printed ∙ (ap (λ (xs : List Action). graph_text c xs (λ j k. precedes_by_number c xs (numbered xs j) (numbered xs k))) same ∙ sym b.printed)

  one_survive : SaysOne input IsSurviveText
  one_survive = λ whole text more reads a b.
      let same : a.report ≡ b.report = one_report whole.head.cluster whole.head.journal.events whole.head.journal.promotions a.report b.report a.is b.is in
      a.printed ∙ (ap (survive_text whole.head.cluster) same ∙ sym b.printed)

  one_gen : (number : ℕ) → SaysOne input (IsSummaryText number)
  one_gen number = λ whole text more reads a b. one_summary number whole text more a b

  -- nothing is in flight at first in an input that is read
  one_world : (number : ℕ) → SaysOne input (IsWorldOf number)
  one_world number = λ whole text more reads a b.
      worlds.text_one whole.head.cluster whole.head.journal number (journal_rests input whole reads) text more a b

pub gets_one : (word : Command) (input text more : List ℕ) (status other : Status) → Gets word input status text → Gets word input other more → (status ≡ other) × (text ≡ more)
gets_one Check input text more status other a b = one_output input IsCheckText (one_check input) text more status other a b
gets_one Scores input text more status other a b = one_output input IsScoresText (one_scores input) text more status other a b
gets_one Why input text more status other a b = one_output input IsWhyOf (one_why input) text more status other a b
gets_one Graph input text more status other a b = one_output input IsGraphText (one_graph input) text more status other a b
gets_one Survive input text more status other a b = one_output input IsSurviveText (one_survive input) text more status other a b
gets_one Audit input text more status other a b = one_audit input text more status other a b
gets_one Replay input text more status other a b = one_replay input text more status other a b
gets_one (Gen number) input text more status other a b =
    one_output (case_text number) (IsSummaryText number) (one_gen (case_text number) number) text more status other a b
gets_one (World number) input text more status other a b = one_output input (IsWorldOf number) (one_world input number) text more status other a b
gets_one Help input text more status other a b = (a.0 ∙ sym b.0, a.1 ∙ sym b.1)
gets_one Version input text more status other a b = (a.0 ∙ sym b.0, a.1 ∙ sym b.1)
