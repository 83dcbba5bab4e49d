-- The promises that every transition keeps by its steps alone.
use Rattle.std.proofs.Common.{◌≡◌, ◌<◌, ℕ, Bool, true, List, []}
use Rattle.std.specs.Prelude.{Option}
use Rattle.std.specs.List.{list_any}
use Rattle.lemmas.proofs.Booleans.{fails_too}
use Rattle.cluster_types.specs.declared.journal.Answer.{Answer}
use Rattle.cluster_types.specs.declared.journal.Event.{Event}
use Rattle.cluster_types.specs.Safety.{IsEager, is_gone}
use Rattle.cluster_types.specs.Steps.{Transition, GoesBySteps, has_aborted}
use Rattle.cluster_types.proofs.EagerLaws.{keeps-none, keeps-on}
use Rattle.cluster_types.proofs.NeverStuck.{all-succeeded}
use Rattle.cluster_types.proofs.StepLaws.{begins-its_own, none_after-abort}

pub eager : (t : Transition) (whole : Bool) (rest left : Option (List Answer)) (later : List Event) → ((j k : ℕ) → t.precedes j k ≡ true → j < k)
    → GoesBySteps t whole [] rest later left → IsEager t later
eager t whole rest left after upward goes =
    let keeps = keeps-on t whole [] after rest left goes (keeps-none t) in
    record {
      answers_when_settled = keeps.asked;
      begins_once = keeps.once;
      begins_its_own = begins-its_own t whole rest left after goes;
      none_after_abort = none_after-abort t whole rest left after goes;
      never_stuck = λ unaborted idle settled.
          all-succeeded t after upward unaborted (fails_too (list_any is_gone after) (has_aborted t after) keeps.gone_aborts unaborted) idle settled;
    }
