-- What a source of outcomes says, and what it owes (rule of this project).
use Rattle.std.specs.Prelude.{◌≡◌, ◌<◌, ◌+◌, ℕ, Bool, true, false, Option, Some, None, List, [], ◌++◌, length, count_by, option_map}
use Rattle.cluster_types.specs.declared.cluster.Cluster.{Cluster}
use Rattle.cluster_types.specs.declared.journal.Action.{Action}
use Rattle.cluster_types.specs.declared.journal.Answer.{Answer}
use Rattle.cluster_types.specs.declared.journal.Event.{Event}
use Rattle.cluster_types.specs.AnswersThatApply.{added_by, applies_after}
use Rattle.cluster_types.specs.Sources.{Says}
use Rattle.cluster_types.specs.Steps.{is_from_outside, silent_end}
use Rattle.graph_exec.specs.declared.transition.outcomes.Next.{Next}
use Rattle.graph_exec.specs.declared.transition.outcomes.Next.TheVariants as next

-- from the answers to come before to those after: an answer is the first of them, nothing more is said where there are none and they are known to be all, and a
-- failure leaves them as they were
abbrev pub GivesNext : Bool → Option (List Answer) → Option (List Answer) → Next → Type 0
GivesNext whole before after (next.Answer given) = Says whole before (Some given) after
GivesNext whole before after next.Silent = Says whole before None after
GivesNext whole before after next.Failed = after ≡ before

-- these answers were taken from the front of those to come, where these are told
abbrev pub TakesAnswers : Option (List Answer) → List Answer → Option (List Answer) → Type 0
TakesAnswers before answers after = before ≡ option_map (λ left. answers ++ left) after

-- how many answers were taken
abbrev pub taken_by : Next → ℕ
taken_by (next.Answer given) = 1
taken_by _ = 0

-- whether a source is over, before and after it says this: one that is over stays so when it answers, and doesn't fail; and a steady one is over once it has said
-- that nothing more comes
abbrev pub IsOverBy : Bool → Bool → Bool → Next → Type 0
IsOverBy steady before after (next.Answer given) = before ≡ true → after ≡ true
IsOverBy steady before after next.Silent = steady ≡ true → after ≡ true
IsOverBy steady before after next.Failed = before ≡ false

-- a source that agreed with a journal, after so many answers from outside, agrees with the journal that the step gives. Without a step it agrees as before
module _ (agrees : Cluster → List Event → ℕ → Type 0) (c : Cluster) (es : List Event) (taken : ℕ) (flight : List (ℕ × Action)) where
  pub record AgreesOn (given : Answer) : Type 0 where
    pub taken_on : applies_after c es flight taken given ≡ true
        → agrees c (es ++ added_by c es flight given) (taken + count_by is_from_outside (added_by c es flight given))
    pub refused : applies_after c es flight taken given ≡ false → agrees c es taken

  pub record AgreesSilent : Type 0 where
    pub ends : 0 < length flight → agrees c (es ++ silent_end c es flight) taken
    pub idle : flight ≡ [] → agrees c es taken

  abbrev pub AgreesAfter : Next → Type 0
  AgreesAfter (next.Answer given) = AgreesOn given
  AgreesAfter next.Silent = AgreesSilent
  AgreesAfter next.Failed = agrees c es taken

-- an answer applies, as each of a careful source does
abbrev pub AppliesIfAnswered : Cluster → List Event → ℕ → List (ℕ × Action) → Next → Type 0
AppliesIfAnswered c es taken flight (next.Answer given) = applies_after c es flight taken given ≡ true
AppliesIfAnswered c es taken flight next.Silent = Unit {0}
AppliesIfAnswered c es taken flight next.Failed = Unit {0}
