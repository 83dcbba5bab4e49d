-- The first fault of all is the first loop among the statements before the first fault otherwise, and else that fault.
use Rattle.std.proofs.Common.{◌≡◌, ℕ, suc, List, [], ◌∷◌, ◌++◌, length, take, Option, Some, None, refl, sym, ap, ◌∙◌, subst}
use Rattle.std.specs.Option.{option_or}
use Rattle.std.proofs.lemmas.List.{append-nil, append_assoc}
use Rattle.faults.specs.declared.fault.Fault.{Fault}
use Rattle.faults.specs.Reading.{fault_at}
use Rattle.crm_parse.specs.declared.statement.Statement.{Statement}
use Rattle.cluster_model.specs.declared.resolution.fault.ModelCause.{ModelCause}
use Rattle.cluster_model.specs.FirstFaults.{first_fault}
use Rattle.cluster_model.specs.Inner.Search.{count_on, sound_count}

module _ (own loop : List Statement → Statement → Option ModelCause) where
  pub split : (before statements : List Statement)
      → first_fault (λ before s. option_or (own before s) (loop before s)) before statements
      ≡ option_or (first_fault loop before (take (sound_count own before statements) statements)) (first_fault own before statements)
  split before [] = refl
  split before (s ∷ statements) = on (own before s) (split (before ++ s ∷ []) statements) where
    later : Option (Fault ModelCause)
    later = first_fault own (before ++ s ∷ []) statements

    at_loop : (other : Option ModelCause) (all some : Option (Fault ModelCause)) → all ≡ option_or some later
        → fault_at s.line other all ≡ option_or (fault_at s.line other some) later
    at_loop None all some e = e
    at_loop (Some why) all some e = refl

    on : (one : Option ModelCause)
        → first_fault (λ before s. option_or (own before s) (loop before s)) (before ++ s ∷ []) statements
        ≡ option_or (first_fault loop (before ++ s ∷ []) (take (sound_count own (before ++ s ∷ []) statements) statements)) later
        → fault_at s.line (option_or one (loop before s)) (first_fault (λ before s. option_or (own before s) (loop before s)) (before ++ s ∷ []) statements)
        ≡ option_or (first_fault loop before (take (count_on one (sound_count own (before ++ s ∷ []) statements)) (s ∷ statements)))
        (fault_at s.line one later)
    on (Some cause) next = refl
    on None next = at_loop (loop before s) _ _ next

module _ (cause : List Statement → Statement → Option ModelCause) where
  no_later : (line : ℕ) (found : Option ModelCause) (later : Option (Fault ModelCause)) → fault_at line found later ≡ None → (found ≡ None) × (later ≡ None)
  no_later line None later e = (refl, e)
  no_later line (Some why) later e = absurd cc

  -- what stays true with each statement that has no cause is true of all, where no statement has one
  pub none_stays : (P : List Statement → Type 0) → ((before : List Statement) (s : Statement) → cause before s ≡ None → P (before ++ s ∷ []))
      → (before statements : List Statement) → first_fault cause before statements ≡ None → P before → P (before ++ statements)
  none_stays P step before [] e h = subst P (sym (append-nil before)) h
  none_stays P step before (s ∷ statements) e h =
      let (here, later) = no_later s.line (cause before s) (first_fault cause (before ++ s ∷ []) statements) e in
      subst P (append_assoc before (s ∷ []) statements) (none_stays P step (before ++ s ∷ []) statements later (step before s here))

  -- where no statement has a cause, all are counted
  pub none_all : (before statements : List Statement) → first_fault cause before statements ≡ None → sound_count cause before statements ≡ length statements
  none_all before [] e = refl
  none_all before (s ∷ statements) e =
      let (here, later) = no_later s.line (cause before s) (first_fault cause (before ++ s ∷ []) statements) e in
      ap (λ (found : Option ModelCause). count_on found (sound_count cause (before ++ s ∷ []) statements)) here
      ∙ ap suc (none_all (before ++ s ∷ []) statements later)
