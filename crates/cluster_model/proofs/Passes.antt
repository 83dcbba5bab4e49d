-- One pass over the statements finds the first with a cause, and how many stand before it.
use Rattle.std.proofs.Common.{◌≡◌, ℕ, ◌+◌, List, [], ◌∷◌, ◌++◌, Option, Some, None, refl, sym, ap, ◌∙◌, arith}
use Rattle.faults.specs.declared.fault.Fault.TheVariants.{At}
use Rattle.faults.specs.Reading.{fault_at}
use Rattle.crm_parse.specs.declared.statement.Statement.{Statement}
use Rattle.cluster_model.specs.declared.resolution.checks.Checked.{Checked}
use Rattle.cluster_model.specs.declared.resolution.counts.Counts.{Counts}
use Rattle.cluster_model.specs.declared.resolution.directory.Directory.{Directory}
use Rattle.cluster_model.specs.declared.resolution.fault.ModelCause.{ModelCause}
use Rattle.cluster_model.specs.Inner.Checks.{cause_of}
use Rattle.cluster_model.specs.Inner.Counting.{all_counted, counted_with, counts_of, nothing_counted}
use Rattle.cluster_model.specs.FirstFaults.{first_fault}
use Rattle.cluster_model.specs.Inner.Resolution.{own_cause}
use Rattle.cluster_model.specs.Inner.Search.{count_on, sound_count}

-- the line and the cause of a statement that is at fault, behind so many that aren't, and else what comes of the others
abbrev pub unless_cause : Option ModelCause → ℕ → ℕ → Checked → Checked
unless_cause (Some cause) sound line others = record { sound = sound; fault = Some (At line cause) }
unless_cause None sound line others = others

-- the first statement that is at fault, where some statements before are sound and have so much
abbrev pub fault_after : Directory → ℕ → Counts → List Statement → Checked
fault_after d sound counts [] = record { sound = sound; fault = None }
fault_after d sound counts (s ∷ statements) =
    let counted = counted_with counts s.form in
    unless_cause (cause_of d counted s.form) sound s.line (fault_after d (sound + 1) counted statements)

abbrev pub check_all : Directory → List Statement → Checked
check_all d statements = fault_after d 0 nothing_counted statements

pub counted-more : (counts : Counts) (before : List Statement) (s : Statement)
    → all_counted counts (before ++ s ∷ []) ≡ counted_with (all_counted counts before) s.form
counted-more counts [] s = refl
counted-more counts (x ∷ before) s = counted-more (counted_with counts x.form) before s

module _ (d : Directory) where
  abbrev checked_as : ℕ → List Statement → List Statement → Checked
  checked_as n before statements = record { sound = n + sound_count (own_cause d) before statements; fault = first_fault (own_cause d) before statements }

  -- what the pass finds behind some statements
  passes-from : (n : ℕ) (counts : Counts) (before statements : List Statement) → counts ≡ counts_of before
      → fault_after d n counts statements ≡ checked_as n before statements
  passes-from n counts before [] e = ap (λ (k : ℕ). record { sound = k; fault = None }) (omega arith)
  passes-from n counts before (s ∷ statements) e =
      on (cause_of d (counted_with counts s.form) s.form) (own_cause d before s) (ap (λ (c : Counts). cause_of d c s.form) same)
      (passes-from (n + 1) (counted_with counts s.form) (before ++ s ∷ []) statements same)
    where
      same : counted_with counts s.form ≡ counts_of (before ++ s ∷ [])
      same = ap (λ (c : Counts). counted_with c s.form) e ∙ sym (counted-more nothing_counted before s)

      on : (one other : Option ModelCause) → one ≡ other
          → fault_after d (n + 1) (counted_with counts s.form) statements ≡ checked_as (n + 1) (before ++ s ∷ []) statements
          → unless_cause one n s.line (fault_after d (n + 1) (counted_with counts s.form) statements)
          ≡ record {
            sound = n + count_on other (sound_count (own_cause d) (before ++ s ∷ []) statements);
            fault = fault_at s.line other (first_fault (own_cause d) (before ++ s ∷ []) statements);
          }
      on None None c next =
          next ∙ ap (λ (k : ℕ). record { sound = k; fault = first_fault (own_cause d) (before ++ s ∷ []) statements }) (omega arith)
      on (Some cause) (Some other) c next =
          let same_cause : cause ≡ other = cc in
          rw same_cause (ap (λ (k : ℕ). record { sound = k; fault = Some (At s.line other) }) (omega arith))
      on None (Some other) c next = cc
      on (Some cause) None c next = cc

-- what the pass finds of all statements
pub passes : (d : Directory) (statements : List Statement)
    → check_all d statements ≡ record { sound = sound_count (own_cause d) [] statements; fault = first_fault (own_cause d) [] statements }
passes d statements =
    passes-from d 0 nothing_counted [] statements refl
    ∙ ap (λ (k : ℕ). record { sound = k; fault = first_fault (own_cause d) [] statements }) (omega arith)

-- what one pass finds, begun with nothing counted
pub found_fault : (d : Directory) (counts : Counts) (statements : List Statement) → counts ≡ nothing_counted
    → first_fault (own_cause d) [] statements ≡ (fault_after d 0 counts statements).fault
found_fault d counts statements e = ap (λ (c : Checked). c.fault) (sym (ap (λ (k : Counts). fault_after d 0 k statements) e ∙ passes d statements))

pub found_sound : (d : Directory) (counts : Counts) (statements : List Statement) → counts ≡ nothing_counted
    → sound_count (own_cause d) [] statements ≡ (fault_after d 0 counts statements).sound
found_sound d counts statements e = ap (λ (c : Checked). c.sound) (sym (ap (λ (k : Counts). fault_after d 0 k statements) e ∙ passes d statements))
