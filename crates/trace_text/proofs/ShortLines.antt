-- A line of a run has room in a buffer of 1,024 bytes.
use Rattle.std.proofs.Common.{arith, ◌≡◌, ◌+◌, ◌/◌, ◌%◌, ◌==◌, ◌<◌, ◌≤◌, ℕ, suc, zero, Bool, true, false, if◌then◌else◌, List, [], ◌∷◌, ◌++◌, codes, length, take, sym, ap, ◌∙◌}
use Rattle.std.specs.Prelude.{min}
use Rattle.std.specs.Fmt.{decimal, digit_glyph, digits, digits_onto}
use Rattle.std.proofs.lemmas.List.{length-append, take_all, take_min}
use Rattle.std.proofs.Math.Seq.{take-append-add}
use Rattle.cluster_types.specs.declared.cluster.Cluster.{Cluster}
use Rattle.cluster_types.specs.declared.journal.Action.{Action}
use Rattle.cluster_types.specs.declared.journal.Action.TheVariants.{Fence, Probe, Operation, MigrateTo, MigrateFrom}
use Rattle.cluster_types.specs.declared.journal.Answer.{Answer}
use Rattle.cluster_types.specs.declared.journal.Answer.TheVariants as answer
use Rattle.cluster_types.specs.declared.leaf.Op.TheVariants.{Start, Stop, Promote, Demote, Monitor}
use Rattle.cluster_types.specs.declared.placement.NoReason.{NoReason}
use Rattle.cluster_types.specs.declared.placement.NoReason.TheVariants.{NoCopies, Stopped, OnFail, StopAll, NoQuorum, NoNode, Held}
use Rattle.cluster_types.specs.declared.placement.Pin.{Pin}
use Rattle.cluster_types.specs.declared.placement.Pin.TheVariants.{Unmanaged, Blocked}
use Rattle.cluster_types.specs.declared.placement.Target.{Target}
use Rattle.cluster_types.specs.declared.placement.Target.TheVariants as target
use Rattle.cluster_types.specs.Texts.{action_text, answer_text, pin_text, reason_text, run_line, target_text}
use Rattle.trace_text.specs.declared.run_line_ref.RunLineRef.{RunLineRef}
use Rattle.trace_text.specs.declared.run_line_ref.RunLineRef.TheVariants as lent
use Rattle.trace_text.specs.RunLines.{HasNamedRule, HasShortNames, IsReasonNamed, lent_line}
use Rattle.trace_text.proofs.ShortNames.{short_name}

-- what is added where there is room for so much
pub first_added : (room : ℕ) (old new bytes : List ℕ) → room + length old ≡ 1024 → new ≡ old ++ take (min room (length bytes)) bytes
    → new ≡ take 1024 (old ++ bytes)
first_added room old new bytes size is =
    let all : length old + room ≡ 1024 = omega (arith, size) in
    is ∙ ap (λ (t : List ℕ). old ++ t) (take_min room bytes) ∙ sym (take-append-add old bytes room) ∙ ap (λ n. take n (old ++ bytes)) all

-- a line of fewer bytes than the room is kept whole
pub kept_whole : (old new line : List ℕ) → old ≡ [] → new ≡ take 1024 (old ++ line) → length line < 1024 → new ≡ line
kept_whole old new line none is short = is ∙ ap (λ (t : List ℕ). take 1024 (t ++ line)) none ∙ take_all 1024 line (omega (arith, short))

-- no number is written with more than 64 digits
few_onto : (most n : ℕ) (behind : List ℕ) → length (digits_onto most 10 false n behind) ≤ most + length behind
few_onto zero n behind = omega arith
few_onto (suc most) n behind = on (n / 10 == 0) (few_onto most (n / 10) (digit_glyph false (n % 10) ∷ behind)) where
  on : (last : Bool) → length (digits_onto most 10 false (n / 10) (digit_glyph false (n % 10) ∷ behind)) ≤ most + length (digit_glyph false (n % 10) ∷ behind)
      → length (if last then digit_glyph false (n % 10) ∷ behind else digits_onto most 10 false (n / 10) (digit_glyph false (n % 10) ∷ behind)) ≤ suc most + length behind
  on true h = omega arith
  on false h = omega arith

few_digits : (k : ℕ) → length (decimal k) ≤ 64
unfolding digits
few_digits k = few_onto 64 k []

module _ (c : Cluster) (names : HasShortNames c) where
  short_action : (a : Action) → length (action_text c a) ≤ 800
  short_action (Fence n) = simp length-append (omega (arith, names.nodes n))
  short_action (Probe r n) = simp length-append (omega (arith, names.leaves r, names.nodes n))
  short_action (Operation Start r n i role) = simp length-append (omega (arith, names.leaves r, names.nodes n))
  short_action (Operation Stop r n i role) = simp length-append (omega (arith, names.leaves r, names.nodes n))
  short_action (Operation Promote r n i role) = simp length-append (omega (arith, names.leaves r, names.nodes n))
  short_action (Operation Demote r n i role) = simp length-append (omega (arith, names.leaves r, names.nodes n))
  short_action (Operation Monitor r n i role) = simp length-append (omega (arith, names.leaves r, names.nodes n, few_digits i))
  short_action (MigrateTo r n m) = simp length-append (omega (arith, names.leaves r, names.nodes n, names.nodes m))
  short_action (MigrateFrom r n m) = simp length-append (omega (arith, names.leaves r, names.nodes n, names.nodes m))

  short_answer : (a : Answer) → length (answer_text c a) ≤ 800
  short_answer (answer.End k code) = simp length-append (omega (arith, few_digits k, few_digits code))
  short_answer (answer.Timeout k) = simp length-append (omega (arith, few_digits k))
  short_answer (answer.Lost n) = simp length-append (omega (arith, names.nodes n))
  short_answer (answer.Up n) = simp length-append (omega (arith, names.nodes n))
  short_answer (answer.Quorum true) = omega arith
  short_answer (answer.Quorum false) = omega arith
  short_answer (answer.Wait k) = simp length-append (omega (arith, few_digits k))
  short_answer (answer.Report n r i code) = simp length-append (omega (arith, names.leaves r, names.nodes n, few_digits i, few_digits code))

  short_pin : (pin : Pin) → length (pin_text c pin) ≤ 20
  short_pin Unmanaged = omega arith
  short_pin Blocked = omega arith

  short_target : (goal : Target) → length (target_text c goal) ≤ 20
  short_target target.Nowhere = omega arith
  short_target target.Started = omega arith
  short_target target.Promoted = omega arith

  short_reason : (reason : NoReason) → IsReasonNamed reason → length (reason_text c reason) ≤ 261
  short_reason NoCopies h = omega arith
  short_reason Stopped h = omega arith
  short_reason OnFail h = omega arith
  short_reason StopAll h = omega arith
  short_reason NoQuorum h = omega arith
  short_reason NoNode h = omega arith
  short_reason (Held id) h = simp length-append (omega (arith, short_name id h))

  pub short_line : (l : RunLineRef) → HasNamedRule l → length (run_line c (lent_line l)) < 1024
  short_line (lent.Transition k) named = simp length-append (omega (arith, few_digits k))
  short_line (lent.Complete k) named = simp length-append (omega (arith, few_digits k))
  short_line (lent.Aborted k) named = simp length-append (omega (arith, few_digits k))
  short_line (lent.Unexpected k) named = simp length-append (omega (arith, few_digits k))
  short_line (lent.Pinned r pin) named = simp length-append (omega (arith, names.leaves r, short_pin pin))
  short_line (lent.Goal r n goal) named = simp length-append (omega (arith, names.leaves r, names.nodes n, short_target goal))
  short_line (lent.Lacking r reason) named = simp length-append (omega (arith, names.leaves r, short_reason reason.now named))
  short_line (lent.Begin k a) named = simp length-append (omega (arith, few_digits k, short_action a))
  short_line (lent.Taken given) named = simp length-append (omega (arith, short_answer given))

-- the line of a refusal, by the name of a cause
pub short_refusal : (line : ℕ) (cause : List ℕ) → length cause ≤ 100 → length (codes "refused " ++ decimal line ++ codes " " ++ cause ++ codes "\n") < 1024
short_refusal line cause name = simp length-append (omega (arith, name, few_digits line))
