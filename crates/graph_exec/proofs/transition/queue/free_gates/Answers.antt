use Rattle.std.proofs.Common.{arith, ◌≡◌, ◌==◌, ◌≤◌, ◌∙◌, true, false, slice_index_or}
use Rattle.std.proofs.lemmas.Bool.{ne_eqb, eq-eqb}
use Rattle.std.proofs.lemmas.List.{length_push}
use Rattle.graph_exec.proofs.Passing.{passed_by, taken_in}
use Rattle.graph_exec.proofs.transition.queue.free_gates.Goals as goal

pub loop-position-preserved-then-counts-position-gt0 : goal.loop-position-preserved-then-counts-position-gt0
loop-position-preserved-then-counts-position-gt0 c =
    let low : c.args.actions ≤ c.loop-position.position = omega arith in
    let fails : (slice_index_or c.args.counts.now c.loop-position.position 0 == 0) ≡ false = ne_eqb _ _ (λ e. omega arith) in
    let few = c.loop-position.invariant.few in
    record {
      gates = passed_by (λ x. slice_index_or c.args.counts.now x 0 == 0) c.args.actions c.loop-position.position c.loop-position.gates.items low fails c.loop-position.invariant.gates;
      few = omega arith;
      room = c.loop-position.invariant.room;
    }

pub loop-position-preserved : goal.loop-position-preserved
loop-position-preserved c =
    let low : c.args.actions ≤ c.loop-position.position = omega arith in
    let passes : (slice_index_or c.args.counts.now c.loop-position.position 0 == 0) ≡ true = eq-eqb _ _ (omega arith) in
    let few = c.loop-position.invariant.few in
    let room = c.loop-position.invariant.room in
    let l = length_push c.loop-position.gates.items c.loop-position.position in
    record {
      gates = c.push_reserved.ensures.items ∙ taken_in (λ x. slice_index_or c.args.counts.now x 0 == 0) c.args.actions c.loop-position.position c.loop-position.gates.items low passes c.loop-position.invariant.gates;
      few = rw c.push_reserved.ensures.items (omega arith);
      room = rw c.push_reserved.ensures.capacity room;
    }
