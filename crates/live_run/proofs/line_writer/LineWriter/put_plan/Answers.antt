use Rattle.std.proofs.Common.{arith, ◌∷◌, [], List, refl, sym, ap, ◌∙◌}
use Rattle.std.proofs.lemmas.Result.{err_from_is_err_and}
use Rattle.cluster_types.specs.declared.run.RunLine.{RunLine}
use Rattle.cluster_types.specs.declared.run.RunLine.TheVariants as line
use Rattle.trace_text.specs.RunLines.{lent_line}
use Rattle.live_run.proofs.Written.{put_all, put_failed, put_more}
use Rattle.live_run.proofs.line_writer.LineWriter.put_plan.Goals as goal

pub returns-in_err-put-clause-lines : goal.returns-in_err-put-clause-lines
returns-in_err-put-clause-lines g c =
    let p = err_from_is_err_and c.from_residual.result c.from_residual.ensures.1 in
    rw p.1 (record { before = []; at = line.Transition c.args.transition; behind = _; parts = refl; stopped = c.in_err-put.ensures.line })

pub loop-line-init : goal.loop-line-init
loop-line-init g c = record {
  put = record {
    passed = line.Transition c.args.transition ∷ [];
    parts = ap (λ (ls : List RunLine). line.Transition c.args.transition ∷ ls) (sym c.new-lines.ensures);
    wrote = c.in_ok-put.ensures.line;
  };
  cluster = c.put.ensures.cluster;
  count = c.put.ensures.bears.count;
  no_failure = λ exact. c.in_ok-put.ensures.bears.no_failure exact (λ failed. cc);
}

pub loop-line-preserved : goal.loop-line-preserved
loop-line-preserved g c =
    let so_far = c.loop-line.invariant in
    let before = so_far.count in
    let now = c.put-in-Some.ensures.bears.count in
    record {
      put = put_more _ _ _ _ _ _ _ (lent_line c.in-Some.line) c.in-Some.ensures.line so_far.put c.in_ok-put-2.ensures.line;
      cluster = c.put-in-Some.ensures.cluster ∙ so_far.cluster;
      count = omega (arith, before, now);
      no_failure = λ exact. c.in_ok-put-2.ensures.bears.no_failure exact (λ failed. cc) ∙ so_far.no_failure exact;
    }

pub returns-clause-lines : goal.returns-clause-lines
returns-clause-lines g c = put_all _ _ _ _ _ c.in_default.ensures.line c.loop-line.invariant.put

pub returns-in_err-put-2-clause-lines : goal.returns-in_err-put-2-clause-lines
returns-in_err-put-2-clause-lines g c =
    let p = err_from_is_err_and c.from_residual-in_err-put-2.result c.from_residual-in_err-put-2.ensures.1 in
    rw p.1 (put_failed _ _ _ _ _ _ _ (lent_line c.in-Some.line) c.in-Some.ensures.line c.loop-line.invariant.put c.in_err-put-2.ensures.line)
