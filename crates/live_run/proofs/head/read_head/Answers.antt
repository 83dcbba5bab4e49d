use Rattle.std.proofs.Common.{rules, ◌≡◌, Some, Err, false, ap, ◌∙◌}
use Rattle.cluster_io.specs.LineReaders.{reading_of}
use Rattle.live_run.specs.Inner.HeadSteps.{lacks_memory}
use Rattle.live_run.specs.declared.head.HeadStop.{HeadStop}
use Rattle.live_run.specs.declared.head.HeadStop.TheVariants as stop
use Rattle.live_run.proofs.HeadLines.{none_gone, where_failed}
use Rattle.live_run.proofs.head.read_head.Goals as goal

pub loop-end-init : goal.loop-end-init
loop-end-init g c = record {
  told = search rules;
  keeps = search rules;
  gone_on = rw (c.new.ensures.items) (none_gone _ _);
  can = search rules;
  within = search rules;
  next = search rules;
  count = search rules;
  no_failure = search rules;
  same_source = search rules;
}

pub loop-end-preserved : goal.loop-end-preserved
loop-end-preserved g c = record {
  told = search rules;
  keeps = search rules;
  gone_on = c.in_default.ensures.gone_on _ _ c.loop-end.invariant.gone_on;
  can = search rules;
  within = search rules;
  next = search rules;
  count = search rules;
  no_failure = search rules;
  same_source = search rules;
}

pub returns-in-Err-clause-amid : goal.returns-in-Err-clause-amid
returns-in-Err-clause-amid g c why =
    let so_far = c.loop-end.invariant in
    let now = c.in-Some.ensures in
    let text = c.step.new.head.text.items in
    let reading = reading_of c.step.new.reader in
    let fault : Some c.in-Some.end ≡ Some (Err stop.ReadFault) = ap Some (c.in-Err.is ∙ ap (λ (w : HeadStop). Err w) why) in
    let memory : lacks_memory (Some c.in-Some.end) ≡ false = ap lacks_memory fault in
    record {
      text = text;
      keeps = so_far.keeps ∙ now.keeps memory;
      gone_on = where_failed _ _ fault now.gone_on _ _ so_far.gone_on;
      not_ended = now.not_ended fault;
      none_whole = now.amid fault;
      undecided = now.undecided fault;
    }
