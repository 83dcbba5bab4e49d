use Rattle.std.proofs.Common.{rules, tests}
use Rattle.std.proofs.lemmas.Iterator.{YieldsList-from_slice}
use Rattle.std.proofs.lemmas.Iterator.Consumers.{count_from_yields_List, YieldsList-from_filter}
use Rattle.sim_core.specs.Summary.{is_begin}
use Rattle.sim_core.proofs.counts.count_begun.Goals as goal

pub returns : goal.returns
returns c =
    count_from_yields_List c.filter.result _ c.count.ensures.ran
    (YieldsList-from_filter _ is_begin (YieldsList-from_slice c.args.events.now cc) c.filter.ensures.closure (λ x r q k. search (rules, tests)))
