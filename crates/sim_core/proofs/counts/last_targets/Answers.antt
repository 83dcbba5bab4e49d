use Rattle.std.proofs.Common.{rules, ◌≡◌, ◌-◌, ◌∙◌, Option, Some, List, filter, length, slice_get, ap, sym}
use Rattle.std.specs.Option.{option_map_or}
use Rattle.cluster_types.specs.declared.run.Passed.{Passed}
use Rattle.cluster_types.specs.declared.placement.Target.{Target}
use Rattle.cluster_types.specs.Tables.{is_somewhere, targets_of}
use Rattle.sim_core.specs.Summary.{cells_with_targets}
use Rattle.cluster_types.specs.Texts.{PassedFits}
use Rattle.cluster_model.proofs.EachOf.{of_all}
use Rattle.written_runs.proofs.Each.{read_in}
use Rattle.sim_core.proofs.Tallied.{cells_are}
use Rattle.sim_core.proofs.counts.last_targets.Goals as goal

pub returns-in-Some : goal.returns-in-Some
returns-in-Some c = λ cluster es fit.
    let all = c.args.all.now in
    let passed = c.in-Some.passed.now in
    let at : slice_get all (length all - 1) ≡ Some passed = search rules in
    let fits = of_all (PassedFits cluster es) all passed fit (read_in all (length all - 1) passed at) in
    let counted : c.count_placed.result ≡ length (filter is_somewhere passed.table.targets)
    = c.count_placed.ensures ∙ ap (λ (ts : List Target). length (filter is_somewhere ts)) c.as_slice.ensures in
    counted ∙ sym (ap (λ (o : Option Passed). option_map_or (λ (p : Passed). cells_with_targets cluster (targets_of p.table)) o 0) at
    ∙ cells_are cluster passed.table fits.nodes fits.cells)
