use Rattle.std.proofs.Common.{ap, ◌∙◌, false, get_or}
use Rattle.std.proofs.lemmas.Option.{slice_get-get_or}
use Rattle.planner.proofs.KeysBy.{key_at_is}
use Rattle.planner.proofs.precedence.gates.key_at.Goals as goal

pub returns : goal.returns
returns c =
    let known = c.args.known.now in
    key_at_is known.cluster.now known.actions.now known.migrating.now c.args.side c.args.place _ c.flag_at-moves.result _
    (slice_get-get_or known.actions.now c.args.place _ c.requires.within) known.flagged
    (c.flag_at-moves.ensures ∙ ap (λ v. get_or known.migrating.now v false) c.leaf_of.ensures) c.key_of.ensures
