use Rattle.std.proofs.Common.{get_or}
use Rattle.std.proofs.lemmas.List.Elements.{Contains-get_or}
use Rattle.account_text.proofs.base_parts.push_place.Goals as goal

pub push_own-requires-clause-leaf : goal.push_own-requires-clause-leaf
push_own-requires-clause-leaf c =
    let joined = c.args.joined.now in
    let i = c.loop-source.source-index in
    c.requires.leaves (get_or joined i 0) (Contains-get_or joined i 0 c.loop-source-test.true)
