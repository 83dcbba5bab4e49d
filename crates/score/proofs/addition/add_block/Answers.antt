use Rattle.std.proofs.Common.{◌+◌, ◌-◌, ◌∙◌, arith}
use Rattle.std.proofs.lemmas.Simd.{length-chunk, get_or-chunk, get_or-put_chunk_below}
use Rattle.score.proofs.Blocks.{loaded, stored, stored_above}
use Rattle.score.proofs.addition.add_block.Goals as goal

pub join_lanes-requires-clause-ours : goal.join_lanes-requires-clause-ours
join_lanes-requires-clause-ours g c = length-chunk c.args.at 8 c.args.into.now c.requires.into

pub join_lanes-requires-clause-theirs : goal.join_lanes-requires-clause-theirs
join_lanes-requires-clause-theirs g c = length-chunk c.args.at 8 c.args.other.now c.requires.other

pub join_lanes-requires-clause-fits : goal.join_lanes-requires-clause-fits
join_lanes-requires-clause-fits g c = λ k within.
    let at = c.args.at in
    rw (get_or-chunk at 8 c.args.into.now k 0 within, get_or-chunk at 8 c.args.other.now k 0 within) (c.requires.fits (at + k) (omega arith) (omega arith))

pub returns-clause-block : goal.returns-clause-block
returns-clause-block g c = λ k from to.
    let a = c.args.into.now in
    let at = c.args.at in
    let lane = c.join_lanes.ensures.each (k - at) (omega arith) in
    let ours = loaded a at k from to in
    let theirs = loaded c.args.other.now at k from to in
    stored a _ at k c.join_lanes.ensures.lanes c.requires.into from to ∙ (rw (ours, theirs) at lane)

pub returns-clause-below : goal.returns-clause-below
returns-clause-below g c = λ k h. get_or-put_chunk_below _ _ _ k 0 h

pub returns-clause-above : goal.returns-clause-above
returns-clause-above g c = λ k h. stored_above c.args.into.now _ c.args.at k c.join_lanes.ensures.lanes h
