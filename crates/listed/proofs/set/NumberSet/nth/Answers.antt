use Rattle.std.proofs.Common.{arith, ◌≡◌, ◌+◌, ◌-◌, ◌<◌, ◌≤◌, ◌*◌, suc, ℕ, Bool, List}
use Rattle.std.proofs.lemmas.List.{get_or_read}
use Rattle.listed.proofs.PlacesOfTrees.{Looks, looks_begin, looks_left, looks_right, looks_above}
use Rattle.listed.proofs.set.NumberSet.nth.Goals as goal

higher : (flags : List Bool) (leaves h k node left place : ℕ) → k < h → Looks flags leaves (h - k) node left place
    → Looks flags leaves (suc (h - (k + 1))) node left place
higher flags leaves h k node left place lt l = let e : h - k ≡ suc (h - (k + 1)) = omega arith in rw e at l

lowest : (flags : List Bool) (leaves h k node left place : ℕ) → h ≤ k → Looks flags leaves (h - k) node left place
    → Looks flags leaves 0 node left place
lowest flags leaves h k node left place le l = let e : h - k ≡ 0 = omega arith in rw e at l

pub loop-init : goal.loop-init
loop-init c =
    let e : c.self.inside.height ≡ c.self.inside.height - 0 = omega arith in
    rw e at (looks_begin c.self.inside.flags.items c.self.inside.counts.items c.self.inside.leaves c.self.inside.height c.self.invariant c.args.place
    (rw (← c.self.view_is) at c.requires))

pub overflow_mul-node : goal.overflow_mul-node
overflow_mul-node c =
    let l = higher c.self.inside.flags.items c.self.inside.leaves c.self.inside.height c.loop.counter c.loop.node c.loop.left c.args.place c.loop-test.true c.loop.invariant in
    let a = looks_above c.self.inside.flags.items c.self.inside.counts.items c.self.inside.leaves c.self.inside.height c.self.invariant
    (c.self.inside.height - (c.loop.counter + 1)) c.loop.node c.loop.left c.args.place l in
    omega arith

pub index-below-requires : goal.index-below-requires
index-below-requires c =
    let l = higher c.self.inside.flags.items c.self.inside.leaves c.self.inside.height c.loop.counter c.loop.node c.loop.left c.args.place c.loop-test.true c.loop.invariant in
    let a = looks_above c.self.inside.flags.items c.self.inside.counts.items c.self.inside.leaves c.self.inside.height c.self.invariant
    (c.self.inside.height - (c.loop.counter + 1)) c.loop.node c.loop.left c.args.place l in
    omega arith

pub overflow_mul-node-then-left-below : goal.overflow_mul-node-then-left-below
overflow_mul-node-then-left-below c =
    let l = higher c.self.inside.flags.items c.self.inside.leaves c.self.inside.height c.loop.counter c.loop.node c.loop.left c.args.place c.loop-test.true c.loop.invariant in
    let a = looks_above c.self.inside.flags.items c.self.inside.counts.items c.self.inside.leaves c.self.inside.height c.self.invariant
    (c.self.inside.height - (c.loop.counter + 1)) c.loop.node c.loop.left c.args.place l in
    omega arith

pub overflow_mul-node-in-loop : goal.overflow_mul-node-in-loop
overflow_mul-node-in-loop c =
    let l = higher c.self.inside.flags.items c.self.inside.leaves c.self.inside.height c.loop.counter c.loop.node c.loop.left c.args.place c.loop-test.true c.loop.invariant in
    let a = looks_above c.self.inside.flags.items c.self.inside.counts.items c.self.inside.leaves c.self.inside.height c.self.invariant
    (c.self.inside.height - (c.loop.counter + 1)) c.loop.node c.loop.left c.args.place l in
    omega arith

pub overflow_add-node : goal.overflow_add-node
overflow_add-node c =
    let l = higher c.self.inside.flags.items c.self.inside.leaves c.self.inside.height c.loop.counter c.loop.node c.loop.left c.args.place c.loop-test.true c.loop.invariant in
    let a = looks_above c.self.inside.flags.items c.self.inside.counts.items c.self.inside.leaves c.self.inside.height c.self.invariant
    (c.self.inside.height - (c.loop.counter + 1)) c.loop.node c.loop.left c.args.place l in
    omega arith

pub loop-preserved-then-left-below : goal.loop-preserved-then-left-below
loop-preserved-then-left-below c =
    let l = higher c.self.inside.flags.items c.self.inside.leaves c.self.inside.height c.loop.counter c.loop.node c.loop.left c.args.place c.loop-test.true c.loop.invariant in
    let a = looks_above c.self.inside.flags.items c.self.inside.counts.items c.self.inside.leaves c.self.inside.height c.self.invariant
    (c.self.inside.height - (c.loop.counter + 1)) c.loop.node c.loop.left c.args.place l in
    let r = get_or_read c.self.inside.counts.items (2 * c.loop.node) c.index-below.result.now (omega arith) c.index-below.ensures 0 in
    let d : 2 * c.loop.node ≡ c.loop.node * 2 = omega arith in
    looks_left c.self.inside.flags.items c.self.inside.counts.items c.self.inside.leaves c.self.inside.height c.self.invariant
    (c.self.inside.height - (c.loop.counter + 1)) c.loop.node c.loop.left c.args.place l
    (c.loop.node * 2) (omega arith) (rw (← d) (let t = c.if-left-below.true in omega arith))

pub loop-preserved : goal.loop-preserved
loop-preserved c =
    let l = higher c.self.inside.flags.items c.self.inside.leaves c.self.inside.height c.loop.counter c.loop.node c.loop.left c.args.place c.loop-test.true c.loop.invariant in
    let a = looks_above c.self.inside.flags.items c.self.inside.counts.items c.self.inside.leaves c.self.inside.height c.self.invariant
    (c.self.inside.height - (c.loop.counter + 1)) c.loop.node c.loop.left c.args.place l in
    let r = get_or_read c.self.inside.counts.items (2 * c.loop.node) c.index-below.result.now (omega arith) c.index-below.ensures 0 in
    let d : 2 * c.loop.node ≡ c.loop.node + c.loop.node = omega arith in
    looks_right c.self.inside.flags.items c.self.inside.counts.items c.self.inside.leaves c.self.inside.height c.self.invariant
    (c.self.inside.height - (c.loop.counter + 1)) c.loop.node c.loop.left c.args.place l
    (2 * c.loop.node + 1) c.index-below.result.now (omega arith) (rw (← d) r) (omega arith)
