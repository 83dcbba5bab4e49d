use Rattle.std.proofs.Common.{◌≡◌, ℕ, ◌+◌, ◌<◌, ◌==◌, ◌&&◌, nat_lt, true, false, refl, ◌∙◌, arith}
use Rattle.std.proofs.lemmas.Bool.Decides.{nat_tests}
use Rattle.cluster_types.specs.Cells.{is_same_cell}
use Rattle.state_unpack.proofs.Told.{leaf_by_leaf}
use Rattle.simulated.proofs.Hearing.{said-as, said-more, said-none}
use Rattle.simulated.proofs.heard_cells.forget_node.Goals as goal

pub loop-leaf-init : goal.loop-leaf-init
loop-leaf-init c = record {
  full = c.requires.full;
  said = said-none c.args.cluster.now (λ (r n : ℕ). nat_lt r 0 && c.args.node == n) false c.args.heard.now.items
      (λ r n l m. let none : nat_lt r 0 ≡ false = grind (arith, nat_tests) in rw none refl);
}

pub loop-leaf-preserved : goal.loop-leaf-preserved
loop-leaf-preserved c =
    let l = c.loop-leaf in
    let node = c.args.node in
    record {
      full = c.say_of_cell.ensures.len ∙ l.invariant.full;
      said = said-more c.args.cluster.now (λ (r n : ℕ). nat_lt r l.leaf && node == n) (λ (r n : ℕ). is_same_cell r n l.leaf node)
          (λ (r n : ℕ). nat_lt r (l.leaf + 1) && node == n) false c.args.heard.now.items l.heard.items c.say_of_cell.new.heard.items l.invariant.said
          c.say_of_cell.ensures (λ r n h. leaf_by_leaf r n l.leaf node);
    }

pub returns : goal.returns
returns c =
    let l = c.loop-leaf in
    let node = c.args.node in
    said-as c.args.cluster.now (λ (r n : ℕ). nat_lt r l.leaf && node == n) (λ (r n : ℕ). node == n) false c.args.heard.now.items l.heard.items l.invariant.said
    (λ r n h m.
    let low : r < l.leaf = omega (arith, h, c.loop-leaf-test.false, c.len-leaf-end.ensures) in
    let here : nat_lt r l.leaf ≡ true = grind (arith, nat_tests) in
    rw here refl)
