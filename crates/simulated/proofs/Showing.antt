-- What is kept stands for the simulated cluster, step by step.
use Rattle.std.proofs.Common.{◌≡◌, ℕ, ◌+◌, Bool, true, false, if◌then◌else◌, Option, Some, None, List, length, sym, ap, ◌∙◌}
use Rattle.cluster_types.specs.declared.cluster.Cluster.{Cluster}
use Rattle.cluster_types.specs.declared.journal.Action.{Action}
use Rattle.simulated.specs.declared.real.Real.{Real}
use Rattle.simulated.specs.declared.real.Real.TheVariants as real
use Rattle.simulated.specs.declared.real.Standing.{Standing}
use Rattle.cases.specs.Draws.{draw, next_state, state_after, taken_of}
use Rattle.cases.proofs.DrawLaws.{state_more}
use Rattle.simulated.specs.KeptReality.{ListsCells, ListsNodes, IsAlone, RealityOf, ShowsWorld, reality}
use Rattle.simulated.specs.Turns.{after_begin}
use Rattle.simulated.specs.Inner.Turns.{calm, with_draws}
use Rattle.simulated.specs.RealWorlds.{Cells, RealWorld, begun, done, is_rising, risen, undone, without_node}
use Rattle.simulated.proofs.Holding.{begun_rising, cleared_rising, done_rising, undone_rising}

never_risen : (x : Real) → risen x ≡ real.Rising → ⊥
never_risen real.Off e = let no = ap is_rising e in cc
never_risen real.Rising e = let no = ap is_rising e in cc
never_risen real.Started e = let no = ap is_rising e in cc
never_risen real.Promoted e = let no = ap is_rising e in cc

module _ (c : Cluster) (nodes : List Standing) (cells : List Real) (rising : Option (ℕ × ℕ)) (number state faults : ℕ) (w : RealWorld)
    (s : ShowsWorld (reality c nodes cells rising number state faults) w) where
  pub shows_begun : (new : List Real) (a : Action) → ((held : Cells) → ListsCells c cells held → ListsCells c new (begun c a held))
      → ShowsWorld (reality c nodes new rising number state faults) (after_begin c w a)
  shows_begun new a held = record {
    nodes = s.nodes;
    cells = held w.cells s.cells;
    alone = λ r n l m e. s.alone r n l m (begun_rising c w.cells r n a e);
    state = s.state;
    faults = s.faults;
  }

  pub shows_calm : (new : List Real) → ((held : Cells) → ListsCells c cells held → IsAlone c rising held → ListsCells c new (λ r n. risen (held r n)))
      → ShowsWorld (reality c nodes new None number state faults) (calm w)
  shows_calm new held = record {
    nodes = s.nodes;
    cells = held w.cells s.cells s.alone;
    alone = λ r n l m e. absurd (never_risen (w.cells r n) e);
    state = s.state;
    faults = s.faults;
  }

  pub next_is : next_state state ≡ state_after number (w.drawn + 1)
  next_is = ap next_state s.state ∙ sym (state_more number w.drawn)

  pub shows_drawn : (next : ℕ) → next ≡ next_state state → ShowsWorld (reality c nodes cells rising number next faults) (with_draws w 1)
  shows_drawn next is = record { nodes = s.nodes; cells = s.cells; alone = s.alone; state = is ∙ next_is; faults = s.faults }

  pub drawn_is : (next bound : ℕ) → next ≡ next_state state → taken_of next bound ≡ draw number (w.drawn + 1) bound
  drawn_is next bound is = ap (λ x. taken_of x bound) (is ∙ next_is)

  -- what is kept changes, and no number is drawn
  pub shows_changed : (new_nodes : List Standing) (new_cells : List Real) (up : Option (ℕ × ℕ)) (now : ℕ) (v : RealWorld) → ListsNodes (length c.nodes) new_nodes v.nodes
      → ListsCells c new_cells v.cells → IsAlone c up v.cells → v.drawn ≡ w.drawn → now ≡ v.faults → ShowsWorld (reality c new_nodes new_cells up number state now) v
  shows_changed new_nodes new_cells up now v held_nodes held alone drawn same = record {
    nodes = held_nodes;
    cells = held;
    alone = alone;
    state = s.state ∙ ap (state_after number) (sym drawn);
    faults = same;
  }

  pub left_alone : (node : ℕ) → IsAlone c rising (if c.properties.fencing then w.cells else without_node node w.cells)
  left_alone node r n l m e = on c.properties.fencing e
    where
      on : (t : Bool) → (if t then w.cells else without_node node w.cells) r n ≡ real.Rising → rising ≡ Some (r, n)
      on true i = s.alone r n l m i
      on false i = s.alone r n l m (cleared_rising c w.cells r n node i)

  pub joined_alone : (node : ℕ) → IsAlone c rising (without_node node w.cells)
  joined_alone node r n l m e = s.alone r n l m (cleared_rising c w.cells r n node e)

  pub done_alone : (a : Action) → IsAlone c rising (done c a w.cells)
  done_alone a r n l m e = s.alone r n l m (done_rising c w.cells r n a e)

  pub undone_alone : (a : Action) → IsAlone c rising (undone c a w.cells)
  undone_alone a r n l m e = s.alone r n l m (undone_rising c w.cells r n a e)

-- the same, by how many numbers were drawn
pub redrawn : (k : RealityOf) (w : RealWorld) (drawn : ℕ) → ShowsWorld k w → drawn ≡ w.drawn
    → ShowsWorld k (record { nodes = w.nodes; cells = w.cells; drawn = drawn; faults = w.faults })
redrawn k w drawn s same = record { nodes = s.nodes; cells = s.cells; alone = s.alone; state = s.state ∙ ap (state_after k.number) (sym same); faults = s.faults }
