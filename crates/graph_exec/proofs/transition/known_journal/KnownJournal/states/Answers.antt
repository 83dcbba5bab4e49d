use Rattle.graph_exec.proofs.transition.known_journal.KnownJournal.states.Goals as goal

pub returns : goal.returns
returns c = rw (← c.self.view_is) (rw c.as_slice.ensures at (c.states.ensures _ _ c.self.invariant.knows))
