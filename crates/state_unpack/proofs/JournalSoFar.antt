-- What is kept is what the journal so far tells, whatever is asked of it, and stays so with one more event.
use Rattle.std.proofs.Common.{◌≡◌, ℕ, ◌+◌, ◌<◌, Bool, true, Option, List, [], ◌∷◌, ◌++◌, length, slice_get, sym, ap, refl, subst, ◌∙◌}
use Rattle.std.proofs.lemmas.List.Sums.{sum_by_push}
use Rattle.cluster_types.specs.declared.cluster.Cluster.{Cluster}
use Rattle.cluster_types.specs.declared.journal.Event.{Event}
use Rattle.cluster_types.specs.declared.journal.Promotion.{Promotion}
use Rattle.cluster_types.specs.Journals.{last_sign, moment_of, seconds_of}
use Rattle.cluster_types.specs.NodeStates.{node_state}
use Rattle.cluster_types.specs.UnpackedStates.{states_of}
use Rattle.state_unpack.specs.declared.facts.Facts.{Facts}
use Rattle.state_unpack.specs.declared.signs.Sign.{Sign}
use Rattle.state_unpack.specs.Inner.CellsKept.{is_blamed, node_from, quorum_after, states_from}
use Rattle.state_unpack.specs.Knowledge.{has_few_monitors}
use Rattle.state_unpack.specs.Inner.ToldCells.{TellsEvent}
use Rattle.state_unpack.specs.KeptKnowledge.{Knowledge, Knows, knowledge}
use Rattle.state_unpack.specs.Signs.{ShowsSigns}
use Rattle.state_unpack.specs.Inner.Touching.{touches}
use Rattle.state_unpack.proofs.CellsKnown.{blamed-is, by-sign, cells-are, few-monitors, nodes-are, stops-are}
use Rattle.state_unpack.proofs.LastSigns.{quorum-more}
use Rattle.state_unpack.proofs.Told.{keeps-more}

moment-more : (es : List Event) (e : Event) → moment_of (es ++ e ∷ []) ≡ moment_of es + seconds_of e
moment-more es e = sum_by_push seconds_of es e

module _ (c : Cluster) (es : List Event) (known : Knowledge) (knows : Knows c es known) where
  pub node-known : (n : ℕ) → n < length known.cluster.nodes → node_from known.cluster known.cells known.signs n ≡ node_state c n es
  node-known n k =
      let low = rw knows.same at k in
      rw knows.same
      (by-sign c es known.cells knows.facts known.signs knows.shown n (is_blamed c n known.cells) (slice_get known.signs n) (last_sign n es)
      (blamed-is c es known.cells knows.facts n low) (knows.shown.last n low))

  pub states-known : has_few_monitors known.cluster ≡ true → (promotions : List Promotion)
      → states_from known.cluster known.cells known.signs known.quorum known.moment promotions ≡ states_of c es promotions
  states-known few promotions =
      let nodes = nodes-are c es known.cells knows.facts known.signs knows.shown in
      let few_each = few-monitors c (rw knows.same at few) in
      rw (knows.same, knows.word, knows.now, stops-are c es known.cells knows.facts, cells-are c es known.cells knows.facts _ nodes few_each, nodes) refl

pub knows-more : (c : Cluster) (es : List Event) (e : Event) (cluster : Cluster) (cells told : List Facts) (signs shown : List (Option Sign)) (quorum : Bool) (moment : ℕ)
    → Knows c es (knowledge cluster cells signs quorum moment) → TellsEvent cluster e (λ r n. touches r n e) cells told
    → ((nodes : ℕ) (before : List Event) → ShowsSigns nodes before signs → ShowsSigns nodes (before ++ e ∷ []) shown)
    → Knows c (es ++ e ∷ []) (knowledge cluster told shown (quorum_after quorum e) (moment + seconds_of e))
knows-more c es e cluster cells told signs shown quorum moment knows tells shows = record {
  same = knows.same;
  facts = keeps-more c e es cells told knows.facts (subst (λ (of : Cluster). TellsEvent of e (λ r n. touches r n e) cells told) knows.same tells);
  shown = shows (length c.nodes) es knows.shown;
  word = ap (λ q. quorum_after q e) knows.word ∙ sym (quorum-more es e);
  now = ap (λ m. m + seconds_of e) knows.now ∙ sym (moment-more es e);
}
