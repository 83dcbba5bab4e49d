-- What some decisions make of a table, with one decision more.
use Rattle.std.proofs.Common.{◌≡◌, ℕ, ◌+◌, ◌<◌, List, [], ◌∷◌, ◌++◌, length, take, get_or, sym, ap, subst, ◌∙◌}
use Rattle.std.proofs.lemmas.List.{take_more}
use Rattle.cluster_types.specs.declared.cluster.Cluster.{Cluster}
use Rattle.cluster_types.specs.declared.journal.Event.{Event}
use Rattle.cluster_types.specs.declared.journal.Promotion.{Promotion}
use Rattle.cluster_types.specs.declared.placement.Decided.{Decided}
use Rattle.cluster_types.specs.declared.placement.Decision.{Decision}
use Rattle.cluster_types.specs.Choice.{after_decision}
use Rattle.cluster_types.specs.Plans.{with_totals}
use Rattle.cluster_types.specs.Tables.{Targets}
use Rattle.plan_laws.proofs.MoreDecisions.{decided_by, table_more, totals_more}
use Rattle.placement.specs.Inner.Steps.{AreMade, IsMade}

module _ (c : Cluster) (es : List Event) (ps : List Promotion) (start : Targets) where
  behind : (ds : List Decision) (d : Decision) (table after : Targets) (decided longer : List Decided) (turn : Decided) → AreMade c es ps start ds table decided
      → IsMade c es ps table d after turn → longer ≡ decided ++ turn ∷ [] → AreMade c es ps start (ds ++ d ∷ []) after longer
  behind ds d table after decided longer turn were is made = record {
    cells = is.cells ∙ (ap (λ t. after_decision c es ps t d) were.cells ∙ sym (table_more c es ps start ds d));
    totals =
        made
        ∙ (ap (λ (xs : List Decided). xs ++ turn ∷ []) were.totals
        ∙ (ap (λ (x : Decided). with_totals c es ps start ds ++ x ∷ []) (is.totals ∙ ap (λ t. decided_by c es ps t d) were.cells)
        ∙ sym (totals_more c es ps start ds d)));
  }

  -- `order` has the decision at a position
  pub made-more : (order : List Decision) (i : ℕ) (d : Decision) → i < length order → (table after : Targets) (decided longer : List Decided) (turn : Decided)
      → AreMade c es ps start (take i order) table decided → IsMade c es ps table (get_or order i d) after turn → longer ≡ decided ++ turn ∷ []
      → AreMade c es ps start (take (i + 1) order) after longer
  made-more order i d low table after decided longer turn were is made =
      subst (λ ds. AreMade c es ps start ds after longer) (sym (take_more order i d low))
      (behind (take i order) (get_or order i d) table after decided longer turn were is made)
