-- The text of a node by a journal, from what is asked of its decision.
use Rattle.std.proofs.Common.{◌≡◌, ℕ, ◌<◌, ℤ, List, ◌++◌, length, map, slice_index_or, sym, ap, ◌∙◌, arith}
use Rattle.std.specs.List.{flat_map, range_with_len}
use Rattle.std.proofs.lemmas.List.{append_assoc}
use Rattle.std.proofs.lemmas.List.FromFn.{get_or-map-range_with_len}
use Rattle.cluster_types.specs.declared.cluster.Cluster.{Cluster}
use Rattle.cluster_types.specs.declared.journal.Event.{Event}
use Rattle.cluster_types.specs.declared.journal.Promotion.{Promotion}
use Rattle.cluster_types.specs.declared.placement.Decision.{Decision}
use Rattle.cluster_types.specs.Choice.{total_on}
use Rattle.cluster_types.specs.Decisions.{leaf_of}
use Rattle.cluster_types.specs.Rights.{rights_of}
use Rattle.cluster_types.specs.Tables.{Targets, load_of, targets_of}
use Rattle.cluster_types.specs.Texts.{leaf_on, score_line}
use Rattle.cluster_types.specs.UnpackedStates.{states_of}
use Rattle.decision_account.specs.Accounts.{node_lines, verdict_text, why_text}
use Rattle.decision_account.specs.Parts.{base_parts, preference_parts}
use Rattle.decision_account.specs.Verdicts.{last_chosen, verdict_on}
use Rattle.placement.specs.Reads.{may_stay_in}
use Rattle.placement.specs.Steps.{Chooses, Tell}
use Rattle.account_text.specs.declared.decision_asked.Asked.{Asked}
use Rattle.account_text.specs.Inner.AskedVerdicts.{verdict_asked}
use Rattle.account_text.specs.Inner.VerdictsByStates.{last_of, verdict_in}
use Rattle.account_text.specs.Inner.Sides.{preference_part}
use Rattle.account_text.specs.Inner.PartsByStates.{base_parts_by, parts_text}
use Rattle.account_text.proofs.AccountLines.{node_text}
use Rattle.account_text.proofs.PartsOfStates.{base_parts_are}
use Rattle.account_text.proofs.SideTexts.{preferences_text}
use Rattle.account_text.proofs.VerdictsRead.{last_is, verdict_is}

four_of : (old p q s v : List ℕ) → old ++ p ++ q ++ s ++ v ≡ old ++ (p ++ q ++ s ++ v)
four_of old p q s v =
    ap (λ t. t ++ s ++ v) (append_assoc old p q) ∙ ap (λ t. t ++ v) (append_assoc old (p ++ q) s) ∙ append_assoc old (p ++ q ++ s) v

module _ (a : Asked) (es : List Event) (ps : List Promotion)
    (tell : Tell a.known.now.cluster.now es ps a.known.now.states.now a.known.now.scores.now) (n : ℕ) (low : n < length a.known.now.cluster.now.nodes) where
  abbrev c : Cluster
  c = a.known.now.cluster.now

  abbrev d : Decision
  d = a.decision

  abbrev table : Targets
  table = targets_of a.loaded.now.table

  abbrev totals : List ℤ
  totals = map (total_on c es ps table d) (range_with_len 0 (length c.nodes))

  abbrev loads : List ℕ
  loads = map (load_of c table) (range_with_len 0 (length c.nodes))

  chooses : Chooses c es ps table d a.chosen.now.totals.items a.chosen.now.nodes
  chooses = a.chosen_so es ps tell

  told_verdict : verdict_asked a n ≡ verdict_on c es ps table d n
  told_verdict =
      let known = a.known.now in
      let picked = a.chosen.now.nodes in
      let sides = a.sides.now in
      let states = states_of c es ps in
      let rights = rights_of c es in
      let stays = may_stay_in c states rights (leaf_of d) in
      let given : known.rights ≡ rights = known.told es ps tell.known in
      let staying : a.stays ≡ stays
      = a.may_stay ∙ ap (λ s. may_stay_in c s known.rights (leaf_of d)) tell.known ∙ ap (λ r. may_stay_in c states r (leaf_of d)) given in
      let last : a.last ≡ last_chosen c es ps table d
      = a.is_last ∙ ap (λ (ts : List ℤ). last_of ts a.loaded.now.loads.items picked) chooses.each
      ∙ ap (λ (ls : List ℕ). last_of totals ls picked) a.loaded_so.each ∙ last_is c es ps table d a.leaf picked chooses.chosen in
      ap (λ s. verdict_in c s known.rights a.stays table d sides a.chosen.now.totals.items a.loaded.now.loads.items picked a.last n) tell.known
      ∙ ap (λ r. verdict_in c states r a.stays table d sides a.chosen.now.totals.items a.loaded.now.loads.items picked a.last n) given
      ∙ ap (λ b. verdict_in c states rights b table d sides a.chosen.now.totals.items a.loaded.now.loads.items picked a.last n) staying
      ∙ ap (λ (ts : List ℤ). verdict_in c states rights stays table d sides ts a.loaded.now.loads.items picked a.last n) chooses.each
      ∙ ap (λ (ls : List ℕ). verdict_in c states rights stays table d sides totals ls picked a.last n) a.loaded_so.each
      ∙ ap (λ o. verdict_in c states rights stays table d sides totals loads picked o n) last
      ∙ verdict_is c es ps table d a.leaf picked chooses.chosen sides a.of_it n low

  -- what is pushed for the node, one after the other
  pub node_more : (old one two three four cell : List ℕ) (total : ℤ) → cell ≡ leaf_on c (leaf_of d) n
      → one ≡ old ++ parts_text c cell (base_parts_by c a.known.now.states.now d n)
      → two ≡ one ++ flat_map (λ rule. parts_text c cell (preference_part table d n rule.now)) a.sides.now
      → total ≡ slice_index_or a.chosen.now.totals.items n total → three ≡ two ++ score_line c (leaf_of d) (n, total)
      → four ≡ three ++ verdict_text c cell (verdict_asked a n) → four ≡ old ++ why_text c (node_lines c es ps table d n)
  node_more old one two three four cell total is first second there third fourth =
      let at = leaf_on c (leaf_of d) n in
      let base = parts_text c at (base_parts c es ps d n) in
      let preferred = parts_text c at (preference_parts c table d n) in
      let score = score_line c (leaf_of d) (n, total_on c es ps table d n) in
      let verdict = verdict_text c at (verdict_on c es ps table d n) in
      let sum : total ≡ total_on c es ps table d n
      = there ∙ ap (λ (ts : List ℤ). slice_index_or ts n total) chooses.each
      ∙ get_or-map-range_with_len (total_on c es ps table d) 0 (length c.nodes) n n total low (omega arith) in
      let one_is : one ≡ old ++ base
      = first ∙ ap (λ t. old ++ parts_text c t (base_parts_by c a.known.now.states.now d n)) is
      ∙ ap (λ s. old ++ parts_text c at (base_parts_by c s d n)) tell.known ∙ ap (λ xs. old ++ parts_text c at xs) (base_parts_are c es ps d n a.leaf low) in
      let two_is : two ≡ one ++ preferred
      = second ∙ ap (λ t. one ++ flat_map (λ rule. parts_text c t (preference_part table d n rule.now)) a.sides.now) is
      ∙ ap (λ t. one ++ t) (preferences_text c table d n a.sides.now a.of_it at) in
      let three_is : three ≡ two ++ score = third ∙ ap {B = List ℕ} (λ (z : ℤ). two ++ score_line c (leaf_of d) (n, z)) sum in
      let four_is : four ≡ three ++ verdict
      = fourth ∙ ap (λ t. three ++ verdict_text c t (verdict_asked a n)) is ∙ ap (λ v. three ++ verdict_text c at v) told_verdict in
      four_is ∙ ap (λ t. t ++ verdict) three_is ∙ ap (λ t. t ++ score ++ verdict) two_is ∙ ap (λ t. t ++ preferred ++ score ++ verdict) one_is
      ∙ four_of old base preferred score verdict ∙ ap (λ t. old ++ t) (sym (node_text c es ps table d n))
