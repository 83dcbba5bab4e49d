-- An action that begins is read just when the words say it.
use Rattle.std.proofs.Common.{◌≡◌, ℕ, true, List, [], ◌∷◌, drop, Some, Ok, refl, sym, ap, ◌∙◌, subst}
use Rattle.std.specs.Prelude.{codes}
use Rattle.crm_lex.specs.Names.{is}
use Rattle.crm_parse.proofs.Binds.{is-true}
use Rattle.cluster_types.specs.declared.cluster.Cluster.{Cluster}
use Rattle.cluster_types.specs.declared.journal.Action.{Action}
use Rattle.cluster_types.specs.declared.journal.Action.TheVariants.{Fence, Probe, Operation, MigrateTo, MigrateFrom}
use Rattle.cluster_types.specs.declared.leaf.Leaf.{Leaf}
use Rattle.cluster_types.specs.declared.leaf.Op.{Op}
use Rattle.cluster_types.specs.declared.leaf.Op.TheVariants.{Start, Stop, Promote, Demote}
use Rattle.cluster_types.specs.declared.leaf.Role.TheVariants as role
use Rattle.cluster_types.specs.declared.node.Node.{Node}
use Rattle.cluster_types.specs.AnswersThatApply.{monitor_action}
use Rattle.names.specs.Names.{leaf_of_word, node_of_word}
use Rattle.faults.specs.Reading.{◌>>=◌}
use Rattle.faults.proofs.Steps.{bind-ok}
use Rattle.input_reading.specs.LineWords.{action_of_op, action_word, action_word_at}
use Rattle.cluster_types.specs.OperationNames.{operation_named}
use Rattle.input_reading.specs.WordPlaces.{WordsOfLine, leaf_at, line_end_at, node_at, number_at, word_at}
use Rattle.input_reading.specs.RunReading.{action_as, begin_line, fence_at_end, migrate_from_at_end, migrate_to_at_end, monitor_at_end, operation_at_end, probe_at_end}
use Rattle.cluster_types.specs.declared.run.RunLine.{RunLine}
use Rattle.cluster_types.specs.declared.run.RunLine.TheVariants as line
use Rattle.input_reading.specs.Grammar.RunForms.{ActionSays, RunSays, SaysOperation, begin_form, fence_form, migrate_from_form, migrate_to_form, monitor_form, operation_form, probe_form, to_demote, to_promote, to_start, to_stop}
use Rattle.input_reading.specs.Grammar.WordValues.{NamesLeaf, NamesNode, WritesPositive}
use Rattle.input_reading.proofs.NamesSaid.{name-read}
use Rattle.input_reading.proofs.NumbersSaid.{count-read}
use Rattle.input_reading.proofs.PlacesSaid.{bind-both, by-form, count-at, end-here, leaf-at, node-at, ok_or-some, onto, word-here}
use Rattle.input_reading.proofs.TablesSaid.{IsOperation, ask-some, demote_named, mapped-some, monitor_named, operation-said, promote_named, start_named, stop_named}

module _ (c : Cluster) where
  fence-said : (words : WordsOfLine) (what : Action) → drop 2 words ≡ codes "fence" ∷ drop 3 words → fence_at_end c words ≡ Ok what → ActionSays c (drop 2 words) what
  unfolding fence_at_end
  fence-said words what first e =
      let (node, named, e1) = bind-ok (node_at c 3 words) _ what e in
      let (end, last, e2) = bind-ok (line_end_at 4 words) _ what e1 in
      let a = node-at c 3 words node named in
      by-form (ActionSays c) (drop 2 words) (codes "fence" ∷ a.word ∷ []) (Fence node) what
      (onto _ first (onto _ a.here (end-here 4 words end last))) e2 (fence_form a.word node a.says)

  probe-said : (words : WordsOfLine) (what : Action) → drop 2 words ≡ codes "probe" ∷ drop 3 words → probe_at_end c words ≡ Ok what → ActionSays c (drop 2 words) what
  unfolding probe_at_end
  probe-said words what first e =
      let (leaf, leaf_named, e1) = bind-ok (leaf_at c 3 words) _ what e in
      let (node, named, e2) = bind-ok (node_at c 4 words) _ what e1 in
      let (end, last, e3) = bind-ok (line_end_at 5 words) _ what e2 in
      let a = leaf-at c 3 words leaf leaf_named in
      let b = node-at c 4 words node named in
      by-form (ActionSays c) (drop 2 words) (codes "probe" ∷ a.word ∷ b.word ∷ []) (Probe leaf node) what
      (onto _ first (onto _ a.here (onto _ b.here (end-here 5 words end last)))) e3 (probe_form a.word b.word leaf node a.says b.says)

  plain-said : (words : WordsOfLine) (what : Action) (word : List ℕ) (op : Op) → SaysOperation word op → drop 2 words ≡ word ∷ drop 3 words
      → operation_at_end c op words ≡ Ok what → ActionSays c (drop 2 words) what
  unfolding operation_at_end
  plain-said words what word op says first e =
      let (leaf, leaf_named, e1) = bind-ok (leaf_at c 3 words) _ what e in
      let (node, named, e2) = bind-ok (node_at c 4 words) _ what e1 in
      let (end, last, e3) = bind-ok (line_end_at 5 words) _ what e2 in
      let a = leaf-at c 3 words leaf leaf_named in
      let b = node-at c 4 words node named in
      by-form (ActionSays c) (drop 2 words) (word ∷ a.word ∷ b.word ∷ []) (Operation op leaf node 0 role.Started) what
      (onto _ first (onto _ a.here (onto _ b.here (end-here 5 words end last)))) e3 (operation_form word a.word b.word op leaf node says a.says b.says)

  monitor-said : (words : WordsOfLine) (what : Action) → drop 2 words ≡ codes "monitor" ∷ drop 3 words → monitor_at_end c words ≡ Ok what → ActionSays c (drop 2 words) what
  unfolding monitor_at_end
  monitor-said words what first e =
      let (leaf, leaf_named, e1) = bind-ok (leaf_at c 3 words) _ what e in
      let (node, named, e2) = bind-ok (node_at c 4 words) _ what e1 in
      let (interval, number, e3) = bind-ok (number_at 5 words) _ what e2 in
      let (end, last, e4) = bind-ok (line_end_at 6 words) _ what e3 in
      let a = leaf-at c 3 words leaf leaf_named in
      let b = node-at c 4 words node named in
      let d = count-at 5 words interval number in
      by-form (ActionSays c) (drop 2 words) (codes "monitor" ∷ a.word ∷ b.word ∷ d.word ∷ []) (monitor_action c leaf node interval) what
      (onto _ first (onto _ a.here (onto _ b.here (onto _ d.here (end-here 6 words end last))))) e4
      (monitor_form a.word b.word d.word leaf node interval a.says b.says d.says)

  migrate_to-said : (words : WordsOfLine) (what : Action) → drop 2 words ≡ codes "migrate_to" ∷ drop 3 words → migrate_to_at_end c words ≡ Ok what
      → ActionSays c (drop 2 words) what
  unfolding migrate_to_at_end
  migrate_to-said words what first e =
      let (leaf, leaf_named, e1) = bind-ok (leaf_at c 3 words) _ what e in
      let (source, from, e2) = bind-ok (node_at c 4 words) _ what e1 in
      let (goal, to, e3) = bind-ok (node_at c 5 words) _ what e2 in
      let (end, last, e4) = bind-ok (line_end_at 6 words) _ what e3 in
      let a = leaf-at c 3 words leaf leaf_named in
      let b = node-at c 4 words source from in
      let d = node-at c 5 words goal to in
      by-form (ActionSays c) (drop 2 words) (codes "migrate_to" ∷ a.word ∷ b.word ∷ d.word ∷ []) (MigrateTo leaf source goal) what
      (onto _ first (onto _ a.here (onto _ b.here (onto _ d.here (end-here 6 words end last))))) e4
      (migrate_to_form a.word b.word d.word leaf source goal a.says b.says d.says)

  migrate_from-said : (words : WordsOfLine) (what : Action) → drop 2 words ≡ codes "migrate_from" ∷ drop 3 words → migrate_from_at_end c words ≡ Ok what
      → ActionSays c (drop 2 words) what
  unfolding migrate_from_at_end
  migrate_from-said words what first e =
      let (leaf, leaf_named, e1) = bind-ok (leaf_at c 3 words) _ what e in
      let (source, from, e2) = bind-ok (node_at c 4 words) _ what e1 in
      let (goal, to, e3) = bind-ok (node_at c 5 words) _ what e2 in
      let (end, last, e4) = bind-ok (line_end_at 6 words) _ what e3 in
      let a = leaf-at c 3 words leaf leaf_named in
      let b = node-at c 4 words source from in
      let d = node-at c 5 words goal to in
      by-form (ActionSays c) (drop 2 words) (codes "migrate_from" ∷ a.word ∷ b.word ∷ d.word ∷ []) (MigrateFrom leaf source goal) what
      (onto _ first (onto _ a.here (onto _ b.here (onto _ d.here (end-here 6 words end last))))) e4
      (migrate_from_form a.word b.word d.word leaf source goal a.says b.says d.says)

  operation-begun : (words : WordsOfLine) (what : Action) (word : List ℕ) (op : Op) → IsOperation word op → drop 2 words ≡ word ∷ drop 3 words
      → action_as c (action_of_op op) words ≡ Ok what → ActionSays c (drop 2 words) what
  operation-begun words what w o start_named first e = plain-said words what (codes "start") Start to_start first e
  operation-begun words what w o stop_named first e = plain-said words what (codes "stop") Stop to_stop first e
  operation-begun words what w o promote_named first e = plain-said words what (codes "promote") Promote to_promote first e
  operation-begun words what w o demote_named first e = plain-said words what (codes "demote") Demote to_demote first e
  operation-begun words what w o monitor_named first e = monitor-said words what first e

  is-first : (words : WordsOfLine) (word text : List ℕ) → drop 2 words ≡ word ∷ drop 3 words → is word text ≡ true → drop 2 words ≡ text ∷ drop 3 words
  is-first words word text here h = here ∙ ap (λ w. w ∷ drop 3 words) (is-true word text h)

  -- the word of an action and what stands behind it
  pub action-said : (words : WordsOfLine) (what : Action) → (action_word_at 2 words >>= (λ form. action_as c form words)) ≡ Ok what → ActionSays c (drop 2 words) what
  unfolding action_word_at action_word
  action-said words what e =
      let (form, at, acts) = bind-ok (action_word_at 2 words) _ what e in
      let (word, there, told) = bind-ok (word_at 2 words) _ form at in
      let here = word-here 2 words word there in
      let named = ok_or-some (action_word word) _ form told in
      ask-some (is word (codes "fence")) _ _ form named
      (λ h s. fence-said words what (is-first words word _ here h) (subst (λ f. action_as c f words ≡ Ok what) (sym s) acts)) (λ named.
      ask-some (is word (codes "probe")) _ _ form named
      (λ h s. probe-said words what (is-first words word _ here h) (subst (λ f. action_as c f words ≡ Ok what) (sym s) acts)) (λ named.
      ask-some (is word (codes "migrate_to")) _ _ form named
      (λ h s. migrate_to-said words what (is-first words word _ here h) (subst (λ f. action_as c f words ≡ Ok what) (sym s) acts)) (λ named.
      ask-some (is word (codes "migrate_from")) _ _ form named
      (λ h s. migrate_from-said words what (is-first words word _ here h) (subst (λ f. action_as c f words ≡ Ok what) (sym s) acts)) (λ named.
      let (op, found, same) = mapped-some action_of_op (operation_named word) form named in
      operation-begun words what word op (operation-said word op found) here (subst (λ f. action_as c f words ≡ Ok what) (sym same) acts)))))

  -- a line of an action that begins
  pub begin-said : (words : WordsOfLine) (read : RunLine) → words ≡ codes "begin" ∷ drop 1 words → begin_line c words ≡ Ok read → RunSays c words read
  unfolding begin_line
  begin-said words read first e =
      let (k, number, e1) = bind-ok (number_at 1 words) _ read e in
      let (form, at, e2) = bind-ok (action_word_at 2 words) _ read e1 in
      let (what, acts, e3) = bind-ok (action_as c form words) _ read e2 in
      let a = count-at 1 words k number in
      let whole : (action_word_at 2 words >>= (λ form. action_as c form words)) ≡ Ok what = bind-both (action_word_at 2 words) _ form what at acts in
      by-form (RunSays c) words (codes "begin" ∷ a.word ∷ drop 2 words) (line.Begin k what) read (onto _ first a.here) e3
      (begin_form a.word (drop 2 words) k what a.says (action-said words what whole))

  pub node-found : (name : List ℕ) (node : ℕ) → NamesNode c name node → node_of_word c name ≡ Some node
  node-found name node n = name-read (λ (n : Node). n.name) name c.nodes node n

  pub leaf-found : (name : List ℕ) (leaf : ℕ) → NamesLeaf c name leaf → leaf_of_word c name ≡ Some leaf
  leaf-found name leaf n = name-read (λ (l : Leaf). l.name) name c.leaves leaf n

  operation-read : (number : List ℕ) (k : ℕ) (word leaf_name name : List ℕ) (op : Op) (leaf node : ℕ) → SaysOperation word op → number_at 1 (codes "begin" ∷ number ∷ word ∷ leaf_name ∷ name ∷ []) ≡ Ok k
      → leaf_at c 3 (codes "begin" ∷ number ∷ word ∷ leaf_name ∷ name ∷ []) ≡ Ok leaf → node_at c 4 (codes "begin" ∷ number ∷ word ∷ leaf_name ∷ name ∷ []) ≡ Ok node
      → begin_line c (codes "begin" ∷ number ∷ word ∷ leaf_name ∷ name ∷ []) ≡ Ok (line.Begin k (Operation op leaf node 0 role.Started))
  unfolding begin_line action_word_at action_word operation_at_end
  operation-read number k w leaf_name name o leaf node to_start n a b = rw (n, a, b) refl
  operation-read number k w leaf_name name o leaf node to_stop n a b = rw (n, a, b) refl
  operation-read number k w leaf_name name o leaf node to_promote n a b = rw (n, a, b) refl
  operation-read number k w leaf_name name o leaf node to_demote n a b = rw (n, a, b) refl

  pub begin-read : (number : List ℕ) (words : WordsOfLine) (k : ℕ) (action : Action) → WritesPositive number k → ActionSays c words action
      → begin_line c (codes "begin" ∷ number ∷ words) ≡ Ok (line.Begin k action)
  unfolding begin_line action_word_at action_word fence_at_end probe_at_end monitor_at_end migrate_to_at_end migrate_from_at_end number_at node_at leaf_at
  begin-read number ws k x n (fence_form name node a) = rw (count-read number k n, node-found name node a) refl
  begin-read number ws k x n (probe_form leaf_name name leaf node a b) = rw (count-read number k n, leaf-found leaf_name leaf a, node-found name node b) refl
  begin-read number ws k x n (operation_form word leaf_name name op leaf node o a b) =
      operation-read number k word leaf_name name op leaf node o (rw (count-read number k n) refl) (rw (leaf-found leaf_name leaf a) refl) (rw (node-found name node b) refl)
  begin-read number ws k x n (monitor_form leaf_name name ms leaf node interval a b d) =
      rw (count-read number k n, leaf-found leaf_name leaf a, node-found name node b, count-read ms interval d) refl
  begin-read number ws k x n (migrate_to_form leaf_name from to leaf source goal a b d) =
      rw (count-read number k n, leaf-found leaf_name leaf a, node-found from source b, node-found to goal d) refl
  begin-read number ws k x n (migrate_from_form leaf_name from to leaf source goal a b d) =
      rw (count-read number k n, leaf-found leaf_name leaf a, node-found from source b, node-found to goal d) refl
