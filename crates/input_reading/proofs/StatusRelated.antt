-- A line of a status is read just when its words say what is read.
use Rattle.std.proofs.Common.{◌≡◌, ℕ, suc, Bool, true, false, cond, List, [], ◌∷◌, drop, Some, Result, Ok, Err, refl, ap, ◌∙◌, subst}
use Rattle.std.specs.Prelude.{codes}
use Rattle.std.specs.Option.{ok_or}
use Rattle.crm_lex.specs.Names.{is}
use Rattle.score.specs.ScoreText.{read_score}
use Rattle.cluster_types.specs.declared.cluster.Cluster.{Cluster}
use Rattle.cluster_types.specs.declared.journal.Event.TheVariants.{Cleanup, Ended}
use Rattle.cluster_types.specs.declared.leaf.Op.{Op}
use Rattle.cluster_types.specs.Fields.{is_promotable}
use Rattle.faults.specs.Reading.{◌>>=◌}
use Rattle.faults.proofs.Steps.{bind-ok}
use Rattle.input_reading.specs.declared.words.word_cause.WordCause.{WordCause}
use Rattle.input_reading.specs.declared.words.word_cause.WordCause.TheVariants.{BadValue}
use Rattle.input_reading.specs.declared.status.line_meaning.NodeWord.{NodeWord}
use Rattle.input_reading.specs.declared.status.line_meaning.Fact.{Fact}
use Rattle.input_reading.specs.declared.status.line_meaning.Fact.TheVariants.{Now, Quorum, Node, Past, Promoting}
use Rattle.cluster_types.specs.OperationNames.{operation_named}
use Rattle.input_reading.specs.WordPlaces.{WordsOfLine, leaf_at, line_end_at, node_at, seconds_at, word_at, yes_at}
use Rattle.input_reading.specs.Status.{cleanup_line, history_action, interval_as, interval_at, may_have, node_line, node_word, now_line, op_at, op_line, outcome_at, outcome_of, promotable_at, promotion_line, quorum_line, score_at, state_at, status_word, told_as, told_of}
use Rattle.input_reading.specs.Grammar.StatusForms.{SaysOutcome, SaysState, StatusSays, cleanup_form, node_form, now_form, op_form, promotion_form, quorum_form}
use Rattle.input_reading.proofs.PlacesSaid.{IsAt, ask, begins-with, by-form, end-here, leaf-at, node-at, ok-one, ok_or-some, onto, seconds-at, table-at, whether-at, word-here}
use Rattle.input_reading.proofs.StatusWords.{ended-said, outcome-said, state-said}
use Rattle.input_reading.proofs.TablesSaid.{IsOperation, operation-said}

module _ (c : Cluster) where
  now-said : (words : WordsOfLine) (told : Fact) → words ≡ codes "now" ∷ drop 1 words → now_line words ≡ Ok told → StatusSays c words told
  unfolding now_line
  now-said words told first e =
      let (seconds, number, e1) = bind-ok (seconds_at 1 words) _ told e in
      let (end, last, e2) = bind-ok (line_end_at 2 words) _ told e1 in
      let a = seconds-at 1 words seconds number in
      by-form (StatusSays c) words (codes "now" ∷ a.word ∷ []) (Now seconds) told (onto _ first (onto _ a.here (end-here 2 words end last))) e2
      (now_form a.word seconds a.says)

  quorum-said : (words : WordsOfLine) (told : Fact) → words ≡ codes "quorum" ∷ drop 1 words → quorum_line words ≡ Ok told → StatusSays c words told
  unfolding quorum_line
  quorum-said words told first e =
      let (now, whether, e1) = bind-ok (yes_at 1 words) _ told e in
      let (end, last, e2) = bind-ok (line_end_at 2 words) _ told e1 in
      let a = whether-at 1 words now whether in
      by-form (StatusSays c) words (codes "quorum" ∷ a.word ∷ []) (Quorum now) told (onto _ first (onto _ a.here (end-here 2 words end last))) e2
      (quorum_form a.word now a.says)

  state-at : (place : ℕ) (words : WordsOfLine) (state : NodeWord) → state_at place words ≡ Ok state → IsAt SaysState place words state
  unfolding state_at
  state-at place words state e = table-at SaysState node_word BadValue state-said place words state e

  node-said : (words : WordsOfLine) (told : Fact) → words ≡ codes "node" ∷ drop 1 words → node_line c words ≡ Ok told → StatusSays c words told
  unfolding node_line
  node-said words told first e =
      let (node, named, e1) = bind-ok (node_at c 1 words) _ told e in
      let (state, stated, e2) = bind-ok (state_at 2 words) _ told e1 in
      let (end, last, e3) = bind-ok (line_end_at 3 words) _ told e2 in
      let a = node-at c 1 words node named in
      let b = state-at 2 words state stated in
      by-form (StatusSays c) words (codes "node" ∷ a.word ∷ b.word ∷ []) (Node node state) told
      (onto _ first (onto _ a.here (onto _ b.here (end-here 3 words end last)))) e3 (node_form a.word b.word node state a.says b.says)

  fitting-case : (op given : Op) (test : Bool) → (let read : Result Op WordCause = cond test (Ok op) (Err BadValue) in read) ≡ Ok given → (op ≡ given) × (test ≡ true)
  fitting-case op given true e = (ok-one op given e, refl)
  fitting-case op given false e = cc

  -- an operation that the leaf may have, by its word
  record IsOpAt (leaf place : ℕ) (words : WordsOfLine) (op : Op) : Type 0 where
    word : List ℕ
    here : drop place words ≡ word ∷ drop (suc place) words
    named : IsOperation word op
    may : may_have c leaf op ≡ true

  op-at : (leaf place : ℕ) (words : WordsOfLine) (op : Op) → op_at c leaf place words ≡ Ok op → IsOpAt leaf place words op
  unfolding op_at
  op-at leaf place words op e =
      let (word, there, e1) = bind-ok (word_at place words) _ op e in
      let (found, named, e2) = bind-ok (ok_or (operation_named word) BadValue) _ op e1 in
      let fits = fitting-case found op (may_have c leaf found) e2 in
      record {
        word = word;
        here = word-here place words word there;
        named = subst (IsOperation word) fits.0 (operation-said word found (ok_or-some (operation_named word) BadValue found named));
        may = subst (λ o. may_have c leaf o ≡ true) fits.0 fits.1;
      }

  interval-at : (op : Op) (place : ℕ) (words : WordsOfLine) (n : ℕ) → interval_at op place words ≡ Ok n → IsAt (λ word m. interval_as op word ≡ Some m) place words n
  unfolding interval_at
  interval-at op place words n e = table-at (λ word m. interval_as op word ≡ Some m) (interval_as op) BadValue (λ word m h. h) place words n e

  op-said : (words : WordsOfLine) (told : Fact) → words ≡ codes "op" ∷ drop 1 words → op_line c words ≡ Ok told → StatusSays c words told
  unfolding op_line outcome_at
  op-said words told first e =
      let (node, node_named, e1) = bind-ok (node_at c 1 words) _ told e in
      let (leaf, leaf_named, e2) = bind-ok (leaf_at c 2 words) _ told e1 in
      let (op, op_named, e3) = bind-ok (op_at c leaf 3 words) _ told e2 in
      let (interval, number, e4) = bind-ok (interval_at op 4 words) _ told e3 in
      let (outcome, ended, e5) = bind-ok (outcome_at 5 words) _ told e4 in
      let (moment, seconds, e6) = bind-ok (seconds_at 6 words) _ told e5 in
      let (end, last, e7) = bind-ok (line_end_at 7 words) _ told e6 in
      let a = node-at c 1 words node node_named in
      let b = leaf-at c 2 words leaf leaf_named in
      let o = op-at leaf 3 words op op_named in
      let i = interval-at op 4 words interval number in
      let x = table-at SaysOutcome outcome_of BadValue outcome-said 5 words outcome ended in
      let s = seconds-at 6 words moment seconds in
      by-form (StatusSays c) words (codes "op" ∷ a.word ∷ b.word ∷ o.word ∷ i.word ∷ x.word ∷ s.word ∷ [])
      (Past (Ended 0 (history_action c op leaf node interval) outcome moment)) told
      (onto _ first (onto _ a.here (onto _ b.here (onto _ o.here (onto _ i.here (onto _ x.here (onto _ s.here (end-here 7 words end last)))))))) e7
      (op_form a.word b.word o.word i.word x.word s.word node leaf (history_action c op leaf node interval) outcome moment a.says b.says
      (ended-said c leaf node o.word i.word op interval o.named o.may i.says) x.says s.says)

  cleanup-said : (words : WordsOfLine) (told : Fact) → words ≡ codes "cleanup" ∷ drop 1 words → cleanup_line c words ≡ Ok told → StatusSays c words told
  unfolding cleanup_line
  cleanup-said words told first e =
      let (node, node_named, e1) = bind-ok (node_at c 1 words) _ told e in
      let (leaf, leaf_named, e2) = bind-ok (leaf_at c 2 words) _ told e1 in
      let (end, last, e3) = bind-ok (line_end_at 3 words) _ told e2 in
      let a = node-at c 1 words node node_named in
      let b = leaf-at c 2 words leaf leaf_named in
      by-form (StatusSays c) words (codes "cleanup" ∷ a.word ∷ b.word ∷ []) (Past (Cleanup leaf node)) told
      (onto _ first (onto _ a.here (onto _ b.here (end-here 3 words end last)))) e3 (cleanup_form a.word b.word node leaf a.says b.says)

  promotable-case : (leaf given : ℕ) (test : Bool) → (let read : Result ℕ WordCause = cond test (Ok leaf) (Err BadValue) in read) ≡ Ok given → (leaf ≡ given) × (test ≡ true)
  promotable-case leaf given true e = (ok-one leaf given e, refl)
  promotable-case leaf given false e = cc

  promotable-at : (place : ℕ) (words : WordsOfLine) (leaf : ℕ) → promotable_at c place words ≡ Ok leaf → (leaf_at c place words ≡ Ok leaf) × (is_promotable c leaf ≡ true)
  unfolding promotable_at
  promotable-at place words leaf e =
      let (found, named, e1) = bind-ok (leaf_at c place words) _ leaf e in
      let is_so = promotable-case found leaf (is_promotable c found) e1 in
      (named ∙ ap Ok is_so.0, subst (λ r. is_promotable c r ≡ true) is_so.0 is_so.1)

  promotion-said : (words : WordsOfLine) (told : Fact) → words ≡ codes "promotion" ∷ drop 1 words → promotion_line c words ≡ Ok told → StatusSays c words told
  unfolding promotion_line score_at
  promotion-said words told first e =
      let (node, node_named, e1) = bind-ok (node_at c 1 words) _ told e in
      let (leaf, leaf_named, e2) = bind-ok (promotable_at c 2 words) _ told e1 in
      let (score, scored, e3) = bind-ok (score_at 3 words) _ told e2 in
      let (end, last, e4) = bind-ok (line_end_at 4 words) _ told e3 in
      let is_so = promotable-at 2 words leaf leaf_named in
      let a = node-at c 1 words node node_named in
      let b = leaf-at c 2 words leaf is_so.0 in
      let s = table-at (λ word m. read_score word ≡ Some m) read_score BadValue (λ word m h. h) 3 words score scored in
      by-form (StatusSays c) words (codes "promotion" ∷ a.word ∷ b.word ∷ s.word ∷ []) (Promoting (record { leaf = leaf; node = node; score = score })) told
      (onto _ first (onto _ a.here (onto _ b.here (onto _ s.here (end-here 4 words end last))))) e4
      (promotion_form a.word b.word s.word node leaf score a.says b.says is_so.1 s.says)

  by-first : (words : WordsOfLine) (first : List ℕ) (told : Fact) → words ≡ first ∷ drop 1 words
      → (status_word first >>= (λ form. told_as c form words)) ≡ Ok told → StatusSays c words told
  unfolding status_word
  by-first words first told here e =
      ask (is first (codes "now")) _ _ _ told e (λ h f. now-said words told (begins-with words first _ here h) f) (λ e.
      ask (is first (codes "quorum")) _ _ _ told e (λ h f. quorum-said words told (begins-with words first _ here h) f) (λ e.
      ask (is first (codes "node")) _ _ _ told e (λ h f. node-said words told (begins-with words first _ here h) f) (λ e.
      ask (is first (codes "op")) _ _ _ told e (λ h f. op-said words told (begins-with words first _ here h) f) (λ e.
      ask (is first (codes "cleanup")) _ _ _ told e (λ h f. cleanup-said words told (begins-with words first _ here h) f) (λ e.
      ask (is first (codes "promotion")) _ _ _ told e (λ h f. promotion-said words told (begins-with words first _ here h) f) (λ e. absurd (cc)))))))

  -- what is read says it
  pub status-said : (words : WordsOfLine) (told : Fact) → told_of c words ≡ Ok told → StatusSays c words told
  unfolding told_of
  status-said words told e =
      let (first, at, rest) = bind-ok (word_at 0 words) _ told e in
      by-first words first told (word-here 0 words first at) rest
