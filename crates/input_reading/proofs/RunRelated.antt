-- A line of a run is read just when its words say what is read.
use Rattle.std.proofs.Common.{◌≡◌, ℕ, Bool, true, false, cond, List, [], ◌∷◌, drop, Result, Ok, Err, refl, sym, ap, ◌∙◌, subst}
use Rattle.std.specs.Prelude.{codes}
use Rattle.std.specs.Option.{ok_or}
use Rattle.crm_lex.specs.Names.{is}
use Rattle.crm_parse.proofs.Binds.{is-true}
use Rattle.cluster_types.specs.declared.cluster.Cluster.{Cluster}
use Rattle.cluster_types.specs.declared.journal.Answer.{Answer}
use Rattle.cluster_types.specs.declared.placement.NoReason.{NoReason}
use Rattle.cluster_types.specs.declared.placement.NoReason.TheVariants.{Held}
use Rattle.cluster_types.specs.declared.run.RunLine.{RunLine}
use Rattle.cluster_types.specs.declared.run.RunLine.TheVariants as line
use Rattle.faults.proofs.Steps.{bind-ok}
use Rattle.input_reading.specs.declared.words.word_cause.WordCause.{WordCause}
use Rattle.input_reading.specs.declared.words.word_cause.WordCause.TheVariants.{BadValue}
use Rattle.input_reading.specs.LineWords.{id_at, line_word, pin_at, reason_of, target_at}
use Rattle.input_reading.specs.WordPlaces.{WordsOfLine, leaf_at, line_end_at, node_at, number_at, word_at}
use Rattle.input_reading.specs.Results.{answer_of}
use Rattle.input_reading.specs.RunReading.{aborted_line, answer_line, complete_line, held_line, lacking_line, line_as, line_of_words, number_alone, pinned_line, plain_line, target_line, transition_line, unexpected_line}
use Rattle.input_reading.specs.Grammar.ResultForms.{ResultSays, end_form, lost_form, quorum_form, report_form, timeout_form, up_form, wait_form}
use Rattle.input_reading.specs.Grammar.RunForms.{RunSays, SaysReason, aborted_form, answer_form, begin_form, complete_form, for_a_rule, for_no_copies, for_no_node, for_no_quorum, for_on_fail, for_stop_all, for_stopped, none_form, pinned_form, target_form, transition_form, unexpected_form}
use Rattle.input_reading.specs.Grammar.WordValues.{WritesPositive}
use Rattle.input_reading.proofs.ActionRelated.{begin-read, begin-said, leaf-found, node-found}
use Rattle.input_reading.proofs.NumbersSaid.{count-read}
use Rattle.input_reading.proofs.PlacesSaid.{begins-with, by-form, choose, count-at, end-here, leaf-at, node-at, ok-one, ok_or-some, onto, word-here}
use Rattle.input_reading.proofs.ResultRelated.{result-read, result-said}
use Rattle.input_reading.proofs.RunWords.{id-at, pin-at, pin-read, reason-said, target-at, target-read}

-- a number and nothing more
record IsAlone (words : WordsOfLine) (k : ℕ) : Type 0 where
  word : List ℕ
  behind : drop 1 words ≡ word ∷ []
  says : WritesPositive word k

alone-said : (words : WordsOfLine) (k : ℕ) → number_alone words ≡ Ok k → IsAlone words k
unfolding number_alone
alone-said words k e =
    let (n, number, e1) = bind-ok (number_at 1 words) _ k e in
    let (end, last, e2) = bind-ok (line_end_at 2 words) _ k e1 in
    let same : n ≡ k = ok-one n k e2 in
    let a = count-at 1 words n number in
    record { word = a.word; behind = onto _ a.here (end-here 2 words end last); says = subst (WritesPositive a.word) same a.says }

module _ (c : Cluster) where
  transition-said : (words : WordsOfLine) (read : RunLine) → words ≡ codes "transition" ∷ drop 1 words → transition_line words ≡ Ok read → RunSays c words read
  unfolding transition_line
  transition-said words read first e =
      let (k, alone, e1) = bind-ok (number_alone words) _ read e in
      let a = alone-said words k alone in
      by-form (RunSays c) words (codes "transition" ∷ a.word ∷ []) (line.Transition k) read (onto _ first a.behind) e1 (transition_form a.word k a.says)

  complete-said : (words : WordsOfLine) (read : RunLine) → words ≡ codes "complete" ∷ drop 1 words → complete_line words ≡ Ok read → RunSays c words read
  unfolding complete_line
  complete-said words read first e =
      let (k, alone, e1) = bind-ok (number_alone words) _ read e in
      let a = alone-said words k alone in
      by-form (RunSays c) words (codes "complete" ∷ a.word ∷ []) (line.Complete k) read (onto _ first a.behind) e1 (complete_form a.word k a.says)

  aborted-said : (words : WordsOfLine) (read : RunLine) → words ≡ codes "aborted" ∷ drop 1 words → aborted_line words ≡ Ok read → RunSays c words read
  unfolding aborted_line
  aborted-said words read first e =
      let (k, alone, e1) = bind-ok (number_alone words) _ read e in
      let a = alone-said words k alone in
      by-form (RunSays c) words (codes "aborted" ∷ a.word ∷ []) (line.Aborted k) read (onto _ first a.behind) e1 (aborted_form a.word k a.says)

  unexpected-said : (words : WordsOfLine) (read : RunLine) → words ≡ codes "unexpected" ∷ drop 1 words → unexpected_line words ≡ Ok read → RunSays c words read
  unfolding unexpected_line
  unexpected-said words read first e =
      let (k, alone, e1) = bind-ok (number_alone words) _ read e in
      let a = alone-said words k alone in
      by-form (RunSays c) words (codes "unexpected" ∷ a.word ∷ []) (line.Unexpected k) read (onto _ first a.behind) e1 (unexpected_form a.word k a.says)

  pinned-said : (words : WordsOfLine) (read : RunLine) → words ≡ codes "pinned" ∷ drop 1 words → pinned_line c words ≡ Ok read → RunSays c words read
  unfolding pinned_line
  pinned-said words read first e =
      let (leaf, named, e1) = bind-ok (leaf_at c 1 words) _ read e in
      let (pin, pinned, e2) = bind-ok (pin_at 2 words) _ read e1 in
      let (end, last, e3) = bind-ok (line_end_at 3 words) _ read e2 in
      let a = leaf-at c 1 words leaf named in
      let b = pin-at 2 words pin pinned in
      by-form (RunSays c) words (codes "pinned" ∷ a.word ∷ b.word ∷ []) (line.Pinned leaf pin) read
      (onto _ first (onto _ a.here (onto _ b.here (end-here 3 words end last)))) e3 (pinned_form a.word b.word leaf pin a.says b.says)

  goal-said : (words : WordsOfLine) (read : RunLine) → words ≡ codes "target" ∷ drop 1 words → target_line c words ≡ Ok read → RunSays c words read
  unfolding target_line
  goal-said words read first e =
      let (leaf, leaf_named, e1) = bind-ok (leaf_at c 1 words) _ read e in
      let (node, named, e2) = bind-ok (node_at c 2 words) _ read e1 in
      let (goal, aimed, e3) = bind-ok (target_at 3 words) _ read e2 in
      let (end, last, e4) = bind-ok (line_end_at 4 words) _ read e3 in
      let a = leaf-at c 1 words leaf leaf_named in
      let b = node-at c 2 words node named in
      let d = target-at 3 words goal aimed in
      by-form (RunSays c) words (codes "target" ∷ a.word ∷ b.word ∷ d.word ∷ []) (line.Goal leaf node goal) read
      (onto _ first (onto _ a.here (onto _ b.here (onto _ d.here (end-here 4 words end last))))) e4
      (target_form a.word b.word d.word leaf node goal a.says b.says d.says)

  held-said : (words : WordsOfLine) (leaf : ℕ) (read : RunLine) → drop 2 words ≡ codes "Held" ∷ drop 3 words → held_line leaf words ≡ Ok read
      → (reason : NoReason) × SaysReason (drop 2 words) reason × (line.Lacking leaf reason ≡ read)
  unfolding held_line
  held-said words leaf read here e =
      let (id, at, e1) = bind-ok (id_at 3 words) _ read e in
      let (end, last, e2) = bind-ok (line_end_at 4 words) _ read e1 in
      let rule = id-at 3 words id at in
      let whole : drop 2 words ≡ codes "Held" ∷ id ∷ [] = onto _ here (onto _ rule.0 (end-here 4 words end last)) in
      (Held id, subst (λ ws. SaysReason ws (Held id)) (sym whole) (for_a_rule id rule.1), ok-one _ read e2)

  reason-alone : (words : WordsOfLine) (leaf : ℕ) (text : List ℕ) (read : RunLine) → drop 2 words ≡ text ∷ drop 3 words → plain_line leaf text words ≡ Ok read
      → (reason : NoReason) × SaysReason (drop 2 words) reason × (line.Lacking leaf reason ≡ read)
  unfolding plain_line
  reason-alone words leaf text read here e =
      let (reason, told, e1) = bind-ok (ok_or (reason_of text) BadValue) _ read e in
      let (end, last, e2) = bind-ok (line_end_at 3 words) _ read e1 in
      let whole : drop 2 words ≡ text ∷ [] = onto _ here (end-here 3 words end last) in
      (reason, subst (λ ws. SaysReason ws reason) (sym whole) (reason-said text reason (ok_or-some (reason_of text) BadValue reason told)), ok-one _ read e2)

  reason-case : (words : WordsOfLine) (leaf : ℕ) (text : List ℕ) (read : RunLine) (test : Bool) → is text (codes "Held") ≡ test → drop 2 words ≡ text ∷ drop 3 words
      → cond test (held_line leaf words) (plain_line leaf text words) ≡ Ok read → (reason : NoReason) × SaysReason (drop 2 words) reason × (line.Lacking leaf reason ≡ read)
  reason-case words leaf text read true t here e =
      let held : drop 2 words ≡ codes "Held" ∷ drop 3 words = here ∙ ap (λ w. w ∷ drop 3 words) (is-true text (codes "Held") t) in
      held-said words leaf read held e
  reason-case words leaf text read false t here e = reason-alone words leaf text read here e

  none-said : (words : WordsOfLine) (read : RunLine) → words ≡ codes "none" ∷ drop 1 words → lacking_line c words ≡ Ok read → RunSays c words read
  unfolding lacking_line
  none-said words read first e =
      let (leaf, named, e1) = bind-ok (leaf_at c 1 words) _ read e in
      let (text, there, e2) = bind-ok (word_at 2 words) _ read e1 in
      let a = leaf-at c 1 words leaf named in
      let (reason, says, same) = reason-case words leaf text read (is text (codes "Held")) refl (word-here 2 words text there) e2 in
      by-form (RunSays c) words (codes "none" ∷ a.word ∷ drop 2 words) (line.Lacking leaf reason) read (onto _ first a.here) (ap Ok same)
      (none_form a.word (drop 2 words) leaf reason a.says says)

  answer-said : (words : WordsOfLine) (read : RunLine) → answer_line c words ≡ Ok read → RunSays c words read
  unfolding answer_line
  answer-said words read e =
      let (given, answered, e1) = bind-ok (answer_of c 0 words) _ read e in
      subst (RunSays c words) (ok-one _ read e1) (answer_form words given (result-said c 0 words given answered))

  by-first : (words : WordsOfLine) (first : List ℕ) (read : RunLine) → words ≡ first ∷ drop 1 words → line_as c (line_word first) words ≡ Ok read → RunSays c words read
  unfolding line_word
  by-first words first read here e =
      choose (is first (codes "transition")) _ _ (λ w. line_as c w words) read e (λ h f. transition-said words read (begins-with words first _ here h) f) (λ e.
      choose (is first (codes "pinned")) _ _ (λ w. line_as c w words) read e (λ h f. pinned-said words read (begins-with words first _ here h) f) (λ e.
      choose (is first (codes "target")) _ _ (λ w. line_as c w words) read e (λ h f. goal-said words read (begins-with words first _ here h) f) (λ e.
      choose (is first (codes "none")) _ _ (λ w. line_as c w words) read e (λ h f. none-said words read (begins-with words first _ here h) f) (λ e.
      choose (is first (codes "begin")) _ _ (λ w. line_as c w words) read e (λ h f. begin-said c words read (begins-with words first _ here h) f) (λ e.
      choose (is first (codes "complete")) _ _ (λ w. line_as c w words) read e (λ h f. complete-said words read (begins-with words first _ here h) f) (λ e.
      choose (is first (codes "aborted")) _ _ (λ w. line_as c w words) read e (λ h f. aborted-said words read (begins-with words first _ here h) f) (λ e.
      choose (is first (codes "unexpected")) _ _ (λ w. line_as c w words) read e (λ h f. unexpected-said words read (begins-with words first _ here h) f) (λ e.
      answer-said words read e))))))))

  -- what is read says it
  pub run-said : (words : WordsOfLine) (read : RunLine) → line_of_words c words ≡ Ok read → RunSays c words read
  unfolding line_of_words
  run-said words read e =
      let (first, at, rest) = bind-ok (word_at 0 words) _ read e in
      by-first words first read (word-here 0 words first at) rest

  none-read : (leaf_name : List ℕ) (words : WordsOfLine) (leaf : ℕ) (reason : NoReason) → leaf_at c 1 (codes "none" ∷ leaf_name ∷ words) ≡ Ok leaf → SaysReason words reason
      → lacking_line c (codes "none" ∷ leaf_name ∷ words) ≡ Ok (line.Lacking leaf reason)
  unfolding lacking_line plain_line held_line reason_of id_at
  none-read leaf_name ws leaf r a for_no_copies = rw a refl
  none-read leaf_name ws leaf r a for_stopped = rw a refl
  none-read leaf_name ws leaf r a for_on_fail = rw a refl
  none-read leaf_name ws leaf r a for_stop_all = rw a refl
  none-read leaf_name ws leaf r a for_no_quorum = rw a refl
  none-read leaf_name ws leaf r a for_no_node = rw a refl
  none-read leaf_name ws leaf r a (for_a_rule rule h) = rw (a, h) refl

  answered-by : (given : Answer) (words : WordsOfLine) → answer_of c 0 words ≡ Ok given → answer_line c words ≡ Ok (line.Taken given)
  unfolding answer_line
  answered-by given words e = rw e refl

  -- an answer begins with no word of another line
  answer-read : (words : WordsOfLine) (given : Answer) → ResultSays c 0 words given → answer_line c words ≡ Ok (line.Taken given) → line_of_words c words ≡ Ok (line.Taken given)
  unfolding line_of_words line_word
  answer-read ws g (end_form number code k exit n m) e = e
  answer-read ws g (timeout_form number k n) e = e
  answer-read ws g (lost_form name node n) e = e
  answer-read ws g (up_form name node n) e = e
  answer-read ws g (quorum_form word now s) e = e
  answer-read ws g (wait_form number seconds n few) e = e
  answer-read ws g (report_form name leaf_name number code node leaf interval exit a b n m) e = e

  -- and what says it is read
  pub run-read : (words : WordsOfLine) (read : RunLine) → RunSays c words read → line_of_words c words ≡ Ok read
  unfolding line_of_words line_word transition_line complete_line aborted_line unexpected_line number_alone pinned_line pin_at target_line target_at number_at node_at leaf_at
  run-read ws x (transition_form number k n) = rw (count-read number k n) refl
  run-read ws x (pinned_form leaf_name word leaf pin a p) = rw (leaf-found c leaf_name leaf a, pin-read word pin p) refl
  run-read ws x (target_form leaf_name name word leaf node goal a b t) = rw (leaf-found c leaf_name leaf a, node-found c name node b, target-read word goal t) refl
  run-read ws x (none_form leaf_name words leaf reason a s) = none-read leaf_name words leaf reason (rw (leaf-found c leaf_name leaf a) refl) s
  run-read ws x (begin_form number words k action n a) = begin-read c number words k action n a
  run-read ws x (complete_form number k n) = rw (count-read number k n) refl
  run-read ws x (aborted_form number k n) = rw (count-read number k n) refl
  run-read ws x (unexpected_form number at n) = rw (count-read number at n) refl
  run-read ws x (answer_form words given s) = answer-read words given s (answered-by given words (result-read c 0 words given s))

  -- a line says one thing
  pub one-line : (words : WordsOfLine) (one other : RunLine) → RunSays c words one → RunSays c words other → one ≡ other
  one-line words one other s t = ok-one one other (sym (run-read words one s) ∙ run-read words other t)

  refused-case : (words : WordsOfLine) (read : Result RunLine WordCause) → line_of_words c words ≡ read → ((line : RunLine) → RunSays c words line → ⊥)
      → (cause : WordCause) × (line_of_words c words ≡ Err cause)
  refused-case words (Ok line) e h = absurd (h line (run-said words line e))
  refused-case words (Err cause) e h = (cause, e)

  -- a line that says nothing is refused
  pub no-line : (words : WordsOfLine) → ((line : RunLine) → RunSays c words line → ⊥) → (cause : WordCause) × (line_of_words c words ≡ Err cause)
  no-line words h = refused-case words (line_of_words c words) refl h

  -- and a line that is refused says nothing
  pub no-line-said : (words : WordsOfLine) (cause : WordCause) (line : RunLine) → line_of_words c words ≡ Err cause → RunSays c words line → ⊥
  no-line-said words cause line e s = let f : Err cause ≡ Ok line = sym e ∙ run-read words line s in cc
