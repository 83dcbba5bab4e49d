-- A result line is read just when its words say what is read.
use Rattle.std.proofs.Common.{◌≡◌, ℕ, ◌+◌, ◌<◌, ◌^◌, nat_lt, Bool, true, false, cond, List, [], ◌∷◌, drop, Result, Ok, Err, refl, sym, ◌∙◌, arith}
use Rattle.std.specs.Prelude.{codes}
use Rattle.std.proofs.lemmas.Bool.Decides.{nat_tests}
use Rattle.crm_lex.specs.Names.{is}
use Rattle.cluster_types.specs.declared.cluster.Cluster.{Cluster}
use Rattle.cluster_types.specs.declared.journal.Answer.{Answer}
use Rattle.cluster_types.specs.declared.journal.Answer.TheVariants as answer
use Rattle.cluster_types.specs.declared.leaf.Leaf.{Leaf}
use Rattle.cluster_types.specs.declared.node.Node.{Node}
use Rattle.faults.specs.Reading.{◌>>=◌}
use Rattle.faults.proofs.Steps.{bind-ok}
use Rattle.input_reading.specs.declared.words.word_cause.WordCause.{WordCause}
use Rattle.input_reading.specs.declared.words.word_cause.WordCause.TheVariants.{BadValue}
use Rattle.input_reading.specs.WordPlaces.{WordsOfLine, code_at, leaf_at, line_end_at, node_at, number_at, seconds_at, word_at, yes_at}
use Rattle.input_reading.specs.Results.{answer_as, answer_of, end_line, in_time, lost_line, quorum_answer, report_line, result_word, timeout_line, up_line, wait_line}
use Rattle.input_reading.specs.Grammar.ResultForms.{ResultSays, end_form, lost_form, quorum_form, report_form, timeout_form, up_form, wait_form}
use Rattle.input_reading.proofs.NamesSaid.{name-read}
use Rattle.input_reading.proofs.NumbersSaid.{count-read, number-read, whether-read}
use Rattle.input_reading.proofs.PlacesSaid.{ask, begins-with, by-form, code-at, count-at, end-here, leaf-at, node-at, ok-one, onto, seconds-at, whether-at, word-here}

module _ (c : Cluster) (moment : ℕ) where
  end-said : (words : WordsOfLine) (given : Answer) → words ≡ codes "end" ∷ drop 1 words → end_line words ≡ Ok given → ResultSays c moment words given
  unfolding end_line
  end-said words given first e =
      let (k, number, e1) = bind-ok (number_at 1 words) _ given e in
      let (exit, code, e2) = bind-ok (code_at 2 words) _ given e1 in
      let (end, last, e3) = bind-ok (line_end_at 3 words) _ given e2 in
      let a = count-at 1 words k number in
      let b = code-at 2 words exit code in
      by-form (ResultSays c moment) words (codes "end" ∷ a.word ∷ b.word ∷ []) (answer.End k exit) given
      (onto _ first (onto _ a.here (onto _ b.here (end-here 3 words end last)))) e3
      (end_form a.word b.word k exit a.says b.says)

  timeout-said : (words : WordsOfLine) (given : Answer) → words ≡ codes "timeout" ∷ drop 1 words → timeout_line words ≡ Ok given → ResultSays c moment words given
  unfolding timeout_line
  timeout-said words given first e =
      let (k, number, e1) = bind-ok (number_at 1 words) _ given e in
      let (end, last, e2) = bind-ok (line_end_at 2 words) _ given e1 in
      let a = count-at 1 words k number in
      by-form (ResultSays c moment) words (codes "timeout" ∷ a.word ∷ []) (answer.Timeout k) given
      (onto _ first (onto _ a.here (end-here 2 words end last))) e2 (timeout_form a.word k a.says)

  lost-said : (words : WordsOfLine) (given : Answer) → words ≡ codes "lost" ∷ drop 1 words → lost_line c words ≡ Ok given → ResultSays c moment words given
  unfolding lost_line
  lost-said words given first e =
      let (node, named, e1) = bind-ok (node_at c 1 words) _ given e in
      let (end, last, e2) = bind-ok (line_end_at 2 words) _ given e1 in
      let a = node-at c 1 words node named in
      by-form (ResultSays c moment) words (codes "lost" ∷ a.word ∷ []) (answer.Lost node) given
      (onto _ first (onto _ a.here (end-here 2 words end last))) e2 (lost_form a.word node a.says)

  up-said : (words : WordsOfLine) (given : Answer) → words ≡ codes "up" ∷ drop 1 words → up_line c words ≡ Ok given → ResultSays c moment words given
  unfolding up_line
  up-said words given first e =
      let (node, named, e1) = bind-ok (node_at c 1 words) _ given e in
      let (end, last, e2) = bind-ok (line_end_at 2 words) _ given e1 in
      let a = node-at c 1 words node named in
      by-form (ResultSays c moment) words (codes "up" ∷ a.word ∷ []) (answer.Up node) given
      (onto _ first (onto _ a.here (end-here 2 words end last))) e2 (up_form a.word node a.says)

  quorum-said : (words : WordsOfLine) (given : Answer) → words ≡ codes "quorum" ∷ drop 1 words → quorum_answer words ≡ Ok given → ResultSays c moment words given
  unfolding quorum_answer
  quorum-said words given first e =
      let (now, whether, e1) = bind-ok (yes_at 1 words) _ given e in
      let (end, last, e2) = bind-ok (line_end_at 2 words) _ given e1 in
      let a = whether-at 1 words now whether in
      by-form (ResultSays c moment) words (codes "quorum" ∷ a.word ∷ []) (answer.Quorum now) given
      (onto _ first (onto _ a.here (end-here 2 words end last))) e2 (quorum_form a.word now a.says)

  in_time-case : (seconds : ℕ) (within : Unit {0}) (test : Bool) → nat_lt (moment + seconds) (2 ^ 40) ≡ test
      → (let read : Result (Unit {0}) WordCause = cond test (Ok tt) (Err BadValue) in read) ≡ Ok within → moment + seconds < 2 ^ 40
  in_time-case seconds within true t e = grind (arith, nat_tests)
  in_time-case seconds within false t e = cc

  wait-said : (words : WordsOfLine) (given : Answer) → words ≡ codes "wait" ∷ drop 1 words → wait_line moment words ≡ Ok given → ResultSays c moment words given
  unfolding wait_line
  wait-said words given first e =
      let (seconds, number, e1) = bind-ok (seconds_at 1 words) _ given e in
      let (within, few, e2) = bind-ok (in_time moment seconds) _ given e1 in
      let (end, last, e3) = bind-ok (line_end_at 2 words) _ given e2 in
      let a = seconds-at 1 words seconds number in
      by-form (ResultSays c moment) words (codes "wait" ∷ a.word ∷ []) (answer.Wait seconds) given
      (onto _ first (onto _ a.here (end-here 2 words end last))) e3
      (wait_form a.word seconds a.says (in_time-case seconds within (nat_lt (moment + seconds) (2 ^ 40)) refl few))

  report-said : (words : WordsOfLine) (given : Answer) → words ≡ codes "report" ∷ drop 1 words → report_line c words ≡ Ok given → ResultSays c moment words given
  unfolding report_line
  report-said words given first e =
      let (node, named, e1) = bind-ok (node_at c 1 words) _ given e in
      let (leaf, leaf_named, e2) = bind-ok (leaf_at c 2 words) _ given e1 in
      let (interval, number, e3) = bind-ok (number_at 3 words) _ given e2 in
      let (exit, code, e4) = bind-ok (code_at 4 words) _ given e3 in
      let (end, last, e5) = bind-ok (line_end_at 5 words) _ given e4 in
      let a = node-at c 1 words node named in
      let b = leaf-at c 2 words leaf leaf_named in
      let d = count-at 3 words interval number in
      let f = code-at 4 words exit code in
      by-form (ResultSays c moment) words (codes "report" ∷ a.word ∷ b.word ∷ d.word ∷ f.word ∷ []) (answer.Report node leaf interval exit) given
      (onto _ first (onto _ a.here (onto _ b.here (onto _ d.here (onto _ f.here (end-here 5 words end last)))))) e5
      (report_form a.word b.word d.word f.word node leaf interval exit a.says b.says d.says f.says)

  by-first : (words : WordsOfLine) (first : List ℕ) (given : Answer) → words ≡ first ∷ drop 1 words
      → (result_word first >>= (λ form. answer_as c moment form words)) ≡ Ok given → ResultSays c moment words given
  unfolding result_word
  by-first words first given here e =
      ask (is first (codes "end")) _ _ _ given e (λ h f. end-said words given (begins-with words first _ here h) f) (λ e.
      ask (is first (codes "timeout")) _ _ _ given e (λ h f. timeout-said words given (begins-with words first _ here h) f) (λ e.
      ask (is first (codes "lost")) _ _ _ given e (λ h f. lost-said words given (begins-with words first _ here h) f) (λ e.
      ask (is first (codes "up")) _ _ _ given e (λ h f. up-said words given (begins-with words first _ here h) f) (λ e.
      ask (is first (codes "quorum")) _ _ _ given e (λ h f. quorum-said words given (begins-with words first _ here h) f) (λ e.
      ask (is first (codes "wait")) _ _ _ given e (λ h f. wait-said words given (begins-with words first _ here h) f) (λ e.
      ask (is first (codes "report")) _ _ _ given e (λ h f. report-said words given (begins-with words first _ here h) f) (λ e. absurd (cc))))))))

  -- what is read says it
  pub result-said : (words : WordsOfLine) (given : Answer) → answer_of c moment words ≡ Ok given → ResultSays c moment words given
  unfolding answer_of
  result-said words given e =
      let (first, at, rest) = bind-ok (word_at 0 words) _ given e in
      by-first words first given (word-here 0 words first at) rest

  wait-read : (number : List ℕ) (seconds : ℕ) → seconds_at 1 (codes "wait" ∷ number ∷ []) ≡ Ok seconds → moment + seconds < 2 ^ 40
      → wait_line moment (codes "wait" ∷ number ∷ []) ≡ Ok (answer.Wait seconds)
  unfolding wait_line
  wait-read number seconds s few =
      let h : nat_lt (moment + seconds) (2 ^ 40) ≡ true = grind (arith, nat_tests) in
      rw (s, in_time, h) refl

  -- and what says it is read
  pub result-read : (words : WordsOfLine) (given : Answer) → ResultSays c moment words given → answer_of c moment words ≡ Ok given
  unfolding answer_of result_word end_line timeout_line lost_line up_line quorum_answer report_line number_at code_at node_at leaf_at seconds_at yes_at
  result-read ws g (end_form number code k exit n m) = rw (count-read number k n, number-read 0 255 code exit m) refl
  result-read ws g (timeout_form number k n) = rw (count-read number k n) refl
  result-read ws g (lost_form name node n) = rw (name-read (λ (n : Node). n.name) name c.nodes node n) refl
  result-read ws g (up_form name node n) = rw (name-read (λ (n : Node). n.name) name c.nodes node n) refl
  result-read ws g (quorum_form word now s) = rw (whether-read word now s) refl
  result-read ws g (wait_form number seconds n few) = wait-read number seconds (rw (number-read 0 1099511627775 number seconds n) refl) few
  result-read ws g (report_form name leaf_name number code node leaf interval exit a b n m) = rw (
    name-read (λ (n : Node). n.name) name c.nodes node a,
    name-read (λ (l : Leaf). l.name) leaf_name c.leaves leaf b,
    count-read number interval n,
    number-read 0 255 code exit m,
  ) refl

  -- a line says one answer
  pub one-answer : (words : WordsOfLine) (one other : Answer) → ResultSays c moment words one → ResultSays c moment words other → one ≡ other
  one-answer words one other s t = ok-one one other (sym (result-read words one s) ∙ result-read words other t)

  refused-case : (words : WordsOfLine) (read : Result Answer WordCause) → answer_of c moment words ≡ read → ((given : Answer) → ResultSays c moment words given → ⊥)
      → (cause : WordCause) × (answer_of c moment words ≡ Err cause)
  refused-case words (Ok given) e h = absurd (h given (result-said words given e))
  refused-case words (Err cause) e h = (cause, e)

  -- a line that says none is refused
  pub no-answer : (words : WordsOfLine) → ((given : Answer) → ResultSays c moment words given → ⊥) → (cause : WordCause) × (answer_of c moment words ≡ Err cause)
  no-answer words h = refused-case words (answer_of c moment words) refl h

  -- and a line that is refused says none
  pub none-answered : (words : WordsOfLine) (cause : WordCause) (given : Answer) → answer_of c moment words ≡ Err cause → ResultSays c moment words given → ⊥
  none-answered words cause given e s = let f : Err cause ≡ Ok given = sym e ∙ result-read words given s in cc
