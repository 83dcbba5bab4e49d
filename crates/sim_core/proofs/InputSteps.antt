-- What is read of a text goes by the lines of its configuration, those of its status, and those of what follows.
use Rattle.std.proofs.Common.{◌≡◌, ℕ, ◌+◌, List, [], ◌∷◌, ◌++◌, length, take, Result, Ok, Err, append-nil, refl, sym, ap, subst, ◌∙◌}
use Rattle.std.specs.Prelude.{min, slice_range}
use Rattle.std.specs.List.{position_or_len}
use Rattle.std.proofs.lemmas.List.{take-append-le}
use Rattle.cluster_model.specs.declared.expansion.leaves.Leaves.{Leaves}
use Rattle.cluster_model.specs.Expansion.{expansion_of}
use Rattle.cluster_model.specs.Resolution.{resolution_of}
use Rattle.crm_lex.specs.declared.line.Line.{Line}
use Rattle.crm_lex.specs.Reading.{reads}
use Rattle.crm_parse.specs.declared.fault.ParseCause.{ParseCause}
use Rattle.crm_parse.specs.declared.marks.SectionMarks.{SectionMarks}
use Rattle.crm_parse.specs.Marks.{last_at, status_at}
use Rattle.crm_parse.specs.Statements.{statements_of}
use Rattle.faults.specs.declared.fault.Fault.{Fault}
use Rattle.faults.specs.Reading.{caused, faulting, ◌>>=◌}
use Rattle.faults.proofs.Steps.{bind-ok}
use Rattle.input_reading.specs.declared.input.cause.InputCause.{InputCause}
use Rattle.input_reading.specs.declared.input.cause.InputCause.TheVariants as cause
use Rattle.input_reading.specs.declared.input.reading.Head.{Head}
use Rattle.input_reading.specs.FirstJournal.{status_journal}
use Rattle.input_reading.specs.Reading.{configuration_lines, configuration_of, following_lines, head_of, reading_steps, status_lines}
use Rattle.input_reading.proofs.Marks.{position_within}
use Rattle.input_reading.proofs.ValidInput.{passed, passed_on}
use Rattle.sim_core.proofs.TraceSections.{first_in_front, nothing_past, range_behind, range_in_front, status_line}

-- what is read of the lines of a configuration and of a status, and then on with the head
abbrev pub steps_on : {X : Type 0} → List Line → List Line → (Head → Result X (Fault InputCause)) → Result X (Fault InputCause)
steps_on configuration status next = do
  crm ← faulting cause.Statements (statements_of configuration)
  leaves ← faulting cause.Leaves (expansion_of crm.statements)
  cluster ← faulting cause.Cluster (resolution_of leaves crm.statements)
  head ← head_of crm cluster status
  next head

-- two steps whose values are put together
gathered : {A B C D E : Type 0} (first : Result A E) (second : A → Result B E) (both : A → B → C) (next : C → Result D E)
    → ((first >>= (λ a. second a >>= (λ b. Ok (both a b)))) >>= next) ≡ (first >>= (λ a. second a >>= (λ b. next (both a b))))
gathered (Err error) second both next = refl
gathered (Ok a) second both next = by (second a)
  where
    by : (read : Result _ _) → ((read >>= (λ b. Ok (both a b))) >>= next) ≡ (read >>= (λ b. next (both a b)))
    by (Ok b) = refl
    by (Err error) = refl

-- four steps, and one behind them
last_apart : {A B C D X E : Type 0} (first : Result A E) (second : A → Result B E) (third : A → B → Result C E) (fourth : A → C → Result D E) (next : D → Result X E)
    → (first >>= (λ a. second a >>= (λ b. third a b >>= (λ c. fourth a c >>= next))))
    ≡ ((first >>= (λ a. second a >>= (λ b. third a b >>= (λ c. fourth a c >>= (λ d. Ok d))))) >>= next)
last_apart (Err error) second third fourth next = refl
last_apart (Ok a) second third fourth next = of_second (second a)
  where
    of_fourth : (read : Result _ _) → (read >>= next) ≡ ((read >>= (λ d. Ok d)) >>= next)
    of_fourth (Ok d) = refl
    of_fourth (Err error) = refl

    of_third : (read : Result _ _) → (read >>= (λ c. fourth a c >>= next)) ≡ ((read >>= (λ c. fourth a c >>= (λ d. Ok d))) >>= next)
    of_third (Ok c) = of_fourth (fourth a c)
    of_third (Err error) = refl

    of_second : (read : Result _ _) → (read >>= (λ b. third a b >>= (λ c. fourth a c >>= next))) ≡ ((read >>= (λ b. third a b >>= (λ c. fourth a c >>= (λ d. Ok d)))) >>= next)
    of_second (Ok b) = of_third (third a b)
    of_second (Err error) = refl

pub head_first : {X : Type 0} (configuration status : List Line) (next : Head → Result X (Fault InputCause)) → steps_on configuration status next ≡ (steps_on configuration status (λ head. Ok head) >>= next)
head_first configuration status next =
    last_apart (faulting cause.Statements (statements_of configuration)) (λ crm. faulting cause.Leaves (expansion_of crm.statements))
    (λ crm leaves. faulting cause.Cluster (resolution_of leaves crm.statements)) (λ crm cluster. head_of crm cluster status) next

-- the lines and the sections of a text that is read
pub record HasSections (sections : List Line → Result SectionMarks (Fault ParseCause)) (text : List ℕ) : Type 0 where
  pub lines : List Line
  pub marks : SectionMarks
  pub are : reads text ≡ Ok lines
  pub placed : sections lines ≡ Ok marks

module _ {X : Type 0} (sections : List Line → Result SectionMarks (Fault ParseCause)) (read_on : List Line → Head → List Line → Result X (Fault InputCause)) (text : List ℕ) where
  pub has_sections : (read : X) → reading_steps sections read_on text ≡ Ok read → HasSections sections text
  unfolding configuration_of
  has_sections read r =
      let found = passed_on (configuration_of sections text) _ read r in
      let words = passed cause.Words (reads text) _ found.gave found.is in
      let marks = passed cause.Statements (sections words.gave) _ found.gave words.goes_on in
      record { lines = words.gave; marks = marks.gave; are = words.is; placed = marks.is }

  -- the steps stop at the first that fails
  pub without_words : (fault : Fault _) → reads text ≡ Err fault → reading_steps sections read_on text ≡ Err (caused cause.Words fault)
  unfolding configuration_of
  without_words fault are = rw are refl

  pub without_sections : (lines : List Line) (fault : Fault ParseCause) → reads text ≡ Ok lines → sections lines ≡ Err fault → reading_steps sections read_on text ≡ Err (caused cause.Statements fault)
  unfolding configuration_of
  without_sections lines fault are placed = rw (are, placed) refl

  pub by_sections : (lines : List Line) (marks : SectionMarks) → reads text ≡ Ok lines → sections lines ≡ Ok marks
      → reading_steps sections read_on text ≡ steps_on (configuration_lines marks lines) (status_lines marks lines) (λ head. read_on lines head (following_lines marks lines))
  unfolding configuration_of
  by_sections lines marks are placed =
      rw (are, placed) (gathered (faulting cause.Statements (statements_of (configuration_lines marks lines))) (λ crm. faulting cause.Leaves (expansion_of crm.statements)) _ _)

  -- the head of a text that is read, and what follows
  pub record ReadInSteps (read : X) : Type 0 where
    pub found : HasSections sections text
    pub head : Head
    pub begins : steps_on (configuration_lines found.marks found.lines) (status_lines found.marks found.lines) (λ head. Ok head) ≡ Ok head
    pub follows : read_on found.lines head (following_lines found.marks found.lines) ≡ Ok read

  pub in_steps : (read : X) → reading_steps sections read_on text ≡ Ok read → ReadInSteps read
  in_steps read r =
      let found = has_sections read r in
      let configuration = configuration_lines found.marks found.lines in
      let status = status_lines found.marks found.lines in
      let next : Head → Result X (Fault InputCause) = λ head. read_on found.lines head (following_lines found.marks found.lines) in
      let apart = by_sections found.lines found.marks found.are found.placed ∙ head_first configuration status next in
      let (head, begins, follows) = bind-ok (steps_on configuration status (λ head. Ok head)) next read (sym apart ∙ r) in
      record { found = found; head = head; begins = begins; follows = follows }

-- what the lines of a configuration and of a status give, which give a head
pub record HasGiven (configuration : List Line) (head : Head) : Type 0 where
  pub leaves : Leaves
  pub stated : statements_of configuration ≡ Ok head.crm
  pub expands : expansion_of head.crm.statements ≡ Ok leaves
  pub resolves : resolution_of leaves head.crm.statements ≡ Ok head.cluster

pub has_given : (configuration status : List Line) (head : Head) → steps_on configuration status (λ head. Ok head) ≡ Ok head → HasGiven configuration head
unfolding head_of
has_given configuration status head e =
    let crm = passed cause.Statements (statements_of configuration) _ head e in
    let leaves = passed cause.Leaves (expansion_of crm.gave.statements) _ head crm.goes_on in
    let cluster = passed cause.Cluster (resolution_of leaves.gave crm.gave.statements) _ head leaves.goes_on in
    let made = passed_on (head_of crm.gave cluster.gave status) (λ head. Ok head) head cluster.goes_on in
    let journal = passed cause.Status (status_journal cluster.gave status) _ made.gave made.is in
    let same : head ≡ record { crm = crm.gave; cluster = cluster.gave; journal = journal.gave } = cc in
    rw same (record { leaves = leaves.gave; stated = crm.is; expands = leaves.is; resolves = cluster.is })

-- the sections of lines by the word of the last one
abbrev pub marks_by : List ℕ → List Line → SectionMarks
marks_by word lines = record { status_at = status_at word lines; results_at = last_at word lines; end = length lines }

-- the lines of a configuration and of its status, where the last section begins behind these
abbrev pub configuration_in : List Line → List Line
configuration_in rows = take (position_or_len status_line rows) rows

abbrev pub status_in : List Line → List Line
status_in rows = slice_range rows (position_or_len status_line rows + 1) (length rows)

module _ {X : Type 0} (sections : List Line → Result SectionMarks (Fault ParseCause)) (read_on : List Line → Head → List Line → Result X (Fault InputCause)) (text word : List ℕ) (rows : List Line) where
  -- by the lines before the last section
  by_front : (more : List Line) → reads text ≡ Ok (rows ++ more) → sections (rows ++ more) ≡ Ok (marks_by word (rows ++ more)) → last_at word (rows ++ more) ≡ length rows
      → reading_steps sections read_on text
      ≡ steps_on (configuration_in rows) (status_in rows) (λ head. read_on (rows ++ more) head (slice_range (rows ++ more) (length rows + 1) (length (rows ++ more))))
  by_front more are placed last =
      let status : status_at word (rows ++ more) ≡ position_or_len status_line rows
      = ap (λ (n : ℕ). min (position_or_len status_line (rows ++ more)) n) last ∙ first_in_front status_line rows more in
      let front : take (status_at word (rows ++ more)) (rows ++ more) ≡ configuration_in rows
      = ap (λ (n : ℕ). take n (rows ++ more)) status ∙ take-append-le (position_or_len status_line rows) rows more (position_within status_line rows) in
      let between : slice_range (rows ++ more) (status_at word (rows ++ more) + 1) (last_at word (rows ++ more)) ≡ status_in rows
      = ap (λ (n : ℕ). slice_range (rows ++ more) (n + 1) (last_at word (rows ++ more))) status
      ∙ (ap (λ (n : ℕ). slice_range (rows ++ more) (position_or_len status_line rows + 1) n) last ∙ range_in_front (position_or_len status_line rows + 1) rows more) in
      by_sections sections read_on text (rows ++ more) (marks_by word (rows ++ more)) are placed
      ∙ (ap (λ (ls : List Line). steps_on ls (slice_range (rows ++ more) (status_at word (rows ++ more) + 1) (last_at word (rows ++ more)))
      (λ head. read_on (rows ++ more) head (slice_range (rows ++ more) (last_at word (rows ++ more) + 1) (length (rows ++ more))))) front
      ∙ (ap (λ (ls : List Line). steps_on (configuration_in rows) ls
      (λ head. read_on (rows ++ more) head (slice_range (rows ++ more) (last_at word (rows ++ more) + 1) (length (rows ++ more))))) between
      ∙ ap (λ (n : ℕ). steps_on (configuration_in rows) (status_in rows) (λ head. read_on (rows ++ more) head (slice_range (rows ++ more) (n + 1) (length (rows ++ more))))) last))

  -- which isn't there
  pub without_last : reads text ≡ Ok rows → sections rows ≡ Ok (marks_by word rows) → last_at word rows ≡ length rows
      → reading_steps sections read_on text ≡ steps_on (configuration_in rows) (status_in rows) (λ head. read_on rows head [])
  without_last are placed last =
      let none : slice_range rows (length rows + 1) (length rows) ≡ [] = nothing_past rows in
      subst (λ (all : List Line). reading_steps sections read_on text ≡ steps_on (configuration_in rows) (status_in rows) (λ head. read_on all head (slice_range all (length rows + 1) (length all)))) (append-nil rows)
      (by_front [] (are ∙ ap Ok (sym (append-nil rows))) (subst (λ (all : List Line). sections all ≡ Ok (marks_by word all)) (sym (append-nil rows)) placed)
      (subst (λ (all : List Line). last_at word all ≡ length rows) (sym (append-nil rows)) last))
      ∙ ap (λ (ls : List Line). steps_on (configuration_in rows) (status_in rows) (λ head. read_on rows head ls)) none

  -- which begins with this line
  pub with_last : (mark : Line) (others : List Line) → reads text ≡ Ok (rows ++ mark ∷ others) → sections (rows ++ mark ∷ others) ≡ Ok (marks_by word (rows ++ mark ∷ others))
      → last_at word (rows ++ mark ∷ others) ≡ length rows
      → reading_steps sections read_on text ≡ steps_on (configuration_in rows) (status_in rows) (λ head. read_on (rows ++ mark ∷ others) head others)
  with_last mark others are placed last =
      by_front (mark ∷ others) are placed last
      ∙ ap (λ (ls : List Line). steps_on (configuration_in rows) (status_in rows) (λ head. read_on (rows ++ mark ∷ others) head ls)) (range_behind rows mark others)
