-- The first journal that a status says is in order and has nothing in flight.
use Rattle.std.proofs.Common.{◌≡◌, ℕ, nat_lt, ◌==◌, Bool, true, false, if◌then◌else◌, List, [], ◌∷◌, length, codes, Result, Ok, IfOk, refl, sym, subst}
use Rattle.std.specs.List.{list_all}
use Rattle.std.proofs.lemmas.Result.{IfOk-weaker}
use Rattle.crm_lex.specs.Names.{is}
use Rattle.lemmas.proofs.Results.{by_result}
use Rattle.crm_lex.specs.declared.line.Line.{Line}
use Rattle.cluster_types.specs.declared.cluster.Cluster.{Cluster}
use Rattle.cluster_types.specs.declared.journal.Action.TheVariants.{Operation, Probe}
use Rattle.cluster_types.specs.declared.journal.Event.{Event}
use Rattle.cluster_types.specs.declared.journal.Event.TheVariants.{Ended}
use Rattle.cluster_types.specs.declared.journal.Journal.{Journal}
use Rattle.cluster_types.specs.declared.journal.Outcome.{Outcome}
use Rattle.cluster_types.specs.declared.leaf.Op.{Op}
use Rattle.cluster_types.specs.declared.leaf.Op.TheVariants.{Start, Stop, Promote, Demote, Monitor}
use Rattle.cluster_types.specs.declared.leaf.Role.{Role}
use Rattle.cluster_types.specs.Fields.{monitors}
use Rattle.cluster_types.specs.AnswersThatApply.{role_of_interval}
use Rattle.cluster_types.specs.Journals.{Orderly, in_flight_by_begin, is_history_event}
use Rattle.faults.specs.Reading.{◌>>=◌, faulting, on_line}
use Rattle.input_reading.specs.WordPlaces.{WordsOfLine, line_end_at, leaf_at, node_at, seconds_at, word_at, yes_at}
use Rattle.input_reading.proofs.Bounds.{node_known, seconds_small}
use Rattle.input_reading.proofs.Steps.{any_step, either_way, step}
use Rattle.input_reading.specs.FirstJournal as journals
use Rattle.input_reading.specs.FirstJournal.{is_repeated, status_journal}
use Rattle.input_reading.specs.Inner.FirstJournal.{is_known}
use Rattle.input_reading.specs.declared.history_fault.StatusCause.TheVariants.{Form}
use Rattle.input_reading.specs.Status.{history_action, cleanup_line, interval_at, node_line, now_line, op_at, op_line, outcome_at, promotable_at, promotion_line, quorum_line, score_at, state_at, status_word, told_as, told_of}
use Rattle.input_reading.proofs.FirstJournals.{journal_in_order, journal_is_idle, one_more_known}

-- what an operation says of its node
action_known : (c : Cluster) (op : Op) (r n interval : ℕ) (outcome : Outcome) (moment : ℕ) → nat_lt n (length c.nodes) ≡ true
    → is_history_event (length c.nodes) (Ended 0 (history_action c op r n interval) outcome moment) ≡ true
action_known c Start r n interval outcome moment h = h
action_known c Stop r n interval outcome moment h = h
action_known c Promote r n interval outcome moment h = h
action_known c Demote r n interval outcome moment h = h
action_known c Monitor r n interval outcome moment h = probe_known (interval == 0)
  where
    role : Role
    role = role_of_interval (monitors c r) interval

    probe_known : (is_probe : Bool)
        → is_history_event (length c.nodes) (Ended 0 (if is_probe then Probe r n else Operation Monitor r n interval role) outcome moment) ≡ true
    probe_known true = h
    probe_known false = h

-- each form of a line
now_known : (n : ℕ) (words : WordsOfLine) → IfOk (now_line words) (λ t. is_known n t ≡ true)
unfolding now_line
now_known n words = step _ _ (seconds_at 1 words) _ (seconds_small 1 words) (λ seconds h. any_step _ (line_end_at 2 words) _ (λ u. h))

quorum_known : (n : ℕ) (words : WordsOfLine) → IfOk (quorum_line words) (λ t. is_known n t ≡ true)
unfolding quorum_line
quorum_known n words = any_step _ (yes_at 1 words) _ (λ now. any_step _ (line_end_at 2 words) _ (λ u. refl))

state_known : (c : Cluster) (n : ℕ) (words : WordsOfLine) → IfOk (node_line c words) (λ t. is_known n t ≡ true)
unfolding node_line
state_known c n words =
    any_step _ (node_at c 1 words) _ (λ node. any_step _ (state_at 2 words) _ (λ state. any_step _ (line_end_at 3 words) _ (λ u. refl)))

op_known : (c : Cluster) (words : WordsOfLine) → IfOk (op_line c words) (λ t. is_known (length c.nodes) t ≡ true)
unfolding op_line
op_known c words =
    step _ _ (node_at c 1 words) _ (node_known c 1 words) (λ node h. any_step _ (leaf_at c 2 words) _ (λ leaf.
    any_step _ (op_at c leaf 3 words) _ (λ op. any_step _ (interval_at op 4 words) _ (λ interval.
    any_step _ (outcome_at 5 words) _ (λ outcome. any_step _ (seconds_at 6 words) _ (λ moment.
    any_step _ (line_end_at 7 words) _ (λ u. action_known c op leaf node interval outcome moment h)))))))

cleanup_known : (c : Cluster) (words : WordsOfLine) → IfOk (cleanup_line c words) (λ t. is_known (length c.nodes) t ≡ true)
unfolding cleanup_line
cleanup_known c words =
    step _ _ (node_at c 1 words) _ (node_known c 1 words) (λ node h. any_step _ (leaf_at c 2 words) _ (λ leaf.
    any_step _ (line_end_at 3 words) _ (λ u. h)))

promotion_known : (c : Cluster) (n : ℕ) (words : WordsOfLine) → IfOk (promotion_line c words) (λ t. is_known n t ≡ true)
unfolding promotion_line
promotion_known c n words =
    any_step _ (node_at c 1 words) _ (λ node. any_step _ (promotable_at c 2 words) _ (λ leaf. any_step _ (score_at 3 words) _ (λ score.
    any_step _ (line_end_at 4 words) _ (λ u. refl))))

-- and so each line
form_known : (c : Cluster) (words : WordsOfLine) (word : List ℕ)
    → IfOk (status_word word) (λ form. IfOk (told_as c form words) (λ t. is_known (length c.nodes) t ≡ true))
unfolding status_word
form_known c words word =
    let n = length c.nodes in
    either_way _ (is word (codes "now")) _ _ (now_known n words) (either_way _ (is word (codes "quorum")) _ _ (quorum_known n words)
    (either_way _ (is word (codes "node")) _ _ (state_known c n words) (either_way _ (is word (codes "op")) _ _ (op_known c words)
    (either_way _ (is word (codes "cleanup")) _ _ (cleanup_known c words)
    (either_way _ (is word (codes "promotion")) _ _ (promotion_known c n words) tt)))))

told_known : (c : Cluster) (words : WordsOfLine) → IfOk (told_of c words) (λ t. is_known (length c.nodes) t ≡ true)
unfolding told_of
told_known c words =
    any_step _ (word_at 0 words) _ (λ word. step _ _ (status_word word) _ (form_known c words word) (λ form h. h))

-- lines that are read one after the other keep what each of them keeps
module _ {S L F : Type 0} (Kept : S → Type 0) (next : S → L → Result S F) (run : S → List L → Result S F)
    (none : (s : S) → run s [] ≡ Ok s)
    (some : (s : S) (l : L) (ls : List L) → run s (l ∷ ls) ≡ (next s l >>= (λ more. run more ls)))
    (each : (s : S) (l : L) → Kept s → IfOk (next s l) Kept) where
  all_kept : (s : S) (ls : List L) → Kept s → IfOk (run s ls) Kept
  all_kept s [] h = subst (λ (r : Result S F). IfOk r Kept) (sym (none s)) h
  all_kept s (l ∷ ls) h =
      subst (λ (r : Result S F). IfOk r Kept) (sym (some s l ls))
      (step Kept Kept (next s l) (λ more. run more ls) (each s l h) (λ more k. all_kept more ls k))

lines_known : (c : Cluster) (lines : List Line)
    → IfOk (journals.with_status_lines c [] lines) (λ told. list_all (is_known (length c.nodes)) told ≡ true)
lines_known c lines =
    let n = length c.nodes in
    all_kept (λ told. list_all (is_known n) told ≡ true) (journals.with_status_line c) (journals.with_status_lines c) (λ s. refl) (λ s l ls. refl)
    (λ s l h.
    by_result (λ r. IfOk r (λ t. is_known n t ≡ true) → IfOk (faulting Form (on_line l.line r) >>= journals.with_told s l.line) (λ told. list_all (is_known n) told ≡ true))
    (λ x k. either_way _ (is_repeated s x) _ _ tt (one_more_known n s x h k)) (λ why k. tt) (told_of c l.words) (told_known c l.words))
    [] lines refl

-- what holds of the events of what they tell holds of the journal
by_lines : (c : Cluster) (P : List Event → Type 0) (lines : List Line) (journal : Journal)
    → IfOk (journals.with_status_lines c [] lines) (λ told. P (journals.events_of c told)) → status_journal c lines ≡ Ok journal → P journal.events
by_lines c P lines journal =
    by_result (λ r. IfOk r (λ told. P (journals.events_of c told)) → (r >>= (λ told. Ok (journals.journal_of c told))) ≡ Ok journal → P journal.events)
    (λ told h e. let same : journals.journal_of c told ≡ journal = cc in subst (λ (j : Journal). P j.events) same h)
    (λ fault h e. absurd cc) (journals.with_status_lines c [] lines)

pub journal_orderly : (c : Cluster) (lines : List Line) (journal : Journal) → status_journal c lines ≡ Ok journal → Orderly journal.events
journal_orderly c lines journal =
    by_lines c Orderly lines journal (IfOk-weaker (journals.with_status_lines c [] lines) _ _ (journal_in_order c) (lines_known c lines))

pub journal_idle : (c : Cluster) (lines : List Line) (journal : Journal) → status_journal c lines ≡ Ok journal → in_flight_by_begin journal.events ≡ []
journal_idle c lines journal =
    by_lines c (λ es. in_flight_by_begin es ≡ []) lines journal
    (IfOk-weaker (journals.with_status_lines c [] lines) _ _ (journal_is_idle c) (lines_known c lines))
