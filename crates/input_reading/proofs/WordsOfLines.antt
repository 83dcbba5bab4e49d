-- The words of the lines that a run prints, and that the lines are these words.
use Rattle.std.proofs.Common.{◌≡◌, ℕ, true, false, List, [], ◌∷◌, ◌++◌, codes, append_assoc, refl, sym, ap, ◌∙◌}
use Rattle.std.specs.Fmt.{decimal}
use Rattle.std.specs.List.{flat_map}
use Rattle.cluster_types.specs.declared.cluster.Cluster.{Cluster}
use Rattle.cluster_types.specs.declared.journal.Action.{Action}
use Rattle.cluster_types.specs.declared.journal.Action.TheVariants.{Fence, Probe, Operation, MigrateTo, MigrateFrom}
use Rattle.cluster_types.specs.declared.journal.Answer.{Answer}
use Rattle.cluster_types.specs.declared.journal.Answer.TheVariants as answer
use Rattle.cluster_types.specs.declared.leaf.Op.TheVariants.{Start, Stop, Promote, Demote, Monitor}
use Rattle.cluster_types.specs.declared.placement.NoReason.{NoReason}
use Rattle.cluster_types.specs.declared.placement.NoReason.TheVariants.{NoCopies, Stopped, OnFail, StopAll, NoQuorum, NoNode, Held}
use Rattle.cluster_types.specs.declared.run.RunLine.{RunLine}
use Rattle.cluster_types.specs.declared.run.RunLine.TheVariants as line
use Rattle.cluster_types.specs.Fields.{leaf_name}
use Rattle.cluster_types.specs.Texts.{node_name, pin_text, run_line, target_text}
use Rattle.input_reading.specs.WordPlaces.{WordsOfLine}

-- words parted by spaces
abbrev pub joined : WordsOfLine → List ℕ
joined [] = []
joined (word ∷ words) = word ++ flat_map (λ (w : List ℕ). 32 ∷ w) words

abbrev pub reason_words : NoReason → WordsOfLine
reason_words NoCopies = codes "NoCopies" ∷ []
reason_words Stopped = codes "Stopped" ∷ []
reason_words OnFail = codes "OnFail" ∷ []
reason_words StopAll = codes "StopAll" ∷ []
reason_words NoQuorum = codes "NoQuorum" ∷ []
reason_words NoNode = codes "NoNode" ∷ []
reason_words (Held id) = codes "Held" ∷ id ∷ []

-- texts in other groups
grouped_one : (a b s w v e : List ℕ) → a ++ b ++ s ++ (w ++ v) ++ e ≡ a ++ (b ++ (s ++ (w ++ (v ++ e))))
grouped_one a b s w v e = simp append_assoc

ended_one : (b x v e : List ℕ) → b ++ (x ++ (v ++ [])) ++ e ≡ b ++ (x ++ (v ++ e))
ended_one b x v e = simp append_assoc

grouped_two : (a b s w r n e : List ℕ)
    → a ++ b ++ s ++ (w ++ (r ++ s ++ n)) ++ e ≡ a ++ (b ++ (s ++ (w ++ (r ++ (s ++ (n ++ e))))))
grouped_two a b s w r n e = simp append_assoc

ended_two : (b x r s n e : List ℕ) → b ++ (x ++ (r ++ (s ++ (n ++ [])))) ++ e ≡ b ++ (x ++ (r ++ (s ++ (n ++ e))))
ended_two b x r s n e = simp append_assoc

grouped_three : (a b s w r n d e : List ℕ)
    → a ++ b ++ s ++ (w ++ (r ++ s ++ n) ++ s ++ d) ++ e
    ≡ a ++ (b ++ (s ++ (w ++ (r ++ (s ++ (n ++ (s ++ (d ++ e))))))))
grouped_three a b s w r n d e = simp append_assoc

ended_three : (b x r s n d e : List ℕ)
    → b ++ (x ++ (r ++ (s ++ (n ++ (s ++ (d ++ [])))))) ++ e ≡ b ++ (x ++ (r ++ (s ++ (n ++ (s ++ (d ++ e))))))
ended_three b x r s n d e = simp append_assoc

module _ (c : Cluster) where
  abbrev pub action_words : Action → WordsOfLine
  action_words (Fence n) = codes "fence" ∷ node_name c n ∷ []
  action_words (Probe r n) = codes "probe" ∷ leaf_name c r ∷ node_name c n ∷ []
  action_words (Operation Start r n interval role) = codes "start" ∷ leaf_name c r ∷ node_name c n ∷ []
  action_words (Operation Stop r n interval role) = codes "stop" ∷ leaf_name c r ∷ node_name c n ∷ []
  action_words (Operation Promote r n interval role) = codes "promote" ∷ leaf_name c r ∷ node_name c n ∷ []
  action_words (Operation Demote r n interval role) = codes "demote" ∷ leaf_name c r ∷ node_name c n ∷ []
  action_words (Operation Monitor r n interval role) = codes "monitor" ∷ leaf_name c r ∷ node_name c n ∷ decimal interval ∷ []
  action_words (MigrateTo r source target) = codes "migrate_to" ∷ leaf_name c r ∷ node_name c source ∷ node_name c target ∷ []
  action_words (MigrateFrom r source target) = codes "migrate_from" ∷ leaf_name c r ∷ node_name c source ∷ node_name c target ∷ []

  abbrev pub answer_words : Answer → WordsOfLine
  answer_words (answer.End k code) = codes "end" ∷ decimal k ∷ decimal code ∷ []
  answer_words (answer.Timeout k) = codes "timeout" ∷ decimal k ∷ []
  answer_words (answer.Lost n) = codes "lost" ∷ node_name c n ∷ []
  answer_words (answer.Up n) = codes "up" ∷ node_name c n ∷ []
  answer_words (answer.Quorum true) = codes "quorum" ∷ codes "yes" ∷ []
  answer_words (answer.Quorum false) = codes "quorum" ∷ codes "no" ∷ []
  answer_words (answer.Wait seconds) = codes "wait" ∷ decimal seconds ∷ []
  answer_words (answer.Report n r interval code) = codes "report" ∷ node_name c n ∷ leaf_name c r ∷ decimal interval ∷ decimal code ∷ []

  abbrev pub line_words : RunLine → WordsOfLine
  line_words (line.Transition k) = codes "transition" ∷ decimal k ∷ []
  line_words (line.Pinned r pin) = codes "pinned" ∷ leaf_name c r ∷ pin_text c pin ∷ []
  line_words (line.Goal r n target) = codes "target" ∷ leaf_name c r ∷ node_name c n ∷ target_text c target ∷ []
  line_words (line.Lacking r reason) = codes "none" ∷ leaf_name c r ∷ reason_words reason
  line_words (line.Begin k a) = codes "begin" ∷ decimal k ∷ action_words a
  line_words (line.Taken given) = answer_words given
  line_words (line.Complete k) = codes "complete" ∷ decimal k ∷ []
  line_words (line.Aborted k) = codes "aborted" ∷ decimal k ∷ []
  line_words (line.Unexpected l) = codes "unexpected" ∷ decimal l ∷ []

  -- a number, a word and a name, behind a first word
  one_name : (first number word name : List ℕ)
      → first ++ number ++ codes " " ++ (word ++ name) ++ codes "\n"
      ≡ first ++ (number ++ ((32 ∷ word) ++ (name ++ [])) ++ codes "\n")
  one_name first number word name =
      grouped_one first number (codes " ") word name (codes "\n")
      ∙ ap (λ t. first ++ t) (sym (ended_one number (32 ∷ word) name (codes "\n")))

  -- two names
  two_names : (first number word name other : List ℕ)
      → first ++ number ++ codes " " ++ (word ++ (name ++ codes " " ++ other)) ++ codes "\n"
      ≡ first ++ (number ++ ((32 ∷ word) ++ (name ++ (codes " " ++ (other ++ [])))) ++ codes "\n")
  two_names first number word name other =
      grouped_two first number (codes " ") word name other (codes "\n")
      ∙ ap (λ t. first ++ t) (sym (ended_two number (32 ∷ word) name (codes " ") other (codes "\n")))

  -- two names and one more
  three_names : (first number word name other last : List ℕ)
      → first ++ number ++ codes " " ++ (word ++ (name ++ codes " " ++ other) ++ codes " " ++ last) ++ codes "\n"
      ≡ first
      ++ (number ++ ((32 ∷ word) ++ (name ++ (codes " " ++ (other ++ (codes " " ++ (last ++ [])))))) ++ codes "\n")
  three_names first number word name other last =
      grouped_three first number (codes " ") word name other last (codes "\n")
      ∙ ap (λ t. first ++ t) (sym (ended_three number (32 ∷ word) name (codes " ") other last (codes "\n")))

  begin-joined : (k : ℕ) (a : Action) → run_line c (line.Begin k a) ≡ joined (line_words (line.Begin k a)) ++ 10 ∷ []
  begin-joined k (Fence n) = one_name (codes "begin ") (decimal k) (codes "fence ") (node_name c n)
  begin-joined k (Probe r n) = two_names (codes "begin ") (decimal k) (codes "probe ") (leaf_name c r) (node_name c n)
  begin-joined k (Operation Start r n interval role) =
      two_names (codes "begin ") (decimal k) (codes "start ") (leaf_name c r) (node_name c n)
  begin-joined k (Operation Stop r n interval role) =
      two_names (codes "begin ") (decimal k) (codes "stop ") (leaf_name c r) (node_name c n)
  begin-joined k (Operation Promote r n interval role) =
      two_names (codes "begin ") (decimal k) (codes "promote ") (leaf_name c r) (node_name c n)
  begin-joined k (Operation Demote r n interval role) =
      two_names (codes "begin ") (decimal k) (codes "demote ") (leaf_name c r) (node_name c n)
  begin-joined k (Operation Monitor r n interval role) =
      three_names (codes "begin ") (decimal k) (codes "monitor ") (leaf_name c r) (node_name c n) (decimal interval)
  begin-joined k (MigrateTo r source target) =
      three_names (codes "begin ") (decimal k) (codes "migrate_to ") (leaf_name c r) (node_name c source)
      (node_name c target)
  begin-joined k (MigrateFrom r source target) =
      three_names (codes "begin ") (decimal k) (codes "migrate_from ") (leaf_name c r) (node_name c source)
      (node_name c target)

  taken-joined : (given : Answer) → run_line c (line.Taken given) ≡ joined (line_words (line.Taken given)) ++ 10 ∷ []
  taken-joined (answer.End k code) = simp append_assoc
  taken-joined (answer.Timeout k) = simp append_assoc
  taken-joined (answer.Lost n) = simp append_assoc
  taken-joined (answer.Up n) = simp append_assoc
  taken-joined (answer.Quorum true) = refl
  taken-joined (answer.Quorum false) = refl
  taken-joined (answer.Wait seconds) = simp append_assoc
  taken-joined (answer.Report n r interval code) = simp append_assoc

  held-joined : (r : ℕ) (id : List ℕ)
      → run_line c (line.Lacking r (Held id)) ≡ joined (line_words (line.Lacking r (Held id))) ++ 10 ∷ []
  held-joined r id = one_name (codes "none ") (leaf_name c r) (codes "Held ") id

  -- a line is its words, parted by spaces
  pub line-joined : (l : RunLine) → run_line c l ≡ joined (line_words l) ++ 10 ∷ []
  line-joined (line.Transition k) = simp append_assoc
  line-joined (line.Pinned r pin) = simp append_assoc
  line-joined (line.Goal r n target) = simp append_assoc
  line-joined (line.Lacking r NoCopies) = simp append_assoc
  line-joined (line.Lacking r Stopped) = simp append_assoc
  line-joined (line.Lacking r OnFail) = simp append_assoc
  line-joined (line.Lacking r StopAll) = simp append_assoc
  line-joined (line.Lacking r NoQuorum) = simp append_assoc
  line-joined (line.Lacking r NoNode) = simp append_assoc
  line-joined (line.Lacking r (Held id)) = held-joined r id
  line-joined (line.Complete k) = simp append_assoc
  line-joined (line.Aborted k) = simp append_assoc
  line-joined (line.Unexpected l) = simp append_assoc
  line-joined (line.Begin k a) = begin-joined k a
  line-joined (line.Taken given) = taken-joined given
