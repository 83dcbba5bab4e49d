-- An input gets one status and one text with the word `replay`.
use Rattle.std.proofs.Common.{◌≡◌, inl, inr, ℕ, List, Ok, Err, refl, sym, ◌∙◌, ap, subst}
use Rattle.cluster_types.specs.declared.cluster.Cluster.{Cluster}
use Rattle.cluster_types.specs.declared.journal.Journal.{Journal}
use Rattle.faults.specs.declared.fault.Fault.TheVariants.{At}
use Rattle.live_run.specs.AnswersToCome.{Coming}
use Rattle.live_run.specs.Heads as heads
use Rattle.live_run.specs.declared.live_end.LiveEnd.{LiveEnd}
use Rattle.live_run.specs.declared.live_end.LiveEnd.TheVariants as end
use Rattle.live_run.specs.Ends as ends
use Rattle.live_run.proofs.Dues.{one_end}
use Rattle.input_reading.specs.declared.input.cause.InputCause.{InputCause}
use Rattle.input_reading.specs.declared.input.reading.Head.{Head}
use Rattle.sim_core.specs.declared.status.Status.{Status}
use Rattle.sim_core.specs.declared.status.Status.TheVariants.{Done, Refused, TooLarge, Unexpected}
use Rattle.input_reading.specs.Reading.{lone_head_of}
use Rattle.sim_core.specs.Inner.LiveSteps.{status_of}
use Rattle.sim_core.specs.Outputs.{IsRefusal}
use Rattle.sim_core.specs.Replay.{IsHeadRead, IsHeadFault, IsHeadTooLarge, IsReplayOutput, IsTextOfRun, coming_behind, head_in, words_refused, head_refused}
use Rattle.sim_core.proofs.OneAudit.{one_refusal}

-- what a head says of which this is known
module _ (input : List ℕ) where
  -- a head is read in one way
  pub record IsSame (bytes other : List ℕ) (head also : Head) (next n room r : ℕ) : Type 0 where
    pub bytes_same : bytes ≡ other
    pub head_same : head ≡ also
    pub next_same : next ≡ n
    pub room_same : room ≡ r

  pub same_head : (bytes other : List ℕ) (head also : Head) (next n room r : ℕ) → IsHeadRead input bytes head next room → IsHeadRead input other also n r
      → IsSame bytes other head also next n room r
  same_head bytes other head also next n room r one two =
      let taken : heads.taken bytes next room ≡ heads.taken other n r = sym one.is ∙ two.is in
      let same : bytes ≡ other = cc in
      let said : Ok head ≡ Ok also = sym one.says ∙ (ap lone_head_of same ∙ two.says) in
      record { bytes_same = same; head_same = cc; next_same = cc; room_same = cc }

  -- what is said of the one is said of the other
  pub carried : (P : Cluster → Journal → Coming → Type 0) (bytes other : List ℕ) (head also : Head) (next n room r : ℕ) → IsSame bytes other head also next n room r
      → P head.cluster head.journal (coming_behind input bytes head next room) → P also.cluster also.journal (coming_behind input other also n r)
  carried P bytes other head also next n room r same p =
      subst (λ (o : List ℕ). P also.cluster also.journal (coming_behind input o also n r)) same.bytes_same
      (subst (λ (h : Head). P h.cluster h.journal (coming_behind input bytes h n r)) same.head_same
      (subst (λ (m : ℕ). P head.cluster head.journal (coming_behind input bytes head m r)) same.next_same
      (subst (λ (q : ℕ). P head.cluster head.journal (coming_behind input bytes head next q)) same.room_same p)))

  -- a head that is read has no fault
  pub no_fault : (bytes : List ℕ) (head : Head) (next room line : ℕ) (why : InputCause) → IsHeadRead input bytes head next room → ¬ IsHeadFault input line why
  no_fault bytes head next room line why begun (words_refused n cause is) =
      let same : heads.taken bytes next room ≡ heads.refused n cause = sym begun.is ∙ is in absurd cc
  no_fault bytes head next room line why begun (head_refused other n r m cause is says) =
      let taken : heads.taken bytes next room ≡ heads.taken other n r = sym begun.is ∙ is in
      let same : bytes ≡ other = cc in
      let said : Ok head ≡ Err (At m cause) = sym begun.says ∙ (ap lone_head_of same ∙ says) in
      absurd cc

  -- nor does a line of it go past the limit
  pub not_too_large : (bytes : List ℕ) (head : Head) (next room : ℕ) → IsHeadRead input bytes head next room → ¬ (head_in input ≡ heads.too_large)
  not_too_large bytes head next room begun is = let same : heads.taken bytes next room ≡ heads.too_large = sym begun.is ∙ is in absurd cc

  pub faulty_not_too_large : (line : ℕ) (why : InputCause) → IsHeadFault input line why → ¬ (head_in input ≡ heads.too_large)
  faulty_not_too_large line why (words_refused n cause is) large =
      let same : heads.refused n cause ≡ heads.too_large = sym is ∙ large in absurd cc
  faulty_not_too_large line why (head_refused other n r m cause is says) large =
      let same : heads.taken other n r ≡ heads.too_large = sym is ∙ large in absurd cc

  -- a head has one fault
  pub one_head_fault : (line other : ℕ) (why cause : InputCause) → IsHeadFault input line why → IsHeadFault input other cause → (line ≡ other) × (why ≡ cause)
  one_head_fault _ _ _ _ (words_refused line why is) (words_refused other cause also) =
      let same : heads.refused line why ≡ heads.refused other cause = sym is ∙ also in (cc, cc)
  one_head_fault _ _ _ _ (words_refused line why is) (head_refused bytes next room other cause also says) =
      let same : heads.refused line why ≡ heads.taken bytes next room = sym is ∙ also in
      let wrong : ⊥ = cc in absurd wrong
  one_head_fault _ _ _ _ (head_refused bytes next room line why is says) (words_refused other cause also) =
      let same : heads.taken bytes next room ≡ heads.refused other cause = sym is ∙ also in
      let wrong : ⊥ = cc in absurd wrong
  one_head_fault _ _ _ _ (head_refused bytes next room line why is says) (head_refused more n r other cause also said) =
      let taken : heads.taken bytes next room ≡ heads.taken more n r = sym is ∙ also in
      let same : bytes ≡ more = cc in
      let fault = sym says ∙ (ap lone_head_of same ∙ said) in (cc, cc)

  -- two runs that follow from a head have one end and one text
  one_run : (one other : LiveEnd) (text also : List ℕ) → IsTextOfRun (λ c journal coming. ends.EndGets c journal coming one) input text
      → IsTextOfRun (λ c journal coming. ends.EndGets c journal coming other) input also → (one ≡ other) × (text ≡ also)
  one_run one other text also a b =
      let same = same_head a.bytes b.bytes a.head b.head a.next b.next a.room b.room a.begun b.begun in
      one_end b.head.cluster b.head.journal (coming_behind input b.bytes b.head b.next b.room) one other text also
      (carried (λ c journal coming. ends.EndGets c journal coming one text) a.bytes b.bytes a.head b.head a.next b.next a.room b.room same a.says) b.says

  -- an input gets the fault of its head, nothing where that is too large, or the text of its run
  data Output : Status → List ℕ → Type 0 where
    is_refused : (text : List ℕ) → IsRefusal (IsHeadFault input) text → Output Refused text
    is_large : (text : List ℕ) → IsHeadTooLarge input text → Output TooLarge text
    is_run : (how : LiveEnd) (text : List ℕ) → IsTextOfRun (λ c journal coming. ends.EndGets c journal coming how) input text → Output (status_of how) text

  output_of : (status : Status) (text : List ℕ) → IsReplayOutput input status text → Output status text
  output_of Done text o = is_run end.Done text o
  output_of Unexpected text o = is_run end.Unexpected text o
  output_of Refused text (inl o) = is_refused text o
  output_of Refused text (inr o) = is_run end.Refused text o
  output_of TooLarge text (inl o) = is_large text o
  output_of TooLarge text (inr o) = is_run end.TooLarge text o
  output_of _ text o = absurd o

  one_output : (text more : List ℕ) (status other : Status) → Output status text → Output other more → (status ≡ other) × (text ≡ more)
  one_output _ _ _ _ (is_refused text a) (is_refused more b) = (refl, one_refusal (IsHeadFault input) one_head_fault text more a b)
  one_output _ _ _ _ (is_refused text a) (is_large more b) = absurd (faulty_not_too_large a.line a.why a.fault b.is)
  one_output _ _ _ _ (is_refused text a) (is_run how more b) = absurd (no_fault b.bytes b.head b.next b.room a.line a.why b.begun a.fault)
  one_output _ _ _ _ (is_large text a) (is_refused more b) = absurd (faulty_not_too_large b.line b.why b.fault a.is)
  one_output _ _ _ _ (is_large text a) (is_large more b) = (refl, a.printed ∙ sym b.printed)
  one_output _ _ _ _ (is_large text a) (is_run how more b) = absurd (not_too_large b.bytes b.head b.next b.room b.begun a.is)
  one_output _ _ _ _ (is_run how text a) (is_refused more b) = absurd (no_fault a.bytes a.head a.next a.room b.line b.why a.begun b.fault)
  one_output _ _ _ _ (is_run how text a) (is_large more b) = absurd (not_too_large a.bytes a.head a.next a.room a.begun b.is)
  one_output _ _ _ _ (is_run how text a) (is_run other more b) = let one = one_run how other text more a b in (ap status_of one.0, one.1)

  pub one_replay : (text more : List ℕ) (status other : Status) → IsReplayOutput input status text → IsReplayOutput input other more → (status ≡ other) × (text ≡ more)
  one_replay text more status other a b = one_output text more status other (output_of status text a) (output_of other more b)
