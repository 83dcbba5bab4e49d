-- A run gets one end and one text; and wherever it stands, its lines are how that text begins.
use Rattle.std.proofs.Common.{◌≡◌, ℕ, true, false, Option, Some, None, List, [], ◌∷◌, ◌++◌, is_none, map, length, length-append, append_assoc, refl, ap, sym, subst, ◌∙◌, arith}
use Rattle.std.proofs.lemmas.Grind.{flat_map-append}
use Rattle.cluster_types.specs.declared.cluster.Cluster.{Cluster}
use Rattle.cluster_types.specs.declared.journal.Answer.{Answer}
use Rattle.cluster_types.specs.declared.journal.Event.{Event}
use Rattle.cluster_types.specs.declared.journal.Journal.{Journal}
use Rattle.cluster_types.specs.declared.journal.Promotion.{Promotion}
use Rattle.cluster_types.specs.declared.run.RunLine.{RunLine}
use Rattle.cluster_types.specs.declared.run.RunLine.TheVariants as line
use Rattle.cluster_types.specs.Runs.{RunStanding, due, RunsOn, plans, goes, completes, aborts, answers, Runs, IsAsking, IsCutRun, IsRunSoFar}
use Rattle.cluster_types.specs.Sources.{Says}
use Rattle.cluster_types.specs.Texts.{run_line}
use Rattle.live_run.specs.AnswersToCome.{Coming}
use Rattle.live_run.specs.Courses.{answers_to_come}
use Rattle.live_run.specs.LineCauses.{line_refusal_text}
use Rattle.live_run.specs.declared.line_stop.LineCause.{LineCause}
use Rattle.live_run.specs.declared.line_stop.LineStop.{LineStop}
use Rattle.live_run.specs.declared.line_stop.LineStop.TheVariants as why
use Rattle.live_run.specs.Ends.{AsksForMore, EndGets, CutRunGives, WholeRunGives, run_lines_text}
use Rattle.live_run.specs.declared.live_end.LiveEnd.{LiveEnd}
use Rattle.live_run.specs.declared.live_end.LiveEnd.TheVariants as end
use Rattle.input_reading.specs.declared.results.result_lines.ResultLine.{ResultLine}
use Rattle.run_safety.specs.TwoRuns.{IsFront}
use Rattle.run_safety.proofs.Beginnings.{begins_cut, begins_whole}
use Rattle.run_safety.proofs.OneEnd.{before_stuck, cut_one, whole_one, whole_or_cut}
use Rattle.run_safety.proofs.OneStep.{ended_waits}
use Rattle.run_safety.proofs.PlansAreOne.{plans_one}
use Rattle.run_safety.proofs.SoFar.{so_far_one, so_far_or_cut, step_asks, nothing_said}
use Rattle.live_run.proofs.Behind.{answer_in}

longer : (xs ys : List ResultLine) (z : ResultLine) → length ys ≡ length (xs ++ z ∷ ys) → ⊥
longer xs ys z h = let sum = length-append xs (z ∷ ys) in omega (arith, h, sum)

-- the line of an answer is found by how many stand behind it
one_split : (first other back behind : List ResultLine) (r q : ResultLine) → first ++ r ∷ back ≡ other ++ q ∷ behind → length back ≡ length behind → r ≡ q
one_split [] [] back behind r q e n = cc
one_split (x ∷ first) (y ∷ other) back behind r q e n =
    let tail : first ++ r ∷ back ≡ other ++ q ∷ behind = cc in one_split first other back behind r q tail n
one_split [] (y ∷ other) back behind r q e n =
    let tail : back ≡ other ++ q ∷ behind = cc in
    let size = ap length tail in
    absurd (longer other behind q (omega (arith, size, n)))
one_split (x ∷ first) [] back behind r q e n =
    let tail : first ++ r ∷ back ≡ behind = cc in
    let size = ap length tail in
    absurd (longer first back r (omega (arith, size, n)))

map_size : (xs : List ResultLine) → length (map answer_in xs) ≡ length xs
map_size [] = refl
map_size (x ∷ xs) = let n = map_size xs in omega (arith, n)

-- while the answers to come are known to be not all, a run that asks for one more goes no step
module _ (c : Cluster) (promotions : List Promotion) where
  asks_stuck : (at : RunStanding) (rest : Option (List Answer)) → rest ≡ Some [] → IsAsking at → (lines : List RunLine) (next : RunStanding) (left : Option (List Answer))
      → RunsOn c promotions false at rest lines next left → ⊥
  asks_stuck _ rest e asking _ _ _ (plans k es _ placed actions plan) = asking
  asks_stuck _ rest e asking _ _ left (goes k t since events _ _ step) = step_asks t since events rest left e asking step
  asks_stuck _ rest e asking _ _ _ (completes k t since _ ended unaborted) = ended_waits t since ended asking
  asks_stuck _ rest e asking _ _ _ (aborts k t since _ ended went_wrong) = ended_waits t since ended asking
  asks_stuck _ rest e asking _ _ left (answers k es _ _ given said applies) = nothing_said left given (subst (λ z. Says false z (Some given) left) e said)

  begins_so_far : (es : List Event) (rest : List Answer) (at : RunStanding) (behind : Option (List Answer)) (lines others : List RunLine) (left : List Event)
      → Runs c promotions false (due 1 es) (Some rest) lines at behind → IsRunSoFar c promotions false es (Some rest) others left (Some []) → IsFront lines others
  begins_so_far es rest at behind lines others left runs run =
      let g = before_stuck c promotions false (plans_one c promotions) (due 1 es) (Some rest) tt at run.last behind (Some []) lines others runs run.steps
      (asks_stuck run.last (Some []) refl run.asking) in
      record { more = g.more; joined = g.joined }

text_front : (c : Cluster) (lines others : List RunLine) → IsFront lines others → IsFront (run_lines_text c lines) (run_lines_text c others)
text_front c lines others f = record {
  more = run_lines_text c f.more;
  joined = ap (run_lines_text c) f.joined ∙ flat_map-append (run_line c) lines f.more;
}

front_on : (xs ys zs text : List ℕ) → IsFront xs ys → text ≡ ys ++ zs → IsFront xs text
front_on xs ys zs text f is = record { more = f.more ++ zs; joined = is ∙ (ap (λ (t : List ℕ). t ++ zs) f.joined ∙ append_assoc xs f.more zs) }

module _ (c : Cluster) (journal : Journal) (coming : Coming) where
  abbrev told : Option (List Answer)
  told = Some (answers_to_come coming)

  abbrev runs_to : RunStanding → Option (List Answer) → List RunLine → Type 0
  runs_to at behind lines = Runs c journal.promotions (is_none coming.stop) (due 1 journal.events) told lines at behind

  pub begins_due : (at : RunStanding) (behind : Option (List Answer)) (lines : List RunLine) (how : LiveEnd) (text : List ℕ) → runs_to at behind lines → EndGets c journal coming how text
      → IsFront (run_lines_text c lines) text
  begins_due at behind lines end.Done text runs g =
      let runs_true = subst (λ z. Runs c journal.promotions (is_none z) (due 1 journal.events) told lines at behind) g.run.all runs in
      subst (IsFront (run_lines_text c lines)) (sym g.printed)
      (text_front c lines g.lines (begins_whole c journal.promotions true (plans_one c journal.promotions) journal.events told tt at behind lines runs_true g.run.journal_now g.lines g.run.run).0)
  begins_due at behind lines end.Unexpected text runs g =
      front_on (run_lines_text c lines) (run_lines_text c g.lines) (run_line c (line.Unexpected g.result.line)) text
      (text_front c lines g.lines
      (begins_cut c journal.promotions (is_none coming.stop) (plans_one c journal.promotions) journal.events told tt at behind lines runs g.run.journal_now g.result.answer
      (Some (map answer_in g.run.behind)) g.lines g.run.run).0) g.printed
  begins_due at behind lines end.Refused text runs g =
      let runs_false = subst (λ z. Runs c journal.promotions (is_none z) (due 1 journal.events) told lines at behind) g.stop runs in
      front_on (run_lines_text c lines) (run_lines_text c g.lines) (line_refusal_text g.line g.cause) text
      (text_front c lines g.lines (begins_so_far c journal.promotions journal.events (answers_to_come coming) at behind lines g.lines g.run.journal_now runs_false g.run.run)) g.printed
  begins_due at behind lines end.TooLarge text runs g =
      let runs_false = subst (λ z. Runs c journal.promotions (is_none z) (due 1 journal.events) told lines at behind) g.stop runs in
      subst (IsFront (run_lines_text c lines)) (sym g.printed)
      (text_front c lines g.lines (begins_so_far c journal.promotions journal.events (answers_to_come coming) at behind lines g.lines g.run.journal_now runs_false g.run.run))
  begins_due at behind lines how text runs g = absurd g

  abbrev AreOne : LiveEnd → List ℕ → LiveEnd → List ℕ → Type 0
  AreOne one text other also = (one ≡ other) × (text ≡ also)

  none_some : {R : Type 0} (w : LineStop) → coming.stop ≡ None → coming.stop ≡ Some w → R
  none_some w e f = let wrong : ⊥ = cc in absurd wrong

  cut_texts : (text also : List ℕ) → EndGets c journal coming end.Unexpected text → EndGets c journal coming end.Unexpected also → text ≡ also
  cut_texts text also g h =
      let one = cut_one c journal.promotions (is_none coming.stop) (plans_one c journal.promotions) journal.events told tt g.run.journal_now h.run.journal_now g.lines h.lines g.result.answer h.result.answer
      (Some (map answer_in g.run.behind)) (Some (map answer_in h.run.behind)) g.run.run h.run.run in
      let behind : map answer_in g.run.behind ≡ map answer_in h.run.behind = some_one (map answer_in g.run.behind) (map answer_in h.run.behind) one.3 in
      let g_size = map_size g.run.behind in
      let h_size = map_size h.run.behind in
      let both = ap length behind in
      let result = one_split g.given h.given g.run.behind h.run.behind g.result h.result (sym g.run.parts ∙ h.run.parts) (omega (arith, g_size, h_size, both)) in
      g.printed ∙ (ap (λ (ls : List RunLine). run_lines_text c ls ++ run_line c (line.Unexpected g.result.line)) one.0
      ∙ (ap (λ (r : ResultLine). run_lines_text c h.lines ++ run_line c (line.Unexpected r.line)) result ∙ sym h.printed))
    where
      some_one : (xs ys : List Answer) → Some xs ≡ Some ys → xs ≡ ys
      some_one xs ys e = cc

  more_one : (lines others : List RunLine) → AsksForMore c journal coming lines → AsksForMore c journal coming others → lines ≡ others
  more_one lines others a b =
      (so_far_one c journal.promotions (plans_one c journal.promotions) journal.events told tt a.journal_now b.journal_now lines others a.run b.run).0

  more_or_cut : {R : Type 0} (lines others : List RunLine) (given : List ResultLine) (result : ResultLine) (w : LineStop) → coming.stop ≡ Some w → AsksForMore c journal coming lines
      → CutRunGives c journal coming others given result → R
  more_or_cut lines others given result w stop a b =
      so_far_or_cut c journal.promotions (plans_one c journal.promotions) journal.events told tt a.journal_now b.journal_now lines others result.answer (Some (map answer_in b.behind)) a.run
      (subst (λ z. IsCutRun c journal.promotions (is_none z) journal.events told others b.journal_now result.answer (Some (map answer_in b.behind))) stop b.run)

  whole_cut : {R : Type 0} (lines others : List RunLine) (given : List ResultLine) (result : ResultLine) → WholeRunGives c journal coming lines → CutRunGives c journal coming others given result → R
  whole_cut lines others given result a b =
      whole_or_cut c journal.promotions true (plans_one c journal.promotions) journal.events told tt a.journal_now b.journal_now lines others result.answer (Some (map answer_in b.behind)) a.run
      (subst (λ z. IsCutRun c journal.promotions (is_none z) journal.events told others b.journal_now result.answer (Some (map answer_in b.behind))) a.all b.run)

  refused_or_large : {R : Type 0} (n : ℕ) (a : LineCause) → coming.stop ≡ Some (why.Refused n a) → coming.stop ≡ Some why.TooLarge → R
  refused_or_large n a e f = let wrong : ⊥ = cc in absurd wrong

  same_refusal : (n m : ℕ) (a b : LineCause) → coming.stop ≡ Some (why.Refused n a) → coming.stop ≡ Some (why.Refused m b) → line_refusal_text n a ≡ line_refusal_text m b
  same_refusal n m a b e f =
      let line : n ≡ m = cc in let cause : a ≡ b = cc in ap (λ (k : ℕ). line_refusal_text k a) line ∙ ap (line_refusal_text m) cause

  pub one_end : (one other : LiveEnd) (text also : List ℕ) → EndGets c journal coming one text → EndGets c journal coming other also → AreOne one text other also
  one_end end.Done end.Done text also g h =
      let same = whole_one c journal.promotions true (plans_one c journal.promotions) journal.events told tt g.run.journal_now h.run.journal_now g.lines h.lines g.run.run h.run.run in
      (refl, g.printed ∙ (ap (run_lines_text c) same.0 ∙ sym h.printed))
  one_end end.Done end.Unexpected text also g h = whole_cut g.lines h.lines h.given h.result g.run h.run
  one_end end.Done end.Refused text also g h = none_some _ g.run.all h.stop
  one_end end.Done end.TooLarge text also g h = none_some _ g.run.all h.stop
  one_end end.Unexpected end.Done text also g h = whole_cut h.lines g.lines g.given g.result h.run g.run
  one_end end.Unexpected end.Unexpected text also g h = (refl, cut_texts text also g h)
  one_end end.Unexpected end.Refused text also g h = more_or_cut h.lines g.lines g.given g.result _ h.stop h.run g.run
  one_end end.Unexpected end.TooLarge text also g h = more_or_cut h.lines g.lines g.given g.result _ h.stop h.run g.run
  one_end end.Refused end.Done text also g h = none_some _ h.run.all g.stop
  one_end end.Refused end.Unexpected text also g h = more_or_cut g.lines h.lines h.given h.result _ g.stop g.run h.run
  one_end end.Refused end.Refused text also g h = (
    refl,
    g.printed ∙ (ap (λ (ls : List RunLine). run_lines_text c ls ++ line_refusal_text g.line g.cause) (more_one g.lines h.lines g.run h.run)
        ∙ (ap (λ (t : List ℕ). run_lines_text c h.lines ++ t) (same_refusal g.line h.line g.cause h.cause g.stop h.stop) ∙ sym h.printed)),
  )
  one_end end.Refused end.TooLarge text also g h = refused_or_large g.line g.cause g.stop h.stop
  one_end end.TooLarge end.Done text also g h = none_some _ h.run.all g.stop
  one_end end.TooLarge end.Unexpected text also g h = more_or_cut g.lines h.lines h.given h.result _ g.stop g.run h.run
  one_end end.TooLarge end.Refused text also g h = refused_or_large h.line h.cause h.stop g.stop
  one_end end.TooLarge end.TooLarge text also g h = (refl, g.printed ∙ (ap (run_lines_text c) (more_one g.lines h.lines g.run h.run) ∙ sym h.printed))
  one_end end.Done other text also g h = absurd h
  one_end end.Unexpected other text also g h = absurd h
  one_end end.Refused other text also g h = absurd h
  one_end end.TooLarge other text also g h = absurd h
  one_end one other text also g h = absurd g
