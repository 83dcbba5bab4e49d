-- Where a result line stands: at the place, and with the room, that the lines before it leave.
use Rattle.std.proofs.Common.{◌≡◌, ℕ, ◌-◌, None, List, [], ◌∷◌, ◌++◌, length, length-append, refl, ap, ◌∙◌, arith}
use Rattle.std.specs.List.{concat}
use Rattle.std.proofs.lemmas.List.Sums.{sum_by-cons}
use Rattle.cluster_types.specs.declared.cluster.Cluster.{Cluster}
use Rattle.cluster_types.specs.AnswersThatApply.{seconds_in}
use Rattle.input_reading.specs.declared.results.result_lines.ResultLine.{ResultLine}
use Rattle.live_run.specs.AnswersToCome.{coming, result_first, said_first}
use Rattle.live_run.specs.LineSays.{line_says_within, place_behind_said}
use Rattle.live_run.specs.SourceFollowed.{bytes_of, place_behind_lines, results_first}
use Rattle.live_run.specs.declared.line_saying.Said.{Said}
use Rattle.live_run.specs.declared.line_saying.Said.TheVariants as said
use Rattle.live_run.specs.declared.place.Place.{Place}

-- places with equal parts
place_same : (one other : Place) → one.moment ≡ other.moment → one.before ≡ other.before → one.line ≡ other.line → one ≡ other
place_same one other e f g =
    ap (λ (m : ℕ). record { moment = m; before = one.before; line = one.line }) e
    ∙ (ap (λ (b : ℕ). record { moment = other.moment; before = b; line = one.line }) f
    ∙ ap (λ (l : ℕ). record { moment = other.moment; before = other.before; line = l }) g)

module _ (c : Cluster) (longest : ℕ) where
  moved : (room left : ℕ) (at other : Place) (more : List (List (List ℕ))) → room ≡ left → at ≡ other → coming c longest room at more ≡ coming c longest left other more
  moved room left at other more e f =
      ap (λ (k : ℕ). coming c longest k at more) e ∙ ap (λ (p : Place). coming c longest left p more) f

  room_on : (room : ℕ) (first : List (List ℕ)) (lines : List (List (List ℕ)))
      → room - length (concat first) - length (bytes_of lines) ≡ room - length (bytes_of (first ∷ lines))
  room_on room first lines = let size = length-append (concat first) (bytes_of lines) in omega (arith, size)

  -- what lines say of which none ends the reading, and then the others
  pub lines_behind : (room : ℕ) (at : Place) (before more : List (List (List ℕ))) → (coming c longest room at before).stop ≡ None
      → coming c longest room at (before ++ more)
      ≡ results_first (coming c longest room at before).results
      (coming c longest (room - length (bytes_of before)) (place_behind_lines at (coming c longest room at before).results before) more)
  lines_behind room at [] more none =
      moved room (room - length (bytes_of [])) at (place_behind_lines at [] []) more (omega arith) (place_same at (place_behind_lines at [] []) (omega arith) (omega arith) (omega arith))
  lines_behind room at (first ∷ before) more none =
      by (line_says_within c longest room at first) (λ place. lines_behind (room - length (concat first)) place before more) none
    where
      by : (says : Said) → ((place : Place) → (coming c longest (room - length (concat first)) place before).stop ≡ None
          → coming c longest (room - length (concat first)) place (before ++ more)
          ≡ results_first (coming c longest (room - length (concat first)) place before).results
          (coming c longest (room - length (concat first) - length (bytes_of before))
          (place_behind_lines place (coming c longest (room - length (concat first)) place before).results before) more))
          → (said_first at says (coming c longest (room - length (concat first)) (place_behind_said at says (length first)) before)).stop ≡ None
          → said_first at says (coming c longest (room - length (concat first)) (place_behind_said at says (length first)) (before ++ more))
          ≡ results_first (said_first at says (coming c longest (room - length (concat first)) (place_behind_said at says (length first)) before)).results
          (coming c longest (room - length (bytes_of (first ∷ before)))
          (place_behind_lines at (said_first at says (coming c longest (room - length (concat first)) (place_behind_said at says (length first)) before)).results (first ∷ before)) more)
      by said.Nothing on none =
          let place = place_behind_said at said.Nothing (length first) in
          let given = (coming c longest (room - length (concat first)) place before).results in
          let count = sum_by-cons (λ (one : List (List ℕ)). length one) first before in
          on place none
          ∙ ap (results_first given) (moved (room - length (concat first) - length (bytes_of before)) (room - length (bytes_of (first ∷ before)))
          (place_behind_lines place given before) (place_behind_lines at given (first ∷ before)) more
          (room_on room first before) (place_same (place_behind_lines place given before) (place_behind_lines at given (first ∷ before)) refl refl (omega (arith, count))))
      by (said.Answer answer) on none =
          let place = place_behind_said at (said.Answer answer) (length first) in
          let given = (coming c longest (room - length (concat first)) place before).results in
          let result : ResultLine = record { line = at.line; answer = answer } in
          let count = sum_by-cons (λ (one : List (List ℕ)). length one) first before in
          let waits = sum_by-cons (λ (one : ResultLine). seconds_in one.answer) result given in
          ap (result_first result) (on place none
          ∙ ap (results_first given) (moved (room - length (concat first) - length (bytes_of before)) (room - length (bytes_of (first ∷ before)))
          (place_behind_lines place given before) (place_behind_lines at (result ∷ given) (first ∷ before)) more
          (room_on room first before)
          (place_same (place_behind_lines place given before) (place_behind_lines at (result ∷ given) (first ∷ before)) (omega (arith, waits)) (omega arith) (omega (arith, count)))))
      by (said.Stop why) on none = cc
