-- Logical lines that are read one after the other, and what follows of it.
use Rattle.std.proofs.Common.{◌≡◌, inl, inr, ℕ, ◌+◌, false, Option, Some, None, List, [], ◌∷◌, ◌++◌, length, option_map, IfSome, append-nil, append_assoc, length-append, refl, ap, sym, subst, ◌∙◌, arith}
use Rattle.std.specs.List.{concat}
use Rattle.std.proofs.lemmas.Grind.{flat_map-append}
use Rattle.cluster_io.proofs.Pieces.{Takes-then}
use Rattle.cluster_types.specs.declared.cluster.Cluster.{Cluster}
use Rattle.crm_lex.specs.RawLines.{raw_lines}
use Rattle.live_run.specs.AnswersToCome.{Coming, LineReaderAt}
use Rattle.live_run.specs.SourceFollowed.{AreNear, NoneOrLastSays, LastLineSays, HasRead, IsStoppedBy, StandWhole, bytes_of, count_said, results_first, said_by}
use Rattle.run_safety.specs.TwoRuns.{IsFront}
use Rattle.live_run.specs.Inner.ReadSteps.{HasPassed, ReadUntil}
use Rattle.live_run.specs.declared.result_reader.Came.{Came}
use Rattle.live_run.specs.declared.result_reader.Came.TheVariants as came
use Rattle.live_run.specs.declared.line_stop.LineStop.{LineStop}
use Rattle.input_reading.specs.declared.results.result_lines.ResultLine.{ResultLine}

pub bytes_joined : (xs ys : List (List (List ℕ))) → bytes_of (xs ++ ys) ≡ bytes_of xs ++ bytes_of ys
bytes_joined xs ys = flat_map-append concat xs ys

count_first : (given : List ResultLine) (others : Coming) → count_said (results_first given others) ≡ length given + count_said others
count_first given others = let n = length-append given others.results in omega (arith, n)

results_joined : (given more : List ResultLine) (others : Coming) → results_first given (results_first more others) ≡ results_first (given ++ more) others
results_joined given more others = ap (λ (rs : List ResultLine). record { results = rs; stop = others.stop }) (sym (append_assoc given more others.results))

-- whole lines, and whole lines behind them
pub whole_then : (xs ys : List (List (List ℕ))) → StandWhole xs → StandWhole ys → StandWhole (xs ++ ys)
whole_then xs ys first second rest =
    ap raw_lines (ap (λ (t : List ℕ). t ++ rest) (bytes_joined xs ys) ∙ append_assoc (bytes_of xs) (bytes_of ys) rest)
    ∙ (first (bytes_of ys ++ rest)
    ∙ (ap (λ (t : List (List (List ℕ))). xs ++ t) (second rest) ∙ sym (append_assoc xs ys (raw_lines rest))))

-- what stands behind some of the first lines
pub lines_joined : {X : Type 0} (xs ys : List X) (f g : List ℕ → List X) (before after : Option (List ℕ)) → option_map f before ≡ option_map (λ left. ys ++ g left) after
    → option_map (λ left. xs ++ f left) before ≡ option_map (λ left. (xs ++ ys) ++ g left) after
lines_joined xs ys f g None None e = refl
lines_joined xs ys f g None (Some v) e = cc
lines_joined xs ys f g (Some u) None e = cc
lines_joined {X} xs ys f g (Some u) (Some v) e =
    ap (option_map (λ (t : List X). xs ++ t)) e ∙ ap Some (sym (append_assoc xs ys (g v)))

pub told_joined : (given more : List ResultLine) (f g : List ℕ → Coming) (before after : Option (List ℕ)) → option_map f before ≡ option_map (λ left. results_first more (g left)) after
    → option_map (λ left. results_first given (f left)) before ≡ option_map (λ left. results_first (given ++ more) (g left)) after
told_joined given more f g None None e = refl
told_joined given more f g None (Some v) e = cc
told_joined given more f g (Some u) None e = cc
told_joined given more f g (Some u) (Some v) e = ap (option_map (results_first given)) e ∙ ap Some (results_joined given more (g v))

none_whole : (at : LineReaderAt) → at.reading.ended ≡ false → (at.reading.ended ≡ false) × StandWhole []
none_whole at unended = (unended, λ rest. refl)

module _ (c : Cluster) where
  pub read_nothing : (at : LineReaderAt) (left : Option (List ℕ)) → HasRead c at at left left [] [] []
  read_nothing at None = record { taken = refl; parts = append-nil at.reading.held; cut = refl; whole = none_whole at; answered = λ others. refl; room = omega arith; same_size = refl }
  read_nothing at (Some left) = record { taken = refl; parts = append-nil at.reading.held; cut = refl; whole = none_whole at; answered = λ others. refl; room = omega arith; same_size = refl }

  pub passed_nothing : (at : LineReaderAt) (left : Option (List ℕ)) → HasPassed c at at left left
  passed_nothing at left = record { lines = []; bytes = []; read = read_nothing at left; near = inl refl }

  module _ (a b : LineReaderAt) (x y : Option (List ℕ)) (xs : List (List (List ℕ))) (given : List ResultLine) (bytes : List ℕ) (r : HasRead c a b x y xs given bytes) where
    parts_on : (more : List ℕ) → a.reading.held ++ (bytes ++ more) ≡ bytes_of xs ++ (b.reading.held ++ more)
    parts_on more =
        sym (append_assoc a.reading.held bytes more) ∙ (ap (λ (t : List ℕ). t ++ more) r.parts ∙ append_assoc (bytes_of xs) b.reading.held more)

    pub read_then : (d : LineReaderAt) (z : Option (List ℕ)) (ys : List (List (List ℕ))) (more : List ResultLine) (later : List ℕ) → HasRead c b d y z ys more later
        → HasRead c a d x z (xs ++ ys) (given ++ more) (bytes ++ later)
    read_then d z ys more later q = record {
      taken = Takes-then x y z bytes later r.taken q.taken;
      parts = parts_on later
          ∙ (ap (λ (t : List ℕ). bytes_of xs ++ t) q.parts
          ∙ (sym (append_assoc (bytes_of xs) (bytes_of ys) d.reading.held) ∙ ap (λ (t : List ℕ). t ++ d.reading.held) (sym (bytes_joined xs ys))));
      cut = r.cut ∙ lines_joined xs ys (λ left. raw_lines (b.reading.held ++ left)) (λ left. raw_lines (d.reading.held ++ left)) y z q.cut;
      whole = λ unended.
          let second = q.whole unended in
          let first = r.whole second.0 in
          (first.0, whole_then xs ys first.1 second.1);
      answered = λ others.
          ap (said_by c a) (append_assoc xs ys others)
          ∙ (r.answered (ys ++ others) ∙ (ap (results_first given) (q.answered others) ∙ results_joined given more (said_by c d others)));
      room =
          let first = r.room in
          let second = q.room in
          let lines = ap length (bytes_joined xs ys) in
          let sum = length-append (bytes_of xs) (bytes_of ys) in
          omega (arith, first, second, lines, sum);
      same_size = q.same_size ∙ r.same_size;
    }

    pub near_then : (ys : List (List (List ℕ))) (later : List ℕ) → AreNear a xs bytes → AreNear b ys later → AreNear a (xs ++ ys) (bytes ++ later)
    near_then ys later first (inr second) =
        let both = ap length (parts_on later) in
        let left = length-append (bytes_of xs) (b.reading.held ++ later) in
        let lines = ap length (bytes_joined xs ys) in
        let sum = length-append (bytes_of xs) (bytes_of ys) in
        inr (omega (arith, both, left, lines, sum, second))
    near_then ys later (inl none) (inl also) = inl (ap (λ (t : List ℕ). t ++ later) none ∙ also)
    near_then ys later (inr first) (inl none) =
        let same : a.reading.held ++ (bytes ++ later) ≡ a.reading.held ++ bytes
        = ap (λ (t : List ℕ). a.reading.held ++ (bytes ++ t)) none ∙ ap (λ (t : List ℕ). a.reading.held ++ t) (append-nil bytes) in
        let size = ap length same in
        let lines = ap length (bytes_joined xs ys) in
        let sum = length-append (bytes_of xs) (bytes_of ys) in
        inr (omega (arith, size, lines, sum, first))

    pub last_then : (ys : List (List (List ℕ))) → LastLineSays c b ys → LastLineSays c a (xs ++ ys)
    last_then ys l =
        let front = ap count_said (r.answered l.front) ∙ count_first given (said_by c b l.front) in
        let whole = ap count_said (r.answered ys) ∙ count_first given (said_by c b ys) in
        let fewer = l.fewer in
        record {
          front = xs ++ l.front;
          last = l.last;
          joined = ap (λ (t : List (List (List ℕ))). xs ++ t) l.joined ∙ sym (append_assoc xs l.front (l.last ∷ []));
          fewer = omega (arith, front, whole, fewer);
        }

    pub ends_then : (ys : List (List (List ℕ))) → NoneOrLastSays c a xs → NoneOrLastSays c b ys → NoneOrLastSays c a (xs ++ ys)
    ends_then ys first (inl none) =
        subst (λ (t : List (List (List ℕ))). NoneOrLastSays c a t) (sym (ap (λ (t : List (List (List ℕ))). xs ++ t) none ∙ append-nil xs)) first
    ends_then ys first (inr last) = inr (last_then ys last)

    first_then : (ys : List (List (List ℕ))) → IfSome y (λ left. IsFront ys (raw_lines (b.reading.held ++ left)))
        → IfSome x (λ left. IsFront (xs ++ ys) (raw_lines (a.reading.held ++ left)))
    first_then ys first = by x y r.cut first
      where
        by : (u v : Option (List ℕ)) → option_map (λ left. raw_lines (a.reading.held ++ left)) u ≡ option_map (λ left. xs ++ raw_lines (b.reading.held ++ left)) v
            → IfSome v (λ left. IsFront ys (raw_lines (b.reading.held ++ left))) → IfSome u (λ left. IsFront (xs ++ ys) (raw_lines (a.reading.held ++ left)))
        by None v e f = tt
        by (Some left) None e f = cc
        by (Some left) (Some after) e f =
            let same : raw_lines (a.reading.held ++ left) ≡ xs ++ raw_lines (b.reading.held ++ after) = cc in
            record { more = f.more; joined = same ∙ (ap (λ (t : List (List (List ℕ))). xs ++ t) f.joined ∙ sym (append_assoc xs ys f.more)) }

    pub stopped_then : (z : Option (List ℕ)) (more : List ResultLine) (w : LineStop) → AreNear a xs bytes → IsStoppedBy c b y z more w → IsStoppedBy c a x z (given ++ more) w
    stopped_then z more w near s = record {
      lines = xs ++ s.lines;
      first = first_then s.lines s.first;
      said = r.answered s.lines ∙ ap (results_first given) s.said;
      ends = last_then s.lines s.ends;
      bytes = bytes ++ s.bytes;
      taken = Takes-then x y z bytes s.bytes r.taken s.taken;
      near = near_then s.lines s.bytes near s.near;
    }

  -- lines without words, and what comes behind them
  pub until_then : (a b d : LineReaderAt) (x y z : Option (List ℕ)) (found : Option Came) → HasPassed c a b x y → ReadUntil c found b d y z → ReadUntil c found a d x z
  until_then a b d x y z None p q = record {
    lines = p.lines ++ q.lines;
    bytes = p.bytes ++ q.bytes;
    read = read_then a b x y p.lines [] p.bytes p.read d z q.lines [] q.bytes q.read;
    near = near_then a b x y p.lines [] p.bytes p.read q.lines q.bytes p.near q.near;
  }
  until_then a b d x y z (Some (came.Answer result)) p q = record {
    lines = p.lines ++ q.lines;
    bytes = p.bytes ++ q.bytes;
    read = read_then a b x y p.lines [] p.bytes p.read d z q.lines (result ∷ []) q.bytes q.read;
    near = near_then a b x y p.lines [] p.bytes p.read q.lines q.bytes p.near q.near;
    ends = last_then a b x y p.lines [] p.bytes p.read q.lines q.ends;
  }
  until_then a b d x y z (Some came.End) p q = record {
    lines = p.lines ++ q.lines;
    bytes = p.bytes ++ q.bytes;
    read = read_then a b x y p.lines [] p.bytes p.read d z q.lines [] q.bytes q.read;
    all = q.all;
  }
  until_then a b d x y z (Some (came.Stop w)) p q = stopped_then a b x y p.lines [] p.bytes p.read z [] w p.near q
  until_then a b d x y z (Some came.Fault) p q = record {
    lines = p.lines ++ q.lines;
    bytes = p.bytes ++ q.bytes;
    read = read_then a b x y p.lines [] p.bytes p.read d z q.lines [] q.bytes q.read;
    not_ended = q.not_ended;
    unfinished = q.unfinished;
    undecided = q.undecided;
  }
