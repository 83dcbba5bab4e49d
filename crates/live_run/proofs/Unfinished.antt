-- The first logical line of a text goes on past bytes that hold no whole one, and a whole one stays the first.
use Rattle.std.proofs.Common.{◌≡◌, ℕ, ◌+◌, ◌<◌, ◌==◌, ◌||◌, Bool, true, false, List, [], ◌∷◌, ◌++◌, length, length-append, refl, ap, sym, ◌∙◌, arith}
use Rattle.std.specs.List.{concat, AllByRecursion}
use Rattle.std.proofs.lemmas.Bool.{cond-true, cond-false, cond_both, or_parts}
use Rattle.cluster_io.specs.NextLine.{first_line_of, first_line, has_feed, holds_line, is_whole}
use Rattle.cluster_io.proofs.PhysicalLines.{first_ends, first_of-onto_group}
use Rattle.crm_lex.specs.RawLines.{goes_on, joined, onto_first, onto_group, physical_lines}

-- a line without a line feed, if there is one
abbrev open_line : List ℕ → List (List ℕ)
open_line [] = []
open_line (b ∷ bs) = (b ∷ bs) ∷ []

-- a text is some physical lines that are whole, and bytes without a line feed; more behind it only adds to these
record Split (text : List ℕ) : Type 0 where
  pub front : List (List ℕ)
  pub back : List ℕ
  pub none : has_feed back ≡ false
  pub feeds : AllByRecursion (λ line. has_feed line ≡ true) front
  pub lines : physical_lines text ≡ front ++ open_line back
  pub more : (rest : List ℕ) → physical_lines (text ++ rest) ≡ front ++ physical_lines (back ++ rest)
  pub size : length text ≡ length (concat front) + length back

onto_open : (b : ℕ) (back : List ℕ) → onto_first b (open_line back) ≡ (b ∷ back) ∷ []
onto_open b [] = refl
onto_open b (d ∷ bs) = refl

feed_cons : (b : ℕ) (line : List ℕ) → (b == 10) ≡ false → has_feed line ≡ false → has_feed (b ∷ line) ≡ false
feed_cons b line e f = ap (λ (t : Bool). t || has_feed line) e ∙ f

feed_here : (b : ℕ) (line : List ℕ) → (b == 10) ≡ true → has_feed (b ∷ line) ≡ true
feed_here b line e = ap (λ (t : Bool). t || has_feed line) e

feed_behind : (b : ℕ) (line : List ℕ) → (t : Bool) → (b == 10) ≡ t → has_feed line ≡ true → has_feed (b ∷ line) ≡ true
feed_behind b line true e f = feed_here b line e
feed_behind b line false e f = ap (λ (t : Bool). t || has_feed line) e ∙ f

split : (text : List ℕ) → Split text
split [] = record { front = []; back = []; none = refl; feeds = tt; lines = refl; more = λ rest. refl; size = refl }
split (b ∷ bs) = by (b == 10) refl (split bs)
  where
    at_feed : (b == 10) ≡ true → Split bs → Split (b ∷ bs)
    at_feed e s = record {
      front = (b ∷ []) ∷ s.front;
      back = s.back;
      none = s.none;
      feeds = (feed_here b [] e, s.feeds);
      lines = cond-true (b == 10) ((b ∷ []) ∷ physical_lines bs) (onto_first b (physical_lines bs)) e ∙ ap (λ (t : List (List ℕ)). (b ∷ []) ∷ t) s.lines;
      more = λ rest. cond-true (b == 10) ((b ∷ []) ∷ physical_lines (bs ++ rest)) (onto_first b (physical_lines (bs ++ rest))) e
          ∙ ap (λ (t : List (List ℕ)). (b ∷ []) ∷ t) (s.more rest);
      size = let n = s.size in omega (arith, n);
    }

    on : (b == 10) ≡ false → (front : List (List ℕ)) (back : List ℕ) → has_feed back ≡ false → AllByRecursion (λ line. has_feed line ≡ true) front
        → physical_lines bs ≡ front ++ open_line back → ((rest : List ℕ) → physical_lines (bs ++ rest) ≡ front ++ physical_lines (back ++ rest))
        → length bs ≡ length (concat front) + length back → Split (b ∷ bs)
    on e [] back none feeds lines more size = record {
      front = [];
      back = b ∷ back;
      none = feed_cons b back e none;
      feeds = tt;
      lines = cond-false (b == 10) ((b ∷ []) ∷ physical_lines bs) (onto_first b (physical_lines bs)) e ∙ (ap (onto_first b) lines ∙ onto_open b back);
      more = λ rest. cond-false (b == 10) ((b ∷ []) ∷ physical_lines (bs ++ rest)) (onto_first b (physical_lines (bs ++ rest))) e
          ∙ (ap (onto_first b) (more rest)
          ∙ sym (cond-false (b == 10) ((b ∷ []) ∷ physical_lines (back ++ rest)) (onto_first b (physical_lines (back ++ rest))) e));
      size = omega (arith, size);
    }
    on e (line ∷ front) back none feeds lines more size = record {
      front = (b ∷ line) ∷ front;
      back = back;
      none = none;
      feeds = (feed_behind b line (b == 10) refl feeds.0, feeds.1);
      lines = cond-false (b == 10) ((b ∷ []) ∷ physical_lines bs) (onto_first b (physical_lines bs)) e ∙ ap (onto_first b) lines;
      more = λ rest. cond-false (b == 10) ((b ∷ []) ∷ physical_lines (bs ++ rest)) (onto_first b (physical_lines (bs ++ rest))) e ∙ ap (onto_first b) (more rest);
      size =
          let both = length-append line (concat front) in
          let other = length-append (b ∷ line) (concat front) in
          omega (arith, size, both, other);
    }

    by : (t : Bool) → (b == 10) ≡ t → Split bs → Split (b ∷ bs)
    by true e s = at_feed e s
    by false e s = on e s.front s.back s.none s.feeds s.lines s.more s.size

-- the first physical line of bytes without a line feed and of others behind them goes on past the first
record Begins (back rest : List ℕ) : Type 0 where
  pub line : List ℕ
  pub lines : List (List ℕ)
  pub is : physical_lines (back ++ rest) ≡ line ∷ lines
  pub long : length back < length line

onto_begins : (b : ℕ) (lines : List (List ℕ)) → (line : List ℕ) × ((others : List (List ℕ)) × ((onto_first b lines ≡ line ∷ others) × (0 < length line)))
onto_begins b [] = (b ∷ [], ([], (refl, omega arith)))
onto_begins b (line ∷ lines) = (b ∷ line, (lines, (refl, omega arith)))

begins : (back rest : List ℕ) → has_feed back ≡ false → 0 < length rest → Begins back rest
begins [] [] none some = absurd (omega (arith, some))
begins [] (b ∷ rest) none some = by (b == 10) refl
  where
    by : (t : Bool) → (b == 10) ≡ t → Begins [] (b ∷ rest)
    by true e = record {
      line = b ∷ [];
      lines = physical_lines rest;
      is = cond-true (b == 10) ((b ∷ []) ∷ physical_lines rest) (onto_first b (physical_lines rest)) e;
      long = omega arith;
    }
    by false e =
        let o = onto_begins b (physical_lines rest) in
        record {
          line = o.0;
          lines = o.1.0;
          is = cond-false (b == 10) ((b ∷ []) ∷ physical_lines rest) (onto_first b (physical_lines rest)) e ∙ o.1.1.0;
          long = o.1.1.1;
        }
begins (b ∷ back) rest none some =
    let p = or_parts (b == 10) (has_feed back) none in
    let more = begins back rest p.1 some in
    record {
      line = b ∷ more.line;
      lines = more.lines;
      is = cond-false (b == 10) ((b ∷ []) ∷ physical_lines (back ++ rest)) (onto_first b (physical_lines (back ++ rest))) p.0 ∙ ap (onto_first b) more.is;
      long = let l = more.long in omega (arith, l);
    }

-- lines that are whole and go on, and then a line that goes past the open one
goes_past : (continues : Bool) (front : List (List ℕ)) (back line : List ℕ) (lines : List (List ℕ)) → AllByRecursion (λ l. has_feed l ≡ true) front
    → is_whole continues (front ++ open_line back) ≡ false → length back < length line
    → length (concat front) + length back < length (concat (first_line_of (joined continues (front ++ line ∷ lines))))
goes_past continues [] back line lines feeds unended long = let past = by (goes_on continues line) refl in omega (arith, past)
  where
    by : (t : Bool) → goes_on continues line ≡ t → length back < length (concat (first_line_of (joined continues (line ∷ lines))))
    by true e =
        let is : first_line_of (joined continues (line ∷ lines)) ≡ line ∷ first_line_of (joined true lines)
        = ap first_line_of (cond-true (goes_on continues line) (onto_group line (joined true lines)) ((line ∷ []) ∷ joined false lines) e) ∙ first_of-onto_group line (joined true lines) in
        let size = ap (λ (t : List (List ℕ)). length (concat t)) is in
        let both = length-append line (concat (first_line_of (joined true lines))) in
        omega (arith, size, both, long)
    by false e =
        let is : first_line_of (joined continues (line ∷ lines)) ≡ line ∷ []
        = ap first_line_of (cond-false (goes_on continues line) (onto_group line (joined true lines)) ((line ∷ []) ∷ joined false lines) e) in
        let size = ap (λ (t : List (List ℕ)). length (concat t)) is in
        let both = length-append line [] in
        omega (arith, size, both, long)
goes_past continues (l ∷ front) back line lines feeds unended long =
    by (λ still. goes_past true front back line lines feeds.1 still long) (goes_on continues l) refl
  where
    by : (is_whole true (front ++ open_line back) ≡ false → length (concat front) + length back < length (concat (first_line_of (joined true (front ++ line ∷ lines)))))
        → (t : Bool) → goes_on continues l ≡ t → length (l ++ concat front) + length back < length (concat (first_line_of (joined continues (l ∷ (front ++ line ∷ lines)))))
    by later true e =
        let still = sym (cond-true (goes_on continues l) (is_whole true (front ++ open_line back)) (has_feed l) e) ∙ unended in
        let more = later still in
        let rest = first_line_of (joined true (front ++ line ∷ lines)) in
        let is : first_line_of (joined continues (l ∷ (front ++ line ∷ lines))) ≡ l ∷ rest
        = ap first_line_of (cond-true (goes_on continues l) (onto_group l (joined true (front ++ line ∷ lines))) ((l ∷ []) ∷ joined false (front ++ line ∷ lines)) e)
        ∙ first_of-onto_group l (joined true (front ++ line ∷ lines)) in
        let size = ap (λ (t : List (List ℕ)). length (concat t)) is in
        let both = length-append l (concat rest) in
        let other = length-append l (concat front) in
        omega (arith, size, both, other, more)
    by later false e =
        let whole : has_feed l ≡ false = sym (cond-false (goes_on continues l) (is_whole true (front ++ open_line back)) (has_feed l) e) ∙ unended in
        let wrong : true ≡ false = sym feeds.0 ∙ whole in
        absurd (let f : ⊥ = cc in f)

-- the first logical line of a text goes past bytes that stand before it and hold no whole line
pub longer : (text rest : List ℕ) → holds_line text ≡ false → 0 < length rest → length text < length (concat (first_line (text ++ rest)))
longer text rest unended some =
    let s = split text in
    let b = begins s.back rest s.none some in
    let past = goes_past false s.front s.back b.line b.lines s.feeds (ap (is_whole false) (sym s.lines) ∙ unended) b.long in
    let lines : physical_lines (text ++ rest) ≡ s.front ++ b.line ∷ b.lines = s.more rest ∙ ap (λ (t : List (List ℕ)). s.front ++ t) b.is in
    let size = ap (λ (t : List (List ℕ)). length (concat (first_line_of (joined false t)))) lines in
    let all = s.size in
    omega (arith, size, all, past)

-- a whole line is the first one, whatever follows
stays_first : (continues : Bool) (front : List (List ℕ)) (back behind : List ℕ) → has_feed back ≡ false → is_whole continues (front ++ open_line back) ≡ true
    → first_line_of (joined continues (front ++ physical_lines (back ++ behind))) ≡ first_line_of (joined continues (front ++ open_line back))
stays_first continues [] [] behind none whole = cc
stays_first continues [] (b ∷ back) behind none whole =
    let open_yet : is_whole continues ((b ∷ back) ∷ []) ≡ false
    = cond_both (goes_on continues (b ∷ back)) false (has_feed (b ∷ back)) (λ (t : Bool). t ≡ false) (λ _. refl) (λ _. none) in
    absurd (let f : ⊥ = cc in f)
stays_first continues (l ∷ front) back behind none whole = by (stays_first true front back behind none) (goes_on continues l) refl
  where
    by : (is_whole true (front ++ open_line back) ≡ true
        → first_line_of (joined true (front ++ physical_lines (back ++ behind))) ≡ first_line_of (joined true (front ++ open_line back)))
        → (t : Bool) → goes_on continues l ≡ t
        → first_line_of (joined continues (l ∷ (front ++ physical_lines (back ++ behind)))) ≡ first_line_of (joined continues (l ∷ (front ++ open_line back)))
    by later true e =
        let more = later (sym (cond-true (goes_on continues l) (is_whole true (front ++ open_line back)) (has_feed l) e) ∙ whole) in
        first_goes (front ++ physical_lines (back ++ behind)) e
        ∙ (ap (λ (t : List (List ℕ)). l ∷ t) more ∙ sym (first_goes (front ++ open_line back) e))
      where
        first_goes : (lines : List (List ℕ)) → goes_on continues l ≡ true → first_line_of (joined continues (l ∷ lines)) ≡ l ∷ first_line_of (joined true lines)
        first_goes lines e =
            ap first_line_of (cond-true (goes_on continues l) (onto_group l (joined true lines)) ((l ∷ []) ∷ joined false lines) e)
            ∙ first_of-onto_group l (joined true lines)
    by later false e = first_ends continues l (front ++ physical_lines (back ++ behind)) e ∙ sym (first_ends continues l (front ++ open_line back) e)

pub whole_first : (text behind : List ℕ) → holds_line text ≡ true → first_line (text ++ behind) ≡ first_line text
whole_first text behind whole =
    let s = split text in
    ap (λ (t : List (List ℕ)). first_line_of (joined false t)) (s.more behind)
    ∙ (stays_first false s.front s.back behind s.none (ap (is_whole false) (sym s.lines) ∙ whole)
    ∙ ap (λ (t : List (List ℕ)). first_line_of (joined false t)) (sym s.lines))
