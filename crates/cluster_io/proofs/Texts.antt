-- What a physical line has before its line end, and whether it goes on.
use Rattle.std.proofs.Common.{◌≡◌, ℕ, suc, ◌+◌, ◌-◌, ◌≤◌, ◌<◌, Bool, true, false, ◌==◌, ◌&&◌, ◌||◌, cond, List, [], ◌∷◌, ◌++◌, length, take, arith, refl, ap, sym, ◌∙◌}
use Rattle.std.proofs.lemmas.Bool.{cond-true, cond-false, cond_both, or_parts, and_right, both_ways}
use Rattle.std.proofs.lemmas.List.{length-take-le}
use Rattle.crm_lex.specs.RawLines.{content, ends_in, is_line_end}
use Rattle.cluster_io.specs.NextLine.{has_feed}
use Rattle.cluster_io.specs.Inner.FoundLines.{before_feed}

-- a text that ends in a byte has one
pub ends_in_some : (byte : ℕ) (text : List ℕ) → ends_in byte text ≡ true → 0 < length text
ends_in_some byte [] h = absurd (both_ways false refl h)
ends_in_some byte (b ∷ bs) h = omega arith

-- bytes without a line feed are no line end
no_line_end : (b : ℕ) (bs : List ℕ) → has_feed (b ∷ bs) ≡ false → is_line_end (b ∷ bs) ≡ false
no_line_end b [] h = (or_parts (b == 10) false h).0
no_line_end b (d ∷ []) h =
    and_right (b == 13) (d == 10) (or_parts (d == 10) false (or_parts (b == 10) ((d == 10) || false) h).1).0
no_line_end b (d ∷ e ∷ bs) h = refl

-- bytes without a line feed are content
pub content_without_feed : (text : List ℕ) → has_feed text ≡ false → content text ≡ text
content_without_feed [] h = refl
content_without_feed (b ∷ bs) h =
    cond-false (is_line_end (b ∷ bs)) [] (b ∷ content bs) (no_line_end b bs h)
    ∙ ap (λ (t : List ℕ). b ∷ t) (content_without_feed bs (or_parts (b == 10) (has_feed bs) h).1)

-- a line end that begins with bytes without a line feed begins with one byte of them at most
line_end_begun : (b : ℕ) (bs more : List ℕ) → has_feed (b ∷ bs) ≡ false → is_line_end (b ∷ (bs ++ more)) ≡ true → length bs ≡ 0
line_end_begun b [] more h e = refl
line_end_begun b (d ∷ []) [] h e =
    absurd (both_ways (is_line_end (b ∷ d ∷ [])) (no_line_end b (d ∷ []) h) e)
line_end_begun b (d ∷ []) (m ∷ more) h e = absurd (both_ways false refl e)
line_end_begun b (d ∷ f ∷ bs) more h e = absurd (both_ways false refl e)

-- of bytes without a line feed at the front of a line all but the last are content, whatever follows
pub content_begun : (text more : List ℕ) → has_feed text ≡ false → length text ≤ length (content (text ++ more)) + 1
content_begun [] more h = omega arith
content_begun (b ∷ bs) more h =
    cond_both (is_line_end (b ∷ (bs ++ more))) [] (b ∷ content (bs ++ more)) (λ xs. length (b ∷ bs) ≤ length xs + 1)
    (λ e. omega (arith, line_end_begun b bs more h e))
    (λ _. omega (arith, content_begun bs more (or_parts (b == 10) (has_feed bs) h).1))

starts_no_end : (b : ℕ) (more : List ℕ) → (b == 10) ≡ false → (b == 13) ≡ false → is_line_end (b ∷ more) ≡ false
starts_no_end b [] feed return = feed
starts_no_end b (m ∷ []) feed return = ap (λ t. t && m == 10) return
starts_no_end b (m ∷ n ∷ more) feed return = refl

-- where they don't end in a carriage return, all are content
pub content_begun_whole : (text more : List ℕ) → has_feed text ≡ false → ends_in 13 text ≡ false → length text ≤ length (content (text ++ more))
content_begun_whole [] more h return = omega arith
content_begun_whole (b ∷ []) more h return =
    cond_both (is_line_end (b ∷ more)) [] (b ∷ content more) (λ xs. length (b ∷ []) ≤ length xs)
    (λ e. absurd (both_ways (is_line_end (b ∷ more)) (starts_no_end b more (or_parts (b == 10) false h).0 return) e))
    (λ _. omega arith)
content_begun_whole (b ∷ d ∷ bs) more h return =
    cond_both (is_line_end (b ∷ d ∷ (bs ++ more))) [] (b ∷ content (d ∷ (bs ++ more))) (λ xs. length (b ∷ d ∷ bs) ≤ length xs)
    (λ e. let none = line_end_begun b (d ∷ bs) more h e in absurd (omega (arith, none)))
    (λ _. omega (arith, content_begun_whole (d ∷ bs) more (or_parts (b == 10) (has_feed (d ∷ bs)) h).1 return))

-- bytes of which the last is a line feed, two at least before it, don't begin with a line end
long_no_end : (b d : ℕ) (bs : List ℕ) → is_line_end (b ∷ d ∷ (bs ++ 10 ∷ [])) ≡ false
long_no_end b d [] = refl
long_no_end b d (e ∷ bs) = refl

one_before_feed : (t : Bool) (b : ℕ) → cond (t && true) [] (b ∷ []) ≡ cond t (take (length (b ∷ []) - 1) (b ∷ [])) (b ∷ [])
one_before_feed true b = refl
one_before_feed false b = refl

before_feed_more : (t : Bool) (b d : ℕ) (bs : List ℕ)
    → cond t (take (length (b ∷ d ∷ bs) - 1) (b ∷ d ∷ bs)) (b ∷ d ∷ bs)
    ≡ b ∷ cond t (take (length (d ∷ bs) - 1) (d ∷ bs)) (d ∷ bs)
before_feed_more true b d bs =
    let one : length (b ∷ d ∷ bs) - 1 ≡ suc (length bs) = omega arith in
    let two : length (d ∷ bs) - 1 ≡ length bs = omega arith in
    rw (one, two) refl
before_feed_more false b d bs = refl

-- a physical line's content by what stands before its line feed
pub content_at_feed : (text : List ℕ) → content (text ++ 10 ∷ []) ≡ before_feed text
content_at_feed [] = refl
content_at_feed (b ∷ []) = one_before_feed (b == 13) b
content_at_feed (b ∷ d ∷ bs) =
    cond-false (is_line_end (b ∷ d ∷ (bs ++ 10 ∷ []))) [] (b ∷ content (d ∷ (bs ++ 10 ∷ []))) (long_no_end b d bs)
    ∙ (ap (λ (t : List ℕ). b ∷ t) (content_at_feed (d ∷ bs)) ∙ sym (before_feed_more (ends_in 13 (d ∷ bs)) b d bs))

-- a carriage return is left out at most
pub length-before_feed : (text : List ℕ) → (length (before_feed text) ≤ length text) × (length text ≤ length (before_feed text) + 1)
length-before_feed text =
    cond_both (ends_in 13 text) (take (length text - 1) text) text
    (λ xs. (length xs ≤ length text) × (length text ≤ length xs + 1))
    (λ _. let e : length (take (length text - 1) text) ≡ length text - 1 = length-take-le (length text - 1) text (omega arith) in
    (omega arith, omega arith))
    (λ _. (omega arith, omega arith))

-- what is left out is a carriage return
pub before_feed_whole : (text : List ℕ) → length text ≤ length (before_feed text) → ends_in 13 text ≡ false
before_feed_whole text all = by (ends_in 13 text) refl
  where
    by : (t : Bool) → ends_in 13 text ≡ t → ends_in 13 text ≡ false
    by false e = e
    by true e =
        let some = ends_in_some 13 text e in
        let left : length (before_feed text) ≡ length text - 1
        = ap length (cond-true (ends_in 13 text) (take (length text - 1) text) text e) ∙ length-take-le (length text - 1) text (omega arith) in
        absurd (omega (arith, all, left, some))
