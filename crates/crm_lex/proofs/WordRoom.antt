-- The words at some places, as letters and places are added.
use Rattle.std.proofs.Common.{◌≡◌, ℕ, zero, suc, ◌-◌, ◌≤◌, List, [], ◌∷◌, ◌++◌, length, take, drop, slice_range, refl, sym, ap, ◌∙◌, append_assoc, arith}
use Rattle.std.proofs.lemmas.List.{take-append-le, drop-append-le, take-map, map-append, length-drop, length-append, length-map, take_all}
use Rattle.std.proofs.Math.Seq.{drop-append_seam}
use Rattle.crm_lex.specs.WordRoom.{words_at, AllWithin}
use Rattle.crm_lex.specs.declared.span.Span.{Span}

pub length-words_at : (letters : List ℕ) (spans : List Span) → length (words_at letters spans) ≡ length spans
length-words_at letters spans = length-map spans (λ (span : Span). slice_range letters span.start span.end)

-- a place keeps its word as letters are added
range-more : (letters more : List ℕ) (i j : ℕ) → i ≤ j → j ≤ length letters → slice_range (letters ++ more) i j ≡ slice_range letters i j
range-more letters more i j le within =
    let size : j - i ≤ length (drop i letters) = omega (arith, length-drop i letters) in
    ap (take (j - i)) (drop-append-le i letters more (omega arith)) ∙ take-append-le (j - i) (drop i letters) more size

words_at-more : (letters more : List ℕ) (spans : List Span) → AllWithin (length letters) spans → words_at (letters ++ more) spans ≡ words_at letters spans
words_at-more letters more [] w = refl
words_at-more letters more (span ∷ spans) w =
    let one = range-more letters more span.start span.end w.0.0 w.0.1 in
    let others = words_at-more letters more spans w.1 in
    cc

-- the place of the letters that are added
range-new : (letters word : List ℕ) → slice_range (letters ++ word) (length letters) (length (letters ++ word)) ≡ word
range-new letters word =
    ap (take (length (letters ++ word) - length letters)) (drop-append_seam letters word) ∙ take_all _ word (omega (arith, length-append letters word))

-- a front of some list, with more behind it
take-front : {A : Type 0} (n : ℕ) (xs ys : List A) → take n (take n xs ++ ys) ≡ take n (xs ++ ys)
take-front zero xs ys = refl
take-front (suc n) [] ys = refl
take-front (suc n) (x ∷ xs) ys = ap (λ zs. x ∷ zs) (take-front n xs ys)

AllWithin-take : (n k : ℕ) (spans : List Span) → AllWithin k spans → AllWithin k (take n spans)
AllWithin-take zero k spans w = tt
AllWithin-take (suc n) k [] w = tt
AllWithin-take (suc n) k (span ∷ spans) w = (w.0, AllWithin-take n k spans w.1)

AllWithin-push : (j k : ℕ) (spans : List Span) (span : Span) → AllWithin j spans → j ≤ k → span.start ≤ span.end → span.end ≤ k → AllWithin k (spans ++ span ∷ [])
AllWithin-push j k [] span w le low high = ((low, high), tt)
AllWithin-push j k (first ∷ spans) span w le low high = ((w.0.0, omega (arith, w.0.1)), AllWithin-push j k spans span w.1 le low high)

-- one word more
pub record Kept (letters new : List ℕ) (spans spans_new : List Span) (word : List ℕ) : Type 0 where
  pub first : (more : List (List ℕ)) → take 8 (words_at new spans_new ++ more) ≡ take 8 (words_at letters spans ++ word ∷ more)
  pub places : AllWithin (length new) spans_new

pub keep_word : (letters new : List ℕ) (spans spans_new : List Span) (span : Span) (word : List ℕ) → AllWithin (length letters) spans → new ≡ letters ++ word
    → span.start ≡ length letters → span.end ≡ length new → spans_new ≡ take 8 (spans ++ span ∷ []) → Kept letters new spans spans_new word
keep_word letters new spans spans_new span word within added start end kept =
    let size = ap length added in
    let old : words_at new spans ≡ words_at letters spans = ap (λ ls. words_at ls spans) added ∙ words_at-more letters word spans within in
    let last : slice_range new span.start span.end ≡ word = rw (start, end, added) (range-new letters word) in
    let all : words_at new (spans ++ span ∷ []) ≡ words_at letters spans ++ word ∷ [] =
    map-append (λ (s : Span). slice_range new s.start s.end) spans (span ∷ []) ∙ rw (old, last) refl in
    let there : words_at new spans_new ≡ take 8 (words_at letters spans ++ word ∷ []) =
    ap (words_at new) kept ∙ (sym (take-map (λ (s : Span). slice_range new s.start s.end) 8 (spans ++ span ∷ [])) ∙ ap (take 8) all) in
    let whole = AllWithin-push (length letters) (length new) spans span within (omega (arith, length-append letters word)) (omega (arith, length-append letters word)) (omega arith) in
    record {
      first = λ more. rw there (take-front 8 (words_at letters spans ++ word ∷ []) more ∙ ap (take 8) (append_assoc (words_at letters spans) (word ∷ []) more));
      places = rw kept (AllWithin-take 8 (length new) (spans ++ span ∷ []) whole);
    }
