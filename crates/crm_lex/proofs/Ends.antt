-- Line ends and last bytes.
use Rattle.std.proofs.Common.{◌≡◌, ℕ, suc, ◌-◌, ◌<◌, ◌≤◌, Bool, true, false, ◌&&◌, ◌==◌, if◌then◌else◌, List, [], ◌∷◌, ◌++◌, length, get_or, take, refl, sym, ap, ◌∙◌, append_assoc, arith, eqb-true}
use Rattle.std.proofs.lemmas.Bool.{cond_both}
use Rattle.crm_lex.specs.RawLines.{content, ends_in, is_line_end}

-- the last byte, by its place
pub ends_in-last : (n : ℕ) (bs : List ℕ) → 0 < length bs → (get_or bs (length bs - 1) 0 == n) ≡ ends_in n bs
ends_in-last n [] some = absurd (omega arith)
ends_in-last n (b ∷ []) some = refl
ends_in-last n (b ∷ c ∷ cs) some =
    let place : length (b ∷ c ∷ cs) - 1 ≡ suc (length (c ∷ cs) - 1) = omega arith in
    rw place (ends_in-last n (c ∷ cs) (omega arith))

-- what ends in a byte is its front and this byte
pub front_and_last : (n : ℕ) (bs : List ℕ) → ends_in n bs ≡ true → bs ≡ take (length bs - 1) bs ++ n ∷ []
front_and_last n [] e = cc
front_and_last n (b ∷ []) e = ap (λ x. x ∷ []) (eqb-true b n e)
front_and_last n (b ∷ c ∷ cs) e =
    let place : length (b ∷ c ∷ cs) - 1 ≡ suc (length (c ∷ cs) - 1) = omega arith in
    rw place (ap (λ xs. b ∷ xs) (front_and_last n (c ∷ cs) e))

-- content is no longer than its line
pub length-content : (line : List ℕ) → length (content line) ≤ length line
length-content [] = omega arith
length-content (b ∷ bs) =
    cond_both (is_line_end (b ∷ bs)) [] (b ∷ content bs) (λ xs. length xs ≤ length (b ∷ bs)) (λ _. omega arith)
    (λ _. omega (arith, length-content bs))

-- a line without a line end
pub content-none : (bs : List ℕ) → ends_in 10 bs ≡ false → content bs ≡ bs
content-none [] e = refl
content-none (b ∷ []) e = rw e refl
content-none (b ∷ c ∷ []) e = split (b == 13)
  where
    split : (t : Bool) → (if (t && c == 10) then [] else b ∷ content (c ∷ [])) ≡ b ∷ c ∷ []
    split true = rw e refl
    split false = rw e refl
content-none (b ∷ c ∷ d ∷ ds) e = ap (λ xs. b ∷ xs) (content-none (c ∷ d ∷ ds) e)

-- a line that ends in a line feed alone
pub content-feed : (front : List ℕ) → ends_in 13 front ≡ false → content (front ++ 10 ∷ []) ≡ front
content-feed [] e = refl
content-feed (b ∷ []) e = rw e refl
content-feed (b ∷ c ∷ []) e = ap (λ xs. b ∷ xs) (content-feed (c ∷ []) e)
content-feed (b ∷ c ∷ d ∷ ds) e = ap (λ xs. b ∷ xs) (content-feed (c ∷ d ∷ ds) e)

-- a line that ends in a carriage return and a line feed
pub content-return_feed : (front : List ℕ) → content (front ++ 13 ∷ 10 ∷ []) ≡ front
content-return_feed [] = refl
content-return_feed (b ∷ []) = refl
content-return_feed (b ∷ c ∷ []) = ap (λ xs. b ∷ xs) (content-return_feed (c ∷ []))
content-return_feed (b ∷ c ∷ d ∷ ds) = ap (λ xs. b ∷ xs) (content-return_feed (c ∷ d ∷ ds))

-- the same where the front is known
pub content_at_feed : (line front : List ℕ) → line ≡ front ++ 10 ∷ [] → ends_in 13 front ≡ false → front ≡ content line
content_at_feed line front e h = sym (ap content e ∙ content-feed front h)

pub content_at_return : (line front : List ℕ) → line ≡ front ++ 10 ∷ [] → ends_in 13 front ≡ true → take (length front - 1) front ≡ content line
content_at_return line front e h =
    let text = take (length front - 1) front in
    let whole : line ≡ text ++ 13 ∷ 10 ∷ [] = e ∙ (ap (λ xs. xs ++ 10 ∷ []) (front_and_last 13 front h) ∙ append_assoc text (13 ∷ []) (10 ∷ [])) in
    sym (ap content whole ∙ content-return_feed text)
