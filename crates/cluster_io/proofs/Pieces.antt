-- One piece after another is taken from a source, or added to a sink.
use Rattle.std.proofs.Common.{arith, ◌≡◌, ℕ, zero, suc, ◌+◌, ◌-◌, ◌<◌, Option, Some, None, List, [], ◌∷◌, ◌++◌, refl, length, take, drop, sym, ap, ◌∙◌, append_assoc, option_map, subst, drop-drop, length-append, ◌≤◌}
use Rattle.std.proofs.Math.Seq.{take-append_seam, take-add}
use Rattle.std.proofs.lemmas.List.{take-append-drop, take_rest, length-take-le}
use Rattle.std.proofs.lemmas.List.Elements.{All-append, All-cons, All-nil}
use Rattle.std.specs.Prelude.{Result, Ok, Err, IfSome, OnErr}
use Rattle.cluster_io.specs.Streams.{TakesBytes, TakesAtMost, TakesCount, Adds, IsLeftOf, Offers, WholeFirst}

-- two takings in turn are one
pub Takes-then : (a b c : Option (List ℕ)) (xs ys : List ℕ)
    → TakesBytes a xs b → TakesBytes b ys c → TakesBytes a (xs ++ ys) c
Takes-then a b None xs ys p q = p ∙ ap (option_map (λ left. xs ++ left)) q
Takes-then a b (Some left) xs ys p q =
    p ∙ (ap (option_map (λ left. xs ++ left)) q ∙ ap Some (sym (append_assoc xs ys left)))

-- two additions in turn are one
pub Adds-then : (a b c : Option (List ℕ)) (xs ys : List ℕ)
    → Adds a xs b → Adds b ys c → Adds a (xs ++ ys) c
Adds-then None b c xs ys p q = q ∙ ap (option_map (λ held. held ++ ys)) p
Adds-then (Some held) b c xs ys p q =
    q ∙ (ap (option_map (λ held. held ++ ys)) p ∙ ap Some (append_assoc held xs ys))

-- what stands before a piece that was copied to the front of a buffer is that piece, and the rest follows
pub piece-copied : (bytes rest new : List ℕ) (at n : ℕ)
    → length new ≡ n → new ≡ take n (drop at bytes) → drop at bytes ≡ take n (new ++ rest) ++ drop (at + n) bytes
piece-copied bytes rest new at n e h =
    let front : take n (new ++ rest) ≡ new =
    subst (λ (k : ℕ). take k (new ++ rest) ≡ new) e (take-append_seam new rest) in
    rw (front, h, ← drop-drop) (sym (take-append-drop n (drop at bytes)))

-- after one more piece of a text, more of its front is added
pub Adds-piece : (a b c : Option (List ℕ)) (text : List ℕ) (done n : ℕ)
    → Adds a (take done text) b → Adds b (take n (take (length text - done) (drop done text))) c
    → Adds a (take (done + n) text) c
Adds-piece a b c text done n p q =
    rw take-add (Adds-then a b c (take done text) (take n (drop done text)) p (rw (take_rest text done) at q))

-- with one more piece of a buffer at most so many bytes are taken
pub Takes-at_most : (a b c : Option (List ℕ)) (xs buf : List ℕ) (n most : ℕ)
    → TakesBytes a xs b → TakesBytes b (take n buf) c → n ≤ length buf → length xs + n ≤ most → TakesAtMost most a c
Takes-at_most a b c xs buf n most p q h k = record {
  bytes = xs ++ take n buf;
  within = simp (length-append, length-take-le n buf h) k;
  taken = Takes-then a b c xs (take n buf) p q;
}

-- with one more piece of a buffer exactly so many bytes are taken
pub Takes-count : (a b c : Option (List ℕ)) (xs buf : List ℕ) (n count : ℕ)
    → TakesBytes a xs b → TakesBytes b (take n buf) c → n ≤ length buf → length xs + n ≡ count → TakesCount count a c
Takes-count a b c xs buf n count p q h k = record {
  bytes = xs ++ take n buf;
  counted = simp (length-append, length-take-le n buf h) k;
  taken = Takes-then a b c xs (take n buf) p q;
}

-- a fact that holds holds on an error
pub on_err : {T E P : Type 0} (r : Result T E) → P → OnErr r P
on_err (Ok _) p = tt
on_err (Err _) p = p

-- a first piece that is the whole text
pub whole-first : (a b c : Option (List (List ℕ))) (text : List ℕ) → b ≡ a → Offers b text c → IfSome c (WholeFirst text a)
whole-first a b None text same offers = tt
whole-first a None (Some now) text same offers = cc
whole-first a (Some earlier) (Some now) text same offers = record {
  earlier = earlier;
  told = sym same;
  rest = [];
  pieces = cc;
  left = All-nil (IsLeftOf text);
}

-- a further piece that is what was left
pub whole-more : (a b c : Option (List (List ℕ))) (text piece : List ℕ)
    → IfSome b (WholeFirst text a) → IsLeftOf text piece → Offers b piece c → IfSome c (WholeFirst text a)
whole-more a b None text piece whole left offers = tt
whole-more a None (Some now) text piece whole left offers = cc
whole-more a (Some mid) (Some now) text piece whole left offers =
    let one : now ≡ mid ++ piece ∷ [] = cc in record {
      earlier = whole.earlier;
      told = whole.told;
      rest = whole.rest ++ piece ∷ [];
      pieces = one ∙ (ap (λ (ps : List (List ℕ)). ps ++ piece ∷ []) whole.pieces ∙ append_assoc whole.earlier (text ∷ whole.rest) (piece ∷ []));
      left = All-append (IsLeftOf text) whole.rest (piece ∷ []) whole.left (All-cons (IsLeftOf text) piece [] left (All-nil (IsLeftOf text)));
    }

-- one more piece of a text, of which so much was taken before
pub whole-piece : (a b c : Option (List (List ℕ))) (text : List ℕ) (done : ℕ)
    → (done ≡ 0 → b ≡ a) → (0 < done → IfSome b (WholeFirst text a))
    → Offers b (take (length text - done) (drop done text)) c → IfSome c (WholeFirst text a)
whole-piece a b c text zero none so_far offers = whole-first a b c text (none refl) (rw (take_rest text zero) at offers)
whole-piece a b c text (suc d) none so_far offers =
    whole-more a b c text (drop (suc d) text) (so_far (omega arith)) (record { count = suc d; some = omega arith; left = refl })
    (rw (take_rest text (suc d)) at offers)
