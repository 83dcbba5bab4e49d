-- An agent is read just when its word says it.
use Rattle.std.proofs.Common.{arith, ◌≡◌, ◌+◌, nat_le, ◌==◌, ◌||◌, not, ℕ, Bool, true, false, List, [], ◌∷◌, ◌++◌, length, Ok, refl, sym, ap, ◌∙◌, subst}
use Rattle.std.specs.Prelude.{codes}
use Rattle.std.specs.List.{list_all}
use Rattle.std.proofs.lemmas.Bool.{and_parts, eqb-true, leb-true, not-true, or_from, or_parts}
use Rattle.std.proofs.lemmas.List.Splits.{length-slice_split}
use Rattle.crm_parse.specs.declared.fault.ParseCause.TheVariants.{BadValue, Unsupported}
use Rattle.crm_parse.specs.Primitive.{agent_of, colon_parts, is_agent, is_template, whole_agent}
use Rattle.crm_parse.proofs.Binds.{if-ok, unless-ok}
use Rattle.crm_parse.proofs.PairWords.{has}
use Rattle.crm_parse.specs.Grammar.PrimitiveForm.{AgentSays, IsAgentPart, agent_type, class_and_type, class_provider_type}
use Rattle.crm_parse.proofs.Grammar.PairsRelated.{filled-key, key-filled}

-- a word without a colon is one part
one-part : (word : List ℕ) → has 58 word ≡ false → colon_parts word ≡ word ∷ []
one-part [] h = refl
one-part (b ∷ bs) h =
    let (one, rest) = or_parts (b == 58) (has 58 bs) h in
    rw (one, one-part bs rest) refl

-- and another is cut at the first
cut-part : (front back : List ℕ) → has 58 front ≡ false → colon_parts (front ++ 58 ∷ back) ≡ front ∷ colon_parts back
cut-part [] back h = refl
cut-part (b ∷ bs) back h =
    let (one, rest) = or_parts (b == 58) (has 58 bs) h in
    rw (one, cut-part bs back rest) refl

record FirstColon (word : List ℕ) : Type 0 where
  front : List ℕ
  back : List ℕ
  whole : word ≡ front ++ 58 ∷ back
  plain : has 58 front ≡ false

first-case : (b : ℕ) (bs : List ℕ) (here : Bool) → (b == 58) ≡ here → (has 58 bs ≡ true → FirstColon bs) → (here || has 58 bs) ≡ true → FirstColon (b ∷ bs)
first-case b bs true e h k = record { front = []; back = bs; whole = ap (λ c. c ∷ bs) (eqb-true b 58 e); plain = refl }
first-case b bs false e h k =
    let f = h k in
    record { front = b ∷ f.front; back = f.back; whole = ap (λ ws. b ∷ ws) f.whole; plain = or_from _ _ e f.plain }

first-colon : (word : List ℕ) → has 58 word ≡ true → FirstColon word
first-colon [] h = cc
first-colon (b ∷ bs) h = first-case b bs (b == 58) refl (first-colon bs) h

abbrev Filled : List ℕ → Bool
Filled part = not (length part == 0)

is_part : (part : List ℕ) → Filled part ≡ true → has 58 part ≡ false → IsAgentPart part
is_part part f h = record { filled = filled-key part (not-true _ f); plain = h }

record IsAgent (parts : List (List ℕ)) : Type 0 where
  few : nat_le (length parts) 3 ≡ true
  each : list_all Filled parts ≡ true

whole-case : (word agent : List ℕ) (parts : List (List ℕ)) → colon_parts word ≡ parts → (length parts == 1) ≡ false → whole_agent word ≡ agent → word ≡ agent
whole-case word agent parts p n e = rw (p, n) at e

-- with three parts there is no more
three-said : (a b c agent : List ℕ) (more : Bool) → has 58 c ≡ more → has 58 a ≡ false → has 58 b ≡ false → let word = a ++ 58 ∷ (b ++ 58 ∷ c) in IsAgent (a ∷ b ∷ colon_parts c)
    → whole_agent word ≡ agent → AgentSays word agent
three-said a b c agent true m x y h e =
    let f = first-colon c m in
    let parts : colon_parts c ≡ f.front ∷ colon_parts f.back = ap colon_parts f.whole ∙ cut-part f.front f.back f.plain in
    let n : length (colon_parts f.back) ≡ _ + 1 = length-slice_split (λ d. d == 58) f.back in
    let many : length (colon_parts c) ≡ 1 + length (colon_parts f.back) = ap length parts ∙ (omega arith) in
    let few = leb-true _ _ h.few in
    absurd (let z : ⊥ = omega (arith, few, many, n) in z)
three-said a b c agent false m x y h e =
    let parts : colon_parts c ≡ c ∷ [] = one-part c m in
    let each : list_all Filled (a ∷ b ∷ c ∷ []) ≡ true = subst (λ ps. list_all Filled (a ∷ b ∷ ps) ≡ true) parts h.each in
    let (fa, rest) = and_parts _ _ each in
    let (fb, last) = and_parts _ _ rest in
    let (fc, end) = and_parts _ _ last in
    let all : colon_parts (a ++ 58 ∷ (b ++ 58 ∷ c)) ≡ a ∷ b ∷ c ∷ [] = cut-part a (b ++ 58 ∷ c) x ∙ ap (λ ps. a ∷ ps) (cut-part b c y ∙ ap (λ ps. b ∷ ps) parts) in
    subst (AgentSays (a ++ 58 ∷ (b ++ 58 ∷ c))) (whole-case _ agent _ all refl e) (class_provider_type a b c (is_part a fa x) (is_part b fb y) (is_part c fc m))

two-said : (a b agent : List ℕ) (more : Bool) → has 58 b ≡ more → has 58 a ≡ false → IsAgent (a ∷ colon_parts b) → whole_agent (a ++ 58 ∷ b) ≡ agent
    → AgentSays (a ++ 58 ∷ b) agent
two-said a b agent true m x h e =
    let f = first-colon b m in
    let parts : colon_parts b ≡ f.front ∷ colon_parts f.back = ap colon_parts f.whole ∙ cut-part f.front f.back f.plain in
    subst (λ w. AgentSays (a ++ 58 ∷ w) agent) (sym f.whole)
    (three-said a f.front f.back agent (has 58 f.back) refl x f.plain (subst (λ ps. IsAgent (a ∷ ps)) parts h) (subst (λ w. whole_agent (a ++ 58 ∷ w) ≡ agent) f.whole e))
two-said a b agent false m x h e =
    let parts : colon_parts b ≡ b ∷ [] = one-part b m in
    let each : list_all Filled (a ∷ b ∷ []) ≡ true = subst (λ ps. list_all Filled (a ∷ ps) ≡ true) parts h.each in
    let (fa, rest) = and_parts _ _ each in
    let (fb, end) = and_parts _ _ rest in
    let all : colon_parts (a ++ 58 ∷ b) ≡ a ∷ b ∷ [] = cut-part a b x ∙ ap (λ ps. a ∷ ps) parts in
    subst (AgentSays (a ++ 58 ∷ b)) (whole-case _ agent _ all refl e) (class_and_type a b (is_part a fa x) (is_part b fb m))

one-said : (word agent : List ℕ) (more : Bool) → has 58 word ≡ more → IsAgent (colon_parts word) → whole_agent word ≡ agent → AgentSays word agent
one-said word agent true m h e =
    let f = first-colon word m in
    let parts : colon_parts word ≡ f.front ∷ colon_parts f.back = ap colon_parts f.whole ∙ cut-part f.front f.back f.plain in
    subst (λ w. AgentSays w agent) (sym f.whole)
    (two-said f.front f.back agent (has 58 f.back) refl f.plain (subst IsAgent parts h) (subst (λ w. whole_agent w ≡ agent) f.whole e))
one-said word agent false m h e =
    let parts : colon_parts word ≡ word ∷ [] = one-part word m in
    let each : list_all Filled (word ∷ []) ≡ true = subst (λ ps. list_all Filled ps ≡ true) parts h.each in
    let (f, end) = and_parts _ _ each in
    let same : codes "ocf:heartbeat:" ++ word ≡ agent = rw parts at e in
    subst (AgentSays word) same (agent_type word (is_part word f m))

pub record AgentIsSaid (word agent : List ℕ) : Type 0 where
  pub plain : is_template word ≡ false
  pub said : AgentSays word agent

pub agent-said : (word agent : List ℕ) → agent_of word ≡ Ok agent → AgentIsSaid word agent
agent-said word agent e =
    let (rest, plain) = unless-ok (is_template word) _ agent Unsupported e in
    let (whole, is) = if-ok (is_agent word) (Ok (whole_agent word)) agent BadValue rest in
    let (few, each) = and_parts _ _ is in
    let same : whole_agent word ≡ agent = cc in
    record { plain = plain; said = one-said word agent (has 58 word) refl (record { few = few; each = each }) same }

part-filled : (part : List ℕ) → IsAgentPart part → Filled part ≡ true
part-filled part h = ap not (key-filled part h.filled)

pub agent-read : (word agent : List ℕ) → is_template word ≡ false → AgentSays word agent → agent_of word ≡ Ok agent
agent-read w a t (agent_type type h) = rw (t, one-part type h.plain, part-filled type h) refl
agent-read w a t (class_and_type class type c h) =
    rw (t, cut-part class type c.plain, one-part type h.plain, part-filled class c, part-filled type h) refl
agent-read w a t (class_provider_type class provider type c p h) =
    rw (t, cut-part class (provider ++ 58 ∷ type) c.plain, cut-part provider type p.plain, one-part type h.plain, part-filled class c, part-filled provider p, part-filled type h) refl
