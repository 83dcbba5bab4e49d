-- What the readers of single words gave is what the grammar says.
use Rattle.std.proofs.Common.{◌≡◌, ◌⊎◌, inl, inr, ℕ, Bool, true, false, cond, eqb, List, [], ◌∷◌, ◌++◌, Some, None, Ok, refl, sym, ap, ◌∙◌}
use Rattle.std.specs.Prelude.{codes}
use Rattle.std.proofs.lemmas.Bool.{or_parts, false≢true}
use Rattle.crm_lex.specs.Names.{is, is_name, is_name_byte}
use Rattle.crm_parse.specs.declared.words.ActionWord.{ActionWord}
use Rattle.crm_parse.specs.declared.words.ActionWord.TheVariants.{Start, Stop, Promote, Demote}
use Rattle.crm_parse.specs.Reading.{Words, begins_set, end_at, resource_of}
use Rattle.crm_parse.specs.Texts.{before}
use Rattle.crm_parse.specs.Values.{action_of}
use Rattle.crm_parse.proofs.Binds.{is-true, name_of-again}
use Rattle.crm_parse.proofs.PairWords.{has}
use Rattle.crm_parse.specs.WordTexts.{action_word_text}
use Rattle.crm_parse.proofs.Affixes.{before-some, none_by}
use Rattle.crm_parse.proofs.LackedBytes.{name-lacks}
use Rattle.crm_parse.proofs.PairsAgain.{has-middle}

-- no word is left where none may be
pub end-ok : (words : Words) (y : Unit {0}) → end_at words ≡ Ok y → words ≡ []
end-ok [] y e = refl
end-ok (word ∷ words) y e = cc

first-lacks : (b : ℕ) (bs : List ℕ) (c : ℕ) → is_name_byte c ≡ false → is_name (b ∷ bs) ≡ true → eqb b c ≡ false
first-lacks b bs c n h = (or_parts (eqb b c) (has c bs) (name-lacks c (b ∷ bs) n h)).0

no_set : (name : List ℕ) → is_name name ≡ true → begins_set name ≡ false
no_set [] h = refl
no_set (b ∷ bs) h = rw (first-lacks b bs 47 refl h, first-lacks b bs 91 refl h, first-lacks b bs 40 refl h, first-lacks b bs 123 refl h) refl

-- a name is read as a resource
pub resource-again : (name : List ℕ) → is_name name ≡ true → resource_of name ≡ Ok name
resource-again name h = rw (no_set name h) (name_of-again name h)

-- an action is spelled in one way
action-case : (text : List ℕ) (action : ActionWord) (a b c d : Bool) → is text (codes "start") ≡ a → is text (codes "stop") ≡ b → is text (codes "promote") ≡ c
    → is text (codes "demote") ≡ d → cond a (Some Start) (cond b (Some Stop) (cond c (Some Promote) (cond d (Some Demote) None))) ≡ Some action → text ≡ action_word_text action
action-case text action true b c d e f g h k = let s : Start ≡ action = cc in is-true text (codes "start") e ∙ ap action_word_text s
action-case text action false true c d e f g h k = let s : Stop ≡ action = cc in is-true text (codes "stop") f ∙ ap action_word_text s
action-case text action false false true d e f g h k = let s : Promote ≡ action = cc in is-true text (codes "promote") g ∙ ap action_word_text s
action-case text action false false false true e f g h k = let s : Demote ≡ action = cc in is-true text (codes "demote") h ∙ ap action_word_text s
action-case text action false false false false e f g h k = cc

pub action-text : (text : List ℕ) (action : ActionWord) → action_of text ≡ Some action → text ≡ action_word_text action
action-text text action e =
    action-case text action (is text (codes "start")) (is text (codes "stop")) (is text (codes "promote")) (is text (codes "demote")) refl refl refl refl e

-- a text ends in its last byte
empty-end : (xs ys : List ℕ) → xs ++ ys ≡ [] → ys ≡ []
empty-end [] ys e = e
empty-end (x ∷ xs) ys e = cc

last-byte : (b : ℕ) (xs ys front : List ℕ) → xs ++ ys ≡ front ++ b ∷ [] → (ys ≡ []) ⊎ (has b ys ≡ true)
last-byte b [] ys front e = inr (ap (has b) e ∙ has-middle b front [])
last-byte b (x ∷ xs) ys [] e = let t : xs ++ ys ≡ [] = cc in inl (empty-end xs ys t)
last-byte b (x ∷ xs) ys (f ∷ front) e = let t : xs ++ ys ≡ front ++ b ∷ [] = cc in last-byte b xs ys front t

ends-case : (b : ℕ) (y : ℕ) (ys : List ℕ) → has b (y ∷ ys) ≡ false → ((y ∷ ys) ≡ []) ⊎ (has b (y ∷ ys) ≡ true) → ⊥
ends-case b y ys h (inl e) = cc
ends-case b y ys h (inr e) = false≢true (sym h ∙ e)

-- a text whose end lacks a byte doesn't end in it
pub ends-not : (b : ℕ) (xs : List ℕ) (y : ℕ) (ys : List ℕ) → has b (y ∷ ys) ≡ false → before (b ∷ []) (xs ++ y ∷ ys) ≡ None
ends-not b xs y ys h = none_by (before (b ∷ []) (xs ++ y ∷ ys)) (λ front e. ends-case b y ys h (last-byte b xs (y ∷ ys) front (before-some (b ∷ []) (xs ++ y ∷ ys) front e)))
