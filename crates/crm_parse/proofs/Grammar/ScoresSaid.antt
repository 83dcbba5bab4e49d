-- Scores and roles of rules, by their words.
use Rattle.std.proofs.Common.{◌≡◌, ℕ, ℤ, Bool, true, false, cond, eqb, List, [], ◌∷◌, ◌++◌, Option, Some, None, Ok, refl, sym, ap, ◌∙◌, subst}
use Rattle.std.specs.Prelude.{codes, map, ◌||◌}
use Rattle.std.specs.Char.{to_ascii_lowercase}
use Rattle.std.specs.Option.{ok_or}
use Rattle.std.proofs.lemmas.Bool.{and_parts, eq-eqb, eqb-true, false_from_ne_true, false≢true, or_from, or_parts}
use Rattle.score.specs.ScoreText.{read_score}
use Rattle.crm_parse.specs.declared.fault.ParseCause.TheVariants.{BadScore, BadValue}
use Rattle.crm_parse.specs.declared.values.RoleName.{RoleName}
use Rattle.crm_parse.specs.declared.values.RoleName.TheVariants as named
use Rattle.crm_parse.specs.declared.words.RoleWord.{RoleWord}
use Rattle.crm_parse.specs.declared.words.RoleWord.TheVariants as role
use Rattle.crm_parse.specs.Reading.{rule_role_of, score_of, supported}
use Rattle.crm_parse.specs.Texts.{after, before}
use Rattle.crm_parse.specs.Values.{role_of, says}
use Rattle.faults.proofs.Steps.{bind-ok}
use Rattle.crm_parse.proofs.Binds.{ok_or-ok}
use Rattle.crm_parse.proofs.PairWords.{has}
use Rattle.crm_parse.proofs.Affixes.{after-some, before-again, before-some, none_by}
use Rattle.crm_parse.proofs.ScoreRead.{first-none}
use Rattle.crm_parse.specs.Grammar.Phrases.{TableSays, in_table, then_colon}
use Rattle.crm_parse.specs.Grammar.Scores.{ScoreSays, TakenRoleSays, says_promoted, says_started}

-- a score with its colon
pub score-said : (word : List ℕ) (points : ℤ) → score_of word ≡ Ok points → ScoreSays word points
unfolding score_of
score-said word points e =
    let (text, found, rest) = bind-ok (ok_or (before (codes ":") word) BadScore) _ points e in
    let whole : word ≡ text ++ codes ":" = before-some (codes ":") word text (ok_or-ok (before (codes ":") word) BadScore text found) in
    subst (λ w. ScoreSays w points) (sym whole) (then_colon text points (in_table text points (ok_or-ok (read_score text) BadScore points rest)))

pub table-is : {A : Type 0} (table : List ℕ → Option A) (word : List ℕ) (value : A) → TableSays table word value → table word ≡ Some value
table-is table w v (in_table word value h) = h

pub score-read : (word : List ℕ) (points : ℤ) → ScoreSays word points → score_of word ≡ Ok points
unfolding score_of
score-read w p (then_colon text points s) = rw (score_of, before-again (codes ":") text, table-is read_score text points s) refl

-- no score begins with a byte with which none begins
pub score-begins : (b : ℕ) (label word : List ℕ) (points : ℤ) → ((t : List ℕ) → read_score (b ∷ t) ≡ None) → ScoreSays word points
    → after (b ∷ label) word ≡ None
score-begins b label w p none (then_colon text points s) =
    none_by _ (λ rest e. first-none b label text (codes ":") rest points none (table-is read_score text points s) (after-some (b ∷ label) (text ++ codes ":") rest e))

-- a role
role-case : (text : List ℕ) (name : RoleName) (read : RoleWord) → role_of text ≡ Some name → supported name ≡ Ok read → TakenRoleSays text read
role-case text named.Started read r e = let s : role.Started ≡ read = cc in subst (TakenRoleSays text) s (says_started text r)
role-case text named.Promoted read r e = let s : role.Promoted ≡ read = cc in subst (TakenRoleSays text) s (says_promoted text r)
role-case text named.Unpromoted read r e = cc
role-case text named.Stopped read r e = cc

pub supported-said : (text : List ℕ) (name : RoleName) (read : RoleWord) → role_of text ≡ Some name → supported name ≡ Ok read → TakenRoleSays text read
supported-said text name read r e = role-case text name read r e

pub role-said : (text : List ℕ) (read : RoleWord) → rule_role_of text ≡ Ok read → TakenRoleSays text read
unfolding rule_role_of
role-said text read e =
    let (name, found, rest) = bind-ok (ok_or (role_of text) BadValue) _ read e in
    role-case text name read (ok_or-ok (role_of text) BadValue name found) rest

pub role-read : (text : List ℕ) (read : RoleWord) → TakenRoleSays text read → rule_role_of text ≡ Ok read
unfolding rule_role_of
role-read t r (says_started text h) = rw (rule_role_of, h) refl
role-read t r (says_promoted text h) = rw (rule_role_of, h) refl

-- a word that says a text lacks the bytes that no case changes and the text lacks
module _ (b : ℕ) (keeps : to_ascii_lowercase b ≡ b) where
  byte-lacks : (x c : ℕ) → to_ascii_lowercase x ≡ to_ascii_lowercase c → eqb (to_ascii_lowercase c) b ≡ false → eqb x b ≡ false
  byte-lacks x c s n = false_from_ne_true (eqb x b) (λ e.
      let x_is : x ≡ b = eqb-true x b e in
      let low : to_ascii_lowercase c ≡ b = sym s ∙ (ap to_ascii_lowercase x_is ∙ keeps) in
      false≢true (sym n ∙ eq-eqb _ _ low))

  pub says-lacks : (word text : List ℕ) → says word text ≡ true → has b (map to_ascii_lowercase text) ≡ false → has b word ≡ false
  says-lacks [] text s n = refl
  says-lacks (x ∷ xs) [] s n = cc
  says-lacks (x ∷ xs) (c ∷ cs) s n =
      let (one, rest) = and_parts _ _ s in
      let (first, others) = or_parts _ _ n in
      or_from _ _ (byte-lacks x c (eqb-true _ _ one) first) (says-lacks xs cs rest others)

role_lacks-case : (text : List ℕ) (name : RoleName) (t p m u s f : Bool) → says text (codes "Started") ≡ t → says text (codes "Promoted") ≡ p
    → says text (codes "Master") ≡ m → says text (codes "Unpromoted") ≡ u → says text (codes "Slave") ≡ s → says text (codes "Stopped") ≡ f
    → cond t (Some named.Started) (cond (p || m) (Some named.Promoted) (cond (u || s) (Some named.Unpromoted) (cond f (Some named.Stopped) None))) ≡ Some name
    → has 61 text ≡ false
role_lacks-case text name true p m u s f a c d e g h k = says-lacks 61 refl text (codes "Started") a refl
role_lacks-case text name false true m u s f a c d e g h k = says-lacks 61 refl text (codes "Promoted") c refl
role_lacks-case text name false false true u s f a c d e g h k = says-lacks 61 refl text (codes "Master") d refl
role_lacks-case text name false false false true s f a c d e g h k = says-lacks 61 refl text (codes "Unpromoted") e refl
role_lacks-case text name false false false false true f a c d e g h k = says-lacks 61 refl text (codes "Slave") g refl
role_lacks-case text name false false false false false true a c d e g h k = says-lacks 61 refl text (codes "Stopped") h refl
role_lacks-case text name false false false false false false a c d e g h k = cc

-- no role has a `=`
role-lacks : (text : List ℕ) (name : RoleName) → role_of text ≡ Some name → has 61 text ≡ false
role-lacks text name e = role_lacks-case text name (says text (codes "Started")) (says text (codes "Promoted")) (says text (codes "Master"))
    (says text (codes "Unpromoted")) (says text (codes "Slave")) (says text (codes "Stopped")) refl refl refl refl refl refl e

pub rule_role-lacks : (text : List ℕ) (read : RoleWord) → TakenRoleSays text read → has 61 text ≡ false
rule_role-lacks t r (says_started text h) = role-lacks text named.Started h
rule_role-lacks t r (says_promoted text h) = role-lacks text named.Promoted h
