-- What says a colocation is read as it.
use Rattle.std.proofs.Common.{◌≡◌, ℕ, ℤ, true, false, List, [], ◌∷◌, Ok, refl}
use Rattle.std.specs.Prelude.{codes}
use Rattle.crm_lex.specs.Names.{is_name}
use Rattle.crm_parse.specs.declared.form.Form.{Form}
use Rattle.crm_parse.specs.declared.form.Side.{Side}
use Rattle.crm_parse.specs.declared.words.RoleWord.{RoleWord}
use Rattle.crm_parse.specs.Colocation.{colocation_at, no_attribute, side_at, side_in, side_of, side_started}
use Rattle.crm_parse.specs.Reading.{Words}
use Rattle.crm_parse.specs.Values.{role_of}
use Rattle.crm_parse.proofs.Binds.{name_at-again}
use Rattle.crm_parse.proofs.PairWords.{has}
use Rattle.crm_parse.proofs.ColocationRead.{attribute-none}
use Rattle.crm_parse.proofs.LackedBytes.{cut_at-none, has-append, name-lacks}
use Rattle.crm_parse.proofs.PairsAgain.{cut_at-again}
use Rattle.crm_parse.proofs.ScoreRead.{score-none}
use Rattle.crm_parse.specs.Grammar.ColocationForm.{ColocationSays, SideSays, a_colocation, side_alone, side_in_role}
use Rattle.crm_parse.specs.Grammar.Scores.{ScoreSays, TakenRoleSays, says_promoted, says_started}
use Rattle.crm_parse.proofs.Grammar.ScoresSaid.{score-begins, score-read, rule_role-lacks}
use Rattle.crm_parse.proofs.Grammar.WordsSaid.{resource-again}

in-read : (resource text : List ℕ) (r : RoleWord) → is_name resource ≡ true → TakenRoleSays text r
    → side_in resource (role_of text) ≡ Ok (record { resource = resource; role = r })
unfolding side_in
in-read resource t r n (says_started text h) = rw (h, side_in, resource-again resource n) refl
in-read resource t r n (says_promoted text h) = rw (h, side_in, resource-again resource n) refl

side-read : (word : List ℕ) (side : Side) → SideSays word side → side_of word ≡ Ok side
unfolding side_started
side-read w s (side_alone resource n) = rw (side_of, cut_at-none 58 resource (name-lacks 58 resource refl n), side_started, resource-again resource n) refl
side-read w s (side_in_role resource text r n h) =
    rw (side_of, cut_at-again 58 resource text (name-lacks 58 resource refl n)) (in-read resource text r n h)

side-lacks : (word : List ℕ) (side : Side) → SideSays word side → has 61 word ≡ false
side-lacks w s (side_alone resource n) = name-lacks 61 resource refl n
side-lacks w s (side_in_role resource text r n h) = has-append 61 resource (58 ∷ text) (name-lacks 61 resource refl n) (rule_role-lacks text r h)

side_at-read : (word : List ℕ) (side : Side) (words : Words) → SideSays word side → side_at (word ∷ words) ≡ Ok (side, words)
unfolding side_at
side_at-read word side words s = rw (side_at, attribute-none word (side-lacks word side s), side-read word side s) refl

score-no_attribute : (word : List ℕ) (points : ℤ) → ScoreSays word points → no_attribute word ≡ Ok tt
score-no_attribute word points s = rw (score-begins 110 (codes "ode-attribute=") word points (score-none 110 refl (λ t. refl) (λ t. refl)) s) refl

-- what says a colocation is read as it
pub colocation-is_read : (words : Words) (f : Form) → ColocationSays words f → colocation_at words ≡ Ok f
unfolding colocation_at
colocation-is_read ws f (a_colocation id score one other points dependent primary n s d p) =
    rw (
      colocation_at,
      name_at-again id (score ∷ one ∷ other ∷ []) n,
      score-no_attribute score points s,
      score-read score points s,
      side_at-read one dependent (other ∷ []) d,
      side_at-read other primary [] p,
    ) refl
