-- The text of a score is read as that score.
use Rattle.std.proofs.Common.{◌≡◌, ℕ, ℤ, List, ◌∷◌, None, Ok, refl}
use Rattle.std.specs.Prelude.{codes}
use Rattle.score.specs.ScoreText.{read_score, score_text}
use Rattle.crm_parse.specs.Reading.{score_of}
use Rattle.crm_parse.specs.Texts.{after}
use Rattle.crm_parse.proofs.Affixes.{after-some, before-again, none_by}
use Rattle.crm_print.proofs.Written.{score_word}
use Rattle.crm_parse.proofs.ScoreRead.{IsRead, first-none}

pub score_of-again : (points : ℤ) → IsRead points → score_of (score_word points) ≡ Ok points
unfolding score_of
score_of-again points h = rw (before-again (codes ":") (score_text points), h) refl

pub score-no_label : (b : ℕ) (label : List ℕ) (points : ℤ) → ((t : List ℕ) → read_score (b ∷ t) ≡ None) → IsRead points
    → after (b ∷ label) (score_word points) ≡ None
score-no_label b label points none h =
    none_by _ (λ rest e. first-none b label (score_text points) (codes ":") rest points none h (after-some (b ∷ label) (score_word points) rest e))
