-- Whether a part is named twice, by the names before it, in whatever order they stand.
use Rattle.std.proofs.Common.{◌≡◌, ℕ, false, ◌||◌, List, [], ◌∷◌, ◌++◌, refl, sym, ap, ◌∙◌}
use Rattle.crm_lex.specs.NameSets.{IsWithName, has_name}
use Rattle.cluster_model.specs.Inner.Faults.{HaveTheSame}
use Rattle.cluster_model.specs.Faults.{has_twice}
use Rattle.cluster_model.proofs.SameNames.{has-more, twice_alike, with_one}
use Rattle.std.proofs.lemmas.List.{append_assoc}

-- a part that wasn't named before is one more name for those behind it
pub next_part : (names before after : List (List ℕ)) (part : List ℕ) (parts : List (List ℕ)) → has_name names part ≡ false → has_name before part ≡ false
    → IsWithName before part after → has_twice (names ++ before) (part ∷ parts) ≡ has_twice (names ++ after) parts
next_part names before after part parts n b w =
    let new : has_name (names ++ before) part ≡ false = has-more names before part ∙ rw (n, b) refl in
    let same : HaveTheSame ((names ++ before) ++ part ∷ []) (names ++ after) = λ x.
    ap (λ (all : List (List ℕ)). has_name all x) (append_assoc names before (part ∷ []))
    ∙ (has-more names (before ++ part ∷ []) x
    ∙ (ap (λ c. has_name names x || c) (sym (with_one before part after w x)) ∙ sym (has-more names after x))) in
    rw new (twice_alike ((names ++ before) ++ part ∷ []) (names ++ after) parts same)
