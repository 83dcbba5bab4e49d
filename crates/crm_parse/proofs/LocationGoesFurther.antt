-- A location that ends too early can be continued.
use Rattle.std.proofs.Common.{◌≡◌, ℕ, Bool, true, false, cond, List, [], ◌∷◌, ◌++◌, length, Err, refl, arith}
use Rattle.std.specs.Prelude.{codes}
use Rattle.crm_lex.specs.Names.{is}
use Rattle.crm_parse.specs.declared.fault.ParseCause.TheVariants.{MissingWord}
use Rattle.crm_parse.specs.declared.words.RoleWord.{RoleWord}
use Rattle.std.specs.Prelude.{Option}
use Rattle.crm_parse.specs.Location.{begins_rule, discovery_at, discovery_in, location_at, place_at, plain_at, resource_at, role_at, ruled_at, some_role, with_rules}
use Rattle.crm_parse.specs.Reading.{Words, end_at, name_at, next_word_in, prefixed_at, resource_of, score_of}
use Rattle.crm_parse.proofs.CausesKept.{none-discovery, none-end, none-resource, none-score, none-some_role}
use Rattle.crm_parse.proofs.FaultsStay.{Goes, left, name-goes, next-goes}
use Rattle.crm_parse.proofs.GoesFurther.{Continues, LacksNone, Whatever, continue-last, continue-option, continue-test, continue-word, further, name-missing, next-missing, none-step, word-missing}
use Rattle.crm_parse.proofs.LabelsStay.{option-goes, prefixed-more}
use Rattle.crm_parse.proofs.LinesGoFurther.{a_name, a_score_word}
use Rattle.crm_parse.proofs.LinesStay.{resource-goes}
use Rattle.crm_parse.proofs.TestsGoFurther.{rules-further}

resource-missing : (words : Words) → resource_at words ≡ Err MissingWord → words ≡ []
unfolding resource_at
resource-missing words = word-missing words _ (λ word rest. none-step (resource_of word) _ (none-resource word) (λ one e. cc))

role-goes : (more rest : Words) (word : List ℕ) → Goes (left more) (role_at (word ∷ rest)) (role_at (word ∷ (rest ++ more)))
unfolding role_at
role-goes more rest word =
    option-goes more some_role (prefixed_at (codes "role=") (word ∷ rest)) (prefixed_at (codes "role=") (word ∷ (rest ++ more))) (prefixed-more (codes "role=") word rest more)

role-none : (words : Words) → LacksNone (role_at words)
unfolding role_at
role-none words = none-step (some_role (prefixed_at (codes "role=") words).0) _ (none-some_role (prefixed_at (codes "role=") words).0) (λ role e. cc)

discovery-goes : (more rest : Words) (word : List ℕ) → Goes (left more) (discovery_at (word ∷ rest)) (discovery_at (word ∷ (rest ++ more)))
unfolding discovery_at
discovery-goes more rest word =
    option-goes more discovery_in (prefixed_at (codes "resource-discovery=") (word ∷ rest)) (prefixed_at (codes "resource-discovery=") (word ∷ (rest ++ more)))
    (prefixed-more (codes "resource-discovery=") word rest more)

discovery-none : (words : Words) → LacksNone (discovery_at words)
unfolding discovery_at
discovery-none words =
    none-step (discovery_in (prefixed_at (codes "resource-discovery=") words).0) _ (none-discovery (prefixed_at (codes "resource-discovery=") words).0) (λ discovery e. cc)

place-further : (words : Words) → Continues Whatever (place_at words) (λ more. place_at (words ++ more))
unfolding place_at name_at score_of
place-further words =
    continue-word Whatever next_word_in words _ (λ more. next-goes MissingWord more words) (next-missing words) (further Whatever _ (a_score_word ∷ a_name ∷ []) _ refl refl tt) (λ word e.
    continue-test Whatever (score_of word.0) _ _ (none-score word.0) (λ points e.
    continue-word Whatever name_at word.1 _ (λ more. name-goes MissingWord more word.1) (name-missing word.1) (further Whatever _ (a_name ∷ []) _ refl refl tt) (λ node e.
    λ e. absurd (none-step (end_at node.1) _ (none-end node.1) (λ end e. cc) e))))

module _ (id resource : List ℕ) (role : Option RoleWord) (discovery : Bool) where
  last-case : (word : List ℕ) (words : Words) (rule : Bool)
      → Continues Whatever (cond rule (ruled_at id resource role discovery (word ∷ words)) (plain_at id resource role discovery (word ∷ words)))
      (λ more. cond rule (ruled_at id resource role discovery (word ∷ (words ++ more))) (plain_at id resource role discovery (word ∷ (words ++ more))))
  unfolding ruled_at plain_at
  last-case word words true =
      continue-last Whatever Whatever (with_rules (length (word ∷ words)) [] (word ∷ words)) (λ more. with_rules (length (word ∷ (words ++ more))) [] (word ∷ (words ++ more))) _ (λ x h. tt)
      (rules-further (length (word ∷ words)) (λ more. length (word ∷ (words ++ more))) [] (word ∷ words) (omega arith) (λ more. omega arith))
  last-case word words false =
      continue-last Whatever Whatever (place_at (word ∷ words)) (λ more. place_at (word ∷ (words ++ more))) _ (λ x h. tt) (place-further (word ∷ words))

  last-further : (words : Words) → Continues Whatever (cond (begins_rule words) (ruled_at id resource role discovery words) (plain_at id resource role discovery words))
      (λ more. cond (begins_rule (words ++ more)) (ruled_at id resource role discovery (words ++ more)) (plain_at id resource role discovery (words ++ more)))
  unfolding plain_at place_at name_at score_of
  last-further [] = λ e. further Whatever _ (a_score_word ∷ a_name ∷ []) _ refl refl tt
  last-further (word ∷ words) = last-case word words (is word (codes "rule"))

pub location-further : (words : Words) → Continues Whatever (location_at words) (λ more. location_at (words ++ more))
unfolding location_at name_at resource_at role_at discovery_at plain_at place_at score_of
location-further words =
    continue-word Whatever name_at words _ (λ more. name-goes MissingWord more words) (name-missing words)
    (further Whatever _ (a_name ∷ a_name ∷ a_score_word ∷ a_name ∷ []) _ refl refl tt) (λ id e.
    continue-word Whatever resource_at id.1 _ (λ more. resource-goes MissingWord more id.1) (resource-missing id.1)
    (further Whatever _ (a_name ∷ a_score_word ∷ a_name ∷ []) _ refl refl tt) (λ resource e.
    continue-option Whatever role_at resource.1 _ role-goes (λ word rest. role-none (word ∷ rest)) (further Whatever _ (a_score_word ∷ a_name ∷ []) _ refl refl tt) (λ role e.
    continue-option Whatever discovery_at role.1 _ discovery-goes (λ word rest. discovery-none (word ∷ rest)) (further Whatever _ (a_score_word ∷ a_name ∷ []) _ refl refl tt) (λ discovery e.
    last-further id.0 resource.0 role.0 discovery.0 discovery.1))))
