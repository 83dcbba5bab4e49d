-- A fault in the rules of a location that isn't a missing word stays the same, whatever words stand behind.
use Rattle.std.proofs.Common.{◌≡◌, ◌≤◌, ℕ, zero, suc, List, [], ◌∷◌, ◌++◌, length, Option, Some, None, Err, refl, ap, arith}
use Rattle.std.specs.Prelude.{codes}
use Rattle.std.proofs.lemmas.List.{length-append}
use Rattle.crm_lex.specs.Names.{is}
use Rattle.crm_parse.specs.declared.fault.ParseCause.{ParseCause}
use Rattle.crm_parse.specs.declared.fault.ParseCause.TheVariants.{ExtraWord, MissingWord}
use Rattle.crm_parse.specs.declared.rule_form.RuleForm.{RuleForm}
use Rattle.crm_parse.specs.Keys.{when}
use Rattle.crm_parse.specs.Location.{either_at, rule_at, rule_id_at, rule_role_at, rule_score_of, some_role, with_rule, with_rules}
use Rattle.crm_parse.specs.Reading.{Words, next_word_in, prefixed_at, some_name}
use Rattle.crm_parse.specs.Rules.{expression_at}
use Rattle.crm_parse.specs.Texts.{after}
use Rattle.crm_parse.proofs.FaultsStay.{GoesOn, Stays, goes-on-step, greedy-by, greedy-goes-on, greedy-step, last-goes-on, last-stays, nothing-left, left, next-goes, next-stays, step, test-goes-on, test-stays}
use Rattle.crm_parse.proofs.LabelsStay.{option-goes-on, option-stays, prefixed-more}
use Rattle.crm_parse.proofs.TestsStay.{expression-goes-on, expression-stays}
use Rattle.crm_parse.proofs.Grammar.RuleRelated.{rule-shorter}

module _ (cause : ParseCause) (more : Words) where
  id-stays : (words : Words) → Stays cause (rule_id_at words) (rule_id_at (words ++ more))
  unfolding rule_id_at
  id-stays [] = λ e. cc
  id-stays (word ∷ words) = option-stays cause more some_name (prefixed_at (codes "$id=") (word ∷ words)) (prefixed_at (codes "$id=") (word ∷ (words ++ more))) (prefixed-more (codes "$id=") word words more)

  id-goes-on : (words : Words) → GoesOn more (rule_id_at words) (rule_id_at (words ++ more))
  unfolding rule_id_at
  id-goes-on [] = λ x v rest e. nothing-left _ x v rest e
  id-goes-on (word ∷ words) = option-goes-on more some_name (prefixed_at (codes "$id=") (word ∷ words)) (prefixed_at (codes "$id=") (word ∷ (words ++ more))) (prefixed-more (codes "$id=") word words more)

  either-case : (word : List ℕ) (words : Words) (found : Option (List ℕ)) → after (codes "$role=") word ≡ found → either_at (word ∷ (words ++ more)) ≡ left more (either_at (word ∷ words))
  either-case word words None f = rw (either_at, prefixed_at, f) (prefixed-more (codes "role=") word words more)
  either-case word words (Some role) f = rw (either_at, prefixed_at, f) (ap (λ (p : Option (List ℕ) × Words). (Some role, p.1)) (prefixed-more (codes "$role=") word words more))

  pub either-more : (word : List ℕ) (words : Words) → either_at (word ∷ (words ++ more)) ≡ left more (either_at (word ∷ words))
  either-more word words = either-case word words (after (codes "$role=") word) refl

  role-stays : (words : Words) → Stays cause (rule_role_at words) (rule_role_at (words ++ more))
  unfolding rule_role_at
  role-stays [] = λ e. cc
  role-stays (word ∷ words) = option-stays cause more some_role (either_at (word ∷ words)) (either_at (word ∷ (words ++ more))) (either-more word words)

  role-goes-on : (words : Words) → GoesOn more (rule_role_at words) (rule_role_at (words ++ more))
  unfolding rule_role_at
  role-goes-on [] = λ x v rest e. nothing-left _ x v rest e
  role-goes-on (word ∷ words) = option-goes-on more some_role (either_at (word ∷ words)) (either_at (word ∷ (words ++ more))) (either-more word words)

  rule-stays : (words : Words) → Stays cause (rule_at words) (rule_at (words ++ more))
  unfolding rule_at rule_role_at
  rule-stays words = greedy-step cause more (rule_id_at words) (rule_id_at (words ++ more)) _ (id-stays words) (id-goes-on words) (λ id e. cc) (λ id v vs e.
      greedy-step cause more (rule_role_at (v ∷ vs)) (rule_role_at (v ∷ (vs ++ more))) _ (role-stays (v ∷ vs)) (role-goes-on (v ∷ vs)) (λ role e. cc) (λ role w ws e.
      test-stays cause (rule_score_of w) _ _ (λ points e. last-stays cause (expression_at ws) (expression_at (ws ++ more)) _ (expression-stays cause more ws))))

  rule-goes-on : (words : Words) → GoesOn more (rule_at words) (rule_at (words ++ more))
  unfolding rule_at rule_role_at
  rule-goes-on words = greedy-goes-on more (rule_id_at words) (rule_id_at (words ++ more)) _ (id-goes-on words) (λ id x v rest e. cc) (λ id v vs e.
      greedy-goes-on more (rule_role_at (v ∷ vs)) (rule_role_at (v ∷ (vs ++ more))) _ (role-goes-on (v ∷ vs)) (λ role x u rest e. cc) (λ role w ws e.
      test-goes-on more (rule_score_of w) _ _ (λ points e. last-goes-on more (expression_at ws) (expression_at (ws ++ more)) _ (expression-goes-on cause more ws))))

  one_rule-stays : (before : List RuleForm) (words : Words) → Stays cause (with_rule before words) (with_rule before (words ++ more))
  unfolding with_rule
  one_rule-stays before words = step cause (left more) (next_word_in words) (next_word_in (words ++ more)) _ (next-stays cause more words) (next-goes cause more words) (λ word e.
      test-stays cause (when (is word.0 (codes "rule")) ExtraWord) _ _ (λ taken e.
      last-stays cause (rule_at word.1) (rule_at (word.1 ++ more)) _ (rule-stays word.1)))

  pub one_rule-goes-on : (before : List RuleForm) (words : Words) → GoesOn more (with_rule before words) (with_rule before (words ++ more))
  unfolding with_rule
  one_rule-goes-on before words = goes-on-step (left more) more (next_word_in words) (next_word_in (words ++ more)) _ (next-goes cause more words) (λ word e.
      test-goes-on more (when (is word.0 (codes "rule")) ExtraWord) _ _ (λ taken e.
      last-goes-on more (rule_at word.1) (rule_at (word.1 ++ more)) _ (rule-goes-on word.1)))

  none-wrong : (most : ℕ) (before : List RuleForm) → with_rules most before [] ≡ Err cause → cause ≡ MissingWord
  none-wrong zero before e = cc
  none-wrong (suc most) before e = cc

  pub rules-stay : (most again : ℕ) (before : List RuleForm) (words : Words) → length words ≤ most → length (words ++ more) ≤ again
      → Stays cause (with_rules most before words) (with_rules again before (words ++ more))
  rules-stay zero again before words l m = λ e. cc
  rules-stay (suc most) again before [] l m = λ e. cc
  rules-stay (suc most) zero before (word ∷ words) l m = λ e. absurd (omega (arith, m))
  rules-stay (suc most) (suc again) before (word ∷ words) l m =
      greedy-by cause more (with_rule before (word ∷ words)) (with_rule before (word ∷ (words ++ more))) _ _ (one_rule-stays before (word ∷ words)) (one_rule-goes-on before (word ∷ words))
      (λ rules e. none-wrong most rules e) (λ rules v vs e.
      let shorter = rule-shorter before (word ∷ words) (rules, v ∷ vs) e in
      rules-stay most again rules (v ∷ vs) (omega (arith, l, shorter)) (omega (arith, m, shorter, length-append (v ∷ vs) more, length-append words more)))
