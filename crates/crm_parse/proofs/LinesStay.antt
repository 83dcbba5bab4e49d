-- A fault of a line that isn't a missing word stays the same, whatever words stand behind that don't say whether an operation is enabled.
use Rattle.std.proofs.Common.{◌≡◌, inr, ℕ, Bool, true, false, cond, List, [], ◌∷◌, ◌++◌, length, Option, None, Result, Ok, sym, ap, subst, arith}
use Rattle.std.specs.Prelude.{codes}
use Rattle.crm_lex.specs.Names.{is}
use Rattle.faults.specs.Reading.{◌>>=◌}
use Rattle.crm_parse.specs.declared.draft.DraftStatement.{DraftStatement}
use Rattle.crm_parse.specs.declared.draft.StepDraft.{StepDraft}
use Rattle.crm_parse.specs.declared.fault.ParseCause.{ParseCause}
use Rattle.crm_parse.specs.declared.form.Form.{Form}
use Rattle.crm_parse.specs.declared.form.Form.TheVariants as form
use Rattle.crm_parse.specs.declared.keyword.Keyword.{Keyword}
use Rattle.crm_parse.specs.declared.keyword.Keyword.TheVariants as keyword
use Rattle.crm_parse.specs.declared.owner.Owner.{Owner}
use Rattle.crm_parse.specs.declared.owner.Owner.TheVariants as owner
use Rattle.crm_parse.specs.declared.pair.Kv.{Kv}
use Rattle.crm_parse.specs.declared.section.Sections.{Sections}
use Rattle.crm_parse.specs.declared.words.KindWord.{KindWord}
use Rattle.crm_parse.specs.declared.words.RoleWord.{RoleWord}
use Rattle.crm_parse.specs.declared.words.SettingsWord.{SettingsWord}
use Rattle.crm_parse.specs.Colocation.{colocation_at, no_attribute, no_third, side_at, side_of}
use Rattle.crm_parse.specs.Groups.{clone_at, clone_owner, ends_members, group_at, members_from}
use Rattle.crm_parse.specs.Location.{discovery_at, discovery_in, location_at, place_at, plain_at, resource_at, role_at, ruled_at, some_role, with_rules}
use Rattle.crm_parse.specs.Node.{node_statement_at}
use Rattle.crm_parse.specs.Order.{ends_steps, kind_at, kind_in, order_at, order_steps_at, read_order_step, symmetrical_in, with_step, with_steps}
use Rattle.crm_parse.specs.Primitive.{agent_of, primitive_at}
use Rattle.crm_parse.specs.Reading.{Words, colon_at, end_at, given_at, name_at, name_of, next_word_in, prefixed_at, resource_of, score_of, some_name}
use Rattle.crm_parse.specs.Sections.{sections_at}
use Rattle.crm_parse.specs.Settings.{is_pair, set_at, settings_at, settings_pairs, with_setting, with_settings}
use Rattle.crm_parse.specs.Statements.{draft_after, draft_of, keyword_of, whole}
use Rattle.crm_parse.proofs.Binds.{ok-same}
use Rattle.crm_parse.proofs.FaultsStay.{Goes, GoesOn, Stays, end-stays, goes-on-step, goes-step, greedy-step, last-stays, nothing-left, left, name-goes, name-stays, next-goes, next-stays, ok-goes, ok-stays, step, test-goes, test-goes-on, test-stays}
use Rattle.crm_parse.proofs.LabelsStay.{colon-more, option-goes-on, option-stays, prefixed-more}
use Rattle.crm_parse.proofs.RulesStay.{rules-stay}
use Rattle.crm_parse.proofs.SectionsStay.{Fits, sections-stay}

module _ (cause : ParseCause) (more : Words) where
  -- an id before its colon
  given-stays : (words : Words) → Stays cause (given_at words) (given_at (words ++ more))
  unfolding given_at
  given-stays [] = λ e. cc
  given-stays (word ∷ words) = option-stays cause more some_name (colon_at (word ∷ words)) (colon_at (word ∷ (words ++ more))) (colon-more word words more)

  pub given-goes-on : (words : Words) → GoesOn more (given_at words) (given_at (words ++ more))
  unfolding given_at
  given-goes-on [] = λ x v rest e. nothing-left _ x v rest e
  given-goes-on (word ∷ words) = option-goes-on more some_name (colon_at (word ∷ words)) (colon_at (word ∷ (words ++ more))) (colon-more word words more)

  -- a description, and the sections of a statement, which stand last
  abbrev described : {B : Type 0} → Owner → (Option (List ℕ) → Sections → B) → Option (List ℕ) × Words → Result B ParseCause
  described owner make found = sections_at owner found.1 >>= (λ sections. Ok (make found.0 sections))

  described-stays : {B : Type 0} (owner : Owner) (make : Option (List ℕ) → Sections → B) (words : Words) → Fits more
      → Stays cause (described owner make (prefixed_at (codes "description=") words)) (described owner make (prefixed_at (codes "description=") (words ++ more)))
  described-stays owner make [] h = λ e. cc
  described-stays owner make (word ∷ words) h =
      let found = prefixed_at (codes "description=") (word ∷ words) in
      subst (λ p. Stays cause (described owner make found) (described owner make p)) (sym (prefixed-more (codes "description=") word words more))
      (last-stays cause (sections_at owner found.1) (sections_at owner (found.1 ++ more)) (make found.0) (sections-stay cause owner found.1 more h))

  -- a node, a primitive, a group, a clone: their sections stand last
  node-stays : (words : Words) → Fits more → Stays cause (node_statement_at words) (node_statement_at (words ++ more))
  unfolding node_statement_at name_at
  node-stays words h = greedy-step cause more (given_at words) (given_at (words ++ more)) _ (given-stays words) (given-goes-on words) (λ id e. cc) (λ id v vs e.
      step cause (left more) (name_at (v ∷ vs)) (name_at (v ∷ (vs ++ more))) _ (name-stays cause more (v ∷ vs)) (name-goes cause more (v ∷ vs)) (λ name e.
      last-stays cause (sections_at owner.Node name.1) (sections_at owner.Node (name.1 ++ more)) _ (sections-stay cause owner.Node name.1 more h)))

  primitive-stays : (words : Words) → Fits more → Stays cause (primitive_at words) (primitive_at (words ++ more))
  unfolding primitive_at
  primitive-stays words h = step cause (left more) (name_at words) (name_at (words ++ more)) _ (name-stays cause more words) (name-goes cause more words) (λ id e.
      step cause (left more) (next_word_in id.1) (next_word_in (id.1 ++ more)) _ (next-stays cause more id.1) (next-goes cause more id.1) (λ word e.
      test-stays cause (agent_of word.0) _ _ (λ agent e.
      described-stays owner.Primitive (λ d s. form.Primitive id.0 agent d s.params s.meta s.utilization s.operations s.ops) word.1 h)))

  members-case : (members : Words) (word : List ℕ) (words : Words) (ends : Bool)
      → ((name : List ℕ) → Stays cause (members_from (members ++ name ∷ []) words) (members_from (members ++ name ∷ []) (words ++ more)))
      → Stays cause (cond ends (Ok (members, word ∷ words)) (name_of word >>= (λ name. members_from (members ++ name ∷ []) words)))
      (cond ends (Ok (members, word ∷ (words ++ more))) (name_of word >>= (λ name. members_from (members ++ name ∷ []) (words ++ more))))
  members-case members word words true k = λ e. cc
  members-case members word words false k = test-stays cause (name_of word) _ _ (λ name e. k name)

  members-stay : (members words : Words) → Stays cause (members_from members words) (members_from members (words ++ more))
  members-stay members [] = λ e. cc
  members-stay members (word ∷ words) = members-case members word words (ends_members word) (λ name. members-stay (members ++ name ∷ []) words)

  members-go-case : (members : Words) (word : List ℕ) (words : Words) (ends : Bool)
      → ((name : List ℕ) → GoesOn more (members_from (members ++ name ∷ []) words) (members_from (members ++ name ∷ []) (words ++ more)))
      → GoesOn more (cond ends (Ok (members, word ∷ words)) (name_of word >>= (λ name. members_from (members ++ name ∷ []) words)))
      (cond ends (Ok (members, word ∷ (words ++ more))) (name_of word >>= (λ name. members_from (members ++ name ∷ []) (words ++ more))))
  members-go-case members word words true k = λ x v rest e.
      let same : (members, word ∷ words) ≡ (x, v ∷ rest) = ok-same _ _ e in
      ap (λ made. Ok (left more made)) same
  members-go-case members word words false k = test-goes-on more (name_of word) _ _ (λ name e. k name)

  pub members-go-on : (members words : Words) → GoesOn more (members_from members words) (members_from members (words ++ more))
  members-go-on members [] = λ x v rest e. nothing-left _ x v rest e
  members-go-on members (word ∷ words) = members-go-case members word words (ends_members word) (λ name. members-go-on (members ++ name ∷ []) words)

  group-stays : (words : Words) → Fits more → Stays cause (group_at words) (group_at (words ++ more))
  unfolding group_at
  group-stays words h = step cause (left more) (name_at words) (name_at (words ++ more)) _ (name-stays cause more words) (name-goes cause more words) (λ id e.
      greedy-step cause more (members_from [] id.1) (members_from [] (id.1 ++ more)) _ (members-stay [] id.1) (members-go-on [] id.1) (λ members e. cc) (λ members w ws e.
      described-stays owner.Group (λ d s. form.Group id.0 members d s.params s.meta) (w ∷ ws) h))

  clone-stays : (ms : Bool) (words : Words) → Fits more → Stays cause (clone_at ms words) (clone_at ms (words ++ more))
  unfolding clone_at
  clone-stays ms words h = step cause (left more) (name_at words) (name_at (words ++ more)) _ (name-stays cause more words) (name-goes cause more words) (λ id e.
      step cause (left more) (name_at id.1) (name_at (id.1 ++ more)) _ (name-stays cause more id.1) (name-goes cause more id.1) (λ child e.
      described-stays (clone_owner ms) (λ d s. form.Cloned id.0 child.0 ms d s.params s.meta) child.1 h))

  -- a colocation
  side-stays : (words : Words) → Stays cause (side_at words) (side_at (words ++ more))
  unfolding side_at
  side-stays words = step cause (left more) (next_word_in words) (next_word_in (words ++ more)) _ (next-stays cause more words) (next-goes cause more words) (λ word e.
      test-stays cause (no_attribute word.0) _ _ (λ fits e. test-stays cause (side_of word.0) _ _ (λ side e. ok-stays cause _ _)))

  pub side-goes : (words : Words) → Goes (left more) (side_at words) (side_at (words ++ more))
  unfolding side_at
  side-goes words = goes-step (left more) (left more) (next_word_in words) (next_word_in (words ++ more)) _ (next-goes cause more words) (λ word e.
      test-goes (left more) (no_attribute word.0) _ _ (λ fits e. test-goes (left more) (side_of word.0) _ _ (λ side e. ok-goes (left more) _)))

  third-stays : (words : Words) → Stays cause (no_third words) (no_third (words ++ more))
  third-stays [] e = cc
  third-stays (word ∷ words) e = inr e

  colocation-stays : (words : Words) → Stays cause (colocation_at words) (colocation_at (words ++ more))
  unfolding colocation_at
  colocation-stays words = step cause (left more) (name_at words) (name_at (words ++ more)) _ (name-stays cause more words) (name-goes cause more words) (λ id e.
      step cause (left more) (next_word_in id.1) (next_word_in (id.1 ++ more)) _ (next-stays cause more id.1) (next-goes cause more id.1) (λ word e.
      test-stays cause (no_attribute word.0) _ _ (λ fits e.
      test-stays cause (score_of word.0) _ _ (λ points e.
      step cause (left more) (side_at word.1) (side_at (word.1 ++ more)) _ (side-stays word.1) (side-goes word.1) (λ dependent e.
      step cause (left more) (side_at dependent.1) (side_at (dependent.1 ++ more)) _ (side-stays dependent.1) (side-goes dependent.1) (λ primary e.
      last-stays cause (no_third primary.1) (no_third (primary.1 ++ more)) _ (third-stays primary.1)))))))

  -- an order
  kind-stays : (words : Words) → Stays cause (kind_at words) (kind_at (words ++ more))
  unfolding kind_at
  kind-stays [] = λ e. cc
  kind-stays (word ∷ words) = option-stays cause more kind_in (colon_at (word ∷ words)) (colon_at (word ∷ (words ++ more))) (colon-more word words more)

  kind-goes-on : (words : Words) → GoesOn more (kind_at words) (kind_at (words ++ more))
  unfolding kind_at
  kind-goes-on [] = λ x v rest e. nothing-left _ x v rest e
  kind-goes-on (word ∷ words) = option-goes-on more kind_in (colon_at (word ∷ words)) (colon_at (word ∷ (words ++ more))) (colon-more word words more)

  one_step-stays : (steps : List StepDraft) (words : Words) → Stays cause (with_step steps words) (with_step steps (words ++ more))
  unfolding with_step
  one_step-stays steps words = step cause (left more) (next_word_in words) (next_word_in (words ++ more)) _ (next-stays cause more words) (next-goes cause more words) (λ word e.
      test-stays cause (read_order_step word.0) _ _ (λ one e. ok-stays cause _ _))

  pub one_step-goes : (steps : List StepDraft) (words : Words) → Goes (left more) (with_step steps words) (with_step steps (words ++ more))
  unfolding with_step
  one_step-goes steps words = goes-step (left more) (left more) (next_word_in words) (next_word_in (words ++ more)) _ (next-goes cause more words) (λ word e.
      test-goes (left more) (read_order_step word.0) _ _ (λ one e. ok-goes (left more) _))

  steps-case : (steps : List StepDraft) (word : List ℕ) (words : Words) (ends : Bool)
      → ((one : StepDraft) → Stays cause (with_steps (steps ++ one ∷ []) words) (with_steps (steps ++ one ∷ []) (words ++ more)))
      → Stays cause (cond ends (Ok (steps, word ∷ words)) (read_order_step word >>= (λ one. with_steps (steps ++ one ∷ []) words)))
      (cond ends (Ok (steps, word ∷ (words ++ more))) (read_order_step word >>= (λ one. with_steps (steps ++ one ∷ []) (words ++ more))))
  steps-case steps word words true k = λ e. cc
  steps-case steps word words false k = test-stays cause (read_order_step word) _ _ (λ one e. k one)

  steps-stay : (steps : List StepDraft) (words : Words) → Stays cause (with_steps steps words) (with_steps steps (words ++ more))
  steps-stay steps [] = λ e. cc
  steps-stay steps (word ∷ words) = steps-case steps word words (ends_steps word) (λ one. steps-stay (steps ++ one ∷ []) words)

  steps-go-case : (steps : List StepDraft) (word : List ℕ) (words : Words) (ends : Bool)
      → ((one : StepDraft) → GoesOn more (with_steps (steps ++ one ∷ []) words) (with_steps (steps ++ one ∷ []) (words ++ more)))
      → GoesOn more (cond ends (Ok (steps, word ∷ words)) (read_order_step word >>= (λ one. with_steps (steps ++ one ∷ []) words)))
      (cond ends (Ok (steps, word ∷ (words ++ more))) (read_order_step word >>= (λ one. with_steps (steps ++ one ∷ []) (words ++ more))))
  steps-go-case steps word words true k = λ x v rest e.
      let same : (steps, word ∷ words) ≡ (x, v ∷ rest) = ok-same _ _ e in
      ap (λ made. Ok (left more made)) same
  steps-go-case steps word words false k = test-goes-on more (read_order_step word) _ _ (λ one e. k one)

  steps-go-on : (steps : List StepDraft) (words : Words) → GoesOn more (with_steps steps words) (with_steps steps (words ++ more))
  steps-go-on steps [] = λ x v rest e. nothing-left _ x v rest e
  steps-go-on steps (word ∷ words) = steps-go-case steps word words (ends_steps word) (λ one. steps-go-on (steps ++ one ∷ []) words)

  all_steps-stay : (words : Words) → Stays cause (order_steps_at words) (order_steps_at (words ++ more))
  unfolding order_steps_at
  all_steps-stay words = step cause (left more) (with_step [] words) (with_step [] (words ++ more)) _ (one_step-stays [] words) (one_step-goes [] words) (λ first e.
      step cause (left more) (with_step first.0 first.1) (with_step first.0 (first.1 ++ more)) _ (one_step-stays first.0 first.1) (one_step-goes first.0 first.1) (λ second e.
      steps-stay second.0 second.1))

  all_steps-go-on : (words : Words) → GoesOn more (order_steps_at words) (order_steps_at (words ++ more))
  unfolding order_steps_at
  all_steps-go-on words = goes-on-step (left more) more (with_step [] words) (with_step [] (words ++ more)) _ (one_step-goes [] words) (λ first e.
      goes-on-step (left more) more (with_step first.0 first.1) (with_step first.0 (first.1 ++ more)) _ (one_step-goes first.0 first.1) (λ second e.
      steps-go-on second.0 second.1))

  abbrev symmetrical_after : {B : Type 0} → KindWord → (Bool → B) → Option (List ℕ) × Words → Result B ParseCause
  symmetrical_after kind make found = symmetrical_in kind found.0 >>= (λ both. end_at found.1 >>= (λ end. Ok (make both)))

  symmetrical-stays : {B : Type 0} (kind : KindWord) (make : Bool → B) (found again : Option (List ℕ) × Words) → again ≡ left more found
      → Stays cause (symmetrical_after kind make found) (symmetrical_after kind make again)
  symmetrical-stays kind make found again e = subst (λ p. Stays cause (symmetrical_after kind make found) (symmetrical_after kind make p)) (sym e)
      (test-stays cause (symmetrical_in kind found.0) _ _ (λ both e. last-stays cause (end_at found.1) (end_at (found.1 ++ more)) _ (end-stays cause more found.1)))

  order-stays : (words : Words) → Stays cause (order_at words) (order_at (words ++ more))
  unfolding order_at order_steps_at with_step symmetrical_in
  order-stays words = step cause (left more) (name_at words) (name_at (words ++ more)) _ (name-stays cause more words) (name-goes cause more words) (λ id e.
      greedy-step cause more (kind_at id.1) (kind_at (id.1 ++ more)) _ (kind-stays id.1) (kind-goes-on id.1) (λ kind e. cc) (λ kind w ws e.
      greedy-step cause more (order_steps_at (w ∷ ws)) (order_steps_at (w ∷ (ws ++ more))) _ (all_steps-stay (w ∷ ws)) (all_steps-go-on (w ∷ ws)) (λ steps e. cc) (λ steps v vs e.
      symmetrical-stays kind _ (prefixed_at (codes "symmetrical=") (v ∷ vs)) (prefixed_at (codes "symmetrical=") (v ∷ (vs ++ more))) (prefixed-more (codes "symmetrical=") v vs more))))

  -- settings
  pairs-stay : (what : SettingsWord) (before : List DraftStatement) (pairs : List Kv) (words : Words)
      → Stays cause (with_settings what before pairs words) (with_settings what before pairs (words ++ more))
  pairs-stay what before pairs [] = λ e. cc
  pairs-stay what before pairs (word ∷ words) = test-stays cause (with_setting what before pairs word) _ _ (λ next e. pairs-stay what before next words)

  set-case : (word : List ℕ) (words : Words) (pair : Bool) → Stays cause (cond pair (Ok (None, word ∷ words)) (given_at (word ∷ words)))
      (cond pair (Ok (None, word ∷ (words ++ more))) (given_at (word ∷ (words ++ more))))
  set-case word words true = λ e. cc
  set-case word words false = given-stays (word ∷ words)

  set-stays : (words : Words) → Stays cause (set_at words) (set_at (words ++ more))
  unfolding given_at
  set-stays [] = λ e. cc
  set-stays (word ∷ words) = set-case word words (is_pair word)

  set-go-case : (word : List ℕ) (words : Words) (pair : Bool) → GoesOn more (cond pair (Ok (None, word ∷ words)) (given_at (word ∷ words)))
      (cond pair (Ok (None, word ∷ (words ++ more))) (given_at (word ∷ (words ++ more))))
  set-go-case word words true = λ x v rest e.
      let same : (None, word ∷ words) ≡ (x, v ∷ rest) = ok-same _ _ e in
      ap (λ made. Ok (left more made)) same
  set-go-case word words false = given-goes-on (word ∷ words)

  set-goes-on : (words : Words) → GoesOn more (set_at words) (set_at (words ++ more))
  unfolding given_at
  set-goes-on [] = λ x v rest e. nothing-left _ x v rest e
  set-goes-on (word ∷ words) = set-go-case word words (is_pair word)

  settings-stay : (what : SettingsWord) (before : List DraftStatement) (words : Words) → Stays cause (settings_at what before words) (settings_at what before (words ++ more))
  unfolding settings_at
  settings-stay what before words = greedy-step cause more (set_at words) (set_at (words ++ more)) _ (set-stays words) (set-goes-on words) (λ set e. cc) (λ set v vs e.
      last-stays cause (settings_pairs what before (v ∷ vs)) (settings_pairs what before (v ∷ (vs ++ more))) _ (pairs-stay what before [] (v ∷ vs)))

  -- a location
  resource-stays : (words : Words) → Stays cause (resource_at words) (resource_at (words ++ more))
  unfolding resource_at
  resource-stays words = step cause (left more) (next_word_in words) (next_word_in (words ++ more)) _ (next-stays cause more words) (next-goes cause more words) (λ word e.
      test-stays cause (resource_of word.0) _ _ (λ one e. ok-stays cause _ _))

  pub resource-goes : (words : Words) → Goes (left more) (resource_at words) (resource_at (words ++ more))
  unfolding resource_at
  resource-goes words = goes-step (left more) (left more) (next_word_in words) (next_word_in (words ++ more)) _ (next-goes cause more words) (λ word e.
      test-goes (left more) (resource_of word.0) _ _ (λ one e. ok-goes (left more) _))

  role-stays : (words : Words) → Stays cause (role_at words) (role_at (words ++ more))
  unfolding role_at
  role-stays [] = λ e. cc
  role-stays (word ∷ words) = option-stays cause more some_role (prefixed_at (codes "role=") (word ∷ words)) (prefixed_at (codes "role=") (word ∷ (words ++ more))) (prefixed-more (codes "role=") word words more)

  role-goes-on : (words : Words) → GoesOn more (role_at words) (role_at (words ++ more))
  unfolding role_at
  role-goes-on [] = λ x v rest e. nothing-left _ x v rest e
  role-goes-on (word ∷ words) = option-goes-on more some_role (prefixed_at (codes "role=") (word ∷ words)) (prefixed_at (codes "role=") (word ∷ (words ++ more))) (prefixed-more (codes "role=") word words more)

  discovery-stays : (words : Words) → Stays cause (discovery_at words) (discovery_at (words ++ more))
  unfolding discovery_at
  discovery-stays [] = λ e. cc
  discovery-stays (word ∷ words) =
      option-stays cause more discovery_in (prefixed_at (codes "resource-discovery=") (word ∷ words)) (prefixed_at (codes "resource-discovery=") (word ∷ (words ++ more))) (prefixed-more (codes "resource-discovery=") word words more)

  discovery-goes-on : (words : Words) → GoesOn more (discovery_at words) (discovery_at (words ++ more))
  unfolding discovery_at
  discovery-goes-on [] = λ x v rest e. nothing-left _ x v rest e
  discovery-goes-on (word ∷ words) =
      option-goes-on more discovery_in (prefixed_at (codes "resource-discovery=") (word ∷ words)) (prefixed_at (codes "resource-discovery=") (word ∷ (words ++ more))) (prefixed-more (codes "resource-discovery=") word words more)

  place-stays : (words : Words) → Stays cause (place_at words) (place_at (words ++ more))
  unfolding place_at
  place-stays words = step cause (left more) (next_word_in words) (next_word_in (words ++ more)) _ (next-stays cause more words) (next-goes cause more words) (λ word e.
      test-stays cause (score_of word.0) _ _ (λ points e.
      step cause (left more) (name_at word.1) (name_at (word.1 ++ more)) _ (name-stays cause more word.1) (name-goes cause more word.1) (λ node e.
      last-stays cause (end_at node.1) (end_at (node.1 ++ more)) _ (end-stays cause more node.1))))

  last-case : (id resource : List ℕ) (role : Option RoleWord) (discovery : Bool) (word : List ℕ) (words : Words) (rule : Bool)
      → Stays cause (cond rule (ruled_at id resource role discovery (word ∷ words)) (plain_at id resource role discovery (word ∷ words)))
      (cond rule (ruled_at id resource role discovery (word ∷ (words ++ more))) (plain_at id resource role discovery (word ∷ (words ++ more))))
  unfolding ruled_at plain_at
  last-case id resource role discovery word words true =
      last-stays cause (with_rules (length (word ∷ words)) [] (word ∷ words)) (with_rules (length (word ∷ (words ++ more))) [] (word ∷ (words ++ more))) _
      (rules-stay cause more (length (word ∷ words)) (length (word ∷ (words ++ more))) [] (word ∷ words) (omega arith) (omega arith))
  last-case id resource role discovery word words false =
      last-stays cause (place_at (word ∷ words)) (place_at (word ∷ (words ++ more))) _ (place-stays (word ∷ words))

  location-stays : (words : Words) → Stays cause (location_at words) (location_at (words ++ more))
  unfolding location_at discovery_at plain_at place_at
  location-stays words = step cause (left more) (name_at words) (name_at (words ++ more)) _ (name-stays cause more words) (name-goes cause more words) (λ id e.
      step cause (left more) (resource_at id.1) (resource_at (id.1 ++ more)) _ (resource-stays id.1) (resource-goes id.1) (λ resource e.
      greedy-step cause more (role_at resource.1) (role_at (resource.1 ++ more)) _ (role-stays resource.1) (role-goes-on resource.1) (λ role e. cc) (λ role w ws e.
      greedy-step cause more (discovery_at (w ∷ ws)) (discovery_at (w ∷ (ws ++ more))) _ (discovery-stays (w ∷ ws)) (discovery-goes-on (w ∷ ws)) (λ discovery e. cc) (λ discovery v vs e.
      last-case id.0 resource.0 role discovery v vs (is v (codes "rule"))))))

  -- a line
  whole-stays : (read again : Result Form ParseCause) → Stays cause read again → Stays cause (whole read) (whole again)
  whole-stays read again s = last-stays cause read again _ s

  after-stays : (before : List DraftStatement) (begins : Keyword) (word : List ℕ) (words : Words) → Fits more
      → Stays cause (draft_after begins before (word ∷ words) words) (draft_after begins before (word ∷ (words ++ more)) (words ++ more))
  after-stays before keyword.Node word words h = whole-stays (node_statement_at words) (node_statement_at (words ++ more)) (node-stays words h)
  after-stays before keyword.Primitive word words h = whole-stays (primitive_at words) (primitive_at (words ++ more)) (primitive-stays words h)
  after-stays before keyword.Group word words h = whole-stays (group_at words) (group_at (words ++ more)) (group-stays words h)
  after-stays before keyword.Clone word words h = whole-stays (clone_at false words) (clone_at false (words ++ more)) (clone-stays false words h)
  after-stays before keyword.Ms word words h = whole-stays (clone_at true words) (clone_at true (words ++ more)) (clone-stays true words h)
  after-stays before keyword.Location word words h = whole-stays (location_at words) (location_at (words ++ more)) (location-stays words)
  after-stays before keyword.Colocation word words h = whole-stays (colocation_at words) (colocation_at (words ++ more)) (colocation-stays words)
  after-stays before keyword.Order word words h = last-stays cause (order_at words) (order_at (words ++ more)) _ (order-stays words)
  after-stays before (keyword.Settings what) word words h = whole-stays (settings_at what before words) (settings_at what before (words ++ more)) (settings-stay what before words)
  after-stays before keyword.Kept word words h = λ e. cc

  pub line-stays : (before : List DraftStatement) (word : List ℕ) (words : Words) → Fits more
      → Stays cause (draft_of before (word ∷ words)) (draft_of before (word ∷ (words ++ more)))
  unfolding draft_of
  line-stays before word words h = test-stays cause (keyword_of word) _ _ (λ begins e. after-stays before begins word words h)
