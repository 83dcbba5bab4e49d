-- The tests of single words find no word missing.
use Rattle.std.proofs.Common.{◌≢◌, ℕ, Bool, true, false, cond, List, [], ◌∷◌, length, Option, Some, None, Result, Ok, Err, arith}
use Rattle.std.specs.Prelude.{codes, not, is_some, ◌||◌, ◌==◌, int_le, int_lt, pos}
use Rattle.std.specs.Option.{ok_or, option_map_or}
use Rattle.score.specs.ScoreText.{read_score}
use Rattle.crm_lex.specs.Names.{is}
use Rattle.faults.specs.Reading.{◌>>=◌}
use Rattle.date_rules.specs.declared.rule.Compare.TheVariants as compare
use Rattle.date_rules.specs.declared.rule.Kind.TheVariants as compared
use Rattle.date_rules.specs.Instant.{instant}
use Rattle.crm_parse.specs.declared.expression.DateTest.TheVariants as date
use Rattle.crm_parse.specs.declared.fault.ParseCause.{ParseCause}
use Rattle.crm_parse.specs.declared.fault.ParseCause.TheVariants.{UnknownStatement, Unsupported, BadScore, BadTime, BadValue, MissingWord, ExtraWord}
use Rattle.crm_parse.specs.declared.keyword.Keyword.TheVariants as keyword
use Rattle.crm_parse.specs.declared.place.OpName.{OpName}
use Rattle.crm_parse.specs.declared.place.Place.{Place}
use Rattle.crm_parse.specs.declared.place.Place.TheVariants as place
use Rattle.crm_parse.specs.declared.values.RoleName.{RoleName}
use Rattle.crm_parse.specs.declared.values.RoleName.TheVariants as named
use Rattle.crm_parse.specs.declared.words.KindWord.{KindWord}
use Rattle.crm_parse.specs.declared.words.KindWord.TheVariants.{Mandatory, Optional, Serialize}
use Rattle.crm_parse.specs.declared.words.SettingsWord.TheVariants.{Property, RscDefaults, OpDefaults}
use Rattle.crm_parse.specs.Colocation.{is_node_attribute, no_attribute, no_third, side_in, side_of, side_started}
use Rattle.crm_parse.specs.Keys.{a_bool, a_count, a_policy, a_role, a_score, a_threshold, a_time, accepts, but_not, clone_meta, is_promoted_max, leaf_meta, not_false, not_true, on_fail, only, property, runs_in, stray}
use Rattle.crm_parse.specs.Location.{discovery_in, rule_score_of, some_role}
use Rattle.crm_parse.specs.Order.{kind_by_score, kind_by_word, kind_in, read_order_step, step_parts, symmetrical_as, symmetrical_in, written_action}
use Rattle.crm_parse.specs.Pairs.{kv_of, pair_of}
use Rattle.crm_parse.specs.Primitive.{agent_of, is_agent, is_template, whole_agent}
use Rattle.crm_parse.specs.Reading.{Words, begins_set, end_at, name_of, resource_of, rule_role_of, score_of, some_name, supported}
use Rattle.crm_parse.specs.Rules.{compare_of, comparison_of, date_test_of, end_text, read_moment, type_of, typed, untyped}
use Rattle.crm_parse.specs.Statements.{is_kept, is_unsupported, keyword_of}
use Rattle.crm_parse.specs.Texts.{after, before, cut_at}
use Rattle.crm_parse.specs.Values.{action_of, bool_of, count_of, kind_of, role_of, time_of}
use Rattle.crm_parse.proofs.GoesFurther.{LacksNone, none-cause, none-if, none-name, none-ok_or, none-step, none-when}

pub none-ok : {A : Type 0} (x : A) → LacksNone (let read : Result A ParseCause = Ok x in read)
none-ok x e = cc

none-err : {A : Type 0} (cause : ParseCause) → cause ≢ MissingWord → LacksNone (let read : Result A ParseCause = Err cause in read)
none-err cause n = none-cause cause n

pub none-end : (words : Words) → LacksNone (end_at words)
none-end [] e = cc
none-end (word ∷ words) e = cc

pub none-resource : (word : List ℕ) → LacksNone (resource_of word)
none-resource word = none-if (begins_set word) (Err Unsupported) (name_of word) (λ e. cc) (none-name word)

pub none-score : (word : List ℕ) → LacksNone (score_of word)
unfolding score_of
none-score word = none-step (ok_or (before (codes ":") word) BadScore) _ (none-ok_or _ BadScore (λ e. cc)) (λ text. none-ok_or (read_score text) BadScore (λ e. cc))

none-supported : (name : RoleName) → LacksNone (supported name)
none-supported named.Started e = cc
none-supported named.Promoted e = cc
none-supported named.Unpromoted e = cc
none-supported named.Stopped e = cc

pub none-some_name : (word : Option (List ℕ)) → LacksNone (some_name word)
none-some_name None = λ e. cc
none-some_name (Some word) = none-step (name_of word) _ (none-name word) (λ name e. cc)

none-rule_role : (word : List ℕ) → LacksNone (rule_role_of word)
unfolding rule_role_of
none-rule_role word = none-step (ok_or (role_of word) BadValue) _ (none-ok_or _ BadValue (λ e. cc)) (λ name. none-supported name)

pub none-some_role : (word : Option (List ℕ)) → LacksNone (some_role word)
none-some_role None = λ e. cc
none-some_role (Some word) = none-step (rule_role_of word) _ (none-rule_role word) (λ role e. cc)

pub none-discovery : (word : Option (List ℕ)) → LacksNone (discovery_in word)
none-discovery None = λ e. cc
none-discovery (Some word) = none-if (is word (codes "always")) (Ok true) (Err Unsupported) (λ e. cc) (λ e. cc)

pub none-rule_score : (word : List ℕ) → LacksNone (rule_score_of word)
none-rule_score word = none-if (is_some (after (codes "$id-ref=") word)) (Err Unsupported) (score_of word) (λ e. cc) (none-score word)

-- the sides of a colocation
pub none-attribute : (word : List ℕ) → LacksNone (no_attribute word)
none-attribute word = none-if (is_node_attribute word) (Err Unsupported) (Ok tt) (none-err Unsupported (λ e. cc)) (none-ok tt)

none-side_in : (word : List ℕ) (name : Option RoleName) → LacksNone (side_in word name)
unfolding side_in
none-side_in word None = none-step (resource_of word) _ (none-resource word) (λ resource e. cc)
none-side_in word (Some name) = none-step (supported name) _ (none-supported name) (λ role. none-step (resource_of word) _ (none-resource word) (λ resource e. cc))

side-case : (word : List ℕ) (found : Option (List ℕ × List ℕ))
    → LacksNone (elim found [ None ↦ side_started word | Some parts ↦ side_in parts.0 (role_of parts.1) ])
unfolding side_started
side-case word None = none-step (resource_of word) _ (none-resource word) (λ resource e. cc)
side-case word (Some parts) = none-side_in parts.0 (role_of parts.1)

pub none-side : (word : List ℕ) → LacksNone (side_of word)
none-side word = side-case word (cut_at 58 word)

pub none-third : (words : Words) → LacksNone (no_third words)
none-third [] = λ e. cc
none-third (word ∷ words) = none-if _ (Err Unsupported) (Err ExtraWord) (λ e. cc) (λ e. cc)

-- the words of an order
none-kind_case : (word : List ℕ) (found : Option KindWord)
    → LacksNone (elim found [
      | None ↦ (ok_or (read_score word) BadValue >>= (λ points. kind_by_score points))
      | Some kind ↦ Ok kind
    ])
none-kind_case word None = none-step (ok_or (read_score word) BadValue) _ (none-ok_or _ BadValue (λ e. cc))
    (λ points. none-if (int_lt points (pos 0)) (Err BadScore) _ (λ e. cc) (none-if (int_lt (pos 0) points) (Ok Mandatory) (Ok Optional) (λ e. cc) (λ e. cc)))
none-kind_case word (Some kind) = λ e. cc

pub none-kind : (word : Option (List ℕ)) → LacksNone (kind_in word)
unfolding kind_by_word
none-kind None = λ e. cc
none-kind (Some word) = none-kind_case word (kind_of word)

none-action : (word : Option (List ℕ)) → LacksNone (written_action word)
none-action None = λ e. cc
none-action (Some word) = none-step (ok_or (action_of word) BadValue) _ (none-ok_or _ BadValue (λ e. cc)) (λ action e. cc)

pub none-order_step : (word : List ℕ) → LacksNone (read_order_step word)
unfolding read_order_step
none-order_step word = none-step (resource_of (step_parts word).0) _ (none-resource (step_parts word).0) (λ resource. none-step (written_action (step_parts word).1) _ (none-action (step_parts word).1) (λ action e. cc))

none-symmetrical_as : (kind : KindWord) (both : Bool) → LacksNone (symmetrical_as kind both)
none-symmetrical_as Serialize true e = cc
none-symmetrical_as Serialize false e = cc
none-symmetrical_as Mandatory both e = cc
none-symmetrical_as Optional both e = cc

pub none-symmetrical : (kind : KindWord) (word : Option (List ℕ)) → LacksNone (symmetrical_in kind word)
unfolding symmetrical_in
none-symmetrical kind None = λ e. cc
none-symmetrical kind (Some word) = none-step (ok_or (bool_of word) BadValue) _ (none-ok_or _ BadValue (λ e. cc)) (λ both. none-symmetrical_as kind both)

-- the words of tests
none-compare : (word : List ℕ) → LacksNone (compare_of word)
none-compare word =
    none-if (is word (codes "lt")) (Ok compare.Lt) _ (λ e. cc) (
    none-if (is word (codes "gt")) (Ok compare.Gt) _ (λ e. cc) (
    none-if (is word (codes "lte")) (Ok compare.Lte) _ (λ e. cc) (
    none-if (is word (codes "gte")) (Ok compare.Gte) _ (λ e. cc) (
    none-if (is word (codes "eq")) (Ok compare.Eq) _ (λ e. cc) (
    none-if (is word (codes "ne")) (Ok compare.Ne) (Err BadValue) (λ e. cc) (λ e. cc))))))

none-type : (word : List ℕ) → LacksNone (type_of word)
none-type word =
    none-if (is word (codes "string")) (Ok compared.Word) _ (λ e. cc) (
    none-if (is word (codes "number") || is word (codes "integer")) (Ok compared.Number) _ (λ e. cc) (
    none-if (is word (codes "version")) (Err Unsupported) (Err BadValue) (λ e. cc) (λ e. cc)))

comparison-case : (word : List ℕ) (found : Option (List ℕ × List ℕ)) → LacksNone (elim found [ None ↦ untyped word | Some parts ↦ typed parts.0 parts.1 ])
unfolding untyped typed
comparison-case word None = none-step (compare_of word) _ (none-compare word) (λ compare e. cc)
comparison-case word (Some parts) = none-step (type_of parts.0) _ (none-type parts.0) (λ kind. none-step (compare_of parts.1) _ (none-compare parts.1) (λ compare e. cc))

pub none-comparison : (word : List ℕ) → LacksNone (comparison_of word)
none-comparison word = comparison-case word (cut_at 58 word)

pub none-date_test : (word : List ℕ) → LacksNone (date_test_of word)
none-date_test word =
    none-if (is word (codes "lt")) (Ok date.Lt) _ (λ e. cc) (
    none-if (is word (codes "gt")) (Ok date.Gt) _ (λ e. cc) (
    none-if (is word (codes "in") || is word (codes "in_range")) (Ok date.In) _ (λ e. cc) (
    none-if (is word (codes "spec")) (Err Unsupported) (Err BadValue) (λ e. cc) (λ e. cc))))

pub none-moment : (text : List ℕ) → LacksNone (read_moment text)
none-moment text = none-ok_or (instant text) BadValue (λ e. cc)

end-case : (word : List ℕ) (found : Option (List ℕ)) (other : Bool)
    → LacksNone (elim found [ None ↦ Err (cond other Unsupported BadValue) | Some text ↦ Ok text ])
end-case word None true e = cc
end-case word None false e = cc
end-case word (Some text) other e = cc

pub none-end_text : (word : List ℕ) → LacksNone (end_text word)
none-end_text word = end-case word (after (codes "end=") word) _

-- an agent
pub none-agent : (word : List ℕ) → LacksNone (agent_of word)
none-agent word = none-if (is_template word) (Err Unsupported) _ (λ e. cc) (none-if (is_agent word) (Ok (whole_agent word)) (Err BadValue) (λ e. cc) (λ e. cc))

-- the values of keys
none-but_not : (refused : Bool) (found : Option Bool) → LacksNone (but_not refused found)
none-but_not refused None e = cc
none-but_not true (Some true) e = cc
none-but_not true (Some false) e = cc
none-but_not false (Some true) e = cc
none-but_not false (Some false) e = cc

none-leaf : (key value : List ℕ) → LacksNone (leaf_meta key value)
none-leaf key value =
    none-if (is key (codes "priority") || is key (codes "resource-stickiness")) (a_score value) _ (none-when (is_some (read_score value)) BadScore (λ e. cc)) (
    none-if (is key (codes "migration-threshold")) (a_threshold value) _ (none-when (option_map_or (λ score. int_le (pos 0) score) (read_score value) false) BadValue (λ e. cc)) (
    none-if (is key (codes "failure-timeout")) (a_time value) _ (none-when (is_some (time_of value)) BadTime (λ e. cc)) (
    none-if (is key (codes "target-role")) (a_role value) _ (none-when (is_some (role_of value)) BadValue (λ e. cc)) (
    none-if (is key (codes "is-managed") || is key (codes "allow-migrate")) (a_bool value) _ (none-when (is_some (bool_of value)) BadValue (λ e. cc)) (
    none-if (is key (codes "multiple-active")) (only (codes "stop_start") value) _ (none-when (is value (codes "stop_start")) Unsupported (λ e. cc)) (
    none-if (is key (codes "requires")) (only (codes "fencing") value) _ (none-when (is value (codes "fencing")) Unsupported (λ e. cc)) (
    none-if (is key (codes "critical")) (not_false value) _ (none-but_not false (bool_of value)) (
    none-if (is key (codes "maintenance")) (not_true value) (Ok tt) (none-but_not true (bool_of value)) (none-ok tt)))))))))

none-clone : (key value : List ℕ) → LacksNone (clone_meta key value)
none-clone key value =
    none-if (is key (codes "clone-max") || is_promoted_max key) (a_count value) _ (none-when (is_some (count_of value)) BadValue (λ e. cc)) (
    none-if (is key (codes "clone-node-max") || is key (codes "promoted-node-max") || is key (codes "master-node-max")) (only (codes "1") value) _ (none-when (is value (codes "1")) Unsupported (λ e. cc)) (
    none-if (is key (codes "promotable") || is key (codes "interleave")) (a_bool value) _ (none-when (is_some (bool_of value)) BadValue (λ e. cc)) (
    none-if (is key (codes "globally-unique") || is key (codes "ordered")) (not_true value) (leaf_meta key value) (none-but_not true (bool_of value)) (none-leaf key value))))

none-property : (key value : List ℕ) → LacksNone (property key value)
none-property key value =
    none-if (is key (codes "symmetric-cluster") || is key (codes "stonith-enabled") || is key (codes "startup-fencing")
    || is key (codes "start-failure-is-fatal") || is key (codes "stop-all-resources") || is key (codes "maintenance-mode")) (a_bool value) _ (none-when (is_some (bool_of value)) BadValue (λ e. cc)) (
    none-if (is key (codes "no-quorum-policy")) (a_policy value) _ (λ e. grind arith) (
    none-if (is key (codes "batch-limit")) (a_count value) _ (none-when (is_some (count_of value)) BadValue (λ e. cc)) (
    none-if (is key (codes "placement-strategy")) (only (codes "default") value) _ (none-when (is value (codes "default")) Unsupported (λ e. cc)) (
    none-if (is key (codes "node-health-strategy")) (only (codes "none") value) (Ok tt) (none-when (is value (codes "none")) Unsupported (λ e. cc)) (none-ok tt)))))

none-on_fail : (name : OpName) (value : List ℕ) → LacksNone (on_fail name value)
none-on_fail name value = λ e. grind arith

none-runs_in : (role : Option RoleName) → LacksNone (runs_in role)
none-runs_in None e = cc
none-runs_in (Some named.Started) e = cc
none-runs_in (Some named.Promoted) e = cc
none-runs_in (Some named.Unpromoted) e = cc
none-runs_in (Some named.Stopped) e = cc

pub none-accepts : (p : Place) (key value : List ℕ) → LacksNone (accepts p key value)
unfolding accepts
none-accepts place.Plain key value = λ e. cc
none-accepts place.NodeAttributes key value = λ e. grind arith
none-accepts place.PrimitivePlain key value = λ e. cc
none-accepts place.PrimitiveMeta key value = none-leaf key value
none-accepts place.LeafMeta key value = none-leaf key value
none-accepts place.CloneMeta key value = none-clone key value
none-accepts place.MsMeta key value = none-if (is key (codes "promotable")) _ (clone_meta key value) (none-when (option_map_or (λ yes. yes) (bool_of value) false) BadValue (λ e. cc)) (none-clone key value)
none-accepts place.Property key value = none-property key value
none-accepts place.OpDefaults key value = none-when (not (is key (codes "on-fail"))) Unsupported (λ e. cc)
none-accepts (place.Operation name) key value =
    none-if (is key (codes "interval")) (a_time value) _ (none-when (is_some (time_of value)) BadTime (λ e. cc)) (
    none-if (is key (codes "on-fail")) (on_fail name value) _ (none-on_fail name value) (
    none-if (is key (codes "role")) (runs_in (role_of value)) _ (none-runs_in (role_of value)) (
    none-if (is key (codes "enabled")) (a_bool value) (Ok tt) (none-when (is_some (bool_of value)) BadValue (λ e. cc)) (none-ok tt))))

pub none-stray : {A : Type 0} (p : Place) (word : List ℕ) → LacksNone (let read : Result A ParseCause = Err (stray p word) in read)
none-stray p word = stray-case _
  where
    stray-case : {A : Type 0} (unsupported : Bool) → LacksNone (let read : Result A ParseCause = Err (cond unsupported Unsupported ExtraWord) in read)
    stray-case true e = cc
    stray-case false e = cc

pair-case : (p : Place) (word : List ℕ) (found : Option (List ℕ × List ℕ))
    → LacksNone (elim found [ None ↦ Err (stray p word) | Some pair ↦ cond (length pair.0 == 0) (Err (stray p word)) (Ok pair) ])
pair-case p word None = none-stray p word
pair-case p word (Some pair) = none-if (length pair.0 == 0) (Err (stray p word)) (Ok pair) (none-stray p word) (λ e. cc)

pub none-kv : (p : Place) (word : List ℕ) → LacksNone (kv_of p word)
unfolding kv_of
none-kv p word = none-step (pair_of p word) _ (pair-case p word (cut_at 61 word)) (λ pair. none-step (accepts p pair.0 pair.1) _ (none-accepts p pair.0 pair.1) (λ taken e. cc))

-- the first word of a line
pub none-keyword : (word : List ℕ) → LacksNone (keyword_of word)
unfolding keyword_of
none-keyword word =
    none-if _ (Ok keyword.Node) _ (λ e. cc) (
    none-if _ (Ok keyword.Primitive) _ (λ e. cc) (
    none-if _ (Ok keyword.Group) _ (λ e. cc) (
    none-if _ (Ok keyword.Clone) _ (λ e. cc) (
    none-if _ (Ok keyword.Ms) _ (λ e. cc) (
    none-if _ (Ok keyword.Location) _ (λ e. cc) (
    none-if _ (Ok keyword.Colocation) _ (λ e. cc) (
    none-if _ (Ok keyword.Order) _ (λ e. cc) (
    none-if _ (Ok (keyword.Settings Property)) _ (λ e. cc) (
    none-if _ (Ok (keyword.Settings RscDefaults)) _ (λ e. cc) (
    none-if _ (Ok (keyword.Settings OpDefaults)) _ (λ e. cc) (
    none-if (is_kept word) (Ok keyword.Kept) _ (λ e. cc) (
    none-if (is_unsupported word) (Err Unsupported) (Err UnknownStatement) (λ e. cc) (λ e. cc)))))))))))))
