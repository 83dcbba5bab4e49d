-- Examples of what lines say, computed: each form with its alternatives, and for each a line that is nearly one.
use Rattle.std.proofs.Common.{ℕ, pos, neg_ℤ, true, false, List, [], ◌∷◌, Option, Some, None, Result, refl}
use Rattle.std.specs.Prelude.{codes}
use Rattle.date_rules.specs.declared.rule.Compare.TheVariants.{Gte, Eq}
use Rattle.date_rules.specs.declared.rule.Kind.TheVariants as kind
use Rattle.date_rules.specs.declared.rule.Test.TheVariants.{Attribute, Defined}
use Rattle.crm_parse.specs.declared.draft.Draft.{Draft}
use Rattle.crm_parse.specs.declared.draft.Draft.TheVariants as draft
use Rattle.crm_parse.specs.declared.draft.StepDraft.{StepDraft}
use Rattle.crm_parse.specs.declared.fault.ParseCause.{ParseCause}
use Rattle.crm_parse.specs.declared.fault.ParseCause.TheVariants.{BadScore, BadValue, ExtraWord, MissingWord, RepeatedKey, UnknownStatement, Unsupported}
use Rattle.crm_parse.specs.declared.form.Form.TheVariants as form
use Rattle.crm_parse.specs.declared.pair.Kv.{Kv}
use Rattle.crm_parse.specs.declared.words.ActionWord.{ActionWord}
use Rattle.crm_parse.specs.declared.words.ActionWord.TheVariants.{Start, Stop, Promote, Demote}
use Rattle.crm_parse.specs.declared.words.KindWord.TheVariants.{Mandatory, Optional, Serialize}
use Rattle.crm_parse.specs.declared.words.RoleWord.TheVariants as role
use Rattle.crm_parse.specs.declared.words.SettingsWord.TheVariants.{Property}
use Rattle.crm_parse.specs.Colocation.{colocation_at, side_at, side_in, side_started}
use Rattle.crm_parse.specs.Groups.{clone_at, group_at}
use Rattle.crm_parse.specs.Keys.{accepts}
use Rattle.crm_parse.specs.Location.{discovery_at, location_at, place_at, plain_at, resource_at, role_at, rule_at, rule_id_at, rule_role_at, ruled_at, with_rule}
use Rattle.crm_parse.specs.Node.{node_statement_at}
use Rattle.crm_parse.specs.Operations.{new_name, operation_of, with_op_pair}
use Rattle.crm_parse.specs.Order.{kind_at, kind_by_word, order_at, order_steps_at, read_order_step, symmetrical_in, with_step}
use Rattle.crm_parse.specs.Pairs.{kv_of, with_pair}
use Rattle.crm_parse.specs.Primitive.{primitive_at}
use Rattle.crm_parse.specs.Reading.{Words, given_at, name_at, rule_role_of, score_of}
use Rattle.crm_parse.specs.Rules.{attribute_at, date_at, date_test_at, dates_at, defined_at, end_date_at, expression_at, joiner_at, noted_at, start_at, test_at, typed, untyped, with_joined, with_test}
use Rattle.crm_parse.specs.Sections.{section_of, with_part}
use Rattle.crm_parse.specs.Settings.{settings_at, with_setting}
use Rattle.crm_parse.specs.Statements.{draft_of, keyword_of}
use Rattle.crm_parse.specs.Grammar.Lines.{LineSays}
use Rattle.crm_parse.proofs.Grammar.LineRelated.{line-is_said, none-said}

-- all that a reading computes with
run : Words → Result Draft ParseCause
unfolding draft_of keyword_of node_statement_at given_at name_at section_of with_part with_pair kv_of accepts primitive_at operation_of new_name with_op_pair group_at clone_at location_at resource_at role_at discovery_at rule_role_of plain_at place_at score_of ruled_at with_rule rule_at rule_id_at rule_role_at expression_at with_test with_joined joiner_at test_at noted_at defined_at attribute_at typed untyped date_test_at dates_at date_at start_at end_date_at colocation_at side_at side_in side_started order_at kind_at kind_by_word order_steps_at with_step read_order_step symmetrical_in settings_at with_setting
run words = draft_of [] words

-- no statement before
abbrev Says : Words → Draft → Type 0
Says words d = LineSays [] words d

abbrev SaysNothing : Words → Type 0
SaysNothing words = (d : Draft) → Says words d → ⊥

abbrev kv : List ℕ → List ℕ → Kv
kv key value = record { key = key; value = value }

-- orders
abbrev step : List ℕ → Option ActionWord → StepDraft
step resource action = record { resource = resource; action = action }

order_alone : Says (codes "order" ∷ codes "o" ∷ codes "a" ∷ codes "b" ∷ [])
    (draft.Order (record { id = codes "o"; kind = Mandatory; steps = step (codes "a") None ∷ step (codes "b") None ∷ []; symmetrical = true }))
unfolding run
order_alone = line-is_said [] _ _ refl

order_named : Says (codes "order" ∷ codes "o" ∷ codes "optional:" ∷ codes "a:promote" ∷ codes "b:start" ∷ codes "c" ∷ codes "symmetrical=No" ∷ [])
    (draft.Order (record {
      id = codes "o";
      kind = Optional;
      steps = step (codes "a") (Some Promote) ∷ step (codes "b") (Some Start) ∷ step (codes "c") None ∷ [];
      symmetrical = false;
    }))
unfolding run
order_named = line-is_said [] _ _ refl

order_scored : Says (codes "order" ∷ codes "o" ∷ codes "inf:" ∷ codes "a" ∷ codes "b" ∷ [])
    (draft.Order (record { id = codes "o"; kind = Mandatory; steps = step (codes "a") None ∷ step (codes "b") None ∷ []; symmetrical = true }))
unfolding run
order_scored = line-is_said [] _ _ refl

order_of_0 : Says (codes "order" ∷ codes "o" ∷ codes "0:" ∷ codes "a:stop" ∷ codes "b:demote" ∷ [])
    (draft.Order (record { id = codes "o"; kind = Optional; steps = step (codes "a") (Some Stop) ∷ step (codes "b") (Some Demote) ∷ []; symmetrical = true }))
unfolding run
order_of_0 = line-is_said [] _ _ refl

order_apart : Says (codes "order" ∷ codes "o" ∷ codes "Serialize:" ∷ codes "a" ∷ codes "b" ∷ [])
    (draft.Order (record { id = codes "o"; kind = Serialize; steps = step (codes "a") None ∷ step (codes "b") None ∷ []; symmetrical = false }))
unfolding run
order_apart = line-is_said [] _ _ refl

order_of_one : SaysNothing (codes "order" ∷ codes "o" ∷ codes "a" ∷ [])
unfolding run
order_of_one d = none-said [] _ MissingWord d refl

order_below_0 : SaysNothing (codes "order" ∷ codes "o" ∷ codes "-5:" ∷ codes "a" ∷ codes "b" ∷ [])
unfolding run
order_below_0 d = none-said [] _ BadScore d refl

order_apart_both : SaysNothing (codes "order" ∷ codes "o" ∷ codes "Serialize:" ∷ codes "a" ∷ codes "b" ∷ codes "symmetrical=true" ∷ [])
unfolding run
order_apart_both d = none-said [] _ Unsupported d refl

-- colocations
beside : Says (codes "colocation" ∷ codes "c" ∷ codes "-inf:" ∷ codes "a" ∷ codes "b:Master" ∷ [])
    (draft.Whole (form.Colocation (codes "c") (neg_ℤ (pos 1000000)) (record { resource = codes "a"; role = role.Started }) (record { resource = codes "b"; role = role.Promoted })))
unfolding run
beside = line-is_said [] _ _ refl

beside_a_third : SaysNothing (codes "collocation" ∷ codes "c" ∷ codes "5:" ∷ codes "a" ∷ codes "b" ∷ codes "c" ∷ [])
unfolding run
beside_a_third d = none-said [] _ Unsupported d refl

-- nodes
node_alone : Says (codes "node" ∷ codes "n1" ∷ []) (draft.Whole (form.Node None (codes "n1") [] []))
unfolding run
node_alone = line-is_said [] _ _ refl

node_with_all : Says (codes "node" ∷ codes "1:" ∷ codes "n1" ∷ codes "attributes" ∷ codes "standby=on" ∷ codes "utilization" ∷ codes "cpu=4" ∷ codes "ram=" ∷ [])
    (draft.Whole (form.Node (Some (codes "1")) (codes "n1") (kv (codes "standby") (codes "on") ∷ []) (kv (codes "cpu") (codes "4") ∷ kv (codes "ram") [] ∷ [])))
unfolding run
node_with_all = line-is_said [] _ _ refl

node_out_of_turn : SaysNothing (codes "node" ∷ codes "n1" ∷ codes "utilization" ∷ codes "cpu=4" ∷ codes "attributes" ∷ codes "a=b" ∷ [])
unfolding run
node_out_of_turn d = none-said [] _ ExtraWord d refl

-- primitives
primitive_alone : Says (codes "primitive" ∷ codes "p" ∷ codes "Dummy" ∷ []) (draft.Whole (form.Primitive (codes "p") (codes "ocf:heartbeat:Dummy") None [] [] [] [] []))
unfolding run
primitive_alone = line-is_said [] _ _ refl

primitive_with_all : Says (codes "primitive" ∷ codes "p" ∷ codes "lsb:nginx" ∷ codes "description=web" ∷ codes "op" ∷ codes "monitor" ∷ codes "interval=10s" ∷ codes "params" ∷ codes "a=1"
    ∷ codes "op" ∷ codes "params" ∷ codes "x=y" ∷ codes "params" ∷ codes "b=2" ∷ [])
    (draft.Whole (form.Primitive (codes "p") (codes "lsb:nginx") (Some (codes "web")) (kv (codes "a") (codes "1") ∷ kv (codes "b") (codes "2") ∷ []) [] [] []
    (record { name = codes "monitor"; pairs = kv (codes "interval") (codes "10s") ∷ [] } ∷ record { name = codes "params"; pairs = kv (codes "x") (codes "y") ∷ [] } ∷ [])))
unfolding run
primitive_with_all = line-is_said [] _ _ refl

start_twice : SaysNothing (codes "primitive" ∷ codes "p" ∷ codes "a:b:c" ∷ codes "op" ∷ codes "start" ∷ codes "timeout=1" ∷ codes "op" ∷ codes "start" ∷ codes "timeout=2" ∷ [])
unfolding run
start_twice d = none-said [] _ RepeatedKey d refl

same_interval : SaysNothing (codes "primitive" ∷ codes "p" ∷ codes "a:b:c" ∷ codes "op" ∷ codes "monitor" ∷ codes "interval=60" ∷ codes "op" ∷ codes "monitor" ∷ codes "interval=1m" ∷ [])
unfolding run
same_interval d = none-said [] _ RepeatedKey d refl

four_parts : SaysNothing (codes "primitive" ∷ codes "p" ∷ codes "a:b:c:d" ∷ [])
unfolding run
four_parts d = none-said [] _ BadValue d refl

-- groups and clones
group_of_two : Says (codes "group" ∷ codes "g" ∷ codes "a" ∷ codes "b" ∷ codes "meta" ∷ codes "priority=5" ∷ codes "params" ∷ codes "x=1" ∷ [])
    (draft.Whole (form.Group (codes "g") (codes "a" ∷ codes "b" ∷ []) None (kv (codes "x") (codes "1") ∷ []) (kv (codes "priority") (codes "5") ∷ [])))
unfolding run
group_of_two = line-is_said [] _ _ refl

no_pair : SaysNothing (codes "group" ∷ codes "g" ∷ codes "a" ∷ codes "meta" ∷ [])
unfolding run
no_pair d = none-said [] _ MissingWord d refl

clone_of_one : Says (codes "clone" ∷ codes "c" ∷ codes "a" ∷ codes "description=" ∷ []) (draft.Whole (form.Cloned (codes "c") (codes "a") false (Some []) [] []))
unfolding run
clone_of_one = line-is_said [] _ _ refl

promotable : Says (codes "master" ∷ codes "m" ∷ codes "a" ∷ codes "meta" ∷ codes "promoted-max=2" ∷ [])
    (draft.Whole (form.Cloned (codes "m") (codes "a") true None [] (kv (codes "promoted-max") (codes "2") ∷ [])))
unfolding run
promotable = line-is_said [] _ _ refl

both_names : SaysNothing (codes "ms" ∷ codes "m" ∷ codes "a" ∷ codes "meta" ∷ codes "promoted-max=2" ∷ codes "master-max=2" ∷ [])
unfolding run
both_names d = none-said [] _ RepeatedKey d refl

-- locations
on_a_node : Says (codes "location" ∷ codes "l" ∷ codes "a" ∷ codes "role=Promoted" ∷ codes "resource-discovery=always" ∷ codes "50:" ∷ codes "n1" ∷ [])
    (draft.Whole (form.Location (codes "l") (codes "a") (Some role.Promoted) true (pos 50) (codes "n1")))
unfolding run
on_a_node = line-is_said [] _ _ refl

by_rules : Says (codes "location" ∷ codes "l" ∷ codes "a" ∷ codes "rule" ∷ codes "$id=r" ∷ codes "role=Started" ∷ codes "5:" ∷ codes "defined" ∷ codes "x" ∷ codes "or" ∷ codes "y"
    ∷ codes "number:gte" ∷ codes "7" ∷ codes "rule" ∷ codes "-inf:" ∷ codes "#uname" ∷ codes "eq" ∷ codes "n1" ∷ [])
    (draft.Whole (form.RuledLocation (codes "l") (codes "a") None false (
    record {
      id = Some (codes "r");
      role = Some role.Started;
      score = pos 5;
      words = codes "defined" ∷ codes "x" ∷ codes "or" ∷ codes "y" ∷ codes "number:gte" ∷ codes "7" ∷ [];
      rule = record { all = false; tests = Defined (codes "x") ∷ Attribute (codes "y") Gte kind.Number (codes "7") ∷ [] };
    }
    ∷ record {
      id = None;
      role = None;
      score = neg_ℤ (pos 1000000);
      words = codes "#uname" ∷ codes "eq" ∷ codes "n1" ∷ [];
      rule = record { all = true; tests = Attribute (codes "#uname") Eq kind.Auto (codes "n1") ∷ [] };
    } ∷ [])))
unfolding run
by_rules = line-is_said [] _ _ refl

and_or : SaysNothing (codes "location" ∷ codes "l" ∷ codes "a" ∷ codes "rule" ∷ codes "5:" ∷ codes "defined" ∷ codes "x" ∷ codes "and" ∷ codes "defined" ∷ codes "y" ∷ codes "or" ∷ codes "defined" ∷ codes "z" ∷ [])
unfolding run
and_or d = none-said [] _ Unsupported d refl

no_role_there : SaysNothing (codes "location" ∷ codes "l" ∷ codes "a" ∷ codes "role=Slave" ∷ codes "50:" ∷ codes "n1" ∷ [])
unfolding run
no_role_there d = none-said [] _ Unsupported d refl

-- settings, and what is kept
settings_with_id : Says (codes "property" ∷ codes "s:" ∷ codes "batch-limit=3" ∷ codes "$id=x" ∷ codes "$id=y" ∷ [])
    (draft.Whole (form.Settings Property (Some (codes "s")) (kv (codes "batch-limit") (codes "3") ∷ kv (codes "$id") (codes "x") ∷ kv (codes "$id") (codes "y") ∷ [])))
unfolding run
settings_with_id = line-is_said [] _ _ refl

key_twice : SaysNothing (codes "rsc_defaults" ∷ codes "a=1" ∷ codes "a=1" ∷ [])
unfolding run
key_twice d = none-said [] _ RepeatedKey d refl

kept : Says (codes "alert" ∷ codes "whatever" ∷ []) (draft.Whole (form.Kept (codes "alert" ∷ codes "whatever" ∷ [])))
unfolding run
kept = line-is_said [] _ _ refl

not_kept : SaysNothing (codes "tag" ∷ codes "t" ∷ codes "a" ∷ [])
unfolding run
not_kept d = none-said [] _ Unsupported d refl

no_word : SaysNothing []
unfolding run
no_word d = none-said [] _ UnknownStatement d refl
