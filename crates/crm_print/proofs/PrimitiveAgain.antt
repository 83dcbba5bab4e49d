-- A primitive is read again from its words.
use Rattle.std.proofs.Common.{◌≡◌, ℕ, Bool, true, false, not, cond, List, ◌∷◌, ◌++◌, length, Option, Ok, Err, refl, subst}
use Rattle.std.specs.Prelude.{codes, ◌==◌}
use Rattle.std.specs.List.{list_all}
use Rattle.std.proofs.lemmas.Bool.{and_parts, eqb-true}
use Rattle.crm_lex.specs.Names.{is_name}
use Rattle.crm_parse.specs.declared.fault.ParseCause.TheVariants.{BadValue, Unsupported}
use Rattle.crm_parse.specs.declared.form.Form.{Form}
use Rattle.crm_parse.specs.declared.form.Form.TheVariants as form
use Rattle.crm_parse.specs.declared.owner.Owner.TheVariants as owner
use Rattle.crm_parse.specs.declared.owner.SectionWord.TheVariants.{Meta, Operations, Params, Utilization}
use Rattle.crm_parse.specs.declared.pair.Kv.{Kv}
use Rattle.crm_parse.specs.declared.pair.Operation.{Operation}
use Rattle.crm_parse.specs.Primitive.{agent_of, colon_parts, is_agent, is_template, primitive_at, whole_agent}
use Rattle.crm_parse.specs.Reading.{Words, name_at, prefixed_at, next_word_in}
use Rattle.crm_parse.specs.Sections.{place_of, sections_at}
use Rattle.crm_parse.proofs.Binds.{name_at-again, name_at-ok, test-ok, unless-ok}
use Rattle.faults.proofs.Steps.{bind-ok}
use Rattle.crm_print.proofs.MetaAgain.{NoDescription, description-again, label, no_description-operations, no_description-section}
use Rattle.crm_parse.proofs.OperationWords.{KeptOps}
use Rattle.crm_parse.proofs.PairLists.{Kept}
use Rattle.crm_print.proofs.SectionsAgain.{op_sections, primitive_sections-again}
use Rattle.crm_parse.proofs.SectionsKept.{sections_at-kept}
use Rattle.crm_print.proofs.Written.{Again, meta_words}

-- the agent of one part, with those that were left out
agent-one : (word : List ℕ) → length (colon_parts word) ≡ 1 → is_agent word ≡ true → agent_of (codes "ocf:heartbeat:" ++ word) ≡ Ok (codes "ocf:heartbeat:" ++ word)
agent-one word n a =
    let some : list_all (λ part. not (length part == 0)) (colon_parts word) ≡ true = (and_parts _ _ a).1 in
    rw (n, some) refl

agent-whole : (word : List ℕ) (one : Bool) → (length (colon_parts word) == 1) ≡ one → is_template word ≡ false → is_agent word ≡ true
    → agent_of (cond one (codes "ocf:heartbeat:" ++ word) word) ≡ Ok (cond one (codes "ocf:heartbeat:" ++ word) word)
agent-whole word true e t a = agent-one word (eqb-true (length (colon_parts word)) 1 e) a
agent-whole word false e t a = rw (t, a, e) refl

-- the agent that was read is whole
pub agent-again : (word agent : List ℕ) → agent_of word ≡ Ok agent → (agent ≡ whole_agent word) × (agent_of agent ≡ Ok agent)
agent-again word agent e =
    let (read, plain) = unless-ok (is_template word) (cond (is_agent word) (Ok (whole_agent word)) (Err BadValue)) agent Unsupported e in
    let (same, good) = test-ok (is_agent word) (whole_agent word) agent BadValue read in
    (same, rw same (agent-whole word (length (colon_parts word) == 1) refl plain good))

primitive-again : (id agent : List ℕ) (description : Option (List ℕ)) (params meta utilization operations : List Kv) (ops : List Operation) → is_name id ≡ true
    → agent_of agent ≡ Ok agent → Kept (place_of owner.Primitive Params) params → Kept (place_of owner.Primitive Meta) meta
    → Kept (place_of owner.Primitive Utilization) utilization → Kept (place_of owner.Primitive Operations) operations → KeptOps ops
    → primitive_at (id ∷ agent ∷ (meta_words description params meta ++ op_sections utilization operations ops))
    ≡ Ok (form.Primitive id agent description params meta utilization operations ops)
unfolding primitive_at
primitive-again id agent description params meta utilization operations ops n a p m u o k =
    let tail = op_sections utilization operations ops in
    let rest = meta_words description params meta ++ tail in
    let none : NoDescription tail =
    no_description-section (codes "utilization") utilization _ refl (no_description-section (codes "operations") operations _ refl (no_description-operations ops)) in
    rw (name_at-again id (agent ∷ rest) n, a, description-again description params meta tail none, primitive_sections-again params meta utilization operations ops p m u o k) refl

-- what is read as a primitive is read again
pub primitive_at-again : (words : Words) (read : Form) → primitive_at words ≡ Ok read → Again primitive_at (codes "primitive") read
unfolding primitive_at
primitive_at-again words read e =
    let (id, named, after_id) = bind-ok (name_at words) _ read e in
    let (word, is_there, after_word) = bind-ok (next_word_in id.1) _ read after_id in
    let (agent, is_one, after_agent) = bind-ok (agent_of word.0) _ read after_word in
    let description = prefixed_at label word.1 in
    let (sections, are, last) = bind-ok (sections_at owner.Primitive description.1) _ read after_agent in
    let kept = sections_at-kept owner.Primitive description.1 sections are in
    let made = form.Primitive id.0 agent description.0 sections.params sections.meta sections.utilization sections.operations sections.ops in
    let same : made ≡ read = cc in
    let again = primitive-again id.0 agent description.0 sections.params sections.meta sections.utilization sections.operations sections.ops (name_at-ok words id named).1
    (agent-again word.0 agent is_one).1 kept.params kept.meta kept.utilization kept.operations kept.ops in
    let tail = meta_words description.0 sections.params sections.meta ++ op_sections sections.utilization sections.operations sections.ops in
    subst (Again primitive_at (codes "primitive")) same (id.0 ∷ agent ∷ tail, refl, again)
