-- Where the words of a node, a primitive, a group or a clone are clean, so are those that it is written with.
use Rattle.std.proofs.Common.{◌≡◌, ℕ, Bool, true, false, cond, List, [], ◌∷◌, ◌++◌, length, Option, Ok, refl, sym, subst}
use Rattle.std.specs.Prelude.{codes, ◌==◌}
use Rattle.crm_parse.specs.declared.form.Form.{Form}
use Rattle.crm_parse.specs.declared.form.Form.TheVariants as form
use Rattle.crm_parse.specs.declared.owner.Owner.TheVariants as owner
use Rattle.crm_parse.specs.declared.pair.Kv.{Kv}
use Rattle.crm_parse.specs.declared.section.Sections.{Sections}
use Rattle.crm_parse.specs.Groups.{clone_at, clone_owner, group_at, members_from}
use Rattle.crm_parse.specs.Node.{node_statement_at}
use Rattle.crm_parse.specs.Primitive.{agent_of, colon_parts, primitive_at}
use Rattle.crm_parse.specs.Reading.{Words, given_at, name_at, prefixed_at, next_word_in}
use Rattle.crm_parse.specs.Sections.{sections_at}
use Rattle.crm_parse.specs.WordTexts.{clone_word}
use Rattle.crm_parse.proofs.Affixes.{colon_at-words, given_words, noted_words, prefixed_at-words}
use Rattle.crm_parse.proofs.Binds.{given_at-ok, name_at-ok, word_at-ok}
use Rattle.faults.proofs.Steps.{bind-ok}
use Rattle.crm_print.proofs.Clean.{AllClean, Clean, clean-append, clean-ascii}
use Rattle.crm_print.proofs.CleanSections.{CleanSections, all-append, all-behind, all-front, clean-operation_words, clean-section_words, clean-sections}
use Rattle.crm_parse.proofs.GroupRead.{members_from-read}
use Rattle.crm_print.proofs.MetaAgain.{label}
use Rattle.crm_parse.proofs.PairLists.{pair_words}
use Rattle.crm_print.proofs.PrimitiveAgain.{agent-again}
use Rattle.crm_print.proofs.SectionsAgain.{op_sections}
use Rattle.crm_print.proofs.Written.{meta_words, section_words, written}

-- words that are clean, of which a first part was read
record Split (front rest : Words) : Type 0 where
  pub read : AllClean front
  pub left : AllClean rest

split : (words front rest : Words) → words ≡ front ++ rest → AllClean words → Split front rest
split words front rest e w =
    let all = subst AllClean e w in
    record { read = all-front front rest all; left = all-behind front rest all }

split-name : (words : Words) (read : List ℕ × Words) → name_at words ≡ Ok read → AllClean words → Split (read.0 ∷ []) read.1
split-name words read e w = split words (read.0 ∷ []) read.1 (name_at-ok words read e).0 w

split-given : (words : Words) (read : Option (List ℕ) × Words) → given_at words ≡ Ok read → AllClean words → Split (given_words read.0) read.1
split-given words read e w = split words (given_words read.0) read.1 (colon_at-words words read (sym (given_at-ok words read e).0)) w

split-noted : (words : Words) → AllClean words → Split (noted_words label (prefixed_at label words).0) (prefixed_at label words).1
split-noted words w = split words (noted_words label (prefixed_at label words).0) (prefixed_at label words).1 (prefixed_at-words label words (prefixed_at label words) refl) w

clean-meta_words : (description : Option (List ℕ)) (params meta : List Kv) → AllClean (noted_words label description) → AllClean (pair_words params)
    → AllClean (pair_words meta) → AllClean (meta_words description params meta)
clean-meta_words description params meta d p m =
    all-append (noted_words label description) (section_words (codes "params") params ++ section_words (codes "meta") meta) d
    (all-append (section_words (codes "params") params) (section_words (codes "meta") meta)
    (clean-section_words (codes "params") params (clean-ascii (codes "params") refl) p) (clean-section_words (codes "meta") meta (clean-ascii (codes "meta") refl) m))

pub node-clean : (words : Words) (read : Form) → AllClean words → node_statement_at words ≡ Ok read → AllClean (written read)
unfolding node_statement_at
node-clean words read w e =
    let (id, given, after_id) = bind-ok (given_at words) _ read e in
    let (name, named, after_name) = bind-ok (name_at id.1) _ read after_id in
    let (sections, are, last) = bind-ok (sections_at owner.Node name.1) _ read after_name in
    let i = split-given words id given w in
    let n = split-name id.1 name named i.left in
    let s = clean-sections owner.Node name.1 sections n.left are in
    let made = form.Node id.0 name.0 sections.attributes sections.utilization in
    let same : made ≡ read = cc in
    let a = clean-section_words (codes "attributes") sections.attributes (clean-ascii (codes "attributes") refl) s.attributes in
    let u = clean-section_words (codes "utilization") sections.utilization (clean-ascii (codes "utilization") refl) s.utilization in
    let both = all-append (section_words (codes "attributes") sections.attributes) (section_words (codes "utilization") sections.utilization) a u in
    let all : AllClean (written made) = (clean-ascii (codes "node") refl, all-append (given_words id.0) (name.0 ∷ _) i.read (n.read.0, both)) in
    subst (λ f. AllClean (written f)) {x = made} same all

clean-whole : (word : List ℕ) (one : Bool) → Clean word → Clean (cond one (codes "ocf:heartbeat:" ++ word) word)
clean-whole word true c = clean-append (codes "ocf:heartbeat:") word (clean-ascii (codes "ocf:heartbeat:") refl) c
clean-whole word false c = c

clean-agent : (word agent : List ℕ) → Clean word → agent_of word ≡ Ok agent → Clean agent
clean-agent word agent c e = subst Clean (sym (agent-again word agent e).0) (clean-whole word (length (colon_parts word) == 1) c)

clean-op_sections : (s : Sections) → CleanSections s → AllClean (op_sections s.utilization s.operations s.ops)
clean-op_sections s c =
    all-append (section_words (codes "utilization") s.utilization) _ (clean-section_words (codes "utilization") s.utilization (clean-ascii (codes "utilization") refl) c.utilization)
    (all-append (section_words (codes "operations") s.operations) _ (clean-section_words (codes "operations") s.operations (clean-ascii (codes "operations") refl) c.operations)
    (clean-operation_words s.ops c.ops))

pub primitive-clean : (words : Words) (read : Form) → AllClean words → primitive_at words ≡ Ok read → AllClean (written read)
unfolding primitive_at
primitive-clean words read w e =
    let (id, named, after_id) = bind-ok (name_at words) _ read e in
    let (word, is_there, after_word) = bind-ok (next_word_in id.1) _ read after_id in
    let (agent, is_one, after_agent) = bind-ok (agent_of word.0) _ read after_word in
    let description = prefixed_at label word.1 in
    let (sections, are, last) = bind-ok (sections_at owner.Primitive description.1) _ read after_agent in
    let n = split-name words id named w in
    let a = split id.1 (word.0 ∷ []) word.1 (word_at-ok id.1 word is_there) n.left in
    let d = split-noted word.1 a.left in
    let s = clean-sections owner.Primitive description.1 sections d.left are in
    let made = form.Primitive id.0 agent description.0 sections.params sections.meta sections.utilization sections.operations sections.ops in
    let same : made ≡ read = cc in
    let m = clean-meta_words description.0 sections.params sections.meta d.read s.params s.meta in
    let tail = all-append (meta_words description.0 sections.params sections.meta) (op_sections sections.utilization sections.operations sections.ops) m (clean-op_sections sections s) in
    let all : AllClean (written made) = (clean-ascii (codes "primitive") refl, (n.read.0, (clean-agent word.0 agent a.read.0 is_one, tail))) in
    subst (λ f. AllClean (written f)) {x = made} same all

clean-clone_word : (ms : Bool) → Clean (clone_word ms)
clean-clone_word true = clean-ascii (codes "ms") refl
clean-clone_word false = clean-ascii (codes "clone") refl

pub clone-clean : (ms : Bool) (words : Words) (read : Form) → AllClean words → clone_at ms words ≡ Ok read → AllClean (written read)
unfolding clone_at
clone-clean ms words read w e =
    let (id, named, after_id) = bind-ok (name_at words) _ read e in
    let (child, is_one, after_child) = bind-ok (name_at id.1) _ read after_id in
    let description = prefixed_at label child.1 in
    let (sections, are, last) = bind-ok (sections_at (clone_owner ms) description.1) _ read after_child in
    let n = split-name words id named w in
    let c = split-name id.1 child is_one n.left in
    let d = split-noted child.1 c.left in
    let s = clean-sections (clone_owner ms) description.1 sections d.left are in
    let made = form.Cloned id.0 child.0 ms description.0 sections.params sections.meta in
    let same : made ≡ read = cc in
    let m = clean-meta_words description.0 sections.params sections.meta d.read s.params s.meta in
    let all : AllClean (written made) = (clean-clone_word ms, (n.read.0, (c.read.0, m))) in
    subst (λ f. AllClean (written f)) {x = made} same all

pub group-clean : (words : Words) (read : Form) → AllClean words → group_at words ≡ Ok read → AllClean (written read)
unfolding group_at
group-clean words read w e =
    let (id, named, after_id) = bind-ok (name_at words) _ read e in
    let (members, are_members, after_members) = bind-ok (members_from [] id.1) _ read after_id in
    let description = prefixed_at label members.1 in
    let (sections, are, last) = bind-ok (sections_at owner.Group description.1) _ read after_members in
    let n = split-name words id named w in
    let r = members_from-read [] id.1 members are_members in
    let g = split id.1 r.members members.1 r.whole n.left in
    let d = split-noted members.1 g.left in
    let s = clean-sections owner.Group description.1 sections d.left are in
    let made = form.Group id.0 members.0 description.0 sections.params sections.meta in
    let same : made ≡ read = cc in
    let m = clean-meta_words description.0 sections.params sections.meta d.read s.params s.meta in
    let tail = all-append members.0 (meta_words description.0 sections.params sections.meta) (subst AllClean (sym r.added) g.read) m in
    let all : AllClean (written made) = (clean-ascii (codes "group") refl, (n.read.0, tail)) in
    subst (λ f. AllClean (written f)) {x = made} same all
