-- Nodes, primitives, groups and clones that are refused for a missing word: they end too early, or their sections lack a pair.
use Rattle.std.proofs.Common.{◌≡◌, inl, ℕ, Bool, true, false, cond, List, [], ◌∷◌, ◌++◌, Option, Some, None, Result, Ok, Err, refl, sym, ap, ◌∙◌, subst}
use Rattle.std.specs.Prelude.{codes}
use Rattle.faults.specs.Reading.{◌>>=◌}
use Rattle.crm_parse.specs.declared.fault.ParseCause.{ParseCause}
use Rattle.crm_parse.specs.declared.fault.ParseCause.TheVariants.{MissingWord}
use Rattle.crm_parse.specs.declared.form.Form.{Form}
use Rattle.crm_parse.specs.declared.form.Form.TheVariants as form
use Rattle.crm_parse.specs.declared.owner.Owner.TheVariants as owner
use Rattle.crm_parse.specs.FirstFaults.{MayHave}
use Rattle.crm_parse.specs.Groups.{clone_at, clone_owner, ends_members, group_at, members_from}
use Rattle.crm_parse.specs.Node.{node_statement_at}
use Rattle.crm_parse.specs.Primitive.{agent_of, primitive_at}
use Rattle.crm_parse.specs.Reading.{Words, colon_at, given_at, name_at, name_of, next_word_in, some_name}
use Rattle.crm_parse.specs.Sections.{sections_at}
use Rattle.crm_parse.specs.Texts.{before}
use Rattle.crm_parse.proofs.Binds.{ok-same}
use Rattle.crm_parse.proofs.CausesKept.{none-agent, none-ok, none-some_name}
use Rattle.crm_parse.proofs.FaultsStay.{same-fault}
use Rattle.crm_parse.proofs.GoesFurther.{LacksNone, Whatever, further, none-name, none-step}
use Rattle.crm_parse.proofs.LinesGoFurther.{a_name}
use Rattle.crm_parse.proofs.SectionEnds.{Ends, FormLacks, described, described-end, end-before, end-behind, end-name, end-test, form-lacks, sections-end}

-- a node
abbrev node_named : Option (List ℕ) → Words → Result Form ParseCause
node_named id words = name_at words >>= (λ name. sections_at owner.Node name.1 >>= (λ sections. Ok (form.Node id name.0 sections.attributes sections.utilization)))

node-named-end : (id : Option (List ℕ)) (words : Words) → Ends owner.Node (node_named id) words
unfolding name_at
node-named-end id words =
    end-name owner.Node (λ name ws. sections_at owner.Node ws >>= (λ sections. Ok (form.Node id name sections.attributes sections.utilization))) words
    (further Whatever _ (a_name ∷ []) _ refl refl tt) (λ name rest. sections-end owner.Node (λ sections. form.Node id name sections.attributes sections.utilization) rest)

node-id-case : (word : List ℕ) (words : Words) (id : List ℕ) (read : Result (Option (List ℕ)) ParseCause) → before (codes ":") word ≡ Some id → some_name (Some id) ≡ read
    → Ends owner.Node (λ ws. given_at ws >>= (λ got. node_named got.0 got.1)) (word ∷ words)
unfolding given_at
node-id-case word words id (Ok given) f r =
    let taken : (behind : Words) → colon_at (word ∷ behind) ≡ (Some id, behind) = λ behind. rw (colon_at, f) refl in
    end-behind owner.Node given_at node_named (word ∷ []) given words (λ behind. rw (taken behind, r) refl) (node-named-end given words)
node-id-case word words id (Err why) f r = λ e.
    let taken : colon_at (word ∷ words) ≡ (Some id, words) = rw (colon_at, f) refl in
    let at : given_at (word ∷ words) ≡ Err why = rw (taken, r) refl in
    let same : Err why ≡ Err MissingWord = sym (rw at refl) ∙ e in
    absurd (none-some_name (Some id) (r ∙ same-fault why MissingWord same))

node-case : (word : List ℕ) (words : Words) (found : Option (List ℕ)) → before (codes ":") word ≡ found
    → Ends owner.Node (λ ws. given_at ws >>= (λ got. node_named got.0 got.1)) (word ∷ words)
unfolding given_at
node-case word words None f =
    let taken : (behind : Words) → colon_at (word ∷ behind) ≡ (None, word ∷ behind) = λ behind. rw (colon_at, f) refl in
    end-before owner.Node given_at node_named [] None word words (λ behind. rw (taken behind) refl) (node-named-end None (word ∷ words))
node-case word words (Some id) f = node-id-case word words id (some_name (Some id)) f refl

node-ends : (words : Words) → Ends owner.Node node_statement_at words
unfolding node_statement_at given_at name_at
node-ends [] = λ e. inl (further Whatever _ (a_name ∷ []) _ refl refl tt)
node-ends (word ∷ words) = node-case word words (before (codes ":") word) refl

pub node-lacks : (words : Words) → node_statement_at words ≡ Err MissingWord → FormLacks (MayHave owner.Node) node_statement_at words
node-lacks words e = form-lacks owner.Node node_statement_at words (node-ends words) e

-- a primitive
abbrev primitive_with : List ℕ → Words → Result Form ParseCause
primitive_with id words =
    next_word_in words >>= (λ word. agent_of word.0 >>= (λ agent. described owner.Primitive
    (λ d s. form.Primitive id agent d s.params s.meta s.utilization s.operations s.ops) word.1))

primitive-with-end : (id : List ℕ) (words : Words) → Ends owner.Primitive (primitive_with id) words
primitive-with-end id [] = λ e. inl (further Whatever _ (a_name ∷ []) _ refl refl tt)
primitive-with-end id (word ∷ words) =
    end-behind owner.Primitive next_word_in (λ v ws. agent_of v >>= (λ agent. described owner.Primitive (λ d s. form.Primitive id agent d s.params s.meta s.utilization s.operations s.ops) ws))
    (word ∷ []) word words (λ behind. refl)
    (end-test owner.Primitive (agent_of word) (λ agent. described owner.Primitive (λ d s. form.Primitive id agent d s.params s.meta s.utilization s.operations s.ops)) words (none-agent word)
    (λ agent. described-end owner.Primitive (λ d s. form.Primitive id agent d s.params s.meta s.utilization s.operations s.ops) words))

primitive-ends : (words : Words) → Ends owner.Primitive primitive_at words
unfolding primitive_at name_at
primitive-ends words = end-name owner.Primitive primitive_with words (further Whatever _ (a_name ∷ a_name ∷ []) _ refl refl tt) (λ id rest. primitive-with-end id rest)

pub primitive-lacks : (words : Words) → primitive_at words ≡ Err MissingWord → FormLacks (MayHave owner.Primitive) primitive_at words
primitive-lacks words e = form-lacks owner.Primitive primitive_at words (primitive-ends words) e

-- a group
record MembersBefore (members : Words) (words : Words) (read : Words) (word : List ℕ) (rest : Words) : Type 0 where
  head : Words
  words_are : words ≡ head ++ word ∷ rest
  again : (behind : Words) → members_from members (head ++ word ∷ behind) ≡ Ok (read, word ∷ behind)

members-case : (members : Words) (v : List ℕ) (words read : Words) (word : List ℕ) (rest : Words) (ends : Bool) → ends_members v ≡ ends
    → cond ends (Ok (members, v ∷ words)) (name_of v >>= (λ name. members_from (members ++ name ∷ []) words)) ≡ Ok (read, word ∷ rest)
    → ((name : List ℕ) → members_from (members ++ name ∷ []) words ≡ Ok (read, word ∷ rest) → MembersBefore (members ++ name ∷ []) words read word rest)
    → MembersBefore members (v ∷ words) read word rest
members-case members v words read word rest true n e k =
    let same : (members, v ∷ words) ≡ (read, word ∷ rest) = ok-same (members, v ∷ words) (read, word ∷ rest) e in
    let own : members ≡ read = ap (λ (made : Words × Words). made.0) same in
    let left : v ∷ words ≡ word ∷ rest = ap (λ (made : Words × Words). made.1) same in
    let first : v ≡ word = cc in
    record { head = []; words_are = left; again = λ behind. rw (sym first, sym own, n) refl }
members-case members v words read word rest false n e k = name-case (name_of v) refl e
  where
    name-case : (given : Result (List ℕ) ParseCause) → name_of v ≡ given → (given >>= (λ name. members_from (members ++ name ∷ []) words)) ≡ Ok (read, word ∷ rest)
        → MembersBefore members (v ∷ words) read word rest
    name-case (Ok name) g h =
        let m = k name h in
        record { head = v ∷ m.head; words_are = ap (λ (ws : Words). v ∷ ws) m.words_are; again = λ behind. rw (n, g) (m.again behind) }
    name-case (Err why) g h = absurd (cc)

members-before : (members words read : Words) (word : List ℕ) (rest : Words) → members_from members words ≡ Ok (read, word ∷ rest) → MembersBefore members words read word rest
members-before members [] read word rest e =
    let same : (members, []) ≡ (read, word ∷ rest) = ok-same (members, []) (read, word ∷ rest) e in
    let left : [] ≡ word ∷ rest = ap (λ (made : Words × Words). made.1) same in
    absurd (cc)
members-before members (v ∷ words) read word rest e =
    members-case members v words read word rest (ends_members v) refl e (λ name h. members-before (members ++ name ∷ []) words read word rest h)

members-none-case : (members : Words) (word : List ℕ) (words : Words) (ends : Bool) → ((name : List ℕ) → LacksNone (members_from (members ++ name ∷ []) words))
    → LacksNone (cond ends (Ok (members, word ∷ words)) (name_of word >>= (λ name. members_from (members ++ name ∷ []) words)))
members-none-case members word words true k = none-ok (members, word ∷ words)
members-none-case members word words false k = none-step (name_of word) _ (none-name word) k

members-none : (members words : Words) → LacksNone (members_from members words)
members-none members [] = none-ok (members, [])
members-none members (word ∷ words) = members-none-case members word words (ends_members word) (λ name. members-none (members ++ name ∷ []) words)

abbrev group_with : List ℕ → Words → Result Form ParseCause
group_with id words = members_from [] words >>= (λ members. described owner.Group (λ d s. form.Group id members.0 d s.params s.meta) members.1)

group-with-case : (id words : Words) (name : List ℕ) (read : Result (Words × Words) ParseCause) → members_from [] words ≡ read
    → (read >>= (λ members. described owner.Group (λ d s. form.Group name members.0 d s.params s.meta) members.1)) ≡ Err MissingWord → Ends owner.Group (group_with name) words
group-with-case id words name (Ok (members, [])) r e = λ f. absurd (cc)
group-with-case id words name (Ok (members, word ∷ rest)) r e =
    let m = members-before [] words members word rest r in
    subst (Ends owner.Group (group_with name)) (sym m.words_are)
    (end-before owner.Group (members_from []) (λ ms. described owner.Group (λ d s. form.Group name ms d s.params s.meta)) m.head members word rest m.again
    (described-end owner.Group (λ d s. form.Group name members d s.params s.meta) (word ∷ rest)))
group-with-case id words name (Err why) r e = λ f. absurd (members-none [] words (r ∙ same-fault why MissingWord e))

group-ends : (words : Words) → Ends owner.Group group_at words
unfolding group_at name_at
group-ends words = end-name owner.Group group_with words (further Whatever _ (a_name ∷ []) _ refl refl tt) (λ id rest e. group-with-case [] rest id (members_from [] rest) refl e e)

pub group-lacks : (words : Words) → group_at words ≡ Err MissingWord → FormLacks (MayHave owner.Group) group_at words
group-lacks words e = form-lacks owner.Group group_at words (group-ends words) e

-- a clone
abbrev clone_with : Bool → List ℕ → Words → Result Form ParseCause
clone_with ms id words = name_at words >>= (λ child. described (clone_owner ms) (λ d s. form.Cloned id child.0 ms d s.params s.meta) child.1)

clone-ends : (ms : Bool) (words : Words) → Ends (clone_owner ms) (clone_at ms) words
unfolding clone_at name_at
clone-ends ms words =
    end-name (clone_owner ms) (clone_with ms) words (further Whatever _ (a_name ∷ a_name ∷ []) _ refl refl tt) (λ id rest.
    end-name (clone_owner ms) (λ child. described (clone_owner ms) (λ d s. form.Cloned id child ms d s.params s.meta)) rest (further Whatever _ (a_name ∷ []) _ refl refl tt) (λ child rest.
    described-end (clone_owner ms) (λ d s. form.Cloned id child ms d s.params s.meta) rest))

pub clone-lacks : (ms : Bool) (words : Words) → clone_at ms words ≡ Err MissingWord → FormLacks (MayHave (clone_owner ms)) (clone_at ms) words
clone-lacks ms words e = form-lacks (clone_owner ms) (clone_at ms) words (clone-ends ms words) e
