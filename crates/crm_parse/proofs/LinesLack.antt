-- A line that is refused for a missing word ends too early, or a section of it has no pair and stands before another section word.
use Rattle.std.proofs.Common.{◌≡◌, ◌≢◌, ◌⊎◌, inl, inr, ℕ, Bool, true, false, List, [], ◌∷◌, ◌++◌, Result, Ok, Err, refl, sym, ap, ◌∙◌, subst, append_assoc}
use Rattle.std.specs.Prelude.{codes}
use Rattle.std.specs.List.{AllByRecursion}
use Rattle.std.proofs.lemmas.List.{append-nil}
use Rattle.faults.specs.Reading.{◌>>=◌}
use Rattle.crm_parse.specs.declared.draft.Draft.{Draft}
use Rattle.crm_parse.specs.declared.draft.Draft.TheVariants as draft
use Rattle.crm_parse.specs.declared.draft.DraftStatement.{DraftStatement}
use Rattle.crm_parse.specs.declared.fault.ParseCause.{ParseCause}
use Rattle.crm_parse.specs.declared.fault.ParseCause.TheVariants.{MissingWord}
use Rattle.crm_parse.specs.declared.form.Form.TheVariants as form
use Rattle.crm_parse.specs.declared.keyword.Keyword.{Keyword}
use Rattle.crm_parse.specs.declared.keyword.Keyword.TheVariants as keyword
use Rattle.crm_parse.specs.declared.owner.Owner.{Owner}
use Rattle.crm_parse.specs.declared.owner.Owner.TheVariants as owner
use Rattle.crm_parse.specs.declared.owner.SectionWord.{SectionWord}
use Rattle.crm_parse.specs.Colocation.{colocation_at}
use Rattle.crm_parse.specs.FirstFaults.{BeginsLine, EndsInBareSection, HasSections, LacksEnabled, LacksPair, MayHave, clone_has, group_has, node_has, primitive_has}
use Rattle.crm_parse.specs.Grammar.Lines.{is_clone_word, line_kept, master_word, ms_word, user_word}
use Rattle.crm_parse.specs.Grammar.Parts.{section_text}
use Rattle.crm_parse.specs.Groups.{clone_at, clone_owner, group_at}
use Rattle.crm_parse.specs.Location.{location_at}
use Rattle.crm_parse.specs.Node.{node_statement_at}
use Rattle.crm_parse.specs.Order.{order_at}
use Rattle.crm_parse.specs.Primitive.{primitive_at}
use Rattle.crm_parse.specs.Reading.{Words}
use Rattle.crm_parse.specs.Settings.{settings_at}
use Rattle.crm_parse.specs.Statements.{draft_after, draft_of, keyword_of}
use Rattle.crm_parse.proofs.CausesKept.{none-keyword}
use Rattle.crm_parse.proofs.FaultsStay.{same-fault}
use Rattle.crm_parse.proofs.FormsLack.{clone-lacks, group-lacks, node-lacks, primitive-lacks}
use Rattle.crm_parse.proofs.GoesFurther.{Continues, GoesFurther, Whatever, lacks-enabled}
use Rattle.crm_parse.proofs.Grammar.LineRelated.{Begins, a_clone, a_colocation, a_group, a_location, a_master, a_node, a_primitive, an_ms, an_order, begins, is_kept_so, line-is_said, none-said, some_settings}
use Rattle.crm_parse.proofs.LinesGoFurther.{colocation-further, order-further, settings-further}
use Rattle.crm_parse.proofs.LocationGoesFurther.{location-further}
use Rattle.crm_parse.proofs.SectionEnds.{FormLacks, form_ends, form_lacks}
use Rattle.crm_parse.proofs.SectionsGoFurther.{then-ok}

-- a form without sections
abbrev NoSection : SectionWord → Type 0
NoSection next = ⊥

ends-only : {A : Type 0} (read : Words → Result A ParseCause) (words : Words) → GoesFurther Whatever (λ more. read (words ++ more)) → FormLacks NoSection read words
ends-only read words g = form_ends words g.more g.made g.plain g.gives

-- a section that stands in a statement of this first word
record StandsIn (word : List ℕ) (next : SectionWord) : Type 0 where
  statement : Owner
  has : HasSections word statement
  may : MayHave statement next

stands : (word : List ℕ) (statement : Owner) → HasSections word statement → (next : SectionWord) → MayHave statement next → StandsIn word next
stands word statement has next may = record { statement = statement; has = has; may = may }

is-missing : {A B : Type 0} (read : Result A ParseCause) (wrap : A → B) → (read >>= (λ x. Ok (wrap x))) ≡ Err MissingWord → read ≡ Err MissingWord
is-missing (Ok x) wrap e = cc
is-missing (Err why) wrap e = same-fault why MissingWord e

module _ (before : List DraftStatement) where
  -- the words of a line: they end too early, or its sections lack a pair
  data LineLacks : Words → Type 0 where
    line_ends : (words more : Words) (d : Draft) → AllByRecursion LacksEnabled more → draft_of before (words ++ more) ≡ Ok d → LineLacks words
    line_lacks : (word : List ℕ) (front : Words) (next : SectionWord) (behind more : Words) (d : Draft) → AllByRecursion LacksEnabled more → StandsIn word next → EndsInBareSection front
        → draft_of before (word ∷ (front ++ more)) ≡ Ok d → ((more : Words) → draft_of before (word ∷ (front ++ section_text next ∷ more)) ≡ Err MissingWord)
        → LineLacks (word ∷ (front ++ section_text next ∷ behind))

  -- the first word stands before the words of a form
  module _ {A : Type 0} (word : List ℕ) (k : Keyword) (May : SectionWord → Type 0) (read : Words → Result A ParseCause) (wrap : A → Draft) (begins : keyword_of word ≡ Ok k)
      (after : (words : Words) → draft_after k before (word ∷ words) words ≡ (read words >>= (λ x. Ok (wrap x)))) (stand : (next : SectionWord) → May next → StandsIn word next) where
    reads-line : (words : Words) (made : A) → read words ≡ Ok made → draft_of before (word ∷ words) ≡ Ok (wrap made)
    unfolding draft_of
    reads-line words made e = then-ok (keyword_of word) _ k begins ∙ (after words ∙ then-ok (read words) _ made e)

    refuses-line : (words : Words) → read words ≡ Err MissingWord → draft_of before (word ∷ words) ≡ Err MissingWord
    unfolding draft_of
    refuses-line words e = then-ok (keyword_of word) _ k begins ∙ (after words ∙ rw e refl)

    lacks-so : (words : Words) → FormLacks May read words → LineLacks (word ∷ words)
    lacks-so ws (form_ends words more made l e) = line_ends (word ∷ words) more (wrap made) l (reads-line (words ++ more) made e)
    lacks-so ws (form_lacks front next behind more made l may bare e closed) =
        line_lacks word front next behind more (wrap made) l (stand next may) bare (reads-line (front ++ more) made e) (λ more. refuses-line _ (closed more))

    line-so : (words : Words) → (read words ≡ Err MissingWord → FormLacks May read words) → draft_after k before (word ∷ words) words ≡ Err MissingWord → LineLacks (word ∷ words)
    line-so words h e = lacks-so words (h (is-missing (read words) wrap (sym (after words) ∙ e)))

  -- the same of a form without sections
  plain-so : {A : Type 0} (word : List ℕ) (k : Keyword) (read : Words → Result A ParseCause) (wrap : A → Draft) → keyword_of word ≡ Ok k
      → ((words : Words) → draft_after k before (word ∷ words) words ≡ (read words >>= (λ x. Ok (wrap x)))) → (words : Words)
      → Continues Whatever (read words) (λ more. read (words ++ more)) → draft_after k before (word ∷ words) words ≡ Err MissingWord → LineLacks (word ∷ words)
  plain-so word k read wrap b after words c e = line-so word k NoSection read wrap b after (λ next none. absurd none) words (λ h. ends-only read words (c h)) e

  clone-so : (word : List ℕ) (k : Keyword) (ms : Bool) → HasSections word (clone_owner ms) → keyword_of word ≡ Ok k
      → ((words : Words) → draft_after k before (word ∷ words) words ≡ (clone_at ms words >>= (λ f. Ok (draft.Whole f)))) → (words : Words)
      → draft_after k before (word ∷ words) words ≡ Err MissingWord → LineLacks (word ∷ words)
  clone-so word k ms has b after words e = line-so word k (MayHave (clone_owner ms)) (clone_at ms) draft.Whole b after (stands word (clone_owner ms) has) words (clone-lacks ms words) e

  after-lacks : (word : List ℕ) (k : Keyword) (words : Words) → Begins word k → keyword_of word ≡ Ok k → draft_after k before (word ∷ words) words ≡ Err MissingWord → LineLacks (word ∷ words)
  after-lacks w k words a_node b e =
      line-so (codes "node") keyword.Node (MayHave owner.Node) node_statement_at draft.Whole b (λ ws. refl) (stands _ owner.Node node_has) words (node-lacks words) e
  after-lacks w k words a_primitive b e =
      line-so (codes "primitive") keyword.Primitive (MayHave owner.Primitive) primitive_at draft.Whole b (λ ws. refl) (stands _ owner.Primitive primitive_has) words (primitive-lacks words) e
  after-lacks w k words a_group b e =
      line-so (codes "group") keyword.Group (MayHave owner.Group) group_at draft.Whole b (λ ws. refl) (stands _ owner.Group group_has) words (group-lacks words) e
  after-lacks w k words a_clone b e = clone-so (codes "clone") keyword.Clone false (clone_has (codes "clone") false is_clone_word) b (λ ws. refl) words e
  after-lacks w k words an_ms b e = clone-so (codes "ms") keyword.Ms true (clone_has (codes "ms") true ms_word) b (λ ws. refl) words e
  after-lacks w k words a_master b e = clone-so (codes "master") keyword.Ms true (clone_has (codes "master") true master_word) b (λ ws. refl) words e
  after-lacks w k words a_location b e = plain-so (codes "location") keyword.Location location_at draft.Whole b (λ ws. refl) words (location-further words) e
  after-lacks w k words (a_colocation word c) b e = plain-so word keyword.Colocation colocation_at draft.Whole b (λ ws. refl) words (colocation-further words) e
  after-lacks w k words an_order b e = plain-so (codes "order") keyword.Order order_at draft.Order b (λ ws. refl) words (order-further words) e
  after-lacks w k words (some_settings word what c) b e =
      plain-so word (keyword.Settings what) (settings_at what before) draft.Whole b (λ ws. refl) words (settings-further what before words) e
  after-lacks w k words (is_kept_so word c) b e = absurd (cc)

  keyword-case : (word : List ℕ) (words : Words) (read : Result Keyword ParseCause) → keyword_of word ≡ read → (read >>= (λ k. draft_after k before (word ∷ words) words)) ≡ Err MissingWord
      → LineLacks (word ∷ words)
  keyword-case word words (Ok k) b e = after-lacks word k words (begins word k b) b e
  keyword-case word words (Err why) b e = absurd (none-keyword word (b ∙ same-fault why MissingWord e))

  line-lacks : (words : Words) → draft_of before words ≡ Err MissingWord → LineLacks words
  unfolding draft_of
  line-lacks [] e = absurd (cc)
  line-lacks (word ∷ words) e = keyword-case word words (keyword_of word) refl e

  -- words that are read as a statement with more behind them begin a line
  begins-line : (words more : Words) (d : Draft) → AllByRecursion LacksEnabled more → draft_of before (words ++ more) ≡ Ok d → BeginsLine before words
  begins-line words more d l e = record { behind = more; plain = l; statement = d; says = line-is_said before (words ++ more) d e }

  pub begins-itself : (words : Words) (d : Draft) → draft_of before words ≡ Ok d → BeginsLine before words
  begins-itself words d e = begins-line words [] d tt (subst (λ ws. draft_of before ws ≡ Ok d) (sym (append-nil words)) e)

  pub nothing-begins : BeginsLine before []
  nothing-begins = record { behind = codes "user" ∷ []; plain = lacks-enabled (codes "user" ∷ []) refl; statement = draft.Whole (form.Kept (codes "user" ∷ [])); says = line_kept (codes "user") [] user_word }

  lacks-case : (words : Words) → LineLacks words → BeginsLine before words ⊎ LacksPair before words
  lacks-case ws (line_ends words more d l e) = inl (begins-line words more d l e)
  lacks-case ws (line_lacks word front next behind more d l stand bare e closed) = inr (record {
    word = word;
    statement = stand.statement;
    front = front;
    next = next;
    behind = behind;
    words_are = refl;
    has_sections = stand.has;
    may_have = stand.may;
    bare = bare;
    begins = begins-line (word ∷ front) more d l e;
    closed = λ more said s. none-said before _ MissingWord said (closed more) s;
  })

  -- a line that is refused for a missing word
  pub begins-or-lacks : (words : Words) → draft_of before words ≡ Err MissingWord → BeginsLine before words ⊎ LacksPair before words
  begins-or-lacks words e = lacks-case words (line-lacks words e)

  unless-case : (words behind : Words) (cause : ParseCause) → LineLacks words → cause ≢ MissingWord → draft_of before (words ++ behind) ≡ Err cause → BeginsLine before words
  unless-case ws behind cause (line_ends words more d l e) n r = begins-line words more d l e
  unless-case ws behind cause (line_lacks word front next rest more d l stand bare e closed) n r =
      let stays = sym (closed (rest ++ behind)) ∙ (ap (λ ws. draft_of before (word ∷ ws)) (sym (append_assoc front (section_text next ∷ rest) behind)) ∙ r) in
      let same : MissingWord ≡ cause = cc in
      absurd (n (sym same))

  -- and where it is refused for another cause with more words, it ends too early
  pub begins-unless : (words behind : Words) (cause : ParseCause) → draft_of before words ≡ Err MissingWord → cause ≢ MissingWord → draft_of before (words ++ behind) ≡ Err cause
      → BeginsLine before words
  begins-unless words behind cause m n e = unless-case words behind cause (line-lacks words m) n e
