-- A line is read as a statement just when its words say it.
use Rattle.std.proofs.Common.{◌≡◌, ◌||◌, ℕ, Bool, true, false, cond, List, [], ◌∷◌, Result, Ok, Err, refl, sym, ◌∙◌, subst}
use Rattle.std.specs.Prelude.{codes}
use Rattle.crm_lex.specs.Names.{is}
use Rattle.crm_parse.specs.declared.draft.Draft.{Draft}
use Rattle.crm_parse.specs.declared.draft.Draft.TheVariants as draft
use Rattle.crm_parse.specs.declared.draft.DraftStatement.{DraftStatement}
use Rattle.crm_parse.specs.declared.fault.ParseCause.{ParseCause}
use Rattle.crm_parse.specs.declared.fault.ParseCause.TheVariants.{UnknownStatement, Unsupported}
use Rattle.crm_parse.specs.declared.form.Form.{Form}
use Rattle.crm_parse.specs.declared.form.Form.TheVariants as form
use Rattle.crm_parse.specs.declared.keyword.Keyword.{Keyword}
use Rattle.crm_parse.specs.declared.keyword.Keyword.TheVariants as keyword
use Rattle.crm_parse.specs.declared.words.SettingsWord.{SettingsWord}
use Rattle.crm_parse.specs.declared.words.SettingsWord.TheVariants.{Property, RscDefaults, OpDefaults}
use Rattle.crm_parse.specs.Colocation.{colocation_at}
use Rattle.crm_parse.specs.Groups.{clone_at, group_at}
use Rattle.crm_parse.specs.Location.{location_at}
use Rattle.crm_parse.specs.Node.{node_statement_at}
use Rattle.crm_parse.specs.Order.{order_at}
use Rattle.crm_parse.specs.Primitive.{primitive_at}
use Rattle.crm_parse.specs.Reading.{Words}
use Rattle.crm_parse.specs.Settings.{settings_at}
use Rattle.crm_parse.specs.Statements.{draft_after, draft_of, is_kept, is_unsupported, keyword_of, order, whole}
use Rattle.faults.proofs.Steps.{bind-ok}
use Rattle.crm_parse.proofs.Binds.{is-true, ok-same}
use Rattle.crm_parse.specs.Grammar.Lines.{CloneWordSays, ColocationWord, KeptWord, LineSays, SettingsWordSays, acl_group_word, acl_target_word, alert_word, collocation_word, colocation_word, fencing_topology_word, is_clone_word, line_kept, line_of_clone, line_of_colocation, line_of_group, line_of_location, line_of_node, line_of_order, line_of_primitive, line_of_settings, master_word, ms_word, op_defaults_word, property_word, role_word, rsc_defaults_word, user_word}
use Rattle.crm_parse.proofs.Grammar.CloneRelated.{clone-is_read, clone-is_said}
use Rattle.crm_parse.proofs.Grammar.ColocationIsRead.{colocation-is_read}
use Rattle.crm_parse.proofs.Grammar.ColocationIsSaid.{colocation-is_said}
use Rattle.crm_parse.proofs.Grammar.GroupRelated.{group-is_read, group-is_said}
use Rattle.crm_parse.proofs.Grammar.LocationRelated.{location-is_read, location-is_said}
use Rattle.crm_parse.proofs.Grammar.NodeRelated.{node-is_read, node-is_said}
use Rattle.crm_parse.proofs.Grammar.OrderIsRead.{order-is_read}
use Rattle.crm_parse.proofs.Grammar.OrderIsSaid.{order-is_said}
use Rattle.crm_parse.proofs.Grammar.PrimitiveRelated.{primitive-is_read, primitive-is_said}
use Rattle.crm_parse.proofs.Grammar.SettingsRelated.{settings-are_read, settings-are_said}

-- the statement that a first word begins
pub data Begins : List ℕ → Keyword → Type 0 where
  a_node : Begins (codes "node") keyword.Node
  a_primitive : Begins (codes "primitive") keyword.Primitive
  a_group : Begins (codes "group") keyword.Group
  a_clone : Begins (codes "clone") keyword.Clone
  an_ms : Begins (codes "ms") keyword.Ms
  a_master : Begins (codes "master") keyword.Ms
  a_location : Begins (codes "location") keyword.Location
  a_colocation : (word : List ℕ) → ColocationWord word → Begins word keyword.Colocation
  an_order : Begins (codes "order") keyword.Order
  some_settings : (word : List ℕ) (what : SettingsWord) → SettingsWordSays word what → Begins word (keyword.Settings what)
  is_kept_so : (word : List ℕ) → KeptWord word → Begins word keyword.Kept

-- a first word is this one, or the question goes on
step : {P : Type 0} (b : Bool) (x : Keyword) (rest : Result Keyword ParseCause) (k : Keyword) → cond b (Ok x) rest ≡ Ok k → (b ≡ true → x ≡ k → P)
    → (rest ≡ Ok k → P) → P
step true x rest k e f g = f refl (ok-same x k e)
step false x rest k e f g = g e

one-of : {P : Type 0} (a b : Bool) → (a || b) ≡ true → (a ≡ true → P) → (b ≡ true → P) → P
one-of true b e f g = f refl
one-of false b e f g = g e

-- the word is one of a table
is_word : (word text : List ℕ) (k other : Keyword) → Begins text other → is word text ≡ true → other ≡ k → Begins word k
is_word word text k other b e s = subst (Begins word) s (subst (λ w. Begins w other) (sym (is-true word text e)) b)

refused : (word : List ℕ) (k : Keyword) (b : Bool) → cond b (Err Unsupported) (Err UnknownStatement) ≡ Ok k → Begins word k
refused word k true e = cc
refused word k false e = cc

kept-text : (word text : List ℕ) (k : Keyword) → KeptWord text → keyword.Kept ≡ k → is word text ≡ true → Begins word k
kept-text word text k h s e = is_word word text k keyword.Kept (is_kept_so text h) e s

kept-begins : (word : List ℕ) (k : Keyword) → is_kept word ≡ true → keyword.Kept ≡ k → Begins word k
kept-begins word k e s =
    one-of _ (is word (codes "acl_group")) e (λ a.
    one-of _ (is word (codes "acl_target")) a (λ b.
    one-of _ (is word (codes "role")) b (λ c.
    one-of _ (is word (codes "user")) c (λ d.
    one-of (is word (codes "fencing_topology")) (is word (codes "alert")) d
    (kept-text word (codes "fencing_topology") k fencing_topology_word s)
    (kept-text word (codes "alert") k alert_word s))
    (kept-text word (codes "user") k user_word s))
    (kept-text word (codes "role") k role_word s))
    (kept-text word (codes "acl_target") k acl_target_word s))
    (kept-text word (codes "acl_group") k acl_group_word s)

settings-begin : (word text : List ℕ) (what : SettingsWord) (k : Keyword) → SettingsWordSays text what → is word text ≡ true → keyword.Settings what ≡ k → Begins word k
settings-begin word text what k h e s = is_word word text k (keyword.Settings what) (some_settings text what h) e s

pub begins : (word : List ℕ) (k : Keyword) → keyword_of word ≡ Ok k → Begins word k
unfolding keyword_of
begins word k e =
    step (is word (codes "node")) keyword.Node _ k e (λ h s. is_word word (codes "node") k _ a_node h s) (λ e.
    step (is word (codes "primitive")) keyword.Primitive _ k e (λ h s. is_word word (codes "primitive") k _ a_primitive h s) (λ e.
    step (is word (codes "group")) keyword.Group _ k e (λ h s. is_word word (codes "group") k _ a_group h s) (λ e.
    step (is word (codes "clone")) keyword.Clone _ k e (λ h s. is_word word (codes "clone") k _ a_clone h s) (λ e.
    step (is word (codes "ms") || is word (codes "master")) keyword.Ms _ k e (λ h s. one-of (is word (codes "ms")) (is word (codes "master")) h
    (λ h. is_word word (codes "ms") k _ an_ms h s) (λ h. is_word word (codes "master") k _ a_master h s)) (λ e.
    step (is word (codes "location")) keyword.Location _ k e (λ h s. is_word word (codes "location") k _ a_location h s) (λ e.
    step (is word (codes "colocation") || is word (codes "collocation")) keyword.Colocation _ k e (λ h s.
    one-of (is word (codes "colocation")) (is word (codes "collocation")) h
    (λ h. is_word word (codes "colocation") k _ (a_colocation (codes "colocation") colocation_word) h s)
    (λ h. is_word word (codes "collocation") k _ (a_colocation (codes "collocation") collocation_word) h s)) (λ e.
    step (is word (codes "order")) keyword.Order _ k e (λ h s. is_word word (codes "order") k _ an_order h s) (λ e.
    step (is word (codes "property")) (keyword.Settings Property) _ k e (λ h s. settings-begin word (codes "property") Property k property_word h s) (λ e.
    step (is word (codes "rsc_defaults")) (keyword.Settings RscDefaults) _ k e (λ h s. settings-begin word (codes "rsc_defaults") RscDefaults k rsc_defaults_word h s) (λ e.
    step (is word (codes "op_defaults")) (keyword.Settings OpDefaults) _ k e (λ h s. settings-begin word (codes "op_defaults") OpDefaults k op_defaults_word h s) (λ e.
    step (is_kept word) keyword.Kept _ k e (λ h s. kept-begins word k h s) (λ e.
    refused word k (is_unsupported word) e))))))))))))

module _ (before : List DraftStatement) where
  whole-said : (line : Words) (read : Result Form ParseCause) (d : Draft) → whole read ≡ Ok d → ((f : Form) → read ≡ Ok f → LineSays before line (draft.Whole f))
      → LineSays before line d
  whole-said line read d e h =
      let (f, is_form, last) = bind-ok read _ d e in
      let same : draft.Whole f ≡ d = ok-same _ d last in
      subst (LineSays before line) same (h f is_form)

  order-said : (words : Words) (d : Draft) → order words ≡ Ok d → LineSays before (codes "order" ∷ words) d
  order-said words d e =
      let (read, is_order, last) = bind-ok (order_at words) _ d e in
      let same : draft.Order read ≡ d = ok-same _ d last in
      subst (LineSays before (codes "order" ∷ words)) same (line_of_order words read (order-is_said words read is_order))

  after-said : (word : List ℕ) (k : Keyword) (words : Words) (d : Draft) → Begins word k → draft_after k before (word ∷ words) words ≡ Ok d → LineSays before (word ∷ words) d
  after-said w k words d a_node e = whole-said (codes "node" ∷ words) (node_statement_at words) d e (λ f h. line_of_node words f (node-is_said words f h))
  after-said w k words d a_primitive e = whole-said (codes "primitive" ∷ words) (primitive_at words) d e (λ f h. line_of_primitive words f (primitive-is_said words f h))
  after-said w k words d a_group e = whole-said (codes "group" ∷ words) (group_at words) d e (λ f h. line_of_group words f (group-is_said words f h))
  after-said w k words d a_clone e =
      whole-said (codes "clone" ∷ words) (clone_at false words) d e (λ f h. line_of_clone (codes "clone") false words f is_clone_word (clone-is_said false words f h))
  after-said w k words d an_ms e =
      whole-said (codes "ms" ∷ words) (clone_at true words) d e (λ f h. line_of_clone (codes "ms") true words f ms_word (clone-is_said true words f h))
  after-said w k words d a_master e =
      whole-said (codes "master" ∷ words) (clone_at true words) d e (λ f h. line_of_clone (codes "master") true words f master_word (clone-is_said true words f h))
  after-said w k words d a_location e = whole-said (codes "location" ∷ words) (location_at words) d e (λ f h. line_of_location words f (location-is_said words f h))
  after-said w k words d (a_colocation word b) e = whole-said (word ∷ words) (colocation_at words) d e (λ f h. line_of_colocation word words f b (colocation-is_said words f h))
  after-said w k words d an_order e = order-said words d e
  after-said w k words d (some_settings word what b) e =
      whole-said (word ∷ words) (settings_at what before words) d e (λ f h. line_of_settings word what words f b (settings-are_said what before words f h))
  after-said w k words d (is_kept_so word b) e =
      let same : draft.Whole (form.Kept (word ∷ words)) ≡ d = ok-same _ d e in
      subst (LineSays before (word ∷ words)) same (line_kept word words b)

  -- what is read as a statement says it
  pub line-is_said : (words : Words) (d : Draft) → draft_of before words ≡ Ok d → LineSays before words d
  unfolding draft_of
  line-is_said [] d e = absurd (cc)
  line-is_said (word ∷ words) d e =
      let (k, is_keyword, rest) = bind-ok (keyword_of word) _ d e in
      after-said word k words d (begins word k is_keyword) rest

  clone-line : (word : List ℕ) (ms : Bool) (words : Words) (f : Form) → CloneWordSays word ms → clone_at ms words ≡ Ok f → draft_of before (word ∷ words) ≡ Ok (draft.Whole f)
  unfolding draft_of keyword_of
  clone-line w m words f is_clone_word h = rw h refl
  clone-line w m words f ms_word h = rw h refl
  clone-line w m words f master_word h = rw h refl

  colocation-line : (word : List ℕ) (words : Words) (f : Form) → ColocationWord word → colocation_at words ≡ Ok f → draft_of before (word ∷ words) ≡ Ok (draft.Whole f)
  unfolding draft_of keyword_of
  colocation-line w words f colocation_word h = rw h refl
  colocation-line w words f collocation_word h = rw h refl

  settings-line : (word : List ℕ) (what : SettingsWord) (words : Words) (f : Form) → SettingsWordSays word what → settings_at what before words ≡ Ok f
      → draft_of before (word ∷ words) ≡ Ok (draft.Whole f)
  unfolding draft_of keyword_of
  settings-line w what words f property_word h = rw h refl
  settings-line w what words f rsc_defaults_word h = rw h refl
  settings-line w what words f op_defaults_word h = rw h refl

  kept-line : (word : List ℕ) (words : Words) → KeptWord word → draft_of before (word ∷ words) ≡ Ok (draft.Whole (form.Kept (word ∷ words)))
  unfolding draft_of keyword_of
  kept-line w words fencing_topology_word = refl
  kept-line w words alert_word = refl
  kept-line w words user_word = refl
  kept-line w words role_word = refl
  kept-line w words acl_target_word = refl
  kept-line w words acl_group_word = refl

  -- what says a statement is read as it
  pub line-is_read : (words : Words) (d : Draft) → LineSays before words d → draft_of before words ≡ Ok d
  unfolding draft_of keyword_of
  line-is_read ws d (line_of_node words f s) = rw (node-is_read words f s) refl
  line-is_read ws d (line_of_primitive words f s) = rw (primitive-is_read words f s) refl
  line-is_read ws d (line_of_group words f s) = rw (group-is_read words f s) refl
  line-is_read ws d (line_of_clone word ms words f b s) = clone-line word ms words f b (clone-is_read ms words f s)
  line-is_read ws d (line_of_location words f s) = rw (location-is_read words f s) refl
  line-is_read ws d (line_of_colocation word words f b s) = colocation-line word words f b (colocation-is_read words f s)
  line-is_read ws d (line_of_order words order s) = rw (order-is_read words order s) refl
  line-is_read ws d (line_of_settings word what words f b s) = settings-line word what words f b (settings-are_read what before words f s)
  line-is_read ws d (line_kept word words b) = kept-line word words b

  -- one line says one statement
  pub one-statement : (words : Words) (one other : Draft) → LineSays before words one → LineSays before words other → one ≡ other
  one-statement words one other s t = ok-same one other (sym (line-is_read words one s) ∙ line-is_read words other t)

  refused-case : (words : Words) (read : Result Draft ParseCause) → draft_of before words ≡ read → ((d : Draft) → LineSays before words d → ⊥)
      → (cause : ParseCause) × (draft_of before words ≡ Err cause)
  refused-case words (Ok d) e h = absurd (h d (line-is_said words d e))
  refused-case words (Err cause) e h = (cause, e)

  -- a line that says none is refused
  pub no-statement : (words : Words) → ((d : Draft) → LineSays before words d → ⊥) → (cause : ParseCause) × (draft_of before words ≡ Err cause)
  no-statement words h = refused-case words (draft_of before words) refl h

  -- and a line that is refused says none
  pub none-said : (words : Words) (cause : ParseCause) (d : Draft) → draft_of before words ≡ Err cause → LineSays before words d → ⊥
  none-said words cause d e s = let f : Err cause ≡ Ok d = sym e ∙ line-is_read words d s in cc
