-- Where the words of the lines are clean, so are those that their statements are written with.
use Rattle.std.proofs.Common.{◌≡◌, ℕ, Bool, true, false, List, [], ◌∷◌, ◌++◌, Result, Ok, refl, sym, subst}
use Rattle.std.specs.Prelude.{codes, map}
use Rattle.std.specs.List.{AllByRecursion}
use Rattle.crm_parse.specs.declared.draft.Draft.{Draft}
use Rattle.crm_parse.specs.declared.draft.Draft.TheVariants as draft
use Rattle.crm_parse.specs.declared.draft.DraftStatement.{DraftStatement}
use Rattle.crm_parse.specs.declared.draft.OrderDraft.{OrderDraft}
use Rattle.crm_parse.specs.declared.fault.ParseCause.{ParseCause}
use Rattle.crm_parse.specs.declared.form.Form.{Form}
use Rattle.crm_parse.specs.declared.form.Form.TheVariants as form
use Rattle.crm_parse.specs.declared.form.OrderStep.{OrderStep}
use Rattle.crm_parse.specs.declared.keyword.Keyword.{Keyword}
use Rattle.crm_parse.specs.declared.keyword.Keyword.TheVariants as keyword
use Rattle.crm_parse.specs.declared.words.ActionWord.{ActionWord}
use Rattle.crm_parse.specs.declared.words.ActionWord.TheVariants.{Start, Stop, Promote, Demote}
use Rattle.crm_parse.specs.declared.words.KindWord.{KindWord}
use Rattle.crm_parse.specs.declared.words.KindWord.TheVariants.{Mandatory, Optional, Serialize}
use Rattle.crm_parse.specs.declared.words.RoleWord.{RoleWord}
use Rattle.crm_parse.specs.declared.words.RoleWord.TheVariants as role
use Rattle.crm_parse.specs.declared.words.SettingsWord.{SettingsWord}
use Rattle.crm_parse.specs.declared.words.SettingsWord.TheVariants.{Property, RscDefaults, OpDefaults}
use Rattle.crm_parse.specs.Colocation.{colocation_at, no_attribute, no_third, side_at}
use Rattle.crm_parse.specs.Groups.{clone_at, group_at}
use Rattle.crm_parse.specs.Location.{location_at}
use Rattle.crm_parse.specs.Node.{node_statement_at}
use Rattle.crm_parse.specs.Order.{order_at}
use Rattle.crm_parse.specs.OrderActions.{with_actions}
use Rattle.crm_parse.specs.Primitive.{primitive_at}
use Rattle.crm_parse.specs.Reading.{Words, name_at, score_of, next_word_in}
use Rattle.crm_parse.specs.Settings.{settings_at}
use Rattle.crm_parse.specs.Statements.{draft_after, draft_of, finished, keyword_of, order, whole}
use Rattle.crm_parse.specs.WordTexts.{action_word_text, bool_text, kind_text, settings_text}
use Rattle.crm_parse.proofs.Binds.{name_at-ok}
use Rattle.faults.proofs.Steps.{bind-ok}
use Rattle.crm_print.proofs.Clean.{AllClean, Clean, clean-append, clean-ascii, clean-name}
use Rattle.crm_print.proofs.CleanForms.{clone-clean, group-clean, node-clean, primitive-clean}
use Rattle.crm_print.proofs.CleanLocation.{location-clean}
use Rattle.crm_print.proofs.CleanNumbers.{score-clean}
use Rattle.crm_print.proofs.CleanSections.{all-append}
use Rattle.crm_parse.proofs.ColocationRead.{side_at-ok}
use Rattle.crm_parse.proofs.OrderRead.{IsOrder, Named, NamedDraft, actions-named, order_at-ok}
use Rattle.crm_parse.proofs.ResourceNames.{IsResource}
use Rattle.crm_parse.proofs.ScoreRead.{score_of-ok}
use Rattle.crm_print.proofs.SettingsAgain.{settings-written}
use Rattle.crm_print.proofs.Written.{side_word, step_word, written}

side-clean : (name : List ℕ) (r : RoleWord) → IsResource name → Clean (side_word (record { resource = name; role = r }))
side-clean name role.Started h = clean-name name h.named
side-clean name role.Promoted h = clean-append name (58 ∷ codes "Promoted") (clean-name name h.named) (clean-ascii (58 ∷ codes "Promoted") refl)

colocation-clean : (words : Words) (f : Form) → colocation_at words ≡ Ok f → AllClean (written f)
unfolding colocation_at
colocation-clean words f e =
    let (id, named, e1) = bind-ok (name_at words) _ f e in
    let (word, at, e2) = bind-ok (next_word_in id.1) _ f e1 in
    let (fits, plain, e3) = bind-ok (no_attribute word.0) _ f e2 in
    let (points, scored, e4) = bind-ok (score_of word.0) _ f e3 in
    let (dependent, first, e5) = bind-ok (side_at word.1) _ f e4 in
    let (primary, second, e6) = bind-ok (side_at dependent.1) _ f e5 in
    let (end, third, last) = bind-ok (no_third primary.1) _ f e6 in
    let same : form.Colocation id.0 points dependent.0 primary.0 ≡ f = cc in
    subst (λ g. AllClean (written g)) same (
      clean-ascii (codes "colocation") refl,
      (
        clean-name id.0 (name_at-ok words id named).1,
        (
          score-clean points (score_of-ok word.0 points scored),
          (side-clean dependent.0.resource dependent.0.role (side_at-ok word.1 dependent first), (side-clean primary.0.resource primary.0.role (side_at-ok dependent.1 primary second), tt)),
        ),
      ),
    )

kind-clean : (kind : KindWord) → Clean (kind_text kind ++ codes ":")
kind-clean Mandatory = clean-ascii (codes "Mandatory:") refl
kind-clean Optional = clean-ascii (codes "Optional:") refl
kind-clean Serialize = clean-ascii (codes "Serialize:") refl

action-clean : (action : ActionWord) → Clean (58 ∷ action_word_text action)
action-clean Start = clean-ascii (codes ":start") refl
action-clean Stop = clean-ascii (codes ":stop") refl
action-clean Promote = clean-ascii (codes ":promote") refl
action-clean Demote = clean-ascii (codes ":demote") refl

symmetrical-clean : (both : Bool) → Clean (codes "symmetrical=" ++ bool_text both)
symmetrical-clean true = clean-ascii (codes "symmetrical=true") refl
symmetrical-clean false = clean-ascii (codes "symmetrical=false") refl

steps-clean : (steps : List OrderStep) → AllByRecursion Named steps → AllClean (map step_word steps)
steps-clean [] h = tt
steps-clean (step ∷ steps) h =
    (clean-append step.resource (58 ∷ action_word_text step.action) (clean-name step.resource h.0.named) (action-clean step.action), steps-clean steps h.1)

order-clean : (promotable : Words) (order : OrderDraft) → IsOrder order → AllClean (written (finished promotable (draft.Order order)))
order-clean promotable order h =
    let all : AllByRecursion NamedDraft order.steps = subst (AllByRecursion NamedDraft) (sym h.steps) (h.first, (h.second, h.others)) in
    let steps = with_actions promotable Start order.steps in (
      clean-ascii (codes "order") refl,
      (
        clean-name order.id h.named,
        (
          kind-clean order.kind,
          all-append (map step_word steps) ((codes "symmetrical=" ++ bool_text order.symmetrical) ∷ [])
              (steps-clean steps (actions-named promotable Start order.steps all)) (symmetrical-clean order.symmetrical, tt),
        ),
      ),
    )

pub settings-clean : (what : SettingsWord) → Clean (settings_text what)
settings-clean Property = clean-ascii (codes "property") refl
settings-clean RscDefaults = clean-ascii (codes "rsc_defaults") refl
settings-clean OpDefaults = clean-ascii (codes "op_defaults") refl

-- what a statement is written with is clean
abbrev pub DraftClean : Words → Draft → Type 0
DraftClean promotable d = AllClean (written (finished promotable d))

whole-clean : (promotable : Words) (read : Result Form ParseCause) (d : Draft) → ((f : Form) → read ≡ Ok f → AllClean (written f)) → whole read ≡ Ok d → DraftClean promotable d
whole-clean promotable read d h e =
    let (f, is_form, last) = bind-ok read _ d e in
    let same : draft.Whole f ≡ d = cc in
    subst (DraftClean promotable) same (h f is_form)

order-draft : (promotable : Words) (words : Words) (d : Draft) → order words ≡ Ok d → DraftClean promotable d
order-draft promotable words d e =
    let (read, is_order, last) = bind-ok (order_at words) _ d e in
    let same : draft.Order read ≡ d = cc in
    subst (DraftClean promotable) same (order-clean promotable read (order_at-ok words read is_order))

module _ (promotable : Words) (before : List DraftStatement) where
  keyword-clean : (begins : Keyword) (word : List ℕ) (words : Words) (d : Draft) → AllClean (word ∷ words) → draft_after begins before (word ∷ words) words ≡ Ok d → DraftClean promotable d
  keyword-clean keyword.Node word words d w e = whole-clean promotable (node_statement_at words) d (λ f h. node-clean words f w.1 h) e
  keyword-clean keyword.Primitive word words d w e = whole-clean promotable (primitive_at words) d (λ f h. primitive-clean words f w.1 h) e
  keyword-clean keyword.Group word words d w e = whole-clean promotable (group_at words) d (λ f h. group-clean words f w.1 h) e
  keyword-clean keyword.Clone word words d w e = whole-clean promotable (clone_at false words) d (λ f h. clone-clean false words f w.1 h) e
  keyword-clean keyword.Ms word words d w e = whole-clean promotable (clone_at true words) d (λ f h. clone-clean true words f w.1 h) e
  keyword-clean keyword.Location word words d w e = whole-clean promotable (location_at words) d (λ f h. location-clean words f w.1 h) e
  keyword-clean keyword.Colocation word words d w e = whole-clean promotable (colocation_at words) d (λ f h. colocation-clean words f h) e
  keyword-clean keyword.Order word words d w e = order-draft promotable words d e
  keyword-clean (keyword.Settings what) word words d w e =
      whole-clean promotable (settings_at what before words) d (λ f h. subst AllClean (sym (settings-written what before words f h)) (settings-clean what, w.1)) e
  keyword-clean keyword.Kept word words d w e =
      let same : draft.Whole (form.Kept (word ∷ words)) ≡ d = cc in
      subst (DraftClean promotable) same w

  pub draft-clean : (line : Words) (d : Draft) → AllClean line → draft_of before line ≡ Ok d → DraftClean promotable d
  unfolding draft_of
  draft-clean [] d w e = absurd (cc)
  draft-clean (word ∷ words) d w e =
      let (begins, k, rest) = bind-ok (keyword_of word) _ d e in
      keyword-clean begins word words d w rest
