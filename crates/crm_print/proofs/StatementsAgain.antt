-- Statements are read again from their words.
use Rattle.std.proofs.Common.{◌≡◌, ℕ, true, false, List, [], ◌∷◌, Result, Ok, refl, sym, subst}
use Rattle.std.specs.Prelude.{codes}
use Rattle.crm_parse.specs.declared.draft.Draft.{Draft}
use Rattle.crm_parse.specs.declared.draft.Draft.TheVariants as draft
use Rattle.crm_parse.specs.declared.draft.DraftStatement.{DraftStatement}
use Rattle.crm_parse.specs.declared.fault.ParseCause.{ParseCause}
use Rattle.crm_parse.specs.declared.form.Form.{Form}
use Rattle.crm_parse.specs.declared.form.Form.TheVariants as form
use Rattle.crm_parse.specs.declared.keyword.Keyword.{Keyword}
use Rattle.crm_parse.specs.declared.keyword.Keyword.TheVariants as keyword
use Rattle.crm_parse.specs.declared.words.SettingsWord.{SettingsWord}
use Rattle.crm_parse.specs.declared.words.SettingsWord.TheVariants.{Property, RscDefaults, OpDefaults}
use Rattle.crm_parse.specs.Colocation.{colocation_at}
use Rattle.crm_parse.specs.Groups.{clone_at, group_at}
use Rattle.crm_parse.specs.Location.{location_at}
use Rattle.crm_parse.specs.Node.{node_statement_at}
use Rattle.crm_parse.specs.Order.{order_at}
use Rattle.crm_parse.specs.Primitive.{primitive_at}
use Rattle.crm_parse.specs.Reading.{Words}
use Rattle.crm_parse.specs.Settings.{settings_at}
use Rattle.crm_parse.specs.Statements.{draft_after, draft_of, finished, keyword_of, order, whole}
use Rattle.crm_parse.specs.WordTexts.{settings_text}
use Rattle.faults.proofs.Steps.{bind-ok}
use Rattle.crm_print.proofs.CloneAgain.{clone_at-again}
use Rattle.crm_print.proofs.ColocationAgain.{colocation-again}
use Rattle.crm_print.proofs.GroupAgain.{group_at-again}
use Rattle.crm_print.proofs.LocationAgain.{location-again}
use Rattle.crm_print.proofs.NodeAgain.{node_at-again}
use Rattle.crm_print.proofs.OrderAgain.{done_order, order-again}
use Rattle.crm_parse.proofs.OrderRead.{order_at-ok}
use Rattle.crm_print.proofs.PrimitiveAgain.{primitive_at-again}
use Rattle.crm_print.proofs.SettingsAgain.{SameKeys, settings-after, settings-written}
use Rattle.crm_print.proofs.Written.{Again, written}

-- what the words of a statement are read as
abbrev pub written_draft : Words → Draft → Draft
written_draft promotable (draft.Whole f) = draft.Whole f
written_draft promotable (draft.Order order) = draft.Order (done_order promotable order)

-- a draft is read again from the words of what it says
abbrev pub DraftAgain : Words → List DraftStatement → Draft → Type 0
DraftAgain promotable after read = draft_of after (written (finished promotable read)) ≡ Ok (written_draft promotable read)

whole-again : (read : Words → Result Form ParseCause) (first : List ℕ) (begins : Keyword) (promotable : Words) (after : List DraftStatement) (f : Form) → keyword_of first ≡ Ok begins
    → ((line words : Words) → draft_after begins after line words ≡ whole (read words)) → Again read first f → DraftAgain promotable after (draft.Whole f)
unfolding draft_of
whole-again read first begins promotable after f k d a =
    rw (a.1, k, d (first ∷ a.0) a.0, a.2) refl

-- what a form of its own reads as
whole-case : (promotable : Words) (after : List DraftStatement) (read : Result Form ParseCause) (d : Draft)
    → ((f : Form) → read ≡ Ok f → DraftAgain promotable after (draft.Whole f)) → whole read ≡ Ok d → DraftAgain promotable after d
whole-case promotable after read d h e =
    let (f, is_form, last) = bind-ok read _ d e in
    let same : draft.Whole f ≡ d = cc in
    subst (DraftAgain promotable after) same (h f is_form)

order-case : (promotable : Words) (after : List DraftStatement) (words : Words) (d : Draft) → order words ≡ Ok d → DraftAgain promotable after d
unfolding draft_of keyword_of
order-case promotable after words d e =
    let (read, is_order, last) = bind-ok (order_at words) _ d e in
    let same : draft.Order read ≡ d = cc in
    subst (DraftAgain promotable after) same (rw (order-again promotable read (order_at-ok words read is_order)) refl)

kept-case : (promotable : Words) (after : List DraftStatement) (word : List ℕ) (words : Words) (d : Draft) → keyword_of word ≡ Ok keyword.Kept
    → whole (Ok (form.Kept (word ∷ words))) ≡ Ok d → DraftAgain promotable after d
unfolding draft_of
kept-case promotable after word words d k e =
    let same : draft.Whole (form.Kept (word ∷ words)) ≡ d = cc in
    subst (DraftAgain promotable after) same (rw k refl)

settings_keyword : (what : SettingsWord) → keyword_of (settings_text what) ≡ Ok (keyword.Settings what)
unfolding keyword_of
settings_keyword Property = refl
settings_keyword RscDefaults = refl
settings_keyword OpDefaults = refl

module _ (promotable : Words) (before after : List DraftStatement) (same : SameKeys before after) where
  settings-case : (what : SettingsWord) (words : Words) (d : Draft) → whole (settings_at what before words) ≡ Ok d → DraftAgain promotable after d
  unfolding draft_of
  settings-case what words d e = whole-case promotable after (settings_at what before words) d
      (λ f is_form. rw (settings-written what before words f is_form, settings_keyword what, sym (settings-after what before after words same), is_form) refl) e

  keyword-case : (begins : Keyword) (word : List ℕ) (words : Words) (d : Draft) → keyword_of word ≡ Ok begins → draft_after begins before (word ∷ words) words ≡ Ok d
      → DraftAgain promotable after d
  unfolding draft_of keyword_of
  keyword-case keyword.Node word words d k e =
      whole-case promotable after (node_statement_at words) d (λ f h. whole-again node_statement_at (codes "node") keyword.Node promotable after f refl (λ line ws. refl) (node_at-again words f h)) e
  keyword-case keyword.Primitive word words d k e =
      whole-case promotable after (primitive_at words) d (λ f h. whole-again primitive_at (codes "primitive") keyword.Primitive promotable after f refl (λ line ws. refl) (primitive_at-again words f h)) e
  keyword-case keyword.Group word words d k e =
      whole-case promotable after (group_at words) d (λ f h. whole-again group_at (codes "group") keyword.Group promotable after f refl (λ line ws. refl) (group_at-again words f h)) e
  keyword-case keyword.Clone word words d k e =
      whole-case promotable after (clone_at false words) d (λ f h. whole-again (clone_at false) (codes "clone") keyword.Clone promotable after f refl (λ line ws. refl) (clone_at-again false words f h)) e
  keyword-case keyword.Ms word words d k e =
      whole-case promotable after (clone_at true words) d (λ f h. whole-again (clone_at true) (codes "ms") keyword.Ms promotable after f refl (λ line ws. refl) (clone_at-again true words f h)) e
  keyword-case keyword.Location word words d k e =
      whole-case promotable after (location_at words) d (λ f h. whole-again location_at (codes "location") keyword.Location promotable after f refl (λ line ws. refl) (location-again words f h)) e
  keyword-case keyword.Colocation word words d k e =
      whole-case promotable after (colocation_at words) d (λ f h. whole-again colocation_at (codes "colocation") keyword.Colocation promotable after f refl (λ line ws. refl) (colocation-again words f h)) e
  keyword-case keyword.Order word words d k e = order-case promotable after words d e
  keyword-case (keyword.Settings what) word words d k e = settings-case what words d e
  keyword-case keyword.Kept word words d k e = kept-case promotable after word words d k e

  -- what a line says is read again from the words of what it says
  pub draft-again : (line : Words) (d : Draft) → draft_of before line ≡ Ok d → DraftAgain promotable after d
  unfolding draft_of
  draft-again [] d e = absurd (cc)
  draft-again (word ∷ words) d e =
      let (begins, k, rest) = bind-ok (keyword_of word) _ d e in
      keyword-case begins word words d k rest
