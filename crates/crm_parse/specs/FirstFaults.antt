-- The first fault of a line: the word from which on no line is accepted.
use Rattle.std.specs.Prelude.{◌≡◌, ◌≢◌, ℕ, Bool, List, [], ◌∷◌, ◌++◌, codes, Some, Err}
use Rattle.std.specs.List.{AllByRecursion}
use Rattle.crm_parse.specs.declared.draft.Draft.{Draft}
use Rattle.crm_parse.specs.declared.draft.DraftStatement.{DraftStatement}
use Rattle.crm_parse.specs.declared.fault.ParseCause.{ParseCause}
use Rattle.crm_parse.specs.declared.owner.Owner.{Owner}
use Rattle.crm_parse.specs.declared.owner.Owner.TheVariants as owner
use Rattle.crm_parse.specs.declared.owner.SectionWord.{SectionWord}
use Rattle.crm_parse.specs.declared.owner.SectionWord.TheVariants.{Op}
use Rattle.crm_parse.specs.declared.place.Place.{Place}
use Rattle.crm_parse.specs.Grammar.Lines.{CloneWordSays, LineSays}
use Rattle.crm_parse.specs.Grammar.Parts.{section_place, section_text}
use Rattle.crm_parse.specs.Groups.{clone_owner}
use Rattle.crm_parse.specs.Reading.{Words}
use Rattle.crm_parse.specs.Statements.{draft_of}

-- the word doesn't say whether an operation is enabled
abbrev pub LacksEnabled : List ℕ → Type 0
LacksEnabled word = (value : List ℕ) → word ≢ codes "enabled=" ++ value

-- these words begin a line: with some words behind them, or none, they say a statement. Those words don't say whether an operation is enabled
pub record BeginsLine (before : List DraftStatement) (words : Words) : Type 0 where
  pub behind : Words
  pub plain : AllByRecursion LacksEnabled behind
  pub statement : Draft
  pub says : LineSays before (words ++ behind) statement

-- the words are refused for this cause, whatever words stand behind them, as far as these don't say whether an operation is enabled
abbrev pub StaysRefused : List DraftStatement → Words → ParseCause → Type 0
StaysRefused before words cause = (more : Words) → AllByRecursion LacksEnabled more → draft_of before (words ++ more) ≡ Err cause

-- the words before the faulty one begin a line; with it they are refused for this cause, whatever stands behind but `enabled`
pub record FirstFault (before : List DraftStatement) (words : Words) (cause : ParseCause) : Type 0 where
  pub front : Words
  pub word : List ℕ
  pub behind : Words
  pub words_are : words ≡ front ++ word ∷ behind
  pub begins : BeginsLine before front
  pub faulty : StaysRefused before (front ++ word ∷ []) cause

-- words that end as a section without a pair does, by their last words: in its word, or in `op` and a name
pub data EndsInBareSection : Words → Type 0 where
  bare_section : (words : Words) (section : SectionWord) → section ≢ Op → EndsInBareSection (words ++ section_text section ∷ [])
  bare_operation : (words : Words) (name : List ℕ) → EndsInBareSection (words ++ codes "op" ∷ name ∷ [])

-- the kind of a statement that may have sections, by its first word
pub data HasSections : List ℕ → Owner → Type 0 where
  node_has : HasSections (codes "node") owner.Node
  primitive_has : HasSections (codes "primitive") owner.Primitive
  group_has : HasSections (codes "group") owner.Group
  clone_has : (word : List ℕ) (ms : Bool) → CloneWordSays word ms → HasSections word (clone_owner ms)

-- a section that such a statement may have
pub data MayHave (statement : Owner) : SectionWord → Type 0 where
  may_have_pairs : (section : SectionWord) (place : Place) → section_place statement section ≡ Some place → MayHave statement section
  may_have_operations : statement ≡ owner.Primitive → MayHave statement Op

-- a section has no pair and stands before the word of another one that the statement may have: the words up to it begin a line, and with that word no line does
pub record LacksPair (before : List DraftStatement) (words : Words) : Type 0 where
  pub word : List ℕ
  pub statement : Owner
  pub front : Words
  pub next : SectionWord
  pub behind : Words
  pub words_are : words ≡ word ∷ (front ++ section_text next ∷ behind)
  pub has_sections : HasSections word statement
  pub may_have : MayHave statement next
  pub bare : EndsInBareSection front
  pub begins : BeginsLine before (word ∷ front)
  pub closed : (more : Words) (said : Draft) → LineSays before (word ∷ (front ++ section_text next ∷ more)) said → ⊥
