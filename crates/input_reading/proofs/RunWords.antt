-- The words of pins, targets and reasons are read just as they say them.
use Rattle.std.proofs.Common.{◌≡◌, ℕ, suc, Bool, true, false, cond, List, [], ◌∷◌, drop, Some, Result, Ok, Err, refl, subst}
use Rattle.std.specs.Prelude.{codes}
use Rattle.crm_lex.specs.Names.{is, is_name}
use Rattle.cluster_types.specs.declared.placement.NoReason.{NoReason}
use Rattle.cluster_types.specs.declared.placement.NoReason.TheVariants.{NoCopies, Stopped, OnFail, StopAll, NoQuorum, NoNode}
use Rattle.cluster_types.specs.declared.placement.Pin.{Pin}
use Rattle.cluster_types.specs.declared.placement.Pin.TheVariants.{Unmanaged, Blocked}
use Rattle.cluster_types.specs.declared.placement.Target.{Target}
use Rattle.cluster_types.specs.declared.placement.Target.TheVariants as target
use Rattle.faults.proofs.Steps.{bind-ok}
use Rattle.input_reading.specs.declared.words.word_cause.WordCause.{WordCause}
use Rattle.input_reading.specs.declared.words.word_cause.WordCause.TheVariants.{BadValue}
use Rattle.input_reading.specs.LineWords.{id_at, pin_at, pin_named, reason_of, target_at, target_of}
use Rattle.input_reading.specs.WordPlaces.{WordsOfLine, word_at}
use Rattle.input_reading.specs.Grammar.RunForms.{SaysPin, SaysReason, SaysTarget, for_no_copies, for_no_node, for_no_quorum, for_on_fail, for_stop_all, for_stopped, is_blocked, is_unmanaged, to_be_promoted, to_be_started}
use Rattle.input_reading.proofs.PlacesSaid.{IsAt, table-at, word-here}
use Rattle.input_reading.proofs.TablesSaid.{ask-some, says-it}

pin-said : (word : List ℕ) (pin : Pin) → pin_named word ≡ Some pin → SaysPin word pin
pin-said word pin e =
    ask-some (is word (codes "unmanaged")) Unmanaged _ pin e (says-it SaysPin word (codes "unmanaged") Unmanaged pin is_unmanaged) (λ e.
    ask-some (is word (codes "blocked")) Blocked _ pin e (says-it SaysPin word (codes "blocked") Blocked pin is_blocked) (λ e. absurd (cc)))

pub pin-at : (place : ℕ) (words : WordsOfLine) (pin : Pin) → pin_at place words ≡ Ok pin → IsAt SaysPin place words pin
unfolding pin_at
pin-at place words pin e = table-at SaysPin pin_named BadValue pin-said place words pin e

pub pin-read : (word : List ℕ) (pin : Pin) → SaysPin word pin → pin_named word ≡ Some pin
pin-read w p is_unmanaged = refl
pin-read w p is_blocked = refl

target-said : (word : List ℕ) (goal : Target) → target_of word ≡ Some goal → SaysTarget word goal
target-said word goal e =
    ask-some (is word (codes "started")) target.Started _ goal e (says-it SaysTarget word (codes "started") target.Started goal to_be_started) (λ e.
    ask-some (is word (codes "promoted")) target.Promoted _ goal e (says-it SaysTarget word (codes "promoted") target.Promoted goal to_be_promoted) (λ e. absurd (cc)))

pub target-at : (place : ℕ) (words : WordsOfLine) (goal : Target) → target_at place words ≡ Ok goal → IsAt SaysTarget place words goal
unfolding target_at
target-at place words goal e = table-at SaysTarget target_of BadValue target-said place words goal e

pub target-read : (word : List ℕ) (goal : Target) → SaysTarget word goal → target_of word ≡ Some goal
target-read w g to_be_started = refl
target-read w g to_be_promoted = refl

-- a reason without a rule is one word
abbrev pub OneWordSays : List ℕ → NoReason → Type 0
OneWordSays word reason = SaysReason (word ∷ []) reason

pub reason-said : (word : List ℕ) (reason : NoReason) → reason_of word ≡ Some reason → SaysReason (word ∷ []) reason
unfolding reason_of
reason-said word reason e =
    ask-some (is word (codes "NoCopies")) NoCopies _ reason e (says-it OneWordSays word (codes "NoCopies") NoCopies reason for_no_copies) (λ e.
    ask-some (is word (codes "Stopped")) Stopped _ reason e (says-it OneWordSays word (codes "Stopped") Stopped reason for_stopped) (λ e.
    ask-some (is word (codes "OnFail")) OnFail _ reason e (says-it OneWordSays word (codes "OnFail") OnFail reason for_on_fail) (λ e.
    ask-some (is word (codes "StopAll")) StopAll _ reason e (says-it OneWordSays word (codes "StopAll") StopAll reason for_stop_all) (λ e.
    ask-some (is word (codes "NoQuorum")) NoQuorum _ reason e (says-it OneWordSays word (codes "NoQuorum") NoQuorum reason for_no_quorum) (λ e.
    ask-some (is word (codes "NoNode")) NoNode _ reason e (says-it OneWordSays word (codes "NoNode") NoNode reason for_no_node) (λ e. absurd (cc)))))))

name-case : (text id : List ℕ) (test : Bool) → is_name text ≡ test → (let read : Result (List ℕ) WordCause = cond test (Ok text) (Err BadValue) in read) ≡ Ok id
    → (text ≡ id) × (is_name id ≡ true)
name-case text id true t e = let same : text ≡ id = cc in (same, subst (λ w. is_name w ≡ true) same t)
name-case text id false t e = cc

-- the name of a rule stands at a place
pub id-at : (place : ℕ) (words : WordsOfLine) (id : List ℕ) → id_at place words ≡ Ok id → (drop place words ≡ id ∷ drop (suc place) words) × (is_name id ≡ true)
unfolding id_at
id-at place words id e =
    let (text, at, rest) = bind-ok (word_at place words) _ id e in
    let named = name-case text id (is_name text) refl rest in
    (subst (λ w. drop place words ≡ w ∷ drop (suc place) words) named.0 (word-here place words text at), named.1)
