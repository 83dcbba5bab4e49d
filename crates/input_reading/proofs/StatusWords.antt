-- The words of states, operations and outcomes are read just as they say them.
use Rattle.std.proofs.Common.{◌≡◌, ℕ, ◌≤◌, ◌==◌, Bool, true, false, List, Some, refl, ◌∙◌, subst, arith}
use Rattle.std.specs.Prelude.{codes}
use Rattle.std.specs.Char.{is_ascii_digit}
use Rattle.std.specs.List.{list_all}
use Rattle.std.specs.Option.{option_map}
use Rattle.std.proofs.lemmas.Bool.{eqb-true, false_from_ne_true, false≢true}
use Rattle.std.proofs.lemmas.Bool.Decides.{nat_tests}
use Rattle.crm_lex.specs.Names.{is}
use Rattle.crm_parse.proofs.Binds.{is-true}
use Rattle.cluster_types.specs.declared.cluster.Cluster.{Cluster}
use Rattle.cluster_types.specs.declared.journal.Outcome.{Outcome}
use Rattle.cluster_types.specs.declared.journal.Outcome.TheVariants.{Code, TimedOut}
use Rattle.cluster_types.specs.declared.leaf.Op.{Op}
use Rattle.cluster_types.specs.declared.leaf.Op.TheVariants.{Monitor}
use Rattle.faults.specs.Digits.{number_up_to}
use Rattle.input_reading.specs.declared.status.line_meaning.NodeWord.{NodeWord}
use Rattle.input_reading.specs.declared.status.line_meaning.NodeWord.TheVariants.{Online, Offline, Unclean}
use Rattle.input_reading.specs.Numbers.{read_exit_code}
use Rattle.input_reading.specs.Status.{history_action, interval_as, may_have, node_word, outcome_of}
use Rattle.input_reading.specs.Grammar.StatusForms.{ActionEnded, SaysOutcome, SaysState, WritesZero, a_demote, a_monitor, a_probe, a_promote, a_start, a_stop, exited, says_offline, says_online, says_unclean, was_killed}
use Rattle.input_reading.specs.Grammar.WordValues.{WritesNumber}
use Rattle.input_reading.proofs.NumbersSaid.{number-read, number-said}
use Rattle.input_reading.proofs.TablesSaid.{IsOperation, ask-some, demote_named, mapped-some, monitor_named, promote_named, says-it, start_named, stop_named}

pub state-said : (word : List ℕ) (state : NodeWord) → node_word word ≡ Some state → SaysState word state
state-said word state e =
    ask-some (is word (codes "online")) Online _ state e (says-it SaysState word (codes "online") Online state says_online) (λ e.
    ask-some (is word (codes "offline")) Offline _ state e (says-it SaysState word (codes "offline") Offline state says_offline) (λ e.
    ask-some (is word (codes "unclean")) Unclean _ state e (says-it SaysState word (codes "unclean") Unclean state says_unclean) (λ e. absurd (cc))))

pub state-read : (word : List ℕ) (state : NodeWord) → SaysState word state → node_word word ≡ Some state
state-read w s says_online = refl
state-read w s says_offline = refl
state-read w s says_unclean = refl

zero-case : (word : List ℕ) (n : ℕ) → number_up_to 0 word ≡ Some n → (n ≡ 0) × WritesZero word
zero-case word n e =
    let w = number-said 0 word n e in
    let none : n ≡ 0 = (let h = w.high in omega (arith, h)) in
    (none, subst (λ m. WritesNumber 0 0 word m) none w)

monitor-case : (c : Cluster) (leaf node : ℕ) (ms : List ℕ) (n : ℕ) (test : Bool) → (n == 0) ≡ test → WritesNumber 0 4294967295 ms n
    → ActionEnded c leaf node (codes "monitor") ms (history_action c Monitor leaf node n)
monitor-case c leaf node ms n true t w =
    let none : n ≡ 0 = eqb-true n 0 t in
    rw t (a_probe ms (record { digits = w.digits; some = w.some; value = w.value ∙ none; low = omega arith; high = omega arith }))
monitor-case c leaf node ms n false t w =
    let low : 1 ≤ n = grind (arith, nat_tests) in
    rw t (a_monitor ms n (record { digits = w.digits; some = w.some; value = w.value; low = low; high = w.high }))

-- the action that ended, by its operation and its milliseconds
pub ended-said : (c : Cluster) (leaf node : ℕ) (word ms : List ℕ) (op : Op) (n : ℕ) → IsOperation word op → may_have c leaf op ≡ true → interval_as op ms ≡ Some n
    → ActionEnded c leaf node word ms (history_action c op leaf node n)
ended-said c leaf node w ms o n start_named may e = a_start ms (zero-case ms n e).1
ended-said c leaf node w ms o n stop_named may e = a_stop ms (zero-case ms n e).1
ended-said c leaf node w ms o n promote_named may e = a_promote ms may (zero-case ms n e).1
ended-said c leaf node w ms o n demote_named may e = a_demote ms may (zero-case ms n e).1
ended-said c leaf node w ms o n monitor_named may e = monitor-case c leaf node ms n (n == 0) refl (number-said 4294967295 ms n e)

exit-said : (word : List ℕ) (outcome : Outcome) → option_map Code (read_exit_code word) ≡ Some outcome → SaysOutcome word outcome
exit-said word outcome e =
    let (code, found, same) = mapped-some Code (read_exit_code word) outcome e in
    subst (SaysOutcome word) same (exited word code (number-said 255 word code found))

pub outcome-said : (word : List ℕ) (outcome : Outcome) → outcome_of word ≡ Some outcome → SaysOutcome word outcome
outcome-said word outcome e =
    ask-some (is word (codes "timeout")) TimedOut _ outcome e (says-it SaysOutcome word (codes "timeout") TimedOut outcome was_killed) (exit-said word outcome)

no_digits : (word : List ℕ) → list_all is_ascii_digit word ≡ true → is word (codes "timeout") ≡ false
no_digits word all = false_from_ne_true (is word (codes "timeout")) (λ h.
    let same : word ≡ codes "timeout" = is-true word (codes "timeout") h in
    false≢true (subst (λ w. list_all is_ascii_digit w ≡ true) same all))

pub outcome-read : (word : List ℕ) (outcome : Outcome) → SaysOutcome word outcome → outcome_of word ≡ Some outcome
outcome-read w o was_killed = refl
outcome-read w o (exited word code n) = rw (no_digits word n.digits, number-read 0 255 word code n) refl
