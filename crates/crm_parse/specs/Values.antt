-- What the words of a value stand for.
use Rattle.std.specs.Prelude.{ℕ, ◌*◌, ◌||◌, nat_le, Bool, true, false, if◌then◌else◌, List, take, drop, Option, Some, None, codes}
use Rattle.std.specs.Char.{is_ascii_digit}
use Rattle.std.specs.List.{prefix_len}
use Rattle.std.specs.Option.{option_and_then}
use Rattle.std.specs.Str.{str_eq_ignore_ascii_case}
use Rattle.crm_lex.specs.Names.{is}
use Rattle.faults.specs.Digits.{number_up_to}
use Rattle.crm_parse.specs.declared.words.ActionWord.{ActionWord}
use Rattle.crm_parse.specs.declared.words.ActionWord.TheVariants as action
use Rattle.crm_parse.specs.declared.words.KindWord.{KindWord}
use Rattle.crm_parse.specs.declared.words.KindWord.TheVariants as kind
use Rattle.crm_parse.specs.declared.values.RoleName.{RoleName}
use Rattle.crm_parse.specs.declared.values.RoleName.TheVariants as role

-- the word is this text, in upper or lower case (that the case doesn't matter is a rule of this project)
abbrev pub says : List ℕ → List ℕ → Bool
says word text = str_eq_ignore_ascii_case word text

-- yes or no (Pacemaker Explained, boolean values of options)
abbrev pub bool_of : List ℕ → Option Bool
bool_of word =
    if says word (codes "true") || says word (codes "on") || says word (codes "yes") || says word (codes "y") || says word (codes "1")
    then Some true
    else if says word (codes "false") || says word (codes "off") || says word (codes "no") || says word (codes "n") || says word (codes "0")
    then Some false
    else None

-- a role, by its name or its former one (Pacemaker Explained, "Promotable clones" and target-role)
abbrev pub role_of : List ℕ → Option RoleName
role_of word =
    if says word (codes "Started") then Some role.Started
    else if says word (codes "Promoted") || says word (codes "Master") then Some role.Promoted
    else if says word (codes "Unpromoted") || says word (codes "Slave") then Some role.Unpromoted
    else if says word (codes "Stopped") then Some role.Stopped
    else None

-- the kind of an order (crmsh manual, order)
abbrev pub kind_of : List ℕ → Option KindWord
kind_of word =
    if says word (codes "Mandatory") then Some kind.Mandatory
    else if says word (codes "Optional") then Some kind.Optional
    else if says word (codes "Serialize") then Some kind.Serialize
    else None

-- an action of an order, in lower case (crmsh manual, order)
abbrev pub action_of : List ℕ → Option ActionWord
action_of word =
    if is word (codes "start") then Some action.Start
    else if is word (codes "stop") then Some action.Stop
    else if is word (codes "promote") then Some action.Promote
    else if is word (codes "demote") then Some action.Demote
    else None

-- a count: digits of a value up to 1,000,000 (rule of this project)
abbrev pub count_of : List ℕ → Option ℕ
count_of word = number_up_to 1000000 word

-- the milliseconds of a unit of time; without a unit a time is in seconds (crmsh manual, time values; Pacemaker Explained, time units)
abbrev pub unit_of : List ℕ → Option ℕ
unit_of word =
    if is word (codes "") || is word (codes "s") || is word (codes "sec") then Some 1000
    else if is word (codes "ms") || is word (codes "msec") then Some 1
    else if is word (codes "m") || is word (codes "min") then Some 60000
    else if is word (codes "h") || is word (codes "hr") then Some 3600000
    else None

-- how many digits the word begins with
abbrev pub digits_before : List ℕ → ℕ
digits_before word = prefix_len is_ascii_digit word

-- a number that is at most as great
abbrev pub up_to : ℕ → ℕ → Option ℕ
up_to most n = if nat_le n most then Some n else None

-- a time in milliseconds: digits and a unit, up to 4,294,967,295 ms (that bound is a rule of this project)
abbrev pub time_of : List ℕ → Option ℕ
time_of word =
    option_and_then (λ number. option_and_then (λ unit. up_to 4294967295 (number * unit)) (unit_of (drop (digits_before word) word)))
    (number_up_to 4294967295 (take (digits_before word) word))
