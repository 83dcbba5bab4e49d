-- The operations of a primitive (crmsh manual, op; which of them have effect, and how often each may stand, is a rule of this project).
use Rattle.std.specs.Prelude.{ℕ, ◌==◌, nat_le, nat_lt, Bool, true, false, not, ◌&&◌, if◌then◌else◌, List, [], ◌∷◌, length, filter, find, codes, unwrap_or, Option, Some, None, Result, Ok, Err}
use Rattle.std.specs.List.{list_any}
use Rattle.std.specs.Option.{option_and_then, option_map, option_map_or}
use Rattle.crm_lex.specs.Names.{is}
use Rattle.crm_parse.specs.declared.fault.ParseCause.{ParseCause}
use Rattle.crm_parse.specs.declared.fault.ParseCause.TheVariants.{MissingWord, RepeatedKey, Unsupported}
use Rattle.crm_parse.specs.declared.pair.Kv.{Kv}
use Rattle.crm_parse.specs.declared.pair.Operation.{Operation}
use Rattle.crm_parse.specs.declared.place.OpName.{OpName}
use Rattle.crm_parse.specs.declared.place.OpName.TheVariants as op
use Rattle.crm_parse.specs.declared.place.Place.{Place}
use Rattle.crm_parse.specs.declared.place.Place.TheVariants as place
use Rattle.crm_parse.specs.Keys.{ValueTaken, is_monitor_name, when}
use Rattle.crm_parse.specs.Pairs.{with_pair}
use Rattle.crm_parse.specs.Reading.{Words, name_of}
use Rattle.faults.specs.Reading.{◌>>=◌}
use Rattle.crm_parse.specs.Texts.{after, cut_at}
use Rattle.crm_parse.specs.Values.{bool_of, time_of}

-- the operation of a name
abbrev pub op_name : List ℕ → OpName
op_name name =
    if is name (codes "start") then op.Start
    else if is name (codes "stop") then op.Stop
    else if is name (codes "promote") then op.Promote
    else if is name (codes "demote") then op.Demote
    else if is name (codes "monitor") then op.Monitor
    else op.Other

-- an operation that may stand once
abbrev pub is_single : OpName → Bool
is_single op.Monitor = false
is_single op.Other = false
is_single _ = true

-- an operation of this name is there
abbrev pub has_op : List Operation → List ℕ → Bool
has_op ops name = list_any (λ operation. is operation.name name) ops

-- the name of an operation, after some operations
unfoldable pub new_name : List Operation → List ℕ → Result (List ℕ) ParseCause
new_name ops word =
    if is word (codes "rule") then Err Unsupported else do
      name ← name_of word
      if is_single (op_name name) && has_op ops name then Err RepeatedKey else Ok name

-- the value of the first pair of a key
abbrev pub value_of : List ℕ → List Kv → Option (List ℕ)
value_of key pairs = option_map (λ pair. pair.value) (find (λ pair. is pair.key key) pairs)

-- the word says no
abbrev pub says_no : List ℕ → Bool
says_no word = option_map_or (λ yes. not yes) (bool_of word) false

-- the milliseconds between two runs of an operation, and 0 where it doesn't recur
abbrev pub interval_of : List Kv → ℕ
interval_of pairs = unwrap_or (option_and_then time_of (value_of (codes "interval") pairs)) 0

-- a recurring monitor: it isn't switched off, and its interval is above 0
abbrev pub recurs : Operation → Bool
recurs operation =
    is operation.name (codes "monitor")
    && not (option_map_or says_no (value_of (codes "enabled") operation.pairs) false)
    && nat_lt 0 (interval_of operation.pairs)

-- there is room for one more recurring monitor: no more than 8 of them, each of an interval of its own
abbrev pub has_monitor_room : List Operation → ℕ → ValueTaken
has_monitor_room ops interval =
    if interval == 0 then Ok tt
    else if nat_le 8 (length (filter recurs ops)) then Err Unsupported
    else when (not (list_any (λ operation. recurs operation && (interval_of operation.pairs == interval)) ops)) RepeatedKey

-- the pairs of an operation switch it off, up to a word that is no pair
abbrev pub is_off : Words → Bool
is_off [] = false
is_off (word ∷ words) = elim (cut_at 61 word) [
  | None ↦ false
  | Some pair ↦
      if length pair.0 == 0 then false else if is pair.0 (codes "enabled") then says_no pair.1 else is_off words
]

-- the interval that a word says, and 0 where it says none
abbrev pub interval_in : List ℕ → ℕ
interval_in word = unwrap_or (option_and_then time_of (after (codes "interval=") word)) 0

-- some pairs of an operation, and that of one more word; one that recurs has to find room among the operations before it
unfoldable pub with_op_pair : List Operation → Bool → Place → List Kv → List ℕ → Result (List Kv) ParseCause
with_op_pair ops recurring place pairs word = do
  more ← with_pair place pairs word
  room ← has_monitor_room ops (if recurring then interval_in word else 0)
  Ok more

abbrev pub with_op_pairs : List Operation → Bool → Place → List Kv → Words → Result (List Kv) ParseCause
with_op_pairs ops recurring place pairs [] = Ok pairs
with_op_pairs ops recurring place pairs (word ∷ words) = do
  more ← with_op_pair ops recurring place pairs word
  with_op_pairs ops recurring place more words

-- the pairs of an operation, one or more
abbrev pub op_pairs : List Operation → OpName → Words → Result (List Kv) ParseCause
op_pairs ops name [] = Err MissingWord
op_pairs ops name (word ∷ words) =
    with_op_pairs ops (is_monitor_name name && not (is_off (word ∷ words))) (place.Operation name) [] (word ∷ words)

-- an operation after some operations: its name, and its pairs
unfoldable pub operation_of : List Operation → Words → Result Operation ParseCause
operation_of ops [] = Err MissingWord
operation_of ops (word ∷ words) = do
  name ← new_name ops word
  pairs ← op_pairs ops (op_name name) words
  Ok (record { name = name; pairs = pairs })
