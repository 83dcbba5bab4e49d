-- The pairs of a section (crmsh manual, attribute lists).
use Rattle.std.specs.Prelude.{ℕ, ◌==◌, Bool, not, ◌&&◌, ◌||◌, if◌then◌else◌, List, [], ◌∷◌, ◌++◌, length, codes, Some, None, Result, Ok, Err}
use Rattle.std.specs.List.{list_any}
use Rattle.crm_lex.specs.Names.{is}
use Rattle.crm_parse.specs.declared.fault.ParseCause.{ParseCause}
use Rattle.crm_parse.specs.declared.fault.ParseCause.TheVariants.{MissingWord, RepeatedKey, Unsupported}
use Rattle.crm_parse.specs.declared.pair.Kv.{Kv}
use Rattle.crm_parse.specs.declared.place.Place.{Place}
use Rattle.crm_parse.specs.Keys.{accepts, is_clone_meta, is_promoted_max, stray}
use Rattle.crm_parse.specs.Reading.{Words}
use Rattle.faults.specs.Reading.{◌>>=◌}
use Rattle.crm_parse.specs.Texts.{cut_at}

-- the key and the value of a word, before and after its first `=`; the key isn't empty
abbrev pub pair_of : Place → List ℕ → Result (List ℕ × List ℕ) ParseCause
pair_of place word = elim (cut_at 61 word) [
  | None ↦ Err (stray place word)
  | Some pair ↦ if length pair.0 == 0 then Err (stray place word) else Ok pair
]

-- a pair whose value its key takes
unfoldable pub kv_of : Place → List ℕ → Result Kv ParseCause
kv_of place word = do
  pair ← pair_of place word
  taken ← accepts place pair.0 pair.1
  Ok (record { key = pair.0; value = pair.1 })

-- two keys are the same, or are two names of one in a clone
abbrev pub is_same_key : Place → List ℕ → List ℕ → Bool
is_same_key place one other = is one other || is_clone_meta place && is_promoted_max one && is_promoted_max other

-- the key was given by one of the pairs before; `$id` may be given again
abbrev pub repeats : Place → List Kv → List ℕ → Bool
repeats place pairs key = not (is key (codes "$id")) && list_any (λ pair. is_same_key place pair.key key) pairs

-- some pairs, and that of one more word
unfoldable pub with_pair : Place → List Kv → List ℕ → Result (List Kv) ParseCause
with_pair place pairs word = do
  pair ← kv_of place word
  if repeats place pairs pair.key then Err RepeatedKey else Ok (pairs ++ pair ∷ [])

-- some pairs, and those of more words
abbrev pub with_pairs : Place → List Kv → Words → Result (List Kv) ParseCause
with_pairs place pairs [] = Ok pairs
with_pairs place pairs (word ∷ words) = do
  more ← with_pair place pairs word
  with_pairs place more words

-- some pairs, and those of a section, which has one or more; `rule` in the place of the first isn't supported
abbrev pub with_section : Place → List Kv → Words → Result (List Kv) ParseCause
with_section place pairs [] = Err MissingWord
with_section place pairs (word ∷ words) = if is word (codes "rule") then Err Unsupported else with_pairs place pairs (word ∷ words)
