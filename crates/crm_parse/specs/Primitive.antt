-- `primitive ID AGENT [description=TEXT]`, and its sections (crmsh manual, primitive).
use Rattle.std.specs.Prelude.{ℕ, ◌==◌, ◌&&◌, not, nat_le, Bool, false, if◌then◌else◌, List, [], ◌∷◌, ◌++◌, length, codes, Result, Ok, Err}
use Rattle.std.specs.List.{list_all, slice_split}
use Rattle.crm_parse.specs.declared.fault.ParseCause.{ParseCause}
use Rattle.crm_parse.specs.declared.fault.ParseCause.TheVariants.{BadValue, Unsupported}
use Rattle.crm_parse.specs.declared.form.Form.{Form}
use Rattle.crm_parse.specs.declared.form.Form.TheVariants as form
use Rattle.crm_parse.specs.declared.owner.Owner.TheVariants as owner
use Rattle.crm_parse.specs.Reading.{Words, description_at, name_at, next_word_in}
use Rattle.faults.specs.Reading.{◌>>=◌}
use Rattle.crm_parse.specs.Sections.{sections_at}

-- the parts of a word round its colons
abbrev pub colon_parts : List ℕ → List (List ℕ)
colon_parts word = slice_split (λ b. b == 58) word

-- up to three parts joined by colons, none of them empty
abbrev pub is_agent : List ℕ → Bool
is_agent word = nat_le (length (colon_parts word)) 3 && list_all (λ part. not (length part == 0)) (colon_parts word)

-- an agent with all its parts: one part alone is an agent of `ocf:heartbeat` (crmsh manual, primitive)
abbrev pub whole_agent : List ℕ → List ℕ
whole_agent word = if length (colon_parts word) == 1 then codes "ocf:heartbeat:" ++ word else word

-- the word begins with the `@` of a template
abbrev pub is_template : List ℕ → Bool
is_template [] = false
is_template (b ∷ bs) = b == 64

abbrev pub agent_of : List ℕ → Result (List ℕ) ParseCause
agent_of word = if is_template word then Err Unsupported else if is_agent word then Ok (whole_agent word) else Err BadValue

unfoldable pub primitive_at : Words → Result Form ParseCause
primitive_at words = do
  id ← name_at words
  word ← next_word_in id.1
  agent ← agent_of word.0
  description ← description_at word.1
  sections ← sections_at owner.Primitive description.1
  Ok (form.Primitive id.0 agent description.0 sections.params sections.meta sections.utilization sections.operations sections.ops)
