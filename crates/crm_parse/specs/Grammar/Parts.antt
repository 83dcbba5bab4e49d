-- The sections of a statement: a section word, and the pairs behind it; and the operations of a primitive, each with its name and its pairs (crmsh manual,
-- node, primitive, group, clone and op).
use Rattle.std.specs.Prelude.{◌≡◌, ◌≢◌, ◌⊎◌, ◌==◌, ℕ, true, false, if◌then◌else◌, List, [], ◌∷◌, ◌++◌, codes, Option, Some, None, Ok}
use Rattle.std.specs.List.{AllByRecursion, flat_map, list_any}
use Rattle.crm_lex.specs.Names.{is, is_name}
use Rattle.crm_parse.specs.declared.owner.Owner.{Owner}
use Rattle.crm_parse.specs.declared.owner.Owner.TheVariants as owner
use Rattle.crm_parse.specs.declared.owner.SectionWord.{SectionWord}
use Rattle.crm_parse.specs.declared.owner.SectionWord.TheVariants.{Attributes, Params, Meta, Utilization, Operations, Op}
use Rattle.crm_parse.specs.declared.pair.Kv.{Kv}
use Rattle.crm_parse.specs.declared.pair.Operation.{Operation}
use Rattle.crm_parse.specs.declared.place.Place.{Place}
use Rattle.crm_parse.specs.declared.place.Place.TheVariants as place
use Rattle.crm_parse.specs.Keys.{accepts}
use Rattle.crm_parse.specs.Monitors.{MayStandTogether, recurring}
use Rattle.crm_parse.specs.Operations.{is_single, op_name}
use Rattle.crm_parse.specs.Pairs.{is_same_key}
use Rattle.crm_parse.specs.Reading.{Words}
use Rattle.crm_parse.specs.Grammar.Phrases.{EachSays, PartsSay}

-- `KEY=VALUE`: the key isn't empty and has no `=` (61), and in this place it takes the value
pub data PairSays (place : Place) : List ℕ → Kv → Type 0 where
  a_pair : (key value : List ℕ) → key ≢ [] → list_any (λ b. b == 61) key ≡ false → accepts place key value ≡ Ok tt
      → PairSays place (key ++ (codes "=" ++ value)) (record { key = key; value = value })

-- of each two elements, the earlier and the later, this holds
abbrev pub EachTwo : {A : Type 0} → (A → A → Type 0) → List A → Type 0
EachTwo Holds [] = Unit {0}
EachTwo Holds (x ∷ xs) = AllByRecursion (λ y. Holds x y) xs × EachTwo Holds xs

-- an earlier and a later pair may stand in one place: their keys differ, and in a clone they aren't `promoted-max` and `master-max`; `$id` may stand again
abbrev pub MayStandBoth : Place → Kv → Kv → Type 0
MayStandBoth place one other = (other.key ≡ codes "$id") ⊎ (is_same_key place one.key other.key ≡ false)

-- a section that was written: a section word but `op`, with its pairs; or an operation
pub data Section : Type 0 where
  pairs_section : SectionWord → List Kv → Section
  operation : Operation → Section

abbrev pub section_text : SectionWord → List ℕ
section_text Attributes = codes "attributes"
section_text Params = codes "params"
section_text Meta = codes "meta"
section_text Utilization = codes "utilization"
section_text Operations = codes "operations"
section_text Op = codes "op"

-- the sections with pairs that a statement may have, and which keys have effect there
abbrev pub section_place : Owner → SectionWord → Option Place
section_place owner.Node Attributes = Some place.NodeAttributes
section_place owner.Node Utilization = Some place.Plain
section_place owner.Primitive Params = Some place.PrimitivePlain
section_place owner.Primitive Meta = Some place.PrimitiveMeta
section_place owner.Primitive Utilization = Some place.PrimitivePlain
section_place owner.Primitive Operations = Some place.PrimitivePlain
section_place owner.Group Params = Some place.Plain
section_place owner.Group Meta = Some place.LeafMeta
section_place owner.Clone Params = Some place.Plain
section_place owner.Clone Meta = Some place.CloneMeta
section_place owner.Ms Params = Some place.Plain
section_place owner.Ms Meta = Some place.MsMeta
section_place _ _ = None

-- a section word, with one pair or more; or the word `op`, a name that isn't `rule`, and one pair or more, in which no key but `$id`
-- stands twice
pub data SectionSays (statement : Owner) : Words → Section → Type 0 where
  a_section : (section : SectionWord) (place : Place) (words : Words) (pairs : List Kv) → section_place statement section ≡ Some place
      → EachSays (PairSays place) words pairs → pairs ≢ [] → SectionSays statement (section_text section ∷ words) (pairs_section section pairs)
  an_operation : (name : List ℕ) (words : Words) (pairs : List Kv) → statement ≡ owner.Primitive → is_name name ≡ true → name ≢ codes "rule"
      → EachSays (PairSays (place.Operation (op_name name))) words pairs → pairs ≢ [] → EachTwo (MayStandBoth (place.Operation (op_name name))) pairs
      → SectionSays statement (codes "op" ∷ name ∷ words) (operation (record { name = name; pairs = pairs }))

-- the pairs of a section, if it has this word; and those of all sections of one word
abbrev pub pairs_if : SectionWord → Section → List Kv
pairs_if section (pairs_section other pairs) = if is (section_text other) (section_text section) then pairs else []
pairs_if section (operation op) = []

abbrev pub pairs_in : SectionWord → List Section → List Kv
pairs_in section sections = flat_map (pairs_if section) sections

-- the operation of a section, if it is one; and all operations
abbrev pub operation_if : Section → List Operation
operation_if (operation op) = op ∷ []
operation_if _ = []

abbrev pub operations_in : List Section → List Operation
operations_in sections = flat_map operation_if sections

-- an earlier and a later operation may be written: they aren't both a `start`, both a `stop`, both a `promote` or both a `demote`
abbrev pub MayBothBeWritten : Operation → Operation → Type 0
MayBothBeWritten one other = is_single (op_name other.name) ≡ true → one.name ≢ other.name

-- of two sections of a node the first is `attributes` and the second `utilization`; those of other statements stand in any order, each as often as needed
abbrev pub MayFollow : Owner → Section → Section → Type 0
MayFollow owner.Node (pairs_section Attributes _) (pairs_section Utilization _) = Unit {0}
MayFollow owner.Node _ _ = ⊥
MayFollow _ _ _ = Unit {0}

-- the sections of a statement: they are written one after another, each in its turn; no key but `$id` stands twice in all sections of one word; `start`,
-- `stop`, `promote` and `demote` stand at most once each; and there are no more than 8 recurring monitors, each of an interval of its own
pub record SectionsSay (statement : Owner) (words : Words) (sections : List Section) : Type 0 where
  pub written : PartsSay (SectionSays statement) words sections
  pub in_turn : EachTwo (MayFollow statement) sections
  pub keys : (section : SectionWord) (place : Place) → section_place statement section ≡ Some place → EachTwo (MayStandBoth place) (pairs_in section sections)
  pub singles : EachTwo MayBothBeWritten (operations_in sections)
  pub monitors : MayStandTogether (recurring (operations_in sections))
