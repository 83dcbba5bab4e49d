-- The pairs of a section, and the sections with other pairs.
use Rattle.std.proofs.Common.{List, []}
use Rattle.crm_parse.specs.declared.owner.SectionWord.{SectionWord}
use Rattle.crm_parse.specs.declared.owner.SectionWord.TheVariants.{Attributes, Params, Meta, Utilization, Operations, Op}
use Rattle.crm_parse.specs.declared.pair.Kv.{Kv}
use Rattle.crm_parse.specs.declared.section.Sections.{Sections}

-- the pairs of a section
abbrev pub pairs_of : SectionWord → Sections → List Kv
pairs_of Attributes s = s.attributes
pairs_of Params s = s.params
pairs_of Meta s = s.meta
pairs_of Utilization s = s.utilization
pairs_of Operations s = s.operations
pairs_of Op s = []

-- the sections with these pairs
abbrev pub put : SectionWord → List Kv → Sections → Sections
put Attributes pairs s = record s { attributes = pairs }
put Params pairs s = record s { params = pairs }
put Meta pairs s = record s { meta = pairs }
put Utilization pairs s = record s { utilization = pairs }
put Operations pairs s = record s { operations = pairs }
put Op pairs s = s
