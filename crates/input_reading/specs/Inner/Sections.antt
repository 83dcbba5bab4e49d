-- The sections of a text, by the last one that it may have.
use Rattle.std.specs.Prelude.{List, Result}
use Rattle.crm_lex.specs.declared.line.Line.{Line}
use Rattle.crm_parse.specs.declared.fault.ParseCause.{ParseCause}
use Rattle.crm_parse.specs.declared.marks.SectionMarks.{SectionMarks}
use Rattle.crm_parse.specs.Marks.{sections_of}
use Rattle.faults.specs.declared.fault.Fault.{Fault}
use Rattle.input_reading.specs.declared.input.sections.LastSection.{LastSection}
use Rattle.input_reading.specs.declared.input.sections.LastSection.TheVariants.{Results, Trace}
use Rattle.input_reading.specs.Sections.{sections_with_trace}

-- the sections of a text, by the last one that it may have
abbrev pub sections_by : LastSection → List Line → Result SectionMarks (Fault ParseCause)
sections_by Results = sections_of
sections_by Trace = sections_with_trace
