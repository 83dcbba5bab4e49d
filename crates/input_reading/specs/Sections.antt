-- The sections of a text that ends with results or with a trace (rule of this project).
use Rattle.std.specs.Prelude.{List, Result, Ok}
use Rattle.crm_lex.specs.declared.line.Line.{Line}
use Rattle.crm_parse.specs.declared.fault.ParseCause.{ParseCause}
use Rattle.crm_parse.specs.declared.marks.AuditMarks.{AuditMarks}
use Rattle.crm_parse.specs.declared.marks.SectionMarks.{SectionMarks}
use Rattle.crm_parse.specs.Marks.{audit_sections_of}
use Rattle.faults.specs.declared.fault.Fault.{Fault}
use Rattle.faults.specs.Reading.{◌>>=◌}

-- the sections of a text with a trace, where the trace stands in the place of the results
abbrev pub sections_with_trace : List Line → Result SectionMarks (Fault ParseCause)
sections_with_trace lines =
    audit_sections_of lines >>= (λ (marks : AuditMarks). Ok (record { status_at = marks.status_at; results_at = marks.trace_at; end = marks.end }))
