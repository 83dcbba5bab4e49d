-- What is printed reads again as the same statements (rule of this project).
use Rattle.std.specs.Prelude.{◌≡◌, ℕ, nat_le, Bool, true, false, List, map, length, Ok}
use Rattle.std.specs.List.{list_all, list_any}
use Rattle.std.specs.Str.{is_utf8}
use Rattle.crm_lex.specs.declared.line.Line.{Line}
use Rattle.crm_lex.specs.LogicalLines.{is_control}
use Rattle.crm_lex.specs.RawLines.{begins_comment}
use Rattle.crm_lex.specs.Reading.{reads}
use Rattle.crm_parse.specs.declared.form.Form.{Form}
use Rattle.crm_parse.specs.declared.statement.Crm.{Crm}
use Rattle.crm_parse.specs.Statements.{statements_of}
use Rattle.crm_print.specs.Text.{canonical_line}

-- what the statements of a configuration say, without their lines
abbrev pub forms_of : Crm → List Form
forms_of crm = map (λ statement. statement.form) crm.statements

-- no line of the canonical text is longer than a line may be
abbrev pub has_short_lines : Crm → Bool
has_short_lines crm = list_all (λ statement. nat_le (length (canonical_line statement.form)) 1048576) crm.statements

-- a text is read as the same statements, but for their lines
pub record ReadsAs (text : List ℕ) (crm : Crm) : Type 0 where
  pub lines : List Line
  pub again : Crm
  pub are_lines : reads text ≡ Ok lines
  pub are_statements : statements_of lines ≡ Ok again
  pub same : forms_of again ≡ forms_of crm

-- a comment, without its line feed
pub record IsComment (text : List ℕ) : Type 0 where
  pub begins : begins_comment text ≡ true
  pub utf8 : is_utf8 text ≡ true
  pub allowed : list_any is_control text ≡ false
  pub short : nat_le (length text) 1048576 ≡ true
