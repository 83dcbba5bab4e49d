-- What hangs on what statements say, and not on their lines.
use Rattle.std.proofs.Common.{◌≡◌, true, is_none, Option, Some, None, List, [], ◌∷◌, map, Ok, refl, sym, ap, ◌∙◌}
use Rattle.std.specs.List.{flat_map}
use Rattle.std.proofs.lemmas.List.Folds.{flat_map-map}
use Rattle.faults.specs.Reading.{unless}
use Rattle.crm_parse.specs.declared.form.Form.{Form}
use Rattle.crm_parse.specs.declared.statement.Statement.{Statement}

abbrev pub forms : List Statement → List Form
forms statements = map (λ (s : Statement). s.form) statements

-- the statement at no line
abbrev pub clear : Statement → Statement
clear s = record { line = 0; form = s.form }

abbrev pub cleared : List Statement → List Statement
cleared statements = map clear statements

-- the lines are of no matter
abbrev pub IsLineless : {X : Type 0} → (List Statement → X) → Type 0
IsLineless f = (statements : List Statement) → f (cleared statements) ≡ f statements

abbrev at_no_line : Form → Statement
at_no_line form = record { line = 0; form = form }

cleared-is : (statements : List Statement) → cleared statements ≡ map at_no_line (forms statements)
cleared-is [] = refl
cleared-is (s ∷ statements) = ap (λ more. clear s ∷ more) (cleared-is statements)

-- it is the same of statements that say the same
pub alike : {X : Type 0} (f : List Statement → X) → IsLineless f → (one other : List Statement) → forms one ≡ forms other → f one ≡ f other
alike f lineless one other same =
    let bare = cleared-is one ∙ (ap (map at_no_line) same ∙ sym (cleared-is other)) in
    sym (lineless one) ∙ (ap f bare ∙ lineless other)

-- what is made of each form
pub each-lineless : {X : Type 0} (g : Form → List X) → IsLineless (λ statements. flat_map (λ (s : Statement). g s.form) statements)
each-lineless g statements = flat_map-map (λ (s : Statement). g s.form) clear statements

-- the answer comes when there is no fault
pub unless-none : {A E : Type 0} (fault : Option E) (answer : A) → is_none fault ≡ true → unless fault answer ≡ Ok answer
unless-none None answer e = refl
unless-none (Some fault) answer e = cc
