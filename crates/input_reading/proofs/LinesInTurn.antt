-- Lines that are read one after the other are read just when each says its value, and the first that doesn't is at fault.
use Rattle.std.proofs.Common.{◌≡◌, ℕ, zero, suc, List, [], ◌∷◌, ◌++◌, length, take, Some, Result, Ok, Err, refl, sym, ap, ◌∙◌, subst, arith}
use Rattle.std.specs.List.{slice_get}
use Rattle.std.proofs.lemmas.List.{append_assoc, append-nil}
use Rattle.crm_lex.specs.declared.line.Line.{Line}
use Rattle.faults.specs.declared.fault.Fault.{Fault}
use Rattle.faults.specs.declared.fault.Fault.TheVariants.{At, NoMemory}
use Rattle.faults.specs.Reading.{◌>>=◌, Gives}
use Rattle.faults.proofs.Steps.{bind-ok}
use Rattle.input_reading.specs.Grammar.LinesSaid.{AsLinesSay, EachLineSays, IsFirstRefused}

module _ {A C : Type 0} (Says : List A → Line → A → Type 0) (Refused : List A → Line → C → Type 0) where
  -- each line says its value, from the first on and behind some values
  abbrev pub SaidFrom : List A → List Line → List A → Type 0
  SaidFrom before [] [] = Unit {0}
  SaidFrom before [] (v ∷ vs) = ⊥
  SaidFrom before (l ∷ ls) [] = ⊥
  SaidFrom before (l ∷ ls) (v ∷ vs) = Says before l v × SaidFrom (before ++ v ∷ []) ls vs

  many-from : (before : List A) (ls : List Line) (vs : List A) → SaidFrom before ls vs → length vs ≡ length ls
  many-from before [] [] s = refl
  many-from before [] (v ∷ vs) s = absurd s
  many-from before (l ∷ ls) [] s = absurd s
  many-from before (l ∷ ls) (v ∷ vs) s = ap suc (many-from (before ++ v ∷ []) ls vs s.1)

  each-from : (before : List A) (ls : List Line) (vs : List A) → SaidFrom before ls vs → (k : ℕ) (l : Line) (v : A) → slice_get ls k ≡ Some l → slice_get vs k ≡ Some v
      → Says (before ++ take k vs) l v
  each-from before [] vs s k l v e f = cc
  each-from before (x ∷ ls) [] s k l v e f = absurd s
  each-from before (x ∷ ls) (w ∷ vs) s zero l v e f =
      let line : x ≡ l = cc in
      let value : w ≡ v = cc in
      subst (λ b. Says b l v) (sym (append-nil before)) (subst (λ y. Says before y v) line (subst (λ y. Says before x y) value s.0))
  each-from before (x ∷ ls) (w ∷ vs) s (suc k) l v e f =
      subst (λ b. Says b l v) (append_assoc before (w ∷ []) (take k vs)) (each-from (before ++ w ∷ []) ls vs s.1 k l v e f)

  from-each : (before : List A) (ls : List Line) (vs : List A) → length vs ≡ length ls
      → ((k : ℕ) (l : Line) (v : A) → slice_get ls k ≡ Some l → slice_get vs k ≡ Some v → Says (before ++ take k vs) l v) → SaidFrom before ls vs
  from-each before [] [] many each = tt
  from-each before [] (v ∷ vs) many each = absurd (let f : ⊥ = omega (arith, many) in f)
  from-each before (l ∷ ls) [] many each = absurd (let f : ⊥ = omega (arith, many) in f)
  from-each before (l ∷ ls) (v ∷ vs) many each = (
    subst (λ b. Says b l v) (append-nil before) (each zero l v refl refl),
    from-each (before ++ v ∷ []) ls vs (omega (arith, many))
        (λ k m w e f. subst (λ b. Says b m w) (sym (append_assoc before (v ∷ []) (take k vs))) (each (suc k) m w e f)),
  )

  pub each-said : (ls : List Line) (vs : List A) → SaidFrom [] ls vs → EachLineSays Says ls vs
  each-said ls vs s = record { many = many-from [] ls vs s; each = each-from [] ls vs s }

  pub said-each : (ls : List Line) (vs : List A) → EachLineSays Says ls vs → SaidFrom [] ls vs
  said-each ls vs s = from-each [] ls vs s.many s.each

  -- a line is at fault for this
  abbrev pub IsLineFault : List A → Line → Fault C → Type 0
  IsLineFault before l (At number cause) = (l.line ≡ number) × Refused before l cause
  IsLineFault before l NoMemory = ⊥

  -- and behind some values it is the first of these lines
  record IsFaultFrom (before : List A) (ls : List Line) (fault : Fault C) : Type 0 where
    front : List Line
    line : Line
    behind : List Line
    values : List A
    whole : ls ≡ front ++ line ∷ behind
    said : SaidFrom before front values
    refused : IsLineFault (before ++ values) line fault

  first-refused : (ls : List Line) (number : ℕ) (cause : C) → IsFaultFrom [] ls (At number cause) → IsFirstRefused Says Refused ls number cause
  first-refused ls number cause f = record {
    front = f.front;
    line = f.line;
    behind = f.behind;
    values = f.values;
    whole = f.whole;
    said = each-said f.front f.values f.said;
    place = f.refused.0;
    refused = f.refused.1;
  }

  module _ (step : List A → Line → Result (List A) (Fault C)) (run : List A → List Line → Result (List A) (Fault C))
      (none : (s : List A) → run s [] ≡ Ok s)
      (some : (s : List A) (l : Line) (ls : List Line) → run s (l ∷ ls) ≡ (step s l >>= (λ more. run more ls)))
      (step-said : (s : List A) (l : Line) (more : List A) → step s l ≡ Ok more → (v : A) × (more ≡ s ++ v ∷ []) × Says s l v)
      (step-read : (s : List A) (l : Line) (v : A) → Says s l v → step s l ≡ Ok (s ++ v ∷ []))
      (step-refused : (s : List A) (l : Line) (fault : Fault C) → step s l ≡ Err fault → IsLineFault s l fault)
      (step-refuses : (s : List A) (l : Line) (cause : C) → Refused s l cause → (fault : Fault C) × (step s l ≡ Err fault)) where
    run-said : (s : List A) (ls : List Line) (all : List A) → run s ls ≡ Ok all → (vs : List A) × (all ≡ s ++ vs) × SaidFrom s ls vs
    run-said s [] all e =
        let same : s ≡ all = (let f : Ok s ≡ Ok all = sym (none s) ∙ e in cc) in
        ([], sym same ∙ sym (append-nil s), tt)
    run-said s (l ∷ ls) all e =
        let (more, first, rest) = bind-ok (step s l) (λ more. run more ls) all (sym (some s l ls) ∙ e) in
        let (v, grown, says) = step-said s l more first in
        let (vs, whole, said) = run-said (s ++ v ∷ []) ls all (subst (λ (m : List A). run m ls ≡ Ok all) grown rest) in
        (v ∷ vs, whole ∙ append_assoc s (v ∷ []) vs, (says, said))

    run-read : (s : List A) (ls : List Line) (vs : List A) → SaidFrom s ls vs → run s ls ≡ Ok (s ++ vs)
    run-read s [] [] said = none s ∙ ap Ok (sym (append-nil s))
    run-read s [] (v ∷ vs) said = absurd said
    run-read s (l ∷ ls) [] said = absurd said
    run-read s (l ∷ ls) (v ∷ vs) said =
        some s l ls ∙ (rw (step-read s l v said.0) (run-read (s ++ v ∷ []) ls vs said.1 ∙ ap Ok (append_assoc s (v ∷ []) vs)))

    refused-case : (s : List A) (l : Line) (ls : List Line) (fault : Fault C) (first : Result (List A) (Fault C)) → step s l ≡ first
        → (first >>= (λ more. run more ls)) ≡ Err fault → ((v : A) → run (s ++ v ∷ []) ls ≡ Err fault → IsFaultFrom (s ++ v ∷ []) ls fault) → IsFaultFrom s (l ∷ ls) fault
    refused-case s l ls fault (Ok more) first e later =
        let (v, grown, says) = step-said s l more first in
        let f = later v (subst (λ (m : List A). run m ls ≡ Err fault) grown e) in
        record {
          front = l ∷ f.front;
          line = f.line;
          behind = f.behind;
          values = v ∷ f.values;
          whole = ap (λ ms. l ∷ ms) f.whole;
          said = (says, f.said);
          refused = subst (λ b. IsLineFault b f.line fault) (append_assoc s (v ∷ []) f.values) f.refused;
        }
    refused-case s l ls fault (Err why) first e later =
        let same : why ≡ fault = cc in
        record {
          front = [];
          line = l;
          behind = ls;
          values = [];
          whole = refl;
          said = tt;
          refused = subst (λ b. IsLineFault b l fault) (sym (append-nil s)) (step-refused s l fault (first ∙ ap Err same));
        }

    run-refused : (s : List A) (ls : List Line) (fault : Fault C) → run s ls ≡ Err fault → IsFaultFrom s ls fault
    run-refused s [] fault e = let f : Ok s ≡ Err fault = sym (none s) ∙ e in cc
    run-refused s (l ∷ ls) fault e =
        refused-case s l ls fault (step s l) refl (sym (some s l ls) ∙ e) (λ v f. run-refused (s ++ v ∷ []) ls fault f)

    run-refuses : (s : List A) (front behind : List Line) (l : Line) (vs : List A) (cause : C) → SaidFrom s front vs → Refused (s ++ vs) l cause
        → (fault : Fault C) × (run s (front ++ l ∷ behind) ≡ Err fault)
    run-refuses s [] behind l [] cause said refused =
        let (fault, e) = step-refuses s l cause (subst (λ b. Refused b l cause) (append-nil s) refused) in
        (fault, some s l behind ∙ rw e refl)
    run-refuses s [] behind l (v ∷ vs) cause said refused = absurd said
    run-refuses s (x ∷ front) behind l [] cause said refused = absurd said
    run-refuses s (x ∷ front) behind l (v ∷ vs) cause said refused =
        let (fault, e) = run-refuses (s ++ v ∷ []) front behind l vs cause said.1 (subst (λ b. Refused b l cause) (sym (append_assoc s (v ∷ []) vs)) refused) in
        (fault, some s x (front ++ l ∷ behind) ∙ rw (step-read s x v said.0) e)

    -- all lines are read as what they say
    pub lines-said : (ls : List Line) (all : List A) → run [] ls ≡ Ok all → EachLineSays Says ls all
    lines-said ls all e =
        let (vs, whole, said) = run-said [] ls all e in
        subst (EachLineSays Says ls) (sym whole) (each-said ls vs said)

    pub lines-read : (ls : List Line) (all : List A) → EachLineSays Says ls all → run [] ls ≡ Ok all
    lines-read ls all s = run-read [] ls all (said-each ls all s)

    -- or the first that says nothing is at fault
    pub lines-refused : (ls : List Line) (number : ℕ) (cause : C) → run [] ls ≡ Err (At number cause) → IsFirstRefused Says Refused ls number cause
    lines-refused ls number cause e = first-refused ls number cause (run-refused [] ls (At number cause) e)

    pub lines-refuse : (ls : List Line) (number : ℕ) (cause : C) → IsFirstRefused Says Refused ls number cause → (fault : Fault C) × (run [] ls ≡ Err fault)
    lines-refuse ls number cause f =
        let (fault, e) = run-refuses [] f.front f.behind f.line f.values cause (said-each f.front f.values f.said) f.refused in
        (fault, subst (λ (ms : List Line). run [] ms ≡ Err fault) (sym f.whole) e)

-- what a call returned of lines that are read so
pub as-said : {A B C : Type 0} (view : A → B) (Says : B → Type 0) (Refused : ℕ → C → Type 0) (read : Result B (Fault C)) (given : Result A (Fault C))
    → ((value : B) → read ≡ Ok value → Says value) → ((number : ℕ) (cause : C) → read ≡ Err (At number cause) → Refused number cause)
    → Gives view given read → AsLinesSay (λ x. Says (view x)) Refused given
as-said view Says Refused read (Ok x) said refused e = said (view x) e
as-said view Says Refused read (Err (At number cause)) said refused e = refused number cause e
as-said view Says Refused read (Err NoMemory) said refused e = tt
