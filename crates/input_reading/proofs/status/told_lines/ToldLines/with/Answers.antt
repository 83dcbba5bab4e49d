use Rattle.std.proofs.Common.{rules, ◌≡◌, Bool, ◌||◌, List, [], ◌∷◌, ◌++◌, sym, ap, ◌∙◌}
use Rattle.std.specs.List.{list_any}
use Rattle.lemmas.proofs.Searches.{any-more}
use Rattle.input_reading.specs.FirstJournal.{is_again}
use Rattle.input_reading.specs.Inner.Repeats.{AddsKey}
use Rattle.input_reading.proofs.status.told_lines.ToldLines.with.Goals as goal

-- a test that passed somewhere or passes now passes somewhere with one more element
any_or : {X : Type 0} (test : X → Bool) (xs : List X) (x : X) (before : Bool) → before ≡ list_any test xs
    → (before || test x) ≡ list_any test (xs ++ x ∷ [])
any_or test xs x before e = ap (λ b. b || test x) e ∙ sym (any-more test xs x)

pub invariant_of-result : goal.invariant_of-result
invariant_of-result c =
    let more : c.push.new.self ≡ c.self.inside.lines ++ c.args.line ∷ [] = search rules in
    let adds : AddsKey c.self.inside.keys c.add.new.self c.args.line = search rules in
    rw more (λ line. adds line ∙ any_or (λ earlier. is_again earlier line) c.self.inside.lines c.args.line _ (c.self.invariant line))
