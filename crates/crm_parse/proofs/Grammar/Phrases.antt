-- Laws of the small grammar.
use Rattle.std.proofs.Common.{ℕ, List, ◌++◌}
use Rattle.crm_parse.specs.Reading.{Words}
use Rattle.crm_parse.specs.Grammar.Phrases.{EachSays, no_word, one_word}

module _ {A : Type 0} (Says : List ℕ → A → Type 0) where
  -- one list after another
  pub each-append : (words more : Words) (values others : List A) → EachSays Says words values → EachSays Says more others
      → EachSays Says (words ++ more) (values ++ others)
  each-append ws more vs others no_word h = h
  each-append ws more vs others (one_word word value words values s e) h = one_word word value (words ++ more) (values ++ others) s (each-append words more values others e h)
