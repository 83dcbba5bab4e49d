use Rattle.std.proofs.Common.{◌≡◌, ◌||◌, ℕ, List, take}
use Rattle.std.specs.List.{list_any}
use Rattle.crm_lex.specs.Names.{is}
use Rattle.crm_lex.specs.NameSets.{has_name}
use Rattle.crm_parse.proofs.setting_keys.add_keys.Given as goal

abbrev pub invariant-loop-pair : goal.invariant-loop-pair
invariant-loop-pair l =
    (key : List ℕ) → has_name l.keys key ≡ (has_name l.fn.keys key || list_any (λ pair. is pair.key key) (take l.pair-index l.pairs))
