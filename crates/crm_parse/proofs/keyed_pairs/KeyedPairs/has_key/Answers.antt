use Rattle.std.proofs.Common.{◌≡◌, ◌∙◌, true, false}
use Rattle.std.specs.List.{list_any}
use Rattle.crm_lex.specs.Names.{is}
use Rattle.crm_parse.proofs.KeySets.{found_key, other_key}
use Rattle.crm_parse.proofs.keyed_pairs.KeyedPairs.has_key.Goals as goal

pub returns-then-has : goal.returns-then-has
returns-then-has c =
    let found : c.has.result ≡ list_any (λ pair. is pair.key c.args.key.now) c.self.inside.pairs.items = c.has.ensures ∙ c.self.invariant.0 c.args.key.now in
    let is_there : c.has.result ≡ true = cc in
    rw (← c.self.view_is) (found_key c.args.place c.args.key.now c.self.inside.pairs.items _ found is_there)

pub returns-else-has : goal.returns-else-has
returns-else-has c =
    let found : c.has.result ≡ list_any (λ pair. is pair.key c.args.key.now) c.self.inside.pairs.items = c.has.ensures ∙ c.self.invariant.0 c.args.key.now in
    let is_absent : c.has.result ≡ false = cc in
    rw (← c.self.view_is) (c.is_other_name.ensures ∙ other_key c.args.place c.args.key.now c.self.inside.pairs.items _ _ found is_absent c.self.invariant.1)
