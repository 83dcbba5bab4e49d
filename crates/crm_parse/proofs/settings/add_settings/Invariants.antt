use Rattle.std.proofs.Common.{◌≡◌, drop}
use Rattle.crm_parse.specs.Settings.{with_settings}
use Rattle.crm_parse.proofs.settings.add_settings.Given as goal

abbrev pub invariant-loop-word : goal.invariant-loop-word
invariant-loop-word l =
    with_settings l.what l.before l.fn.pairs l.words ≡ with_settings l.what l.before l.pairs (drop l.word-index l.words)
