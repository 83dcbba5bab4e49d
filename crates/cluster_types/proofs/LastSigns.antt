-- The last sign of a node, where one event more gives one.
use Rattle.std.proofs.Common.{◌≡◌, ℕ, Some, None, List, [], ◌∷◌, ◌++◌, ap, ◌∙◌}
use Rattle.std.proofs.lemmas.List.Elements.{filter_map-append}
use Rattle.std.specs.List.{filter_map, last_or}
use Rattle.lemmas.proofs.Lasts.{last-more}
use Rattle.cluster_types.specs.declared.journal.Event.{Event}
use Rattle.cluster_types.specs.Journals.{NodeSign, last_sign, sign_of}

pub signed : (n : ℕ) (es : List Event) (e : Event) (sign : NodeSign) → sign_of n e ≡ Some sign → last_sign n (es ++ e ∷ []) ≡ Some sign
signed n es e sign s = ap (last_or None) (filter_map-append (sign_of n) es (e ∷ [])) ∙ (rw s (last-more None (filter_map (sign_of n) es) sign))
