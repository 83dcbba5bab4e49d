-- What a source of answers says, by what it tells of the answers to come (rule of this project).
use Rattle.std.specs.Prelude.{◌≡◌, Bool, true, Option, Some, None, List, [], ◌∷◌}
use Rattle.cluster_types.specs.declared.journal.Answer.{Answer}

-- from the answers to come, what is said next, and the answers that are left then. The answers to come and those left are `Some` list where they are told, and
-- `None` where they aren't; what is said is `Some` answer, or `None` for silence: nothing more is said. `whole` says that the answers that are told are all.
-- Where they are told, the first of them is said; where they are used up and are all, silence comes; where they aren't told, anything may be said
pub data Says (whole : Bool) : Option (List Answer) → Option Answer → Option (List Answer) → Type 0 where
  told : (given : Answer) (rest : List Answer) → Says whole (Some (given ∷ rest)) (Some given) (Some rest)
  used_up : whole ≡ true → Says whole (Some []) None (Some [])
  untold : (said : Option Answer) → Says whole None said None
