-- How the first fault is looked for: causes other than loops first, then a loop among the statements before. A reader of the promises may pass over it, for
-- what is found is the fault that `resolution_of` says.
use Rattle.std.specs.Prelude.{ℕ, suc, if◌then◌else◌, List, [], ◌∷◌, ◌++◌, sum_by, Option, Some, None}
use Rattle.crm_parse.specs.declared.statement.Statement.{Statement}
use Rattle.loops.specs.FirstLoops.{is_closed_by}
use Rattle.cluster_model.specs.declared.resolution.fault.ModelCause.{ModelCause}
use Rattle.cluster_model.specs.declared.resolution.fault.ModelCause.TheVariants.{ColocationLoop, OrderLoop}
use Rattle.cluster_model.specs.Counting.{colocation_count, order_count}

-- none, where there is a cause, and else one more than come later
abbrev pub count_on : Option ModelCause → ℕ → ℕ
count_on (Some cause) later = 0
count_on None later = suc later

-- how many statements stand before the first with a cause, where these stand before
abbrev pub sound_count : (List Statement → Statement → Option ModelCause) → List Statement → List Statement → ℕ
sound_count cause_after before [] = 0
sound_count cause_after before (s ∷ statements) = count_on (cause_after before s) (sound_count cause_after (before ++ s ∷ []) statements)

-- how many colocations and how many orders some statements have
abbrev pub colocations_in_all : List Statement → ℕ
colocations_in_all statements = sum_by (λ s. colocation_count s.form) statements

abbrev pub orders_in_all : List Statement → ℕ
orders_in_all statements = sum_by (λ s. order_count s.form) statements

-- the cause when the first loops are closed by the colocation at one place and the order at the other, and so many rules were added
abbrev pub closed_by : Option ℕ → Option ℕ → ℕ → ℕ → Option ModelCause
closed_by colocation order colocations orders =
    if is_closed_by colocation colocations then Some ColocationLoop else if is_closed_by order orders then Some OrderLoop else None

-- the cause of a statement with which a first loop is closed
abbrev pub closing_cause : Option ℕ → Option ℕ → List Statement → Statement → Option ModelCause
closing_cause colocation order before s =
    closed_by colocation order (colocations_in_all (before ++ s ∷ [])) (orders_in_all (before ++ s ∷ []))
