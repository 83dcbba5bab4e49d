-- What holds of the leaves of every configuration.
use Rattle.std.specs.Prelude.{◌≡◌, ◌≢◌, List, map, None, AllPairs}
use Rattle.crm_parse.specs.declared.statement.Statement.{Statement}
use Rattle.cluster_types.specs.declared.leaf.Leaf.{Leaf}
use Rattle.cluster_model.specs.Leaves.{leaves_said}
use Rattle.cluster_model.specs.Expansion.{leaf_fault}
use Rattle.cluster_model.specs.Resources.{Primitive, all_primitives}

-- the leaves are the primitives, in the order of the text
abbrev pub EachPrimitiveIsALeaf : Type 0
EachPrimitiveIsALeaf = (statements : List Statement)
    → map (λ (leaf : Leaf). leaf.name) (leaves_said statements) ≡ map (λ (p : Primitive). p.id) (all_primitives statements)

-- where no statement is at fault, no two leaves have one name
abbrev pub NamesDiffer : Type 0
NamesDiffer = (statements : List Statement) → leaf_fault statements ≡ None → AllPairs (λ (one other : Leaf). one.name ≢ other.name) (leaves_said statements)
