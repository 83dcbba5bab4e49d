-- What holds of the leaves of a configuration.
use Rattle.std.proofs.Common.{◌≡◌, List, [], ◌∷◌, map, refl, ap}
use Rattle.crm_parse.specs.declared.statement.Statement.{Statement}
use Rattle.cluster_types.specs.declared.leaf.Leaf.{Leaf}
use Rattle.cluster_model.specs.Laws.{EachPrimitiveIsALeaf}
use Rattle.cluster_model.specs.Leaves.{leaf_said, leaves_said}
use Rattle.cluster_model.specs.Resources.{Primitive, all_primitives}

-- the leaf of a primitive has its id
names_are : (statements : List Statement) (some : List Primitive)
    → map (λ (leaf : Leaf). leaf.name) (map (leaf_said statements) some) ≡ map (λ (p : Primitive). p.id) some
unfolding leaf_said
names_are statements [] = refl
names_are statements (p ∷ some) = ap (λ names. p.id ∷ names) (names_are statements some)

-- each primitive is one leaf
pub each_primitive : EachPrimitiveIsALeaf
unfolding leaves_said
each_primitive statements = names_are statements (all_primitives statements)
