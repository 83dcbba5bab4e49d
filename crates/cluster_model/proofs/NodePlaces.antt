-- The node of a location is one of the nodes.
use Rattle.std.proofs.Common.{arith, ◌≡◌, ◌<◌, ◌+◌, ℕ, Bool, true, false, List, [], ◌∷◌, ◌++◌, length, map, is_none, cond, refl, sym, ap, ◌∙◌, inl, inr, ◌⊎◌, Contains}
use Rattle.std.specs.Prelude.{Some}
use Rattle.std.specs.List.{AllByRecursion, flat_map}
use Rattle.std.specs.Option.{option_map_or}
use Rattle.std.proofs.lemmas.Bool.{or_parts}
use Rattle.std.proofs.lemmas.List.{length-map}
use Rattle.crm_lex.specs.Names.{is}
use Rattle.cluster_types.specs.declared.node.Node.{Node}
use Rattle.cluster_types.specs.declared.rules.Location.{Location}
use Rattle.crm_parse.specs.declared.form.Form.{Form}
use Rattle.crm_parse.specs.declared.form.Form.TheVariants as form
use Rattle.crm_parse.specs.declared.statement.Statement.{Statement}
use Rattle.cluster_model.specs.declared.expansion.leaves.Leaves.{Leaves}
use Rattle.cluster_model.specs.Settings.{node_names_in}
use Rattle.cluster_model.specs.Inner.Tables.{lookup}
use Rattle.lemmas.proofs.Members.{head_or_rest, in_none}
use Rattle.cluster_model.specs.declared.resolution.directory.Directory.{Directory}
use Rattle.cluster_model.specs.Inner.Directories.{directory_of, first_named, is_unknown, is_unknown_node, node_named, nodes_of, numbered_from}
use Rattle.cluster_model.specs.Inner.Locations.{location_in}
use Rattle.cluster_model.specs.Locations.{role_written}
use Rattle.cluster_model.specs.Nodes.{node_in, nodes_by}
use Rattle.cluster_model.proofs.Sound.{IsSound}

-- each name of a table stands for a number below this one
abbrev pub AreBelow : ℕ → List (List ℕ × ℕ) → Type 0
AreBelow n table = AllByRecursion (λ (row : List ℕ × ℕ). row.1 < n) table

-- numbers that are counted on from one are below the one behind them
numbered-below : (k n : ℕ) (names : List (List ℕ)) → k + length names ≡ n → AreBelow n (numbered_from k names)
numbered-below k n [] e = tt
numbered-below k n (name ∷ names) e = (omega arith, numbered-below (k + 1) n names (omega arith))

found-below : (n : ℕ) (table : List (List ℕ × ℕ)) (name : List ℕ) → AreBelow n table → is_none (lookup table name) ≡ false
    → option_map_or (λ k. k) (lookup table name) 0 < n
found-below n [] name t h = cc
found-below n (row ∷ table) name t h = on (is name row.0) h (found-below n table name t.1) where
  on : (b : Bool) → is_none (cond b (Some row.1) (lookup table name)) ≡ false
      → (is_none (lookup table name) ≡ false → option_map_or (λ k. k) (lookup table name) 0 < n)
      → option_map_or (λ k. k) (cond b (Some row.1) (lookup table name)) 0 < n
  on true h next = t.0
  on false h next = next h

-- the nodes of statements have the names that stand in them

names_in : (f : Form) (nodes : List Node) (names : List (List ℕ)) → map (λ node. node.name) nodes ≡ names
    → map (λ node. node.name) (node_in f ++ nodes) ≡ node_names_in f ++ names
names_in (form.Node id name attributes utilization) nodes names e = ap (λ rest. name ∷ rest) e
names_in (form.Primitive id agent description params meta utilization operations ops) nodes names e = e
names_in (form.Group id members description params meta) nodes names e = e
names_in (form.Cloned id child ms description params meta) nodes names e = e
names_in (form.Location id resource role discovery score node) nodes names e = e
names_in (form.RuledLocation id resource role discovery rules) nodes names e = e
names_in (form.Colocation id score dependent primary) nodes names e = e
names_in (form.Order id kind steps symmetrical) nodes names e = e
names_in (form.Settings what set pairs) nodes names e = e
names_in (form.Kept words) nodes names e = e

pub node_names : (statements : List Statement) → map (λ node. node.name) (nodes_by statements) ≡ flat_map (λ s. node_names_in s.form) statements
node_names [] = refl
node_names (s ∷ statements) = names_in s.form (nodes_by statements) (flat_map (λ s. node_names_in s.form) statements) (node_names statements)

as-many-nodes : (statements : List Statement) → length (flat_map (λ s. node_names_in s.form) statements) ≡ length (nodes_by statements)
as-many-nodes statements = sym (ap length (node_names statements)) ∙ length-map (nodes_by statements) (λ node. node.name)

nodes-below : (statements : List Statement) → AreBelow (length (nodes_by statements)) (nodes_of statements)
nodes-below statements =
    let many = as-many-nodes statements in
    numbered-below 0 (length (nodes_by statements)) (flat_map (λ s. node_names_in s.form) statements) (omega (arith, many))

pub node-below : (leaves : Leaves) (statements : List Statement) (name : List ℕ) → is_unknown_node (directory_of leaves statements) name ≡ false
    → node_named (directory_of leaves statements) name < length (nodes_by statements)
unfolding directory_of
node-below leaves statements name h = found-below (length (nodes_by statements)) (nodes_of statements) name (nodes-below statements) h

location-same : (n : ℕ) (one other : Location) → one ≡ other → one.node < n → other.node < n
location-same n one other e h = rw e at h

-- the node of a location that isn't at fault
pub location-node : (leaves : Leaves) (statements : List Statement) (f : Form) → IsSound (directory_of leaves statements) f
    → (l : Location) → Contains (location_in (directory_of leaves statements) f) l → l.node < length (nodes_by statements)
location-node leaves statements (form.Node id name attributes utilization) s l k = absurd (in_none l k)
location-node leaves statements (form.Primitive id agent description params meta utilization operations ops) s l k = absurd (in_none l k)
location-node leaves statements (form.Group id members description params meta) s l k = absurd (in_none l k)
location-node leaves statements (form.Cloned id child ms description params meta) s l k = absurd (in_none l k)
location-node leaves statements (form.Location id resource written discovery score node) s l k = on (head_or_rest one [] l k) where
  d : Directory
  d = directory_of leaves statements

  one : Location
  one = record { id = id; leaf = first_named d resource; role = role_written written; score = score; node = node_named d node }

  on : (one ≡ l) ⊎ Contains [] l → l.node < length (nodes_by statements)
  on (inl same) =
      location-same (length (nodes_by statements)) one l same
      (node-below leaves statements node (or_parts (is_unknown d resource) (is_unknown_node d node) s.known).1)
  on (inr r) = absurd (in_none l r)
location-node leaves statements (form.RuledLocation id resource written discovery rules) s l k = absurd (in_none l k)
location-node leaves statements (form.Colocation id score dependent primary) s l k = absurd (in_none l k)
location-node leaves statements (form.Order id kind steps symmetrical) s l k = absurd (in_none l k)
location-node leaves statements (form.Settings what set pairs) s l k = absurd (in_none l k)
location-node leaves statements (form.Kept words) s l k = absurd (in_none l k)
