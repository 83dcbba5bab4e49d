-- What single words of a line say. Nothing here is a reader: each is a relation between a word and a value (rule of this project).
use Rattle.std.specs.Prelude.{◌≡◌, ℕ, ◌<◌, ◌≤◌, Bool, true, false, List, ◌∷◌, ◌++◌, length, codes}
use Rattle.std.specs.Char.{is_ascii_digit}
use Rattle.std.specs.List.{AllByRecursion, list_all}
use Rattle.std.specs.Str.Parse.{digits_value}
use Rattle.cluster_types.specs.declared.cluster.Cluster.{Cluster}
use Rattle.cluster_types.specs.declared.leaf.Leaf.{Leaf}
use Rattle.cluster_types.specs.declared.node.Node.{Node}

-- decimal digits, one or more, with leading zeros or without, of a value in a range
pub record WritesNumber (least most : ℕ) (word : List ℕ) (n : ℕ) : Type 0 where
  pub digits : list_all is_ascii_digit word ≡ true
  pub some : 0 < length word
  pub value : digits_value 10 word ≡ n
  pub low : least ≤ n
  pub high : n ≤ most

-- the number of an action, a transition or a line, or the interval of a recurring monitor
abbrev pub WritesPositive : List ℕ → ℕ → Type 0
WritesPositive = WritesNumber 1 4294967295

-- an exit code
abbrev pub WritesCode : List ℕ → ℕ → Type 0
WritesCode = WritesNumber 0 255

-- seconds, below 2^40
abbrev pub WritesSeconds : List ℕ → ℕ → Type 0
WritesSeconds = WritesNumber 0 1099511627775

-- the first of a list that has this name, by how many stand before it. In a valid cluster no two nodes have one name, and no two leaves
pub record IsNamed {X : Type 0} (name_of : X → List ℕ) (all : List X) (word : List ℕ) (place : ℕ) : Type 0 where
  pub front : List X
  pub one : X
  pub behind : List X
  pub whole : all ≡ front ++ one ∷ behind
  pub many : length front ≡ place
  pub name : name_of one ≡ word
  pub no_other : AllByRecursion (λ x. name_of x ≡ word → ⊥) front

abbrev pub NamesNode : Cluster → List ℕ → ℕ → Type 0
NamesNode c = IsNamed (λ (node : Node). node.name) c.nodes

abbrev pub NamesLeaf : Cluster → List ℕ → ℕ → Type 0
NamesLeaf c = IsNamed (λ (leaf : Leaf). leaf.name) c.leaves

pub data SaysWhether : List ℕ → Bool → Type 0 where
  says_yes : SaysWhether (codes "yes") true
  says_no : SaysWhether (codes "no") false
