-- The orders as the code makes them by its directory.
use Rattle.std.specs.Prelude.{ℕ, Bool, true, if◌then◌else◌, List, [], map}
use Rattle.std.specs.List.{flat_map}
use Rattle.crm_parse.specs.declared.form.Form.{Form}
use Rattle.crm_parse.specs.declared.form.Form.TheVariants as form
use Rattle.crm_parse.specs.declared.form.OrderStep.{OrderStep}
use Rattle.crm_parse.specs.declared.statement.Statement.{Statement}
use Rattle.crm_parse.specs.declared.words.ActionWord.{ActionWord}
use Rattle.crm_parse.specs.declared.words.ActionWord.TheVariants as action
use Rattle.cluster_types.specs.declared.rules.Order.{Order}
use Rattle.cluster_types.specs.declared.rules.OrderKind.{OrderKind}
use Rattle.cluster_types.specs.declared.rules.OrderKind.TheVariants as kind
use Rattle.cluster_model.specs.declared.resolution.directory.Directory.{Directory}
use Rattle.cluster_model.specs.declared.resolution.orders.Point.{Point}
use Rattle.cluster_model.specs.SuccessivePairs.{successive}
use Rattle.cluster_model.specs.Inner.Directories.{first_named, is_local_by, last_named}
use Rattle.cluster_model.specs.Orders.{op_of, kind_of_word, is_down}

-- what comes first: a group has come up with its last member, and has gone down with its first
abbrev pub first_point : Directory → List ℕ → ActionWord → Point
first_point d resource what = record { leaf = if is_down what then first_named d resource else last_named d resource; what = op_of what }

-- what comes then: a group comes up with its first member, and goes down with its last
abbrev pub then_point : Directory → List ℕ → ActionWord → Point
then_point d resource what = record { leaf = if is_down what then last_named d resource else first_named d resource; what = op_of what }

abbrev pub order_of : Directory → List ℕ → OrderKind → Bool → Point → Point → Order
order_of d id kind symmetrical first later = record {
  id = id;
  kind = kind;
  first = first.leaf;
  first_op = first.what;
  then_leaf = later.leaf;
  then_op = later.what;
  symmetrical = symmetrical;
  local = is_local_by d first.leaf later.leaf;
}

-- an order of two resources
abbrev pub step_order : Directory → List ℕ → OrderKind → Bool → OrderStep × OrderStep → Order
step_order d id kind symmetrical pair =
    order_of d id kind symmetrical (first_point d pair.0.resource pair.0.action) (then_point d pair.1.resource pair.1.action)

-- a member of a group starts after the member before it
abbrev pub member_order : Directory → List ℕ → List ℕ × List ℕ → Order
member_order d id pair = order_of d id kind.Mandatory true (first_point d pair.0 action.Start) (then_point d pair.1 action.Start)

-- an order of more resources is one for each two that follow each other
abbrev pub orders_in : Directory → Form → List Order
orders_in d (form.Order id kind steps symmetrical) = map (step_order d id (kind_of_word kind) symmetrical) (successive steps)
orders_in d (form.Group id members description params meta) = map (member_order d id) (successive members)
orders_in d _ = []

-- in the order of the text, those of a group at its statement
abbrev pub orders_of : Directory → List Statement → List Order
orders_of d statements = flat_map (λ s. orders_in d s.form) statements
