-- What comes before what (crmsh manual, order and group; Pacemaker Explained, "Specifying the Order in which Resources Should Start/Stop" and
-- "Groups").
use Rattle.std.specs.Prelude.{ℕ, Bool, true, false, if◌then◌else◌, List, [], map}
use Rattle.crm_parse.specs.declared.form.Form.{Form}
use Rattle.crm_parse.specs.declared.form.Form.TheVariants as form
use Rattle.crm_parse.specs.declared.form.OrderStep.{OrderStep}
use Rattle.crm_parse.specs.declared.statement.Statement.{Statement}
use Rattle.crm_parse.specs.declared.words.ActionWord.{ActionWord}
use Rattle.crm_parse.specs.declared.words.ActionWord.TheVariants as action
use Rattle.crm_parse.specs.declared.words.KindWord.{KindWord}
use Rattle.crm_parse.specs.declared.words.KindWord.TheVariants as word
use Rattle.cluster_types.specs.declared.leaf.Op.{Op}
use Rattle.cluster_types.specs.declared.leaf.Op.TheVariants as op
use Rattle.cluster_types.specs.declared.rules.Order.{Order}
use Rattle.cluster_types.specs.declared.rules.OrderKind.{OrderKind}
use Rattle.cluster_types.specs.declared.rules.OrderKind.TheVariants as kind
use Rattle.cluster_model.specs.SuccessivePairs.{successive}
use Rattle.cluster_model.specs.declared.expansion.leaves.Leaves.{Leaves}
use Rattle.cluster_model.specs.NamesInRules.{first_leaf, is_local, last_leaf}

abbrev pub op_of : ActionWord → Op
op_of action.Start = op.Start
op_of action.Stop = op.Stop
op_of action.Promote = op.Promote
op_of action.Demote = op.Demote

abbrev pub kind_of_word : KindWord → OrderKind
kind_of_word word.Mandatory = kind.Mandatory
kind_of_word word.Optional = kind.Optional
kind_of_word word.Serialize = kind.Serialize

-- the actions that take a resource down
abbrev pub is_down : ActionWord → Bool
is_down action.Stop = true
is_down action.Demote = true
is_down action.Start = false
is_down action.Promote = false

module _ (leaves : Leaves) where
  -- a group has come up with its last member, and has gone down with its first
  abbrev pub leaf_done : List ℕ → ActionWord → ℕ
  leaf_done resource what = if is_down what then first_leaf leaves resource else last_leaf leaves resource

  -- a group comes up with its first member, and goes down with its last
  abbrev pub leaf_begun : List ℕ → ActionWord → ℕ
  leaf_begun resource what = if is_down what then last_leaf leaves resource else first_leaf leaves resource

module _ (leaves : Leaves) (statements : List Statement) where
  -- an order of two resources: the other begins its action once the one has done its own
  abbrev pub order_said : List ℕ → OrderKind → Bool → List ℕ → ActionWord → List ℕ → ActionWord → Order
  order_said id kind symmetrical one what other then_what = record {
    id = id;
    kind = kind;
    first = leaf_done leaves one what;
    first_op = op_of what;
    then_leaf = leaf_begun leaves other then_what;
    then_op = op_of then_what;
    symmetrical = symmetrical;
    local = is_local leaves statements (leaf_done leaves one what) (leaf_begun leaves other then_what);
  }

  -- an order of several resources is one for each two that follow each other. Each member of a group starts after the member before it
  abbrev pub its_orders : Form → List Order
  its_orders (form.Order id kind steps symmetrical) =
      map
      (λ (pair : OrderStep × OrderStep). order_said id (kind_of_word kind) symmetrical pair.0.resource pair.0.action pair.1.resource pair.1.action)
      (successive steps)
  its_orders (form.Group id members description params meta) =
      map (λ (pair : List ℕ × List ℕ). order_said id kind.Mandatory true pair.0 action.Start pair.1 action.Start) (successive members)
  its_orders _ = []
