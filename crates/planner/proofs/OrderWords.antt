-- What is asked of orders, as facts and as tests.
use Rattle.std.proofs.Common.{◌≡◌, ◌&&◌, true, refl}
use Rattle.std.proofs.lemmas.Bool.{and_from}
use Rattle.lemmas.proofs.Booleans.{sooner, later}
use Rattle.cluster_types.specs.declared.rules.Order.{Order}
use Rattle.cluster_types.specs.declared.rules.OrderKind.TheVariants.{Mandatory}
use Rattle.cluster_types.specs.Precedence.{is_mandatory_order, is_giving}
use Rattle.cluster_types.proofs.OpLaws.{of_kind}
use Rattle.planner.specs.CycledCells.{is_cycling}

-- what is known of an order that may have cells cycled
pub record Cycles (o : Order) : Type 0 where
  pub mandatory : o.kind ≡ Mandatory
  pub both_ways : o.symmetrical ≡ true
  pub first_up : is_giving o.first_op ≡ true
  pub then_up : is_giving o.then_op ≡ true

pub cycles_of : (o : Order) → is_cycling o ≡ true → Cycles o
cycles_of o h =
    let three : is_mandatory_order o.kind && o.symmetrical && is_giving o.first_op ≡ true
    = sooner (is_mandatory_order o.kind && o.symmetrical && is_giving o.first_op) (is_giving o.then_op) h in
    let two : is_mandatory_order o.kind && o.symmetrical ≡ true
    = sooner (is_mandatory_order o.kind && o.symmetrical) (is_giving o.first_op) three in
    record {
      mandatory = of_kind o.kind (sooner (is_mandatory_order o.kind) o.symmetrical two);
      both_ways = later (is_mandatory_order o.kind) o.symmetrical two;
      first_up = later (is_mandatory_order o.kind && o.symmetrical) (is_giving o.first_op) three;
      then_up = later (is_mandatory_order o.kind && o.symmetrical && is_giving o.first_op) (is_giving o.then_op) h;
    }

pub cycling_of : (o : Order) → o.kind ≡ Mandatory → o.symmetrical ≡ true → is_giving o.first_op ≡ true → is_giving o.then_op ≡ true → is_cycling o ≡ true
cycling_of o k s f t =
    and_from (is_mandatory_order o.kind && o.symmetrical && is_giving o.first_op) (is_giving o.then_op)
    (and_from (is_mandatory_order o.kind && o.symmetrical) (is_giving o.first_op)
    (and_from (is_mandatory_order o.kind) o.symmetrical (rw k refl) s) f) t
