-- Steps and their positions.
use Rattle.std.proofs.Common.{arith, ◌≡◌, ◌≢◌, ◌<◌, ◌+◌, ◌*◌, ◌==◌, ℕ, Bool, true, false, refl, ◌∙◌, ap}
use Rattle.std.proofs.lemmas.Bool.{ne_eqb, and_from}
use Rattle.lemmas.proofs.Booleans.{sooner, later}
use Rattle.cluster_types.specs.declared.leaf.Op.{Op}
use Rattle.cluster_types.specs.declared.leaf.Op.TheVariants.{Start, Stop, Promote, Demote, Monitor}
use Rattle.cluster_types.specs.Numbers.{LeafStep, is_same_step}
use Rattle.cluster_types.specs.Precedence.{inverse, is_same_op}
use Rattle.cluster_types.proofs.OpLaws.{op_itself}
use Rattle.loops.specs.Inner.Edges.{op_number, step_position}

-- the step is of a leaf that is there, and is no monitor
pub record Stands (leaves : ℕ) (s : LeafStep) : Type 0 where
  pub within : s.leaf < leaves
  pub changes : s.what ≢ Monitor

-- positions of steps, and of monitors behind them
abbrev pub spot_of : ℕ → Op → ℕ → ℕ
spot_of leaves Monitor r = 4 * (leaves + r)
spot_of leaves o r = 4 * r + op_number o

abbrev pub spot : ℕ → LeafStep → ℕ
spot leaves s = spot_of leaves s.what s.leaf

pub same_op : (o p : Op) → is_same_op o p ≡ true → o ≡ p
same_op Start Start h = refl
same_op Start Stop h = cc
same_op Start Promote h = cc
same_op Start Demote h = cc
same_op Start Monitor h = cc
same_op Stop Start h = cc
same_op Stop Stop h = refl
same_op Stop Promote h = cc
same_op Stop Demote h = cc
same_op Stop Monitor h = cc
same_op Promote Start h = cc
same_op Promote Stop h = cc
same_op Promote Promote h = refl
same_op Promote Demote h = cc
same_op Promote Monitor h = cc
same_op Demote Start h = cc
same_op Demote Stop h = cc
same_op Demote Promote h = cc
same_op Demote Demote h = refl
same_op Demote Monitor h = cc
same_op Monitor Start h = cc
same_op Monitor Stop h = cc
same_op Monitor Promote h = cc
same_op Monitor Demote h = cc
same_op Monitor Monitor h = refl

-- where the words and the leaves are alike
pub record Alike (o p : Op) (r s : ℕ) : Type 0 where
  pub op : o ≡ p
  pub leaf : r ≡ s

same_spot_of : (n : ℕ) (o p : Op) (r s : ℕ) → o ≢ Monitor → r < n → spot_of n o r ≡ spot_of n p s → Alike o p r s
same_spot_of n Start Start r s ne lt h = record { op = refl; leaf = omega arith }
same_spot_of n Start Stop r s ne lt h = absurd (let f : ⊥ = omega arith in f)
same_spot_of n Start Promote r s ne lt h = absurd (let f : ⊥ = omega arith in f)
same_spot_of n Start Demote r s ne lt h = absurd (let f : ⊥ = omega arith in f)
same_spot_of n Start Monitor r s ne lt h = absurd (let f : ⊥ = omega arith in f)
same_spot_of n Stop Start r s ne lt h = absurd (let f : ⊥ = omega arith in f)
same_spot_of n Stop Stop r s ne lt h = record { op = refl; leaf = omega arith }
same_spot_of n Stop Promote r s ne lt h = absurd (let f : ⊥ = omega arith in f)
same_spot_of n Stop Demote r s ne lt h = absurd (let f : ⊥ = omega arith in f)
same_spot_of n Stop Monitor r s ne lt h = absurd (let f : ⊥ = omega arith in f)
same_spot_of n Promote Start r s ne lt h = absurd (let f : ⊥ = omega arith in f)
same_spot_of n Promote Stop r s ne lt h = absurd (let f : ⊥ = omega arith in f)
same_spot_of n Promote Promote r s ne lt h = record { op = refl; leaf = omega arith }
same_spot_of n Promote Demote r s ne lt h = absurd (let f : ⊥ = omega arith in f)
same_spot_of n Promote Monitor r s ne lt h = absurd (let f : ⊥ = omega arith in f)
same_spot_of n Demote Start r s ne lt h = absurd (let f : ⊥ = omega arith in f)
same_spot_of n Demote Stop r s ne lt h = absurd (let f : ⊥ = omega arith in f)
same_spot_of n Demote Promote r s ne lt h = absurd (let f : ⊥ = omega arith in f)
same_spot_of n Demote Demote r s ne lt h = record { op = refl; leaf = omega arith }
same_spot_of n Demote Monitor r s ne lt h = absurd (let f : ⊥ = omega arith in f)
same_spot_of n Monitor Start r s ne lt h = absurd (ne refl)
same_spot_of n Monitor Stop r s ne lt h = absurd (ne refl)
same_spot_of n Monitor Promote r s ne lt h = absurd (ne refl)
same_spot_of n Monitor Demote r s ne lt h = absurd (ne refl)
same_spot_of n Monitor Monitor r s ne lt h = absurd (ne refl)

step_is : (a b : LeafStep) → a.what ≡ b.what → a.leaf ≡ b.leaf → a ≡ b
step_is a b w l = ap (λ (o : Op). record a { what = o }) w ∙ ap (λ (r : ℕ). record b { leaf = r }) l

pub same_step : (a b : LeafStep) → is_same_step a b ≡ true → a ≡ b
same_step a b h =
    let leaves : (a.leaf == b.leaf) ≡ true = later (is_same_op a.what b.what) _ h in
    step_is a b (same_op a.what b.what (sooner (is_same_op a.what b.what) _ h)) (grind arith)

pub step_itself : (a : LeafStep) → is_same_step a a ≡ true
step_itself a = and_from (is_same_op a.what a.what) _ (op_itself a.what) (grind arith)

pub same_spot : (n : ℕ) (a b : LeafStep) → Stands n a → spot n a ≡ spot n b → a ≡ b
same_spot n a b s h = let k = same_spot_of n a.what b.what a.leaf b.leaf s.changes s.within h in step_is a b k.op k.leaf

pub steps_alike : (n : ℕ) (a b : LeafStep) → Stands n a → is_same_step a b ≡ (spot n a == spot n b)
steps_alike n a b s = on (is_same_step a b) refl where
  on : (t : Bool) → is_same_step a b ≡ t → is_same_step a b ≡ (spot n a == spot n b)
  on true h = let p : spot n a ≡ spot n b = ap (spot n) (same_step a b h) in grind arith
  on false h =
      let differ : (spot n a == spot n b) ≡ false = ne_eqb _ _ (λ p. let e = same_spot n a b s p in let t = step_itself a in cc) in
      cc

position_of : (n : ℕ) (o : Op) (r : ℕ) → o ≢ Monitor → 4 * r + op_number o ≡ spot_of n o r
position_of n Start r ne = refl
position_of n Stop r ne = refl
position_of n Promote r ne = refl
position_of n Demote r ne = refl
position_of n Monitor r ne = absurd (ne refl)

pub position_is : (n : ℕ) (s : LeafStep) → Stands n s → step_position s ≡ spot n s
position_is n s t = position_of n s.what s.leaf t.changes

number_below : (o : Op) → op_number o < 4
number_below Start = omega arith
number_below Stop = omega arith
number_below Promote = omega arith
number_below Demote = omega arith
number_below Monitor = omega arith

pub position_within : (n : ℕ) (s : LeafStep) → Stands n s → step_position s < 4 * n
position_within n s t = let b = number_below s.what in let w = t.within in omega arith

pub inverse_changes : (o : Op) → o ≢ Monitor → inverse o ≢ Monitor
inverse_changes Start ne h = cc
inverse_changes Stop ne h = cc
inverse_changes Promote ne h = cc
inverse_changes Demote ne h = cc
inverse_changes Monitor ne h = ne refl
