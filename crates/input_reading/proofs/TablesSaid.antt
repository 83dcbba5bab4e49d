-- What tables of words say.
use Rattle.std.proofs.Common.{◌≡◌, ℕ, Bool, true, false, cond, List, Option, Some, None, refl, sym, subst}
use Rattle.std.specs.Prelude.{codes}
use Rattle.std.specs.Option.{option_map}
use Rattle.crm_lex.specs.Names.{is}
use Rattle.crm_parse.proofs.Binds.{is-true}
use Rattle.cluster_types.specs.declared.leaf.Op.{Op}
use Rattle.cluster_types.specs.declared.leaf.Op.TheVariants.{Start, Stop, Promote, Demote, Monitor}
use Rattle.cluster_types.specs.OperationNames.{operation_named}

-- a word is this one, or the next question is asked
pub ask-some : {P A : Type 0} (b : Bool) (x : A) (rest : Option A) (y : A) → cond b (Some x) rest ≡ Some y → (b ≡ true → x ≡ y → P) → (rest ≡ Some y → P) → P
ask-some true x rest y e here more = here refl (cc)
ask-some false x rest y e here more = more e

pub mapped-some : {A B : Type 0} (f : A → B) (found : Option A) (y : B) → option_map f found ≡ Some y → (x : A) × (found ≡ Some x) × (f x ≡ y)
mapped-some f None y e = cc
mapped-some f (Some x) y e = (x, refl, cc)

-- a word of a table says its value
pub says-it : {A : Type 0} (Says : List ℕ → A → Type 0) (word text : List ℕ) (x y : A) → Says text x → is word text ≡ true → x ≡ y → Says word y
says-it Says word text x y says h same = subst (Says word) same (subst (λ w. Says w x) (sym (is-true word text h)) says)

-- the operations by their names
pub data IsOperation : List ℕ → Op → Type 0 where
  start_named : IsOperation (codes "start") Start
  stop_named : IsOperation (codes "stop") Stop
  promote_named : IsOperation (codes "promote") Promote
  demote_named : IsOperation (codes "demote") Demote
  monitor_named : IsOperation (codes "monitor") Monitor

pub operation-said : (word : List ℕ) (op : Op) → operation_named word ≡ Some op → IsOperation word op
operation-said word op e =
    ask-some (is word (codes "start")) Start _ op e (says-it IsOperation word (codes "start") Start op start_named) (λ e.
    ask-some (is word (codes "stop")) Stop _ op e (says-it IsOperation word (codes "stop") Stop op stop_named) (λ e.
    ask-some (is word (codes "promote")) Promote _ op e (says-it IsOperation word (codes "promote") Promote op promote_named) (λ e.
    ask-some (is word (codes "demote")) Demote _ op e (says-it IsOperation word (codes "demote") Demote op demote_named) (λ e.
    ask-some (is word (codes "monitor")) Monitor _ op e (says-it IsOperation word (codes "monitor") Monitor op monitor_named) (λ e. absurd (cc))))))
