-- One action more, and which leaves migrate.
use Rattle.std.proofs.Common.{◌≡◌, ◌<◌, ◌+◌, ◌==◌, ◌||◌, ◌++◌, ℕ, Bool, true, false, List, [], ◌∷◌, Option, Some, None, length, IfSome, set, get_or, take, refl, sym, ap, subst, ◌∙◌}
use Rattle.std.specs.List.{list_any}
use Rattle.std.proofs.lemmas.Bool.{eqb-true, eqb-false}
use Rattle.std.proofs.lemmas.List.{get_or-set_same, get_or-set_other, take_more}
use Rattle.std.proofs.lemmas.List.Folds.{list_any-append}
use Rattle.std.proofs.Math.Bool.{or-false, or-true}
use Rattle.cluster_types.specs.declared.journal.Action.{Action}
use Rattle.cluster_types.specs.declared.journal.Action.TheVariants.{Fence, Probe, Operation, MigrateTo, MigrateFrom}
use Rattle.cluster_types.specs.Precedence.{is_migrating, sends}
use Rattle.planner.specs.Inner.Flags.{send_if, with_flag}
use Rattle.loops.specs.Ranks.{AreMigrating}

sends_is : (r : ℕ) (a : Action) (q : ℕ) → send_if a ≡ Some q → sends r a ≡ (q == r)
sends_is r (Fence n) q h = cc
sends_is r (Probe s n) q h = cc
sends_is r (Operation o s n i role) q h = cc
sends_is r (MigrateTo s f t) q h = let e : s ≡ q = cc in ap (λ v. v == r) e
sends_is r (MigrateFrom s f t) q h = cc

sends_none : (r : ℕ) (a : Action) → send_if a ≡ None → sends r a ≡ false
sends_none r (Fence n) h = refl
sends_none r (Probe s n) h = refl
sends_none r (Operation o s n i role) h = refl
sends_none r (MigrateTo s f t) h = cc
sends_none r (MigrateFrom s f t) h = refl

migrating_more : (actions : List Action) (i : ℕ) (d a : Action) (r : ℕ) (b : Bool) → a ≡ get_or actions i d → i < length actions → sends r a ≡ b
    → is_migrating (take (i + 1) actions) r ≡ is_migrating (take i actions) r || b
migrating_more actions i d a r b at within e =
    ap (λ v. list_any (sends r) v) (take_more actions i d within ∙ ap (λ v. take i actions ++ v ∷ []) (sym at))
    ∙ (list_any-append (sends r) (take i actions) (a ∷ []) ∙ ap (λ v. is_migrating (take i actions) r || v) (or-false (sends r a) ∙ e))

set_at : (flags : List Bool) (r q : ℕ) (before : Bool) → q < length flags → get_or flags r false ≡ before → get_or (set flags q true) r false ≡ before || q == r
set_at flags r q before l is = on (q == r) refl
  where
    on : (b : Bool) → (q == r) ≡ b → get_or (set flags q true) r false ≡ before || b
    on true e =
        let same : q ≡ r = eqb-true q r e in
        subst (λ n. get_or (set flags q true) n false ≡ before || true) same (get_or-set_same flags q true false l ∙ sym (or-true before))
    on false e = get_or-set_other flags q r true false (λ same. eqb-false q r e (sym same)) ∙ (is ∙ sym (or-false before))

pub flags_more : (actions : List Action) (i : ℕ) (flags more : List Bool) (d a : Action) (leaf : Option ℕ) → a ≡ get_or actions i d → i < length actions → send_if a ≡ leaf
    → IfSome leaf (λ r. r < length flags) → AreMigrating (take i actions) flags → more ≡ with_flag flags leaf → AreMigrating (take (i + 1) actions) more
flags_more actions i flags more d a (Some q) at within leaf l is e r =
    ap (λ v. get_or v r false) e
    ∙ (set_at flags r q (is_migrating (take i actions) r) l (is r) ∙ sym (migrating_more actions i d a r (q == r) at within (sends_is r a q leaf)))
flags_more actions i flags more d a None at within leaf l is e r =
    ap (λ v. get_or v r false) e
    ∙ (is r ∙ (sym (or-false (is_migrating (take i actions) r)) ∙ sym (migrating_more actions i d a r false at within (sends_none r a leaf))))
