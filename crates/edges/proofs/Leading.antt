-- Where edges lead, computed.
use Rattle.std.proofs.Common.{arith, ◌≡◌, ◌≤◌, ◌==◌, ◌&&◌, ◌||◌, ℕ, suc, zero, Bool, true, false, List, refl, Contains, Any}
use Rattle.std.proofs.lemmas.List.Folds.{Any-from_list_any}
use Rattle.std.proofs.lemmas.Bool.{and_from, or_right}
use Rattle.lemmas.proofs.Booleans.{sooner, later}
use Rattle.lemmas.proofs.Searches.{passes_by}
use Rattle.edges.specs.declared.edge.Edge.{Edge}
use Rattle.edges.specs.Chains.{linked, link_then, one_link}
use Rattle.edges.specs.Inner.ShortWays.{leads_within}
use Rattle.edges.specs.Loops.{Leads}

-- the edge leads on from x, and after it at most so many others to y
abbrev pub leads_by : ℕ → List Edge → ℕ → ℕ → Edge → Bool
leads_by most edges x y e = e.before == x && (e.after == y || leads_within most edges e.after y)

-- the first edge of a way, and what follows it
pub record Step (most : ℕ) (edges : List Edge) (x y : ℕ) : Type 0 where
  pub edge : Edge
  pub among : Contains edges edge
  pub from : edge.before ≡ x
  pub on : edge.after == y || leads_within most edges edge.after y ≡ true

step_at : (most : ℕ) (edges : List Edge) (x y : ℕ) → Any (λ e. leads_by most edges x y e ≡ true) edges → Step most edges x y
step_at most edges x y (k, e, lt, at, h) =
    let same : (e.before == x) ≡ true = sooner _ _ h in
    record { edge = e; among = (k, lt, at); from = grind arith; on = later _ _ h }

pub step_of : (most : ℕ) (edges : List Edge) (x y : ℕ) → leads_within (suc most) edges x y ≡ true → Step most edges x y
step_of most edges x y h = step_at most edges x y (Any-from_list_any (leads_by most edges x y) edges h)

pub of_step : (most : ℕ) (edges : List Edge) (x y : ℕ) → Step most edges x y → leads_within (suc most) edges x y ≡ true
of_step most edges x y s =
    let same : (s.edge.before == x) ≡ true = let f = s.from in grind arith in
    passes_by (leads_by most edges x y) edges s.edge s.among (and_from (s.edge.before == x) _ same s.on)

-- one edge
pub leads_directly : (most : ℕ) (edges : List Edge) (e : Edge) → Contains edges e → leads_within (suc most) edges e.before e.after ≡ true
leads_directly most edges e c =
    of_step most edges e.before e.after (record { edge = e; among = c; from = refl; on = grind arith })

-- one edge more at the end
further_on : (n : ℕ) (edges : List Edge) (x : ℕ) (e : Edge) → Contains edges e → (s : Step n edges x e.before) → (same : Bool)
    → (s.edge.after == e.before) ≡ same
    → same || leads_within n edges s.edge.after e.before ≡ true
    → (leads_within n edges s.edge.after e.before ≡ true → leads_within (suc n) edges s.edge.after e.after ≡ true)
    → leads_within (suc (suc n)) edges x e.after ≡ true
further_on n edges x e c s true at on next =
    let met : s.edge.after ≡ e.before = grind arith in
    let d : leads_within (suc n) edges s.edge.after e.after ≡ true = rw met (leads_directly n edges e c) in
    of_step (suc n) edges x e.after (record { edge = s.edge; among = s.among; from = s.from; on = or_right _ _ d })
further_on n edges x e c s false at on next =
    of_step (suc n) edges x e.after (record { edge = s.edge; among = s.among; from = s.from; on = or_right _ _ (next on) })

pub leads_further : (n : ℕ) (edges : List Edge) (x : ℕ) (e : Edge) → Contains edges e → leads_within n edges x e.before ≡ true
    → leads_within (suc n) edges x e.after ≡ true
leads_further zero edges x e c h = cc
leads_further (suc n) edges x e c h =
    let s : Step n edges x e.before = step_of n edges x e.before h in
    further_on n edges x e c s (s.edge.after == e.before) refl s.on (leads_further n edges s.edge.after e c)

-- with more edges allowed
longer_on : (m n : ℕ) (edges : List Edge) (x y : ℕ) → (s : Step m edges x y) → (same : Bool) → (s.edge.after == y) ≡ same
    → same || leads_within m edges s.edge.after y ≡ true
    → (leads_within m edges s.edge.after y ≡ true → leads_within n edges s.edge.after y ≡ true)
    → leads_within (suc n) edges x y ≡ true
longer_on m n edges x y s true at on next =
    of_step n edges x y (record { edge = s.edge; among = s.among; from = s.from; on = rw at refl })
longer_on m n edges x y s false at on next =
    of_step n edges x y (record { edge = s.edge; among = s.among; from = s.from; on = or_right _ _ (next on) })

pub leads_longer : (m n : ℕ) (edges : List Edge) (x y : ℕ) → m ≤ n → leads_within m edges x y ≡ true → leads_within n edges x y ≡ true
leads_longer zero n edges x y le h = cc
leads_longer (suc m) zero edges x y le h = absurd (let f : ⊥ = omega arith in f)
leads_longer (suc m) (suc n) edges x y le h =
    let s : Step m edges x y = step_of m edges x y h in
    longer_on m n edges x y s (s.edge.after == y) refl s.on (leads_longer m n edges s.edge.after y (omega arith))

-- what is computed leads somewhere
straight : (edges : List Edge) (x y : ℕ) (e : Edge) → Contains edges e → e.before ≡ x → e.after ≡ y → Leads edges x y
straight edges x y e c s t = rw (← s) (rw (← t) (one_link _ _ (linked e c)))

around : (edges : List Edge) (x y : ℕ) (e : Edge) → Contains edges e → e.before ≡ x → Leads edges e.after y → Leads edges x y
around edges x y e c s rest = rw (← s) (link_then _ _ y (linked e c) tt rest)

way_on : (m : ℕ) (edges : List Edge) (x y : ℕ) → (s : Step m edges x y) → (same : Bool) → (s.edge.after == y) ≡ same
    → same || leads_within m edges s.edge.after y ≡ true → (leads_within m edges s.edge.after y ≡ true → Leads edges s.edge.after y)
    → Leads edges x y
way_on m edges x y s true at on next = straight edges x y s.edge s.among s.from (grind arith)
way_on m edges x y s false at on next = around edges x y s.edge s.among s.from (next on)

pub leads-from_computed : (m : ℕ) (edges : List Edge) (x y : ℕ) → leads_within m edges x y ≡ true → Leads edges x y
leads-from_computed zero edges x y h = cc
leads-from_computed (suc m) edges x y h =
    let s : Step m edges x y = step_of m edges x y h in
    way_on m edges x y s (s.edge.after == y) refl s.on (leads-from_computed m edges s.edge.after y)
