-- How sections that were read stand beside those that were written.
use Rattle.std.proofs.Common.{◌≡◌, ◌≢◌, Bool, true, false, cond, List, [], ◌∷◌, ◌++◌, length, Some, refl, sym, ap, ◌∙◌, subst, append-nil, arith}
use Rattle.std.specs.List.{AllByRecursion}
use Rattle.std.proofs.lemmas.Bool.{and_parts, eqb-true}
use Rattle.std.proofs.lemmas.Grind.{flat_map-append}
use Rattle.crm_lex.specs.Names.{is}
use Rattle.crm_parse.specs.declared.owner.Owner.{Owner}
use Rattle.crm_parse.specs.declared.owner.Owner.TheVariants as owner
use Rattle.crm_parse.specs.declared.owner.SectionWord.{SectionWord}
use Rattle.crm_parse.specs.declared.owner.SectionWord.TheVariants.{Attributes, Params, Meta, Utilization, Operations, Op}
use Rattle.crm_parse.specs.declared.pair.Kv.{Kv}
use Rattle.crm_parse.specs.declared.place.Place.{Place}
use Rattle.crm_parse.specs.declared.section.Sections.{Sections}
use Rattle.crm_parse.specs.Monitors.{MayStandTogether, recurring}
use Rattle.crm_parse.specs.Reading.{Words}
use Rattle.crm_parse.specs.Sections.{allows_section, has_no_pairs, may_follow, no_sections, place_of, takes_name}
use Rattle.crm_parse.proofs.OperationWords.{KeptOps}
use Rattle.crm_parse.proofs.SectionPairs.{pairs_of, put}
use Rattle.crm_parse.specs.Grammar.Parts.{EachTwo, MayBothBeWritten, MayFollow, MayStandBoth, Section, SectionSays, a_section, an_operation, operation, operations_in, pairs_if, pairs_in, pairs_section, section_place, section_text}
use Rattle.crm_parse.proofs.Grammar.PairsRelated.{two-push}
use Rattle.crm_parse.proofs.Grammar.SectionWords.{placed-is, same-section}

pub record Stood (statement : Owner) (section : Section) : Type 0 where
  pub words : Words
  pub said : SectionSays statement words section

-- the sections that were read are those that were written so far
pub record Stands (statement : Owner) (done : List Section) (read : Sections) : Type 0 where
  pub each : AllByRecursion (Stood statement) done
  pub pairs : (section : SectionWord) (place : Place) → section_place statement section ≡ Some place → pairs_of section read ≡ pairs_in section done
  pub ops : read.ops ≡ operations_in done
  pub kept : KeptOps read.ops
  pub in_turn : EachTwo (MayFollow statement) done
  pub keys : (section : SectionWord) (place : Place) → section_place statement section ≡ Some place → EachTwo (MayStandBoth place) (pairs_in section done)
  pub singles : EachTwo MayBothBeWritten (operations_in done)
  pub monitors : MayStandTogether (recurring (operations_in done))

put-pairs : (w v : SectionWord) (kvs : List Kv) (s : Sections) → takes_name (Some v) ≡ false
    → pairs_of v (put w kvs s) ≡ cond (is (section_text w) (section_text v)) kvs (pairs_of v s)
put-pairs Attributes Attributes kvs s n = refl
put-pairs Attributes Params kvs s n = refl
put-pairs Attributes Meta kvs s n = refl
put-pairs Attributes Utilization kvs s n = refl
put-pairs Attributes Operations kvs s n = refl
put-pairs Attributes Op kvs s n = cc
put-pairs Params Attributes kvs s n = refl
put-pairs Params Params kvs s n = refl
put-pairs Params Meta kvs s n = refl
put-pairs Params Utilization kvs s n = refl
put-pairs Params Operations kvs s n = refl
put-pairs Params Op kvs s n = cc
put-pairs Meta Attributes kvs s n = refl
put-pairs Meta Params kvs s n = refl
put-pairs Meta Meta kvs s n = refl
put-pairs Meta Utilization kvs s n = refl
put-pairs Meta Operations kvs s n = refl
put-pairs Meta Op kvs s n = cc
put-pairs Utilization Attributes kvs s n = refl
put-pairs Utilization Params kvs s n = refl
put-pairs Utilization Meta kvs s n = refl
put-pairs Utilization Utilization kvs s n = refl
put-pairs Utilization Operations kvs s n = refl
put-pairs Utilization Op kvs s n = cc
put-pairs Operations Attributes kvs s n = refl
put-pairs Operations Params kvs s n = refl
put-pairs Operations Meta kvs s n = refl
put-pairs Operations Utilization kvs s n = refl
put-pairs Operations Operations kvs s n = refl
put-pairs Operations Op kvs s n = cc
put-pairs Op Attributes kvs s n = refl
put-pairs Op Params kvs s n = refl
put-pairs Op Meta kvs s n = refl
put-pairs Op Utilization kvs s n = refl
put-pairs Op Operations kvs s n = refl
put-pairs Op Op kvs s n = cc

-- the pairs of a word behind one more section
more-pairs : (v w : SectionWord) (done : List Section) (kvs : List Kv)
    → pairs_in v (done ++ pairs_section w kvs ∷ []) ≡ pairs_in v done ++ (cond (is (section_text w) (section_text v)) kvs [] ++ [])
more-pairs v w done kvs = flat_map-append (pairs_if v) done (pairs_section w kvs ∷ [])

pairs-by : (w v : SectionWord) (done : List Section) (before : Sections) (after kvs : List Kv) (b : Bool) → is (section_text w) (section_text v) ≡ b
    → after ≡ pairs_of w before ++ kvs → pairs_of v before ≡ pairs_in v done → cond b after (pairs_of v before) ≡ pairs_in v done ++ (cond b kvs [] ++ [])
pairs-by w v done before after kvs true s a p =
    let same : w ≡ v = same-section w v s in
    a ∙ (ap (λ u. pairs_of u before ++ kvs) same ∙ (ap (λ ps. ps ++ kvs) p ∙ ap (λ ks. pairs_in v done ++ ks) (sym (append-nil kvs))))
pairs-by w v done before after kvs false s a p = p ∙ sym (append-nil (pairs_in v done))

pub next-pairs : (w v : SectionWord) (done : List Section) (before : Sections) (after kvs : List Kv) → takes_name (Some v) ≡ false
    → after ≡ pairs_of w before ++ kvs → pairs_of v before ≡ pairs_in v done → pairs_of v (put w after before) ≡ pairs_in v (done ++ pairs_section w kvs ∷ [])
next-pairs w v done before after kvs n a p =
    put-pairs w v after before n ∙ (pairs-by w v done before after kvs (is (section_text w) (section_text v)) refl a p ∙ sym (more-pairs v w done kvs))

keys-by : (w v : SectionWord) (before : Sections) (after : List Kv) (place : Place) (b : Bool) → is (section_text w) (section_text v) ≡ b
    → (w ≡ v → EachTwo (MayStandBoth place) after) → EachTwo (MayStandBoth place) (pairs_of v before) → EachTwo (MayStandBoth place) (cond b after (pairs_of v before))
keys-by w v before after place true s h k = h (same-section w v s)
keys-by w v before after place false s h k = k

-- a section of pairs doesn't change the operations
no_operation : (done : List Section) (w : SectionWord) (kvs : List Kv) → operations_in (done ++ pairs_section w kvs ∷ []) ≡ operations_in done
no_operation done w kvs = flat_map-append _ done (pairs_section w kvs ∷ []) ∙ append-nil (operations_in done)

put-ops : (w : SectionWord) (kvs : List Kv) (s : Sections) → (put w kvs s).ops ≡ s.ops
put-ops Attributes kvs s = refl
put-ops Params kvs s = refl
put-ops Meta kvs s = refl
put-ops Utilization kvs s = refl
put-ops Operations kvs s = refl
put-ops Op kvs s = refl

pub all-stood : (statement : Owner) (done : List Section) (s : Section) → AllByRecursion (Stood statement) done → Stood statement s → AllByRecursion (Stood statement) (done ++ s ∷ [])
all-stood statement [] s h k = (k, tt)
all-stood statement (x ∷ done) s h k = (h.0, all-stood statement done s h.1 k)

-- one more section of pairs
pub more-stands : (statement : Owner) (done : List Section) (before : Sections) (w : SectionWord) (after kvs : List Kv) → Stands statement done before
    → Stood statement (pairs_section w kvs) → AllByRecursion (λ one. MayFollow statement one (pairs_section w kvs)) done → after ≡ pairs_of w before ++ kvs
    → EachTwo (MayStandBoth (place_of statement w)) after → Stands statement (done ++ pairs_section w kvs ∷ []) (put w after before)
more-stands statement done before w after kvs h stood turn a two = record {
  each = all-stood statement done (pairs_section w kvs) h.each stood;
  pairs = λ v place e. next-pairs w v done before after kvs (placed-is statement v place e).plain a (h.pairs v place e);
  ops = put-ops w after before ∙ (h.ops ∙ sym (no_operation done w kvs));
  kept = subst KeptOps (sym (put-ops w after before)) h.kept;
  in_turn = two-push (MayFollow statement) done (pairs_section w kvs) h.in_turn turn;
  keys = λ v place e.
      let at = placed-is statement v place e in
      subst (EachTwo (MayStandBoth place)) (sym (put-pairs w v after before at.plain) ∙ next-pairs w v done before after kvs at.plain a (h.pairs v place e))
      (keys-by w v before after place (is (section_text w) (section_text v)) refl
      (λ same. subst (λ p. EachTwo (MayStandBoth p) after) (ap (place_of statement) same ∙ sym at.same) two)
      (subst (EachTwo (MayStandBoth place)) (sym (h.pairs v place e)) (h.keys v place e)));
  singles = subst (EachTwo MayBothBeWritten) (sym (no_operation done w kvs)) h.singles;
  monitors = subst (λ ops. MayStandTogether (recurring ops)) (sym (no_operation done w kvs)) h.monitors;
}

-- before any section
pub stands-first : (statement : Owner) → Stands statement [] no_sections
stands-first statement = record {
  each = tt;
  pairs = λ v place e. none-pairs v;
  ops = refl;
  kept = refl;
  in_turn = tt;
  keys = λ v place e. tt;
  singles = tt;
  monitors = record { few = omega arith; above = tt; apart = λ i j d l within. absurd (omega (arith, within)) };
}
  where
    none-pairs : (v : SectionWord) → pairs_of v no_sections ≡ []
    none-pairs Attributes = refl
    none-pairs Params = refl
    none-pairs Meta = refl
    none-pairs Utilization = refl
    none-pairs Operations = refl
    none-pairs Op = refl

-- the turns of sections
empty : (kvs : List Kv) → has_no_pairs kvs ≡ true → kvs ≡ []
empty [] e = refl
empty (kv ∷ kvs) e = let z = eqb-true (length (kv ∷ kvs)) 0 e in absurd (let f : ⊥ = omega (arith, z) in f)

pub all-any : {A : Type 0} (P : A → Type 0) (xs : List A) → ((x : A) → P x) → AllByRecursion P xs
all-any P [] h = tt
all-any P (x ∷ xs) h = (h x, all-any P xs h)

node-section : (w : SectionWord) (place : Place) (kvs : List Kv) (rest : List Section) → section_place owner.Node w ≡ Some place → kvs ≢ []
    → pairs_in Attributes (pairs_section w kvs ∷ rest) ≡ [] → pairs_in Utilization (pairs_section w kvs ∷ rest) ≡ [] → ⊥
node-section Attributes place [] rest p some a u = some refl
node-section Attributes place (kv ∷ kvs) rest p some a u = cc
node-section Utilization place [] rest p some a u = some refl
node-section Utilization place (kv ∷ kvs) rest p some a u = cc
node-section Params place kvs rest p some a u = cc
node-section Meta place kvs rest p some a u = cc
node-section Operations place kvs rest p some a u = cc
node-section Op place kvs rest p some a u = cc

node-said : (words : Words) (s : Section) (rest : List Section) → SectionSays owner.Node words s → pairs_in Attributes (s ∷ rest) ≡ [] → pairs_in Utilization (s ∷ rest) ≡ [] → ⊥
node-said ws s rest (a_section w place words kvs p each some) a u = node-section w place kvs rest p some a u
node-said ws s rest (an_operation name words kvs prim named no_rule each some two) a u = cc

-- no section of a node stands where there are no pairs
node-none : (done : List Section) → AllByRecursion (Stood owner.Node) done → pairs_in Attributes done ≡ [] → pairs_in Utilization done ≡ [] → done ≡ []
node-none [] h a u = refl
node-none (s ∷ rest) h a u = absurd (node-said h.0.words s rest h.0.said a u)

front-none : (xs ys : List Kv) → xs ++ ys ≡ [] → ys ≡ []
front-none [] ys e = e
front-none (x ∷ xs) ys e = cc

first-section : (w : SectionWord) (place : Place) (kvs more : List Kv) (rest : List Section) → section_place owner.Node w ≡ Some place → kvs ≢ []
    → pairs_in Utilization (pairs_section w kvs ∷ rest) ≡ [] → MayFollow owner.Node (pairs_section w kvs) (pairs_section Utilization more)
first-section Attributes place kvs more rest p some u = tt
first-section Utilization place [] more rest p some u = absurd (some refl)
first-section Utilization place (kv ∷ kvs) more rest p some u = cc
first-section Params place kvs more rest p some u = cc
first-section Meta place kvs more rest p some u = cc
first-section Operations place kvs more rest p some u = cc
first-section Op place kvs more rest p some u = cc

first-said : (words : Words) (s : Section) (more : List Kv) (rest : List Section) → SectionSays owner.Node words s → pairs_in Utilization (s ∷ rest) ≡ []
    → MayFollow owner.Node s (pairs_section Utilization more)
first-said ws s more rest (a_section w place words kvs p each some) u = first-section w place kvs more rest p some u
first-said ws s more rest (an_operation name words kvs prim named no_rule each some two) u = cc

-- only attributes stand before a utilization
node-first : (more : List Kv) (done : List Section) → AllByRecursion (Stood owner.Node) done → pairs_in Utilization done ≡ []
    → AllByRecursion (λ one. MayFollow owner.Node one (pairs_section Utilization more)) done
node-first more [] h u = tt
node-first more (s ∷ rest) h u = (first-said h.0.words s more rest h.0.said u, node-first more rest h.1 (front-none (pairs_if Utilization s) (pairs_in Utilization rest) u))

node-turn : (done : List Section) (before : Sections) (w : SectionWord) (kvs : List Kv) → Stands owner.Node done before → allows_section owner.Node w ≡ true
    → may_follow owner.Node before w ≡ true → AllByRecursion (λ one. MayFollow owner.Node one (pairs_section w kvs)) done
node-turn done before Attributes kvs h a m =
    let (x, y) = and_parts _ _ m in
    let none = node-none done h.each (sym (h.pairs Attributes _ refl) ∙ empty before.attributes x) (sym (h.pairs Utilization _ refl) ∙ empty before.utilization y) in
    subst (AllByRecursion (λ one. MayFollow owner.Node one (pairs_section Attributes kvs))) (sym none) tt
node-turn done before Utilization kvs h a m = node-first kvs done h.each (sym (h.pairs Utilization _ refl) ∙ empty before.utilization m)
node-turn done before Params kvs h a m = cc
node-turn done before Meta kvs h a m = cc
node-turn done before Operations kvs h a m = cc
node-turn done before Op kvs h a m = cc

pub turn-said : (statement : Owner) (done : List Section) (before : Sections) (w : SectionWord) (kvs : List Kv) → Stands statement done before
    → allows_section statement w ≡ true → may_follow statement before w ≡ true → AllByRecursion (λ one. MayFollow statement one (pairs_section w kvs)) done
turn-said owner.Node done before w kvs h a m = node-turn done before w kvs h a m
turn-said owner.Primitive done before w kvs h a m = all-any _ done (λ one. tt)
turn-said owner.Group done before w kvs h a m = all-any _ done (λ one. tt)
turn-said owner.Clone done before w kvs h a m = all-any _ done (λ one. tt)
turn-said owner.Ms done before w kvs h a m = all-any _ done (λ one. tt)

-- and the other way round
no_turn : (one : Section) (kvs : List Kv) → MayFollow owner.Node one (pairs_section Attributes kvs) → ⊥
no_turn (pairs_section Attributes others) kvs h = h
no_turn (pairs_section Params others) kvs h = h
no_turn (pairs_section Meta others) kvs h = h
no_turn (pairs_section Utilization others) kvs h = h
no_turn (pairs_section Operations others) kvs h = h
no_turn (pairs_section Op others) kvs h = h
no_turn (operation op) kvs h = h

first-turn : (one : Section) (kvs : List Kv) → MayFollow owner.Node one (pairs_section Utilization kvs) → pairs_if Utilization one ≡ []
first-turn (pairs_section Attributes others) kvs h = refl
first-turn (pairs_section Params others) kvs h = absurd h
first-turn (pairs_section Meta others) kvs h = absurd h
first-turn (pairs_section Utilization others) kvs h = absurd h
first-turn (pairs_section Operations others) kvs h = absurd h
first-turn (pairs_section Op others) kvs h = absurd h
first-turn (operation op) kvs h = absurd h

first-turns : (done : List Section) (kvs : List Kv) → AllByRecursion (λ one. MayFollow owner.Node one (pairs_section Utilization kvs)) done → pairs_in Utilization done ≡ []
first-turns [] kvs h = refl
first-turns (s ∷ rest) kvs h = rw (first-turn s kvs h.0) (first-turns rest kvs h.1)

none-before : (done : List Section) (kvs : List Kv) → AllByRecursion (λ one. MayFollow owner.Node one (pairs_section Attributes kvs)) done → done ≡ []
none-before [] kvs h = refl
none-before (s ∷ rest) kvs h = absurd (no_turn s kvs h.0)

node-read : (done : List Section) (before : Sections) (w : SectionWord) (kvs : List Kv) → Stands owner.Node done before → allows_section owner.Node w ≡ true
    → AllByRecursion (λ one. MayFollow owner.Node one (pairs_section w kvs)) done → may_follow owner.Node before w ≡ true
node-read done before Attributes kvs h a t =
    let none = none-before done kvs t in
    let x : before.attributes ≡ [] = h.pairs Attributes _ refl ∙ ap (pairs_in Attributes) none in
    let y : before.utilization ≡ [] = h.pairs Utilization _ refl ∙ ap (pairs_in Utilization) none in
    rw (x, y) refl
node-read done before Utilization kvs h a t =
    let y : before.utilization ≡ [] = h.pairs Utilization _ refl ∙ first-turns done kvs t in
    rw y refl
node-read done before Params kvs h a t = cc
node-read done before Meta kvs h a t = cc
node-read done before Operations kvs h a t = cc
node-read done before Op kvs h a t = cc

pub turn-read : (statement : Owner) (done : List Section) (before : Sections) (w : SectionWord) (kvs : List Kv) → Stands statement done before
    → allows_section statement w ≡ true → AllByRecursion (λ one. MayFollow statement one (pairs_section w kvs)) done → may_follow statement before w ≡ true
turn-read owner.Node done before w kvs h a t = node-read done before w kvs h a t
turn-read owner.Primitive done before w kvs h a t = refl
turn-read owner.Group done before w kvs h a t = refl
turn-read owner.Clone done before w kvs h a t = refl
turn-read owner.Ms done before w kvs h a t = refl
