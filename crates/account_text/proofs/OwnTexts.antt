-- The lines of what locations give a leaf on a node, and of the terms of all leaves that joined.
use Rattle.std.proofs.Common.{◌≡◌, ℕ, ◌<◌, Bool, true, false, ◌==◌, ◌&&◌, Option, List, [], ◌∷◌, ◌++◌, length, map, filter, refl, ap, ◌∙◌, Contains}
use Rattle.std.specs.Borrow.{Bor}
use Rattle.std.specs.List.{flat_map}
use Rattle.lemmas.proofs.Members.{at_head, in_rest}
use Rattle.cluster_types.specs.declared.cluster.Cluster.{Cluster}
use Rattle.cluster_types.specs.declared.leaf.Role.{Role}
use Rattle.cluster_types.specs.declared.rules.Location.{Location}
use Rattle.cluster_types.specs.declared.rules.RuleLocation.{RuleLocation}
use Rattle.score.specs.NodeSet.{has}
use Rattle.decision_account.specs.Parts.{from_location, part_of}
use Rattle.placement.specs.Locations.{rule_holds_by}
use Rattle.account_text.specs.declared.leaf_sources.LeafSources.{LeafSources}
use Rattle.account_text.specs.declared.leaf_sources.Ruled.{Ruled}
use Rattle.account_text.specs.Inner.Sources.{AreLocated, AreRuled, HoldsAt, IsSourceOf}
use Rattle.account_text.specs.Inner.PartsByStates.{located_part, location_parts_by, part_where, parts_text, ruled_part}
use Rattle.account_text.proofs.ToldTexts.{lent_map, picked, two_more}

three : (a b d : Bool) → (a && (b && d)) ≡ (a && b && d)
three true b d = refl
three false b d = refl

module _ (c : Cluster) (cell : List ℕ) (lender : Option ℕ) (passes : Role → Bool) (r n : ℕ) where
  located_text : (all : List (Bor Location)) → AreLocated c.locations r all
      → flat_map (λ rule. parts_text c cell (located_part lender passes n rule.now)) all
      ≡ parts_text c cell (map (λ (l : Location). part_of lender (from_location l.id) l.score) (filter (λ l. l.leaf == r && l.node == n && passes l.role) c.locations))
  located_text all are =
      lent_map (λ l. parts_text c cell (located_part lender passes n l)) all
      ∙ ap (flat_map (λ l. parts_text c cell (located_part lender passes n l))) are
      ∙ picked c cell (λ (l : Location). l.leaf == r) (λ l. l.node == n && passes l.role) (λ l. l.leaf == r && l.node == n && passes l.role)
      (λ l. part_of lender (from_location l.id) l.score) (λ l. three (l.leaf == r) (l.node == n) (passes l.role)) c.locations

  module _ (moment : ℕ) (low : n < length c.nodes) where
    -- with the rule that holds in the place of the set of nodes
    by_rule : (all : List Ruled) → ((x : Ruled) → Contains all x → HoldsAt c moment x)
        → flat_map (λ ruled. parts_text c cell (ruled_part lender passes n ruled)) all
        ≡ flat_map (λ rl. parts_text c cell (part_where (passes rl.role && rule_holds_by c moment rl n) (part_of lender (from_location rl.id) rl.score)))
        (map (λ (x : Ruled). x.rule.now) all)
    by_rule [] hold = refl
    by_rule (x ∷ xs) hold =
        let at : has x.nodes n ≡ rule_holds_by c moment x.rule.now n = hold x (at_head x xs x refl) n low in
        let part = part_of lender (from_location x.rule.now.id) x.rule.now.score in
        ap (λ b. parts_text c cell (part_where (passes x.rule.now.role && b) part) ++ flat_map (λ ruled. parts_text c cell (ruled_part lender passes n ruled)) xs) at
        ∙ ap (λ t. parts_text c cell (part_where (passes x.rule.now.role && rule_holds_by c moment x.rule.now n) part) ++ t) (by_rule xs (λ y h. hold y (in_rest x xs y h)))

    ruled_text : (all : List Ruled) → AreRuled c moment c.rule_locations r all
        → flat_map (λ ruled. parts_text c cell (ruled_part lender passes n ruled)) all
        ≡ parts_text c cell (map (λ (rl : RuleLocation). part_of lender (from_location rl.id) rl.score)
        (filter (λ rl. rl.leaf == r && passes rl.role && rule_holds_by c moment rl n) c.rule_locations))
    ruled_text all are =
        by_rule all are.hold
        ∙ ap (flat_map (λ rl. parts_text c cell (part_where (passes rl.role && rule_holds_by c moment rl n) (part_of lender (from_location rl.id) rl.score)))) are.of_leaf
        ∙ picked c cell (λ (rl : RuleLocation). rl.leaf == r) (λ rl. passes rl.role && rule_holds_by c moment rl n)
        (λ rl. rl.leaf == r && passes rl.role && rule_holds_by c moment rl n) (λ rl. part_of lender (from_location rl.id) rl.score)
        (λ rl. three (rl.leaf == r) (passes rl.role) (rule_holds_by c moment rl n)) c.rule_locations

    pub locations_more : (sources : LeafSources) → IsSourceOf c moment r sources → (old one two : List ℕ) (located : List (Bor Location)) (ruled : List Ruled)
        → located ≡ sources.located.items → ruled ≡ sources.ruled.items
        → one ≡ old ++ flat_map (λ rule. parts_text c cell (located_part lender passes n rule.now)) located
        → two ≡ one ++ flat_map (λ x. parts_text c cell (ruled_part lender passes n x)) ruled
        → two ≡ old ++ parts_text c cell (location_parts_by c moment lender passes r n)
    locations_more sources is old one two located ruled e f first second =
        two_more c cell old one two
        (map (λ (l : Location). part_of lender (from_location l.id) l.score) (filter (λ l. l.leaf == r && l.node == n && passes l.role) c.locations))
        (map (λ (rl : RuleLocation). part_of lender (from_location rl.id) rl.score) (filter (λ rl. rl.leaf == r && passes rl.role && rule_holds_by c moment rl n) c.rule_locations))
        (first ∙ ap (λ xs. old ++ flat_map (λ rule. parts_text c cell (located_part lender passes n rule.now)) xs) e ∙ ap (λ t. old ++ t) (located_text sources.located.items is.located))
        (second ∙ ap (λ xs. one ++ flat_map (λ x. parts_text c cell (ruled_part lender passes n x)) xs) f ∙ ap (λ t. one ++ t) (ruled_text sources.ruled.items is.ruled))
