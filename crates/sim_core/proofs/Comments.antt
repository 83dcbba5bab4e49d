-- The line of counts is a comment.
use Rattle.std.proofs.Common.{arith, ◌≡◌, ℕ, ◌≤◌, nat_le, true, List, ◌++◌, length, codes, refl, length-append}
use Rattle.std.specs.Fmt.{decimal}
use Rattle.std.proofs.lemmas.Bool.Decides.{nat_tests}
use Rattle.std.proofs.lemmas.Fmt.{length-decimal-le}
use Rattle.std.proofs.lemmas.Str.{is_utf8-from_IsUtf8}
use Rattle.crm_print.proofs.Clean.{Clean, clean-append, clean-ascii}
use Rattle.crm_print.proofs.CleanNumbers.{decimal-clean}
use Rattle.crm_print.specs.PrintedAgain.{IsComment}

-- the line of counts, without its line feed
abbrev pub counts : ℕ → ℕ → ℕ → List ℕ
counts nodes leaves rules = codes "# nodes " ++ decimal nodes ++ codes " leaves " ++ decimal leaves ++ codes " rules " ++ decimal rules

module _ (nodes leaves rules : ℕ) (few_nodes : nodes ≤ 1000000) (few_leaves : leaves ≤ 1000000) (few_rules : rules ≤ 1000000) where
  counts-clean : Clean (counts nodes leaves rules)
  counts-clean =
      clean-append _ (decimal rules)
      (clean-append _ (codes " rules ")
      (clean-append _ (decimal leaves)
      (clean-append _ (codes " leaves ")
      (clean-append (codes "# nodes ") (decimal nodes) (clean-ascii (codes "# nodes ") refl) (decimal-clean nodes few_nodes))
      (clean-ascii (codes " leaves ") refl))
      (decimal-clean leaves few_leaves))
      (clean-ascii (codes " rules ") refl))
      (decimal-clean rules few_rules)

  counts-short : length (counts nodes leaves rules) ≤ 44
  counts-short =
      let a = length-decimal-le 7 nodes (omega arith) (omega arith) (omega arith) in
      let b = length-decimal-le 7 leaves (omega arith) (omega arith) (omega arith) in
      let c = length-decimal-le 7 rules (omega arith) (omega arith) (omega arith) in
      let one = length-append (codes "# nodes ") (decimal nodes) in
      let two = length-append (codes "# nodes " ++ decimal nodes) (codes " leaves ") in
      let three = length-append (codes "# nodes " ++ decimal nodes ++ codes " leaves ") (decimal leaves) in
      let four = length-append (codes "# nodes " ++ decimal nodes ++ codes " leaves " ++ decimal leaves) (codes " rules ") in
      let five = length-append (codes "# nodes " ++ decimal nodes ++ codes " leaves " ++ decimal leaves ++ codes " rules ") (decimal rules) in
      omega arith

  short-test : (n : ℕ) → n ≤ 44 → nat_le n 1048576 ≡ true
  short-test n h = grind (arith, nat_tests)

  pub counts-comment : IsComment (counts nodes leaves rules)
  counts-comment =
      record {
        begins = refl;
        utf8 = is_utf8-from_IsUtf8 (counts nodes leaves rules) counts-clean.utf8;
        allowed = counts-clean.allowed;
        short = short-test (length (counts nodes leaves rules)) counts-short;
      }
