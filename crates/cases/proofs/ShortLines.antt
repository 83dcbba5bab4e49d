-- How long a case is at most.
use Rattle.std.proofs.Common.{arith, ◌≡◌, ◌<◌, ◌≤◌, ◌+◌, ◌-◌, ◌*◌, ◌/◌, ◌%◌, ◌^◌, ◌==◌, ℕ, zero, suc, Bool, true, false, if◌then◌else◌, List, [], ◌∷◌, ◌++◌, length, length-append, codes, refl}
use Rattle.std.specs.Fmt.{decimal}
use Rattle.std.proofs.lemmas.Fmt.{length-decimal-le}
use Rattle.std.proofs.lemmas.Nat.{mod_below}
use Rattle.std.specs.List.{flat_map, range_with_len}
use Rattle.cases.specs.Case.{case_text, colocation_line, group_line, kind_word, lines, location_line, lost_node, monitor_words, case_node_line, online_line, order_line, primitive_line, results_text, resources_text, rules_text, separation_line, status_text}
use Rattle.cases.specs.Draws.{draw, state_after}

short_number : (n : ℕ) → n < 10000 → length (decimal n) ≤ 4
short_number n low = length-decimal-le 4 n (omega arith) (omega (arith, low)) (omega (arith, low))

-- what is drawn is below its bound
short_draw : (number at bound : ℕ) → 0 < bound → bound ≤ 1000 → length (decimal (draw number at bound)) ≤ 4
short_draw number at bound some low = let d = mod_below (state_after number at / 65536) bound some in short_number (draw number at bound) (omega (arith, d, low))

short_drawn_node : (number at : ℕ) → length (decimal (draw number at 60 + 1)) ≤ 4
short_drawn_node number at =
    let d = mod_below (state_after number at / 65536) 60 (omega arith) in short_number (draw number at 60 + 1) (omega (arith, d))

-- lines of at most 100 bytes each
short_range : (line : ℕ → List ℕ) (from count : ℕ) → ((i : ℕ) → i < from + count → length (line i) ≤ 100)
    → length (flat_map line (range_with_len from count)) ≤ count * 100
short_range line from zero short = omega arith
short_range line from (suc count) short =
    let first = short from (omega arith) in
    let rest = short_range line (from + 1) count (λ i low. short i (omega (arith, low))) in
    omega (arith, length-append (line from) (flat_map line (range_with_len (from + 1) count)), first, rest)

short_lines : (line : ℕ → List ℕ) (first below : ℕ) → first ≤ below → ((i : ℕ) → i < below → length (line i) ≤ 100)
    → length (lines line first below) ≤ (below - first) * 100
unfolding lines
short_lines line first below low short = short_range line first (below - first) (λ i at. short i (omega (arith, at, low)))

-- each line

short_if : (b : Bool) (x y : List ℕ) (most : ℕ) → length x ≤ most → length y ≤ most → length (if b then x else y) ≤ most
short_if true x y most first second = first
short_if false x y most first second = second

short_node : (i : ℕ) → i < 1000 → length (case_node_line i) ≤ 100
short_node i low = let d = short_number i (omega (arith, low)) in simp length-append (omega (arith, d))

short_online : (i : ℕ) → i < 1000 → length (online_line i) ≤ 100
short_online i low = let d = short_number i (omega (arith, low)) in simp length-append (omega (arith, d))

short_group : (k : ℕ) → k < 1000 → length (group_line k) ≤ 100
short_group k low =
    let a = short_number k (omega (arith, low)) in
    let b = short_number (5 * k - 4) (omega (arith, low)) in
    let c = short_number (5 * k - 3) (omega (arith, low)) in
    let d = short_number (5 * k - 2) (omega (arith, low)) in
    let e = short_number (5 * k - 1) (omega (arith, low)) in
    let f = short_number (5 * k) (omega (arith, low)) in
    simp length-append (omega (arith, a, b, c, d, e, f))

short_separation : (i : ℕ) → i < 1000 → length (separation_line i) ≤ 100
short_separation i low =
    let a = short_number i (omega (arith, low)) in
    let b = short_number (300 + i) (omega (arith, low)) in
    let c = short_number (200 + i) (omega (arith, low)) in
    simp length-append (omega (arith, a, b, c))

short_order : (i : ℕ) → i < 1000 → length (order_line i) ≤ 100
short_order i low =
    let a = short_number i (omega (arith, low)) in
    let b = short_number (100 + i) (omega (arith, low)) in
    let c = short_number (200 + i) (omega (arith, low)) in
    let d = short_if (i % 2 == 0) (codes "Optional") (codes "Mandatory") 9 (omega arith) (omega arith) in
    simp length-append (omega (arith, a, b, c, d))

module _ (number : ℕ) where
  short_primitive : (i : ℕ) → i < 1000 → length (primitive_line number i) ≤ 100
  short_primitive i low =
      let a = short_number i (omega (arith, low)) in
      let b = short_draw number (i + 1) 10 (omega arith) (omega arith) in
      let c = short_if (i % 2 == 0) (codes " op monitor interval=10s") [] 24 (omega arith) (omega arith) in
      simp length-append (omega (arith, a, b, c))

  short_location : (i : ℕ) → i < 1000 → length (location_line number i) ≤ 100
  short_location i low =
      let a = short_number i (omega (arith, low)) in
      let b = short_draw number (2 * i + 200) 1000 (omega arith) (omega arith) in
      let c = short_drawn_node number (2 * i + 201) in
      simp length-append (omega (arith, a, b, c))

  short_colocation : (i : ℕ) → i < 1000 → length (colocation_line number i) ≤ 100
  short_colocation i low =
      let a = short_number i (omega (arith, low)) in
      let b = short_draw number (i + 1001) 100 (omega arith) (omega arith) in
      let c = short_number (200 + i) (omega (arith, low)) in
      let d = short_number (100 + i) (omega (arith, low)) in
      simp length-append (omega (arith, a, b, c, d))

  -- the parts of the text

  short_resources : length (resources_text number) ≤ 48000
  short_resources =
      let a = short_lines case_node_line 1 61 (omega arith) (λ i below. short_node i (omega (arith, below))) in
      let b = short_lines (primitive_line number) 1 401 (omega arith) (λ i below. short_primitive i (omega (arith, below))) in
      let c = short_lines group_line 1 21 (omega arith) (λ i below. short_group i (omega (arith, below))) in
      simp length-append (omega (arith, a, b, c))

  short_rules : length (rules_text number) ≤ 55000
  short_rules =
      let a = short_lines (location_line number) 101 401 (omega arith) (λ i below. short_location i (omega (arith, below))) in
      let b = short_lines (colocation_line number) 1 101 (omega arith) (λ i below. short_colocation i (omega (arith, below))) in
      let c = short_lines separation_line 1 51 (omega arith) (λ i below. short_separation i (omega (arith, below))) in
      let d = short_lines order_line 1 101 (omega arith) (λ i below. short_order i (omega (arith, below))) in
      simp length-append (omega (arith, a, b, c, d))

short_results : (node : ℕ) → node < 10000 → length (results_text node) ≤ 100
short_results node low = let d = short_number node low in simp length-append (omega (arith, d))

short_status : length status_text ≤ 6100
short_status = let a = short_lines online_line 1 61 (omega arith) (λ i below. short_online i (omega (arith, below))) in simp length-append (omega (arith, a))

pub short_case : (number : ℕ) → length (case_text number) < 2 ^ 17
short_case number =
    let a = short_resources number in
    let b = short_rules number in
    let c = short_status in
    let e = mod_below (state_after number 1 / 65536) 60 (omega arith) in
    let d = short_results (lost_node number) (omega (arith, e)) in
    let first = resources_text number in
    let second = rules_text number in
    omega (
      arith,
      a,
      b,
      c,
      d,
      length-append first second,
      length-append (first ++ second) status_text,
      length-append (first ++ second ++ status_text) (results_text (lost_node number)),
    )
