-- The text of a generated case (rule of this project).
use Rattle.std.specs.Prelude.{ℕ, ◌+◌, ◌-◌, ◌*◌, ◌%◌, ◌==◌, if◌then◌else◌, List, [], ◌∷◌, ◌++◌, codes, decimal}
use Rattle.std.specs.List.{concat, flat_map, range_with_len}
use Rattle.cases.specs.Draws.{draw}

-- the lines of the numbers from a first on, below an end
unfoldable pub lines : (ℕ → List ℕ) → ℕ → ℕ → List ℕ
lines line first below = flat_map line (range_with_len first (below - first))

abbrev pub case_node_line : ℕ → List ℕ
case_node_line i = concat (codes "node n" ∷ decimal i ∷ codes "\n" ∷ [])

-- five members each
abbrev pub group_line : ℕ → List ℕ
group_line k =
    concat
    (codes "group g" ∷ decimal k ∷ codes " r" ∷ decimal (5 * k - 4) ∷ codes " r" ∷ decimal (5 * k - 3) ∷ codes " r"
    ∷ decimal (5 * k - 2) ∷ codes " r" ∷ decimal (5 * k - 1) ∷ codes " r" ∷ decimal (5 * k) ∷ codes "\n" ∷ [])

abbrev pub separation_line : ℕ → List ℕ
separation_line i =
    concat
    (codes "colocation s" ∷ decimal i ∷ codes " -inf: r" ∷ decimal (300 + i) ∷ codes " r" ∷ decimal (200 + i)
    ∷ codes "\n" ∷ [])

abbrev pub kind_word : ℕ → List ℕ
kind_word i = if i % 2 == 0 then codes "Optional" else codes "Mandatory"

abbrev pub order_line : ℕ → List ℕ
order_line i =
    concat
    (codes "order o" ∷ decimal i ∷ codes " " ∷ kind_word i ∷ codes ": r" ∷ decimal (100 + i) ∷ codes " r"
    ∷ decimal (200 + i) ∷ codes "\n" ∷ [])

abbrev pub online_line : ℕ → List ℕ
online_line i = concat (codes "node n" ∷ decimal i ∷ codes " online\n" ∷ [])

-- all nodes are online, and nothing is known of any resource
abbrev pub status_text : List ℕ
status_text = codes "%status\nnow 1000\nquorum yes\n" ++ lines online_line 1 61

-- the node of this number is lost
abbrev pub results_text : ℕ → List ℕ
results_text node = concat (codes "%results\nlost n" ∷ decimal node ∷ codes "\n" ∷ [])

-- those with even numbers have a monitor
abbrev pub monitor_words : ℕ → List ℕ
monitor_words i = if i % 2 == 0 then codes " op monitor interval=10s" else []

abbrev pub primitive_with : ℕ → ℕ → List ℕ
primitive_with i priority =
    concat
    (codes "primitive r" ∷ decimal i ∷ codes " Dummy meta priority=" ∷ decimal priority ∷ monitor_words i ∷ codes "\n"
    ∷ [])

-- the case of a number. The lost node is drawn first, and then what is drawn for the text, in its order: so draws 2 to
-- 401 are the priorities, 402 to 1001 the score and the node of each location, and 1002 to 1101 the scores of
-- colocations
module _ (number : ℕ) where
  -- the number of the lost node
  abbrev pub lost_node : ℕ
  lost_node = draw number 1 60 + 1

  abbrev pub primitive_line : ℕ → List ℕ
  primitive_line i = primitive_with i (draw number (i + 1) 10)

  abbrev pub location_line : ℕ → List ℕ
  location_line i =
      concat
      (codes "location l" ∷ decimal i ∷ codes " r" ∷ decimal i ∷ codes " " ∷ decimal (draw number (2 * i + 200) 1000)
      ∷ codes ": n" ∷ decimal (draw number (2 * i + 201) 60 + 1) ∷ codes "\n" ∷ [])

  abbrev pub colocation_line : ℕ → List ℕ
  colocation_line i =
      concat
      (codes "colocation c" ∷ decimal i ∷ codes " " ∷ decimal (draw number (i + 1001) 100) ∷ codes ": r"
      ∷ decimal (200 + i) ∷ codes " r" ∷ decimal (100 + i) ∷ codes "\n" ∷ [])

  -- 60 nodes, 400 primitives and 20 groups
  abbrev pub resources_text : List ℕ
  resources_text = lines case_node_line 1 61 ++ lines primitive_line 1 401 ++ lines group_line 1 21

  -- 300 locations, 100 colocations, 50 separations and 100 orders
  abbrev pub rules_text : List ℕ
  rules_text =
      lines location_line 101 401 ++ lines colocation_line 1 101 ++ lines separation_line 1 51
      ++ lines order_line 1 101

  abbrev pub case_text : List ℕ
  case_text = resources_text ++ rules_text ++ status_text ++ results_text lost_node
