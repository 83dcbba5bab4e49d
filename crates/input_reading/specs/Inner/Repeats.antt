-- What a status may tell once, found by hashing (a rule of this project).
use Rattle.std.specs.Prelude.{◌≡◌, ℕ, nat_eq, ◌==◌, ◌&&◌, ◌||◌, Bool, false, List}
use Rattle.std.specs.HashSet.{contains}
use Rattle.input_reading.specs.declared.status.line_meaning.Fact.{Fact}
use Rattle.input_reading.specs.declared.status.line_meaning.Fact.TheVariants.{Now, Quorum, Node, Past, Promoting}
use Rattle.input_reading.specs.declared.status.told_keys.ToldKeys.{ToldKeys}
use Rattle.input_reading.specs.FirstJournal.{is_again, is_repeated}

-- a leaf and a node are the same as another leaf and node
abbrev pub is_same_pair : ℕ × ℕ → ℕ × ℕ → Bool
is_same_pair one other = one.0 == other.0 && one.1 == other.1

-- the line tells again what the keys have
abbrev pub has_told : ToldKeys → Fact → Bool
has_told keys (Now seconds) = keys.moment
has_told keys (Quorum now) = keys.quorum
has_told keys (Node node word) = contains nat_eq keys.nodes node
has_told keys (Past event) = false
has_told keys (Promoting promotion) = contains is_same_pair keys.cells (promotion.leaf, promotion.node)

-- the keys have what the lines told that may be told once, and nothing else
abbrev pub HasToldKeysOf : ToldKeys → List Fact → Type 0
HasToldKeysOf keys lines = (line : Fact) → has_told keys line ≡ is_repeated lines line

-- the keys with what one more line tells
abbrev pub AddsKey : ToldKeys → ToldKeys → Fact → Type 0
AddsKey old new told = (line : Fact) → has_told new line ≡ (has_told old line || is_again told line)
