-- Lines without a section line.
use Rattle.std.proofs.Common.{◌≡◌, ℕ, not, Bool, true, false, List, [], ◌∷◌, ◌++◌, length, None, refl, ap, arith}
use Rattle.std.specs.List.{list_any, position_or_len, prefix_len}
use Rattle.std.proofs.lemmas.Bool.{or_parts}
use Rattle.crm_lex.specs.Names.{is}
use Rattle.crm_lex.specs.declared.line.Line.{Line}
use Rattle.crm_parse.specs.Marks.{first_word, begins_with, has_percent, is_mark, misplaced}
use Rattle.crm_parse.proofs.Binds.{is-true}

-- none is out of its place
pub all_placed : (last : List ℕ) (before lines : List Line) → list_any is_mark lines ≡ false → misplaced last before lines ≡ None
all_placed last before [] e = refl
all_placed last before (line ∷ lines) e =
    let none = or_parts (is_mark line) (list_any is_mark lines) e in
    rw none.0 (all_placed last (before ++ line ∷ []) lines none.1)

-- and none begins with the name of a section
no_section : (word : List ℕ) (line : Line) → has_percent word ≡ true → is_mark line ≡ false → begins_with word line ≡ false
no_section word line name e = split (is (first_word line.words) word) refl
  where
    split : (t : Bool) → is (first_word line.words) word ≡ t → is (first_word line.words) word ≡ false
    split true same = let first = ap has_percent (is-true (first_word line.words) word same) in cc
    split false same = same

pub at_end : (word : List ℕ) (lines : List Line) → has_percent word ≡ true → list_any is_mark lines ≡ false → position_or_len (begins_with word) lines ≡ length lines
at_end word [] name e = refl
at_end word (line ∷ lines) name e =
    let none = or_parts (is_mark line) (list_any is_mark lines) e in
    let more : prefix_len (λ line. not (begins_with word line)) lines ≡ length lines = at_end word lines name none.1 in
    rw (no_section word line name none.0, more) (omega arith)
