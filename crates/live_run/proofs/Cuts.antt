-- The first logical line of a text, and the lines behind it.
use Rattle.std.proofs.Common.{◌≡◌, ℕ, ◌<◌, Bool, true, false, if◌then◌else◌, List, [], ◌∷◌, ◌++◌, length, drop, refl, ap, sym, subst, ◌∙◌, arith}
use Rattle.std.specs.List.{concat}
use Rattle.std.proofs.Math.Seq.{drop-append_seam}
use Rattle.std.proofs.lemmas.List.Folds.{concat-append}
use Rattle.cluster_io.specs.NextLine.{first_line, first_line_of}
use Rattle.crm_lex.specs.RawLines.{physical_lines, goes_on, onto_group, joined, raw_lines}
use Rattle.crm_lex.proofs.PhysicalLines.{Whole, Whole-physical, Whole-front, Whole-back, lines-concat, concat-lines, some_lines}

-- some physical lines are those of the first logical line, and others, of which the groups are the other logical lines
record Grouped (lines : List (List ℕ)) (groups : List (List (List ℕ))) : Type 0 where
  pub front : List (List ℕ)
  pub back : List (List ℕ)
  pub some : 0 < length front
  pub parts : lines ≡ front ++ back
  pub cut : groups ≡ front ∷ joined false back

alone : (line : List ℕ) (lines : List (List ℕ)) → Grouped (line ∷ lines) ((line ∷ []) ∷ joined false lines)
alone line lines = record { front = line ∷ []; back = lines; some = omega arith; parts = refl; cut = refl }

last : (line : List ℕ) → Grouped (line ∷ []) (onto_group line (joined true []))
last line = record { front = line ∷ []; back = []; some = omega arith; parts = refl; cut = refl }

onto : (line : List ℕ) (lines : List (List ℕ)) (groups : List (List (List ℕ))) → Grouped lines groups → Grouped (line ∷ lines) (onto_group line groups)
onto line lines groups g = record {
  front = line ∷ g.front;
  back = g.back;
  some = omega arith;
  parts = ap (λ ls. line ∷ ls) g.parts;
  cut = ap (onto_group line) g.cut;
}

either : (t : Bool) (lines : List (List ℕ)) (one other : List (List (List ℕ))) → Grouped lines one → Grouped lines other
    → Grouped lines (if t then one else other)
either true lines one other g h = g
either false lines one other g h = h

grouped : (continues : Bool) (line : List ℕ) (lines : List (List ℕ)) → Grouped (line ∷ lines) (joined continues (line ∷ lines))
grouped continues line [] =
    either (goes_on continues line) (line ∷ []) (onto_group line (joined true [])) ((line ∷ []) ∷ joined false []) (last line) (alone line [])
grouped continues line (next ∷ more) =
    either (goes_on continues line) (line ∷ next ∷ more) (onto_group line (joined true (next ∷ more))) ((line ∷ []) ∷ joined false (next ∷ more))
    (onto line (next ∷ more) (joined true (next ∷ more)) (grouped true next more)) (alone line (next ∷ more))

-- a text is the bytes of its first logical line, and those of the others
pub record Cut (text : List ℕ) : Type 0 where
  pub raw : List ℕ
  pub rest : List ℕ
  pub some : 0 < length raw
  pub whole : text ≡ raw ++ rest
  pub lines : raw_lines text ≡ physical_lines raw ∷ raw_lines rest

some_bytes : (raw : List ℕ) (lines : List (List ℕ)) → physical_lines raw ≡ lines → 0 < length lines → 0 < length raw
some_bytes [] lines is h = let e : 0 ≡ length lines = ap length is in absurd (omega (arith, e, h))
some_bytes (b ∷ bs) lines is h = omega arith

cut_by : (text : List ℕ) (lines : List (List ℕ)) → physical_lines text ≡ lines → Grouped lines (joined false lines) → Cut text
cut_by text lines is g =
    let both : physical_lines text ≡ g.front ++ g.back = is ∙ g.parts in
    let w : Whole (g.front ++ g.back) = subst Whole both (Whole-physical text) in
    let front : physical_lines (concat g.front) ≡ g.front = lines-concat g.front (Whole-front g.front g.back w) in
    let back : physical_lines (concat g.back) ≡ g.back = lines-concat g.back (Whole-back g.front g.back w) in
    record {
      raw = concat g.front;
      rest = concat g.back;
      some = some_bytes (concat g.front) g.front front g.some;
      whole = sym (concat-lines text) ∙ (ap concat both ∙ concat-append g.front g.back);
      lines = ap (joined false) is ∙ (g.cut ∙ rw (front, back) refl);
    }

pub cut_of : (text : List ℕ) → 0 < length text → Cut text
cut_of text some = by_lines (physical_lines text) refl (some_lines text some)
  where
    by_lines : (lines : List (List ℕ)) → physical_lines text ≡ lines → 0 < length lines → Cut text
    by_lines [] is h = absurd (omega (arith, h))
    by_lines (line ∷ lines) is h = cut_by text (line ∷ lines) is (grouped false line lines)

-- these bytes are the first logical line of a text, and those the others
pub record CutAt (text raw rest : List ℕ) : Type 0 where
  pub some : 0 < length raw
  pub lines : raw_lines text ≡ physical_lines raw ∷ raw_lines rest

pub cut_at : (text raw rest : List ℕ) → text ≡ raw ++ rest → 0 < length text → first_line text ≡ physical_lines raw → CutAt text raw rest
cut_at text raw rest parts some first =
    let k = cut_of text some in
    let lines : physical_lines k.raw ≡ physical_lines raw = sym (ap first_line_of k.lines) ∙ first in
    let same : k.raw ≡ raw = sym (concat-lines k.raw) ∙ (ap concat lines ∙ concat-lines raw) in
    let behind : k.rest ≡ rest
    = sym (drop-append_seam k.raw k.rest) ∙ (ap (drop (length k.raw)) (sym k.whole ∙ parts)
    ∙ (ap (λ (t : List ℕ). drop (length t) (raw ++ rest)) same ∙ drop-append_seam raw rest)) in
    record {
      some = subst (λ (t : List ℕ). 0 < length t) same k.some;
      lines = k.lines ∙ (ap (λ (t : List ℕ). physical_lines t ∷ raw_lines k.rest) same ∙ ap (λ (t : List ℕ). physical_lines raw ∷ raw_lines t) behind);
    }
