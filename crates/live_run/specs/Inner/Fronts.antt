-- Fronts of texts that are put together. No public clause cites this module.
use Rattle.std.proofs.Common.{◌≡◌, ℕ, ◌+◌, ◌≤◌, Option, Some, None, List, [], ◌++◌, length, take, append-nil, append_assoc, length-append, refl, ap, sym, subst, ◌∙◌, arith}
use Rattle.std.proofs.Math.Seq.{take-append-add, take-length}
use Rattle.std.proofs.lemmas.List.{take-append-le}
use Rattle.cluster_io.specs.Streams.{Adds, AddsPrefix}
use Rattle.cluster_io.proofs.Pieces.{Adds-then}
use Rattle.live_run.specs.HeldAndWritten.{WritesInPart, GoesOut, most_held}
use Rattle.run_safety.specs.TwoRuns.{IsFront}

-- nothing is added
pub adds_none : (text : Option (List ℕ)) → Adds text [] text
adds_none None = refl
adds_none (Some t) = ap Some (sym (append-nil t))

-- all of a text is a front of it
pub whole_prefix : (text : List ℕ) (old new : Option (List ℕ)) → Adds old text new → AddsPrefix text old new
whole_prefix text old new a = record { count = length text; within = omega arith; added = subst (λ (t : List ℕ). Adds old t new) (sym (take-length text)) a }

-- a front of a front
pub prefix_first : (first rest : List ℕ) (before after : Option (List ℕ)) → AddsPrefix first before after → AddsPrefix (first ++ rest) before after
prefix_first first rest before after p = record {
  count = p.count;
  within = let w = p.within in omega (arith, w, length-append first rest);
  added = subst (λ (t : List ℕ). Adds before t after) (sym (take-append-le p.count first rest p.within)) p.added;
}

pub front_prefix : (xs text : List ℕ) (old new : Option (List ℕ)) → IsFront xs text → AddsPrefix xs old new → AddsPrefix text old new
front_prefix xs text old new f p = subst (λ (t : List ℕ). AddsPrefix t old new) (sym f.joined) (prefix_first xs f.more old new p)

-- the sink failed before a last text, as what was held back left
pub short_first : (held last : List ℕ) (before after : Option (List ℕ)) → AddsPrefix held before after → length held ≤ most_held → WritesInPart held last before after
unfolding prefix_first
short_first held last before after p small = record { front = prefix_first held last before after p; few_missing = omega (arith, small) }

-- a first part has left before, and of the rest a front was written
pub short_rest : (text last out rest : List ℕ) (before middle after : Option (List ℕ)) → text ++ last ≡ out ++ rest → Adds before out middle
    → (p : AddsPrefix rest middle after) → length text ≤ length out + p.count + most_held → WritesInPart text last before after
short_rest text last out rest before middle after parts a p few = record {
  front = record {
    count = length out + p.count;
    within = let w = p.within in let size = ap length parts in omega (arith, w, size, length-append out rest);
    added = subst (λ (t : List ℕ). Adds before t after) (sym (ap (take (length out + p.count)) parts ∙ take-append-add out rest p.count))
        (Adds-then before middle after out (take p.count rest) a p.added);
  };
  few_missing = few;
}

-- a text was added behind what was held back, and then the sink failed at a last one
pub short_behind : (text held held_then last : List ℕ) (before middle after : Option (List ℕ)) → GoesOut text held held_then before middle
    → WritesInPart held_then last middle after → WritesInPart (held ++ text) last before after
short_behind text held held_then last before middle after a b =
    let size = ap length a.parts in
    let few = b.few_missing in
    short_rest (held ++ text) last a.out (held_then ++ last) before middle after
    (ap (λ (t : List ℕ). t ++ last) a.parts ∙ append_assoc a.out held_then last) a.written b.front (omega (arith, size, few, length-append a.out held_then))
