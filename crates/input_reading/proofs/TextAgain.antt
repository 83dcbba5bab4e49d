-- The text of the lines that a run prints is read as the same lines.
use Rattle.std.proofs.Common.{arith, ◌≡◌, ◌<◌, ◌≤◌, ◌+◌, ◌*◌, ◌==◌, ◌&&◌, nat_le, not, ℕ, true, false, Ok, List, [], ◌∷◌, ◌++◌, length, length-append, map, append_assoc, append-nil, refl, sym, ap, subst, ◌∙◌}
use Rattle.std.specs.Fmt.{decimal}
use Rattle.std.specs.List.{AllByRecursion, flat_map, list_all, list_any}
use Rattle.std.proofs.lemmas.Bool.{and_parts, false_from_ne_true}
use Rattle.std.proofs.lemmas.Bool.Decides.{nat_tests}
use Rattle.cluster_types.specs.declared.cluster.Cluster.{Cluster}
use Rattle.cluster_types.specs.declared.journal.Action.{Action}
use Rattle.cluster_types.specs.declared.journal.Action.TheVariants.{Fence, Probe, Operation, MigrateTo, MigrateFrom}
use Rattle.cluster_types.specs.declared.journal.Answer.{Answer}
use Rattle.cluster_types.specs.declared.journal.Answer.TheVariants as answer
use Rattle.cluster_types.specs.declared.leaf.Op.TheVariants.{Start, Stop, Promote, Demote, Monitor}
use Rattle.cluster_types.specs.declared.placement.NoReason.TheVariants.{NoCopies, Stopped, OnFail, StopAll, NoQuorum, NoNode, Held}
use Rattle.cluster_types.specs.declared.placement.Pin.TheVariants.{Unmanaged, Blocked}
use Rattle.cluster_types.specs.declared.placement.Target.TheVariants.{Nowhere, Started, Promoted}
use Rattle.cluster_types.specs.declared.run.RunLine.{RunLine}
use Rattle.cluster_types.specs.declared.run.RunLine.TheVariants as line
use Rattle.cluster_types.specs.Texts.{run_line}
use Rattle.cluster_types.specs.Valid.{IsValid}
use Rattle.crm_lex.specs.Names.{is_name, is_name_byte}
use Rattle.crm_lex.specs.Reading.{reads}
use Rattle.crm_print.proofs.Clean.{EachClean, clean-name}
use Rattle.crm_print.specs.Items.{word}
use Rattle.crm_print.specs.Quoting.{Item, begins_with_hash, is_plain, items_line, needs_quotes, quoted, spaced}
use Rattle.crm_print.specs.Inner.Quoting.{item_word}
use Rattle.crm_print.proofs.Lines.{is_filled}
use Rattle.crm_print.proofs.TextReads.{Readable, ended_lines, text-reads}
use Rattle.crm_print.proofs.TextReads as text
use Rattle.input_reading.specs.WordPlaces.{WordsOfLine}
use Rattle.input_reading.specs.declared.run.text.RunTextLine.{RunTextLine}
use Rattle.input_reading.specs.RunReading.{text_line, with_run_lines}
use Rattle.input_reading.specs.PrintedLines.{IsActionOf, IsAnswerOf, IsLineOf, IsNumber, ReadsAgain, with_line_numbers}
use Rattle.input_reading.proofs.LinesAgain.{line_again}
use Rattle.input_reading.proofs.Names.{leaf_is_name, node_is_name}
use Rattle.input_reading.proofs.Numbers.{number_is_name}
use Rattle.input_reading.proofs.WordsOfLines.{action_words, answer_words, joined, line-joined, line_words}

abbrev IsName : List ℕ → Type 0
IsName w = is_name w ≡ true

-- a byte that no name has
pub no_byte : (b x : ℕ) → is_name_byte x ≡ false → is_name_byte b ≡ true → (b == x) ≡ false
no_byte b x never named =
    false_from_ne_true (b == x)
    (λ e. let same : b ≡ x = grind (arith, nat_tests) in let both : is_name_byte x ≡ true = subst (λ y. is_name_byte y ≡ true) same named in cc)

unquoted : (b : ℕ) → is_name_byte b ≡ true → needs_quotes b ≡ false
unquoted b h =
    let tab = no_byte b 9 refl h in
    let space = no_byte b 32 refl h in
    let double = no_byte b 34 refl h in
    let single = no_byte b 39 refl h in
    let backslash = no_byte b 92 refl h in
    rw (tab, space, double, single, backslash) refl

unquoted_bytes : (bs : List ℕ) → list_all is_name_byte bs ≡ true → list_any needs_quotes bs ≡ false
unquoted_bytes [] h = refl
unquoted_bytes (b ∷ bs) h =
    let parts = and_parts (is_name_byte b) (list_all is_name_byte bs) h in
    let first = unquoted b parts.0 in
    let rest = unquoted_bytes bs parts.1 in
    rw (first, rest) refl

no_comment : (bs : List ℕ) → list_all is_name_byte bs ≡ true → begins_with_hash bs ≡ false
no_comment [] h = refl
no_comment (b ∷ bs) h = no_byte b 35 refl (and_parts (is_name_byte b) (list_all is_name_byte bs) h).0

-- a name stands for itself
plain_name : (w : List ℕ) → IsName w → is_plain w ≡ true
unfolding is_plain
plain_name w h =
    let parts = and_parts (not (length w == 0) && nat_le (length w) 256) (list_all is_name_byte w) h in
    let some = (and_parts (not (length w == 0)) (nat_le (length w) 256) parts.0).0 in
    let hash = no_comment w parts.1 in
    let bytes = unquoted_bytes w parts.1 in
    rw (some, hash, bytes) refl

short_name : (w : List ℕ) → IsName w → length w ≤ 256
short_name w h =
    let parts = and_parts (not (length w == 0) && nat_le (length w) 256) (list_all is_name_byte w) h in
    let low = (and_parts (not (length w == 0)) (nat_le (length w) 256) parts.0).1 in
    grind (arith, nat_tests)

written_name : (w : List ℕ) → IsName w → quoted w ++ [] ≡ w
written_name w h = let plain = plain_name w h in rw plain (append-nil w)

-- names behind spaces
spaced-names : (ws : WordsOfLine) → AllByRecursion IsName ws → flat_map spaced (map word ws) ≡ flat_map (λ (w : List ℕ). 32 ∷ w) ws
spaced-names [] h = refl
spaced-names (w ∷ ws) h =
    let first = written_name w h.0 in
    let rest = spaced-names ws h.1 in
    rw (first, rest) refl

line-names : (ws : WordsOfLine) → AllByRecursion IsName ws → items_line (map word ws) ≡ joined ws
line-names [] h = refl
line-names (w ∷ ws) h =
    let first = written_name w h.0 in
    let rest = spaced-names ws h.1 in
    rw (first, rest) refl

filled-names : (ws : WordsOfLine) → list_all is_filled (map word ws) ≡ true
filled-names [] = refl
filled-names (w ∷ ws) = filled-names ws

clean-names : (ws : WordsOfLine) → AllByRecursion IsName ws → EachClean (map word ws)
clean-names [] h = tt
clean-names (w ∷ ws) h = ((clean-name w h.0, tt), clean-names ws h.1)

short-names : (ws : WordsOfLine) → AllByRecursion IsName ws → length (flat_map (λ (w : List ℕ). 32 ∷ w) ws) ≤ 257 * length ws
short-names [] h = omega arith
short-names (w ∷ ws) h =
    let first = short_name w h.0 in
    let rest = short-names ws h.1 in
    omega (arith, length-append (32 ∷ w) (flat_map (λ (v : List ℕ). 32 ∷ v) ws))

-- a line of a few names can be read
readable-names : (w : List ℕ) (ws : WordsOfLine) → AllByRecursion IsName (w ∷ ws) → length ws ≤ 8 → Readable (map word (w ∷ ws))
readable-names w ws h few =
    let first = short_name w h.0 in
    let rest = short-names ws h.1 in
    let size = length-append w (flat_map (λ (v : List ℕ). 32 ∷ v) ws) in
    let short : nat_le (length (joined (w ∷ ws))) 1048576 ≡ true
    = (let low : length (joined (w ∷ ws)) ≤ 1048576 = omega (arith, first, rest, size, few) in grind (arith, nat_tests)) in
    record {
      first = word w;
      others = map word ws;
      are = refl;
      filled = filled-names (w ∷ ws);
      clean = clean-names (w ∷ ws) h;
      short = rw (line-names (w ∷ ws) h) short;
    }

number_name : (k : ℕ) → IsNumber k → IsName (decimal k)
number_name k is = number_is_name k (omega (arith, is.high))

code_name : (code : ℕ) → code < 256 → IsName (decimal code)
code_name code h = number_is_name code (omega (arith, h))

module _ (c : Cluster) (valid : IsValid c) where
  -- each word of a line is written as a name is
  action_names : (a : Action) → IsActionOf c a → AllByRecursion IsName (action_words c a)
  action_names (Fence n) h = (refl, (node_is_name c valid n h, tt))
  action_names (Probe r n) h = (refl, (leaf_is_name c valid r h.leaf, (node_is_name c valid n h.node, tt)))
  action_names (Operation Start r n interval role) h = (refl, (leaf_is_name c valid r (h.0).leaf, (node_is_name c valid n (h.0).node, tt)))
  action_names (Operation Stop r n interval role) h = (refl, (leaf_is_name c valid r (h.0).leaf, (node_is_name c valid n (h.0).node, tt)))
  action_names (Operation Promote r n interval role) h = (refl, (leaf_is_name c valid r (h.0).leaf, (node_is_name c valid n (h.0).node, tt)))
  action_names (Operation Demote r n interval role) h = (refl, (leaf_is_name c valid r (h.0).leaf, (node_is_name c valid n (h.0).node, tt)))
  action_names (Operation Monitor r n interval role) h =
      (refl, (leaf_is_name c valid r (h.0).leaf, (node_is_name c valid n (h.0).node, (number_name interval h.1, tt))))
  action_names (MigrateTo r source target) h =
      (refl, (leaf_is_name c valid r (h.0).leaf, (node_is_name c valid source (h.0).node, (node_is_name c valid target h.1, tt))))
  action_names (MigrateFrom r source target) h =
      (refl, (leaf_is_name c valid r (h.0).leaf, (node_is_name c valid source (h.0).node, (node_is_name c valid target h.1, tt))))

  answer_names : (given : Answer) → IsAnswerOf c given → AllByRecursion IsName (answer_words c given)
  answer_names (answer.End k code) h = (refl, (number_name k h.0, (code_name code h.1, tt)))
  answer_names (answer.Timeout k) h = (refl, (number_name k h, tt))
  answer_names (answer.Lost n) h = (refl, (node_is_name c valid n h, tt))
  answer_names (answer.Up n) h = (refl, (node_is_name c valid n h, tt))
  answer_names (answer.Quorum true) h = (refl, (refl, tt))
  answer_names (answer.Quorum false) h = (refl, (refl, tt))
  answer_names (answer.Wait seconds) h = (refl, (number_is_name seconds (omega (arith, h)), tt))
  answer_names (answer.Report n r interval code) h =
      (refl, (node_is_name c valid n (h.0).node, (leaf_is_name c valid r (h.0).leaf, (number_name interval h.1, (code_name code h.2, tt)))))

  line_names : (l : RunLine) → IsLineOf c l → AllByRecursion IsName (line_words c l)
  line_names (line.Transition k) h = (refl, (number_name k h, tt))
  line_names (line.Pinned r Unmanaged) h = (refl, (leaf_is_name c valid r h, (refl, tt)))
  line_names (line.Pinned r Blocked) h = (refl, (leaf_is_name c valid r h, (refl, tt)))
  line_names (line.Goal r n Nowhere) h = absurd h.1
  line_names (line.Goal r n Started) h = (refl, (leaf_is_name c valid r (h.0).leaf, (node_is_name c valid n (h.0).node, (refl, tt))))
  line_names (line.Goal r n Promoted) h = (refl, (leaf_is_name c valid r (h.0).leaf, (node_is_name c valid n (h.0).node, (refl, tt))))
  line_names (line.Lacking r NoCopies) h = (refl, (leaf_is_name c valid r h, (refl, tt)))
  line_names (line.Lacking r Stopped) h = (refl, (leaf_is_name c valid r h, (refl, tt)))
  line_names (line.Lacking r OnFail) h = (refl, (leaf_is_name c valid r h, (refl, tt)))
  line_names (line.Lacking r StopAll) h = (refl, (leaf_is_name c valid r h, (refl, tt)))
  line_names (line.Lacking r NoQuorum) h = (refl, (leaf_is_name c valid r h, (refl, tt)))
  line_names (line.Lacking r NoNode) h = (refl, (leaf_is_name c valid r h, (refl, tt)))
  line_names (line.Lacking r (Held id)) h = (refl, (leaf_is_name c valid r h.0, (refl, (h.1, tt))))
  line_names (line.Begin k a) h = (refl, (number_name k h.0, action_names a h.1))
  line_names (line.Taken given) h = answer_names given h
  line_names (line.Complete k) h = (refl, (number_name k h, tt))
  line_names (line.Aborted k) h = (refl, (number_name k h, tt))
  line_names (line.Unexpected l) h = (refl, (number_name l h, tt))

-- no line has many words
record Few (ws : WordsOfLine) : Type 0 where
  first : List ℕ
  others : WordsOfLine
  are : ws ≡ first ∷ others
  few : length others ≤ 8

few : (w : List ℕ) (ws : WordsOfLine) → length ws ≤ 8 → Few (w ∷ ws)
few w ws h = record { first = w; others = ws; are = refl; few = h }

module _ (c : Cluster) where
  few_begin : (k : ℕ) (a : Action) → Few (line_words c (line.Begin k a))
  few_begin k (Fence n) = few _ _ (omega arith)
  few_begin k (Probe r n) = few _ _ (omega arith)
  few_begin k (Operation Start r n interval role) = few _ _ (omega arith)
  few_begin k (Operation Stop r n interval role) = few _ _ (omega arith)
  few_begin k (Operation Promote r n interval role) = few _ _ (omega arith)
  few_begin k (Operation Demote r n interval role) = few _ _ (omega arith)
  few_begin k (Operation Monitor r n interval role) = few _ _ (omega arith)
  few_begin k (MigrateTo r source target) = few _ _ (omega arith)
  few_begin k (MigrateFrom r source target) = few _ _ (omega arith)

  few_words : (l : RunLine) → Few (line_words c l)
  few_words (line.Transition k) = few _ _ (omega arith)
  few_words (line.Pinned r pin) = few _ _ (omega arith)
  few_words (line.Goal r n target) = few _ _ (omega arith)
  few_words (line.Lacking r NoCopies) = few _ _ (omega arith)
  few_words (line.Lacking r Stopped) = few _ _ (omega arith)
  few_words (line.Lacking r OnFail) = few _ _ (omega arith)
  few_words (line.Lacking r StopAll) = few _ _ (omega arith)
  few_words (line.Lacking r NoQuorum) = few _ _ (omega arith)
  few_words (line.Lacking r NoNode) = few _ _ (omega arith)
  few_words (line.Lacking r (Held id)) = few _ _ (omega arith)
  few_words (line.Begin k a) = few_begin k a
  few_words (line.Taken (answer.End k code)) = few _ _ (omega arith)
  few_words (line.Taken (answer.Timeout k)) = few _ _ (omega arith)
  few_words (line.Taken (answer.Lost n)) = few _ _ (omega arith)
  few_words (line.Taken (answer.Up n)) = few _ _ (omega arith)
  few_words (line.Taken (answer.Quorum true)) = few _ _ (omega arith)
  few_words (line.Taken (answer.Quorum false)) = few _ _ (omega arith)
  few_words (line.Taken (answer.Wait seconds)) = few _ _ (omega arith)
  few_words (line.Taken (answer.Report n r interval code)) = few _ _ (omega arith)
  few_words (line.Complete k) = few _ _ (omega arith)
  few_words (line.Aborted k) = few _ _ (omega arith)
  few_words (line.Unexpected l) = few _ _ (omega arith)

  -- the items of a line
  abbrev items : RunLine → List Item
  items l = map word (line_words c l)

words-again : (ws : WordsOfLine) → map item_word (map word ws) ≡ ws
words-again [] = refl
words-again (w ∷ ws) = let first : item_word (word w) ≡ w = append-nil w in let rest = words-again ws in rw (first, rest) refl

module _ (c : Cluster) (valid : IsValid c) where
  readable_line : (l : RunLine) → IsLineOf c l → Readable (items c l)
  readable_line l h =
      let f = few_words c l in
      subst (λ ws. Readable (map word ws)) (sym f.are)
      (readable-names f.first f.others (subst (AllByRecursion IsName) f.are (line_names c valid l h)) f.few)

  readable_lines : (lines : List RunLine) → AllByRecursion (IsLineOf c) lines → AllByRecursion Readable (map (items c) lines)
  readable_lines [] h = tt
  readable_lines (l ∷ lines) h = (readable_line l h.0, readable_lines lines h.1)

  text_is : (lines : List RunLine) → AllByRecursion (IsLineOf c) lines → flat_map (run_line c) lines ≡ ended_lines (map (items c) lines)
  text_is [] h = refl
  text_is (l ∷ lines) h =
      let first : run_line c l ≡ items_line (items c l) ++ 10 ∷ []
      = line-joined c l ∙ ap (λ t. t ++ 10 ∷ []) (sym (line-names (line_words c l) (line_names c valid l h.0))) in
      let rest = text_is lines h.1 in
      rw (first, rest) refl

  one_again : (at : ℕ) (l : RunLine) → IsLineOf c l
      → text_line c (record { line = at; words = map item_word (items c l) }) ≡ Ok (record { line = at; what = l })
  one_again at l h =
      let words = words-again (line_words c l) in
      let same = line_again c valid l h in
      rw (words, same) refl

  lines_again : (at : ℕ) (so_far : List RunTextLine) (lines : List RunLine) → AllByRecursion (IsLineOf c) lines
      → with_run_lines c so_far (text.numbered at (map (items c) lines)) ≡ Ok (so_far ++ with_line_numbers at lines)
  lines_again at so_far [] h = ap Ok (sym (append-nil so_far))
  lines_again at so_far (l ∷ lines) h =
      let first = one_again at l h.0 in
      let one : RunTextLine = record { line = at; what = l } in
      let rest = lines_again (at + 1) (so_far ++ one ∷ []) lines h.1 in
      rw first (rest ∙ ap Ok (append_assoc so_far (one ∷ []) (with_line_numbers (at + 1) lines)))

  pub text_again : (lines : List RunLine) → AllByRecursion (IsLineOf c) lines → ReadsAgain c lines
  text_again lines h = record {
    read = text.numbered 1 (map (items c) lines);
    are_lines = ap reads (text_is lines h) ∙ text-reads (map (items c) lines) (readable_lines lines h);
    same = lines_again 1 [] lines h;
  }
