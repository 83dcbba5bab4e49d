-- What is written for clean items is clean, and makes one logical line.
use Rattle.std.proofs.Common.{◌≡◌, ℕ, ◌<◌, Bool, true, false, not, ◌&&◌, ◌||◌, ◌==◌, if◌then◌else◌, List, [], ◌∷◌, ◌++◌, length, refl, sym, subst, ◌∙◌, arith, append_assoc, append-nil}
use Rattle.std.specs.List.{flat_map, list_any, list_all}
use Rattle.std.proofs.lemmas.Bool.{not-true, and_parts, or_parts}
use Rattle.crm_lex.specs.RawLines.{begins_comment, ends_in_backslash, is_blank}
use Rattle.crm_print.specs.Quoting.{Item, escaped, is_plain, item_text, items_line, needs_quotes, quoted, spaced}
use Rattle.crm_print.proofs.Clean.{AllClean, Clean, EachClean, clean-append, clean-ascii, clean-before, clean-behind, clean-nil, clean-one}
use Rattle.crm_print.proofs.Lines.{is_filled}

-- the bytes between double quotes, behind some bytes of the text
clean_escaped : (text run : List ℕ) → Clean (run ++ text) → Clean (run ++ flat_map escaped text)
clean_escaped [] run c = c
clean_escaped (b ∷ bs) run c = split (b == 34 || b == 92) refl (clean_escaped bs)
  where
    ascii : (s t : Bool) → (b == 34) ≡ s → (b == 92) ≡ t → (s || t) ≡ true → b < 128
    ascii true t e f h = grind arith
    ascii false true e f h = grind arith
    ascii false false e f h = cc

    split : (t : Bool) → (b == 34 || b == 92) ≡ t → ((r : List ℕ) → Clean (r ++ bs) → Clean (r ++ flat_map escaped bs))
        → Clean (run ++ ((if t then 92 ∷ b ∷ [] else b ∷ []) ++ flat_map escaped bs))
    split true e more =
        let h = ascii (b == 34) (b == 92) refl refl e in
        clean-append run (92 ∷ b ∷ flat_map escaped bs) (clean-before run b bs h c)
        (clean-append (92 ∷ []) (b ∷ flat_map escaped bs) (clean-ascii (92 ∷ []) refl)
        (clean-append (b ∷ []) (flat_map escaped bs) (clean-one run b bs h c) (more [] (clean-behind run b bs h c))))
    split false e more = subst Clean (append_assoc run (b ∷ []) (flat_map escaped bs)) (more (run ++ b ∷ []) (subst Clean (sym (append_assoc run (b ∷ []) bs)) c))

pub clean_quoted : (word : List ℕ) → Clean word → Clean (quoted word)
clean_quoted word c = split (is_plain word)
  where
    split : (t : Bool) → Clean (if t then word else 34 ∷ (flat_map escaped word ++ 34 ∷ []))
    split true = c
    split false =
        clean-append (34 ∷ []) (flat_map escaped word ++ 34 ∷ []) (clean-ascii (34 ∷ []) refl)
        (clean-append (flat_map escaped word) (34 ∷ []) (clean_escaped word [] c) (clean-ascii (34 ∷ []) refl))

clean_item : (item : Item) → AllClean item → Clean (item_text item)
clean_item [] h = clean-nil
clean_item (part ∷ parts) h = clean-append (quoted part) (item_text parts) (clean_quoted part h.0) (clean_item parts h.1)

clean_spaced : (items : List Item) → EachClean items → Clean (flat_map spaced items)
clean_spaced [] h = clean-nil
clean_spaced (item ∷ items) h =
    clean-append (spaced item) (flat_map spaced items) (clean-append (32 ∷ []) (item_text item) (clean-ascii (32 ∷ []) refl) (clean_item item h.0)) (clean_spaced items h.1)

pub clean_line : (item : Item) (items : List Item) → EachClean (item ∷ items) → Clean (items_line (item ∷ items))
clean_line item items h = clean-append (item_text item) (flat_map spaced items) (clean_item item h.0) (clean_spaced items h.1)

none_of : (a b c d : Bool) → (a || b || c || d) ≡ false → (a ≡ false) × (d ≡ false)
none_of true b c d h = cc
none_of false true c d h = cc
none_of false false true d h = cc
none_of false false false d h = (refl, h)

-- the first byte of a word without quotes
plain_first : (b : ℕ) (bs : List ℕ) → is_plain (b ∷ bs) ≡ true → ((b == 35) ≡ false) × (list_any needs_quotes (b ∷ bs) ≡ false)
unfolding is_plain
plain_first b bs h =
    let k = and_parts (not (length (b ∷ bs) == 0) && not (b == 35)) (not (list_any needs_quotes (b ∷ bs))) h in
    (not-true (b == 35) (and_parts (not (length (b ∷ bs) == 0)) (not (b == 35)) k.0).1, not-true (list_any needs_quotes (b ∷ bs)) k.1)

needs_none : (b : ℕ) (bs : List ℕ) → list_any needs_quotes (b ∷ bs) ≡ false → (is_blank b ≡ false) × ((b == 92) ≡ false)
needs_none b bs h = none_of (is_blank b) (b == 34) (b == 39) (b == 92) (or_parts (needs_quotes b) (list_any needs_quotes bs) h).0

no_comment : (b : ℕ) (bs : List ℕ) → (b == 35) ≡ false → is_blank b ≡ false → begins_comment (b ∷ bs) ≡ false
no_comment b bs e f = by (b == 35) (is_blank b) e f
  where
    by : (s t : Bool) → s ≡ false → t ≡ false → (s || t && begins_comment bs) ≡ false
    by true t e f = cc
    by false true e f = cc
    by false false e f = refl

-- how a word is written begins no comment
quoted_begins : (word rest : List ℕ) → begins_comment (quoted word ++ rest) ≡ false
unfolding is_plain
quoted_begins [] rest = refl
quoted_begins (b ∷ bs) rest = split (is_plain (b ∷ bs)) refl
  where
    split : (t : Bool) → is_plain (b ∷ bs) ≡ t → begins_comment ((if t then b ∷ bs else 34 ∷ (flat_map escaped (b ∷ bs) ++ 34 ∷ [])) ++ rest) ≡ false
    split true e = let f = plain_first b bs e in no_comment b (bs ++ rest) f.0 (needs_none b bs f.1).0
    split false e = refl

pub line_begins : (item : Item) (items : List Item) → is_filled item ≡ true → begins_comment (items_line (item ∷ items)) ≡ false
line_begins [] items h = cc
line_begins (part ∷ parts) items h =
    subst (λ text. begins_comment text ≡ false) (sym (append_assoc (quoted part) (item_text parts) (flat_map spaced items))) (quoted_begins part (item_text parts ++ flat_map spaced items))

-- a text that isn't empty and doesn't end in a backslash: so it stands behind any other
abbrev Closes : List ℕ → Type 0
Closes text = (xs : List ℕ) → ends_in_backslash (xs ++ text) ≡ false

ends_behind : (xs : List ℕ) (b : ℕ) (bs : List ℕ) → ends_in_backslash (xs ++ b ∷ bs) ≡ ends_in_backslash (b ∷ bs)
ends_behind [] b bs = refl
ends_behind (x ∷ []) b bs = refl
ends_behind (x ∷ y ∷ ys) b bs = ends_behind (y ∷ ys) b bs

plain_ends : (b : ℕ) (bs : List ℕ) → list_any needs_quotes (b ∷ bs) ≡ false → ends_in_backslash (b ∷ bs) ≡ false
plain_ends b [] h = (needs_none b [] h).1
plain_ends b (d ∷ ds) h = plain_ends d ds (or_parts (needs_quotes b) (list_any needs_quotes (d ∷ ds)) h).1

quoted_closes : (word : List ℕ) → Closes (quoted word)
unfolding is_plain
quoted_closes [] xs = ends_behind xs 34 (34 ∷ [])
quoted_closes (b ∷ bs) xs = split (is_plain (b ∷ bs)) refl
  where
    split : (t : Bool) → is_plain (b ∷ bs) ≡ t → ends_in_backslash (xs ++ (if t then b ∷ bs else 34 ∷ (flat_map escaped (b ∷ bs) ++ 34 ∷ []))) ≡ false
    split true e = ends_behind xs b bs ∙ plain_ends b bs (plain_first b bs e).1
    split false e = ends_behind xs 34 (flat_map escaped (b ∷ bs) ++ 34 ∷ []) ∙ ends_behind (34 ∷ flat_map escaped (b ∷ bs)) 34 []

closes_behind : (front back : List ℕ) → Closes back → Closes (front ++ back)
closes_behind front back c xs = subst (λ text. ends_in_backslash text ≡ false) (append_assoc xs front back) (c (xs ++ front))

item_closes : (item : Item) → is_filled item ≡ true → Closes (item_text item)
item_closes [] h = cc
item_closes (part ∷ []) h = subst Closes (sym (append-nil (quoted part))) (quoted_closes part)
item_closes (part ∷ next ∷ parts) h = closes_behind (quoted part) (item_text (next ∷ parts)) (item_closes (next ∷ parts) refl)

pub line_closes : (item : Item) (items : List Item) → list_all is_filled (item ∷ items) ≡ true → Closes (items_line (item ∷ items))
line_closes item [] h = subst Closes (sym (append-nil (item_text item))) (item_closes item (and_parts (is_filled item) true h).0)
line_closes item (next ∷ items) h =
    closes_behind (item_text item) (32 ∷ items_line (next ∷ items))
    (closes_behind (32 ∷ []) (items_line (next ∷ items)) (line_closes next items (and_parts (is_filled item) (list_all is_filled (next ∷ items)) h).1))
