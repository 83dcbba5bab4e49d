-- Clean texts: of UTF-8, without a byte that no line may have. What of a clean text stands beside an ASCII byte is clean.
use Rattle.std.proofs.Common.{◌≡◌, ℕ, zero, suc, ◌+◌, ◌<◌, Bool, true, false, not, ◌&&◌, ◌||◌, List, [], ◌∷◌, ◌++◌, length, drop, get_or, refl, sym, ap, subst, ◌∙◌, arith, length-append, append_assoc, nat_lt, nat_le, ◌==◌}
use Rattle.std.proofs.lemmas.List.{drop_at, take_at}
use Rattle.std.proofs.lemmas.Str.{IsCharBoundary-after_ascii, IsCharBoundary-before_ascii, IsUtf8-append, IsUtf8-drop, IsUtf8-from_ascii, IsUtf8-take, IsUtf8-nil}
use Rattle.std.specs.List.{list_any, list_all, AllByRecursion}
use Rattle.std.specs.Str.{IsUtf8, IsAscii}
use Rattle.std.proofs.lemmas.Bool.{and_parts, or_parts, not-true}
use Rattle.crm_lex.specs.LogicalLines.{is_control}
use Rattle.crm_lex.specs.Names.{is_name, is_name_byte}

pub record Clean (text : List ℕ) : Type 0 where
  pub utf8 : IsUtf8 text
  pub allowed : list_any is_control text ≡ false

-- texts that are clean, and texts of texts
abbrev pub AllClean : List (List ℕ) → Type 0
AllClean texts = AllByRecursion Clean texts

abbrev pub EachClean : List (List (List ℕ)) → Type 0
EachClean items = AllByRecursion AllClean items

allowed-front : (xs ys : List ℕ) → list_any is_control (xs ++ ys) ≡ false → list_any is_control xs ≡ false
allowed-front [] ys h = refl
allowed-front (x ∷ xs) ys h = let n = or_parts (is_control x) (list_any is_control (xs ++ ys)) h in
    let more = allowed-front xs ys n.1 in rw (n.0, more) refl

allowed-back : (xs ys : List ℕ) → list_any is_control (xs ++ ys) ≡ false → list_any is_control ys ≡ false
allowed-back [] ys h = h
allowed-back (x ∷ xs) ys h = let n = or_parts (is_control x) (list_any is_control (xs ++ ys)) h in allowed-back xs ys n.1

allowed-append : (xs ys : List ℕ) → list_any is_control xs ≡ false → list_any is_control ys ≡ false → list_any is_control (xs ++ ys) ≡ false
allowed-append [] ys h g = g
allowed-append (x ∷ xs) ys h g = let n = or_parts (is_control x) (list_any is_control xs) h in
    let more = allowed-append xs ys n.1 g in rw (n.0, more) refl

at_seam : (xs ys : List ℕ) (b : ℕ) → get_or (xs ++ b ∷ ys) (length xs) 0 ≡ b
at_seam [] ys b = refl
at_seam (x ∷ xs) ys b = at_seam xs ys b

-- what stands before an ASCII byte
pub utf8-before : (xs : List ℕ) (b : ℕ) (ys : List ℕ) → b < 128 → IsUtf8 (xs ++ b ∷ ys) → IsUtf8 xs
utf8-before xs b ys h u =
    let l = length-append xs (b ∷ ys) in
    let e = at_seam xs ys b in
    subst IsUtf8 (take_at xs (b ∷ ys) (length xs) refl) (IsUtf8-take (xs ++ b ∷ ys) (length xs) u (IsCharBoundary-before_ascii (xs ++ b ∷ ys) (length xs) (omega arith) (omega arith)))

-- what stands behind one
pub utf8-behind : (xs : List ℕ) (b : ℕ) (ys : List ℕ) → b < 128 → IsUtf8 (xs ++ b ∷ ys) → IsUtf8 ys
utf8-behind xs b ys h u =
    let l = length-append xs (b ∷ ys) in
    let m = length-append xs (b ∷ []) in
    let e = at_seam xs ys b in
    subst IsUtf8 (ap (drop (length xs + 1)) (sym (append_assoc xs (b ∷ []) ys)) ∙ drop_at (xs ++ b ∷ []) ys (length xs + 1) (omega arith))
    (IsUtf8-drop (xs ++ b ∷ ys) (length xs + 1) u (IsCharBoundary-after_ascii (xs ++ b ∷ ys) (length xs) u (omega arith) (omega arith)))

pub clean-nil : Clean []
clean-nil = record { utf8 = IsUtf8-nil; allowed = refl }

pub clean-before : (xs : List ℕ) (b : ℕ) (ys : List ℕ) → b < 128 → Clean (xs ++ b ∷ ys) → Clean xs
clean-before xs b ys h c = record { utf8 = utf8-before xs b ys h c.utf8; allowed = allowed-front xs (b ∷ ys) c.allowed }

pub clean-behind : (xs : List ℕ) (b : ℕ) (ys : List ℕ) → b < 128 → Clean (xs ++ b ∷ ys) → Clean ys
clean-behind xs b ys h c = record { utf8 = utf8-behind xs b ys h c.utf8; allowed = (or_parts (is_control b) (list_any is_control ys) (allowed-back xs (b ∷ ys) c.allowed)).1 }

pub clean-one : (xs : List ℕ) (b : ℕ) (ys : List ℕ) → b < 128 → Clean (xs ++ b ∷ ys) → Clean (b ∷ [])
clean-one xs b ys h c =
    let one = (or_parts (is_control b) (list_any is_control ys) (allowed-back xs (b ∷ ys) c.allowed)).0 in
    record { utf8 = IsUtf8-from_ascii (b ∷ []) (alone b h); allowed = rw one refl }
  where
    alone : (b : ℕ) → b < 128 → IsAscii (b ∷ [])
    alone b h zero = h
    alone b h (suc i) = omega arith

pub clean-append : (xs ys : List ℕ) → Clean xs → Clean ys → Clean (xs ++ ys)
clean-append xs ys c d = record { utf8 = IsUtf8-append xs ys c.utf8 d.utf8; allowed = allowed-append xs ys c.allowed d.allowed }

-- some ASCII bytes that a line may have
abbrev pub is_clean_byte : ℕ → Bool
is_clean_byte b = nat_lt b 128 && not (is_control b)

clean_byte : (b : ℕ) → is_clean_byte b ≡ true → (b < 128) × (is_control b ≡ false)
clean_byte b h = let k = and_parts (nat_lt b 128) (not (is_control b)) h in (grind arith, not-true (is_control b) k.1)

ascii_bytes : (xs : List ℕ) → list_all is_clean_byte xs ≡ true → IsAscii xs
ascii_bytes [] h i = omega arith
ascii_bytes (x ∷ xs) h zero = (clean_byte x (and_parts (is_clean_byte x) (list_all is_clean_byte xs) h).0).0
ascii_bytes (x ∷ xs) h (suc i) = ascii_bytes xs (and_parts (is_clean_byte x) (list_all is_clean_byte xs) h).1 i

allowed_bytes : (xs : List ℕ) → list_all is_clean_byte xs ≡ true → list_any is_control xs ≡ false
allowed_bytes [] h = refl
allowed_bytes (x ∷ xs) h =
    let g = and_parts (is_clean_byte x) (list_all is_clean_byte xs) h in
    let one = (clean_byte x g.0).1 in
    let more = allowed_bytes xs g.1 in rw (one, more) refl

-- ASCII bytes that a line may have
pub clean-ascii : (xs : List ℕ) → list_all is_clean_byte xs ≡ true → Clean xs
clean-ascii xs h = record { utf8 = IsUtf8-from_ascii xs (ascii_bytes xs h); allowed = allowed_bytes xs h }

name_byte : (b : ℕ) → is_name_byte b ≡ true → is_clean_byte b ≡ true
name_byte b h = outer (nat_le 97 b && nat_le b 122) (nat_le 65 b && nat_le b 90) (nat_le 48 b && nat_le b 57) (b == 95) (b == 45) (b == 46) h
    (λ e. grind arith) (λ e. grind arith) (λ e. grind arith) (λ e. grind arith) (λ e. grind arith) (λ e. grind arith)
  where
    outer : (s t u v w x : Bool) → (s || t || u || v || w || x) ≡ true → (s ≡ true → is_clean_byte b ≡ true) → (t ≡ true → is_clean_byte b ≡ true)
        → (u ≡ true → is_clean_byte b ≡ true) → (v ≡ true → is_clean_byte b ≡ true) → (w ≡ true → is_clean_byte b ≡ true)
        → (x ≡ true → is_clean_byte b ≡ true) → is_clean_byte b ≡ true
    outer true t u v w x h fs ft fu fv fw fx = fs refl
    outer false true u v w x h fs ft fu fv fw fx = ft refl
    outer false false true v w x h fs ft fu fv fw fx = fu refl
    outer false false false true w x h fs ft fu fv fw fx = fv refl
    outer false false false false true x h fs ft fu fv fw fx = fw refl
    outer false false false false false true h fs ft fu fv fw fx = fx refl
    outer false false false false false false h fs ft fu fv fw fx = cc

name_bytes : (xs : List ℕ) → list_all is_name_byte xs ≡ true → list_all is_clean_byte xs ≡ true
name_bytes [] h = refl
name_bytes (x ∷ xs) h =
    let g = and_parts (is_name_byte x) (list_all is_name_byte xs) h in
    let one = name_byte x g.0 in
    let more = name_bytes xs g.1 in rw (one, more) refl

-- a name is clean
pub clean-name : (name : List ℕ) → is_name name ≡ true → Clean name
clean-name name h =
    clean-ascii name (name_bytes name (and_parts (not (length name == 0) && nat_le (length name) 256) (list_all is_name_byte name) h).1)

-- what stands behind some ASCII bytes
pub clean-after : (xs ys : List ℕ) → list_all is_clean_byte xs ≡ true → Clean (xs ++ ys) → Clean ys
clean-after [] ys h c = c
clean-after (x ∷ xs) ys h c =
    let g = and_parts (is_clean_byte x) (list_all is_clean_byte xs) h in
    let k = and_parts (nat_lt x 128) (not (is_control x)) g.0 in
    clean-after xs ys g.1 (clean-behind [] x (xs ++ ys) (grind arith) c)
