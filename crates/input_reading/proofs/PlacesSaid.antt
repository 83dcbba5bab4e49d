-- What stands at a place of a line is said by one word there.
use Rattle.std.proofs.Common.{◌≡◌, ℕ, zero, suc, Bool, true, false, cond, List, [], ◌∷◌, drop, Option, Some, None, Result, Ok, refl, sym, ap, ◌∙◌, subst}
use Rattle.std.specs.Option.{ok_or}
use Rattle.crm_lex.specs.Names.{is}
use Rattle.crm_parse.proofs.Binds.{is-true}
use Rattle.cluster_types.specs.declared.cluster.Cluster.{Cluster}
use Rattle.cluster_types.specs.declared.leaf.Leaf.{Leaf}
use Rattle.cluster_types.specs.declared.node.Node.{Node}
use Rattle.faults.specs.Reading.{◌>>=◌}
use Rattle.faults.proofs.Steps.{bind-ok}
use Rattle.input_reading.specs.declared.words.word_cause.WordCause.{WordCause}
use Rattle.input_reading.specs.declared.words.word_cause.WordCause.TheVariants.{BadValue, UnknownName}
use Rattle.input_reading.specs.Numbers.{read_action_number, read_exit_code, read_seconds}
use Rattle.input_reading.specs.WordPlaces.{WordsOfLine, code_at, leaf_at, line_end_at, node_at, number_at, seconds_at, word_at, yes_at, yes_or_no}
use Rattle.names.specs.Names.{leaf_of_word, node_of_word}
use Rattle.input_reading.specs.Grammar.WordValues.{NamesLeaf, NamesNode, SaysWhether, WritesCode, WritesPositive, WritesSeconds}
use Rattle.input_reading.proofs.NamesSaid.{name-said}
use Rattle.input_reading.proofs.NumbersSaid.{count-said, number-said, whether-said}

pub word-here : (place : ℕ) (words : WordsOfLine) (word : List ℕ) → word_at place words ≡ Ok word → drop place words ≡ word ∷ drop (suc place) words
word-here place [] word e = cc
word-here zero (w ∷ ws) word e = let same : w ≡ word = cc in ap (λ v. v ∷ ws) same
word-here (suc place) (w ∷ ws) word e = word-here place ws word e

pub end-here : (place : ℕ) (words : WordsOfLine) (end : Unit {0}) → line_end_at place words ≡ Ok end → drop place words ≡ []
end-here zero [] end e = refl
end-here (suc place) [] end e = refl
end-here zero (w ∷ ws) end e = cc
end-here (suc place) (w ∷ ws) end e = end-here place ws end e

-- a word says this value, and stands at a place
pub record IsAt {A : Type 0} (Says : List ℕ → A → Type 0) (place : ℕ) (words : WordsOfLine) (value : A) : Type 0 where
  pub word : List ℕ
  pub here : drop place words ≡ word ∷ drop (suc place) words
  pub says : Says word value

pub ok_or-some : {A : Type 0} (found : Option A) (why : WordCause) (value : A) → ok_or found why ≡ Ok value → found ≡ Some value
ok_or-some None why value e = cc
ok_or-some (Some x) why value e = cc

pub ok-one : {A : Type 0} (one other : A) → (let first : Result A WordCause = Ok one in first) ≡ Ok other → one ≡ other
ok-one one other e = cc

pub table-at : {A : Type 0} (Says : List ℕ → A → Type 0) (table : List ℕ → Option A) (why : WordCause)
    → ((word : List ℕ) (value : A) → table word ≡ Some value → Says word value) → (place : ℕ) (words : WordsOfLine) (value : A)
    → (word_at place words >>= (λ word. ok_or (table word) why)) ≡ Ok value → IsAt Says place words value
table-at Says table why told place words value e =
    let (word, at, rest) = bind-ok (word_at place words) (λ word. ok_or (table word) why) value e in
    record { word = word; here = word-here place words word at; says = told word value (ok_or-some (table word) why value rest) }

pub count-at : (place : ℕ) (words : WordsOfLine) (n : ℕ) → number_at place words ≡ Ok n → IsAt WritesPositive place words n
unfolding number_at
count-at place words n e = table-at WritesPositive read_action_number BadValue count-said place words n e

pub code-at : (place : ℕ) (words : WordsOfLine) (code : ℕ) → code_at place words ≡ Ok code → IsAt WritesCode place words code
unfolding code_at
code-at place words code e = table-at WritesCode read_exit_code BadValue (λ word n h. number-said 255 word n h) place words code e

pub seconds-at : (place : ℕ) (words : WordsOfLine) (seconds : ℕ) → seconds_at place words ≡ Ok seconds → IsAt WritesSeconds place words seconds
unfolding seconds_at
seconds-at place words seconds e = table-at WritesSeconds read_seconds BadValue (λ word n h. number-said 1099511627775 word n h) place words seconds e

pub whether-at : (place : ℕ) (words : WordsOfLine) (now : Bool) → yes_at place words ≡ Ok now → IsAt SaysWhether place words now
unfolding yes_at
whether-at place words now e = table-at SaysWhether yes_or_no BadValue whether-said place words now e

pub node-at : (c : Cluster) (place : ℕ) (words : WordsOfLine) (node : ℕ) → node_at c place words ≡ Ok node → IsAt (NamesNode c) place words node
unfolding node_at
node-at c place words node e =
    table-at (NamesNode c) (node_of_word c) UnknownName (λ word n h. name-said (λ (n : Node). n.name) word c.nodes n h) place words node e

pub leaf-at : (c : Cluster) (place : ℕ) (words : WordsOfLine) (leaf : ℕ) → leaf_at c place words ≡ Ok leaf → IsAt (NamesLeaf c) place words leaf
unfolding leaf_at
leaf-at c place words leaf e =
    table-at (NamesLeaf c) (leaf_of_word c) UnknownName (λ word n h. name-said (λ (l : Leaf). l.name) word c.leaves n h) place words leaf e

-- a word in front of others
pub onto : {some more rest : WordsOfLine} (word : List ℕ) → some ≡ word ∷ more → more ≡ rest → some ≡ word ∷ rest
onto word first then_these = first ∙ ap (λ ws. word ∷ ws) then_these

-- the first word is this text
pub begins-with : (words : WordsOfLine) (first text : List ℕ) → words ≡ first ∷ drop 1 words → is first text ≡ true → words ≡ text ∷ drop 1 words
begins-with words first text here h = here ∙ ap (λ w. w ∷ drop 1 words) (is-true first text h)

-- the words are those of a form, and what is made is what was read
pub by-form : {A : Type 0} (Says : WordsOfLine → A → Type 0) (words line : WordsOfLine) (made given : A) → words ≡ line
    → (let read : Result A WordCause = Ok made in read) ≡ Ok given → Says line made → Says words given
by-form Says words line made given whole same says =
    subst (λ ws. Says ws given) (sym whole) (subst (Says line) (ok-one made given same) says)

-- a question is answered, or the next one is asked
pub ask : {P A B : Type 0} (b : Bool) (x : A) (rest : Result A WordCause) (next : A → Result B WordCause) (y : B) → (cond b (Ok x) rest >>= next) ≡ Ok y
    → (b ≡ true → next x ≡ Ok y → P) → ((rest >>= next) ≡ Ok y → P) → P
ask true x rest next y e here more = here refl e
ask false x rest next y e here more = more e

-- two steps that are passed
pub bind-both : {A B : Type 0} (read : Result A WordCause) (next : A → Result B WordCause) (x : A) (y : B) → read ≡ Ok x → next x ≡ Ok y → (read >>= next) ≡ Ok y
bind-both read next x y e h = rw e h

-- a question decides, or the next one is asked
pub choose : {P A B : Type 0} (b : Bool) (x rest : A) (next : A → Result B WordCause) (y : B) → next (cond b x rest) ≡ Ok y → (b ≡ true → next x ≡ Ok y → P)
    → (next rest ≡ Ok y → P) → P
choose true x rest next y e here more = here refl e
choose false x rest next y e here more = more e
