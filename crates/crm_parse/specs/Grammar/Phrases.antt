-- A small grammar: how words say values. Each relation holds between words and what they say, and none of them reads: nothing here goes from left to
-- right, or asks one question before another.
use Rattle.std.specs.Prelude.{◌≡◌, ℕ, true, List, [], ◌∷◌, ◌++◌, codes, Option, Some, None}
use Rattle.crm_lex.specs.Names.{is_name}
use Rattle.crm_parse.specs.Reading.{Words}

-- a text says itself
pub data AnyText : List ℕ → List ℕ → Type 0 where
  any_text : (text : List ℕ) → AnyText text text

-- a name says itself
pub data NameSays : List ℕ → List ℕ → Type 0 where
  a_name : (name : List ℕ) → is_name name ≡ true → NameSays name name

-- a word says what a table has for it
pub data TableSays {A : Type 0} (table : List ℕ → Option A) : List ℕ → A → Type 0 where
  in_table : (word : List ℕ) (value : A) → table word ≡ Some value → TableSays table word value

-- a word is a label, and behind it what says the value
pub data LabelSays {A : Type 0} (label : List ℕ) (Says : List ℕ → A → Type 0) : List ℕ → A → Type 0 where
  label_then : (text : List ℕ) (value : A) → Says text value → LabelSays label Says (label ++ text) value

-- a word is what says the value, and a colon
pub data ColonSays {A : Type 0} (Says : List ℕ → A → Type 0) : List ℕ → A → Type 0 where
  then_colon : (text : List ℕ) (value : A) → Says text value → ColonSays Says (text ++ codes ":") value

-- one word that says the value, or no word, which means this
pub data SaysOr {A : Type 0} (Says : List ℕ → A → Type 0) (unsaid : A) : Words → A → Type 0 where
  left_out : SaysOr Says unsaid [] unsaid
  is_said : (word : List ℕ) (value : A) → Says word value → SaysOr Says unsaid (word ∷ []) value

-- no word, which gives no value, or one word that says it
pub data MaySay {A : Type 0} (Says : List ℕ → A → Type 0) : Words → Option A → Type 0 where
  not_given : MaySay Says [] None
  is_given : (word : List ℕ) (value : A) → Says word value → MaySay Says (word ∷ []) (Some value)

-- each word says one value
pub data EachSays {A : Type 0} (Says : List ℕ → A → Type 0) : Words → List A → Type 0 where
  no_word : EachSays Says [] []
  one_word : (word : List ℕ) (value : A) (words : Words) (values : List A) → Says word value → EachSays Says words values
      → EachSays Says (word ∷ words) (value ∷ values)

-- parts one after another, each of them some words that say one value
pub data PartsSay {A : Type 0} (Say : Words → A → Type 0) : Words → List A → Type 0 where
  no_part : PartsSay Say [] []
  one_part : (part : Words) (value : A) (words : Words) (values : List A) → Say part value → PartsSay Say words values
      → PartsSay Say (part ++ words) (value ∷ values)
