-- A result line is read by its first eight words.
use Rattle.std.proofs.Common.{◌≡◌, ℕ, List, take, refl, ap, arith, Result, Ok, Err}
use Rattle.std.specs.List.{slice_get}
use Rattle.cluster_types.specs.declared.cluster.Cluster.{Cluster}
use Rattle.crm_lex.specs.Reading.{Kept, kept}
use Rattle.faults.specs.Reading.{◌>>=◌}
use Rattle.input_reading.specs.declared.words.word_cause.WordCause.{WordCause}
use Rattle.input_reading.specs.WordPlaces.{WordsOfLine, code_at, line_end_at, leaf_at, node_at, number_at, seconds_at, word_at, yes_at}
use Rattle.input_reading.proofs.Kept.{get_within}
use Rattle.input_reading.specs.declared.results.answers.ResultWord.{ResultWord}
use Rattle.input_reading.specs.declared.results.answers.ResultWord.TheVariants.{End, Timeout, Lost, Up, Quorum, Wait, Report}
use Rattle.input_reading.specs.Results.{answer_as, answer_of, end_line, lost_line, quorum_answer, report_line, result_of, result_word, timeout_line, up_line, wait_line}

-- two lists of words say the same at the places that a result line has
pub record SaySame (some all : WordsOfLine) : Type 0 where
  pub first : slice_get some 0 ≡ slice_get all 0
  pub second : slice_get some 1 ≡ slice_get all 1
  pub third : slice_get some 2 ≡ slice_get all 2
  pub fourth : slice_get some 3 ≡ slice_get all 3
  pub fifth : slice_get some 4 ≡ slice_get all 4
  pub sixth : slice_get some 5 ≡ slice_get all 5

eight_say_same : (all : WordsOfLine) → SaySame (take 8 all) all
eight_say_same all = record {
  first = get_within 8 0 all (omega arith);
  second = get_within 8 1 all (omega arith);
  third = get_within 8 2 all (omega arith);
  fourth = get_within 8 3 all (omega arith);
  fifth = get_within 8 4 all (omega arith);
  sixth = get_within 8 5 all (omega arith);
}

module _ (c : Cluster) (moment : ℕ) (some all : WordsOfLine) (s : SaySame some all) where
  end_is : (place : ℕ) → slice_get some place ≡ slice_get all place → line_end_at place some ≡ line_end_at place all
  end_is place e = rw (e, line_end_at) refl

  ends : end_line some ≡ end_line all
  unfolding end_line number_at code_at
  ends = rw (s.second, s.third, end_is 3 s.fourth) refl

  times_out : timeout_line some ≡ timeout_line all
  unfolding timeout_line number_at
  times_out = rw (s.second, end_is 2 s.third) refl

  loses : lost_line c some ≡ lost_line c all
  unfolding lost_line node_at
  loses = rw (s.second, end_is 2 s.third) refl

  joins : up_line c some ≡ up_line c all
  unfolding up_line node_at
  joins = rw (s.second, end_is 2 s.third) refl

  says_quorum : quorum_answer some ≡ quorum_answer all
  unfolding quorum_answer yes_at
  says_quorum = rw (s.second, end_is 2 s.third) refl

  waits : wait_line moment some ≡ wait_line moment all
  unfolding wait_line seconds_at
  waits = rw (s.second, end_is 2 s.third) refl

  reports : report_line c some ≡ report_line c all
  unfolding report_line node_at leaf_at number_at code_at
  reports = rw (s.second, s.third, s.fourth, s.fifth, end_is 5 s.sixth) refl

  same_as : (form : ResultWord) → answer_as c moment form some ≡ answer_as c moment form all
  same_as End = ends
  same_as Timeout = times_out
  same_as Lost = loses
  same_as Up = joins
  same_as Quorum = says_quorum
  same_as Wait = waits
  same_as Report = reports

same_by : (c : Cluster) (moment : ℕ) (some all : WordsOfLine) (s : SaySame some all) (form : Result ResultWord WordCause)
    → (form >>= λ f. answer_as c moment f some) ≡ (form >>= λ f. answer_as c moment f all)
same_by c moment some all s (Ok form) = same_as c moment some all s form
same_by c moment some all s (Err cause) = refl

same_first : (c : Cluster) (moment : ℕ) (some all : WordsOfLine) (s : SaySame some all) (first : Result (List ℕ) WordCause)
    → (first >>= λ word. result_word word >>= λ f. answer_as c moment f some) ≡ (first >>= λ word. result_word word >>= λ f. answer_as c moment f all)
same_first c moment some all s (Ok word) = same_by c moment some all s (result_word word)
same_first c moment some all s (Err cause) = refl

same_answer : (c : Cluster) (moment : ℕ) (some all : WordsOfLine) (s : SaySame some all) → answer_of c moment some ≡ answer_of c moment all
unfolding answer_of
same_answer c moment some all s = rw s.first (same_first c moment some all s (word_at 0 all))

-- a result line reads the same by its first eight words
pub read_by_eight : (c : Cluster) (moment before line : ℕ) (all : WordsOfLine)
    → result_of c moment before line (take 8 all) ≡ result_of c moment before line all
read_by_eight c moment before line all = rw (same_answer c moment (take 8 all) all (eight_say_same all)) refl

-- so the words that are kept of a line are enough
pub kept_suffice : (c : Cluster) (moment before line : ℕ) (words : Kept) (all : WordsOfLine) → words ≡ kept all
    → result_of c moment before line words.first ≡ result_of c moment before line all
kept_suffice c moment before line words all e = let first : words.first ≡ take 8 all = ap (λ (k : Kept). k.first) e in rw first (read_by_eight c moment before line all)
