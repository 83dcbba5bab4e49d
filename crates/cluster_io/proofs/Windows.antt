-- What a read leaves in a window.
use Rattle.std.proofs.Common.{◌≡◌, ℕ, ◌+◌, ◌≤◌, Option, List, ◌++◌, length, take, arith, ◌∙◌, refl}
use Rattle.std.proofs.Math.Seq.{take-add}
use Rattle.std.proofs.lemmas.List.{take_at, drop_at, take-append-le, length-take-le}
use borrow.Rule.Slice.PartMut.{put_mid, post_of}
use Rattle.cluster_io.specs.Streams.{ReadsBytes}
use Rattle.cluster_io.specs.Inner.Reads.{Received, reached}
use Rattle.cluster_io.specs.declared.source.ReadStep.{ReadStep}
use Rattle.cluster_io.specs.declared.source.ReadStep.TheVariants as read

-- the bytes up to a place behind the start of a part that was written
taken_behind : (end k n : ℕ) (xs ys : List ℕ) → end ≤ length xs → n ≤ length ys
    → take (end + n) (put_mid end k xs ys) ≡ take end xs ++ take n ys
taken_behind end k n xs ys within fits =
    let front : length (take end xs) ≡ end = length-take-le end xs within in
    let rest = ys ++ post_of end k xs in
    take-add end n (take end xs ++ rest)
    ∙ (rw (take_at (take end xs) rest end front, drop_at (take end xs) rest end front, take-append-le n ys (post_of end k xs) fits) refl)

pub received_behind : (step : ReadStep) (end most k : ℕ) (xs ys : List ℕ) (before after : Option (List ℕ))
    → length ys ≡ most → end + most ≤ length xs → ReadsBytes before after step ys
    → Received step most (take end xs) (reached step end (put_mid end k xs ys)) before after
received_behind (read.Got n) end most k xs ys before after len fits got = record {
  bytes = take n ys;
  some = rw (length-take-le n ys got.1) got.0;
  within = rw (length-take-le n ys got.1) (omega (arith, got.1));
  added = taken_behind end k n xs ys (omega arith) got.1;
  taken = got.2;
}
received_behind read.End end most k xs ys before after len fits ended =
    (take_at (take end xs) (ys ++ post_of end k xs) end (length-take-le end xs (omega arith)), ended.0, ended.1)
received_behind read.Failed end most k xs ys before after len fits same =
    (take_at (take end xs) (ys ++ post_of end k xs) end (length-take-le end xs (omega arith)), same)
