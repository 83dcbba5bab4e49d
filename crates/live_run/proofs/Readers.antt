-- A reader that was just made.
use Rattle.std.proofs.Common.{◌≡◌, ℕ, ◌^◌, ◌<◌, false, None, [], refl, arith}
use Rattle.cluster_io.specs.Readings.{Reading}
use Rattle.live_run.specs.Heads.{CanGoOn}

-- one that was made for lines of at most 1,048,576 bytes can go on
pub fresh_reader : (reading : Reading) (limit : ℕ) → limit < 2 ^ 32
    → reading ≡ record { held = []; raw = []; number = 0; next = 1; room = limit; longest = 1048576; stop = None; ended = false } → CanGoOn reading
fresh_reader reading limit h is = rw is (record { longest = refl; going = refl; numbered = omega (arith, h) })
