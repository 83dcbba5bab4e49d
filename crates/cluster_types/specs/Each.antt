-- What "for each .. that .., .." is made of: where the first test passes, so does the second.
use Rattle.std.specs.Prelude.{◌||◌, Bool, not}

abbrev pub implies : Bool → Bool → Bool
implies given wanted = not given || wanted
