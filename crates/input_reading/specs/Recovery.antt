-- How a resource is recovered after a bad exit code (Pacemaker Administration, "How are OCF Return Codes Interpreted?").
use Rattle.std.specs.Prelude.{ℕ, ◌==◌, if◌then◌else◌}
use Rattle.std.specs.List.{list_any}
use Rattle.cluster_types.specs.Failures.{fatal_codes, hard_codes}
use Rattle.input_reading.specs.declared.recovery.Recovery.{Recovery}
use Rattle.input_reading.specs.declared.recovery.Recovery.TheVariants.{Soft, Hard, Fatal}

abbrev pub class_of : ℕ → Recovery
class_of code =
    if list_any (λ each. each == code) hard_codes then Hard else if list_any (λ each. each == code) fatal_codes then Fatal else Soft
