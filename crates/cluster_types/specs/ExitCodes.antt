-- The exit codes of resource agents (OCF Resource Agent API 1.1, exit status codes; Pacemaker Administration, "How are OCF Return Codes Interpreted?").
use Rattle.std.specs.Prelude.{ℕ}

abbrev pub success : ℕ
success = 0

abbrev pub err_generic : ℕ
err_generic = 1

abbrev pub err_args : ℕ
err_args = 2

abbrev pub err_unimplemented : ℕ
err_unimplemented = 3

abbrev pub err_perm : ℕ
err_perm = 4

abbrev pub err_installed : ℕ
err_installed = 5

abbrev pub err_configured : ℕ
err_configured = 6

abbrev pub not_running : ℕ
not_running = 7

abbrev pub running_promoted : ℕ
running_promoted = 8

abbrev pub failed_promoted : ℕ
failed_promoted = 9

abbrev pub degraded : ℕ
degraded = 190

abbrev pub degraded_promoted : ℕ
degraded_promoted = 191
