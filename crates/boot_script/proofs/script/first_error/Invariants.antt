use Rattle.std.proofs.Common.{◌≡◌, ◌-◌, ◌≤◌, length}
use Rattle.boot_script.specs.declared.limits.TheConstants.{RECORD_LIMIT}
use Rattle.boot_script.specs.Judging.{first_error}
use Rattle.boot_script.proofs.script.first_error.Given as goal

-- the error of the rest is that of all
abbrev pub invariant-loop : goal.invariant-loop
invariant-loop l = record {
  inside : l.at ≤ length l.bytes;
  same : first_error (RECORD_LIMIT - l.counter) l.bytes l.at ≡ first_error RECORD_LIMIT l.bytes 0;
}
