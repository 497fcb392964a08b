use Rattle.std.proofs.Common.{◌≡◌, ◌+◌, ◌<◌, drop, length}
use Rattle.boot_script.specs.declared.limits.TheConstants.{RECORD_LIMIT}
use Rattle.boot_script.specs.Scripts.{script_events}
use Rattle.check_records.specs.Caveats.{skipped_from}
use Rattle.check_records.proofs.caveats.skipped_in.Given as goal

-- the rest decides
abbrev pub invariant-loop-event : goal.invariant-loop-event
invariant-loop-event l = record {
  few : l.number + length l.event-iterator < RECORD_LIMIT;
  rest : skipped_from l.len l.number l.event-iterator (drop l.number l.notes)
      ≡ skipped_from l.len 0 (script_events l.script.bytes.now) l.notes;
}
