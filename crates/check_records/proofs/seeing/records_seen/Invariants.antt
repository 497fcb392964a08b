use Rattle.std.proofs.Common.{◌+◌, ◌<◌, ◌≤◌, drop, length}
use Rattle.boot_script.specs.declared.limits.TheConstants.{RECORD_LIMIT}
use Rattle.boot_script.specs.Scripts.{script_events}
use Rattle.check_records.specs.Noting.{count_in}
use Rattle.check_records.proofs.NotedLemmas.{NotedOn}
use Rattle.check_records.proofs.seeing.records_seen.Given as goal

-- the events before those that are left were noted, and all are few
abbrev pub invariant-loop-event : goal.invariant-loop-event
invariant-loop-event l = record {
  few : l.number + length l.event-iterator < RECORD_LIMIT;
  counted : count_in l.refusals.found ≤ l.number;
  noted : NotedOn l.refusals l.downloads l.number l.event-iterator (drop l.number l.notes) (script_events l.script.bytes.now) l.notes;
}
