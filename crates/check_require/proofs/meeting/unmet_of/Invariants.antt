use Rattle.std.proofs.Common.{◌≡◌, ◌≤◌, ◌++◌, drop, filter, length, not}
use Rattle.check_require.specs.Meeting.{is_met}
use Rattle.check_require.specs.Reports.{report_from}
use Rattle.check_require.specs.Requires.{require_from}
use Rattle.check_require.proofs.meeting.unmet_of.Given as goal

abbrev pub invariant-loop-member : goal.invariant-loop-member
invariant-loop-member l = record {
  found : l.found.items ++ filter (λ m. not (is_met (require_from l.ask) (report_from l.report) m)) (drop l.member-index l.members)
      ≡ filter (λ m. not (is_met (require_from l.ask) (report_from l.report) m)) l.members;
  few : length l.found.items ≤ l.member-index;
}
