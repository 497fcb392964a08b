use Rattle.std.proofs.Common.{◌≡◌, drop, false}
use Rattle.check_laws.specs.Hosting.{are_hosts}
use Rattle.check_laws.proofs.hosting.are_hosts.Given as goal

-- what is told of the events that are left is told of all
abbrev pub invariant-loop-note : goal.invariant-loop-note
invariant-loop-note l =
    are_hosts l.over l.left (drop l.note-index l.notes) ≡ are_hosts false l.fn.events l.notes
