use Rattle.std.proofs.Common.{◌≡◌, drop}
use Rattle.check_counts.specs.Tallies.{first_seen, with_seen}
use Rattle.check_counts.proofs.seen.add_firsts.Given as goal

abbrev pub invariant-loop-caveat : goal.invariant-loop-caveat
invariant-loop-caveat l =
    with_seen (first_seen l.former l.end l.cuts) l.seen.items (drop l.caveat-index l.list)
    ≡ with_seen (first_seen l.former l.end l.cuts) l.initial.seen.items l.list
