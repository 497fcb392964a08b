use Rattle.std.proofs.Common.{◌+◌, ◌≤◌, length}
use Rattle.script_text.specs.Reading.{HasRoom}
use Rattle.script_text.proofs.ProgressLemmas.{IsSoFar}
use Rattle.script_text.proofs.reading.add_lines.Given as goal

-- the events so far were added, and the others are those of the lines that are left
abbrev pub invariant-lines : goal.invariant-lines
invariant-lines l = record {
  room : HasRoom l.begun;
  few : l.number + length l.rest ≤ length l.text;
  so_far : IsSoFar l.image l.fn.begun l.text (l.number + 1) l.begun l.rest;
}

abbrev pub decreases-lines : goal.decreases-lines
decreases-lines l = length l.rest
