use Rattle.std.proofs.Common.{◌≤◌, ◌-◌, [], length}
use Rattle.boot_cli.specs.Pieces.{TakesFrom}
use Rattle.boot_cli.proofs.pieces.read_pieces.Given as goal

abbrev pub invariant-loop : goal.invariant-loop
invariant-loop g l = record {
  room : length l.into.items ≤ l.most;
  takes : TakesFrom (g.R.Read.remaining l.fn.reader) [] (g.R.Read.remaining l.reader) l.into.items;
}

abbrev pub decreases-loop : goal.decreases-loop
decreases-loop g l = l.most - length l.into.items
