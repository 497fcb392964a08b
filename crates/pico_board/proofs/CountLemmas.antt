-- What goes on over several calls of a store, and of a sink.
use Rattle.std.proofs.Common.{Bool, true, false, IsTrue, refl, arith}
use Rattle.std.specs.Bool.{OnTrue}
use Rattle.pico_board.specs.Files.{StoreState, GoesOn}
use Rattle.pico_board.specs.Puts.{SinkState, PutsOn}

steady_same : (b : Bool) → OnTrue b (IsTrue b)
steady_same true = refl
steady_same false = tt

steady_then : (a b c : Bool) → OnTrue a (IsTrue b) → OnTrue b (IsTrue c) → OnTrue a (IsTrue c)
steady_then true true c first second = second
steady_then true false c first second = cc
steady_then false b c first second = tt

pub GoesOn-refl : (s : StoreState) → GoesOn s s
GoesOn-refl s = record { reads = omega arith; writes = omega arith; steady = steady_same s.steady }

pub GoesOn-then : (s t u : StoreState) → GoesOn s t → GoesOn t u → GoesOn s u
GoesOn-then s t u first second = record {
  reads = omega (arith, first.reads, second.reads);
  writes = omega (arith, first.writes, second.writes);
  steady = steady_then s.steady t.steady u.steady first.steady second.steady;
}

pub PutsOn-refl : (s : SinkState) → PutsOn s s
PutsOn-refl s = record { faults = omega arith; steady = steady_same s.steady }

pub PutsOn-then : (s t u : SinkState) → PutsOn s t → PutsOn t u → PutsOn s u
PutsOn-then s t u first second = record {
  faults = omega (arith, first.faults, second.faults);
  steady = steady_then s.steady t.steady u.steady first.steady second.steady;
}
