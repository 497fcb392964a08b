use Rattle.std.proofs.Common.{◌≡◌, drop, take}
use Rattle.check_records.specs.Erased.{HasErased}
use Rattle.check_records.specs.Unerased.{first_unerased, unerased_from}
use Rattle.check_records.proofs.erasing.first_unerased.Given as goal

-- the set has the sectors that the steps so far erase, and the first of the rest is that of all
abbrev pub invariant-loop-number : goal.invariant-loop-number
invariant-loop-number l = record {
  erased : HasErased l.erased (take l.number l.steps);
  rest : unerased_from (take l.number l.steps) l.number (drop l.number l.steps) ≡ first_unerased l.steps;
}
