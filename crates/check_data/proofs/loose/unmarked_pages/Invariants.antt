use Rattle.std.proofs.Common.{◌≡◌, ◌-◌, ◌++◌, false, replicate}
use Rattle.check_data.proofs.loose.unmarked_pages.Given as goal

-- the pages so far and the others are all
abbrev pub invariant-loop : goal.invariant-loop
invariant-loop l = l.pages.items ++ replicate (l.count - l.counter) false ≡ replicate l.count false
