use Rattle.std.proofs.Common.{◌≡◌, ◌++◌}
use Rattle.std.specs.List.{flat_map, range_with_len}
use Rattle.boot_script.specs.Written.{written_event}
use Rattle.script_plan.specs.Loads.{sector_events}
use Rattle.script_plan.proofs.loading.send_sectors.Given as goal

abbrev pub invariant-loop-k : goal.invariant-loop-k
invariant-loop-k l =
    l.out.items ≡ l.fn.out.items
    ++ flat_map written_event (flat_map (sector_events l.at l.image) (range_with_len 0 l.k))
