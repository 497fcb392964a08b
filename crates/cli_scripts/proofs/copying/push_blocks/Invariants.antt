use Rattle.std.proofs.Common.{◌≡◌, ◌-◌, ◌*◌, ◌/◌, ◌≤◌, ◌++◌, length}
use Rattle.std.specs.List.{flat_map}
use Rattle.boot_script.specs.Events.{Uf2}
use Rattle.boot_script.specs.Written.{written_event}
use Rattle.cli_scripts.specs.Copies.{blocks_in}
use Rattle.cli_scripts.proofs.copying.push_blocks.Given as goal

-- the events of the rest behind those that were appended are those of all blocks
abbrev pub invariant-loop : goal.invariant-loop
invariant-loop l = record {
  inside : 512 * (length l.uf2 / 512 - l.counter) ≤ length l.rest;
  same : l.script.items ++ flat_map (λ block. written_event (Uf2 block))
      (blocks_in (length l.uf2 / 512 - l.counter) l.rest)
      ≡ l.fn.script.items ++ flat_map (λ block. written_event (Uf2 block)) (blocks_in (length l.uf2 / 512) l.uf2);
}
