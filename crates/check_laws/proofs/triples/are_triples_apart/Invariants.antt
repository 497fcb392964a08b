use Rattle.std.proofs.Common.{◌≡◌, drop}
use Rattle.std.specs.List.{list_all}
use Rattle.pico_board.specs.MemBoard.{state_of}
use Rattle.sector_pool.specs.Pool.{HasFree}
use Rattle.check_laws.specs.Triples.{keeps_unit}
use Rattle.check_laws.proofs.triples.are_triples_apart.Given as goal

-- the rest decides, and the pool still has a free sector
abbrev pub invariant-loop-unit : goal.invariant-loop-unit
invariant-loop-unit l = record {
  free : HasFree l.pool;
  rest : list_all (keeps_unit (state_of l.board).content l.cpu l.image l.steps) (drop l.unit-index l.unit-items)
      ≡ list_all (keeps_unit (state_of l.board).content l.cpu l.image l.steps) l.unit-items;
}
