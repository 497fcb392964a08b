use Rattle.std.proofs.Common.{subst, sym}
use Rattle.boot_map.specs.declared.maps.FlashMap.{FlashMap}
use Rattle.boot_map.specs.MapRules.{IsMap}
use Rattle.boot_map.proofs.MapLemmas.{map-readable, map-right}
use Rattle.boot_map.proofs.gathering.gather_map.Goals as goal

pub returns-clause-mapped : goal.returns-clause-mapped
returns-clause-mapped g c =
    let content = (g.B.Board.state c.args.board.now).content in
    subst (λ (m : FlashMap). IsMap content c.args.cpu m) (sym c.map_of.ensures.exact)
    (map-right content c.args.cpu (g.met.B.Board.is_content c.args.board.now))

pub returns-clause-readable : goal.returns-clause-readable
returns-clause-readable g c =
    map-readable (g.B.Board.state c.args.board.now).content c.args.cpu c.map_of.result
    (g.met.B.Board.is_content c.args.board.now) (returns-clause-mapped g c) c.map_of.ensures.few
