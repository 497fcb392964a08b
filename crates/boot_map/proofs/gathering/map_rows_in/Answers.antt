use Rattle.std.proofs.Common.{Bor, List, option_map, subst, sym}
use Rattle.std.specs.Prelude.{All}
use Rattle.part_table.specs.declared.table.Table.{Table}
use Rattle.boot_map.specs.declared.places.MapWindow.{MapWindow}
use Rattle.boot_map.specs.WindowRules.{IsRead}
use Rattle.boot_map.proofs.MapLemmas.{all-read, mappable-read}
use Rattle.boot_map.proofs.gathering.map_rows_in.Goals as goal

pub map_windows-windows-requires : goal.map_windows-windows-requires
map_windows-windows-requires g c = record {
  mappable = mappable-read (g.B.Board.state c.args.board.now).content
      (option_map (λ (t : Bor Table). t.now) c.args.table) c.flash_len.result c.slot_size.result
      (g.met.B.Board.is_content c.args.board.now) c.requires.table c.flash_len.ensures c.slot_size.ensures;
}

pub rows_of-requires-clause-read : goal.rows_of-requires-clause-read
rows_of-requires-clause-read g c =
    let given = option_map (λ (t : Bor Table). t.now) c.args.table in
    subst (λ n. All (λ (m : MapWindow). IsRead given n m.place m.window) c.as_slice.result.now) c.flash_len.ensures
    (subst (λ (ms : List MapWindow). All (λ (m : MapWindow). IsRead given c.flash_len.result m.place m.window) ms)
    (sym c.as_slice.ensures.value)
    (all-read given c.flash_len.result c.slot_size.result
    (mappable-read (g.B.Board.state c.args.board.now).content given c.flash_len.result c.slot_size.result
    (g.met.B.Board.is_content c.args.board.now) c.requires.table c.flash_len.ensures c.slot_size.ensures)
    c.map_windows-windows.result.items c.map_windows-windows.ensures.windows.right))
