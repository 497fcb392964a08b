use Rattle.std.proofs.Common.{Bor, List, option_map, subst, sym}
use Rattle.part_table.specs.declared.table.Table.{Table}
use Rattle.boot_map.specs.declared.places.MapWindow.{MapWindow}
use Rattle.boot_map.specs.WindowRules.{AreMapWindows}
use Rattle.boot_map.proofs.WindowLemmas.{windows-right}
use Rattle.boot_map.proofs.windows.map_windows.Goals as goal

pub returns-clause-windows : goal.returns-clause-windows
returns-clause-windows c =
    let given = option_map (λ (t : Bor Table). t.now) c.args.table in
    subst (λ (ms : List MapWindow). AreMapWindows given c.args.flash_len c.args.slot ms) (sym c.windows_of.ensures)
    (windows-right given c.args.flash_len c.args.slot c.requires.mappable)
