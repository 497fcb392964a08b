use Rattle.std.proofs.Common.{All, ◌≤◌, ◌+◌, length, sym, subst, ◌∙◌, ap, map, List, ◌/◌, Option, option_map, IfSome, Bor}
use Rattle.boot_rules.specs.declared.tables.Found.{Found}
use Rattle.part_table.specs.Sound.{IsSoundTable}
use Rattle.pico_board.specs.declared.window.Window.{Window}
use Rattle.part_table.specs.Windows.{part_window}
use Rattle.part_table.specs.declared.partition.Partition.{Partition}
use Rattle.cli_boot.proofs.WindowLemmas.{parts-inside}
use Rattle.cli_boot.proofs.boards.windows_of.Goals as goal

pub returns-in-Some-clause-inside : goal.returns-in-Some-clause-inside
returns-in-Some-clause-inside g c =
    let n = length (g.B.Board.state c.args.board.now).content.flash in
    subst (All (λ (w : Window). w.start + w.len ≤ n))
    (sym (c.part_windows.ensures ∙ ap (λ (parts : List Partition). map part_window parts) c.as_slice.ensures.value))
    (parts-inside c.in-Some.found.now.table n
    (subst (λ (found : Option (Bor Found)). IfSome (option_map (λ (f : Bor Found). f.now) found)
    (λ f. IsSoundTable f.table (n / 4096))) c.in-Some.is c.requires.sound))
