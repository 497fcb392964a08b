use Rattle.std.proofs.Common.{Bor, Option, ap, length, option_map, refl, subst, sym, ◌∙◌}
use Rattle.part_table.specs.declared.table.Table.{Table}
use Rattle.slot_choice.specs.Units.{IsSoundFor, units}
use Rattle.boot_rules.specs.Tables.{table_in, table_of_content}
use Rattle.boot_rules.proofs.PlaceLemmas.{table-sound}
use Rattle.boot_rules.proofs.units.boot_units_by.Goals as goal

pub boot_units-requires : goal.boot_units-requires
boot_units-requires g c =
    let content = (g.B.Board.state c.args.board.now).content in
    let given = option_map (λ (t : Bor Table). t.now) c.args.table in
    record {
      sound = subst (λ n. IsSoundFor given n) (sym c.flash_len.ensures)
          (subst (λ (t : Option Table). IsSoundFor t (length content.flash)) (sym c.requires.table)
          (table-sound content (table_in content) refl));
    }

pub returns : goal.returns
returns g c =
    let content = (g.B.Board.state c.args.board.now).content in
    let found = table_of_content content in
    c.boot_units.ensures
    ∙ (ap (λ (t : Option Table). units t c.flash_len.result c.slot_size.result c.args.cpu) c.requires.table
    ∙ (ap (λ n. units found n c.slot_size.result c.args.cpu) c.flash_len.ensures
    ∙ ap (λ z. units found (length content.flash) z c.args.cpu) c.slot_size.ensures))
