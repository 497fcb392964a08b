use Rattle.std.proofs.Common.{length, sym, subst, ◌/◌}
use Rattle.std.specs.Prelude.{option_map}
use Rattle.otp_roll.specs.Flags.{slot_size}
use Rattle.part_table.specs.declared.target.Target.{Target}
use Rattle.part_table.specs.Windows.{IsPlacedWindow}
use Rattle.boot_rules.proofs.PlaceLemmas.{load-read, loads-of, slot-size, target-placed}
use Rattle.boot_rules.proofs.targets.target_by.Goals as goal

pub unit_target-requires-clause-loads : goal.unit_target-requires-clause-loads
unit_target-requires-clause-loads g c =
    let content = (g.B.Board.state c.args.board.now).content in
    let right = g.met.B.Board.is_content c.args.board.now in
    let n = length content.flash in
    let t = option_map (λ t. t.now) c.args.table in
    loads-of t n (slot_size content.otp n) c.args.family c.requires.sound right.flash_length
    (slot-size content.otp n right.flash_length.least) c.in-Some.unit
    (load-read t n (slot_size content.otp n) c.flash_len.result c.slot_size.result c.args.family c.in-Some.unit
    c.flash_len.ensures c.slot_size.ensures c.in-Some.ensures)

pub returns-in-Some-clause-placed : goal.returns-in-Some-clause-placed
returns-in-Some-clause-placed g c =
    let content = (g.B.Board.state c.args.board.now).content in
    let n = length content.flash in
    let t = option_map (λ t. t.now) c.args.table in
    subst (λ (t : Target). IsPlacedWindow t.window (n / 4096) 0) (sym c.unit_target.ensures.exact)
    (target-placed content t c.args.cpu c.args.family
    (g.met.B.Board.is_content c.args.board.now) c.requires.sound c.in-Some.unit
    (load-read t n (slot_size content.otp n) c.flash_len.result c.slot_size.result c.args.family c.in-Some.unit
    c.flash_len.ensures c.slot_size.ensures c.in-Some.ensures))
