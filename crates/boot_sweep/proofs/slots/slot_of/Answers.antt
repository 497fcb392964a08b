use Rattle.std.proofs.Common.{◌∙◌, subst, sym}
use Rattle.std.specs.Prelude.{IsSome}
use Rattle.boot_rules.specs.Choosing.{boot_units_in}
use Rattle.boot_sweep.proofs.KnownLemmas.{first-slot, slot-is-of}
use Rattle.boot_sweep.proofs.slots.slot_of.Goals as goal

pub returns : goal.returns
returns g c =
    let x = (g.B.Board.state c.args.board.now).content in
    slot-is-of x c.args.cpu c.args.steps.now _
    (first-slot (boot_units_in x c.args.cpu) c.as_slice.result.now c.args.steps.now c.in_ok-first.first.now
    c.slot_among.result c.in_ok-window.window c.in_ok-first.ensures.value
    (c.as_slice.ensures.value ∙ c.boot_units_in-units.ensures) c.slot_among.ensures c.in_ok-window.was)
    (sym c.are_confined.ensures ∙ c.if-not-are_confined.false)
    (λ e. subst IsSome c.find_table.ensures.exact (sym c.is_some.ensures ∙ e))
