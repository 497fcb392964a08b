use Rattle.std.proofs.Common.{◌∙◌, ap}
use Rattle.boot_script.specs.Scripts.{script_events}
use Rattle.boot_sweep.specs.declared.moves.Move.{Move}
use Rattle.boot_tape.specs.declared.notes.Note.{Note}
use Rattle.std.proofs.Common.{List}
use Rattle.boot_tape.specs.Moving.{moves_from}
use Rattle.check_records.specs.Caveats.{held_from, skipped_from}
use Rattle.check_records.proofs.CaveatLemmas.{caveats-found}
use Rattle.check_records.proofs.caveats.script_caveats.Goals as goal

pub returns : goal.returns
returns g = λ c cpu is.
    let events = script_events g.args.script.now.bytes.now in
    caveats-found c cpu events g.args.trace.now g.flash_len.result g.flash_len.ensures is g.held_in-held.result
    g.skipped_in-skipped.result
    (g.held_in-held.ensures
    ∙ (ap (λ (ns : List Note). held_from 0 ns (moves_from g.deref-2.result.now)) g.deref.ensures.value
    ∙ ap (λ (ms : List Move). held_from 0 g.args.trace.now.notes.items (moves_from ms)) g.deref-2.ensures.value))
    (g.skipped_in-skipped.ensures
    ∙ ap (λ (ns : List Note). skipped_from g.flash_len.result 0 events ns) g.deref-3.ensures.value)
