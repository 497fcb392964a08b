use Rattle.boot_tape.proofs.DoerLemmas.{add-both}
use Rattle.boot_tape.proofs.notes.add_note.Goals as goal

pub returns : goal.returns
returns c =
    add-both c.args.doers.now.items c.add_moves.new.doers.items c.add_behind.new.doers.items c.args.note.now
    c.saturating_sub.result c.in_ok-add_moves.ensures c.saturating_sub.ensures c.in_ok-add_behind.ensures
