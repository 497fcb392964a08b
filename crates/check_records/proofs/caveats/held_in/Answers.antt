use Rattle.check_records.proofs.CaveatLemmas.{held-here, held-more}
use Rattle.check_records.proofs.caveats.held_in.Goals as goal

pub returns-then-note_holds : goal.returns-then-note_holds
returns-then-note_holds c =
    held-here c.args.notes.now c.loop-number.number c.index-notes-number.result c.loop-number-test.true c.index-notes-number.is
    c.loop-number.rest.now c.front_of.result.now c.front_of.ensures c.note_holds.result c.note_holds.ensures
    c.if-note_holds.true _ c.loop-number.invariant

pub loop-number-preserved : goal.loop-number-preserved
loop-number-preserved c =
    held-more c.args.notes.now c.loop-number.number c.index-notes-number.result c.loop-number-test.true c.index-notes-number.is
    c.loop-number.rest.now c.behind_of-rest.result.now c.behind_of-rest.ensures c.front_of.result.now c.front_of.ensures
    c.note_holds.result c.note_holds.ensures c.if-note_holds.false _ c.loop-number.invariant
