use Rattle.std.proofs.Common.{◌∙◌, ap, length, subst, sym, take}
use Rattle.pico_board.specs.Content.{Content}
use Rattle.pico_board.specs.MemBoard.{state_of}
use Rattle.boot_script.specs.Scripts.{script_events}
use Rattle.boot_tape.specs.Moving.{AreMovesIn, after_moves, moves_from}
use Rattle.check_laws.specs.Hosting.{boot_count}
use Rattle.check_laws.proofs.NotedLemmas.{law-noted, no-host-noted}
use Rattle.check_laws.proofs.PassLemmas.{front-in, moves-in, steps-few, steps-in}
use Rattle.check_laws.proofs.session.written_law.Goals as goal

pub returns-then-not-is_hosts : goal.returns-then-not-is_hosts
returns-then-not-is_hosts c =
    no-host-noted (state_of c.args.board.now).content c.args.cpu (script_events c.args.script.now.bytes.now)
    c.as_slice-notes.result.now c.as_slice-moves.result.now (c.as_slice-notes.ensures.value ∙ c.requires.trace.notes)
    (ap moves_from c.as_slice-moves.ensures.value ∙ c.requires.trace.moves) c.is_hosts.result c.is_hosts.ensures
    c.if-not-is_hosts.true

pub do_moves-requires-clause-range : goal.do_moves-requires-clause-range
do_moves-requires-clause-range c =
    let start = (state_of c.args.board.now).content in
    let copy = (state_of c.in_ok-copy.copy).content in
    subst (AreMovesIn (length copy.flash)) (sym c.first.ensures)
    (front-in (length copy.flash) c.boot_count.result c.as_slice-moves.result.now
    (moves-in start c.args.cpu (script_events c.args.script.now.bytes.now) c.args.trace.now c.requires.trace
    c.as_slice-moves.result.now c.as_slice-moves.ensures.value copy c.in_ok-copy.ensures.same))

pub steps_law-requires-clause-range : goal.steps_law-requires-clause-range
steps_law-requires-clause-range c =
    let start = (state_of c.args.board.now).content in
    steps-in start c.args.cpu (script_events c.args.script.now.bytes.now) c.args.trace.now c.requires.trace
    c.as_slice-moves.result.now c.as_slice-moves.ensures.value c.as_slice-notes.result.now c.deref.result.now
    (c.deref.ensures.value ∙ c.in_ok-steps.ensures) (length (state_of c.do_moves.new.board).content.flash)
    (c.do_moves.ensures.size ∙ ap (λ (x : Content). length x.flash) c.in_ok-copy.ensures.same)

pub steps_law-requires-clause-few : goal.steps_law-requires-clause-few
steps_law-requires-clause-few c =
    steps-few (state_of c.args.board.now).content c.args.cpu (script_events c.args.script.now.bytes.now)
    c.args.trace.now c.requires.trace c.as_slice-moves.result.now c.as_slice-moves.ensures.value
    c.as_slice-notes.result.now c.deref.result.now (c.deref.ensures.value ∙ c.in_ok-steps.ensures)

pub returns : goal.returns
returns c =
    let start = (state_of c.args.board.now).content in
    let copy = (state_of c.in_ok-copy.copy).content in
    law-noted start c.args.cpu (script_events c.args.script.now.bytes.now) c.as_slice-notes.result.now
    c.as_slice-moves.result.now (c.as_slice-notes.ensures.value ∙ c.requires.trace.notes)
    (ap moves_from c.as_slice-moves.ensures.value ∙ c.requires.trace.moves) c.is_hosts.result c.is_hosts.ensures
    c.if-not-is_hosts.false (state_of c.do_moves.new.board).content c.deref.result.now c.steps_law.result
    (c.do_moves.ensures.moved
    ∙ (ap (λ ms. after_moves copy (moves_from ms)) (c.first.ensures
    ∙ ap (λ n. take n c.as_slice-moves.result.now) c.boot_count.ensures)
    ∙ ap (λ x. after_moves x (moves_from (take (boot_count c.as_slice-notes.result.now) c.as_slice-moves.result.now)))
    c.in_ok-copy.ensures.same))
    (c.deref.ensures.value ∙ c.in_ok-steps.ensures) c.steps_law.ensures
