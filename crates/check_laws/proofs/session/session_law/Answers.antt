use Rattle.std.proofs.Common.{◌∙◌, ap}
use Rattle.boot_tape.specs.Moving.{moves_from}
use Rattle.pico_board.specs.MemBoard.{state_of}
use Rattle.boot_script.specs.Scripts.{script_events}
use Rattle.check_laws.proofs.MadeLemmas.{host-writes}
use Rattle.check_laws.proofs.NotedLemmas.{law-told, none-written}
use Rattle.check_laws.proofs.session.session_law.Goals as goal

pub returns-then-not-host_writes : goal.returns-then-not-host_writes
returns-then-not-host_writes c =
    let content = (state_of c.args.board.now).content in
    let events = script_events c.args.script.now.bytes.now in
    none-written content c.args.cpu events c.host_writes.result
    (host-writes content c.args.cpu events c.deref.result.now (moves_from c.deref-2.result.now) c.host_writes.result
    (c.deref.ensures.value ∙ c.requires.trace.notes) (ap moves_from c.deref-2.ensures.value ∙ c.requires.trace.moves)
    c.host_writes.ensures) c.if-not-host_writes.true

pub returns : goal.returns
returns c =
    let content = (state_of c.args.board.now).content in
    let events = script_events c.args.script.now.bytes.now in
    law-told content c.args.cpu events c.host_writes.result
    (host-writes content c.args.cpu events c.deref.result.now (moves_from c.deref-2.result.now) c.host_writes.result
    (c.deref.ensures.value ∙ c.requires.trace.notes) (ap moves_from c.deref-2.ensures.value ∙ c.requires.trace.moves)
    c.host_writes.ensures) c.if-not-host_writes.false c.in_ok-law.law
    c.in_ok-law.ensures
