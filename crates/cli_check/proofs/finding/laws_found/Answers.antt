use Rattle.pico_board.specs.MemBoard.{state_of}
use Rattle.boot_script.specs.Scripts.{script_events}
use Rattle.check_laws.proofs.ToldLemmas.{session-once}
use Rattle.cli_check.proofs.TraceLemmas.{boot-told, buy-told}
use Rattle.cli_check.proofs.finding.laws_found.Goals as goal

pub returns-clause-session : goal.returns-clause-session
returns-clause-session c =
    session-once (state_of c.args.board.now).content c.args.cpu (script_events c.args.script.now.bytes.now)
    c.args.board.now.sizes c.in_ok-session.session c.in_ok-session.ensures

pub returns-clause-boot : goal.returns-clause-boot
returns-clause-boot c =
    let events = script_events c.args.script.now.bytes.now in
    boot-told (state_of c.args.board.now).content c.args.cpu events c.in_ok-writes.writes.boot
    (c.in_ok-writes.ensures.boot events c.requires.trace)

pub returns-clause-buy : goal.returns-clause-buy
returns-clause-buy c =
    let events = script_events c.args.script.now.bytes.now in
    buy-told (state_of c.args.board.now).content c.args.cpu events c.in_ok-writes.writes.buy
    (c.in_ok-writes.ensures.buy events c.requires.trace)
