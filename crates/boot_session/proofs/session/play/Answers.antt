use Rattle.std.proofs.Common.{sym, ◌∙◌, subst}
use Rattle.boot_script.specs.Events.{event_from}
use Rattle.boot_script.specs.Scripts.{script_events}
use Rattle.boot_session.proofs.SessionLemmas.{PlaysOn, plays-first, plays-follow, plays-stop}
use Rattle.boot_session.proofs.session.play.Goals as goal

pub loop-event-init : goal.loop-event-init
loop-event-init g c = λ host stands.
    subst (λ left. PlaysOn g.B.Board.state g.B.Board.history c.args.machine.now c.args.machine.now
    (script_events c.args.script.now.bytes.now) left host)
    (sym (c.into_iter-event-iterator.ensures.into_iter_gives ∙ c.events-event-items.ensures))
    (plays-first g.B.Board.state g.B.Board.history c.args.machine.now (script_events c.args.script.now.bytes.now) host
    stands c.requires.power c.requires.unarmed)

pub follow-requires-clause-bootsel : goal.follow-requires-clause-bootsel
follow-requires-clause-bootsel g c =
    (c.loop-event.invariant c.requires.hosted.0 c.requires.hosted.1).stands.state

pub follow-requires-clause-writable : goal.follow-requires-clause-writable
follow-requires-clause-writable g c = c.in-Some.ensures.steps.1

pub follow-requires-clause-unarmed : goal.follow-requires-clause-unarmed
follow-requires-clause-unarmed g c =
    (c.loop-event.invariant c.requires.hosted.0 c.requires.hosted.1).board.unarmed

pub returns-then-not-follow : goal.returns-then-not-follow
returns-then-not-follow g c = λ host stands.
    (plays-follow g.B.Board.state g.B.Board.history c.args.machine.now c.loop-event.machine c.follow.new.machine
    (script_events c.args.script.now.bytes.now) c.loop-event.event-iterator c.next.new.self host
    (event_from c.in-Some.event) c.follow.result (c.loop-event.invariant host stands) c.in-Some.ensures.steps.0
    c.follow.ensures.hosted c.follow.ensures.passed).1 c.if-not-follow.true

pub loop-event-preserved : goal.loop-event-preserved
loop-event-preserved g c = λ host stands.
    (plays-follow g.B.Board.state g.B.Board.history c.args.machine.now c.loop-event.machine c.follow.new.machine
    (script_events c.args.script.now.bytes.now) c.loop-event.event-iterator c.next.new.self host
    (event_from c.in-Some.event) c.follow.result (c.loop-event.invariant host stands) c.in-Some.ensures.steps.0
    c.follow.ensures.hosted c.follow.ensures.passed).0 c.if-not-follow.false

pub returns : goal.returns
returns g c = λ host stands.
    plays-stop g.B.Board.state g.B.Board.history c.args.machine.now c.loop-event.machine
    (script_events c.args.script.now.bytes.now) c.loop-event.event-iterator host (c.loop-event.invariant host stands)
    c.in-None.ensures.steps.0
