use Rattle.std.proofs.Common.{None, Some}
use Rattle.boot_script.specs.Events.{event_from}
use Rattle.boot_machine.specs.Serving.{served_event}
use Rattle.boot_machine.proofs.AdvancingLemmas.{advances-alone, advances-boot, asked-power, serves-at}
use Rattle.boot_machine.proofs.SteadinessLemmas.{host-of}
use Rattle.boot_machine.proofs.stepping.serve_and_boot.Goals as goal

pub boot_into-requires-clause-power : goal.boot_into-requires-clause-power
boot_into-requires-clause-power g c =
    let at = host-of g.B.Board.state c.args.parts.now c.requires.steady c.requires.bootsel in
    let e = event_from c.args.event.now in
    asked-power g.B.Board.state g.B.Board.history c.args.parts.now c.serve-served.new.parts _ c.in-Some.kind _
    (serves-at g.B.Board.state g.B.Board.history c.args.parts.now c.serve-served.new.parts
    (λ content cpu host. served_event content cpu host e) c.serve-served.result.boot (Some c.in-Some.kind)
    c.serve-served.result.outcome c.in-Some.is c.serve-served.ensures.serves (at.0) (at.1))

pub returns-in-Some-clause-advances : goal.returns-in-Some-clause-advances
returns-in-Some-clause-advances g c =
    let e = event_from c.args.event.now in
    advances-boot g.B.Board.state g.B.Board.history c.args.parts.now c.serve-served.new.parts c.boot_into.new.parts
    e c.in-Some.kind c.serve-served.result.outcome c.boot_into.result c.requires.bootsel c.requires.hosted
    (serves-at g.B.Board.state g.B.Board.history c.args.parts.now c.serve-served.new.parts
    (λ content cpu host. served_event content cpu host e) c.serve-served.result.boot (Some c.in-Some.kind)
    c.serve-served.result.outcome c.in-Some.is c.serve-served.ensures.serves) c.boot_into.ensures.comes

pub returns-in-None-clause-advances : goal.returns-in-None-clause-advances
returns-in-None-clause-advances g c =
    let e = event_from c.args.event.now in
    advances-alone g.B.Board.state g.B.Board.history c.args.parts.now c.serve-served.new.parts e
    c.serve-served.result.outcome c.requires.bootsel c.requires.hosted
    (serves-at g.B.Board.state g.B.Board.history c.args.parts.now c.serve-served.new.parts
    (λ content cpu host. served_event content cpu host e) c.serve-served.result.boot None
    c.serve-served.result.outcome c.in-None.is c.serve-served.ensures.serves)
