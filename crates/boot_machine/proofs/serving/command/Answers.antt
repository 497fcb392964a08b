use Rattle.std.proofs.Common.{sym}
use Rattle.boot_machine.specs.Serving.{serves, serves_host, serves_info, serves_ram}
use Rattle.boot_machine.proofs.CaseLemmas.{case-host, case-info, case-ram}
use Rattle.boot_machine.proofs.PlacingLemmas.{serves-as}
use Rattle.boot_machine.proofs.serving.command.Goals as goal

pub returns-then-cmd-clause-serves : goal.returns-then-cmd-clause-serves
returns-then-cmd-clause-serves g c =
    let cmd = c.args.cmd.now in
    let payload = c.args.payload.now in
    serves-as g.B.Board.state g.B.Board.history _ _ (λ content cpu host. serves_info content cpu host cmd payload)
    (λ content cpu host. serves content cpu host cmd payload) _ _
    (λ content cpu host. case-info content cpu host cmd payload c.if-cmd.true) c.info.ensures.serves

pub returns-then-ram_asks-clause-serves : goal.returns-then-ram_asks-clause-serves
returns-then-ram_asks-clause-serves g c =
    let cmd = c.args.cmd.now in
    let payload = c.args.payload.now in
    serves-as g.B.Board.state g.B.Board.history _ _ (λ content cpu host. serves_ram content cpu host cmd payload)
    (λ content cpu host. serves content cpu host cmd payload) _ _
    (λ content cpu host. case-ram content cpu host cmd payload c.if-cmd.false (sym c.if-ram_asks.ensures))
    c.ram.ensures.serves

pub returns-else-ram_asks-clause-serves : goal.returns-else-ram_asks-clause-serves
returns-else-ram_asks-clause-serves g c =
    let cmd = c.args.cmd.now in
    let payload = c.args.payload.now in
    serves-as g.B.Board.state g.B.Board.history _ _ (λ content cpu host. serves_host content host cmd payload)
    (λ content cpu host. serves content cpu host cmd payload) _ _
    (λ content cpu host. case-host content cpu host cmd payload c.if-cmd.false (sym c.if-ram_asks.ensures))
    c.host.ensures.serves
