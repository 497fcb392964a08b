use Rattle.std.proofs.Common.{Option, ap, refl, ◌∙◌, subst, sym}
use Rattle.boot_rules.specs.declared.tables.Found.{Found}
use Rattle.text_lines.specs.declared.outcome.EventOutcome.{EventOutcome}
use Rattle.boot_machine.specs.Serving.{info_status, info_outcome}
use Rattle.boot_machine.specs.Standing.{is_bootsel, is_on, IsHost, IsSteady}
use Rattle.boot_machine.proofs.RoomLemmas.{room-free}
use Rattle.boot_machine.proofs.SteadinessLemmas.{host-kept, steady-host, told-served, with_board, with_host}
use Rattle.boot_machine.proofs.serving.info.Goals as goal

pub serve_info-outcome-requires-clause-lease : goal.serve_info-outcome-requires-clause-lease
serve_info-outcome-requires-clause-lease g c = room-free _ _ c.requires.steady.room

pub serve_info-outcome-requires-clause-sound : goal.serve_info-outcome-requires-clause-sound
serve_info-outcome-requires-clause-sound g c = c.requires.steady.found (ap is_bootsel c.requires.bootsel)

pub returns-clause-serves : goal.returns-clause-serves
returns-clause-serves g c = λ host is.
    let old = c.args.parts.now in
    let same = c.serve_info-outcome.ensures.same in
    let content = (g.B.Board.state old.board).content in
    let cmd = c.args.cmd.now in
    let told : Option Found → EventOutcome = λ found.
    info_outcome (info_status content old.cpu found cmd c.args.payload.now) content old.cpu found cmd in
    told-served g.B.Board.state g.B.Board.history old _ host _ _
    (c.requires.steady.power (ap is_on c.requires.bootsel)) same refl
    (subst (λ b. IsHost (with_board (with_host old c.serve_info-outcome.new.pool old.ram) b) host) (sym same)
    (host-kept old c.serve_info-outcome.new.pool host c.serve_info-outcome.ensures.kept is))
    (c.serve_info-outcome.ensures.outcome ∙ ap told (sym is.found))

pub returns-clause-steady : goal.returns-clause-steady
returns-clause-steady g c =
    let old = c.args.parts.now in
    subst (λ b. IsSteady g.B.Board.state (with_board (with_host old c.serve_info-outcome.new.pool old.ram) b))
    (sym c.serve_info-outcome.ensures.same)
    (steady-host g.B.Board.state old c.serve_info-outcome.new.pool old.ram c.requires.steady c.requires.bootsel
    c.serve_info-outcome.ensures.kept)
