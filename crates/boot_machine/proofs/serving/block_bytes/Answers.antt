use Rattle.std.proofs.Common.{ap, sym, refl, ◌∙◌}
use Rattle.uf2_place.specs.Blocks.{uf2_of}
use Rattle.text_lines.specs.declared.outcome.BlockOutcome.TheVariants.{BadForm}
use Rattle.text_lines.specs.declared.outcome.EventOutcome.TheVariants.{Block}
use Rattle.boot_machine.specs.Serving.{places, only_told, uf2_served}
use Rattle.boot_machine.specs.Standing.{is_on}
use Rattle.boot_machine.proofs.PlacingLemmas.{serves-as}
use Rattle.boot_machine.proofs.SteadinessLemmas.{told-served}
use Rattle.boot_machine.proofs.serving.block_bytes.Goals as goal

pub returns-in-Ok-clause-serves : goal.returns-in-Ok-clause-serves
returns-in-Ok-clause-serves g c =
    serves-as g.B.Board.state g.B.Board.history _ _ (λ content cpu host. places content cpu host c.in-Ok.uf2)
    (λ content cpu host. uf2_served content cpu host (uf2_of c.args.bytes.now)) _ _
    (λ content cpu host. ap (uf2_served content cpu host) (sym c.in-Ok.is ∙ c.read_uf2.ensures.exact))
    c.block.ensures.serves

pub returns-in-Err-clause-serves : goal.returns-in-Err-clause-serves
returns-in-Err-clause-serves g c =
    serves-as g.B.Board.state g.B.Board.history c.args.parts.now c.args.parts.now
    (λ content cpu host. only_told host (Block (BadForm c.in-Err.fault)))
    (λ content cpu host. uf2_served content cpu host (uf2_of c.args.bytes.now)) _ _
    (λ content cpu host. ap (uf2_served content cpu host) (sym c.in-Err.is ∙ c.read_uf2.ensures.exact))
    (λ host is. told-served g.B.Board.state g.B.Board.history c.args.parts.now c.args.parts.now host _ _
    (c.requires.steady.power (ap is_on c.requires.bootsel)) refl refl is refl)
