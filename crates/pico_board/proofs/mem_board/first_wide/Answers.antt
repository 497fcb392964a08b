-- One more row has 24 bits; at the end all have.
use Rattle.std.proofs.Common.{◌^◌, ◌<◌, All, subst}
use Rattle.std.proofs.lemmas.List.{take_all}
use Rattle.std.proofs.lemmas.List.Elements.{All-more}
use Rattle.pico_board.proofs.mem_board.first_wide.Goals as goal

pub loop-i-preserved : goal.loop-i-preserved
loop-i-preserved c =
    All-more (λ v. v < 2 ^ 24) c.args.rows.now c.loop-i.i 0 c.loop-i-test.true c.loop-i.invariant c.if-row.false

pub returns : goal.returns
returns c =
    subst (All (λ v. v < 2 ^ 24)) (take_all c.loop-i.i c.args.rows.now c.loop-i-test.false) c.loop-i.invariant
