use Rattle.std.proofs.Common.{◌++◌, ap, drop}
use Rattle.std.proofs.lemmas.List.{drop_all}
use Rattle.boot_tape.specs.Moving.{done_steps, moves_from}
use Rattle.check_laws.proofs.PassLemmas.{none-left, told-more}
use Rattle.check_laws.proofs.made.add_all.Goals as goal

pub loop-moved-preserved : goal.loop-moved-preserved
loop-moved-preserved c =
    told-more (c.args.done.now.items ++ done_steps (moves_from c.args.moves.now)) c.loop-moved.done.items
    c.add_done.new.done.items c.loop-moved.moved-index c.args.moves.now _ c.loop-moved-test.true
    c.in_ok-add_done.ensures c.loop-moved.invariant

pub returns : goal.returns
returns c =
    none-left (c.args.done.now.items ++ done_steps (moves_from c.args.moves.now)) c.loop-moved.done.items
    (done_steps (moves_from (drop c.loop-moved.moved-index c.args.moves.now)))
    (ap (λ ms. done_steps (moves_from ms)) (drop_all c.loop-moved.moved-index c.args.moves.now c.loop-moved-test.false))
    c.loop-moved.invariant
