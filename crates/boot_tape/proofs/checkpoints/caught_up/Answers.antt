use Rattle.std.proofs.Common.{◌-◌, arith, ap, drop, length, subst, sym, take, ◌∙◌}
use Rattle.std.proofs.lemmas.List.{length-map, take_all, take_rest}
use Rattle.pico_board.specs.Content.{Content}
use Rattle.pico_board.specs.MemBoard.{state_of}
use Rattle.boot_tape.specs.Moving.{AreMovesIn, after_moves, move_from, moves_from}
use Rattle.boot_tape.proofs.MovingLemmas.{length-after_moves, rest-in}
use Rattle.boot_tape.proofs.CheckpointLemmas.{moves-rest}
use Rattle.boot_tape.proofs.checkpoints.caught_up.Goals as goal

pub do_moves-requires-clause-range : goal.do_moves-requires-clause-range
do_moves-requires-clause-range c =
    let content = (state_of c.args.start.now).content in
    let moves = c.args.moves.now in
    let point = c.in_ok-point.point in
    let first = c.in_ok-point.ensures (moves_from moves) c.requires.kept in
    let long = ap (λ (x : Content). length x.flash) first.content
    ∙ length-after_moves content (take point.done (moves_from moves)) in
    subst (λ n. AreMovesIn n (take (length moves - point.done) (drop point.done moves))) (sym long)
    (subst (λ ms. AreMovesIn (length content.flash) ms) (sym (take_rest moves point.done))
    (rest-in (length content.flash) point.done moves c.requires.range))

pub returns-clause-first : goal.returns-clause-first
returns-clause-first c =
    let content = (state_of c.args.start.now).content in
    let moves = c.args.moves.now in
    let point = c.in_ok-point.point in
    let first = c.in_ok-point.ensures (moves_from moves) c.requires.kept in
    let long = length-map moves move_from in record {
      ready = c.do_moves.ensures.ready;
      few = omega (arith, long);
      content = c.do_moves.ensures.moved
          ∙ (ap (λ ms. after_moves (state_of point.board).content (moves_from ms)) (take_rest moves point.done)
          ∙ (moves-rest content (state_of point.board).content point.done moves first.content
          ∙ ap (after_moves content) (sym (take_all (length moves) (moves_from moves) (omega (arith, long))))));
    }
