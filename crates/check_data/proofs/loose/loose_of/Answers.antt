use Rattle.std.proofs.Common.{◌∙◌, ap}
use Rattle.pico_board.specs.MemBoard.{state_of}
use Rattle.pico_board.specs.Content.{window_bytes}
use Rattle.image_check.specs.Addressing.{in_flash}
use Rattle.image_check.specs.Rules.{map_answer}
use Rattle.boot_tape.specs.Moving.{done_steps, moves_from}
use Rattle.check_data.proofs.CodeLemmas.{found-loop, loose-none, loose-some}
use Rattle.check_data.proofs.loose.loose_of.Goals as goal

pub returns-in_default-loads_of : goal.returns-in_default-loads_of
returns-in_default-loads_of c =
    let z = (state_of c.args.board.now).content in
    loose-none z.flash (done_steps (moves_from c.args.moves.now)) c.args.window (window_bytes z c.args.window) _ _ _ _
    c.in-Ok.ensures.exact c.in-Ok-walk.ensures.loop_ (c.in_default-loads_of.ensures.exact
    ∙ ap (λ n. map_answer in_flash n c.in-Ok.image.block c.in-Ok.image.def) c.len.ensures) _
    c.new-in_default-loads_of.ensures.items

pub returns : goal.returns
returns c =
    let z = (state_of c.args.board.now).content in
    let loop = found-loop (window_bytes z c.args.window) _ c.in-Ok-walk.ensures.loop_ in
    loose-some z.flash (done_steps (moves_from c.args.moves.now)) c.args.window
    (window_bytes z c.args.window) _ _ _ loop.0
    c.in-Ok.ensures.exact loop.1 (c.in-Ok-loads_of.ensures.exact
    ∙ ap (λ n. map_answer in_flash n c.in-Ok.image.block c.in-Ok.image.def) c.len.ensures) _ c.in-Some.is _
    (c.in_ok-found.ensures loop.0 (c.spans_of.ensures loop.0 loop.1))
