use Rattle.std.proofs.Common.{◌++◌, ap, ◌∙◌, take}
use Rattle.std.specs.Prelude.{option_to_list}
use Rattle.std.proofs.lemmas.List.{take_more}
use Rattle.pico_board.specs.declared.window.Window.{Window}
use Rattle.boot_caveats.specs.Doubts.{member_doubt}
use Rattle.slot_caveats.proofs.MoreLemmas.{listed-more}
use Rattle.boot_caveats.proofs.members.add_doubts.Goals as goal

pub loop-window-preserved : goal.loop-window-preserved
loop-window-preserved g c =
    let content = (g.B.Board.state c.args.board.now).content in
    let none : Window = record { start = 0; len = 0 } in
    listed-more (member_doubt content c.args.cpu c.args.doubt) (take c.loop-window.window-index c.args.windows.now) _ _
    c.args.list.now.items c.loop-window.list.items c.add.new.list.items
    (take_more c.args.windows.now c.loop-window.window-index none c.loop-window-test.true)
    c.loop-window.invariant
    (c.in_ok-add.ensures ∙ ap (λ o. c.loop-window.list.items ++ option_to_list o) c.member_doubt.ensures)
