use Rattle.boot_caveats.specs.ImageCaveats.{item_order}
use Rattle.boot_caveats.proofs.WindowLemmas.{orders-more}
use Rattle.boot_caveats.proofs.images.add_item_orders.Goals as goal

pub loop-look-preserved : goal.loop-look-preserved
loop-look-preserved g c =
    let content = (g.B.Board.state c.args.board.now).content in
    orders-more (item_order content c.args.cpu) c.args.looks.now c.loop-look.look-index c.look-item.result
    c.args.list.now.items c.loop-look.list.items c.add_unit_orders.new.list.items c.loop-look-test.true c.look-item.is
    c.loop-look.invariant c.in_ok-add_unit_orders.ensures
