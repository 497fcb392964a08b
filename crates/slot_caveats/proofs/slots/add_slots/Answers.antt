use Rattle.std.proofs.Common.{◌++◌, length, ap, ◌∙◌}
use Rattle.std.specs.Prelude.{option_to_list}
use Rattle.slot_caveats.specs.SlotCaveats.{image_in_slot, of_slots, slot_end, table_fault, table_order}
use Rattle.slot_caveats.proofs.ListingLemmas.{on-ok}
use Rattle.slot_caveats.proofs.SlotLemmas.{slot-lists}
use Rattle.slot_caveats.proofs.slots.add_slots.Goals as goal

pub returns : goal.returns
returns g c =
    let content = (g.B.Board.state c.args.board.now).content in
    let size = c.args.size in
    let first = c.args.first.now in
    let second = c.args.second.now in
    let images = of_slots size (image_in_slot content c.args.table) in
    let ends = of_slots size (λ number. slot_end content c.args.table) in
    let orders = of_slots size (table_order content) in
    on-ok _ _ c.add_table_orders.result _ _
    (λ last. slot-lists c.args.list.now.items images ends
    (option_to_list (table_fault (length content.flash) 0 first))
    (option_to_list (table_fault (length content.flash) 1 second)) orders _ _ _ _
    c.in_ok-add_slot_images.ensures c.in_ok-add_slot_ends.ensures
    (c.in_ok-add_table_faults.ensures
    ∙ ap (λ n. c.add_slot_ends.new.list.items
    ++ (option_to_list (table_fault n 0 first) ++ option_to_list (table_fault n 1 second))) c.flash_len.ensures)
    last)
    c.add_table_orders.ensures
