use Rattle.std.proofs.Common.{rules, ◌++◌, ap, ◌∙◌}
use Rattle.std.specs.Prelude.{option_to_list}
use Rattle.std.specs.List.{range_with_len}
use Rattle.boot_caveats.specs.ImageCaveats.{owned_image}
use Rattle.slot_caveats.proofs.MoreLemmas.{listed-more, range-next}
use Rattle.boot_caveats.proofs.images.add_owned_parts.Goals as goal

pub loop-i-preserved : goal.loop-i-preserved
loop-i-preserved g c =
    let content = (g.B.Board.state c.args.board.now).content in
    record {
      kept = search rules;
      knows = search rules;
      listed = listed-more (owned_image content c.args.cpu c.args.parts.now) (range_with_len 0 c.loop-i.i) _ c.loop-i.i
          c.args.list.now.items c.loop-i.list.items c.add.new.list.items (range-next c.loop-i.i)
          c.loop-i.invariant.listed
          (c.in_ok-add.ensures ∙ ap (λ o. c.loop-i.list.items ++ option_to_list o) c.owned_image.ensures.exact);
    }
