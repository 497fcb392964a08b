use Rattle.std.proofs.Common.{◌++◌, ap, ◌∙◌}
use Rattle.std.specs.Prelude.{option_to_list}
use Rattle.std.specs.List.{range_with_len}
use Rattle.boot_caveats.specs.PartCaveats.{ignore_flags}
use Rattle.slot_caveats.proofs.MoreLemmas.{listed-more, range-next}
use Rattle.boot_caveats.proofs.parts.add_each_ignore.Goals as goal

pub loop-i-preserved : goal.loop-i-preserved
loop-i-preserved c =
    listed-more (ignore_flags c.args.parts.now) (range_with_len 0 c.loop-i.i) _ c.loop-i.i c.args.list.now.items
    c.loop-i.list.items c.add.new.list.items (range-next c.loop-i.i) c.loop-i.invariant
    (c.in_ok-add.ensures ∙ ap (λ o. c.loop-i.list.items ++ option_to_list o) c.ignore_flags.ensures)
