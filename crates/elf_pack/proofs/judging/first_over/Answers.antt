use Rattle.std.proofs.Common.{◌∙◌, sym, ap, get_or}
use Rattle.std.specs.Option.{option_map}
use Rattle.std.proofs.lemmas.Option.{slice_get-get_or}
use Rattle.block_codec.proofs.SearchLemmas.{find_here, find_past}
use Rattle.elf_pack.specs.declared.segment.Segment.{Segment}
use Rattle.elf_pack.specs.Judging.{do_overlap}
use Rattle.elf_pack.proofs.ListLemmas.{no_segment}
use Rattle.elf_pack.proofs.judging.first_over.Goals as goal

pub returns-then-do_overlap : goal.returns-then-do_overlap
returns-then-do_overlap c =
    let s = get_or c.args.segments.now c.loop-segment.segment-index no_segment in
    let at = slice_get-get_or c.args.segments.now c.loop-segment.segment-index no_segment c.loop-segment-test.true in
    sym (ap (option_map (λ (s : Segment). s.number))
    (find_here (do_overlap c.args.one.now) c.args.segments.now c.loop-segment.segment-index s
    c.loop-segment.invariant at (sym c.do_overlap.ensures ∙ c.if-do_overlap.true)))

pub loop-segment-preserved : goal.loop-segment-preserved
loop-segment-preserved c =
    let s = get_or c.args.segments.now c.loop-segment.segment-index no_segment in
    let at = slice_get-get_or c.args.segments.now c.loop-segment.segment-index no_segment c.loop-segment-test.true in
    find_past (do_overlap c.args.one.now) c.args.segments.now c.loop-segment.segment-index s
    c.loop-segment.invariant at (sym c.do_overlap.ensures ∙ c.if-do_overlap.false)
