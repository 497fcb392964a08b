use Rattle.std.proofs.Common.{◌∙◌, sym, ap, get_or}
use Rattle.std.specs.Option.{option_map}
use Rattle.std.proofs.lemmas.Option.{slice_get-get_or}
use Rattle.block_codec.proofs.SearchLemmas.{find_here, find_past}
use Rattle.elf_pack.specs.declared.segment.Segment.{Segment}
use Rattle.elf_pack.specs.Judging.{is_misplaced_segment}
use Rattle.elf_pack.proofs.ListLemmas.{no_segment}
use Rattle.elf_pack.proofs.judging.first_misplaced.Goals as goal

pub returns-then-is_misplaced_segment : goal.returns-then-is_misplaced_segment
returns-then-is_misplaced_segment c =
    let s = get_or c.args.segments.now c.loop-segment.segment-index no_segment in
    let at = slice_get-get_or c.args.segments.now c.loop-segment.segment-index no_segment c.loop-segment-test.true in
    sym (ap (option_map (λ (s : Segment). s.number))
    (find_here (is_misplaced_segment c.args.len) c.args.segments.now c.loop-segment.segment-index s
    c.loop-segment.invariant at (sym c.is_misplaced_segment.ensures ∙ c.if-is_misplaced_segment.true)))

pub loop-segment-preserved : goal.loop-segment-preserved
loop-segment-preserved c =
    let s = get_or c.args.segments.now c.loop-segment.segment-index no_segment in
    let at = slice_get-get_or c.args.segments.now c.loop-segment.segment-index no_segment c.loop-segment-test.true in
    find_past (is_misplaced_segment c.args.len) c.args.segments.now c.loop-segment.segment-index s
    c.loop-segment.invariant at (sym c.is_misplaced_segment.ensures ∙ c.if-is_misplaced_segment.false)
