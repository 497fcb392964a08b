use Rattle.std.proofs.Common.{◌∙◌, refl, get_or, length}
use Rattle.std.proofs.lemmas.Option.{slice_get-get_or}
use Rattle.elf_pack.specs.Binaries.{FitsIn}
use Rattle.elf_pack.proofs.ListLemmas.{all-at, no_segment}
use Rattle.elf_pack.proofs.PlacingLemmas.{put-step}
use Rattle.elf_pack.proofs.placing.put_segments.Goals as goal

pub loop-segment-preserved : goal.loop-segment-preserved
loop-segment-preserved c =
    let xs = c.args.segments.now in
    let i = c.loop-segment.segment-index in
    let s = get_or xs i no_segment in
    let at = slice_get-get_or xs i no_segment c.loop-segment-test.true in
    put-step c.args.elf.now xs i (length c.args.bytes.now) s no_segment c.loop-segment.bytes c.put_segment.new.bytes
    c.loop-segment-test.true refl c.loop-segment.auto.bytes
    (c.put_segment.auto.bytes ∙ c.loop-segment.auto.bytes)
    (all-at (FitsIn (length c.args.elf.now) (length c.args.bytes.now)) xs i s at c.requires.placed)
    c.loop-segment.invariant c.put_segment.ensures
