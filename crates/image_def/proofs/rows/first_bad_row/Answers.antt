use Rattle.std.proofs.Common.{◌∙◌, sym, get_or}
use Rattle.std.proofs.lemmas.Option.{slice_get-get_or}
use Rattle.block_codec.proofs.FirstFaultLemmas.{sound_more, none_from_sound_at, first_at, fault_from_first}
use Rattle.image_def.specs.Rows.{row_fault}
use Rattle.image_def.proofs.rows.first_bad_row.Goals as goal

pub returns-in-Some : goal.returns-in-Some
returns-in-Some c =
    let rows = c.args.rows.now in
    let at = slice_get-get_or rows c.loop-i.i 0 c.loop-i-test.true in
    sym (fault_from_first row_fault rows c.loop-i.i _
    (first_at row_fault rows c.loop-i.i (get_or rows c.loop-i.i 0) _ c.loop-i.invariant at
    (sym c.fault_behind.ensures ∙ c.in-Some.is)))

pub loop-i-preserved : goal.loop-i-preserved
loop-i-preserved c =
    let rows = c.args.rows.now in
    let at = slice_get-get_or rows c.loop-i.i 0 c.loop-i-test.true in
    sound_more row_fault rows c.loop-i.i (get_or rows c.loop-i.i 0) c.loop-i.invariant at
    (sym c.fault_behind.ensures ∙ c.in_default.is)

pub returns : goal.returns
returns c = sym (none_from_sound_at row_fault c.args.rows.now c.loop-i.i c.loop-i-test.false c.loop-i.invariant)
