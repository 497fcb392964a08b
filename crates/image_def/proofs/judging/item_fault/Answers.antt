use Rattle.std.proofs.Common.{◌∙◌, get_or, sym, arith}
use Rattle.std.proofs.lemmas.Option.{slice_get-get_or}
use Rattle.block_codec.specs.Blocks.{block_words}
use Rattle.block_codec.specs.Items.{item_at, items_of}
use Rattle.block_codec.proofs.FirstFaultLemmas.{sound_more, none_from_sound_at, first_at, fault_from_first}
use Rattle.image_def.specs.Faults.{item_fault}
use Rattle.image_def.proofs.judging.item_fault.Goals as goal

pub returns-in-Some-clause-value : goal.returns-in-Some-clause-value
returns-in-Some-clause-value c =
    let items = items_of c.args.block.now.items in
    let judge = item_fault (block_words c.args.block.now) in
    let test = c.loop-i-test.true in
    let long = c.count-i-end.ensures.value in
    let item = get_or items c.loop-i.i (item_at 0 0) in
    let at = slice_get-get_or items c.loop-i.i (item_at 0 0) (omega (arith, test, long)) in
    sym (fault_from_first judge items c.loop-i.i c.in-Some.fault
    (first_at judge items c.loop-i.i item c.in-Some.fault c.loop-i.invariant at
    (sym (c.fault_at.ensures item at) ∙ c.in-Some.is)))

pub loop-i-preserved : goal.loop-i-preserved
loop-i-preserved c =
    let items = items_of c.args.block.now.items in
    let judge = item_fault (block_words c.args.block.now) in
    let test = c.loop-i-test.true in
    let long = c.count-i-end.ensures.value in
    let item = get_or items c.loop-i.i (item_at 0 0) in
    let at = slice_get-get_or items c.loop-i.i (item_at 0 0) (omega (arith, test, long)) in
    sound_more judge items c.loop-i.i item c.loop-i.invariant at (sym (c.fault_at.ensures item at) ∙ c.in_default.is)

pub returns-clause-value : goal.returns-clause-value
returns-clause-value c =
    let items = items_of c.args.block.now.items in
    let judge = item_fault (block_words c.args.block.now) in
    let all = c.loop-i-test.false in
    let long = c.count-i-end.ensures.value in
    sym (none_from_sound_at judge items c.loop-i.i (omega (arith, all, long)) c.loop-i.invariant)
