use Rattle.std.proofs.Common.{take}
use Rattle.script_words.proofs.ListLemmas.{front-min, page-filled}
use Rattle.script_words.proofs.making.page_of.Goals as goal

pub returns : goal.returns
returns c =
    page-filled 256 (take c.min-count.result c.args.bytes.now) c.args.bytes.now c.copy_to_front.new.buffer
    (front-min 256 c.min-count.result c.args.bytes.now c.min-count.ensures) c.copy_to_front.ensures
