use Rattle.image_pack.proofs.PartLemmas.{parts_in-kept}
use Rattle.image_pack.proofs.parts.parts_in.Goals as goal

pub returns : goal.returns
returns c =
    parts_in-kept c.args.bytes.now c.args.cpu c.in-Ok.found c.in-Ok-defined_in.image c.len.result c.count.result
    c.at.result c.at-2.result c.at-3.result c.size.result c.block_of-last.result c.copied_words.result
    c.in-Ok-loads_of.loads c.in-Ok.ensures.exact c.in-Ok-defined_in.ensures.exact c.len.ensures
    c.in-Ok-loads_of.ensures.exact c.at.ensures c.count.ensures.value c.block_of-last.ensures.exact
    c.at-2.ensures.value c.at-3.ensures.value c.size.ensures.value c.copied_words.ensures
