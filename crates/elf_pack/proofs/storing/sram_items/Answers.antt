use Rattle.std.proofs.Common.{arith}
use Rattle.elf_pack.proofs.StoringLemmas.{items-made}
use Rattle.elf_pack.proofs.storing.sram_items.Goals as goal

pub returns : goal.returns
returns c =
    items-made c.args.cpu c.args.entry c.args.segments.now _ _ _ _ c.front_words-words.ensures.value
    c.push.ensures.items c.put_entries.ensures (omega (arith, c.from.ensures))
