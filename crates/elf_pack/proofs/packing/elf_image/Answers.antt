use Rattle.std.proofs.Common.{arith}
use Rattle.elf_pack.proofs.AnswerLemmas.{image-told}
use Rattle.elf_pack.proofs.WholeLemmas.{whole-told}
use Rattle.elf_pack.proofs.packing.elf_image.Goals as goal

pub returns-clause-whole : goal.returns-clause-whole
returns-clause-whole c =
    whole-told c.args.elf.now c.args.spec.now c.put_image.result c.put_image.ensures.right c.put_image.ensures.sealed
    (record { major = c.are_halves.ensures.major; minor = c.are_halves.ensures.minor })
    (λ k. omega (arith, c.type_inv.elf k))

pub returns-clause-refused : goal.returns-clause-refused
returns-clause-refused c =
    image-told c.args.elf.now c.args.spec.now c.put_image.result c.put_image.ensures.right c.put_image.ensures.sealed
    c.put_image.ensures.fault
