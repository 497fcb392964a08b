use Rattle.std.proofs.Common.{◌∙◌, sym}
use Rattle.elf_pack.proofs.TogetherLemmas.{binary-flash, binary-inside, binary-sram}
use Rattle.elf_pack.proofs.packing.binary_of.Goals as goal

pub flash_binary-requires-clause-in_flash : goal.flash_binary-requires-clause-in_flash
flash_binary-requires-clause-in_flash c =
    binary-flash c.args.cpu c.args.elf.now c.args.found.now c.requires.found c.requires.right
    (sym c.are_in_flash.ensures ∙ c.if-are_in_flash.true)

pub flash_binary-requires-clause-inside : goal.flash_binary-requires-clause-inside
flash_binary-requires-clause-inside c =
    binary-inside c.args.cpu c.args.elf.now c.args.found.now c.requires.found c.requires.right

pub sram_binary-requires-clause-in_sram : goal.sram_binary-requires-clause-in_sram
sram_binary-requires-clause-in_sram c =
    binary-sram c.args.cpu c.args.elf.now c.args.found.now c.requires.found c.requires.right
    (sym c.are_in_flash.ensures ∙ c.if-are_in_flash.false)

pub sram_binary-requires-clause-inside : goal.sram_binary-requires-clause-inside
sram_binary-requires-clause-inside c =
    binary-inside c.args.cpu c.args.elf.now c.args.found.now c.requires.found c.requires.right
