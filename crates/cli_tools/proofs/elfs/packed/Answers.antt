use Rattle.std.proofs.Common.{rules}
use Rattle.cli_tools.proofs.ElfLemmas.{elf-first, none-is}
use Rattle.cli_tools.proofs.elfs.packed.Goals as goal

pub returns-in-Ok-clause-none : goal.returns-in-Ok-clause-none
returns-in-Ok-clause-none c =
    none-is c.args.elf.bytes.now c.args.spec.now c.in-Ok.ensures.right c.in-Ok.ensures.sealed

pub returns : goal.returns
returns c = record {
  image = tt;
  block = tt;
  none = tt;
  fault = elf-first c.args.elf.bytes.now c.args.spec.now c.in-Err.fault c.in-Err.ensures.fault (search rules);
}
