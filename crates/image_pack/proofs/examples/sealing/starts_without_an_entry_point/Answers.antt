use Rattle.std.proofs.Common.{Some, None, refl, ap, arith}
use Rattle.std.proofs.lemmas.Option.{same_Some}
use Rattle.block_codec.specs.Words.{word_of}
use Rattle.image_check.specs.declared.entry.Source.{Source}
use Rattle.image_pack.proofs.examples.sealing.starts_without_an_entry_point.Goals as goal

pub returns-clause-first : goal.returns-clause-first
unfolding word_of
returns-clause-first c = record {
  source = record {
    entry = record { pc = 0x10000201; sp = 0x20082000; limit = 0 };
    table = Some 0x10000000;
  };
  said = record { sp = refl; pc = refl; limit = refl; from = refl };
  starts = record { pc = refl; sp = refl; limit = refl };
}

pub returns-clause-named : goal.returns-clause-named
unfolding word_of
returns-clause-named c = record {
  source = record {
    entry = record { pc = 0x10000201; sp = 0x20082000; limit = 0 };
    table = Some 0x10000004;
  };
  said = record { sp = refl; pc = refl; limit = refl; from = refl };
  starts = record { pc = refl; sp = refl; limit = refl };
}

pub returns-clause-not_named : goal.returns-clause-not_named
unfolding word_of
returns-clause-not_named c = λ is.
    let pc = same_Some 0x20082000 is.source.entry.pc is.said.pc in
    omega (arith, pc, is.starts.pc)

pub returns-clause-other_pc : goal.returns-clause-other_pc
unfolding word_of
returns-clause-other_pc c = λ is.
    let pc = same_Some 0x10000201 is.source.entry.pc is.said.pc in
    omega (arith, pc, is.starts.pc)

pub returns-clause-other_sp : goal.returns-clause-other_sp
unfolding word_of
returns-clause-other_sp c = λ is.
    let sp = same_Some 0x20082000 is.source.entry.sp is.said.sp in
    omega (arith, sp, is.starts.sp)

pub returns-clause-riscv : goal.returns-clause-riscv
returns-clause-riscv c = record {
  source = record {
    entry = record { pc = 0x10000000; sp = 0x20082000; limit = 0 };
    table = None;
  };
  said = refl;
  starts = record { pc = refl; sp = refl; limit = refl };
}

pub returns-clause-not_by_table : goal.returns-clause-not_by_table
returns-clause-not_by_table c = λ is.
    let pc = ap (λ (s : Source). s.entry.pc) is.said in
    omega (arith, pc, is.starts.pc)
