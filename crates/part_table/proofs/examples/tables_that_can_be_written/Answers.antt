use Rattle.std.proofs.Common.{refl, arith}
use Rattle.block_codec.specs.Words.{word_of}
use Rattle.part_table.specs.Examples.{plain_partition}
use Rattle.part_table.specs.Written.{IsReadablePartition}
use Rattle.part_table.proofs.GreatestLemmas.{widest, named, plain, each}
use Rattle.part_table.proofs.examples.tables_that_can_be_written.Goals as goal

pub returns-clause-greatest : goal.returns-clause-greatest
unfolding word_of
returns-clause-greatest c = record {
  readable = record {
    parts = (widest.readable, tt);
    few = omega arith;
    major = omega arith;
    minor = omega arith;
    fits = omega arith;
  };
  parts = (widest, tt);
  unpartitioned = omega arith;
}

pub returns-clause-most : goal.returns-clause-most
unfolding word_of
returns-clause-most c = record {
  parts = each IsReadablePartition 15 (plain_partition 0 0) plain;
  few = omega arith;
  major = omega arith;
  minor = omega arith;
  fits = omega arith;
}

pub returns-clause-full : goal.returns-clause-full
unfolding word_of
returns-clause-full c = record {
  parts = (widest.readable, (named, (named, (named, tt))));
  few = omega arith;
  major = omega arith;
  minor = omega arith;
  fits = omega arith;
}

pub returns-clause-full_size : goal.returns-clause-full_size
unfolding word_of
returns-clause-full_size c = refl
