-- What the greatest words, ids and names that can be written make of a partition.
use Rattle.std.proofs.Common.{ℕ, zero, suc, ◌<◌, List, All, replicate, refl, sym, subst, arith, inl, inr}
use Rattle.std.proofs.lemmas.Bool.{cases_lt}
use Rattle.std.proofs.lemmas.List.{get_or_past}
use Rattle.std.proofs.lemmas.List.Elements.{All-replicate}
use Rattle.std.specs.Prelude.{slice_index}
use Rattle.std.specs.List.{AllByRecursion}
use Rattle.part_table.specs.Examples.{widest_partition, named_partition_of, longest_name, plain_partition}
use Rattle.part_table.specs.Written.{IsReadablePartition, IsWritablePartition}

abbrev bytes_255 : List ℕ
bytes_255 = replicate 127 255

all_small : All (λ (b : ℕ). b < 256) bytes_255
all_small = All-replicate (λ (b : ℕ). b < 256) 127 255 (omega arith)

small : (i : ℕ) → slice_index bytes_255 i < 256
small i = elim (cases_lt i 127) [
  | inl inside ↦ all_small i 0 inside
  | inr past ↦ subst (λ (b : ℕ). b < 256) (sym (get_or_past bytes_255 i 0 past)) (omega arith)
]

pub widest : IsWritablePartition widest_partition
widest = record {
  readable = record {
    agrees = record { id = refl; families = refl; name = refl };
    short = omega arith;
    bytes = small;
  };
  location = omega arith;
  flags = omega arith;
  id = omega arith;
  families = (omega arith, (omega arith, (omega arith, tt)));
}

pub named : IsReadablePartition (named_partition_of 0x1000 longest_name.items)
named = record {
  agrees = record { id = refl; families = refl; name = refl };
  short = omega arith;
  bytes = small;
}

pub plain : IsReadablePartition (plain_partition 0 0)
plain = record { agrees = record { id = refl; families = refl; name = refl }; short = tt; bytes = tt }

pub each : {X : Type 0} (P : X → Type 0) (n : ℕ) (x : X) → P x → AllByRecursion P (replicate n x)
each P zero x p = tt
each P (suc n) x p = (p, each P n x p)
