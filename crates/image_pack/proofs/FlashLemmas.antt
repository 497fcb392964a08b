-- The table of a made flash can be written.
use Rattle.std.proofs.Common.{◌≡◌, ◌∙◌, zero, suc, ◌<◌, All, length, refl, sym, subst, arith}
use Rattle.part_table.specs.declared.table.Table.{Table}
use Rattle.part_table.specs.Written.{AgreesWithFlags, written_table, written_size}
use Rattle.part_table.proofs.BlockLemmas.{size_told}
use Rattle.image_pack.specs.Flashes.{made_table}

made-agrees : All AgreesWithFlags made_table.parts.items
unfolding made_table
made-agrees zero d lt = record { id = refl; families = refl; name = refl }
made-agrees (suc zero) d lt = record { id = refl; families = refl; name = refl }
made-agrees (suc (suc k)) d lt = absurd (omega (arith, lt))

pub made-size : written_size made_table ≡ 92
unfolding made_table
made-size = refl

-- the partitions of a made flash's table agree with their flags
pub table-agrees : (t : Table) → t ≡ made_table → All AgreesWithFlags t.parts.items
table-agrees t is = subst (λ (u : Table). All AgreesWithFlags u.parts.items) (sym is) made-agrees

-- the block of a made flash's table is not too long
pub table-fits : (t : Table) → t ≡ made_table → 640 < written_size t → ⊥
table-fits t is long =
    let small : written_size t ≡ 92 = subst (λ (u : Table). written_size u ≡ 92) (sym is) made-size in
    omega (arith, small, long)

-- the block of a made flash's table has 92 bytes
pub table-size : length (written_table made_table) ≡ 92
table-size = size_told made_table ∙ made-size
