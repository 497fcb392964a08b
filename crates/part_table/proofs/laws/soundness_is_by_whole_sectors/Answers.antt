use Rattle.std.proofs.Common.{◌≡◌, ◌+◌, ◌*◌, ◌/◌, subst, sym, arith}
use Rattle.part_table.specs.Sound.{IsSoundTable}
use Rattle.part_table.proofs.laws.soundness_is_by_whole_sectors.Goals as goal

pub returns-clause-whole : goal.returns-clause-whole
returns-clause-whole c = λ t n k lt.
    let same : (4096 * n + k) / 4096 ≡ n = omega (arith, lt) in
    (subst (λ m. IsSoundTable t m) same, subst (λ m. IsSoundTable t m) (sym same))

pub returns-clause-none : goal.returns-clause-none
returns-clause-none c = λ n. tt
