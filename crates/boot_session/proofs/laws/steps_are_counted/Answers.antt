use Rattle.std.proofs.Common.{◌≡◌, ◌<◌, ◌-◌, ◌^◌, length, min, arith}
use Rattle.boot_session.proofs.laws.steps_are_counted.Goals as goal

pub returns-clause-all : goal.returns-clause-all
returns-clause-all c = λ r content cpu steps is.
    let few : length steps < 2 ^ 32 - 1 = is.few in
    let counted : r.count ≡ min (length steps) (2 ^ 32 - 1) = is.recorded.counted in
    omega (arith, few, counted)

pub returns-clause-few : goal.returns-clause-few
returns-clause-few c = λ r content cpu steps is.
    let few : length steps < 2 ^ 32 - 1 = is.few in
    let counted : r.count ≡ min (length steps) (2 ^ 32 - 1) = is.recorded.counted in
    omega (arith, few, counted)
