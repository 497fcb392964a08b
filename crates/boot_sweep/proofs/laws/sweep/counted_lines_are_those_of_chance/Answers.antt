use Rattle.std.proofs.Common.{◌≡◌, ap, refl, true}
use Rattle.boot_sweep.specs.declared.results.CutResult.{CutResult}
use Rattle.boot_sweep.specs.declared.results.CutResult.TheVariants.{Former, Finished, Chance}
use Rattle.boot_sweep.specs.Sweeps.{is_chance_result}
use Rattle.boot_sweep.proofs.laws.sweep.counted_lines_are_those_of_chance.Goals as goal

counted : (r : CutResult) → is_chance_result r ≡ true → r ≡ Chance
counted Former h = cc
counted Finished h = cc
counted Chance h = refl

pub returns : goal.returns
returns c = λ line. (counted line.result, λ h. ap is_chance_result h)
