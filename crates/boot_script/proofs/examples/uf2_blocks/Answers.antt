use Rattle.std.proofs.Common.{[], ◌∷◌, arith, ap, ◌∙◌}
use Rattle.std.specs.Prelude.{Ok}
use Rattle.boot_script.specs.Events.{Uf2}
use Rattle.boot_script.specs.Reading.{and_next}
use Rattle.boot_script.proofs.ReadBackLemmas.{uf2-back}
use Rattle.boot_script.proofs.examples.uf2_blocks.Goals as goal

pub returns-clause-whole : goal.returns-clause-whole
returns-clause-whole c = λ block long.
    ap (λ r. and_next 0 r) (uf2-back 0 block (0 ∷ []) long) ∙ ap (λ n. Ok (Uf2 block, n)) (omega (arith, long))
