use Rattle.std.proofs.Common.{[], ◌∷◌, arith, ap, ◌∙◌, length-append}
use Rattle.std.specs.Prelude.{Ok}
use Rattle.boot_script.specs.Events.{Command}
use Rattle.boot_script.specs.Reading.{and_next}
use Rattle.boot_script.proofs.ReadBackLemmas.{command-front}
use Rattle.boot_script.proofs.WhyNotLemmas.{command-lacks}
use Rattle.boot_script.proofs.examples.commands.Goals as goal

pub returns-clause-payload : goal.returns-clause-payload
returns-clause-payload c = λ command long.
    ap (λ r. and_next 0 r) (command-front 0 command (3 ∷ 0 ∷ 0 ∷ 0 ∷ 0xa ∷ 0xb ∷ 0xc ∷ 0xd ∷ []) long)
    ∙ ap (λ n. Ok (Command command (0xa ∷ 0xb ∷ 0xc ∷ []), n))
    (omega (arith, length-append command (3 ∷ 0 ∷ 0 ∷ 0 ∷ 0xa ∷ 0xb ∷ 0xc ∷ []), long))

pub returns-clause-no_payload : goal.returns-clause-no_payload
returns-clause-no_payload c = λ command long.
    ap (λ r. and_next 0 r) (command-front 0 command (0 ∷ 0 ∷ 0 ∷ 0 ∷ []) long)
    ∙ ap (λ n. Ok (Command command [], n)) (omega (arith, length-append command (0 ∷ 0 ∷ 0 ∷ 0 ∷ []), long))

pub returns-clause-one_byte_short : goal.returns-clause-one_byte_short
returns-clause-one_byte_short c =
    λ command long. ap (λ r. and_next 0 r) (command-front 0 command (3 ∷ 0 ∷ 0 ∷ 0 ∷ 0xa ∷ 0xb ∷ []) long)

pub returns-clause-high_byte : goal.returns-clause-high_byte
returns-clause-high_byte c =
    λ command long. ap (λ r. and_next 0 r) (command-front 0 command (0 ∷ 0 ∷ 0 ∷ 1 ∷ 0xa ∷ []) long)

pub returns-clause-no_length : goal.returns-clause-no_length
returns-clause-no_length c = λ command long. ap (λ r. and_next 0 r) (command-lacks 0 command (omega (arith, long)))
