-- What is cut of a file is its front.
use Rattle.std.proofs.Common.{◌+◌, take, drop, refl, sym, ap, ◌∷◌, [], arith}
use Rattle.std.proofs.lemmas.List.{length-take, take-append-drop, take_all}
use Rattle.cli_inputs.specs.Forms.{limit_of}
use Rattle.cli_inputs.proofs.laws.what_is_read_of_inputs.Goals as goal

pub returns-clause-longer : goal.returns-clause-longer
returns-clause-longer c = λ input bytes long.
    let front = length-take (limit_of input.form + 1) bytes in (
      take (limit_of input.form + 1) bytes,
      drop (limit_of input.form + 1) bytes,
      omega (arith, front),
      sym (take-append-drop (limit_of input.form + 1) bytes),
      refl,
    )

pub returns-clause-whole : goal.returns-clause-whole
returns-clause-whole c = λ input bytes short.
    ap (λ read. read ∷ []) (take_all (limit_of input.form + 1) bytes (omega arith))
