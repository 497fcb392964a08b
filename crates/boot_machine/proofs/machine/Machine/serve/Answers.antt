use Rattle.boot_machine.proofs.machine.Machine.serve.Goals as goal

pub returns : goal.returns
returns g c = record {
  serves = record {
    outcome = c.answer-served.result.outcome;
    serves = c.answer-served.ensures.serves;
    told = c.set_outcome.ensures;
  };
}
