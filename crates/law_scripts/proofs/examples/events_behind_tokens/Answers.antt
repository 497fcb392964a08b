use Rattle.std.proofs.Common.{[], refl, replicate}
use Rattle.law_scripts.proofs.examples.events_behind_tokens.Goals as goal

pub returns-clause-differ : goal.returns-clause-differ
returns-clause-differ c = record {
  cmd = record { token = 0; id = 6; arg_size = 0; transfer = 0; args = replicate 16 0 };
  payload = [];
  first = refl;
  second = refl;
}

pub returns-clause-first_token : goal.returns-clause-first_token
returns-clause-first_token c = λ d. absurd (cc d.first)

pub returns-clause-second_token : goal.returns-clause-second_token
returns-clause-second_token c = λ d. absurd (cc d.second)
