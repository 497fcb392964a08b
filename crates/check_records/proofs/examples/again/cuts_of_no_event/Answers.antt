use Rattle.std.proofs.Common.{arith}
use Rattle.check_records.proofs.examples.again.cuts_of_no_event.Goals as goal

pub returns : goal.returns
returns c = λ content cpu pattern. record {
  table = (λ e. cc, λ other. absurd (let less = other.among.1 in omega (arith, less)));
  class = (λ e. cc, λ other. absurd (let less = other.among.1 in omega (arith, less)));
}
