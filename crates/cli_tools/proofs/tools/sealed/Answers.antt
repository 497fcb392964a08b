use Rattle.std.proofs.Common.{rules}
use Rattle.cli_tools.proofs.SealLemmas.{sealed-none}
use Rattle.cli_tools.proofs.SealCaseLemmas.{error-first}
use Rattle.cli_tools.proofs.tools.sealed.Goals as goal

pub returns-in-Ok-clause-none : goal.returns-in-Ok-clause-none
returns-in-Ok-clause-none c = sealed-none c.args.binary.bytes.now c.args.spec.now c.in-Ok.ensures.sealed

pub returns : goal.returns
returns c = record {
  image = tt;
  block = tt;
  none = tt;
  error = error-first c.args.binary.bytes.now c.args.spec.now c.in-Err.error c.in-Err.ensures.fault (search rules);
}
