use Rattle.cli_inputs.proofs.BoardLemmas.{narrow-padded}
use Rattle.cli_inputs.proofs.boards.padded.Goals as goal

pub invariant_of-result : goal.invariant_of-result
invariant_of-result c =
    record {
      count = c.in_ok-pad.ensures.count;
      narrow = narrow-padded c.args.rows.items _ _ c.requires.narrow c.in_ok-pad.ensures.rows;
    }
