use Rattle.law_updates.proofs.PlayedLemmas.{traced-on}
use Rattle.law_updates.proofs.laws.own.a_traced_script_is_on_a_board.Goals as goal

pub returns : goal.returns
returns g = traced-on
