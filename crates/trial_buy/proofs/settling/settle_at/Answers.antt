use Rattle.std.proofs.Common.{◌≡◌, refl, subst, ◌∙◌}
use Rattle.trial_buy.proofs.ImageLemmas.{valid-rows, valid-version}
use Rattle.trial_buy.proofs.StepLemmas.{plain-erase, settled, started}
use Rattle.trial_buy.proofs.settling.settle_at.Goals as goal

pub raise_rows-requires-clause-rows : goal.raise_rows-requires-clause-rows
raise_rows-requires-clause-rows g c =
    valid-rows (g.B.Board.state c.args.board.now).content c.args.choice.now.image.window c.requires.valid.0 _
    c.args.choice.now.image c.requires.valid.1

pub raise_rows-requires-clause-version : goal.raise_rows-requires-clause-version
raise_rows-requires-clause-version g c =
    valid-version (g.B.Board.state c.args.board.now).content c.args.choice.now.image.window c.requires.valid.0 _
    c.args.choice.now.image c.requires.valid.1

pub returns : goal.returns
returns g c = record {
  steps = λ cpu is.
      let content = (g.B.Board.state c.args.board.now).content in
      started content cpu c.args.choice.now c.if-choice.false
      (settled content cpu c.args.choice.now c.args.sector refl
      (is ∙ plain-erase content cpu c.args.choice.now c.if-choice.false)
      c.in_ok-erase_in.ensures.steps c.raise_rows.ensures.steps);
}
