use Rattle.std.proofs.Common.{◌∙◌, ap, subst, sym}
use Rattle.boot_sweep.specs.EachCut.{Remembers}
use Rattle.boot_sweep.specs.Moving.{MoveView, Torn, move_from, moved_step}
use Rattle.boot_sweep.specs.Verdicts.{LiesIn}
use Rattle.boot_sweep.proofs.EachCutLemmas.{remembers-moved}
use Rattle.boot_sweep.proofs.cutting.judge_act.Goals as goal

pub returns-in-Torn-clause-known : goal.returns-in-Torn-clause-known
returns-in-Torn-clause-known g c =
    let by = g.J.Judge.compared c.args.judge.now in
    let is_first = g.J.Judge.is_first c.args.judge.now in
    let last = c.args.last.now in
    let moved = Torn c.in-Torn.step c.in-Torn.within c.in-Torn.own.now in
    subst (λ d. Remembers by is_first c.args.slot last d) (sym c.cut.ensures.torn)
    (remembers-moved by is_first c.args.slot last (g.B.Board.state c.args.board.now).content moved
    (subst (λ (m : MoveView). LiesIn c.args.slot (moved_step m)) (sym (ap move_from (sym c.in-Torn.is) ∙ c.as_move.ensures))
    c.requires.slot) c.requires.known)
