use Rattle.std.proofs.Common.{◌∙◌, ap, subst, sym}
use Rattle.std.proofs.lemmas.Result.{on_ok_weaker}
use Rattle.pico_board.specs.Cuts.{torn_by}
use Rattle.pico_board.specs.Steps.{after}
use Rattle.boot_sweep.specs.EachCut.{Remembers}
use Rattle.boot_sweep.proofs.EachCutLemmas.{remembers-done, remembers-torn}
use Rattle.boot_sweep.proofs.RedoneLemmas.{redone}
use Rattle.boot_sweep.proofs.cutting.judge_step.Goals as goal

pub judge-requires-2-clause-known : goal.judge-requires-2-clause-known
judge-requires-2-clause-known g c =
    let by = g.J.Judge.compared c.args.judge.now in
    let is_first = g.J.Judge.is_first c.args.judge.now in
    let step = c.args.step.now in
    let pattern = c.args.pattern.now in
    subst (λ d. Remembers by is_first c.args.slot c.judge.new.last d)
    (sym (c.cut.ensures.torn ∙ ap (λ s. torn_by pattern s.content step) c.judge.ensures.same))
    (remembers-torn by is_first c.args.slot c.judge.new.last (g.B.Board.state c.args.board.now).content pattern step
    c.requires.slot c.in_ok-before.ensures.known)

pub returns-clause-done : goal.returns-clause-done
returns-clause-done g c =
    let step = c.args.step.now in
    let pattern = c.args.pattern.now in
    on_ok_weaker c.take.result (λ taken.
    c.complete.ensures.done
    ∙ (ap (λ s. after s.content step) c.judge-2.ensures.same
    ∙ (ap (λ d. after d step) c.cut.ensures.torn
    ∙ (ap (λ s. after (torn_by pattern s.content step) step) c.judge.ensures.same
    ∙ redone pattern (g.B.Board.state c.args.board.now).content step (g.met.B.Board.is_content c.args.board.now)
    c.requires.range)))) c.take.ensures.taken

pub returns-clause-taken : goal.returns-clause-taken
returns-clause-taken g c =
    let takes = g.J.Judge.takes c.args.found.now in
    let answer = g.J.Judge.answer c.args.judge.now in
    let b = (g.B.Board.state c.args.board.now).content in
    let step = c.args.step.now in
    let pattern = c.args.pattern.now in
    on_ok_weaker c.take.result (λ taken.
    subst (λ a. takes a (answer (torn_by pattern b step)) c.take.new.found) c.in_ok-before.ensures.exact
    (subst (λ a. takes c.in_ok-before.before a c.take.new.found)
    (c.in_ok-within.ensures.exact ∙ ap answer (c.cut.ensures.torn
    ∙ ap (λ s. torn_by pattern s.content step) c.judge.ensures.same)) taken)) c.take.ensures.taken

pub returns-clause-known : goal.returns-clause-known
returns-clause-known g c =
    let by = g.J.Judge.compared c.args.judge.now in
    let is_first = g.J.Judge.is_first c.args.judge.now in
    let last = c.judge-2.new.last in
    let torn = (g.B.Board.state c.cut.new.board).content in
    let step = c.args.step.now in
    on_ok_weaker c.take.result (λ taken.
    subst (λ d. Remembers by is_first c.args.slot last d)
    (sym (c.complete.ensures.done ∙ ap (λ s. after s.content step) c.judge-2.ensures.same))
    (remembers-done by is_first c.args.slot last torn step c.requires.slot c.in_ok-within.ensures.known))
    c.take.ensures.taken
