use Rattle.std.proofs.Common.{◌<◌, ◌/◌, true, false, length, refl, sym, ap, ◌∙◌, subst, arith}
use Rattle.std.proofs.lemmas.Result.{err_from_is_err_and}
use Rattle.pico_board.specs.Board.{DoesAll}
use Rattle.pico_board.specs.Content.{Content}
use Rattle.pico_board.proofs.StepLemmas.{DoesAll-append_cut}
use Rattle.trial_buy.proofs.ImageLemmas.{trial-inside, valid-rows, valid-version}
use Rattle.trial_buy.proofs.StepLemmas.{bought, cut-in_erase, rewrite-otp, settled}
use Rattle.trial_buy.specs.Buying.{clearing, cleared_sector, trial_place}
use Rattle.trial_buy.proofs.buying.buy_at.Goals as goal

pub trial_place-requires : goal.trial_place-requires
trial_place-requires g c =
    let inside = trial-inside (g.B.Board.state c.args.board.now).content c.args.choice.now.image.window c.requires.valid.0 _
    c.args.choice.now.image
    c.requires.valid.1 refl c.requires.placed.started in
    let most = (g.met.B.Board.is_content c.args.board.now).flash_length.most in
    omega (arith, inside, most)

pub clear-requires-clause-inside : goal.clear-requires-clause-inside
clear-requires-clause-inside g c =
    subst (λ place. place < length (g.B.Board.state c.args.board.now).content.flash) (sym c.trial_place.ensures)
    (trial-inside (g.B.Board.state c.args.board.now).content c.args.choice.now.image.window c.requires.valid.0 _
    c.args.choice.now.image c.requires.valid.1 refl
    c.requires.placed.started)

pub returns-in_err-clear-clause-steps : goal.returns-in_err-clear-clause-steps
returns-in_err-clear-clause-steps g c = λ cpu is.
    let lost = err_from_is_err_and c.from_residual.result c.from_residual.ensures.1 in
    rw (lost.1) (DoesAll-append_cut _
    (subst (λ place. DoesAll g.B.Board.state g.B.Board.history c.args.board.now
    (clearing (g.B.Board.state c.args.board.now).content.flash place) false c.clear.new.board)
    c.trial_place.ensures c.in_err-clear.ensures.steps))

pub returns-in_err-erase_in-clause-steps : goal.returns-in_err-erase_in-clause-steps
returns-in_err-erase_in-clause-steps g c = λ cpu is.
    let content = (g.B.Board.state c.args.board.now).content in
    let lost = err_from_is_err_and c.from_residual-in_err-erase_in.result c.from_residual-in_err-erase_in.ensures.1 in
    rw (lost.1) (bought content cpu c.args.choice.now
    (subst (λ place. DoesAll g.B.Board.state g.B.Board.history c.args.board.now
    (clearing content.flash place) true c.clear.new.board)
    c.trial_place.ensures c.in_ok-clear.ensures.steps)
    (cut-in_erase content cpu c.args.choice.now c.args.sector
    is c.in_err-erase_in.ensures.steps))

pub raise_rows-requires-clause-rows : goal.raise_rows-requires-clause-rows
raise_rows-requires-clause-rows g c =
    valid-rows (g.B.Board.state c.args.board.now).content c.args.choice.now.image.window c.requires.valid.0 _
    c.args.choice.now.image c.requires.valid.1

pub raise_rows-requires-clause-version : goal.raise_rows-requires-clause-version
raise_rows-requires-clause-version g c =
    valid-version (g.B.Board.state c.args.board.now).content c.args.choice.now.image.window c.requires.valid.0 _
    c.args.choice.now.image c.requires.valid.1

pub returns-clause-steps : goal.returns-clause-steps
returns-clause-steps g c = λ cpu is.
    let content = (g.B.Board.state c.args.board.now).content in
    let first = subst (λ place. DoesAll g.B.Board.state g.B.Board.history c.args.board.now
    (clearing content.flash place) true c.clear.new.board)
    c.trial_place.ensures c.in_ok-clear.ensures.steps in
    let kept = ap (λ (x : Content). x.otp) first.done
    ∙ rewrite-otp content (trial_place c.args.choice.now.image / 4096)
    (cleared_sector content.flash (trial_place c.args.choice.now.image)) in
    bought content cpu c.args.choice.now first
    (settled content cpu c.args.choice.now c.args.sector kept
    is
    c.in_ok-erase_in.ensures.steps c.raise_rows.ensures.steps)
