use Rattle.std.proofs.Common.{◌≡◌, ◌++◌, [], ◌∷◌, false, is_ok, refl, subst, sym, ap, ◌∙◌}
use Rattle.std.proofs.lemmas.Result.{err_from_is_err_and}
use Rattle.std.specs.Prelude.{Result, Ok, Err, OnOk}
use Rattle.pico_board.specs.Board.{DoesAll}
use Rattle.pico_board.proofs.StepLemmas.{DoesAll-append, DoesAll-append_cut}
use Rattle.uf2_place.specs.declared.current.Current.{Current}
use Rattle.uf2_place.specs.Progress.{is_held_back}
use Rattle.uf2_place.proofs.AddedLemmas.{grown-parts, last_part}
use Rattle.uf2_place.proofs.FollowingLemmas.{follow-put, held-last_push}
use Rattle.uf2_place.proofs.placing.place_block.Goals as goal

on_ok : {T E P : Type 0} (r : Result T E) → P → OnOk r P
on_ok (Ok x) p = p
on_ok (Err e) p = tt

pub returns-in_err-put-clause-steps : goal.returns-in_err-put-clause-steps
returns-in_err-put-clause-steps g c = λ blocks f next.
    let lost = err_from_is_err_and c.from_residual-in_err-put.result c.from_residual-in_err-put.ensures.1 in
    rw (lost.1)
    (subst (λ steps. DoesAll g.B.Board.state g.B.Board.history c.args.board.now steps false c.put.new.board)
    (sym (grown-parts c.args.pool.now c.args.marks.now c.args.current.now blocks c.args.block.now f c.requires.some))
    (DoesAll-append c.in_ok-open.ensures
    (DoesAll-append_cut (last_part c.args.current.now.target
    (blocks ++ c.args.block.now ∷ [])) c.in_err-put.ensures.steps)))

pub returns-clause-follows : goal.returns-clause-follows
returns-clause-follows g c = λ blocks f next.
    on_ok c.finish.result (follow-put c.args.pool.now c.args.marks.now c.args.current.now blocks c.args.block.now f next
    c.requires.block c.requires.inside c.put.new.pool c.put.new.marks c.take_number.new.marks c.put.new.current
    c.take_number.new.current (is_held_back c.args.current.now c.args.block.now) refl c.in_ok-put.ensures.held
    c.in_ok-put.ensures.same c.in_ok-put.ensures.marks c.take_number.ensures)

pub returns-clause-steps : goal.returns-clause-steps
returns-clause-steps g c = λ blocks f next.
    let target : c.take_number.new.current.target ≡ c.args.current.now.target =
    ap (λ (d : Current). d.target) c.take_number.ensures.rest ∙ c.in_ok-put.ensures.target in
    let followed = follow-put c.args.pool.now c.args.marks.now c.args.current.now blocks c.args.block.now f next
    c.requires.block c.requires.inside c.put.new.pool c.put.new.marks c.take_number.new.marks c.put.new.current
    c.take_number.new.current (is_held_back c.args.current.now c.args.block.now) refl c.in_ok-put.ensures.held
    c.in_ok-put.ensures.same c.in_ok-put.ensures.marks c.take_number.ensures in
    let finished : DoesAll g.B.Board.state g.B.Board.history c.put.new.board
    (last_part c.args.current.now.target (blocks ++ c.args.block.now ∷ [])) (is_ok c.finish.result) c.finish.new.board =
    subst (λ steps. DoesAll g.B.Board.state g.B.Board.history c.put.new.board steps
    (is_ok c.finish.result) c.finish.new.board)
    (held-last_push c.put.new.pool c.take_number.new.marks c.take_number.new.current blocks c.args.block.now
    c.args.current.now.target target followed) c.finish.ensures in
    subst (λ steps. DoesAll g.B.Board.state g.B.Board.history c.args.board.now steps
    (is_ok c.finish.result) c.finish.new.board)
    (sym (grown-parts c.args.pool.now c.args.marks.now c.args.current.now blocks c.args.block.now f c.requires.some))
    (DoesAll-append c.in_ok-open.ensures (DoesAll-append c.in_ok-put.ensures.steps finished))
