use Rattle.std.proofs.Common.{◌≡◌, ℕ, ◌+◌, ◌<◌, ◌≤◌, List, ◌∷◌, length, drop, get_or, ap, subst, sym, arith, ◌∙◌}
use Rattle.std.proofs.lemmas.List.{drop_all, drop_more}
use Rattle.std.proofs.lemmas.Result.{err_from_is_err_and}
use Rattle.pico_board.specs.Content.{Content}
use Rattle.otp_roll.specs.Rows.{AreRollbackRows, count}
use Rattle.otp_roll.proofs.CountedLemmas.{ApartInTurn, apart-in_turn, apart-drop, count-raises}
use Rattle.otp_roll.proofs.OnTheWayLemmas.{IsOnTheWay, way-step, way-lost, way-end}
use Rattle.otp_roll.proofs.raising.raise_to.Goals as goal

-- the rows from here on are this one and the later ones
next-row : (rows items : List ℕ) (i : ℕ) → items ≡ rows → i < length items
    → drop i rows ≡ get_or items i 0 ∷ drop (i + 1) rows
next-row rows items i is within =
    subst (λ xs. drop i rows ≡ get_or xs i 0 ∷ drop (i + 1) rows) (sym is)
    (drop_more rows i 0 (subst (λ xs. i < length xs) is within))

row-inside : (rows items : List ℕ) (i : ℕ) → items ≡ rows → i < length items → AreRollbackRows rows
    → get_or items i 0 + 2 < 4096
row-inside rows items i is within listed =
    subst (λ xs. get_or xs i 0 + 2 < 4096) (sym is)
    (omega (arith, (listed.in_range i 0 (subst (λ xs. i < length xs) is within)).1))

pub loop-row-preserved : goal.loop-row-preserved
loop-row-preserved g c =
    let next = next-row c.args.rows.now.items _ c.loop-row.row-index c.deref-row-items.ensures.0 c.loop-row-test.true
    in
    let apart = apart-drop c.loop-row.row-index c.args.rows.now.items
    (apart-in_turn c.args.rows.now.items c.requires.rows.apart) in
    let inside = row-inside c.args.rows.now.items _ c.loop-row.row-index c.deref-row-items.ensures.0
    c.loop-row-test.true c.requires.rows in
    let is_content = g.met.B.Board.is_content c.loop-row.board in
    way-step g.B.Board.state g.B.Board.history _ _ _ _ _ _ _ _ _
    (subst (λ left. IsOnTheWay g.B.Board.state g.B.Board.history c.args.board.now c.args.rows.now.items c.args.version
    c.loop-row.wanted left c.loop-row.board) next c.loop-row.invariant)
    (subst (λ left. ApartInTurn left) next apart)
    (omega (arith, inside, is_content.otp_length))
    c.in_ok-wanted.ensures.steps c.in_ok-wanted.ensures.taken

pub returns-in_err-wanted-clause-steps : goal.returns-in_err-wanted-clause-steps
returns-in_err-wanted-clause-steps g c =
    let next = next-row c.args.rows.now.items _ c.loop-row.row-index c.deref-row-items.ensures.0 c.loop-row-test.true
    in
    let lost = err_from_is_err_and c.from_residual.result c.from_residual.ensures.1 in
    rw (lost.1) (way-lost g.B.Board.state g.B.Board.history _ _ _ _ _ _ _ _
    (subst (λ left. IsOnTheWay g.B.Board.state g.B.Board.history c.args.board.now c.args.rows.now.items c.args.version
    c.loop-row.wanted left c.loop-row.board) next c.loop-row.invariant)
    c.in_err-wanted.ensures.steps)

pub returns-clause-steps : goal.returns-clause-steps
returns-clause-steps g c =
    let past : length c.args.rows.now.items ≤ c.loop-row.row-index =
    subst (λ (xs : List ℕ). length xs ≤ c.loop-row.row-index) c.deref-row-items.ensures.0 c.loop-row-test.false in
    let end = drop_all c.loop-row.row-index c.args.rows.now.items past in
    way-end g.B.Board.state g.B.Board.history _ _ _ c.loop-row.wanted _
    (subst (λ left. IsOnTheWay g.B.Board.state g.B.Board.history c.args.board.now c.args.rows.now.items c.args.version
    c.loop-row.wanted left c.loop-row.board) end c.loop-row.invariant)

pub returns-clause-count : goal.returns-clause-count
returns-clause-count g c =
    let past : length c.args.rows.now.items ≤ c.loop-row.row-index =
    subst (λ (xs : List ℕ). length xs ≤ c.loop-row.row-index) c.deref-row-items.ensures.0 c.loop-row-test.false in
    let end = drop_all c.loop-row.row-index c.args.rows.now.items past in
    let does = way-end g.B.Board.state g.B.Board.history _ _ _ c.loop-row.wanted _
    (subst (λ left. IsOnTheWay g.B.Board.state g.B.Board.history c.args.board.now c.args.rows.now.items c.args.version
    c.loop-row.wanted left c.loop-row.board) end c.loop-row.invariant) in
    ap (λ (z : Content). count z.otp c.args.rows.now.items) does.done
    ∙ count-raises (g.B.Board.state c.args.board.now).content c.args.rows.now.items c.args.version
    (g.met.B.Board.is_content c.args.board.now) c.requires.rows c.requires.version
