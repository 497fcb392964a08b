use Rattle.std.proofs.Common.{◌≡◌, true, false, ◌-◌, ℕ, min, List, ap, subst, ◌∙◌}
use Rattle.std.specs.Int.Count.{ones, ones-le}
use Rattle.std.proofs.lemmas.Result.{err_from_is_err_and}
use Rattle.pico_board.specs.Board.{DoesAll}
use Rattle.otp_roll.specs.Rows.{majority}
use Rattle.otp_roll.specs.Raises.{lowest_clear, raise_triple, taken_bits}
use Rattle.otp_roll.proofs.OnTheWayLemmas.{triple-third}
use Rattle.otp_roll.proofs.raising.raise_row.Goals as goal

pub overflow_sub-former : goal.overflow_sub-former
overflow_sub-former g c = ones-le 24 c.majority-former.result c.majority-former.ensures.bits

-- the bits that the code takes are those of the definition
bits-are : (otp : List ℕ) (wanted r former number bits : ℕ) → former ≡ majority otp r
    → number ≡ min (24 - ones former) wanted
    → bits ≡ lowest_clear number former → bits ≡ lowest_clear (taken_bits otp wanted r) (majority otp r)
bits-are otp wanted r former number bits former_is number_is bits_are =
    bits_are ∙ ap (λ m. lowest_clear number m) former_is
    ∙ ap (λ n. lowest_clear n (majority otp r)) (number_is ∙ ap (λ m. min (24 - ones m) wanted) former_is)

pub returns-in_err-raise_lacking-3-clause-steps : goal.returns-in_err-raise_lacking-3-clause-steps
returns-in_err-raise_lacking-3-clause-steps g c =
    let bits = bits-are (g.B.Board.state c.args.board.now).content.otp c.args.wanted c.args.row _ _ _
    c.majority-former.ensures.value c.min-number.ensures c.lowest_clear-bits.ensures.value in
    let lost = err_from_is_err_and c.from_residual-in_err-raise_lacking-3.result
    c.from_residual-in_err-raise_lacking-3.ensures.1 in
    rw (lost.1) (subst (λ b. DoesAll g.B.Board.state g.B.Board.history c.args.board.now
    (raise_triple (g.B.Board.state c.args.board.now).content.otp b c.args.row) false c.raise_lacking-3.new.board)
    bits
    (triple-third g.B.Board.state g.B.Board.history _ _ _ _ _ _ _ c.in_ok-raise_lacking.ensures
    c.in_ok-raise_lacking-2.ensures c.in_err-raise_lacking-3.ensures))

pub returns-clause-steps : goal.returns-clause-steps
returns-clause-steps g c =
    let bits = bits-are (g.B.Board.state c.args.board.now).content.otp c.args.wanted c.args.row _ _ _
    c.majority-former.ensures.value c.min-number.ensures c.lowest_clear-bits.ensures.value in
    subst (λ b. DoesAll g.B.Board.state g.B.Board.history c.args.board.now
    (raise_triple (g.B.Board.state c.args.board.now).content.otp b c.args.row) true c.raise_lacking-3.new.board)
    bits
    (triple-third g.B.Board.state g.B.Board.history _ _ _ _ _ _ _ c.in_ok-raise_lacking.ensures
    c.in_ok-raise_lacking-2.ensures c.in_ok-raise_lacking-3.ensures)
