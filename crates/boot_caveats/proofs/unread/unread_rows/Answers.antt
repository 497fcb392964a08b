use Rattle.std.proofs.Common.{◌≡◌, [], ◌∷◌, ◌++◌, length, map, ap, sym, ◌∙◌, arith}
use Rattle.std.specs.List.{range_with_len}
use Rattle.std.proofs.lemmas.List.FromFn.{map-range_with_len_more}
use Rattle.boot_caveats.specs.Unread.{unread_row, unread_rows}
use Rattle.boot_caveats.proofs.unread.unread_rows.Goals as goal

pub loop-row-preserved : goal.loop-row-preserved
loop-row-preserved g c =
    let otp = (g.B.Board.state c.args.board.now).content.otp in
    let row = c.loop-row.row in
    c.in_ok-push.ensures.items
    ∙ (ap (λ x. c.loop-row.rows.items ++ x ∷ []) c.unread_row.ensures
    ∙ (ap (λ xs. xs ++ unread_row otp row ∷ []) c.loop-row.invariant
    ∙ sym (map-range_with_len_more (unread_row otp) 0 row row (omega arith))))

pub returns : goal.returns
unfolding unread_rows
returns g c =
    let otp = (g.B.Board.state c.args.board.now).content.otp in
    let long : length otp ≡ 4096 = (g.met.B.Board.is_content c.args.board.now).otp_length in
    let all : c.loop-row.row ≡ length otp = omega (arith, long, c.loop-row-test.false, c.loop-row.auto.row-end) in
    c.loop-row.invariant ∙ ap (λ n. map (unread_row otp) (range_with_len 0 n)) all
