use Rattle.std.proofs.Common.{◌++◌, length, ap, ◌∙◌}
use Rattle.std.specs.Prelude.{option_to_list}
use Rattle.slot_caveats.specs.OtpCaveats.{otp_caveats, short_slots}
use Rattle.slot_caveats.specs.TableCaveats.{short_flash}
use Rattle.slot_caveats.proofs.ListingLemmas.{five-lists, on-ok}
use Rattle.boot_caveats.proofs.ReadLemmas.{readable-reasons}
use Rattle.boot_caveats.proofs.gathering.add_board.Goals as goal

pub table_in_image-requires-clause-start : goal.table_in_image-requires-clause-start
table_in_image-requires-clause-start g c =
    readable-reasons (g.B.Board.state c.args.board.now).content c.args.cpu c.args.kind c.args.reasons.now
    (g.met.B.Board.is_content c.args.board.now) c.requires.reasons

pub returns : goal.returns
returns g c =
    let l = c.args.list.now.items in
    let r = c.args.reasons.now in
    on-ok _ _ c.add-4.result _ _
    (λ last. last
    ∙ (ap (λ xs. xs ++ option_to_list c.table_in_image.result)
    (c.in_ok-add-3.ensures ∙ ap (λ xs. xs ++ option_to_list c.short_slots.result)
    (c.in_ok-add-2.ensures ∙ ap (λ xs. xs ++ option_to_list c.short_flash-2.result)
    (c.in_ok-add.ensures ∙ ap (λ xs. xs ++ option_to_list c.short_flash.result) c.in_ok-add_otp.ensures)))
    ∙ (ap (λ o. ((((l ++ otp_caveats (g.B.Board.state c.args.board.now).content.otp) ++ option_to_list o)
    ++ option_to_list c.short_flash-2.result) ++ option_to_list c.short_slots.result)
    ++ option_to_list c.table_in_image.result)
    (c.short_flash.ensures ∙ ap (λ n. short_flash n 0 r.first) c.flash_len.ensures)
    ∙ (ap (λ o. ((((l ++ otp_caveats (g.B.Board.state c.args.board.now).content.otp)
    ++ option_to_list (short_flash (length (g.B.Board.state c.args.board.now).content.flash) 0 r.first))
    ++ option_to_list o) ++ option_to_list c.short_slots.result) ++ option_to_list c.table_in_image.result)
    (c.short_flash-2.ensures ∙ ap (λ n. short_flash n 1 r.second) c.flash_len-2.ensures)
    ∙ (ap (λ o. ((((l ++ otp_caveats (g.B.Board.state c.args.board.now).content.otp)
    ++ option_to_list (short_flash (length (g.B.Board.state c.args.board.now).content.flash) 0 r.first))
    ++ option_to_list (short_flash (length (g.B.Board.state c.args.board.now).content.flash) 1 r.second))
    ++ option_to_list o) ++ option_to_list c.table_in_image.result) c.short_slots.ensures
    ∙ (ap (λ o. ((((l ++ otp_caveats (g.B.Board.state c.args.board.now).content.otp)
    ++ option_to_list (short_flash (length (g.B.Board.state c.args.board.now).content.flash) 0 r.first))
    ++ option_to_list (short_flash (length (g.B.Board.state c.args.board.now).content.flash) 1 r.second))
    ++ option_to_list (short_slots (g.B.Board.state c.args.board.now).content.otp
    (length (g.B.Board.state c.args.board.now).content.flash))) ++ option_to_list o) c.table_in_image.ensures
    ∙ five-lists l _ _ _ _ _))))))
    c.add-4.ensures
