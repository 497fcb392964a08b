use Rattle.std.proofs.Common.{sym, ap, subst, ◌∙◌, Some, length, option_map, false}
use Rattle.std.specs.Prelude.{IfSome}
use Rattle.std.specs.Result.{result_ok}
use Rattle.load_map.specs.Stored.{AreStoredIn}
use Rattle.pico_board.specs.Content.{window_bytes}
use Rattle.boot_rules.specs.Choosing.{choice_of}
use Rattle.boot_rules.proofs.PickLemmas.{confirmed-choice, seen-stands, unseen-choice}
use Rattle.boot_rules.proofs.picking.confirmed.Goals as goal

pub returns-in_default-seen-clause-exact : goal.returns-in_default-seen-clause-exact
returns-in_default-seen-clause-exact g c =
    unseen-choice (g.B.Board.state c.args.board.now).content c.args.cpu c.args.unit.now c.args.member c.in-Some.window
    c.args.seen.now
    (sym c.in-Some.ensures) c.in_default-seen.is c.requires.seen

pub confirm_by-requires-clause-stored : goal.confirm_by-requires-clause-stored
confirm_by-requires-clause-stored g c =
    subst (λ o. IfSome o (λ x. AreStoredIn
    (length (window_bytes (g.B.Board.state c.args.board.now).content c.in-Some.window)) x.loads.items))
    c.in-Some-seen.is (c.requires.stored c.in-Some.window (sym c.in-Some.ensures))

pub confirm_by-requires-clause-stands : goal.confirm_by-requires-clause-stands
confirm_by-requires-clause-stands g c =
    seen-stands (g.B.Board.state c.args.board.now).content c.args.cpu c.args.unit.now c.args.member c.in-Some.window
    c.args.seen.now c.in-Some-seen.candidate (sym c.in-Some.ensures) c.in-Some-seen.is c.requires.seen

pub returns-in-Ok-clause-exact : goal.returns-in-Ok-clause-exact
returns-in-Ok-clause-exact g c =
    ap Some c.choice_of.ensures
    ∙ sym (ap (λ r. option_map (choice_of c.args.unit.now c.args.member false) (result_ok r)) c.in-Ok.is)
    ∙ confirmed-choice (g.B.Board.state c.args.board.now).content c.args.cpu c.args.unit.now c.args.member c.in-Some.window
    c.args.seen.now
    c.in-Some-seen.candidate (sym c.in-Some.ensures) c.in-Some-seen.is c.requires.seen c.confirm_by.result c.confirm_by.ensures.exact

pub returns-in-Err-clause-exact : goal.returns-in-Err-clause-exact
returns-in-Err-clause-exact g c =
    sym (ap (λ r. option_map (choice_of c.args.unit.now c.args.member false) (result_ok r)) c.in-Err.is)
    ∙ confirmed-choice (g.B.Board.state c.args.board.now).content c.args.cpu c.args.unit.now c.args.member c.in-Some.window
    c.args.seen.now
    c.in-Some-seen.candidate (sym c.in-Some.ensures) c.in-Some-seen.is c.requires.seen c.confirm_by.result c.confirm_by.ensures.exact
