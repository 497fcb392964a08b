use Rattle.std.proofs.Common.{◌∙◌, ap, subst, sym}
use Rattle.pico_board.specs.Content.{window_bytes}
use Rattle.pico_board.specs.declared.boot.BootKind.TheVariants.{Normal}
use Rattle.boot_rules.specs.Chosen.{Chosen}
use Rattle.boot_sweep.specs.Comparing.{is_whole}
use Rattle.boot_sweep.proofs.ResultLemmas.{same-exactly, start-holds, start-inside}
use Rattle.boot_sweep.proofs.results.is_whole.Goals as goal

pub invariant_of-here : goal.invariant_of-here
invariant_of-here g c =
    let d = (g.B.Board.state c.args.board.now).content in record {
      power = c.requires.power;
      inside = start-inside d c.args.cpu c.in-Start.choice (g.met.B.Board.is_content c.args.board.now)
          (subst (λ x. Chosen d c.args.cpu Normal x) c.in-Start.is c.requires.chosen);
    }

pub same_content-requires-clause-held : goal.same_content-requires-clause-held
same_content-requires-clause-held g c =
    let d = (g.B.Board.state c.args.board.now).content in
    start-holds d c.args.cpu c.in-Start.choice
    (subst (λ x. Chosen d c.args.cpu Normal x) c.in-Start.is c.requires.chosen)

pub returns-in-Start : goal.returns-in-Start
returns-in-Start g c =
    let d = (g.B.Board.state c.args.board.now).content in
    let z = (g.Z.Board.state c.args.finished.now).content in
    let window = c.in-Start.choice.image.window in
    same-exactly c.args.cpu (window_bytes d window) (window_bytes z window) c.in-Start.choice.image
    c.same_content.result
    (start-holds d c.args.cpu c.in-Start.choice
    (subst (λ x. Chosen d c.args.cpu Normal x) c.in-Start.is c.requires.chosen))
    c.same_content.ensures
    ∙ ap (is_whole c.args.cpu d z) (sym c.in-Start.is)
