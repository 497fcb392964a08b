use Rattle.std.proofs.Common.{◌≡◌, ◌∙◌, [], refl}
use Rattle.std.proofs.lemmas.Result.{IfOk-weaker}
use Rattle.std.specs.Prelude.{Vec}
use Rattle.std.specs.declared.alloc.Global.{Global}
use Rattle.pico_board.specs.MemBoard.{state_of}
use Rattle.boot_cuts.specs.declared.runs.Run.{Run}
use Rattle.boot_cuts.specs.Judging.{told_answers}
use Rattle.boot_tape.specs.Moving.{moves_from}
use Rattle.boot_cuts.specs.Runs.{all_runs, runs_of}
use Rattle.boot_cuts.proofs.WalkLemmas.{moves-lie, runs-begun, runs-taken}
use Rattle.boot_cuts.proofs.walking.runs_on.Goals as goal

pub each_cut-requires-clause-known : goal.each_cut-requires-clause-known
each_cut-requires-clause-known c =
    ((state_of c.args.ends.now.start.now).content, refl, c.requires.known)

pub each_cut-requires-clause-slot : goal.each_cut-requires-clause-slot
each_cut-requires-clause-slot c = moves-lie c.args.slot (moves_from c.args.moves.now) c.requires.slot

pub returns-clause-told : goal.returns-clause-told
returns-clause-told c =
    let b = (state_of c.args.board.now).content in
    let ends = c.args.ends.now in
    let pattern = c.args.pattern.now in
    let moves = moves_from c.args.moves.now in
    let begun = c.begin-runs.result in
    let told = told_answers ends pattern b moves in
    IfOk-weaker c.end.result (λ (runs : Vec Run Global). runs.items ≡ all_runs c.each_cut.new.found [])
    (λ (runs : Vec Run Global). runs.items ≡ runs_of told)
    (λ runs is. is
    ∙ (runs-taken ends pattern begun b moves c.each_cut.new.found c.in_ok-each_cut.ensures.taken
    ∙ runs-begun begun told c.begin-runs.ensures.ended c.begin-runs.ensures.none c.begin-runs.ensures.next))
    c.end.ensures
