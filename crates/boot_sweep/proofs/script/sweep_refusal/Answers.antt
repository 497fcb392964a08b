use Rattle.std.proofs.Common.{◌≤◌, Some, None, true, false, refl, sym, ap, ◌∙◌, subst, length, arith}
use Rattle.std.specs.Prelude.{is_none, is_some}
use Rattle.boot_rules.specs.Tables.{table_in}
use Rattle.pico_board.specs.MemBoard.{state_of}
use Rattle.boot_sweep.specs.Refusals.{starts_in_slot, ungated}
use Rattle.boot_session.specs.Recordings.{step_limit}
use Rattle.boot_sweep.proofs.ReasonLemmas.{few-is, gains-none, gains-some, kept-by, kept-few, many-is, none-by, reason-by}
use Rattle.boot_sweep.proofs.script.sweep_refusal.Goals as goal
use Rattle.boot_sweep.proofs.script.sweep_refusal.Goals.{else-is_none-via-then-is_none+else-is_some, else-is_none-via-else-is_none}

pub returns-in-Some : goal.returns-in-Some
returns-in-Some g c = λ steps is.
    reason-by c.args.recorder.now (g.B.Board.state c.args.board.now).content c.args.cpu steps (Some c.in-Some.k) _ _ _ _
    is c.in-Some.is refl refl refl refl

pub ungated-requires : goal.ungated-requires
ungated-requires g c = record {
  few = subst (λ xs. length xs ≤ step_limit) (sym c.kept_steps.ensures) (kept-few c.deref.result.now);
}

pub returns-in-Some-ungated : goal.returns-in-Some-ungated
returns-in-Some-ungated g c = λ steps is.
    let first = ap (ungated c.args.recorder.now.slot) (sym (kept-by _ _ _ c.deref.ensures.value c.kept_steps.ensures))
    ∙ (sym c.ungated.ensures ∙ c.in-Some-ungated.is) in
    reason-by c.args.recorder.now (g.B.Board.state c.args.board.now).content c.args.cpu steps None
    (Some c.in-Some-ungated.k) _ _ _ is c.in_default.is first refl refl refl

pub returns-then-recorder : goal.returns-then-recorder
returns-then-recorder g c = λ steps is.
    let first = ap (ungated c.args.recorder.now.slot) (sym (kept-by _ _ _ c.deref.ensures.value c.kept_steps.ensures))
    ∙ (sym c.ungated.ensures ∙ c.in_default-ungated.is) in
    reason-by c.args.recorder.now (g.B.Board.state c.args.board.now).content c.args.cpu steps None None true _ _ is
    c.in_default.is first (many-is c.args.recorder.now.count (omega (arith, c.if-recorder.true))) refl refl

pub returns-then-starts_in_slot : goal.returns-then-starts_in_slot
returns-then-starts_in_slot g c = λ steps is.
    let first = ap (ungated c.args.recorder.now.slot) (sym (kept-by _ _ _ c.deref.ensures.value c.kept_steps.ensures))
    ∙ (sym c.ungated.ensures ∙ c.in_default-ungated.is) in
    let starts = ap (starts_in_slot c.args.recorder.now.slot) (sym c.requires.former)
    ∙ (sym c.starts_in_slot.ensures ∙ c.if-starts_in_slot.true) in
    reason-by c.args.recorder.now (g.B.Board.state c.args.board.now).content c.args.cpu steps None None false true _ is
    c.in_default.is first (few-is c.args.recorder.now.count (omega (arith, c.if-recorder.false))) starts refl

pub returns-then-is_some : goal.returns-then-is_some
returns-then-is_some g c = λ steps is.
    let first = ap (ungated c.args.recorder.now.slot) (sym (kept-by _ _ _ c.deref.ensures.value c.kept_steps.ensures))
    ∙ (sym c.ungated.ensures ∙ c.in_default-ungated.is) in
    let starts = ap (starts_in_slot c.args.recorder.now.slot) (sym c.requires.former)
    ∙ (sym c.starts_in_slot.ensures ∙ c.if-starts_in_slot.false) in
    let before = ap is_none (sym c.find_table.ensures.exact)
    ∙ none-by c.find_table.result c.is_none.result true
    c.is_none.ensures c.if-is_none.true in
    let after = ap is_some (sym c.find_table-then-is_none.ensures.exact)
    ∙ (sym c.is_some.ensures ∙ c.if-is_some.true) in
    reason-by c.args.recorder.now (g.B.Board.state c.args.board.now).content c.args.cpu steps None None false false true
    is c.in_default.is first (few-is c.args.recorder.now.count (omega (arith, c.if-recorder.false))) starts
    (gains-some (table_in (g.B.Board.state c.args.board.now).content)
    (table_in (state_of c.args.recorder.now.bench).content) true before after)

pub returns : goal.returns
returns g c = λ steps is.
    let first = ap (ungated c.args.recorder.now.slot) (sym (kept-by _ _ _ c.deref.ensures.value c.kept_steps.ensures))
    ∙ (sym c.ungated.ensures ∙ c.in_default-ungated.is) in
    let starts = ap (starts_in_slot c.args.recorder.now.slot) (sym c.requires.former)
    ∙ (sym c.starts_in_slot.ensures ∙ c.if-starts_in_slot.false) in
    reason-by c.args.recorder.now (g.B.Board.state c.args.board.now).content c.args.cpu steps None None false false
    false is c.in_default.is first (few-is c.args.recorder.now.count (omega (arith, c.if-recorder.false))) starts
    (elim c.else-is_none.branch [
      | else-is_none-via-then-is_none+else-is_some w ↦
          gains-some (table_in (g.B.Board.state c.args.board.now).content)
          (table_in (state_of c.args.recorder.now.bench).content) false
          (ap is_none (sym c.find_table.ensures.exact)
          ∙ none-by c.find_table.result c.is_none.result true c.is_none.ensures w.if-is_none.true)
          (ap is_some (sym w.find_table-then-is_none.ensures.exact) ∙ (sym w.is_some.ensures ∙ w.if-is_some.false))
      | else-is_none-via-else-is_none w ↦
          gains-none (table_in (g.B.Board.state c.args.board.now).content)
          (table_in (state_of c.args.recorder.now.bench).content)
          (ap is_none (sym c.find_table.ensures.exact)
          ∙ none-by c.find_table.result c.is_none.result false c.is_none.ensures w.if-is_none.false)
    ])
