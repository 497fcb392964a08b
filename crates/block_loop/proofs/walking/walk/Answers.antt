use Rattle.std.proofs.Common.{◌≡◌, ℕ, List, Result, Ok, Err, refl, sym, ◌∙◌}
use Rattle.std.specs.Prelude.{IfOk}
use Rattle.block_loop.specs.Loop.{loop_of}
use Rattle.block_loop.specs.Offsets.{loop_offsets, AreLoop}
use Rattle.block_loop.specs.declared.fault.LoopFault.{LoopFault}
use Rattle.block_loop.proofs.WalkLemmas.{AreLoop-from_answer, answer-from_AreLoop, IsFault-from_offsets, answer-from_IsFault}
use Rattle.block_loop.proofs.walking.walk.Goals as goal

are_loop : (w : List ℕ) (r : Result (List ℕ) LoopFault) → r ≡ loop_offsets (loop_of w)
    → IfOk r (λ offsets. AreLoop w offsets)
are_loop w (Ok offsets) e = AreLoop-from_answer w (loop_of w) offsets refl e
are_loop w (Err f) e = tt

pub returns-clause-loop_ : goal.returns-clause-loop_
returns-clause-loop_ g c = are_loop (g.V.View.bytes c.args.view.now) c.loop_in.result c.loop_in.ensures

pub returns-clause-each_loop : goal.returns-clause-each_loop
returns-clause-each_loop g c offsets are = c.loop_in.ensures
    ∙ answer-from_AreLoop (g.V.View.bytes c.args.view.now) offsets are

pub returns-clause-fault : goal.returns-clause-fault
returns-clause-fault g c f = (
  λ e. IsFault-from_offsets (g.V.View.bytes c.args.view.now) (loop_of (g.V.View.bytes c.args.view.now)) f refl
      (sym c.loop_in.ensures ∙ e),
  λ fault. c.loop_in.ensures ∙ answer-from_IsFault (g.V.View.bytes c.args.view.now) f fault,
)
