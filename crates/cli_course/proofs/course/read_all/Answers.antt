use Rattle.std.proofs.Common.{ℕ, refl, ap, ◌∙◌, ◌+◌, List, [], ◌∷◌, length, length-append}
use Rattle.std.specs.Prelude.{Vec}
use Rattle.std.specs.declared.alloc.Global.{Global}
use Rattle.cli_course.proofs.CourseLemmas.{reads-stop, reads-fail, reads-more, bytes-more}
use Rattle.cli_course.proofs.course.read_all.Goals as goal

pub returns-in-Err-clause-course : goal.returns-in-Err-clause-course
returns-in-Err-clause-course g c =
    rw c.unread_status.ensures (c.loop-input.invariant.reads _ _
    (reads-fail g.S.Store.state g.S.Store.history c.args.inputs.now c.loop-input.input-index _ _ c.loop-input.store
    c.read_file.new.store c.in-Err.fail
    c.loop-input-test.true c.in-Err.ensures.served))

pub returns-in-Err-push-clause-course : goal.returns-in-Err-push-clause-course
returns-in-Err-push-clause-course g c =
    c.loop-input.invariant.reads _ _
    (reads-more g.S.Store.state g.S.Store.history c.args.inputs.now c.loop-input.input-index _ _ _ c.loop-input.store
    c.read_file.new.store c.read_file.new.store
    c.in-Ok.file.items _ c.loop-input-test.true c.in-Ok.ensures.bytes c.in-Ok.ensures.served refl
    (reads-stop g.S.Store.state g.S.Store.history _ _ c.read_file.new.store))

pub loop-input-preserved : goal.loop-input-preserved
loop-input-preserved g c = record {
  reads = λ end new rest.
      c.loop-input.invariant.reads _ _
      (reads-more g.S.Store.state g.S.Store.history c.args.inputs.now c.loop-input.input-index _ _ _ c.loop-input.store
      c.read_file.new.store new
      c.in-Ok.file.items end c.loop-input-test.true c.in-Ok.ensures.bytes c.in-Ok.ensures.served
      (bytes-more c.loop-input.files.items c.push.new.self.items c.in-Ok.file c.in-Ok-push.ensures.items) rest);
  count = ap (λ (files : List (Vec ℕ Global)). length files) c.in-Ok-push.ensures.items
      ∙ (length-append c.loop-input.files.items (c.in-Ok.file ∷ [])
      ∙ ap (λ n. n + 1) c.loop-input.invariant.count);
}
