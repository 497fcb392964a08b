use Rattle.std.proofs.Common.{sym, ◌∙◌}
use Rattle.boot_script.specs.declared.limits.TheConstants.{RECORD_LIMIT}
use Rattle.boot_script.specs.Events.{event_from}
use Rattle.boot_script.proofs.JudgingLemmas.{left-more, left-last, left-here, left-none}
use Rattle.boot_script.proofs.script.first_error.Goals as goal

pub returns-in-Err : goal.returns-in-Err
returns-in-Err c =
    sym (left-here RECORD_LIMIT c.loop.counter c.args.bytes.now c.loop.at c.in-Err.fault c.loop-test.true
    (sym c.in-Err.ensures.exact)) ∙ c.loop.invariant.same

pub returns-then-is_end : goal.returns-then-is_end
returns-then-is_end c =
    sym (left-last RECORD_LIMIT c.loop.counter c.args.bytes.now c.loop.at (event_from c.in-Ok.read.0) c.in-Ok.read.1
    c.loop-test.true (sym c.in-Ok.ensures.exact) (sym c.is_end.ensures ∙ c.if-is_end.true)) ∙ c.loop.invariant.same

pub loop-preserved : goal.loop-preserved
loop-preserved c = record {
  inside = c.in-Ok.ensures.inside;
  same = sym (left-more RECORD_LIMIT c.loop.counter c.args.bytes.now c.loop.at (event_from c.in-Ok.read.0)
      c.in-Ok.read.1 c.loop-test.true (sym c.in-Ok.ensures.exact) (sym c.is_end.ensures ∙ c.if-is_end.false))
      ∙ c.loop.invariant.same;
}

pub returns : goal.returns
returns c =
    sym (left-none RECORD_LIMIT c.loop.counter c.args.bytes.now c.loop.at c.loop-test.false)
    ∙ c.loop.invariant.same
