use Rattle.std.proofs.Common.{◌≡◌, ◌+◌, Some, None, arith}
use Rattle.script_words.specs.Splitting.{behind_mark}
use Rattle.script_text.proofs.ProgressLemmas.{so_far-fault, so_far-first, so_far-last, so_far-more}
use Rattle.script_text.proofs.reading.add_lines.Goals as goal

pub lines-init : goal.lines-init
lines-init c = record {
  room = c.requires.room;
  few = omega arith;
  so_far = so_far-first c.args.image.now c.args.begun.now c.args.text.now;
}

pub returns-in-Err-clause-err : goal.returns-in-Err-clause-err
returns-in-Err-clause-err c = λ no_memory.
    so_far-fault c.args.image.now c.args.begun.now c.args.text.now (c.lines.number + 1) c.lines.begun c.lines.rest.now
    c.cut_at.result.0.now c.in-Err.fault c.cut_at.ensures.before c.lines.invariant.so_far
    (c.in-Err.ensures.err no_memory)

pub lines-preserved : goal.lines-preserved
lines-preserved c =
    let behind : Some c.in-Some.more.now ≡ behind_mark 10 c.lines.rest.now =
    rw c.in-Some.is at c.cut_at.ensures.behind in
    let shorter = rw c.in-Some.is at c.cut_at.ensures.shorter in record {
      room = c.in-Ok.ensures.room;
      few = omega (arith, c.lines.invariant.few, shorter);
      so_far = so_far-more c.args.image.now c.args.begun.now c.args.text.now (c.lines.number + 1) c.lines.begun
          c.add_line.new.begun c.lines.rest.now c.cut_at.result.0.now c.in-Some.more.now
          c.cut_at.ensures.before behind c.lines.invariant.so_far c.in-Ok.ensures.ok;
    }

pub returns-in-None-clause-ok : goal.returns-in-None-clause-ok
returns-in-None-clause-ok c =
    let behind : None ≡ behind_mark 10 c.lines.rest.now = rw c.in-None.is at c.cut_at.ensures.behind in
    so_far-last c.args.image.now c.args.begun.now c.args.text.now (c.lines.number + 1) c.lines.begun
    c.add_line.new.begun c.lines.rest.now c.cut_at.result.0.now c.cut_at.ensures.before behind
    c.lines.invariant.so_far c.in-Ok.ensures.ok
