use Rattle.std.proofs.Common.{ap, arith, length}
use Rattle.script_words.specs.declared.splitting.TheConstants.{MOST_WORDS}
use Rattle.script_words.specs.Splitting.{first_words}
use Rattle.script_words.proofs.SplitLemmas.{split-next, split-start}
use Rattle.script_words.proofs.splitting.split_line.Goals as goal

pub words-init : goal.words-init
words-init c = record {
  few = omega (arith, ap length c.new-words.ensures.items);
  so_far = split-start MOST_WORDS c.new-words.result.items c.cut_at.result.0.now c.args.line.now
      c.new-words.ensures.items c.cut_at.ensures.before;
}

pub words-preserved : goal.words-preserved
words-preserved c = record {
  few = omega (arith, c.words-test.true, c.len.ensures, ap length c.in_ok-push.ensures.items);
  so_far = split-next MOST_WORDS c.words.words.items c.push.new.self.items _ c.words.text.now c.in-Some.rest.now
      (first_words c.args.line.now) (omega (arith, c.words-test.true, c.len.ensures)) c.in_ok-push.ensures.items
      c.in-Some.ensures.some c.words.invariant.so_far;
}
