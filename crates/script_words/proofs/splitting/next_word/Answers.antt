use Rattle.std.proofs.Common.{length, arith, ◌<◌}
use Rattle.std.specs.Prelude.{slice_range}
use Rattle.std.proofs.lemmas.List.{take_rest}
use Rattle.script_words.proofs.SplitLemmas.{word-next, word-none}
use Rattle.script_words.proofs.splitting.next_word.Goals as goal

pub returns-then-start-text-clause-none : goal.returns-then-start-text-clause-none
returns-then-start-text-clause-none c =
    word-none c.args.text.now c.blanks_before-start.result (omega arith) c.blanks_before-start.ensures.blanks

pub returns-clause-some : goal.returns-clause-some
returns-clause-some c =
    let text = c.args.text.now in
    let start = c.blanks_before-start.result in
    let rest = slice_range text start (length text) in
    let end = c.word_size-end.result in
    let inside : start < length text = omega (arith, c.blanks_before-start.ensures.most) in
    word-next text rest (slice_range rest end (length rest)) start end inside c.blanks_before-start.ensures.blanks
    (c.blanks_before-start.ensures.next inside) (take_rest text start) c.word_size-end.ensures.most
    c.word_size-end.ensures.bytes c.word_size-end.ensures.next (take_rest rest end)
