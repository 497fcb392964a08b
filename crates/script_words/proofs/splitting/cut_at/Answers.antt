use Rattle.std.proofs.Common.{◌+◌, Some, sym, ap, ◌∙◌}
use Rattle.std.proofs.lemmas.List.{take_rest}
use Rattle.script_words.proofs.MarkLemmas.{mark-none, mark-some}
use Rattle.script_words.proofs.splitting.cut_at.Goals as goal

pub returns-in-Some-clause-before : goal.returns-in-Some-clause-before
returns-in-Some-clause-before c =
    let first = c.in-Some.ensures in
    sym (mark-some c.args.mark c.args.bytes.now c.in-Some.place first.0.high first.1 first.0.before).0

pub returns-in-Some-clause-behind : goal.returns-in-Some-clause-behind
returns-in-Some-clause-behind c =
    let first = c.in-Some.ensures in
    ap Some (take_rest c.args.bytes.now (c.in-Some.place + 1))
    ∙ sym (mark-some c.args.mark c.args.bytes.now c.in-Some.place first.0.high first.1 first.0.before).1

pub returns-in-None-clause-before : goal.returns-in-None-clause-before
returns-in-None-clause-before c = sym (mark-none c.args.mark c.args.bytes.now c.in-None.ensures).0

pub returns-in-None-clause-behind : goal.returns-in-None-clause-behind
returns-in-None-clause-behind c = sym (mark-none c.args.mark c.args.bytes.now c.in-None.ensures).1
