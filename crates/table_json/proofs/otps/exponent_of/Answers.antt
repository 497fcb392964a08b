use Rattle.std.proofs.Common.{◌∙◌, sym}
use Rattle.table_json.specs.Otps.{is_size_of}
use Rattle.table_json.proofs.OtpLemmas.{exponent-first, is-size, other-size, scan-end, scan-here, scan-past}
use Rattle.table_json.proofs.otps.exponent_of.Goals as goal

pub loop-exponent-init : goal.loop-exponent-init
loop-exponent-init c = exponent-first c.args.size

pub returns-then-size-exponent : goal.returns-then-size-exponent
returns-then-size-exponent c =
    sym (c.loop-exponent.invariant
    ∙ scan-here (is_size_of c.args.size) c.loop-exponent.exponent 12 c.loop-exponent-test.true
    (is-size c.args.size c.loop-exponent.exponent c.loop-exponent-test.true c.if-size-exponent.true))

pub returns : goal.returns
returns c =
    sym (c.loop-exponent.invariant
    ∙ scan-end (is_size_of c.args.size) c.loop-exponent.exponent 12 c.loop-exponent-test.false)

pub loop-exponent-preserved : goal.loop-exponent-preserved
loop-exponent-preserved c =
    c.loop-exponent.invariant
    ∙ scan-past (is_size_of c.args.size) c.loop-exponent.exponent 12 c.loop-exponent-test.true
    (other-size c.args.size c.loop-exponent.exponent c.loop-exponent-test.true c.if-size-exponent.false)
