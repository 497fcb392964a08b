use Rattle.std.proofs.Common.{arith, inl, inr}
use Rattle.otp_roll.proofs.DigitLemmas.{found-start, found-taken, found-passed, bit-clear, place-lt}
use Rattle.check_images.proofs.raising.lowest_clear.Goals.{then-wanted-gt0+then-value-place-eq0, else-wanted-gt0, else-wanted-gt0-via-then-wanted-gt0+else-value-place-eq0, else-wanted-gt0-via-else-wanted-gt0}
use Rattle.check_images.proofs.raising.lowest_clear.Goals as goal

pub loop-place-init : goal.loop-place-init
loop-place-init c = found-start c.args.number c.args.value

pub loop-place-preserved : goal.loop-place-preserved
loop-place-preserved c =
    let small = place-lt c.loop-place.place c.loop-place-test.true in
    let bit = bit-clear c.args.value c.loop-place.place in
    elim c.if-wanted-gt0.branch [
      | then-wanted-gt0+then-value-place-eq0 w ↦ found-taken _ _ _ _ _ _ _ c.loop-place.invariant
          c.loop-place-test.true w.if-wanted-gt0.true
          (omega (arith, bit, w.if-value-place-eq0.true)) (omega (arith, small, w.bits-is)) w.wanted-is
      | else-wanted-gt0 w ↦ found-passed _ _ _ _ _ _ _ c.loop-place.invariant c.loop-place-test.true
          (elim w.else-wanted-gt0.branch [
            | else-wanted-gt0-via-then-wanted-gt0+else-value-place-eq0 w' ↦ inr
                (λ clear. absurd (omega (arith, bit, clear, w'.if-value-place-eq0.false)))
            | else-wanted-gt0-via-else-wanted-gt0 w' ↦ inl (omega (arith, w'.if-wanted-gt0.false))
          ])
          w.bits-is w.wanted-is
    ]
