use Rattle.std.proofs.Common.{◌≡◌, ◌+◌, ◌%◌, ◌==◌, ℕ, cond, arith, subst}
use Rattle.std.proofs.lemmas.Bool.Decides.{nat_tests}
use Rattle.slot_caveats.specs.OtpCaveats.{has_lowest_bit}
use Rattle.slot_caveats.proofs.MoreLemmas.{counted-more}
use Rattle.slot_caveats.proofs.otp.secure_count.Goals.{then-otp_read-eq1, else-otp_read-eq1}
use Rattle.slot_caveats.proofs.otp.secure_count.Goals as goal

counts-one : (old new value : ℕ) → new ≡ old + 1 → value % 2 ≡ 1 → new ≡ old + cond (value % 2 == 1) 1 0
counts-one old new value e h = grind (arith, nat_tests)

counts-none : (old new value : ℕ) → new ≡ old → (value % 2 ≡ 1 → ⊥) → new ≡ old + cond (value % 2 == 1) 1 0
counts-none old new value e h = grind (arith, nat_tests)

pub loop-place-preserved : goal.loop-place-preserved
loop-place-preserved g c =
    let otp = (g.B.Board.state c.args.board.now).content.otp in
    let now : c.if-otp_read-eq1.count ≡ c.loop-place.count + cond (has_lowest_bit otp (64 + c.loop-place.place)) 1 0 =
    elim c.if-otp_read-eq1.branch [
      | then-otp_read-eq1 w ↦ subst (λ (v : ℕ). c.if-otp_read-eq1.count ≡ c.loop-place.count + cond (v % 2 == 1) 1 0)
          c.otp_read.ensures.value
          (counts-one c.loop-place.count c.if-otp_read-eq1.count c.otp_read.result w.count-is
          w.if-otp_read-eq1.true)
      | else-otp_read-eq1 w ↦ subst (λ (v : ℕ). c.if-otp_read-eq1.count ≡ c.loop-place.count + cond (v % 2 == 1) 1 0)
          c.otp_read.ensures.value
          (counts-none c.loop-place.count c.if-otp_read-eq1.count c.otp_read.result w.count-is
          w.if-otp_read-eq1.false)
    ] in
    record {
      most = elim c.if-otp_read-eq1.branch [
        | then-otp_read-eq1 w ↦ omega (arith, w.count-is, c.loop-place.invariant.most)
        | else-otp_read-eq1 w ↦ omega (arith, w.count-is, c.loop-place.invariant.most)
      ];
      rest = counted-more (has_lowest_bit otp) 64 c.loop-place.place 8 c.loop-place.count c.if-otp_read-eq1.count _
          c.loop-place-test.true c.loop-place.invariant.rest now;
    }
