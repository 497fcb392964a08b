-- The status of a reply by the number of its bytes.
use Rattle.std.proofs.Common.{◌≡◌, ℕ, ◌*◌, ◌<◌, ◌≤◌, Bool, true, false, cond, nat_le, List, [], ◌∷◌, length, sym, ◌∙◌, ap, arith, le-leb}
use Rattle.std.proofs.lemmas.Bool.Decides.{nat_tests}
use Rattle.block_codec.specs.Words.{bytes_of}
use Rattle.block_codec.proofs.WordLemmas.{length-bytes_of}
use Rattle.picoboot_cmd.specs.Checks.{check, first_failing}
use Rattle.info_reply.specs.declared.kinds.TheConstants.{BUFFER_TOO_SMALL, NOT_FOUND}

module _ (there : Bool) (words bytes : List ℕ) (transfer : ℕ) (is_there : true ≡ there)
    (is : bytes ≡ bytes_of words) where
  long : length bytes ≡ 4 * length words
  long = ap length is ∙ length-bytes_of words

  by_length : first_failing (check NOT_FOUND there ∷ check BUFFER_TOO_SMALL (nat_le (4 * length words) transfer) ∷ [])
      ≡ cond (nat_le (4 * length words) transfer) 0 BUFFER_TOO_SMALL
  by_length = ap (λ b. cond b (cond (nat_le (4 * length words) transfer) 0 BUFFER_TOO_SMALL) NOT_FOUND) (sym is_there)

  pub status-longer : transfer < length bytes
      → BUFFER_TOO_SMALL
      ≡ first_failing (check NOT_FOUND there ∷ check BUFFER_TOO_SMALL (nat_le (4 * length words) transfer) ∷ [])
  status-longer longer =
      let more = long in
      let fails : nat_le (4 * length words) transfer ≡ false = grind (arith, nat_tests, more, longer) in
      sym (by_length ∙ ap (λ b. cond b 0 BUFFER_TOO_SMALL) fails)

  pub status-fits : length bytes ≤ transfer
      → 0 ≡ first_failing (check NOT_FOUND there ∷ check BUFFER_TOO_SMALL (nat_le (4 * length words) transfer) ∷ [])
  status-fits fits =
      let more = long in
      let passes : nat_le (4 * length words) transfer ≡ true = le-leb _ _ (omega (arith, more, fits)) in
      sym (by_length ∙ ap (λ b. cond b 0 BUFFER_TOO_SMALL) passes)
