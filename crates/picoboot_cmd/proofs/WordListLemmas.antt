-- The words of a payload one after another.
use Rattle.std.proofs.Common.{◌≡◌, ℕ, ◌+◌, ◌^◌, ◌<◌, ◌≤◌, true, ◌&&◌, ◌==◌, List, nat_lt, length, drop, get_or, sym, ◌∙◌, ap, ap₂, arith, eq-eqb}
use Rattle.std.specs.Prelude.{bit_and, slice_index}
use Rattle.std.proofs.lemmas.List.{drop_more, drop_all}
use Rattle.picoboot_cmd.specs.Rows.{are_row_words, keeps_raised}

module _ (words : List ℕ) (k : ℕ) where
  -- the word at place k, and those behind it
  pub row_words-first : k < length words
      → are_row_words (drop k words) ≡ (nat_lt (get_or words k 0) (2 ^ 24) && are_row_words (drop (k + 1) words))
  row_words-first lt = ap are_row_words (drop_more words k 0 lt)

  pub keeps-first : (otp : List ℕ) (row : ℕ) → k < length words
      → keeps_raised otp row (drop k words)
      ≡ ((bit_and (slice_index otp row) (get_or words k 0) == slice_index otp row)
      && keeps_raised otp (row + 1) (drop (k + 1) words))
  keeps-first otp row lt = ap (keeps_raised otp row) (drop_more words k 0 lt)

  -- no word is left
  pub row_words-end : length words ≤ k → are_row_words (drop k words) ≡ true
  row_words-end past = ap are_row_words (drop_all k words past)

  pub keeps-end : (otp : List ℕ) (row : ℕ) → length words ≤ k → keeps_raised otp row (drop k words) ≡ true
  keeps-end otp row past = ap (keeps_raised otp row) (drop_all k words past)

-- a word that keeps the raised bits of its row leaves the others to be looked at
pub keeps-next : (words otp : List ℕ) (row k raised word : ℕ) → k < length words
    → raised ≡ get_or otp (row + k) 0 → word ≡ get_or words k 0 → bit_and raised word ≡ raised
    → keeps_raised otp (row + k) (drop k words) ≡ keeps_raised otp (row + (k + 1)) (drop (k + 1) words)
keeps-next words otp row k raised word lt raised_is word_is kept =
    let test : (bit_and (get_or otp (row + k) 0) (get_or words k 0) == get_or otp (row + k) 0) ≡ true =
    eq-eqb _ _ (ap₂ bit_and (sym raised_is) (sym word_is) ∙ kept ∙ raised_is) in
    keeps-first words k otp (row + k) lt
    ∙ ap (λ b. b && keeps_raised otp (row + k + 1) (drop (k + 1) words)) test
    ∙ ap (λ r. keeps_raised otp r (drop (k + 1) words)) (omega arith)
