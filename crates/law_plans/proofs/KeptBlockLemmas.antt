-- Blocks and the loop of a window whose bytes past an end are others.
use Rattle.std.proofs.Common.{◌≡◌, ◌≢◌, ℕ, ◌+◌, ◌-◌, ◌<◌, ◌≤◌, List, length, take, drop, get_or, sym, subst, inl, inr, arith}
use Rattle.std.proofs.lemmas.Bool.{cases_lt}
use Rattle.pico_board.proofs.ConfinementLemmas.{slice_range_ext}
use Rattle.block_codec.specs.Blocks.{BlockAt, BlockView, block_size}
use Rattle.block_codec.proofs.AtLemmas.{BlockAt-last_byte, BlockAt-local}
use Rattle.block_loop.specs.Loop.{IsLoop}

same-piece : (xs ys : List ℕ) (x size n : ℕ) → length xs ≡ length ys → x + size ≤ n
    → ((i : ℕ) → i < n → get_or xs i 0 ≡ get_or ys i 0) → take size (drop x xs) ≡ take size (drop x ys)
same-piece xs ys x size n long room same =
    let e : x + size - x ≡ size = omega arith in
    subst (λ k. take k (drop x xs) ≡ take k (drop x ys)) e
    (slice_range_ext xs ys x (x + size) long (λ i low high. same i (omega (arith, high, room))))

-- a block ends before a stretch without the last byte of a block, where it does not end behind it
pub ends-before : (bytes : List ℕ) (n m x : ℕ) (b : BlockView)
    → ((i : ℕ) → n ≤ i → i < m → get_or bytes i 0 ≢ 0xab) → x + block_size b ≤ m → BlockAt bytes x b
    → x + block_size b ≤ n
ends-before bytes n m x b other room at =
    elim (cases_lt n (x + block_size b)) [
      | inl past ↦ absurd (other (x + (block_size b - 1)) (omega (arith, past)) (omega (arith, past, room))
          (BlockAt-last_byte bytes x b at))
      | inr inside ↦ inside
    ]

module _ (one two : List ℕ) (n : ℕ) (long : length two ≡ length one)
    (same : (i : ℕ) → i < n → get_or two i 0 ≡ get_or one i 0) where
  -- a block that ends within the bytes that are the same stands in both
  pub stands-there : (x : ℕ) (b : BlockView) → x + block_size b ≤ n → BlockAt one x b → BlockAt two x b
  stands-there x b room at =
      BlockAt-local one two x b
      (same-piece one two x (block_size b) n (sym long) room (λ i lt. sym (same i lt))) at

  pub stands-back : (x : ℕ) (b : BlockView) → x + block_size b ≤ n → BlockAt two x b → BlockAt one x b
  stands-back x b room at = BlockAt-local two one x b (same-piece two one x (block_size b) n long room same) at

  -- a loop of such blocks is the loop of both, where no other block begins in the first sector
  pub kept-loop : (loop : List BlockView)
      → ((x : ℕ) (b : BlockView) → BlockAt one x b → x + block_size b ≤ n)
      → ((x : ℕ) (b : BlockView) → x < 4096 → BlockAt two x b → x + block_size b ≤ n)
      → IsLoop one loop → IsLoop two loop
  kept-loop loop ends low is = record {
    chain = record {
      some = is.chain.some;
      few = is.chain.few;
      first = λ b at. let f = is.chain.first b at in record {
        stands = stands-there b.at b (ends b.at b f.stands) f.stands;
        low = f.low;
        least = λ x c lt stands.
            f.least x c lt (stands-back x c (low x c (omega (arith, lt, f.low)) stands) stands);
      };
      stand = λ i b at. let s = is.chain.stand i b at in stands-there b.at b (ends b.at b s) s;
      linked = is.chain.linked;
      apart = is.chain.apart;
    };
    closed = is.closed;
  }
