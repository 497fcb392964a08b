-- The lowest clear bits of a row, found place by place.
use Rattle.std.proofs.Common.{◌≡◌, ℕ, zero, suc, ◌+◌, ◌-◌, ◌*◌, ◌/◌, ◌%◌, ◌^◌, ◌<◌, ◌≤◌, arith, refl, sym, ap, ◌∙◌, pow-suc, inl, inr}
use Rattle.std.specs.Prelude.{◌⊎◌, bit_and}
use Rattle.std.proofs.lemmas.Nat.{and_mask, shr-shr}
use Rattle.std.proofs.Math.Nat.{pow-le-pow_right}
use Rattle.otp_roll.specs.Raises.{lowest_clear_among, lowest_clear}
use Rattle.otp_roll.proofs.BitLemmas.{lowest-even, lowest-odd}

-- the bits that are found below place k, and those that are still to be found from there on, are all
pub record IsFound (n v bits k wanted : ℕ) : Type 0 where
  pub all : lowest_clear n v ≡ bits + 2 ^ k * lowest_clear_among (24 - k) wanted (v / 2 ^ k)
  pub low : bits < 2 ^ k
  pub place : k ≤ 24

lowest-zero : (p v : ℕ) → lowest_clear_among p 0 v ≡ 0
lowest-zero zero v = refl
lowest-zero (suc p) v = refl

half : (v k : ℕ) → v / 2 ^ k / 2 ≡ v / 2 ^ (k + 1)
half v k = shr-shr v k 1

twice : (k : ℕ) → 2 ^ (k + 1) ≡ 2 * 2 ^ k
twice k = let e : k + 1 ≡ suc k = omega arith in rw e (omega (arith, pow-suc 2 k))

doubled : (a x : ℕ) → a * (1 + 2 * x) ≡ a + (2 * a) * x
doubled a x = grind arith

doubled_odd : (a x : ℕ) → a * (2 * x) ≡ (2 * a) * x
doubled_odd a x = grind arith

start-of : (p n v : ℕ) → lowest_clear_among p n v ≡ 0 + 2 ^ 0 * lowest_clear_among p n (v / 2 ^ 0)
start-of p n v = let e : v / 2 ^ 0 ≡ v = omega arith in rw e (omega arith)

pub found-start : (n v : ℕ) → IsFound n v 0 0 n
unfolding lowest_clear
found-start n v = record { all = start-of 24 n v; low = omega arith; place = omega arith }

-- the place is taken
taken-all : (p n k v : ℕ) → v / 2 ^ k % 2 ≡ 0
    → 2 ^ k * lowest_clear_among (suc p) (suc n) (v / 2 ^ k)
    ≡ 2 ^ k + 2 ^ (k + 1) * lowest_clear_among p n (v / 2 ^ (k + 1))
taken-all p n k v clear =
    ap (λ x. 2 ^ k * x) (lowest-even p n (v / 2 ^ k) clear)
    ∙ doubled (2 ^ k) (lowest_clear_among p n (v / 2 ^ k / 2))
    ∙ ap (λ w. 2 ^ k + (2 * 2 ^ k) * lowest_clear_among p n w) (half v k)
    ∙ ap (λ x. 2 ^ k + x * lowest_clear_among p n (v / 2 ^ (k + 1))) (sym (twice k))

-- the place has a set bit
passed-all : (p n k v : ℕ) → (v / 2 ^ k % 2 ≡ 0 → ⊥)
    → 2 ^ k * lowest_clear_among (suc p) (suc n) (v / 2 ^ k)
    ≡ 2 ^ (k + 1) * lowest_clear_among p (suc n) (v / 2 ^ (k + 1))
passed-all p n k v set =
    ap (λ x. 2 ^ k * x) (lowest-odd p n (v / 2 ^ k) set)
    ∙ doubled_odd (2 ^ k) (lowest_clear_among p (suc n) (v / 2 ^ k / 2))
    ∙ ap (λ w. (2 * 2 ^ k) * lowest_clear_among p (suc n) w) (half v k)
    ∙ ap (λ x. x * lowest_clear_among p (suc n) (v / 2 ^ (k + 1))) (sym (twice k))

-- none is wanted any more
none-all : (p q k v : ℕ) → 2 ^ k * lowest_clear_among p 0 (v / 2 ^ k)
    ≡ 2 ^ (k + 1) * lowest_clear_among q 0 (v / 2 ^ (k + 1))
none-all p q k v =
    ap (λ x. 2 ^ k * x) (lowest-zero p (v / 2 ^ k)) ∙ (omega arith)
    ∙ ap (λ x. 2 ^ (k + 1) * x) (sym (lowest-zero q (v / 2 ^ (k + 1))))

-- the place is taken, of those that are left of the 24
left-taken : (k n v : ℕ) → k < 24 → 0 < n → v / 2 ^ k % 2 ≡ 0
    → 2 ^ k * lowest_clear_among (24 - k) n (v / 2 ^ k)
    ≡ 2 ^ k + 2 ^ (k + 1) * lowest_clear_among (24 - (k + 1)) (n - 1) (v / 2 ^ (k + 1))
left-taken k n v inside some clear =
    let places : 24 - k ≡ suc (24 - (k + 1)) = omega arith in
    let more : n ≡ suc (n - 1) = omega arith in
    ap (λ p. 2 ^ k * lowest_clear_among p n (v / 2 ^ k)) places
    ∙ ap (λ m. 2 ^ k * lowest_clear_among (suc (24 - (k + 1))) m (v / 2 ^ k)) more
    ∙ taken-all (24 - (k + 1)) (n - 1) k v clear

left-passed : (k n v : ℕ) → k < 24 → (n ≡ 0) ⊎ (v / 2 ^ k % 2 ≡ 0 → ⊥)
    → 2 ^ k * lowest_clear_among (24 - k) n (v / 2 ^ k)
    ≡ 2 ^ (k + 1) * lowest_clear_among (24 - (k + 1)) n (v / 2 ^ (k + 1))
left-passed k zero v inside either = none-all (24 - k) (24 - (k + 1)) k v
left-passed k (suc n) v inside (inl none) = absurd (omega arith)
left-passed k (suc n) v inside (inr set) =
    let places : 24 - k ≡ suc (24 - (k + 1)) = omega arith in
    ap (λ p. 2 ^ k * lowest_clear_among p (suc n) (v / 2 ^ k)) places ∙ passed-all (24 - (k + 1)) n k v set

pub found-taken : (n v bits k wanted more fewer : ℕ) → IsFound n v bits k wanted → k < 24 → 0 < wanted
    → v / 2 ^ k % 2 ≡ 0
    → more ≡ bits + 2 ^ k → fewer ≡ wanted - 1 → IsFound n v more (k + 1) fewer
found-taken n v bits k wanted more fewer found inside some clear sum rest = rw (sum, rest) (record {
  all = omega (arith, found.all, left-taken k wanted v inside some clear);
  low = omega (arith, found.low, twice k);
  place = omega arith;
})

pub found-passed : (n v bits k wanted more fewer : ℕ) → IsFound n v bits k wanted → k < 24
    → (wanted ≡ 0) ⊎ (v / 2 ^ k % 2 ≡ 0 → ⊥)
    → more ≡ bits → fewer ≡ wanted → IsFound n v more (k + 1) fewer
found-passed n v bits k wanted more fewer found inside either same rest = rw (same, rest) (record {
  all = omega (arith, found.all, left-passed k wanted v inside either);
  low = omega (arith, found.low, twice k);
  place = omega arith;
})

end-of : (p w v x : ℕ) → p ≡ 0 → x * lowest_clear_among p w v ≡ 0
end-of p w v x is = ap (λ q. x * lowest_clear_among q w v) is ∙ omega arith

pub found-end : (n v bits k wanted : ℕ) → IsFound n v bits k wanted → 24 ≤ k → bits ≡ lowest_clear n v
found-end n v bits k wanted found past =
    omega (arith, found.all, end-of (24 - k) wanted (v / 2 ^ k) (2 ^ k) (omega arith))

-- the bit at a place, as the code reads it
pub bit-clear : (v k : ℕ) → bit_and (v / 2 ^ k) 1 ≡ v / 2 ^ k % 2
bit-clear v k = and_mask (v / 2 ^ k) 1

pub place-lt : (k : ℕ) → k < 24 → 2 ^ k ≤ 2 ^ 23
place-lt k inside = pow-le-pow_right {n = 2} (omega arith) {i = k} {j = 23} (omega arith)
