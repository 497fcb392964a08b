-- Lists of caveats with those of one more element.
use Rattle.std.proofs.Common.{◌≡◌, ℕ, zero, suc, ◌+◌, ◌-◌, ◌*◌, ◌%◌, ◌^◌, ◌<◌, ◌≤◌, Bool, cond, List, [], ◌∷◌, ◌++◌, count_by, sum_by, Option, Some, None, refl, sym, ap, ◌∙◌, append_assoc, arith, pow-suc}
use Rattle.std.specs.Prelude.{option_to_list}
use Rattle.std.specs.List.{cons_option, filter_map, range_with_len}
use Rattle.std.proofs.lemmas.List.Sums.{sum_by-cons}
use Rattle.std.proofs.lemmas.List.Elements.{filter_map-append}
use Rattle.std.proofs.Math.Pow.{pow_mono}

-- an element in front, where there is one
pub cons-list : {Y : Type 0} (o : Option Y) (ys : List Y) → cons_option o ys ≡ option_to_list o ++ ys
cons-list None ys = refl
cons-list (Some y) ys = refl

cons-none : {Y : Type 0} (o : Option Y) → cons_option o [] ≡ option_to_list o
cons-none None = refl
cons-none (Some y) = refl

module _ {X Y : Type 0} (f : X → Option Y) where
  lone : (x : X) → filter_map f (x ∷ []) ≡ option_to_list (f x)
  lone x = cons-none (f x)

  -- one more element of a list
  pub listed-more : (xs ys : List X) (x : X) (before list after : List Y) → ys ≡ xs ++ x ∷ []
      → list ≡ before ++ filter_map f xs → after ≡ list ++ option_to_list (f x) → after ≡ before ++ filter_map f ys
  listed-more xs ys x before list after more was now =
      now ∙ (ap (λ l. l ++ option_to_list (f x)) was ∙ (append_assoc before (filter_map f xs) (option_to_list (f x))
      ∙ ap (λ l. before ++ l) (ap (λ l. filter_map f xs ++ l) (sym (lone x))
      ∙ (sym (filter_map-append f xs (x ∷ [])) ∙ ap (filter_map f) (sym more)))))

-- one more number
range-more : (a n : ℕ) → range_with_len a (n + 1) ≡ range_with_len a n ++ (a + n) ∷ []
range-more a zero = ap (λ x. x ∷ []) (let e : a ≡ a + 0 = omega arith in e)
range-more a (suc n) =
    ap (range_with_len a) (let e : suc n + 1 ≡ suc (n + 1) = omega arith in e)
    ∙ (ap (λ xs. a ∷ xs) (range-more (a + 1) n)
    ∙ ap (λ x. a ∷ (range_with_len (a + 1) n ++ x ∷ [])) (let e : a + 1 + n ≡ a + suc n = omega arith in e))

-- one more number, from 0 on
pub range-next : (n : ℕ) → range_with_len 0 (n + 1) ≡ range_with_len 0 n ++ n ∷ []
range-next n = range-more 0 n ∙ ap (λ x. range_with_len 0 n ++ x ∷ []) (let e : 0 + n ≡ n = omega arith in e)

-- the numbers from one on, of which one is left at least
pub range-first : (a n : ℕ) → 0 < n → range_with_len a n ≡ a ∷ range_with_len (a + 1) (n - 1)
range-first a zero some = absurd (omega arith)
range-first a (suc n) some = ap (λ k. a ∷ range_with_len (a + 1) k) (let e : n ≡ suc n - 1 = omega arith in e)

-- the numbers from a place on, with the next one in front
pub range-rest : (a k n : ℕ) → k < n
    → range_with_len (a + k) (n - k) ≡ (a + k) ∷ range_with_len (a + (k + 1)) (n - (k + 1))
range-rest a k n lt =
    let first = range-first (a + k) (n - k) (omega arith) in
    first ∙ (ap (λ x. (a + k) ∷ range_with_len x (n - k - 1)) (let e : a + k + 1 ≡ a + (k + 1) = omega arith in e)
    ∙ ap (λ x. (a + k) ∷ range_with_len (a + (k + 1)) x) (let e : n - k - 1 ≡ n - (k + 1) = omega arith in e))

-- the count of those that pass, with one more number
pub counted-more : (p : ℕ → Bool) (a k n : ℕ) (count after whole : ℕ) → k < n
    → count + count_by p (range_with_len (a + k) (n - k)) ≡ whole → after ≡ count + cond (p (a + k)) 1 0
    → after + count_by p (range_with_len (a + (k + 1)) (n - (k + 1))) ≡ whole
counted-more p a k n count after whole lt was now =
    let split : count_by p (range_with_len (a + k) (n - k))
    ≡ cond (p (a + k)) 1 0 + count_by p (range_with_len (a + (k + 1)) (n - (k + 1))) =
    counted (range_with_len (a + k) (n - k)) (a + k) (range_with_len (a + (k + 1)) (n - (k + 1)))
    (range-rest a k n lt) in
    joined count after whole (cond (p (a + k)) 1 0) (count_by p (range_with_len (a + k) (n - k)))
    (count_by p (range_with_len (a + (k + 1)) (n - (k + 1)))) split was now
  where
    counted : (xs : List ℕ) (x : ℕ) (ys : List ℕ) → xs ≡ x ∷ ys → count_by p xs ≡ cond (p x) 1 0 + count_by p ys
    counted xs x ys e = ap (count_by p) e ∙ sum_by-cons (λ y. cond (p y) 1 0) x ys

    joined : (count after whole one all rest : ℕ) → all ≡ one + rest → count + all ≡ whole → after ≡ count + one
        → after + rest ≡ whole
    joined count after whole one all rest split was now = omega arith

-- a sum over numbers, of which one more is added
pub summed-more : (f : ℕ → ℕ) (k end_ sum total : ℕ) → k < end_
    → sum + sum_by f (range_with_len k (end_ - k)) ≡ total
    → sum + f k + sum_by f (range_with_len (k + 1) (end_ - (k + 1))) ≡ total
summed-more f k end_ sum total lt was =
    let first : sum_by f (range_with_len k (end_ - k)) ≡ f k + sum_by f (range_with_len (k + 1) (end_ - k - 1)) =
    ap (sum_by f) (range-first k (end_ - k) (omega (arith, lt))) ∙ sum_by-cons f k (range_with_len (k + 1) (end_ - k - 1)) in
    let less : end_ - k - 1 ≡ end_ - (k + 1) = omega arith in
    joined sum (f k) (sum_by f (range_with_len k (end_ - k))) (sum_by f (range_with_len (k + 1) (end_ - (k + 1)))) total
    (first ∙ ap (λ n. f k + sum_by f (range_with_len (k + 1) n)) less) was
  where
    joined : (sum one all rest total : ℕ) → all ≡ one + rest → sum + all ≡ total → sum + one + rest ≡ total
    joined sum one all rest total split was = omega arith

-- the next power of two
pub twice : (k : ℕ) → 2 ^ (k + 1) ≡ 2 * 2 ^ k
twice k = let e : k + 1 ≡ suc k = omega arith in rw e (omega (arith, pow-suc 2 k))

-- the powers that are compared are not cut
pub shift-whole : (k : ℕ) → k < 25 → 1 * 2 ^ k % 4294967296 ≡ 2 ^ k
shift-whole k lt =
    let small : 2 ^ k ≤ 2 ^ 24 = pow_mono {i = k} {j = 24} (omega arith) in
    go (2 ^ k) small
  where
    go : (p : ℕ) → p ≤ 2 ^ 24 → 1 * p % 4294967296 ≡ p
    go p small = omega arith

-- it is exactly where it is filled by one of the numbers
