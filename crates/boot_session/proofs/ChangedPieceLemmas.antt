-- A change of a range in a list that is given in pieces: only the piece of the range is computed.
use Rattle.std.proofs.Common.{◌≡◌, ◌⊎◌, ℕ, zero, suc, ◌+◌, ◌-◌, ◌≤◌, Bool, true, false, ◌&&◌, cond, List, [], ◌∷◌, ◌++◌, length, replicate, inl, inr, refl, ap, ◌∙◌, arith}
use Rattle.std.specs.Prelude.{if◌then◌else◌, nat_le, nat_lt}
use Rattle.std.proofs.lemmas.Bool.Decides.{nat_tests}
use Rattle.pico_board.specs.Steps.{changed, changed_from}

-- the change of two lists, one behind the other
pub changed_from-append : (k : ℕ) (f : ℕ → ℕ → ℕ) (at n : ℕ) (xs ys : List ℕ)
    → changed_from k f at n (xs ++ ys) ≡ changed_from k f at n xs ++ changed_from (k + length xs) f at n ys
changed_from-append k f at n [] ys = ap (λ (j : ℕ). changed_from j f at n ys) (omega arith)
changed_from-append k f at n (x ∷ xs) ys =
    ap (λ (zs : List ℕ). (if nat_le at k && nat_lt k (at + n) then f (k - at) x else x) ∷ zs)
    (changed_from-append (k + 1) f at n xs ys
    ∙ ap (λ (j : ℕ). changed_from (k + 1) f at n xs ++ changed_from j f at n ys) (omega arith))

-- a list before the range, or behind it
pub changed_from-outside : (k : ℕ) (f : ℕ → ℕ → ℕ) (at n : ℕ) (xs : List ℕ)
    → (k + length xs ≤ at) ⊎ (at + n ≤ k) → changed_from k f at n xs ≡ xs
changed_from-outside k f at n [] out = refl
changed_from-outside k f at n (x ∷ xs) out =
    let e : (nat_le at k && nat_lt k (at + n)) ≡ false = apart k at n (length xs) out in
    ap (λ b. cond b (f (k - at) x) x ∷ changed_from (k + 1) f at n xs) e
    ∙ ap (λ (zs : List ℕ). x ∷ zs) (changed_from-outside (k + 1) f at n xs (next k at n (length xs) out))
  where
    apart : (k at n long : ℕ) → (k + suc long ≤ at) ⊎ (at + n ≤ k) → (nat_le at k && nat_lt k (at + n)) ≡ false
    apart k at n long (inl below) = grind (arith, nat_tests)
    apart k at n long (inr above) = grind (arith, nat_tests)

    next : (k at n long : ℕ) → (k + suc long ≤ at) ⊎ (at + n ≤ k) → (k + 1 + long ≤ at) ⊎ (at + n ≤ k + 1)
    next k at n long (inl below) = inl (omega arith)
    next k at n long (inr above) = inr (omega arith)

-- a change that keeps 255 keeps a list of them
pub changed_from-erased : (k : ℕ) (f : ℕ → ℕ → ℕ) (at n m : ℕ) → ((i : ℕ) → f i 255 ≡ 255)
    → changed_from k f at n (replicate m 255) ≡ replicate m 255
changed_from-erased k f at n zero keeps = refl
changed_from-erased k f at n (suc m) keeps =
    ap (λ (x : ℕ). x ∷ changed_from (k + 1) f at n (replicate m 255)) (here (nat_le at k && nat_lt k (at + n)))
    ∙ ap (λ (zs : List ℕ). 255 ∷ zs) (changed_from-erased (k + 1) f at n m keeps)
  where
    here : (b : Bool) → cond b (f (k - at) 255) 255 ≡ 255
    here true = keeps (k - at)
    here false = refl

-- a change behind the front of a list
pub changed-behind : (f : ℕ → ℕ → ℕ) (at n : ℕ) (front rest : List ℕ) → length front ≡ at
    → changed f at n (front ++ rest) ≡ front ++ changed_from at f at n rest
changed-behind f at n front rest long =
    changed_from-append 0 f at n front rest
    ∙ ap (λ (zs : List ℕ). zs ++ changed_from (0 + length front) f at n rest)
    (changed_from-outside 0 f at n front (inl (omega arith)))
    ∙ ap (λ (j : ℕ). front ++ changed_from j f at n rest) (omega (arith, long))

-- a change of the piece behind the front
pub changed-piece : (f : ℕ → ℕ → ℕ) (at n : ℕ) (front piece rest new : List ℕ) → length front ≡ at → length piece ≡ n
    → changed_from at f at n piece ≡ new → changed f at n (front ++ (piece ++ rest)) ≡ front ++ (new ++ rest)
changed-piece f at n front piece rest new long size is =
    changed-behind f at n front (piece ++ rest) long
    ∙ ap (λ (zs : List ℕ). front ++ zs)
    (changed_from-append at f at n piece rest
    ∙ ap (λ (zs : List ℕ). changed_from at f at n piece ++ zs)
    (changed_from-outside (at + length piece) f at n rest (inr (omega arith)))
    ∙ ap (λ (zs : List ℕ). zs ++ rest) is)
