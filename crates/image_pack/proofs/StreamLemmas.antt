-- The bytes of a stream, one after another.
use Rattle.std.proofs.Common.{◌≡◌, ℕ, suc, ◌+◌, ◌-◌, ◌/◌, ◌^◌, ◌<◌, ◌≤◌, List, [], ◌∷◌, ◌++◌, refl, sym, ap, ◌∙◌, append_assoc, arith}
use Rattle.std.proofs.lemmas.List.{append-nil}
use Rattle.image_pack.specs.Streams.{next_of, stream}

pub stream-none : (x : ℕ) → stream 0 x ≡ []
unfolding stream
stream-none x = refl

pub stream-one : (n x : ℕ) → stream (suc n) x ≡ next_of x / 2 ^ 24 ∷ stream n (next_of x)
unfolding stream
stream-one n x = refl

-- a byte of the stream, and those that are left behind it
pub stream-more : (out new : List ℕ) (n i x : ℕ) → i < n → new ≡ out ++ next_of x / 2 ^ 24 ∷ []
    → new ++ stream (n - (i + 1)) (next_of x) ≡ out ++ stream (n - i) x
stream-more out new n i x lt is =
    let left : n - i ≡ suc (n - (i + 1)) = omega (arith, lt) in
    ap (λ xs. xs ++ stream (n - (i + 1)) (next_of x)) is
    ∙ append_assoc out (next_of x / 2 ^ 24 ∷ []) (stream (n - (i + 1)) (next_of x))
    ∙ ap (λ xs. out ++ xs) (sym (stream-one (n - (i + 1)) x) ∙ ap (λ k. stream k x) (sym left))

-- no byte of the stream is left
pub stream-end : (out : List ℕ) (n i x : ℕ) → n ≤ i → out ++ stream (n - i) x ≡ out
stream-end out n i x le =
    let none : n - i ≡ 0 = omega (arith, le) in
    ap (λ k. out ++ stream k x) none ∙ ap (λ xs. out ++ xs) (stream-none x) ∙ append-nil out
