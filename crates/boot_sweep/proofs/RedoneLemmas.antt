-- A step that is done where it was torn leaves what it leaves where it was not.
use Rattle.std.proofs.Common.{◌≡◌, ℕ, ◌+◌, ◌-◌, ◌*◌, ◌<◌, length, Bool, true, false, List, [], ◌∷◌, refl, ap, ◌∙◌, arith}
use Rattle.std.specs.Prelude.{◌&&◌, if◌then◌else◌, nat_le, nat_lt, bit_and, bit_or, bit_xor, slice_index, slice_set}
use Rattle.std.proofs.lemmas.Nat.Bits.{bit_at_and, bit_at_or, same_from_bits}
use Rattle.std.proofs.lemmas.List.{get_or-set_same, set-set}
use Rattle.pico_board.specs.declared.Step.{Step}
use Rattle.pico_board.specs.Content.{Content, IsContent}
use Rattle.pico_board.specs.Cuts.{pattern_at, pattern_row, torn_by}
use Rattle.pico_board.specs.declared.step.Step.TheVariants.{Erase, Program, Raise}
use Rattle.pico_board.specs.Steps.{IsStepIn, after, changed_from}

one-again : (b : Bool) (f g : ℕ → ℕ → ℕ) (i x : ℕ) → ((i x : ℕ) → f i (g i x) ≡ f i x)
    → (if b then f i (if b then g i x else x) else (if b then g i x else x)) ≡ (if b then f i x else x)
one-again true f g i x same = same i x
one-again false f g i x same = refl

-- a change over another one of the same range
changed-again : (k at n : ℕ) (f g : ℕ → ℕ → ℕ) (xs : List ℕ) → ((i x : ℕ) → f i (g i x) ≡ f i x)
    → changed_from k f at n (changed_from k g at n xs) ≡ changed_from k f at n xs
changed-again k at n f g [] same = refl
changed-again k at n f g (x ∷ xs) same =
    let here = nat_le at k && nat_lt k (at + n) in
    ap (λ y. y ∷ changed_from (k + 1) f at n (changed_from (k + 1) g at n xs)) (one-again here f g (k - at) x same)
    ∙ ap (λ ys. (if here then f (k - at) x else x) ∷ ys) (changed-again (k + 1) at n f g xs same)

and-again : (b d p : ℕ) → bit_and (bit_and b (bit_or d p)) d ≡ bit_and b d
and-again b d p =
    same_from_bits (bit_and (bit_and b (bit_or d p)) d) (bit_and b d) (λ i.
    omega (
      arith,
      bit_at_and (bit_and b (bit_or d p)) d i,
      bit_at_and b (bit_or d p) i,
      bit_at_or d p i,
      bit_at_and b d i,
    ))

or-again : (v b m : ℕ) → bit_or (bit_or v (bit_and b m)) b ≡ bit_or v b
or-again v b m =
    same_from_bits (bit_or (bit_or v (bit_and b m)) b) (bit_or v b) (λ i.
    omega (
      arith,
      bit_at_or (bit_or v (bit_and b m)) b i,
      bit_at_or v (bit_and b m) i,
      bit_at_and b m i,
      bit_at_or v b i,
    ))

same-flash : (f g o : List ℕ) → f ≡ g
    → (let c : Content = record { flash = f; otp = o } in let d : Content = record { flash = g; otp = o } in c ≡ d)
same-flash f g o e = cc

same-otp : (f o p : List ℕ) → o ≡ p
    → (let c : Content = record { flash = f; otp = o } in let d : Content = record { flash = f; otp = p } in c ≡ d)
same-otp f o p e = cc

pub redone-erase : (pattern : List ℕ) (c : Content) (s : ℕ)
    → after (torn_by pattern c (Erase s)) (Erase s) ≡ after c (Erase s)
redone-erase pattern c s =
    same-flash _ _ c.otp (changed-again 0 (4096 * s) 4096 (λ i b. 255)
    (λ i b. pattern_at pattern i) c.flash (λ i x. refl))

pub redone-program : (pattern : List ℕ) (c : Content) (p : ℕ) (d : List ℕ)
    → after (torn_by pattern c (Program p d)) (Program p d) ≡ after c (Program p d)
redone-program pattern c p d =
    same-flash _ _ c.otp (changed-again 0 (256 * p) 256 (λ i b. bit_and b (slice_index d i))
    (λ i b. bit_and b (bit_or (slice_index d i) (pattern_at pattern i))) c.flash
    (λ i x. and-again x (slice_index d i) (pattern_at pattern i)))

pub redone-raise : (pattern : List ℕ) (c : Content) (r b : ℕ) → r < length c.otp
    → after (torn_by pattern c (Raise r b)) (Raise r b) ≡ after c (Raise r b)
redone-raise pattern c r b inside =
    let m = bit_xor (pattern_row pattern) 0xff_ffff in
    let torn = bit_or (slice_index c.otp r) (bit_and b m) in
    same-otp c.flash _ _
    (ap (λ v. slice_set (slice_set c.otp r torn) r (bit_or v b)) (get_or-set_same c.otp r torn 0 inside)
    ∙ (set-set c.otp r torn (bit_or torn b)
    ∙ ap (λ v. slice_set c.otp r v) (or-again (slice_index c.otp r) b m)))

pub redone : (pattern : List ℕ) (c : Content) (step : Step) → IsContent c → IsStepIn (length c.flash) step
    → after (torn_by pattern c step) step ≡ after c step
redone pattern c (Erase s) right inside = redone-erase pattern c s
redone pattern c (Program p d) right inside = redone-program pattern c p d
redone pattern c (Raise r b) right inside =
    let long = right.otp_length in
    let low = inside.0 in
    redone-raise pattern c r b (omega (arith, low, long))
