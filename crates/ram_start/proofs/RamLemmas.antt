-- The SRAM of zeros.
use Rattle.std.proofs.Common.{◌≡◌, ◌↔◌, ℕ, ◌<◌, false, List, [], ◌∷◌, ◌++◌, length, take, drop, Result, Ok, Err, refl, sym, ap, ◌∙◌, subst, arith}
use Rattle.std.specs.Prelude.{All, replicate}
use Rattle.std.proofs.lemmas.List.{length-replicate}
use Rattle.std.proofs.lemmas.List.Elements.{All-replicate}
use Rattle.pico_board.specs.declared.boot.Cpu.{Cpu}
use Rattle.pico_board.specs.Content.{Content}
use Rattle.image_def.specs.declared.started.Started.{Started}
use Rattle.image_check.specs.declared.why.Why.{Why}
use Rattle.image_check.specs.Addressing.{in_ram}
use Rattle.image_check.proofs.LawLemmas.{valid-exactly, why-exactly}
use Rattle.ram_start.specs.Images.{ValidRam, WhyNotRam, ram_image, ram_window}
use Rattle.ram_start.specs.Sram.{IsSram, zero_ram}

pub zeros-are : (n : ℕ) (xs : List ℕ) → n ≡ 532480 → xs ≡ replicate n 0 → xs ≡ zero_ram
unfolding zero_ram
zeros-are n xs e h = h ∙ ap (λ k. replicate k 0) e

right : (n : ℕ) (xs : List ℕ) → n ≡ 532480 → xs ≡ replicate n 0 → IsSram xs
right n xs e h = record {
  long = ap length h ∙ length-replicate n 0 ∙ e;
  bytes = subst (All (λ b. b < 256)) (sym h) (All-replicate (λ b. b < 256) n 0 (omega arith));
}

pub zeros-right : (n : ℕ) (xs : List ℕ) → n ≡ 532480 → xs ≡ replicate n 0 → IsSram xs
zeros-right = right

-- the whole list after its bytes were made 0
pub cleared-whole : (xs new : List ℕ) (k : ℕ) → length xs ≡ 532480 → k ≡ length xs → new ≡ replicate k 0
    → take k (new ++ drop (length new) xs) ≡ zero_ram
cleared-whole xs new k long same is =
    let size : length new ≡ k = ap length is ∙ length-replicate k 0 in
    take-length-append k new (drop (length new) xs) size ∙ zeros-are k new (same ∙ long) is
  where
    front : (ys zs : List ℕ) → take (length ys) (ys ++ zs) ≡ ys
    front [] zs = refl
    front (y ∷ ys) zs = ap (λ xs. y ∷ xs) (front ys zs)

    take-length-append : (k : ℕ) (ys zs : List ℕ) → length ys ≡ k → take k (ys ++ zs) ≡ ys
    take-length-append k ys zs e = ap (λ n. take n (ys ++ zs)) (sym e) ∙ front ys zs

module _ (c : Content) (bytes : List ℕ) (base : ℕ) (cpu : Cpu) (r : Result Started Why)
    (is : r ≡ ram_image c bytes base cpu) where
  -- what the check answers is what is valid in RAM, and why not
  pub ram-valid : (s : Started) → (r ≡ Ok s) ↔ ValidRam c bytes base cpu s
  ram-valid s =
      let both = valid-exactly (in_ram base) (ram_window base bytes) cpu false c.otp bytes s in
      (λ e. both.1 (sym is ∙ e), λ v. is ∙ both.0 v)

  pub ram-why : (y : Why) → (r ≡ Err y) ↔ WhyNotRam c bytes base cpu y
  ram-why y =
      let both = why-exactly (in_ram base) (ram_window base bytes) cpu false c.otp bytes y in
      (λ e. both.1 (sym is ∙ e), λ v. is ∙ both.0 v)
