-- The steps of a plan: which of them keep to a window, to its first sector, or elsewhere.
use Rattle.std.proofs.Common.{◌≡◌, inr, ℕ, zero, suc, ◌+◌, ◌*◌, ◌<◌, ◌≤◌, false, nat_eq, List, [], ◌∷◌, ◌++◌, drop, arith}
use Rattle.std.specs.List.{AllByRecursion, IsDistinct}
use Rattle.std.proofs.lemmas.Bool.{ne_eqb}
use Rattle.pico_board.specs.declared.window.Window.{Window}
use Rattle.pico_board.specs.Sessions.{Confined, IsElsewhere, IsProgramIn, pages_of}
use Rattle.pico_board.proofs.GateLemmas.{IsDistinct-more, IsDistinct-none}
use Rattle.picoboot_cmd.specs.Pages.{programs_of}
use Rattle.picoboot_cmd.specs.Sectors.{erases}

pub all-append : {X : Type 0} (P : X → Type 0) (xs ys : List X) → AllByRecursion P xs → AllByRecursion P ys
    → AllByRecursion P (xs ++ ys)
all-append P [] ys first second = second
all-append P (x ∷ xs) ys first second = (first.0, all-append P xs ys first.1 second)

-- erases of sectors in a row
pub erases-confined : (w : Window) (first n : ℕ) → w.start ≤ 4096 * first → 4096 * (first + n) ≤ w.start + w.len
    → Confined (erases first n) w
erases-confined w first zero low high = tt
erases-confined w first (suc n) low high =
    ((low, omega (arith, high)), erases-confined w (first + 1) n (omega (arith, low)) (omega (arith, high)))

pub erases-elsewhere : (s first n : ℕ) → s < first → AllByRecursion (IsElsewhere s) (erases first n)
erases-elsewhere s first zero lt = tt
erases-elsewhere s first (suc n) lt =
    (λ e. omega (arith, lt, e), erases-elsewhere s (first + 1) n (omega (arith, lt)))

-- programs of pages in a row
pub programs-confined : (w : Window) (n page : ℕ) (bytes : List ℕ) → w.start ≤ 256 * page
    → 256 * (page + n) ≤ w.start + w.len → Confined (programs_of n page bytes) w
programs-confined w zero page bytes low high = tt
programs-confined w (suc n) page bytes low high = (
  (low, omega (arith, high)),
  programs-confined w n (page + 1) (drop 256 bytes) (omega (arith, low)) (omega (arith, high)),
)

pub programs-elsewhere : (s n page : ℕ) (bytes : List ℕ) → 4096 * s + 4096 ≤ 256 * page
    → AllByRecursion (IsElsewhere s) (programs_of n page bytes)
programs-elsewhere s zero page bytes behind = tt
programs-elsewhere s (suc n) page bytes behind =
    (inr behind, programs-elsewhere s n (page + 1) (drop 256 bytes) (omega (arith, behind)))

pub programs-in : (s n page : ℕ) (bytes : List ℕ) → 4096 * s ≤ 256 * page → 256 * (page + n) ≤ 4096 * s + 4096
    → AllByRecursion (IsProgramIn s) (programs_of n page bytes)
programs-in s zero page bytes low high = tt
programs-in s (suc n) page bytes low high = (
  (low, omega (arith, high)),
  programs-in s n (page + 1) (drop 256 bytes) (omega (arith, low)) (omega (arith, high)),
)

-- programs of pages in a row are programs of different pages
pages-above : (x n page : ℕ) (bytes : List ℕ) → x < page
    → AllByRecursion (λ y. nat_eq x y ≡ false) (pages_of (programs_of n page bytes))
pages-above x zero page bytes lt = tt
pages-above x (suc n) page bytes lt =
    (ne_eqb x page (λ e. omega (arith, lt, e)), pages-above x n (page + 1) (drop 256 bytes) (omega (arith, lt)))

pub programs-distinct : (n page : ℕ) (bytes : List ℕ) → IsDistinct nat_eq (pages_of (programs_of n page bytes))
programs-distinct zero page bytes = IsDistinct-none
programs-distinct (suc n) page bytes =
    IsDistinct-more page (pages_of (programs_of n (page + 1) (drop 256 bytes)))
    (pages-above page n (page + 1) (drop 256 bytes) (omega arith)) (programs-distinct n (page + 1) (drop 256 bytes))
