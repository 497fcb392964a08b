-- The parts of a machine as it begins.
use Rattle.std.proofs.Common.{◌≡◌, ℕ, suc, ◌≤◌, Bool, false, cond, List, [], ◌∷◌, length, arith, None, refl}
use Rattle.std.specs.Prelude.{All, not, count_by}
use Rattle.std.proofs.lemmas.List.Sums.{sum_by-cons}
use Rattle.pico_board.specs.Board.{State as BoardState}
use Rattle.sector_pool.specs.Pool.{IsNewPool, Pool, free_count}
use Rattle.boot_machine.specs.declared.parts.Parts.{Parts}
use Rattle.boot_machine.specs.declared.state.State.TheVariants.{Off}
use Rattle.boot_machine.specs.Standing.{IsSteady}
use Rattle.boot_machine.proofs.RoomLemmas.{room-new}
use Rattle.boot_machine.proofs.SteadinessLemmas.{steady-left}

-- without power and without a download, and with two free sectors
pub steady-new : {B : Type 0} (state : B → BoardState) (p : Parts B) → p.state ≡ Off → p.download.current ≡ None
    → 2 ≤ free_count p.pool → IsSteady state p
steady-new state p off none some = steady-left state p p
    (record { board = refl; cpu = refl; off = off; none = none; room = room-new p.pool some })

-- where no sector is out, all are free
all-free : (out : List Bool) → All (λ is_out. is_out ≡ false) out → count_by not out ≡ length out
all-free [] all = refl
all-free (is_out ∷ rest) all =
    let here : is_out ≡ false = all 0 false (omega arith) in
    let others : All (λ one. one ≡ false) rest = λ k d within. all (suc k) d (omega arith) in
    rw (sum_by-cons (λ (b : Bool). cond (not b) 1 0) is_out rest, here) (omega (arith, all-free rest others))

-- a new pool of two sectors and more has two free ones
pub new_free : (n : ℕ) (pool : Pool) → IsNewPool n pool → 2 ≤ n → 2 ≤ free_count pool
new_free n pool new some =
    let all = all-free pool.out new.free in let long = new.numbers in omega (arith, all, long, some)
