-- What is known of images that stand in windows.
use Rattle.std.proofs.Common.{◌≡◌, ℕ, true, List, [], ◌∷◌, ◌++◌, eqb-true}
use Rattle.std.proofs.lemmas.Bool.{and_parts}
use Rattle.std.proofs.lemmas.List.Elements.{All-append, All-from_recursion}
use Rattle.pico_board.specs.declared.boot.Cpu.{Cpu}
use Rattle.pico_board.specs.declared.window.Window.{Window}
use Rattle.pico_board.specs.Content.{Content}
use Rattle.pico_board.specs.Windows.{is_same_window}
use Rattle.boot_cuts.specs.declared.standing.Standing.{Standing}
use Rattle.boot_cuts.specs.Standings.{AreStanding, IsStanding}

window-of-parts : (a b x y : ℕ) → a ≡ x → b ≡ y
    → (let v : Window = record { start = a; len = b } in let w : Window = record { start = x; len = y } in v ≡ w)
window-of-parts a b x y e f = cc

pub same-window : (v w : Window) → is_same_window v w ≡ true → v ≡ w
same-window v w e =
    let p = and_parts _ _ e in
    window-of-parts v.start v.len w.start w.len (eqb-true _ _ p.0) (eqb-true _ _ p.1)

pub one-more : (c : Content) (cpu : Cpu) (known : List Standing) (standing : Standing) → AreStanding c cpu known
    → IsStanding c cpu standing → AreStanding c cpu (known ++ standing ∷ [])
one-more c cpu known standing all here =
    All-append (IsStanding c cpu) known (standing ∷ []) all
    (All-from_recursion (IsStanding c cpu) (standing ∷ []) (here, tt))
