-- Only one list of windows is right by the rules.
use Rattle.std.proofs.Common.{◌≡◌, ℕ, ◌+◌, ◌*◌, ◌/◌, ◌≤◌, List, [], ◌∷◌, map, Option, refl, sym, ◌∙◌, ap, subst, arith}
use Rattle.std.specs.List.{AllByRecursion}
use Rattle.pico_board.specs.declared.window.Window.{Window}
use Rattle.part_table.specs.declared.table.Table.{Table}
use Rattle.boot_map.specs.declared.places.MapWindow.{MapWindow}
use Rattle.boot_map.specs.declared.places.MapPlace.{MapPlace}
use Rattle.boot_map.specs.Windows.{map_windows, window_end}
use Rattle.boot_map.specs.WindowRules.{AreMapWindows, AreSideBySide, WindowHasSector, IsMappable, IsWindowOf}
use Rattle.boot_map.proofs.LaidLemmas.{first-in, sectors-of}
use Rattle.boot_map.proofs.SharedLemmas.{right-placed, shared}
use Rattle.boot_map.proofs.WindowLemmas.{windows-right}

pub same-place : (p q : MapPlace) (v w : Window) → p ≡ q → v ≡ w
    → (let m : MapWindow = record { place = p; window = v } in
    let o : MapWindow = record { place = q; window = w } in m ≡ o)
same-place p q v w one two = cc

module _ (t : Option Table) (n z : ℕ) (able : IsMappable t n z) where
  abbrev IsRight : MapWindow → Type 0
  IsRight m = IsWindowOf t n z m.place m.window

  -- no right window begins at the flash's end
  past-end : (at : ℕ) (m : MapWindow) → IsRight m → m.window.start ≡ at → at ≡ n → ⊥
  past-end at m right starts end =
      let placed = right-placed t n z able m.place m.window right in
      no-room m.window.start m.window.len n (starts ∙ end) (sectors-of n able.whole) placed.some placed.inside
    where
      no-room : (a b c : ℕ) → a ≡ c → 4096 * (c / 4096) ≡ c → 4096 ≤ b → a + b ≤ 4096 * (c / 4096) → ⊥
      no-room a b c same long some inside = omega arith

  -- two right windows that begin at one offset are one
  same-head : (m o : MapWindow) → IsRight m → IsRight o → m.window.start ≡ o.window.start → m ≡ o
  same-head m o one two starts =
      let m_placed = right-placed t n z able m.place m.window one in
      let o_placed = right-placed t n z able o.place o.window two in
      let has : WindowHasSector m.window (m.window.start / 4096) =
      first-in m.window.start m.window.len m_placed.starts m_placed.some in
      let also : WindowHasSector o.window (m.window.start / 4096) =
      subst (λ x. WindowHasSector o.window (x / 4096)) (sym starts)
      (first-in o.window.start o.window.len o_placed.starts o_placed.some) in
      let both = shared t n z able m.place o.place m.window o.window (m.window.start / 4096) one two has also in
      same-place m.place o.place m.window o.window both.0 both.1

  same-from : (at : ℕ) (ms os : List MapWindow) → AreSideBySide at n (map (λ m. m.window) ms)
      → AllByRecursion IsRight ms → AreSideBySide at n (map (λ m. m.window) os) → AllByRecursion IsRight os → ms ≡ os
  same-from at [] [] side right also other = refl
  same-from at [] (o ∷ os) side right also other = absurd (past-end at o other.0 also.0 side)
  same-from at (m ∷ ms) [] side right also other = absurd (past-end at m right.0 side.0 also)
  same-from at (m ∷ ms) (o ∷ os) side right also other =
      joined (same-head m o right.0 other.0 (side.0 ∙ sym also.0))
      (λ same. same-from (window_end m.window) ms os side.1 right.1
      (subst (λ (x : MapWindow). AreSideBySide (window_end x.window) n (map (λ k. k.window) os)) (sym same) also.1)
      other.1)
    where
      joined : m ≡ o → (m ≡ o → ms ≡ os) → m ∷ ms ≡ o ∷ os
      joined same rest = ap (λ x. x ∷ ms) same ∙ ap (λ xs. o ∷ xs) (rest same)

  pub windows-once : (ms os : List MapWindow) → AreMapWindows t n z ms → AreMapWindows t n z os → ms ≡ os
  windows-once ms os one two =
      same-from 0 ms os one.side_by_side one.right two.side_by_side two.right

  pub windows-only : (ms : List MapWindow) → AreMapWindows t n z ms → ms ≡ map_windows t n z
  windows-only ms is = windows-once ms (map_windows t n z) is (windows-right t n z able)
