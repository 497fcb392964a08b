-- Lists of steps that keep to one window, and those that write its first sector last.
use Rattle.std.specs.Prelude.{◌≡◌, ◌≢◌, ◌⊎◌, ℕ, ◌+◌, ◌*◌, ◌<◌, ◌≤◌, List, [], ◌∷◌, ◌++◌, slice_index, nat_eq}
use Rattle.std.specs.List.{AllByRecursion, IsDistinct}
use Rattle.pico_board.specs.declared.window.Window.{Window}
use Rattle.pico_board.specs.Content.{Content}
use Rattle.pico_board.specs.Steps.{Step, Erase, Program, Raise, IsBetween, SameOutside, after_all}

-- the step is an erase or a program whose range lies in the window
abbrev pub IsConfined : Window → Step → Type 0
IsConfined w (Erase s) = (w.start ≤ 4096 * s) × (4096 * s + 4096 ≤ w.start + w.len)
IsConfined w (Program p d) = (w.start ≤ 256 * p) × (256 * p + 256 ≤ w.start + w.len)
IsConfined w (Raise r b) = ⊥

-- each step is an erase or a program whose range lies in the window
abbrev pub Confined : List Step → Window → Type 0
Confined steps w = AllByRecursion (IsConfined w) steps

-- the contents differ in the window alone
pub record SameButWindow (w : Window) (c d : Content) : Type 0 where
  pub outside : SameOutside w.start w.len c.flash d.flash
  pub rows : d.otp ≡ c.otp

-- the step is an erase or a program whose range shares no byte with sector s
abbrev pub IsElsewhere : ℕ → Step → Type 0
IsElsewhere s (Erase t) = t ≢ s
IsElsewhere s (Program p d) = (256 * p + 256 ≤ 4096 * s) ⊎ (4096 * s + 4096 ≤ 256 * p)
IsElsewhere s (Raise r b) = ⊥

-- the step is a program of a page of sector s
abbrev pub IsProgramIn : ℕ → Step → Type 0
IsProgramIn s (Erase t) = ⊥
IsProgramIn s (Program p d) = (4096 * s ≤ 256 * p) × (256 * p + 256 ≤ 4096 * s + 4096)
IsProgramIn s (Raise r b) = ⊥

-- the pages that are programmed, in their order
abbrev pub pages_of : List Step → List ℕ
pages_of [] = []
pages_of (Erase s ∷ steps) = pages_of steps
pages_of (Program p d ∷ steps) = p ∷ pages_of steps
pages_of (Raise r b ∷ steps) = pages_of steps

-- the steps are confined to the window: first the erase of its first sector s, then steps
-- elsewhere, and then programs of different pages of that sector
pub record IsGated (steps : List Step) (w : Window) (s : ℕ)
    (elsewhere last : List Step) : Type 0 where
  pub whole : steps ≡ Erase s ∷ (elsewhere ++ last)
  pub first : 4096 * s ≡ w.start
  pub confined : Confined steps w
  pub apart : AllByRecursion (IsElsewhere s) elsewhere
  pub final : AllByRecursion (IsProgramIn s) last
  pub distinct : IsDistinct nat_eq (pages_of last)

-- the list is empty, or it is confined and has three parts: the erase of the window's first
-- sector, steps elsewhere, and programs of different pages of the first sector
abbrev pub Gated : List Step → Window → Type 0
Gated steps w = (steps ≡ []) ⊎
    ((s : ℕ) × (elsewhere : List Step) × (last : List Step) × IsGated steps w s elsewhere last)

-- d is neither the content before the steps nor the one after them; some byte of the window's
-- first sector in d is not 0xff
pub record Unfinished (c : Content) (steps : List Step) (w : Window) (d : Content) : Type 0 where
  pub moved : d ≢ c
  pub short : d ≢ after_all c steps
  pub touched : (i : ℕ) × (i < 4096) × (slice_index d.flash (w.start + i) ≢ 255)

-- each byte of sector s is 0xff
abbrev pub IsBlank : ℕ → Content → Type 0
IsBlank s d = (i : ℕ) → i < 4096 → slice_index d.flash (4096 * s + i) ≡ 255

-- each byte of page p is 0xff
abbrev pub IsBlankPage : ℕ → Content → Type 0
IsBlankPage p d = (i : ℕ) → i < 256 → slice_index d.flash (256 * p + i) ≡ 255

-- each byte of page p is the same in both
abbrev pub IsSamePage : ℕ → Content → Content → Type 0
IsSamePage p z d = (i : ℕ) → i < 256
    → slice_index d.flash (256 * p + i) ≡ slice_index z.flash (256 * p + i)

-- page p is one of sector s
abbrev pub IsPageOf : ℕ → ℕ → Type 0
IsPageOf s p = (4096 * s ≤ 256 * p) × (256 * p + 256 ≤ 4096 * s + 4096)

-- the contents differ in sector s alone
pub record SameButSector (s : ℕ) (c d : Content) : Type 0 where
  pub outside : SameOutside (4096 * s) 4096 c.flash d.flash
  pub rows : d.otp ≡ c.otp

-- power was lost in the program of page p of sector s, the last sector written: d is the finished
-- content z but for sector s; page p of this sector lies bit by bit between 0xff and z's; each
-- other page of it is 0xff or z's
pub record IsClosing (z : Content) (s p : ℕ) (d : Content) : Type 0 where
  pub same : SameButSector s z d
  pub page : IsPageOf s p
  pub others : (q : ℕ) → IsPageOf s q → q ≢ p → IsBlankPage q d ⊎ IsSamePage q z d
  pub between : (i : ℕ) → i < 256
      → IsBetween 255 (slice_index z.flash (256 * p + i)) (slice_index d.flash (256 * p + i))

-- the steps of the last sector are done in part: d is the finished content z but for sector s,
-- whose pages are each 0xff or z's
pub record IsPartial (z : Content) (s : ℕ) (d : Content) : Type 0 where
  pub same : SameButSector s z d
  pub pages : (q : ℕ) → IsPageOf s q → IsBlankPage q d ⊎ IsSamePage q z d
