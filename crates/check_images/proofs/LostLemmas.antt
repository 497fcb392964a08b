-- The line of a window by the function is the one that the rules name.
use Rattle.std.proofs.Common.{◌≡◌, ◌⊎◌, ◌∙◌, ℕ, ◌==◌, zero, suc, Bool, true, false, cond, List, [], ◌∷◌, Option, Some, None, Result, Ok, Err, slice_get, inl, inr, refl, sym, ap, subst, arith}
use Rattle.std.specs.Prelude.{◌||◌, ◌<◌, All, IfOk, IfSome}
use Rattle.std.specs.List.{filter_map}
use Rattle.std.proofs.lemmas.Option.{get_or_from_slice_get, slice_get_within}
use Rattle.std.proofs.lemmas.Bool.{and_from, and_parts, eq-eqb, eqb-true}
use Rattle.pico_board.specs.declared.boot.Cpu.{Cpu}
use Rattle.pico_board.specs.declared.boot.BootKind.TheVariants.{Normal}
use Rattle.pico_board.specs.declared.window.Window.{Window}
use Rattle.pico_board.specs.Content.{Content, window_bytes}
use Rattle.pico_board.specs.Windows.{is_same_window}
use Rattle.image_def.specs.declared.started.Started.{Started}
use Rattle.image_check.specs.declared.why.Why.{Why}
use Rattle.image_check.specs.Addressing.{in_flash}
use Rattle.image_check.specs.Image.{image_at}
use Rattle.image_check.specs.Valid.{Valid}
use Rattle.image_check.proofs.LawLemmas.{at-valid, valid-at, why-exactly}
use Rattle.slot_choice.specs.declared.choice.Choice.{Choice}
use Rattle.boot_rules.specs.declared.decision.Decision.{Decision}
use Rattle.boot_rules.specs.declared.decision.Decision.TheVariants.{Start, Bootsel}
use Rattle.boot_rules.specs.Chosen.{Chosen}
use Rattle.boot_rules.proofs.DecisionLemmas.{chosen-once}
use Rattle.check_images.specs.declared.found.LostWindow.{LostWindow}
use Rattle.check_images.specs.Boots.{after_boot}
use Rattle.check_images.specs.Lost.{AreLost, BeginsWith, IsLost, IsOfStartingUnit}
use Rattle.check_images.specs.Losing.{fault_of, is_of_start, is_window, line_by, line_of, loss_by, lost_line, member_at}
use Rattle.check_images.specs.Members.{members_in}
use Rattle.check_images.proofs.LineLemmas.{lines-by}

same-some : {X : Type 0} (x y : X) → Some x ≡ Some y → x ≡ y
same-some x y e = cc

none-some : {X P : Type 0} (x : X) → None ≡ Some x → P
none-some x e = cc

-- the first window that begins at an offset is one of the windows, and begins there
pub record IsListedAt (ws : List Window) (start : ℕ) (v : Window) : Type 0 where
  pub place : ℕ
  pub member : slice_get ws place ≡ Some v
  pub begins : v.start ≡ start
  pub first : (j : ℕ) (u : Window) → j < place → slice_get ws j ≡ Some u → u.start ≡ start → ⊥

-- the first of the others, where this one does not begin there
behind : (w : Window) (ws : List Window) (start : ℕ) (v : Window) → (w.start == start) ≡ false → IsListedAt ws start v
    → IsListedAt (w ∷ ws) start v
behind w ws start v other at = record {
  place = suc at.place;
  member = at.member;
  begins = at.begins;
  first = before;
}
  where
    before : (j : ℕ) (u : Window) → j < suc at.place → slice_get (w ∷ ws) j ≡ Some u → u.start ≡ start → ⊥
    before zero u lt is begins =
        not-true (w.start == start) other
        (eq-eqb w.start start (ap (λ (x : Window). x.start) (same-some w u is) ∙ begins))
      where
        not-true : (b : Bool) → b ≡ false → b ≡ true → ⊥
        not-true b e f = cc
    before (suc j) u lt is begins = at.first j u (omega (arith, lt)) is begins

found-by : (w : Window) (ws : List Window) (start : ℕ) (v : Window)
    → (member_at ws start ≡ Some v → IsListedAt ws start v) → (here : Bool) → (w.start == start) ≡ here
    → cond here (Some w) (member_at ws start) ≡ Some v → IsListedAt (w ∷ ws) start v
found-by w ws start v rest true is e = record {
  place = 0;
  member = e;
  begins = subst (λ (x : Window). x.start ≡ start) (same-some w v e) (eqb-true w.start start is);
  first = λ j u lt at begins. absurd (omega (arith, lt));
}
found-by w ws start v rest false is e = behind w ws start v is (rest e)

pub found-at : (ws : List Window) (start : ℕ) (v : Window) → member_at ws start ≡ Some v → IsListedAt ws start v
found-at [] start v e = none-some v e
found-at (w ∷ ws) start v e = found-by w ws start v (found-at ws start v) (w.start == start) refl e

-- what holds of all windows holds of it
if-at : (P : Window → Type 0) (ws : List Window) (start : ℕ) → All P ws → (o : Option Window)
    → member_at ws start ≡ o → IfSome o P
if-at P ws start all None is = tt
if-at P ws start all (Some v) is =
    let at = found-at ws start v is in
    subst P (get_or_from_slice_get ws at.place v v at.member)
    (all at.place v (slice_get_within ws at.place v at.member))

pub found-inside : (P : Window → Type 0) (ws : List Window) (start : ℕ) → All P ws → IfSome (member_at ws start) P
found-inside P ws start all = if-at P ws start all (member_at ws start) refl

-- where none is found none begins there
not-both : (b : Bool) → b ≡ false → b ≡ true → ⊥
not-both b e f = cc

some-none : {X P : Type 0} (x : X) → Some x ≡ None → P
some-none x e = cc

none-here : (w : Window) (ws : List Window) (start : ℕ) (v : Window)
    → ((k : ℕ) → slice_get ws k ≡ Some v → ⊥) → (w.start == start) ≡ false → v.start ≡ start
    → (k : ℕ) → slice_get (w ∷ ws) k ≡ Some v → ⊥
none-here w ws start v rest other begins zero at =
    not-both (w.start == start) other
    (eq-eqb w.start start (ap (λ (x : Window). x.start) (same-some w v at) ∙ begins))
none-here w ws start v rest other begins (suc k) at = rest k at

none-by : (w : Window) (ws : List Window) (start : ℕ) (v : Window)
    → (member_at ws start ≡ None → (k : ℕ) → slice_get ws k ≡ Some v → ⊥) → v.start ≡ start
    → (here : Bool) → (w.start == start) ≡ here → cond here (Some w) (member_at ws start) ≡ None
    → (k : ℕ) → slice_get (w ∷ ws) k ≡ Some v → ⊥
none-by w ws start v rest begins true is e k at = some-none w e
none-by w ws start v rest begins false is e k at = none-here w ws start v (rest e) is begins k at

pub none-at : (ws : List Window) (start : ℕ) (v : Window) → v.start ≡ start → member_at ws start ≡ None → (k : ℕ)
    → slice_get ws k ≡ Some v → ⊥
none-at [] start v begins e k at = none-some v at
none-at (w ∷ ws) start v begins e k at =
    none-by w ws start v (none-at ws start v begins) begins (w.start == start) refl e k at

-- a window is of the unit that starts
window-of-parts : (a b c d : ℕ) → a ≡ c → b ≡ d
    → (let v : Window = record { start = a; len = b } in let w : Window = record { start = c; len = d } in v ≡ w)
window-of-parts a b c d e f = cc

same-window : (v w : Window) → is_same_window v w ≡ true → v ≡ w
same-window v w e =
    let p = and_parts (v.start == w.start) (v.len == w.len) e in
    window-of-parts v.start v.len w.start w.len (eqb-true _ _ p.0) (eqb-true _ _ p.1)

window-same : (v w : Window) → v ≡ w → is_same_window v w ≡ true
window-same v w e =
    and_from (v.start == w.start) (v.len == w.len) (eq-eqb _ _ (ap (λ (x : Window). x.start) e))
    (eq-eqb _ _ (ap (λ (x : Window). x.len) e))

other-is : (o : Option Window) (v : Window) → is_window o v ≡ true → o ≡ Some v
other-is None v e = cc
other-is (Some w) v e = ap (λ x. Some x) (same-window w v e)

is-other : (o : Option Window) (v : Window) → o ≡ Some v → is_window o v ≡ true
is-other None v e = none-some v e
is-other (Some w) v e = window-same w v (same-some w v e)

or-parts : (a b : Bool) → (a || b) ≡ true → (a ≡ true) ⊎ (b ≡ true)
or-parts true b e = inl refl
or-parts false b e = inr e

or-first : (a b : Bool) → a ≡ true → (a || b) ≡ true
or-first true b e = refl
or-first false b e = cc

or-second : (a b : Bool) → b ≡ true → (a || b) ≡ true
or-second true b e = refl
or-second false b e = e

either : (choice : Choice) (v : Window)
    → (is_same_window choice.image.window v ≡ true) ⊎ (is_window choice.other v ≡ true)
    → (choice.image.window ≡ v) ⊎ (choice.other ≡ Some v)
either choice v (inl e) = inl (same-window choice.image.window v e)
either choice v (inr e) = inr (other-is choice.other v e)

of-start : (z : Content) (cpu : Cpu) (d : Decision) → Chosen z cpu Normal d → (v : Window) → is_of_start d v ≡ true
    → IsOfStartingUnit z cpu v
of-start z cpu (Start choice) chosen v e = record {
  choice = choice;
  chosen = chosen;
  member = either choice v (or-parts (is_same_window choice.image.window v) (is_window choice.other v) e);
}
of-start z cpu (Bootsel fall) chosen v e = cc

by-member : (choice : Choice) (v : Window) → (choice.image.window ≡ v) ⊎ (choice.other ≡ Some v)
    → is_of_start (Start choice) v ≡ true
by-member choice v (inl e) =
    or-first (is_same_window choice.image.window v) (is_window choice.other v) (window-same choice.image.window v e)
by-member choice v (inr e) =
    or-second (is_same_window choice.image.window v) (is_window choice.other v) (is-other choice.other v e)

start-of : (z : Content) (cpu : Cpu) (d : Decision) → Chosen z cpu Normal d → (v : Window) → IsOfStartingUnit z cpu v
    → is_of_start d v ≡ true
start-of z cpu d chosen v of =
    subst (λ (x : Decision). is_of_start x v ≡ true) (chosen-once z cpu Normal (Start of.choice) d of.chosen chosen)
    (by-member of.choice v of.member)

-- the line of a window of c, where the boot on z decides so
module _ (c z : Content) (cpu : Cpu) (d : Decision) (chosen : Chosen z cpu Normal d) (w : Window) where
  abbrev y : Content
  y = after_boot z cpu

  begins-with : (v : Window) → IsListedAt (members_in z cpu) w.start v → BeginsWith z cpu w v
  begins-with v at = record { place = at.place; member = at.member; begins = at.begins; first = at.first }

  by-fault : (v : Window) → BeginsWith z cpu w v → is_of_start d v ≡ false → (r : Result Started Why)
      → image_at y v cpu false ≡ r → (s : Started) → Valid c w cpu false s
      → IsLost c z cpu w (line_of w (fault_of r))
  by-fault v at other (Ok t) is s valid = λ some. (v, at, inr (t, valid-at y v cpu false t is))
  by-fault v at other (Err why) is s valid = (
    refl,
    (s, valid),
    (
      v,
      at,
      (λ of. not-both (is_of_start d v) other (start-of z cpu d chosen v of)),
      (why-exactly in_flash v cpu false y.otp (window_bytes y v) why).1 is,
    ),
  )

  by-start : (v : Window) → BeginsWith z cpu w v → (b : Bool) → is_of_start d v ≡ b → (s : Started)
      → Valid c w cpu false s
      → IsLost c z cpu w (line_of w (cond b None (fault_of (image_at y v cpu false))))
  by-start v at true is s valid = λ some. (v, at, inl (of-start z cpu d chosen v is))
  by-start v at false is s valid = by-fault v at is (image_at y v cpu false) refl s valid

  by-place : (o : Option Window) → member_at (members_in z cpu) w.start ≡ o → (s : Started) → Valid c w cpu false s
      → IsLost c z cpu w (line_of w (loss_by y cpu d o))
  by-place None is s valid = (
    refl,
    (s, valid),
    λ v begins. none-at (members_in z cpu) w.start v begins.begins is begins.place begins.member,
  )
  by-place (Some v) is s valid =
      by-start v (begins-with v (found-at (members_in z cpu) w.start v is)) (is_of_start d v) refl s valid

  by-image : (r : Result Started Why) → image_at c w cpu false ≡ r
      → IsLost c z cpu w (line_by w r (loss_by y cpu d (member_at (members_in z cpu) w.start)))
  by-image (Ok s) is = by-place (member_at (members_in z cpu) w.start) refl s (valid-at c w cpu false s is)
  by-image (Err why) is = λ some. absurd (no-image some.0 why (image_at c w cpu false) (at-valid c w cpu false some.0 some.1) is)
    where
      no-image : (s : Started) (e : Why) (r : Result Started Why) → r ≡ Ok s → r ≡ Err e → ⊥
      no-image s e r one two = cc

  pub lost-is : IsLost c z cpu w (lost_line c (members_in z cpu) y cpu d w)
  lost-is = by-image (image_at c w cpu false) refl

-- the lines of a list by the function are those that the rules name
pub are-lost : (c z : Content) (cpu : Cpu) (d : Decision) → Chosen z cpu Normal d → (y : Content)
    → y ≡ after_boot z cpu → (windows members : List Window) → windows ≡ members_in c cpu
    → members ≡ members_in z cpu → (lines : List LostWindow)
    → lines ≡ filter_map (lost_line c members y cpu d) windows → AreLost c z cpu lines
are-lost c z cpu d chosen y left windows members listed of lines is =
    subst (λ xs. AreLost c z cpu xs)
    (sym (is ∙ (ap (λ ws. filter_map (lost_line c members y cpu d) ws) listed
    ∙ (ap (λ ws. filter_map (lost_line c ws y cpu d) (members_in c cpu)) of
    ∙ ap (λ (x : Content). filter_map (lost_line c (members_in z cpu) x cpu d) (members_in c cpu)) left))))
    (lines-by (IsLost c z cpu) (lost_line c (members_in z cpu) (after_boot z cpu) cpu d)
    (λ w. lost-is c z cpu d chosen w) (members_in c cpu))

pub if-ok : {X E : Type 0} (r : Result X E) (P Q : X → Type 0) → ((x : X) → P x → Q x) → IfOk r P → IfOk r Q
if-ok (Ok x) P Q f h = f x h
if-ok (Err e) P Q f h = tt
