-- The windows with data are those of the function.
use Rattle.std.proofs.Common.{◌≡◌, Bool, true, false, List, [], ◌∷◌, ◌++◌, Option, Some, None, refl, sym, ap, ◌∙◌, subst, arith}
use Rattle.std.specs.Prelude.{◌↔◌, Contains, filter, if◌then◌else◌, map, not}
use Rattle.std.specs.List.{list_any}
use Rattle.std.proofs.lemmas.Bool.{and_parts, eqb-true}
use Rattle.pico_board.specs.declared.boot.Cpu.{Cpu}
use Rattle.pico_board.specs.declared.boot.BootKind.TheVariants.{Normal}
use Rattle.pico_board.specs.declared.window.Window.{Window}
use Rattle.pico_board.specs.Windows.{is_same_window}
use Rattle.pico_board.specs.Content.{Content}
use Rattle.boot_rules.specs.Choosing.{decision_in}
use Rattle.boot_rules.proofs.DecisionLemmas.{chosen-decision, decision-chosen}
use Rattle.boot_sweep.specs.Moving.{MoveView}
use Rattle.boot_cuts.specs.Tears.{IsLeftTorn, done_steps, is_left_torn, left_torn}
use Rattle.boot_cuts.proofs.TearLemmas.{torn-exactly}
use Rattle.check_require.specs.declared.report.DataOwner.{DataOwner}
use Rattle.check_require.specs.declared.report.DataOwner.TheVariants.{Both, Former, End}
use Rattle.check_require.specs.declared.report.DataWritten.{DataWritten}
use Rattle.check_require.specs.declared.report.DataWritten.TheVariants.{Yes, No, Torn}
use Rattle.check_images.specs.Lines.{AreLinesOf}
use Rattle.check_images.specs.Touching.{touches}
use Rattle.check_images.proofs.LineLemmas.{lines-once}
use Rattle.check_images.proofs.TouchLemmas.{touches-is}
use Rattle.check_data.specs.declared.found.DataWindow.{DataWindow}
use Rattle.check_data.specs.Windows.{AreDataWindows, IsDataWritten, IsFormerLine, IsFormerOwner, IsFurtherLine, IsTouched, data_in, data_windows, data_written, former_window, is_listed, told_window}
use Rattle.check_data.proofs.ListLemmas.{false-true, passes, passing}

window-is : (v w : Window) → is_same_window v w ≡ true → v ≡ w
window-is v w e =
    let p = and_parts _ _ e in
    ap (λ n. record { start = n; len = v.len }) (eqb-true v.start w.start p.0)
    ∙ ap (λ n. record { start = w.start; len = n }) (eqb-true v.len w.len p.1)

window-self : (w : Window) → is_same_window w w ≡ true
window-self w = grind (arith)

-- a window is listed exactly where the list has it
pub listed-is : (ws : List Window) (w : Window) → is_listed ws w ≡ true → Contains ws w
listed-is ws w e =
    let r = passing (is_same_window w) ws e in subst (λ v. Contains ws v) (sym (window-is w r.0 r.2)) r.1

pub is-listed : (ws : List Window) (w : Window) → Contains ws w → is_listed ws w ≡ true
is-listed ws w is = passes (is_same_window w) ws w is (window-self w)

touched-is : (moves : List MoveView) (w : Window) → list_any (touches w) (done_steps moves) ≡ true → IsTouched moves w
touched-is moves w e =
    let r = passing (touches w) (done_steps moves) e in
    record { step = r.0; done = r.1; touched = (touches-is w r.0).0 r.2 }

is-touched : (moves : List MoveView) (w : Window) → IsTouched moves w → list_any (touches w) (done_steps moves) ≡ true
is-touched moves w t = passes (touches w) (done_steps moves) t.step t.done ((touches-is w t.step).1 t.touched)

-- whether it is written, as the function says
pub written-is : (moves : List MoveView) (w : Window) → IsDataWritten moves w (data_written moves w)
written-is moves w = go (is_left_torn (left_torn moves) w) (list_any (touches w) (done_steps moves)) refl refl
  where
    mended : is_left_torn (left_torn moves) w ≡ false → IsLeftTorn moves w → ⊥
    mended e torn = false-true _ e ((torn-exactly moves w).0 torn)

    go : (a b : Bool) → is_left_torn (left_torn moves) w ≡ a → list_any (touches w) (done_steps moves) ≡ b
        → IsDataWritten moves w (if a then Torn else if b then Yes else No)
    go true b torn touched = (torn-exactly moves w).1 torn
    go false true torn touched = (mended torn, touched-is moves w touched)
    go false false torn touched = (mended torn, λ t. false-true _ touched (is-touched moves w t))

one-written : (moves : List MoveView) (w : Window) (r q : DataWritten) → IsDataWritten moves w r
    → IsDataWritten moves w q → r ≡ q
one-written moves w Torn Torn a b = refl
one-written moves w Torn Yes a b = absurd (b.0 a)
one-written moves w Torn No a b = absurd (b.0 a)
one-written moves w Yes Torn a b = absurd (a.0 b)
one-written moves w Yes Yes a b = refl
one-written moves w Yes No a b = absurd (b.1 a.1)
one-written moves w No Torn a b = absurd (a.0 b)
one-written moves w No Yes a b = absurd (a.1 b.1)
one-written moves w No No a b = refl

owner-is : (zs : List Window) (w : Window) → IsFormerOwner zs w (if is_listed zs w then Both else Former)
owner-is zs w = go (is_listed zs w) refl
  where
    go : (b : Bool) → is_listed zs w ≡ b → IsFormerOwner zs w (if b then Both else Former)
    go true e = listed-is zs w e
    go false e = λ is. false-true _ e (is-listed zs w is)

one-owner : (zs : List Window) (w : Window) (r q : DataOwner) → IsFormerOwner zs w r → IsFormerOwner zs w q → r ≡ q
one-owner zs w Both Both a b = refl
one-owner zs w Both Former a b = absurd (b a)
one-owner zs w Both End a b = absurd b
one-owner zs w Former Both a b = absurd (a b)
one-owner zs w Former Former a b = refl
one-owner zs w Former End a b = absurd b
one-owner zs w End q a b = absurd a

same-told : (s t : DataWindow) → s.window ≡ t.window → s.of ≡ t.of → s.written ≡ t.written → s ≡ t
same-told s t a b c =
    ap (λ v. record { window = v; of = s.of; written = s.written }) a
    ∙ (ap (λ v. record { window = t.window; of = v; written = s.written }) b
    ∙ ap (λ v. record { window = t.window; of = t.of; written = v }) c)

one-former : (moves : List MoveView) (zs : List Window) (w : Window) (a b : Option DataWindow)
    → IsFormerLine moves zs w a → IsFormerLine moves zs w b → a ≡ b
one-former moves zs w None b x y = absurd x
one-former moves zs w (Some s) None x y = absurd y
one-former moves zs w (Some s) (Some t) x y =
    ap (λ v. Some v) (same-told s t (x.0 ∙ sym y.0) (one-owner zs w s.of t.of x.1 y.1)
    (one-written moves w s.written t.written x.2 y.2))

one-further : (moves : List MoveView) (cs : List Window) (w : Window) (a b : Option DataWindow)
    → IsFurtherLine moves cs w a → IsFurtherLine moves cs w b → a ≡ b
one-further moves cs w None None x y = refl
one-further moves cs w None (Some t) x y = absurd (y.0 x)
one-further moves cs w (Some s) None x y = absurd (x.0 y)
one-further moves cs w (Some s) (Some t) x y =
    ap (λ v. Some v) (same-told s t (x.1 ∙ sym y.1) (x.2 ∙ sym y.2) (one-written moves w s.written t.written x.3 y.3))

former-are : (moves : List MoveView) (zs cs : List Window)
    → AreLinesOf (IsFormerLine moves zs) cs (map (former_window moves zs) cs)
former-are moves zs [] = refl
former-are moves zs (w ∷ cs) = (
  Some (former_window moves zs w),
  map (former_window moves zs) cs,
  (refl, owner-is zs w, written-is moves w),
  former-are moves zs cs,
  refl,
)

further-are : (moves : List MoveView) (cs zs : List Window)
    → AreLinesOf (IsFurtherLine moves cs) zs (map (told_window moves End) (filter (λ w. not (is_listed cs w)) zs))
further-are moves cs [] = refl
further-are moves cs (w ∷ zs) =
    go (filter (λ v. not (is_listed cs v)) zs) (is_listed cs w) refl (further-are moves cs zs)
  where
    go : (others : List Window) (b : Bool) → is_listed cs w ≡ b
        → AreLinesOf (IsFurtherLine moves cs) zs (map (told_window moves End) others)
        → AreLinesOf (IsFurtherLine moves cs) (w ∷ zs) (map (told_window moves End)
        (if not b then w ∷ others else others))
    go others true e rest = (None, map (told_window moves End) others, listed-is cs w e, rest, refl)
    go others false e rest = (
      Some (told_window moves End w),
      map (told_window moves End) others,
      ((λ is. false-true _ e (is-listed cs w is)), refl, refl, written-is moves w),
      rest,
      refl,
    )

module _ (c z : Content) (cpu : Cpu) (moves : List MoveView) where
  abbrev cs : List Window
  cs = data_in c (decision_in c cpu Normal)

  abbrev zs : List Window
  zs = data_in z (decision_in z cpu Normal)

  windows-are : AreDataWindows c z cpu moves (data_windows c z cpu moves)
  windows-are = record {
    former = decision_in c cpu Normal;
    finished = decision_in z cpu Normal;
    before = decision-chosen c cpu Normal;
    after = decision-chosen z cpu Normal;
    first = map (former_window moves zs) cs;
    further = map (told_window moves End) (filter (λ w. not (is_listed cs w)) zs);
    whole = refl;
    first_are = former-are moves zs cs;
    further_are = further-are moves cs zs;
  }

  windows-once : (windows : List DataWindow) → AreDataWindows c z cpu moves windows
      → windows ≡ data_windows c z cpu moves
  windows-once windows are =
      let former = chosen-decision c cpu Normal are.former are.before in
      let finished = chosen-decision z cpu Normal are.finished are.after in
      let first = lines-once (IsFormerLine moves zs) (one-former moves zs) cs are.first (map
      (former_window moves zs) cs)
      (subst (λ e. AreLinesOf (IsFormerLine moves (data_in z e)) cs are.first) finished
      (subst (λ e. AreLinesOf (IsFormerLine moves (data_in z are.finished))
      (data_in c e) are.first) former are.first_are))
      (former-are moves zs cs) in
      let further = lines-once (IsFurtherLine moves cs) (one-further moves cs) zs are.further
      (map (told_window moves End) (filter (λ w. not (is_listed cs w)) zs))
      (subst (λ e. AreLinesOf (IsFurtherLine moves cs) (data_in z e) are.further) finished
      (subst (λ e. AreLinesOf (IsFurtherLine moves (data_in c e))
      (data_in z are.finished) are.further) former are.further_are))
      (further-are moves cs zs) in
      are.whole ∙ (ap (λ xs. xs ++ are.further) first
      ∙ ap (λ xs. map (former_window moves zs) cs ++ xs) further)

  pub windows-exactly : (windows : List DataWindow)
      → AreDataWindows c z cpu moves windows ↔ (windows ≡ data_windows c z cpu moves)
  windows-exactly windows = (
    windows-once windows,
    λ e. subst (λ xs. AreDataWindows c z cpu moves xs) (sym e) windows-are,
  )
