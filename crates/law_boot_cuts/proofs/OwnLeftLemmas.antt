-- What a start's and a buy's writes leave, done or torn: all windows apart from the two of the unit, and rows that the
-- image's raises alone change.
use Rattle.std.proofs.Common.{◌≡◌, ◌≢◌, ℕ, ◌+◌, ◌/◌, ◌<◌, ◌≤◌, true, List, [], ◌∷◌, ◌++◌, length, Some, refl, sym, ap, ◌∙◌, subst, arith, inl, inr}
use Rattle.std.specs.Int.{bit_at}
use Rattle.std.specs.Prelude.{Contains, IfSome, count_ones, slice_index}
use Rattle.std.specs.List.{AllByRecursion}
use Rattle.std.proofs.lemmas.List.Elements.{Contains-append_right}
use Rattle.std.proofs.lemmas.List.Sums.{sum_by-cons}
use Rattle.pico_board.specs.declared.Step.{Step}
use Rattle.pico_board.specs.declared.Step.TheVariants.{Erase, Raise}
use Rattle.pico_board.specs.declared.boot.Cpu.{Cpu}
use Rattle.pico_board.specs.declared.window.Window.{Window}
use Rattle.pico_board.specs.Content.{AreApart, Content, IsContent, window_bytes}
use Rattle.pico_board.specs.Sessions.{Confined, SameButWindow}
use Rattle.pico_board.specs.Steps.{IsStepIn, MayLeave, after_all}
use Rattle.pico_board.proofs.ConfinementLemmas.{confined-CutOf, confined-MayLeave, confined-after_all, window_bytes-apart}
use Rattle.pico_board.proofs.CuttingLemmas.{IsContent-after_all}
use Rattle.image_def.specs.declared.started.Started.{Started}
use Rattle.otp_roll.specs.Flags.{flash_off, rollback_required, slot_size}
use Rattle.otp_roll.specs.Rows.{AreRollbackRows, IsOutside, IsRollbackVersion, Rises, count, majority}
use Rattle.otp_roll.proofs.RisingLemmas.{elsewhere-from, flash-left, row-left}
use Rattle.image_check.specs.NotBelow.{NotBelow}
use Rattle.slot_choice.specs.declared.choice.Choice.{Choice}
use Rattle.trial_buy.specs.Starting.{image_raises, other_erase}
use Rattle.part_table.specs.Windows.{IsPlacedIn}
use Rattle.law_boot_cuts.proofs.LeftRowLemmas.{flash_off-left, image-raises, not_below-left, raises-rise, required-left, slot_size-left}
use Rattle.law_boot_cuts.proofs.OwnStepLemmas.{Erases, Keeps, confined-range, erase-cases, first-confined, left-parts}

-- the rows are as before, or the image's raises were done in part or whole on a content with the rows before
pub data RowsLeft (c d : Content) (s : Started) : Type 0 where
  same_rows : d.otp ≡ c.otp → RowsLeft c d s
  raised_rows : (x : Content) → x.otp ≡ c.otp → IsContent x → MayLeave x (image_raises x.otp s) d → RowsLeft c d s

-- what is left: windows apart from the two of the unit, and the rows
pub record IsLeft (c : Content) (choice : Choice) (d : Content) : Type 0 where
  pub long : length d.flash ≡ length c.flash
  pub bytes : (v : Window) → AreApart choice.image.window v → ((w : Window) → choice.other ≡ Some w → AreApart w v)
      → window_bytes d v ≡ window_bytes c v
  pub rows : RowsLeft c d choice.image

le-self : (n m : ℕ) → n ≡ m → n ≤ m
le-self n m e = omega arith

module _ (c d : Content) (s : Started) (right : IsContent c) (listed : AreRollbackRows s.rows.items) where
  pub required-stays : RowsLeft c d s → rollback_required d.otp ≡ rollback_required c.otp
  required-stays (same_rows e) = ap rollback_required e
  required-stays (raised_rows x e is left) =
      required-left x s.rows.items d listed s.rollback left ∙ ap rollback_required e

  pub flash_off-stays : RowsLeft c d s → flash_off d.otp ≡ flash_off c.otp
  flash_off-stays (same_rows e) = ap flash_off e
  flash_off-stays (raised_rows x e is left) = flash_off-left x s.rows.items d listed s.rollback left ∙ ap flash_off e

  pub slot_size-stays : RowsLeft c d s → (n : ℕ) → slot_size d.otp n ≡ slot_size c.otp n
  slot_size-stays (same_rows e) n = ap (λ otp. slot_size otp n) e
  slot_size-stays (raised_rows x e is left) n =
      slot_size-left x s.rows.items d listed s.rollback left n ∙ ap (λ otp. slot_size otp n) e

  pub rows-rise : RowsLeft c d s → Rises c.otp d.otp
  rows-rise (same_rows e) = record { bits = λ i k. le-self _ _ (ap (λ otp. bit_at (slice_index otp i) k) (sym e)) }
  rows-rise (raised_rows x e is left) =
      subst (λ otp. Rises otp d.otp) e
      (raises-rise x (image_raises x.otp s) d (image-raises x.otp s.rows.items s.rollback) left)

  pub own-not_below : IfSome s.rollback (λ v. IsRollbackVersion v s.rows.items) → NotBelow c.otp s → RowsLeft c d s
      → NotBelow d.otp s
  own-not_below version not (same_rows e) = subst (λ otp. NotBelow otp s) (sym e) not
  own-not_below version not (raised_rows x e is left) =
      not_below-left x s d is listed version (subst (λ otp. NotBelow otp s) (sym e) not) left

  -- a row that the raises leave alone
  row-stays : RowsLeft c d s → (i : ℕ)
      → ((row bits : ℕ) → Contains (image_raises c.otp s) (Raise row bits) → i ≢ row)
      → slice_index d.otp i ≡ slice_index c.otp i
  row-stays (same_rows e) i none = ap (λ otp. slice_index otp i) e
  row-stays (raised_rows x e is left) i none =
      row-left x (image_raises x.otp s) d i
      (elsewhere-from i (image_raises x.otp s)
      (subst (λ otp. (row bits : ℕ) → Contains (image_raises otp s) (Raise row bits) → i ≢ row) (sym e) none)) left
      ∙ ap (λ otp. slice_index otp i) e

  module _ (left : RowsLeft c d s) (rows : List ℕ)
      (apart : (r row bits : ℕ) → Contains rows r → Contains (image_raises c.otp s) (Raise row bits)
      → IsOutside row r) where
    outside-first : (row r j : ℕ) → j < 3 → IsOutside row r → r + j ≢ row
    outside-first row r j few (inl below) = omega arith
    outside-first row r j few (inr above) = omega arith

    row-kept : (r j : ℕ) → j < 3 → Contains rows r → slice_index d.otp (r + j) ≡ slice_index c.otp (r + j)
    row-kept r j few among =
        row-stays left (r + j) (λ row bits raised. outside-first row r j few (apart r row bits among raised))

    majority-kept : (r : ℕ) → Contains rows r → majority d.otp r ≡ majority c.otp r
    majority-kept r among =
        let zeroth : slice_index d.otp r ≡ slice_index c.otp r =
        (let e : r + 0 ≡ r = omega arith in
        subst (λ i. slice_index d.otp i ≡ slice_index c.otp i) e (row-kept r 0 (omega arith) among)) in
        let first = row-kept r 1 (omega arith) among in
        let second = row-kept r 2 (omega arith) among in
        rw (zeroth, first, second) refl

    counts-from : (ys : List ℕ) → ((r : ℕ) → Contains ys r → Contains rows r) → count d.otp ys ≡ count c.otp ys
    counts-from [] sub = refl
    counts-from (r ∷ ys) sub =
        let here = ap (λ m. count_ones m) (majority-kept r (sub r (0, omega arith, refl))) in
        let later = counts-from ys (λ q among. sub q (Contains-append_right (r ∷ []) ys q among)) in
        sum_by-cons (λ q. count_ones (majority d.otp q)) r ys ∙ ap (λ n. n + count d.otp ys) here
        ∙ ap (λ n. count_ones (majority c.otp r) + n) later
        ∙ sym (sum_by-cons (λ q. count_ones (majority c.otp q)) r ys)

    pub count-kept : count d.otp rows ≡ count c.otp rows
    count-kept = counts-from rows (λ r among. among)

module _ (c : Content) (cpu : Cpu) (choice : Choice) (right : IsContent c) (placed : IsPlacedIn c choice.image.window)
    (others : (w : Window) → choice.other ≡ Some w → IsPlacedIn c w × AreApart choice.image.window w)
    (updated : choice.updated ≡ true) (before : List Step) (confined : Confined before choice.image.window) where
  -- the content before the erase, and that before the raises
  abbrev pub before_erase : Content
  before_erase = after_all c before

  abbrev pub before_raises : Content
  before_raises = after_all before_erase (other_erase c cpu choice)

  -- the whole list
  abbrev pub own_list : List Step
  own_list = before ++ (other_erase c cpu choice ++ image_raises c.otp choice.image)

  first-but : SameButWindow choice.image.window c before_erase
  first-but = confined-after_all c choice.image.window before confined

  window-in : (w : Window) → IsPlacedIn c w → w.start + w.len ≤ length c.flash
  window-in w is = let inside = is.inside in let whole = right.flash_length.whole in omega arith

  -- the erase, done or torn, leaves all but the other window, or there is none
  pub data EraseLeft (d : Content) : Type 0 where
    kept : Keeps c cpu choice → d ≡ before_erase → EraseLeft d
    erased : (e : Erases c cpu choice) → SameButWindow e.window before_erase d
        → MayLeave before_erase (Erase (e.window.start / 4096) ∷ []) d → EraseLeft d

  nothing-left : (d : Content) → MayLeave before_erase [] d → d ≡ before_erase
  nothing-left d (inl done) = done
  nothing-left d (inr cut) = absurd cut

  pub erase-left : (d : Content) → MayLeave before_erase (other_erase c cpu choice) d → EraseLeft d
  erase-left d left = elim (erase-cases c cpu choice updated) [
    | inl k ↦ kept k (nothing-left d (subst (λ steps. MayLeave before_erase steps d) k.none left))
    | inr e ↦
        (let there = subst (λ steps. MayLeave before_erase steps d) e.steps left in
        erased e (confined-MayLeave before_erase e.window (Erase (e.window.start / 4096) ∷ []) d
        (first-confined _ e.window (others e.window e.other).0) there) there)
  ]

  -- what a content that the erase leaves has of c
  record IsBut (d : Content) : Type 0 where
    pub long : length d.flash ≡ length c.flash
    pub bytes : (v : Window) → AreApart choice.image.window v
        → ((w : Window) → choice.other ≡ Some w → AreApart w v) → window_bytes d v ≡ window_bytes c v
    pub rows : d.otp ≡ c.otp

  but-first : (d : Content) → SameButWindow choice.image.window c d → IsBut d
  but-first d same = record {
    long = same.outside.long;
    bytes = λ v apart other. window_bytes-apart c d choice.image.window v same.outside apart;
    rows = same.rows;
  }

  but-erase : (d : Content) → EraseLeft d → IsBut d
  but-erase d (kept k same) = subst IsBut (sym same) (but-first before_erase first-but)
  but-erase d (erased e same left) =
      let first = but-first before_erase first-but in
      record {
        long = same.outside.long ∙ first.long;
        bytes = λ v apart other.
            window_bytes-apart before_erase d e.window v same.outside (other e.window e.other)
            ∙ first.bytes v apart other;
        rows = same.rows ∙ first.rows;
      }

  last-but : IsBut before_raises
  last-but = but-erase before_raises (erase-left before_raises (inl refl))

  pub raises-rows : before_raises.otp ≡ c.otp
  raises-rows = last-but.rows

  -- what the steps before the raises leave is a content
  erase-range : AllByRecursion (IsStepIn (length before_erase.flash)) (other_erase c cpu choice)
  erase-range =
      subst (λ n. AllByRecursion (IsStepIn n) (other_erase c cpu choice)) (sym first-but.outside.long)
      (elim (erase-cases c cpu choice updated) [
        | inl k ↦ subst (λ steps. AllByRecursion (IsStepIn (length c.flash)) steps) (sym k.none) tt
        | inr e ↦
            (let is = (others e.window e.other).0 in
            subst (λ steps. AllByRecursion (IsStepIn (length c.flash)) steps) (sym e.steps)
            (confined-range (length c.flash) e.window (window-in e.window is) (Erase (e.window.start / 4096) ∷ [])
            (first-confined _ e.window is)))
      ])

  pub raises-content : IsContent before_raises
  raises-content =
      IsContent-after_all before_erase (other_erase c cpu choice)
      (IsContent-after_all c before right
      (confined-range (length c.flash) choice.image.window (window-in choice.image.window placed) before confined))
      erase-range

  -- the raises on what the steps before them leave
  pub raises-there : (d : Content) → MayLeave before_raises (image_raises c.otp choice.image) d
      → MayLeave before_raises (image_raises before_raises.otp choice.image) d
  raises-there d left = subst (λ otp. MayLeave before_raises (image_raises otp choice.image) d) (sym raises-rows) left

  pub raises-flash : (d : Content) → MayLeave before_raises (image_raises c.otp choice.image) d
      → d.flash ≡ before_raises.flash
  raises-flash d left =
      flash-left before_raises (image_raises c.otp choice.image) d
      (image-raises c.otp choice.image.rows.items choice.image.rollback) left

  pub raises-bytes : (d : Content) → MayLeave before_raises (image_raises c.otp choice.image) d → (v : Window)
      → window_bytes d v ≡ window_bytes before_raises v
  raises-bytes d left v = ap (λ f. window_bytes (record { flash = f; otp = d.otp }) v) (raises-flash d left)

  pub left-raises : (d : Content) → MayLeave before_raises (image_raises c.otp choice.image) d → IsLeft c choice d
  left-raises d left = record {
    long = ap (λ f. length f) (raises-flash d left) ∙ last-but.long;
    bytes = λ v apart other. raises-bytes d left v ∙ last-but.bytes v apart other;
    rows = raised_rows before_raises raises-rows raises-content (raises-there d left);
  }

  left-but : (d : Content) → IsBut d → IsLeft c choice d
  left-but d but = record { long = but.long; bytes = but.bytes; rows = same_rows but.rows }

  -- what the whole list leaves
  pub own-left : (d : Content) → MayLeave c own_list d → IsLeft c choice d
  own-left d left =
      elim (left-parts c before (other_erase c cpu choice ++ image_raises c.otp choice.image) d left) [
        | inl first ↦ left-but d (but-first d (confined-CutOf c choice.image.window before d confined first))
        | inr rest ↦
            elim (left-parts before_erase (other_erase c cpu choice) (image_raises c.otp choice.image) d rest) [
              | inl second ↦ left-but d (but-erase d (erase-left d (inr second)))
              | inr third ↦ left-raises d third
            ]
      ]
