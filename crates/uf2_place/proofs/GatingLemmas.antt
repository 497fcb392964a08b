-- A download into a gated target whose pages lie in its window has gated steps.
use Rattle.std.proofs.Common.{◌≡◌, ◌≢◌, ℕ, zero, suc, ◌+◌, ◌*◌, ◌<◌, ◌≤◌, Bool, true, false, nat_eq, if◌then◌else◌, Option, None, Some, List, [], ◌∷◌, ◌++◌, arith, refl, inl, inr}
use Rattle.std.specs.List.{AllByRecursion, IsDistinct, flat_map, list_any, range_with_len}
use Rattle.std.proofs.lemmas.Bool.Decides.{nat_tests}
use Rattle.std.proofs.lemmas.Bool.{cases_lt}
use Rattle.pico_board.proofs.GateLemmas.{IsDistinct-more, IsDistinct-none}
use Rattle.pico_board.specs.declared.Step.{Step}
use Rattle.pico_board.specs.declared.Step.TheVariants.{Erase, Program}
use Rattle.pico_board.specs.declared.Window.{Window}
use Rattle.pico_board.specs.Sessions.{Confined, Gated, IsConfined, IsElsewhere, IsProgramIn, pages_of}
use Rattle.part_table.specs.declared.Target.{Target}
use Rattle.uf2_place.specs.declared.block.Uf2.{Uf2}
use Rattle.uf2_place.specs.Placement.{AreBlocks, HasWholeSectors, IsPageInside, final_steps, first_in, fresh_steps, gated_steps, in_turn, is_whole_download, later_steps, lies_in, own_steps, page_in, download_steps, program_of, programs_in, sector_in}
use Rattle.uf2_place.proofs.DistinctLemmas.{all-append}

-- the steps of all blocks have what those of each have
pub all-in_turn : (P : Step → Type 0) (Q : Uf2 → Type 0) (steps : List Uf2 → Uf2 → List Step)
    → ((before : List Uf2) (b : Uf2) → Q b → AllByRecursion P (steps before b))
    → (before bs : List Uf2) → AllByRecursion Q bs → AllByRecursion P (in_turn steps before bs)
all-in_turn P Q steps each before [] all = tt
all-in_turn P Q steps each before (b ∷ bs) all =
    all-append P (steps before b) (in_turn steps (before ++ b ∷ []) bs) (each before b all.0)
    (all-in_turn P Q steps each (before ++ b ∷ []) bs all.1)

fresh-all : (P : Step → Type 0) (erased : Bool) (sector page : ℕ) (bytes : List ℕ) → P (Erase sector)
    → P (Program page bytes)
    → AllByRecursion P (fresh_steps erased sector page bytes)
fresh-all P true sector page bytes erase program = (program, tt)
fresh-all P false sector page bytes erase program = (erase, (program, tt))

-- a block's own steps lie in the window
own-confined : (w : Window) (before : List Uf2) (b : Uf2) → HasWholeSectors w → IsPageInside w b
    → Confined (own_steps w before b) w
own-confined w before b whole inside =
    let start = whole.start in
    let len = whole.len in
    let below = inside.below in
    fresh-all (IsConfined w) (list_any (lies_in w (sector_in w b)) before) (sector_in w b) (page_in w b) b.page
    (omega arith, omega arith) (omega arith, omega arith)

-- the steps of a block whose page lies in another sector
own-elsewhere : (w : Window) (before : List Uf2) (b : Uf2) → sector_in w b ≢ first_in w
    → AllByRecursion (IsElsewhere (first_in w)) (own_steps w before b)
own-elsewhere w before b other =
    fresh-all (IsElsewhere (first_in w)) (list_any (lies_in w (sector_in w b)) before) (sector_in w b)
    (page_in w b) b.page
    other (elim (cases_lt (sector_in w b) (first_in w)) [
      | inl low ↦ inl (omega (arith, low))
      | inr high ↦ inr (omega
          (arith, high, other))
    ])

later-all : (P : Step → Type 0) (w : Window) (before : List Uf2) (b : Uf2)
    → (sector_in w b ≢ first_in w → AllByRecursion P (own_steps w before b)) → AllByRecursion P (later_steps w before b)
later-all P w before b own = by (lies_in w (first_in w) b) refl
  where
    by : (here : Bool) → lies_in w (first_in w) b ≡ here → AllByRecursion P (if here then [] else own_steps w before b)
    by true is = tt
    by false is = own (λ same. grind (arith, nat_tests, is, same))

-- programs of the pages of a sector, from page number a of it on
programs-from : (s a n : ℕ) (f : ℕ → Option (List ℕ)) (P : Step → Type 0)
    → ((i : ℕ) (bytes : List ℕ) → a ≤ i → i < a + n → P (Program (16 * s + i) bytes))
    → AllByRecursion P (flat_map (λ i. program_of (16 * s + i) (f i)) (range_with_len a n))
programs-from s a zero f P each = tt
programs-from s a (suc n) f P each =
    all-append P (program_of (16 * s + a) (f a)) (flat_map (λ i. program_of (16 * s + i) (f i)) (range_with_len
    (a + 1) n))
    (here (f a)) (programs-from s (a + 1) n f P (λ i bytes low high. each i bytes (omega (arith, low)) (omega
    (arith, high))))
  where
    here : (o : Option (List ℕ)) → AllByRecursion P (program_of (16 * s + a) o)
    here None = tt
    here (Some bytes) = (each a bytes (omega arith) (omega arith), tt)

pub programs-all : (s : ℕ) (f : ℕ → Option (List ℕ)) (P : Step → Type 0)
    → ((i : ℕ) (bytes : List ℕ) → i < 16 → P (Program (16 * s + i) bytes)) → AllByRecursion P (programs_in s f)
unfolding programs_in
programs-all s f P each = programs-from s 0 16 f P (λ i bytes low high. each i bytes (omega (arith, high)))

-- n programs of the pages of a sector, from page number a of it on
abbrev pub programs_above : (s a n : ℕ) → (ℕ → Option (List ℕ)) → List Step
programs_above s a n f = flat_map (λ i. program_of (16 * s + i) (f i)) (range_with_len a n)

pages-above : (s a n x : ℕ) (f : ℕ → Option (List ℕ)) → x < 16 * s + a
    → AllByRecursion (λ y. nat_eq x y ≡ false) (pages_of (flat_map (λ i. program_of (16 * s + i) (f i))
    (range_with_len a n)))
pages-above s a zero x f low = tt
pages-above s a (suc n) x f low = by (f a) (pages-above s (a + 1) n x f (omega (arith, low)))
  where
    by : (o : Option (List ℕ)) → AllByRecursion (λ y. nat_eq x y ≡ false) (pages_of (programs_above s (a + 1) n f))
        → AllByRecursion (λ y. nat_eq x y ≡ false) (pages_of (program_of (16 * s + a) o ++ programs_above s
        (a + 1) n f))
    by None rest = rest
    by (Some bytes) rest = (grind (arith, nat_tests, low), rest)

pages-distinct : (s a n : ℕ) (f : ℕ → Option (List ℕ))
    → IsDistinct nat_eq (pages_of (flat_map (λ i. program_of (16 * s + i) (f i)) (range_with_len a n)))
pages-distinct s a zero f = IsDistinct-none
pages-distinct s a (suc n) f =
    by (f a) (pages-above s (a + 1) n (16 * s + a) f (omega arith)) (pages-distinct s (a + 1) n f)
  where
    by : (o : Option (List ℕ)) → AllByRecursion (λ y. nat_eq (16 * s + a) y
        ≡ false) (pages_of (programs_above s (a + 1) n f))
        → IsDistinct nat_eq (pages_of (programs_above s (a + 1) n f))
        → IsDistinct nat_eq (pages_of (program_of (16 * s + a) o ++ programs_above s (a + 1) n f))
    by None differ distinct = distinct
    by (Some bytes) differ distinct = IsDistinct-more (16 * s + a) (pages_of (programs_above s
        (a + 1) n f)) differ distinct

pub programs-distinct : (s : ℕ) (f : ℕ → Option (List ℕ)) → IsDistinct nat_eq (pages_of (programs_in s f))
unfolding programs_in
programs-distinct s f = pages-distinct s 0 16 f

final-program : (w : Window) (i : ℕ) (bytes : List ℕ) → HasWholeSectors w → i < 16
    → IsConfined w (Program (16 * first_in w + i) bytes)
final-program w i bytes whole low =
    let start = whole.start in
    let some = whole.some in
    (omega arith, omega arith)

-- the last part, where it is there
module _ (t : Target) (blocks : List Uf2) (is : HasWholeSectors t.window) where
  abbrev last : Bool → List Step
  last there = if there then final_steps t.window blocks else []

  last-confined : (there : Bool) → Confined (last there) t.window
  last-confined true =
      programs-all (first_in t.window) _ (IsConfined t.window) (λ i bytes low. final-program t.window i bytes is low)
  last-confined false = tt

  last-final : (there : Bool) → AllByRecursion (IsProgramIn (first_in t.window)) (last there)
  last-final true =
      programs-all (first_in t.window) _ (IsProgramIn (first_in t.window)) (λ i bytes low. (
        omega arith,
        omega
            (arith, low),
      ))
  last-final false = tt

  last-distinct : (there : Bool) → IsDistinct nat_eq (pages_of (last there))
  last-distinct true = programs-distinct (first_in t.window) _
  last-distinct false = IsDistinct-none

  pub gated-steps : AllByRecursion (IsPageInside t.window) blocks → Gated (gated_steps t.window blocks) t.window
  gated-steps inside =
      let start = is.start in
      let some = is.some in
      let len = is.len in
      let w = t.window in
      let elsewhere = in_turn (later_steps w) [] blocks in
      inr (
        first_in w,
        elsewhere,
        last (is_whole_download blocks),
        record {
          whole = refl;
          first = omega arith;
          confined = (
            (omega arith, omega arith),
            all-append (IsConfined w) elsewhere (last (is_whole_download blocks))
                (all-in_turn (IsConfined w) (IsPageInside w) (later_steps w)
                (λ before b here. later-all (IsConfined w) w before b
                (λ other. own-confined w before b is here)) [] blocks inside)
                (last-confined (is_whole_download blocks)),
          );
          apart = all-in_turn (IsElsewhere (first_in w)) (IsPageInside w) (later_steps w)
              (λ before b here. later-all (IsElsewhere (first_in w)) w before b
              (own-elsewhere w before b)) [] blocks inside;
          final = last-final (is_whole_download blocks);
          distinct = last-distinct (is_whole_download blocks);
        },
      )

pub gated-download : (t : Target) (family count : ℕ) (blocks : List Uf2) → t.gated ≡ true
    → AreBlocks t family count blocks → AllByRecursion (IsPageInside t.window) blocks
    → Gated (download_steps t blocks) t.window
gated-download t family count [] gated are inside = inl refl
gated-download t family count (b ∷ bs) gated are inside = rw gated (gated-steps t (b ∷ bs) are.window inside)
