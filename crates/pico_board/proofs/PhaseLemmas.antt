-- The phases of a gated list: what the loss of power leaves in its erase, elsewhere, and in its last programs.
use Rattle.std.proofs.Common.{◌≡◌, ◌≢◌, ◌⊎◌, ℕ, zero, suc, ◌+◌, ◌-◌, ◌*◌, ◌<◌, ◌≤◌, Bool, true, false, nat_eq, List, [], ◌∷◌, ◌++◌, length, get_or, slice_index, bit_and, refl, sym, ◌∙◌, ap, subst, inl, inr, arith}
use Rattle.std.specs.List.{AllByRecursion, IsDistinct}
use Rattle.std.specs.Str.{bytes_eq}
use Rattle.std.proofs.lemmas.Slice.Eq.{bytes_eq-Decides}
use Rattle.std.proofs.lemmas.Bool.{cases_lt, cases_eq}
use Rattle.std.proofs.lemmas.Bool.Decides.{nat_tests}
use Rattle.pico_board.specs.declared.window.Window.{Window}
use Rattle.pico_board.specs.Content.{Content}
use Rattle.pico_board.specs.Steps.{Step, Erase, Program, Raise, IsBetween, SameOutside, Torn, TornErase, TornProgram, CutOf, after, after_all}
use Rattle.pico_board.specs.Sessions.{Confined, IsBlank, IsBlankPage, IsClosing, IsElsewhere, IsGated, IsPageOf, IsPartial, IsProgramIn, IsSamePage, Unfinished, pages_of}
use Rattle.pico_board.proofs.ChangedLemmas.{changed-at, changed-outside}
use Rattle.pico_board.proofs.ConfinementLemmas.{SameOutside-back, SameOutside-then, confined-after_all, confined-CutOf}
use Rattle.pico_board.proofs.GateLemmas.{AllByRecursion-left, EndsInFirst, EndsInSecond, IsDistinct-first, prefix_cases, IsDistinct-rest}
use Rattle.pico_board.proofs.StepLemmas.{CutOf-append_cases, after_all-append}

-- sector s has the same bytes in both
abbrev pub IsSameSector : ℕ → Content → Content → Type 0
IsSameSector s c d = (i : ℕ) → i < 4096 → slice_index d.flash (4096 * s + i) ≡ slice_index c.flash (4096 * s + i)

-- the erase of a sector of the flash makes it blank
pub IsBlank-erase : (c : Content) (s : ℕ) → 4096 * s + 4096 ≤ length c.flash → IsBlank s (after c (Erase s))
IsBlank-erase c s inside i lt = changed-at (λ i b. 255) (4096 * s) 4096 c.flash i lt (omega arith)

-- where a sector or a page lies, seen from another
sector_apart : (s t i : ℕ) → t ≢ s → i < 4096 → (4096 * s + i < 4096 * t) ⊎ (4096 * t + 4096 ≤ 4096 * s + i)
sector_apart s t i ne lt = elim (cases_lt s t) [ inl below ↦ inl (omega arith) | inr above ↦ inr (omega arith) ]

page_apart : (p q i : ℕ) → q ≢ p → i < 256 → (256 * q + i < 256 * p) ⊎ (256 * p + 256 ≤ 256 * q + i)
page_apart p q i ne lt = elim (cases_lt q p) [ inl below ↦ inl (omega arith) | inr above ↦ inr (omega arith) ]

page_from_sector : (s p i : ℕ) → (256 * p + 256 ≤ 4096 * s) ⊎ (4096 * s + 4096 ≤ 256 * p) → i < 4096
    → (4096 * s + i < 256 * p) ⊎ (256 * p + 256 ≤ 4096 * s + i)
page_from_sector s p i (inl below) lt = inr (omega arith)
page_from_sector s p i (inr above) lt = inl (omega arith)

outside_of : (at n : ℕ) (xs ys : List ℕ) (i : ℕ) → SameOutside at n xs ys → (i < at) ⊎ (at + n ≤ i)
    → get_or ys i 0 ≡ get_or xs i 0
outside_of at n xs ys i same (inl below) = same.below i below
outside_of at n xs ys i same (inr above) = same.above i above

-- a step elsewhere, done or torn, keeps the sector
pub elsewhere-after : (c : Content) (s : ℕ) (step : Step) → IsElsewhere s step → IsSameSector s c (after c step)
elsewhere-after c s (Erase t) ne i lt =
    changed-outside (λ i b. 255) (4096 * t) 4096 c.flash (4096 * s + i) (sector_apart s t i ne lt)
elsewhere-after c s (Program p d) away i lt =
    changed-outside (λ i b. bit_and b (slice_index d i)) (256 * p) 256 c.flash (4096 * s + i)
    (page_from_sector s p i away lt)
elsewhere-after c s (Raise r b) never i lt = absurd never

pub elsewhere-torn : (c : Content) (s : ℕ) (step : Step) (d : Content) → IsElsewhere s step → Torn c step d
    → IsSameSector s c d
elsewhere-torn c s (Erase t) d ne torn i lt =
    outside_of (4096 * t) 4096 c.flash d.flash (4096 * s + i) torn.outside (sector_apart s t i ne lt)
elsewhere-torn c s (Program p bytes) d away torn i lt =
    outside_of (256 * p) 256 c.flash d.flash (4096 * s + i) torn.outside (page_from_sector s p i away lt)
elsewhere-torn c s (Raise r b) d never torn i lt = absurd never

pub elsewhere-after_all : (c : Content) (s : ℕ) (steps : List Step) → AllByRecursion (IsElsewhere s) steps
    → IsSameSector s c (after_all c steps)
elsewhere-after_all c s [] all i lt = refl
elsewhere-after_all c s (step ∷ steps) all i lt = elsewhere-after_all (after c step) s steps all.1 i lt
    ∙ elsewhere-after c s step all.0 i lt

pub elsewhere-CutOf : (c : Content) (s : ℕ) (steps : List Step) (d : Content) → AllByRecursion (IsElsewhere s) steps
    → CutOf c steps d → IsSameSector s c d
elsewhere-CutOf c s [] d all cut i lt = absurd cut
elsewhere-CutOf c s (step ∷ steps) d all (inl torn) i lt = elsewhere-torn c s step d all.0 torn i lt
elsewhere-CutOf c s (step ∷ steps) d all (inr later) i lt = elsewhere-CutOf (after c step) s steps d all.1 later i lt
    ∙ elsewhere-after c s step all.0 i lt

-- a blank sector that is kept is blank
pub IsBlank-kept : (s : ℕ) (c d : Content) → IsBlank s c → IsSameSector s c d → IsBlank s d
IsBlank-kept s c d blank same i lt = same i lt ∙ blank i lt

-- a program keeps each other page
program-other : (e : Content) (p q : ℕ) (bytes : List ℕ) → q ≢ p → IsSamePage q e (after e (Program p bytes))
program-other e p q bytes ne i lt =
    changed-outside (λ i b. bit_and b (slice_index bytes i)) (256 * p) 256 e.flash (256 * q + i)
    (page_apart p q i ne lt)

torn-other : (e : Content) (p q : ℕ) (bytes : List ℕ) (d : Content) → TornProgram e p bytes d → q ≢ p → IsSamePage q e d
torn-other e p q bytes d torn ne i lt =
    outside_of (256 * p) 256 e.flash d.flash (256 * q + i) torn.outside (page_apart p q i ne lt)

-- programs of other pages keep a page
untouched : (s : ℕ) (e : Content) (last : List Step) (q : ℕ) → AllByRecursion (IsProgramIn s) last
    → AllByRecursion (λ y. nat_eq q y ≡ false) (pages_of last)
    → IsSamePage q e (after_all e last)
untouched s e [] q all away i lt = refl
untouched s e (Erase t ∷ last) q all away i lt = absurd all.0
untouched s e (Program p bytes ∷ last) q all away i lt =
    let ne : q ≢ p = grind (arith, nat_tests) in
    untouched s (after e (Program p bytes)) last q all.1 away.1 i lt ∙ program-other e p q bytes ne i lt
untouched s e (Raise r b ∷ last) q all away i lt = absurd all.0

-- power was lost in a program of page p: each other page is that of e or that after all programs, and page p lies
-- between
record IsCutIn (s : ℕ) (e : Content) (last : List Step) (p : ℕ) (d : Content) : Type 0 where
  page : IsPageOf s p
  member : (x : ℕ) → AllByRecursion (λ y. nat_eq x y ≡ false) (pages_of last) → x ≢ p
  others : (q : ℕ) → q ≢ p → IsSamePage q e d ⊎ IsSamePage q (after_all e last) d
  between : (i : ℕ) → i < 256 → IsBetween (slice_index e.flash (256 * p + i))
      (slice_index (after_all e last).flash (256 * p + i)) (slice_index d.flash (256 * p + i))

IsCutIn-from : (s : ℕ) (e : Content) (last : List Step) (d : Content) → AllByRecursion (IsProgramIn s) last
    → IsDistinct nat_eq (pages_of last) → CutOf e last d
    → (p : ℕ) × IsCutIn s e last p d
IsCutIn-from s e [] d all distinct cut = absurd cut
IsCutIn-from s e (Erase t ∷ last) d all distinct cut = absurd all.0
IsCutIn-from s e (Program p bytes ∷ last) d all distinct (inl torn) = (
  p,
  record {
    page = all.0;
    member = λ x away. grind (arith, nat_tests);
    others = λ q ne. inl (torn-other e p q bytes d torn ne);
    between = λ i lt.
        subst (λ (b : ℕ). IsBetween (slice_index e.flash (256 * p + i)) b (slice_index d.flash (256 * p + i)))
        (sym (untouched s (after e (Program p bytes)) last p all.1 (IsDistinct-first p (pages_of last) distinct) i lt))
        (torn.between i lt);
  },
)
IsCutIn-from s e (Program p0 bytes ∷ last) d all distinct (inr later) =
    let e' = after e (Program p0 bytes) in
    let found = IsCutIn-from s e' last d all.1 (IsDistinct-rest p0 (pages_of last) distinct) later in
    let p = found.0 in
    let is = found.1 in
    let ne : p ≢ p0 = λ h. is.member p0 (IsDistinct-first p0 (pages_of last) distinct) (sym h) in (
      p,
      record {
        page = is.page;
        member = λ x away. is.member x away.1;
        others = λ q other. elim (is.others q other) [
          | inl kept ↦ others_kept q kept
          | inr done ↦ inr done
        ];
        between = λ i lt.
            subst (λ (b : ℕ). IsBetween b (slice_index (after_all e' last).flash (256 * p + i))
            (slice_index d.flash (256 * p + i)))
            (program-other e p0 p bytes ne i lt) (is.between i lt);
      },
    )
  where
    others_kept : (q : ℕ) → IsSamePage q (after e (Program p0 bytes)) d
        → IsSamePage q e d ⊎ IsSamePage q (after_all (after e (Program p0 bytes)) last) d
    others_kept q kept = elim (cases_eq q p0) [
      | inl same ↦ inr (λ i lt. kept i lt ∙ sym (untouched s (after e (Program p0 bytes)) last q all.1
          (subst (λ (x : ℕ). AllByRecursion (λ y. nat_eq x y ≡ false) (pages_of last)) (sym same)
          (IsDistinct-first p0 (pages_of last) distinct)) i lt))
      | inr other ↦ inl (λ i lt. kept i lt ∙ program-other e p0 q bytes other i lt)
    ]
IsCutIn-from s e (Raise r b ∷ last) d all distinct cut = absurd all.0

-- programs of a sector are confined to it
Confined-sector : (s : ℕ) (last : List Step) → AllByRecursion (IsProgramIn s) last
    → Confined last (record { start = 4096 * s; len = 4096 })
Confined-sector s [] all = tt
Confined-sector s (Erase t ∷ last) all = absurd all.0
Confined-sector s (Program p bytes ∷ last) all = (all.0, Confined-sector s last all.1)
Confined-sector s (Raise r b ∷ last) all = absurd all.0

-- a page of a blank sector is blank
blank_page : (s q : ℕ) (e d : Content) → IsBlank s e → IsPageOf s q → IsSamePage q e d → IsBlankPage q d
blank_page s q e d blank inside same i lt =
    same i lt ∙ (ap (λ (j : ℕ). slice_index e.flash j) (omega arith) ∙ blank (256 * q + i - 4096 * s) (omega arith))

blank_byte : (s p : ℕ) (e : Content) → IsBlank s e → IsPageOf s p → (i : ℕ) → i < 256
    → slice_index e.flash (256 * p + i) ≡ 255
blank_byte s p e blank inside i lt = ap (λ (j : ℕ). slice_index e.flash j) (omega arith)
    ∙ blank (256 * p + i - 4096 * s) (omega arith)

-- power was lost in the last programs, which began with a blank sector
pub IsClosing-from : (s : ℕ) (e : Content) (last : List Step) (d : Content) → IsBlank s e
    → AllByRecursion (IsProgramIn s) last
    → IsDistinct nat_eq (pages_of last) → CutOf e last d → (p : ℕ) × IsClosing (after_all e last) s p d
IsClosing-from s e last d blank all distinct cut =
    let confined : Confined last (record { start = 4096 * s; len = 4096 }) = Confined-sector s last all in
    let whole = confined-after_all e (record { start = 4096 * s; len = 4096 }) last confined in
    let part = confined-CutOf e (record { start = 4096 * s; len = 4096 }) last d confined cut in
    let found = IsCutIn-from s e last d all distinct cut in
    let p = found.0 in
    let is = found.1 in (
      p,
      record {
        same = record {
          outside = SameOutside-then (SameOutside-back whole.outside) part.outside;
          rows = part.rows ∙ sym whole.rows;
        };
        page = is.page;
        others = λ q inside ne. elim (is.others q ne) [
          | inl kept ↦ inl (blank_page s q e d blank inside kept)
          | inr done ↦ inr done
        ];
        between = λ i lt.
            subst (λ (b : ℕ). IsBetween b (slice_index (after_all e last).flash (256 * p + i))
            (slice_index d.flash (256 * p + i)))
            (blank_byte s p e blank is.page i lt) (is.between i lt);
      },
    )

-- each page after some of the programs is as before them all or as after them all
page_in_part : (s : ℕ) (e : Content) (xs ys : List Step) (q : ℕ) → AllByRecursion (IsProgramIn s) (xs ++ ys)
    → IsDistinct nat_eq (pages_of (xs ++ ys))
    → IsSamePage q e (after_all e xs) ⊎ IsSamePage q (after_all e (xs ++ ys)) (after_all e xs)
page_in_part s e [] ys q all distinct = inl (λ i lt. refl)
page_in_part s e (Erase t ∷ xs) ys q all distinct = absurd all.0
page_in_part s e (Program p bytes ∷ xs) ys q all distinct =
    elim (page_in_part s (after e (Program p bytes)) xs ys q all.1 (IsDistinct-rest p (pages_of (xs ++ ys)) distinct)) [
      | inl kept ↦ elim (cases_eq q p) [
        | inl same ↦ inr (λ i lt. kept i lt ∙ sym (untouched s (after e (Program p bytes)) (xs ++ ys) q all.1
            (subst (λ (x : ℕ). AllByRecursion (λ y. nat_eq x y ≡ false) (pages_of (xs ++ ys))) (sym same)
            (IsDistinct-first p (pages_of (xs ++ ys)) distinct)) i lt))
        | inr other ↦ inl (λ i lt. kept i lt ∙ program-other e p q bytes other i lt)
      ]
      | inr done ↦ inr done
    ]
page_in_part s e (Raise r b ∷ xs) ys q all distinct = absurd all.0

-- the last programs are done in part
pub IsPartial-from : (s : ℕ) (e : Content) (xs ys : List Step) → IsBlank s e → AllByRecursion (IsProgramIn s) (xs ++ ys)
    → IsDistinct nat_eq (pages_of (xs ++ ys)) → IsPartial (after_all e (xs ++ ys)) s (after_all e xs)
IsPartial-from s e xs ys blank all distinct =
    let whole = confined-after_all e (record { start = 4096 * s; len = 4096 }) (xs ++ ys)
    (Confined-sector s (xs ++ ys) all) in
    let part = confined-after_all e (record { start = 4096 * s; len = 4096 }) xs
    (Confined-sector s xs (AllByRecursion-left (IsProgramIn s) xs ys all)) in
    record {
      same = record {
        outside = SameOutside-then (SameOutside-back whole.outside) part.outside;
        rows = part.rows ∙ sym whole.rows;
      };
      pages = λ q inside. elim (page_in_part s e xs ys q all distinct) [
        | inl kept ↦ inl (blank_page s q e (after_all e xs) blank inside kept)
        | inr done ↦ inr done
      ];
    }

-- the content after the erase and the steps elsewhere, and that its first sector is blank
pub blank_elsewhere : (c : Content) (s : ℕ) (elsewhere : List Step) → 4096 * s + 4096 ≤ length c.flash
    → AllByRecursion (IsElsewhere s) elsewhere
    → IsBlank s (after_all (after c (Erase s)) elsewhere)
blank_elsewhere c s elsewhere inside apart =
    IsBlank-kept s (after c (Erase s)) (after_all (after c (Erase s)) elsewhere) (IsBlank-erase c s inside)
    (elsewhere-after_all (after c (Erase s)) s elsewhere apart)

-- the first sector of a gated list lies in the flash where the window does
pub first_inside : (c : Content) (steps : List Step) (w : Window) (s : ℕ) (elsewhere last : List Step)
    → IsGated steps w s elsewhere last
    → w.start + w.len ≤ length c.flash → 4096 * s + 4096 ≤ length c.flash
first_inside c steps w s elsewhere last gated inside =
    let confined : Confined (Erase s ∷ (elsewhere ++ last)) w =
    subst (λ (xs : List Step). Confined xs w) gated.whole gated.confined in
    omega (arith, confined.0.1, inside)

-- what the loss of power in a gated list leaves: its first sector torn and all else as before, or its first sector
-- blank, or the finished content but for some pages of the first sector
pub phase : (c : Content) (steps : List Step) (w : Window) (s : ℕ) (elsewhere last : List Step) (d : Content)
    → IsGated steps w s elsewhere last
    → w.start + w.len ≤ length c.flash → CutOf c steps d
    → TornErase c s d ⊎ (IsBlank s d ⊎ ((p : ℕ) × IsClosing (after_all c steps) s p d))
phase c steps w s elsewhere last d gated inside cut = choose (subst (λ (xs : List Step). CutOf c xs d) gated.whole cut)
  where
    e : Content
    e = after_all (after c (Erase s)) elsewhere

    within : 4096 * s + 4096 ≤ length c.flash
    within = first_inside c steps w s elsewhere last gated inside

    finished : after_all (after_all (after c (Erase s)) elsewhere) last ≡ after_all c steps
    finished = sym (ap (λ (xs : List Step). after_all c xs) gated.whole
        ∙ after_all-append (after c (Erase s)) elsewhere last)

    choose : CutOf c (Erase s ∷ (elsewhere ++ last)) d
        → TornErase c s d ⊎ (IsBlank s d ⊎ ((p : ℕ) × IsClosing (after_all c steps) s p d))
    choose (inl torn) = inl torn
    choose (inr later) = inr (elim (CutOf-append_cases (after c (Erase s)) elsewhere last d later) [
      | inl middle ↦ inl (IsBlank-kept s (after c (Erase s)) d (IsBlank-erase c s within)
          (elsewhere-CutOf (after c (Erase s)) s elsewhere d gated.apart middle))
      | inr end ↦ inr (let found = IsClosing-from s (after_all (after c (Erase s)) elsewhere) last d
          (blank_elsewhere c s elsewhere within gated.apart) gated.final gated.distinct end in
          (found.0, subst (λ (z : Content). IsClosing z s found.0 d) finished found.1))
    ])

-- an unfinished content has power lost in the first erase or in the last programs
pub unfinished_phase : (c : Content) (steps : List Step) (w : Window) (s : ℕ) (elsewhere last : List Step)
    (d : Content) → IsGated steps w s elsewhere last
    → w.start + w.len ≤ length c.flash → CutOf c steps d → Unfinished c steps w d
    → TornErase c s d ⊎ ((p : ℕ) × IsClosing (after_all c steps) s p d)
unfinished_phase c steps w s elsewhere last d gated inside cut unfinished =
    elim (phase c steps w s elsewhere last d gated inside cut) [
      | inl torn ↦ inl torn
      | inr rest ↦ elim rest [
        | inl blank ↦ absurd (unfinished.touched.2
            (ap (λ (n : ℕ). slice_index d.flash (n + unfinished.touched.0)) (sym gated.first)
            ∙ blank unfinished.touched.0 unfinished.touched.1))
        | inr closing ↦ inr closing
      ]
    ]

-- what a prefix of a gated list leaves: the content before it, or its first sector blank, or the finished content but
-- for some pages of the first sector that are 0xff
pub prefix_phase : (c : Content) (steps : List Step) (w : Window) (s : ℕ) (elsewhere last xs ys : List Step)
    → IsGated steps w s elsewhere last
    → w.start + w.len ≤ length c.flash → steps ≡ xs ++ ys
    → (xs ≡ []) ⊎ (IsBlank s (after_all c xs) ⊎ IsPartial (after_all c steps) s (after_all c xs))
prefix_phase c steps w s elsewhere last [] ys gated inside same = inl refl
prefix_phase c steps w s elsewhere last (x ∷ xs) ys gated inside same =
    inr (choose (prefix_cases xs ys elsewhere last tail))
  where
    both : x ∷ (xs ++ ys) ≡ Erase s ∷ (elsewhere ++ last)
    both = sym same ∙ gated.whole

    head : Erase s ≡ x
    head = cc

    tail : xs ++ ys ≡ elsewhere ++ last
    tail = cc

    within : 4096 * s + 4096 ≤ length c.flash
    within = first_inside c steps w s elsewhere last gated inside

    e : Content
    e = after_all (after c (Erase s)) elsewhere

    finished : after_all (after_all (after c (Erase s)) elsewhere) last ≡ after_all c steps
    finished = sym (ap (λ (zs : List Step). after_all c zs) gated.whole
        ∙ after_all-append (after c (Erase s)) elsewhere last)

    moved : (zs : List Step) → zs ≡ xs → after_all (after c (Erase s)) zs ≡ after_all c (x ∷ xs)
    moved zs h = ap (λ (y : Step). after_all (after c y) zs) head ∙ ap (λ (vs : List Step). after_all (after c x) vs) h

    choose : EndsInFirst xs elsewhere ⊎ EndsInSecond xs elsewhere last
        → IsBlank s (after_all c (x ∷ xs)) ⊎ IsPartial (after_all c steps) s (after_all c (x ∷ xs))
    choose (inl first) =
        inl (subst (IsBlank s) (moved xs refl)
        (blank_elsewhere c s xs within
        (AllByRecursion-left (IsElsewhere s) xs first.rest
        (subst (AllByRecursion (IsElsewhere s)) first.whole gated.apart))))
    choose (inr second) =
        inr (let part = IsPartial-from s (after_all (after c (Erase s)) elsewhere) second.part second.rest
        (blank_elsewhere c s elsewhere within gated.apart)
        (subst (AllByRecursion (IsProgramIn s)) second.back gated.final)
        (subst (λ (vs : List Step). IsDistinct nat_eq (pages_of vs)) second.back gated.distinct) in
        let whole : after_all (after_all (after c (Erase s)) elsewhere) (second.part ++ second.rest)
        ≡ after_all c steps =
        ap (λ (vs : List Step). after_all (after_all (after c (Erase s)) elsewhere) vs) (sym second.back) ∙ finished in
        let here : after_all (after_all (after c (Erase s)) elsewhere) second.part ≡ after_all c (x ∷ xs) =
        sym (after_all-append (after c (Erase s)) elsewhere second.part)
        ∙ moved (elsewhere ++ second.part) (sym second.front) in
        subst (λ (z : Content). IsPartial z s (after_all c (x ∷ xs))) whole
        (subst (IsPartial (after_all (after_all (after c (Erase s)) elsewhere) (second.part ++ second.rest)) s)
        here part))

-- whether two contents are equal
same_lists_or : (xs ys : List ℕ) → (xs ≡ ys) ⊎ (xs ≢ ys)
same_lists_or xs ys = choose (bytes_eq xs ys) refl
  where
    choose : (b : Bool) → bytes_eq xs ys ≡ b → (xs ≡ ys) ⊎ (xs ≢ ys)
    choose true e = inl ((bytes_eq-Decides xs ys).0 e)
    choose false e = inr (λ h. let t : bytes_eq xs ys ≡ true = (bytes_eq-Decides xs ys).1 h in cc)

pub same_contents_or : (c d : Content) → (d ≡ c) ⊎ (d ≢ c)
same_contents_or c d = elim (same_lists_or d.flash c.flash) [
  | inl flash ↦ elim (same_lists_or d.otp c.otp) [
    | inl otp ↦ inl (ap (λ (xs : List ℕ). record { flash = xs; otp = d.otp }) flash
        ∙ ap (λ (xs : List ℕ). record { flash = c.flash; otp = xs }) otp)
    | inr differ ↦ inr (λ h. differ (ap (λ (e : Content). e.otp) h))
  ]
  | inr differ ↦ inr (λ h. differ (ap (λ (e : Content). e.flash) h))
]

-- the first bytes are 0xff, or one of them is not
record IsTouched (xs : List ℕ) (at n : ℕ) : Type 0 where
  place : ℕ
  inside : place < n
  byte : get_or xs (at + place) 0 ≢ 255

blank_or_touched : (xs : List ℕ) (at n : ℕ) → ((i : ℕ) → i < n → get_or xs (at + i) 0 ≡ 255) ⊎ IsTouched xs at n
blank_or_touched xs at zero = inl (λ i lt. absurd (omega arith))
blank_or_touched xs at (suc n) = elim (blank_or_touched xs at n) [
  | inl blank ↦ elim (cases_eq (get_or xs (at + n) 0) 255) [
    | inl last ↦ inl (λ i lt. elim (cases_lt i n) [
      | inl below ↦ blank i below
      | inr here ↦ let e : n ≡ i = omega arith in subst (λ (j : ℕ). get_or xs (at + j) 0 ≡ 255) e last
    ])
    | inr other ↦ inr (record { place = n; inside = omega arith; byte = other })
  ]
  | inr touched ↦ inr (record { place = touched.place; inside = omega (arith, touched.inside); byte = touched.byte })
]

-- a cut of a gated list leaves the content before it, or the one after it, or its first sector blank, or else an
-- unfinished one
pub settled_or_unfinished : (c : Content) (steps : List Step) (w : Window) (s : ℕ) (elsewhere last : List Step)
    (d : Content) → IsGated steps w s elsewhere last
    → (d ≡ c) ⊎ ((d ≡ after_all c steps) ⊎ (IsBlank s d ⊎ Unfinished c steps w d))
settled_or_unfinished c steps w s elsewhere last d gated =
    elim (same_contents_or c d) [
      | inl before ↦ inl before
      | inr moved ↦ inr (elim (same_contents_or (after_all c steps) d) [
        | inl done ↦ inl done
        | inr short ↦ inr (elim (blank_or_touched d.flash w.start 4096) [
          | inl blank ↦ inl (λ i lt. ap (λ (n : ℕ). slice_index d.flash (n + i)) gated.first ∙ blank i lt)
          | inr touched ↦ inr (record {
            moved = moved;
            short = short;
            touched = (touched.place, touched.inside, touched.byte);
          })
        ])
      ])
    ]
