-- The steps of a stage leave the content that those of a plan leave.
use Rattle.std.proofs.Common.{◌≡◌, ◌⊎◌, inl, inr, ℕ, zero, suc, ◌+◌, ◌-◌, ◌*◌, ◌/◌, ◌<◌, ◌≤◌, min, List, ◌++◌, length, take, drop, get_or, refl, sym, ap, ap₂, ◌∙◌, subst, arith, length-drop, length-take}
use Rattle.std.specs.Prelude.{slice_range}
use Rattle.std.proofs.lemmas.Bool.{cases_lt}
use Rattle.std.proofs.lemmas.List.{ext_get_or, get_or-drop, get_or-take, get_or_past, take_all}
use Rattle.pico_board.specs.declared.Step.TheVariants.{Erase}
use Rattle.pico_board.specs.Content.{Content}
use Rattle.pico_board.specs.Steps.{after, after_all}
use Rattle.pico_board.proofs.ChangedLemmas.{changed-inside}
use Rattle.pico_board.proofs.ContentLemmas.{length-after}
use Rattle.pico_board.proofs.CuttingLemmas.{length-after_all}
use Rattle.pico_board.proofs.StepLemmas.{after_all-append}
use Rattle.picoboot_cmd.specs.Pages.{programs, programs_of}
use Rattle.picoboot_cmd.specs.Sectors.{erases}
use Rattle.law_plans.specs.Written.{plan_steps}
use Rattle.law_plans.proofs.StepByteLemmas.{erased-outside, programmed-inside, programmed-outside}
use Rattle.law_staged.specs.StagedPlans.{rest_steps, stage_steps}
use Rattle.law_staged.proofs.StageStepLemmas.{length-range}

-- a part of a list, place by place
part-byte : (xs : List ℕ) (a b k : ℕ) → k < b - a → get_or (slice_range xs a b) k 0 ≡ get_or xs (a + k) 0
part-byte xs a b k lt = get_or-take (b - a) (drop a xs) k 0 lt ∙ get_or-drop a xs k 0

part-small : (xs : List ℕ) (a b : ℕ) → ((k : ℕ) → get_or xs k 0 < 256) → (k : ℕ)
    → get_or (slice_range xs a b) k 0 < 256
part-small xs a b small k = elim (cases_lt k (b - a)) [
  | inl lt ↦ subst (λ x. x < 256) (sym (part-byte xs a b k lt)) (small (a + k))
  | inr past ↦ subst (λ x. x < 256)
      (sym (get_or_past (slice_range xs a b) k 0
      (let e = length-range xs a b in omega (arith, e, past)))) (omega arith)
]

-- programs write no row
programs-rows : (n p : ℕ) (bytes : List ℕ) (c : Content) → (after_all c (programs_of n p bytes)).otp ≡ c.otp
programs-rows zero p bytes c = refl
programs-rows (suc n) p bytes c = programs-rows n (p + 1) (drop 256 bytes) _

-- the pages of a first sector: those before the page, the page, and those behind it
same-pages : (n page f h : ℕ) → page < 16 → 256 * page < n → f ≡ min 4096 n
    → h ≡ min (4096 - 256 * (page + 1)) (n - 256 * (page + 1))
    → (f + 255) / 256 ≡ page + 1 + (h + 255) / 256
same-pages n page f h low holds whole rest = omega (arith, low, holds, whole, rest)

same-content : (c d : Content) → c.flash ≡ d.flash → c.otp ≡ d.otp → c ≡ d
same-content c d flash rows = ap₂ (λ (f o : List ℕ). record { flash = f; otp = o }) flash rows

module _ (c : Content) (s : ℕ) (image : List ℕ) (page : ℕ) (low : page < 16) (holds : 256 * page < length image)
    (inside : 4096 * s + 4096 ≤ length c.flash) (small : (k : ℕ) → get_or image k 0 < 256) where
  abbrev rest : List ℕ
  rest = slice_range image 4096 (length image)

  abbrev first : List ℕ
  first = take 4096 image

  abbrev before : List ℕ
  before = slice_range image 0 (256 * page)

  abbrev behind : List ℕ
  behind = slice_range image (256 * (page + 1)) 4096

  abbrev last : List ℕ
  last = slice_range image (256 * page) (256 * (page + 1))

  abbrev pages : ℕ
  pages = (length first + 255) / 256

  abbrev front_pages : ℕ
  front_pages = (length before + 255) / 256

  abbrev back_pages : ℕ
  back_pages = (length behind + 255) / 256

  abbrev c1 : Content
  c1 = after c (Erase s)

  abbrev c3 : Content
  c3 = after_all c1 (rest_steps (s + 1) rest)

  abbrev planned_end : Content
  planned_end = after_all c3 (programs (16 * s) first)

  abbrev c4 : Content
  c4 = after_all c3 (programs (16 * s) before)

  abbrev c5 : Content
  c5 = after_all c4 (programs (16 * s + (page + 1)) behind)

  abbrev staged_end : Content
  staged_end = after_all c5 (programs (16 * s + page) last)

  stage-is : after_all c (stage_steps s page image) ≡ staged_end
  stage-is =
      after_all-append c1 (rest_steps (s + 1) rest) _
      ∙ after_all-append c3 (programs (16 * s) before) _
      ∙ after_all-append c4 (programs (16 * s + (page + 1)) behind) _

  same-rest : drop 4096 image ≡ rest
  same-rest =
      sym (take_all (length image - 4096) (drop 4096 image)
      (let e = length-drop 4096 image in omega (arith, e)))

  plan-is : after_all c (plan_steps s image) ≡ planned_end
  plan-is =
      ap (λ xs. after_all c1 (rest_steps (s + 1) xs ++ programs (16 * s) first)) same-rest
      ∙ after_all-append c1 (rest_steps (s + 1) rest) (programs (16 * s) first)

  full : length first ≡ min 4096 (length image)
  full = length-take 4096 image

  before_long : length before ≡ 256 * page
  before_long = let e = length-range image 0 (256 * page) in omega (arith, e, holds)

  behind_long : length behind ≡ min (4096 - 256 * (page + 1)) (length image - 256 * (page + 1))
  behind_long = length-range image (256 * (page + 1)) 4096

  behind_few : back_pages + page < 16
  behind_few = omega (arith, behind_long, low)

  last_long : length last ≡ min 256 (length image - 256 * page)
  last_long = let e = length-range image (256 * page) (256 * (page + 1)) in omega (arith, e)

  last_one : (length last + 255) / 256 ≡ 1
  last_one = omega (arith, last_long, holds)

  all_pages : pages ≡ page + 1 + back_pages
  all_pages = same-pages (length image) page (length first) (length behind) low holds full behind_long

  long3 : length c3.flash ≡ length c.flash
  long3 = length-after_all c1 (rest_steps (s + 1) rest) ∙ length-after c (Erase s)

  long4 : length c4.flash ≡ length c.flash
  long4 = length-after_all c3 (programs (16 * s) before) ∙ long3

  long5 : length c5.flash ≡ length c.flash
  long5 = length-after_all c4 (programs (16 * s + (page + 1)) behind) ∙ long4

  -- the first sector is erased until it is programmed
  blank : (j : ℕ) → 4096 * s ≤ j → j < 4096 * s + 4096 → get_or c3.flash j 0 ≡ 255
  blank j from to =
      ap (λ (d : Content). get_or d.flash j 0)
      (after_all-append c1 (erases (s + 1) ((length rest + 4095) / 4096)) (programs (16 * (s + 1)) rest))
      ∙ programmed-outside ((length rest + 255) / 256) (16 * (s + 1)) rest
      (after_all c1 (erases (s + 1) ((length rest + 4095) / 4096))) j (inl (omega (arith, to)))
      ∙ erased-outside ((length rest + 4095) / 4096) (s + 1) c1 j (inl (omega (arith, to)))
      ∙ changed-inside (λ i b. 255) (4096 * s) 4096 c.flash j from to (omega (arith, to, inside))

  -- what a plan leaves in the first sector
  planned-byte : (j : ℕ) → 4096 * s ≤ j → j < 256 * (16 * s + pages)
      → get_or planned_end.flash j 0 ≡ get_or image (j - 4096 * s) 0
  planned-byte j from to =
      programmed-inside pages (16 * s) first c3 j (omega (arith, from)) to
      (omega (arith, all_pages, behind_few, inside, long3))
      (λ i a b. blank i (omega (arith, a)) (omega (arith, b, all_pages, behind_few)))
      (part-small image 0 4096 small)
      ∙ ap (λ k. get_or first k 0) (let e : j - 256 * (16 * s) ≡ j - 4096 * s = omega arith in e)
      ∙ get_or-take 4096 image (j - 4096 * s) 0 (omega (arith, to, all_pages, behind_few))

  planned-blank : (j : ℕ) → 256 * (16 * s + pages) ≤ j → j < 4096 * s + 4096
      → get_or planned_end.flash j 0 ≡ 255
  planned-blank j from to =
      programmed-outside pages (16 * s) first c3 j (inr from) ∙ blank j (omega (arith, from)) to

  -- what a stage leaves there
  staged-before : (j : ℕ) → 4096 * s ≤ j → j < 256 * (16 * s + page)
      → get_or staged_end.flash j 0 ≡ get_or image (j - 4096 * s) 0
  staged-before j from to =
      programmed-outside ((length last + 255) / 256) (16 * s + page) last c5 j (inl to)
      ∙ programmed-outside back_pages (16 * s + (page + 1)) behind c4 j (inl (omega (arith, to)))
      ∙ programmed-inside front_pages (16 * s) before c3 j (omega (arith, from)) (omega (arith, to, before_long))
      (omega (arith, before_long, low, inside, long3))
      (λ i a b. blank i (omega (arith, a)) (omega (arith, b, before_long, low)))
      (part-small image 0 (256 * page) small)
      ∙ part-byte image 0 (256 * page) (j - 256 * (16 * s)) (omega (arith, from, to))
      ∙ ap (λ k. get_or image k 0) (let e : 0 + (j - 256 * (16 * s)) ≡ j - 4096 * s = omega arith in e)

  staged-page : (j : ℕ) → 256 * (16 * s + page) ≤ j → j < 256 * (16 * s + (page + 1))
      → get_or staged_end.flash j 0 ≡ get_or image (j - 4096 * s) 0
  staged-page j from to =
      programmed-inside ((length last + 255) / 256) (16 * s + page) last c5 j from (omega (arith, to, last_one))
      (omega (arith, last_one, low, inside, long5))
      (λ i a b. programmed-outside back_pages (16 * s + (page + 1)) behind c4 i (inl (omega (arith, b, last_one)))
      ∙ programmed-outside front_pages (16 * s) before c3 i (inr (omega (arith, a, before_long)))
      ∙ blank i (omega (arith, a)) (omega (arith, b, last_one, low)))
      (part-small image (256 * page) (256 * (page + 1)) small)
      ∙ part-byte image (256 * page) (256 * (page + 1)) (j - 256 * (16 * s + page)) (omega (arith, from, to))
      ∙ ap (λ k. get_or image k 0)
      (let e : 256 * page + (j - 256 * (16 * s + page)) ≡ j - 4096 * s = omega (arith, from) in e)

  staged-behind : (j : ℕ) → 256 * (16 * s + (page + 1)) ≤ j → j < 256 * (16 * s + (page + 1) + back_pages)
      → get_or staged_end.flash j 0 ≡ get_or image (j - 4096 * s) 0
  staged-behind j from to =
      programmed-outside ((length last + 255) / 256) (16 * s + page) last c5 j (inr (omega (arith, from, last_one)))
      ∙ programmed-inside back_pages (16 * s + (page + 1)) behind c4 j from to
      (omega (arith, behind_few, inside, long4))
      (λ i a b. programmed-outside front_pages (16 * s) before c3 i (inr (omega (arith, a, before_long)))
      ∙ blank i (omega (arith, a)) (omega (arith, b, behind_few)))
      (part-small image (256 * (page + 1)) 4096 small)
      ∙ part-byte image (256 * (page + 1)) 4096 (j - 256 * (16 * s + (page + 1)))
      (omega (arith, from, to, behind_few))
      ∙ ap (λ k. get_or image k 0)
      (let e : 256 * (page + 1) + (j - 256 * (16 * s + (page + 1))) ≡ j - 4096 * s = omega (arith, from) in e)

  -- behind the pages of the image, and outside of the first sector, all is as it was
  staged-out : (j : ℕ) → (j < 4096 * s) ⊎ (256 * (16 * s + (page + 1) + back_pages) ≤ j)
      → get_or staged_end.flash j 0 ≡ get_or c3.flash j 0
  staged-out j (inl under) =
      programmed-outside ((length last + 255) / 256) (16 * s + page) last c5 j (inl (omega (arith, under)))
      ∙ programmed-outside back_pages (16 * s + (page + 1)) behind c4 j (inl (omega (arith, under)))
      ∙ programmed-outside front_pages (16 * s) before c3 j (inl (omega (arith, under)))
  staged-out j (inr over) =
      programmed-outside ((length last + 255) / 256) (16 * s + page) last c5 j (inr (omega (arith, over, last_one)))
      ∙ programmed-outside back_pages (16 * s + (page + 1)) behind c4 j (inr over)
      ∙ programmed-outside front_pages (16 * s) before c3 j (inr (omega (arith, over, before_long)))

  abbrev Same : ℕ → Type 0
  Same j = get_or staged_end.flash j 0 ≡ get_or planned_end.flash j 0

  same-behind : (j : ℕ) → 256 * (16 * s + (page + 1)) ≤ j → Same j
  same-behind j from = elim (cases_lt j (256 * (16 * s + (page + 1) + back_pages))) [
    | inl here ↦ staged-behind j from here
        ∙ sym (planned-byte j (omega (arith, from)) (omega (arith, here, all_pages)))
    | inr past ↦ staged-out j (inr past)
        ∙ sym (programmed-outside pages (16 * s) first c3 j (inr (omega (arith, past, all_pages))))
  ]

  same-inside : (j : ℕ) → 4096 * s ≤ j → Same j
  same-inside j from = elim (cases_lt j (256 * (16 * s + page))) [
    | inl front ↦ staged-before j from front
        ∙ sym (planned-byte j from (omega (arith, front, all_pages)))
    | inr past ↦ elim (cases_lt j (256 * (16 * s + (page + 1)))) [
      | inl here ↦ staged-page j past here ∙ sym (planned-byte j from (omega (arith, here, all_pages)))
      | inr back ↦ same-behind j back
    ]
  ]

  same : (j : ℕ) → Same j
  same j = elim (cases_lt j (4096 * s)) [
    | inl under ↦ staged-out j (inl under)
        ∙ sym (programmed-outside pages (16 * s) first c3 j (inl (omega (arith, under))))
    | inr from ↦ same-inside j from
  ]

  pub stage-plan : after_all c (stage_steps s page image) ≡ after_all c (plan_steps s image)
  stage-plan =
      let staged_long = length-after_all c5 (programs (16 * s + page) last) ∙ long5 in
      let planned_long = length-after_all c3 (programs (16 * s) first) ∙ long3 in
      let rows : staged_end.otp ≡ planned_end.otp =
      programs-rows ((length last + 255) / 256) (16 * s + page) last c5
      ∙ (programs-rows back_pages (16 * s + (page + 1)) behind c4
      ∙ (programs-rows front_pages (16 * s) before c3
      ∙ sym (programs-rows pages (16 * s) first c3))) in
      stage-is
      ∙ (same-content staged_end planned_end
      (ext_get_or 0 staged_end.flash planned_end.flash (staged_long ∙ sym planned_long) (λ k lt. same k)) rows
      ∙ sym plan-is)
