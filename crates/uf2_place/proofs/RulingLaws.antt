-- The answers before any step, each exactly where its rule holds and no earlier one.
use Rattle.std.proofs.Common.{Result, ◌≡◌, ◌↔◌, ℕ, Bool, true, false, if◌then◌else◌, Ok, Err, Option, None, Some, List, arith, refl, sym, ap, subst, ◌∙◌}
use Rattle.std.proofs.lemmas.Bool.Decides.{nat_tests}
use Rattle.std.proofs.lemmas.Grind.{common_steps}
use Rattle.pico_board.specs.declared.Window.{Window}
use Rattle.part_table.specs.declared.Right.TheVariants.{BootWrite}
use Rattle.part_table.specs.declared.Table.{Table}
use Rattle.part_table.specs.declared.Target.{Target}
use Rattle.part_table.specs.Rights.{allowed_by}
use Rattle.uf2_place.specs.declared.answer.Accepted.{Accepted}
use Rattle.uf2_place.specs.declared.answer.Accepted.TheVariants.{Again, Skipped}
use Rattle.uf2_place.specs.declared.answer.PlaceFault.{PlaceFault}
use Rattle.uf2_place.specs.declared.answer.PlaceFault.TheVariants.{NoTarget, NotPermitted, Outside}
use Rattle.uf2_place.specs.declared.answer.Ruling.{Ruling}
use Rattle.uf2_place.specs.declared.answer.Ruling.TheVariants.{Answered, Begins, Continues}
use Rattle.uf2_place.specs.declared.block.Uf2.{Uf2}
use Rattle.uf2_place.specs.declared.current.Current.{Current}
use Rattle.uf2_place.specs.Accepting.{has_power}
use Rattle.uf2_place.specs.Marks.{is_marked}
use Rattle.uf2_place.specs.Placement.{IsPageInside, sector_in}
use Rattle.uf2_place.specs.Rulings.{GoesTo, aimed, begun, continues, is_of, is_skipped, is_page_within, ruled, ruling, target_of_block, wanted}
use Rattle.uf2_place.proofs.RuledLemmas.{inside-is}

within-is : (w : Window) (b : Uf2) → IsPageInside w b → is_page_within w.len b ≡ true
within-is w b inside =
    let above = inside.above in
    let below = inside.below in
    grind (arith, nat_tests, common_steps, above, below)

module _ (n : ℕ) (table : Option Table) (given : Option Target) (taken : List ℕ) (current : Option Current)
    (b : Uf2) where
  abbrev r : Ruling
  r = ruling n table given taken current b

  abbrev go : Target → Ruling
  go t = if continues current b then Continues t else Begins t

  -- which case of the rules a block is
  pub data View : Type 0 where
    skips : is_skipped n b ≡ true → View
    repeats : is_skipped n b ≡ false → continues current b ≡ true → is_marked taken b.number ≡ true → View
    lost : is_skipped n b ≡ false → continues current b ≡ false → given ≡ None → View
    aims : (t : Target) → GoesTo n given taken current b t → View

  ruled-of : is_skipped n b ≡ false → r ≡ ruled table given taken b current
  ruled-of kept = rw kept refl

  view-new : is_skipped n b ≡ false → continues current b ≡ false → target_of_block given taken b current ≡ given → View
  view-new kept new same = by given refl
    where
      by : (o : Option Target) → given ≡ o → View
      by None is = lost kept new is
      by (Some t) is = aims t (record { kept = kept; target = same ∙ is })

  target-new : (former : Option Current) → continues former b ≡ false → target_of_block given taken b former ≡ given
  target-new None new = refl
  target-new (Some c) new = rw new refl

  target-old : (former : Option Current) → continues former b ≡ true → is_marked taken b.number ≡ false
      → (t : Target) × (target_of_block given taken b former ≡ Some t)
  target-old None same fresh = cc same
  target-old (Some c) same fresh = (c.target, rw (same, fresh) refl)

  pub view : View
  view = by (is_skipped n b) refl (continues current b) refl (is_marked taken b.number) refl
    where
      by : (x : Bool) → is_skipped n b ≡ x → (y : Bool) → continues current b ≡ y → (z : Bool)
          → is_marked taken b.number ≡ z → View
      by true skipped y same z mark = skips skipped
      by false kept true same true mark = repeats kept same mark
      by false kept true same false mark =
          let to = target-old current same mark in aims to.0 (record { kept = kept; target = to.1 })
      by false kept false same z mark = view-new kept same (target-new current same)

  -- the ruling of each case
  pub skips-is : is_skipped n b ≡ true → r ≡ Answered (Ok Skipped)
  skips-is skipped = rw skipped refl

  repeats-is : (former : Option Current) → continues former b ≡ true → is_marked taken b.number ≡ true
      → ruled table given taken b former ≡ Answered (Ok Again)
  repeats-is None same mark = cc same
  repeats-is (Some c) same mark = rw (same, mark) refl

  lost-is : (former : Option Current) → continues former b ≡ false → given ≡ None
      → ruled table given taken b former ≡ Answered (Err NoTarget)
  lost-is None same none = rw none refl
  lost-is (Some c) same none = rw (same, none) refl

  begun-to : (t : Target) → given ≡ Some t → begun table b given ≡ aimed table b t (Begins t)
  begun-to t is = rw is refl

  aims-of : (t : Target) (former : Option Current) → target_of_block given taken b former ≡ Some t
      → ruled table given taken b former ≡ aimed table b t (if continues former b then Continues t else Begins t)
  aims-of t None to = begun-to t to
  aims-of t (Some c) to = by (is_of c b) refl (is_marked taken b.number) refl to
    where
      by : (x : Bool) → is_of c b ≡ x → (y : Bool) → is_marked taken b.number ≡ y
          → target_of_block given taken b (Some c) ≡ Some t
          → ruled table given taken b (Some c) ≡ aimed table b t (if continues
          (Some c) b then Continues t else Begins t)
      by true same true mark to = let none : target_of_block given taken b (Some c)
          ≡ None = rw (same, mark) refl in cc (none, to)
      by true same false mark to =
          let here : target_of_block given taken b (Some c) ≡ Some c.target = rw (same, mark) refl in
          let equal : c.target ≡ t = cc (here, to) in
          rw (same, mark) (ap (λ u. aimed table b u (Continues u)) equal)
      by false same y mark to =
          let here : target_of_block given taken b (Some c) ≡ given = rw same refl in
          rw same (begun-to t (sym here ∙ to))

  aims-is : (t : Target) → GoesTo n given taken current b t → r ≡ aimed table b t (go t)
  aims-is t to = ruled-of to.kept ∙ aims-of t current to.target

  out-is : (t : Target) → GoesTo n given taken current b t → is_page_within t.window.len b ≡ false
      → r ≡ Answered (Err Outside)
  out-is t to out = aims-is t to ∙ rw out refl

  barred-is : (t : Target) → GoesTo n given taken current b t → is_page_within t.window.len b ≡ true
      → allowed_by table (sector_in t.window b) BootWrite ≡ false → r ≡ Answered (Err NotPermitted)
  barred-is t to within barred = aims-is t to ∙ rw (within, barred) refl

  may-is : (t : Target) → GoesTo n given taken current b t → is_page_within t.window.len b ≡ true
      → allowed_by table (sector_in t.window b) BootWrite ≡ true → r ≡ go t
  may-is t to within may = aims-is t to ∙ rw (within, may) refl

  -- the ruling, as it is by its case
  pub data Is : Type 0 where
    skipped : is_skipped n b ≡ true → r ≡ Answered (Ok Skipped) → Is
    again : r ≡ Answered (Ok Again) → Is
    none : is_skipped n b ≡ false → continues current b ≡ false → given ≡ None → r ≡ Answered (Err NoTarget) → Is
    outside : (t : Target) → GoesTo n given taken current b t → is_page_within t.window.len b ≡ false
        → r ≡ Answered (Err Outside) → Is
    barred : (t : Target) → GoesTo n given taken current b t → is_page_within t.window.len b ≡ true
        → allowed_by table (sector_in t.window b) BootWrite ≡ false → r ≡ Answered (Err NotPermitted) → Is
    continuing : (t : Target) → GoesTo n given taken current b t → is_page_within t.window.len b ≡ true
        → allowed_by table (sector_in t.window b) BootWrite ≡ true → continues current b ≡ true → r ≡ Continues t → Is
    beginning : (t : Target) → GoesTo n given taken current b t → is_page_within t.window.len b ≡ true
        → allowed_by table (sector_in t.window b) BootWrite ≡ true → continues current b ≡ false → r ≡ Begins t → Is

  aimed-by : (t : Target) → GoesTo n given taken current b t → Is
  aimed-by t to =
      by (is_page_within t.window.len b) refl (allowed_by table (sector_in t.window b) BootWrite) refl
      (continues current b) refl
    where
      by : (x : Bool) → is_page_within t.window.len b ≡ x → (y : Bool)
          → allowed_by table (sector_in t.window b) BootWrite ≡ y
          → (z : Bool) → continues current b ≡ z → Is
      by false out y may z same = outside t to out (out-is t to out)
      by true within false may z same = barred t to within may (barred-is t to within may)
      by true within true may true same = continuing t to within may same (may-is t to within may ∙ rw same refl)
      by true within true may false same = beginning t to within may same (may-is t to within may ∙ rw same refl)

  pub is : Is
  is = by view
    where
      by : View → Is
      by (skips passed) = skipped passed (skips-is passed)
      by (repeats kept same mark) = again (ruled-of kept ∙ repeats-is current same mark)
      by (lost kept same gone) = none kept same gone (ruled-of kept ∙ lost-is current same gone)
      by (aims t to) = aimed-by t to

  wants-is : is_skipped n b ≡ false → continues current b ≡ false → wanted n current b ≡ Some b.family
  wants-is kept same = rw (kept, same) refl

  wants-means : wanted n current b ≡ Some b.family → (is_skipped n b ≡ false) × (continues current b ≡ false)
  wants-means = by (is_skipped n b) refl (continues current b) refl
    where
      by : (x : Bool) → is_skipped n b ≡ x → (y : Bool) → continues current b ≡ y → wanted n current b ≡ Some b.family
          → (is_skipped n b ≡ false) × (continues current b ≡ false)
      by false kept false same wants = (kept, same)
      by true passed y same wants = let gone : wanted n current b ≡ None = rw passed refl in cc (gone, wants)
      by false kept true same wants = let gone : wanted n current b ≡ None = rw (kept, same) refl in cc (gone, wants)

  pub no-target : (r ≡ Answered (Err NoTarget)) ↔ ((wanted n current b ≡ Some b.family) × (given ≡ None))
  no-target = (by is, λ p. let w = wants-means p.0 in ruled-of w.0 ∙ lost-is current w.1 p.1)
    where
      by : Is → r ≡ Answered (Err NoTarget) → (wanted n current b ≡ Some b.family) × (given ≡ None)
      by (skipped x e) h = cc (e, h)
      by (again e) h = cc (e, h)
      by (none kept same gone e) h = (wants-is kept same, gone)
      by (outside t to out e) h = cc (e, h)
      by (barred t to within may e) h = cc (e, h)
      by (continuing t to within may same e) h = cc (e, h)
      by (beginning t to within may same e) h = cc (e, h)

  within-not : (w : Window) → is_page_within w.len b ≡ false → ¬ (IsPageInside w b)
  within-not w out inside = cc (out, within-is w b inside)

  not-within : (w : Window) → ¬ (IsPageInside w b) → is_page_within w.len b ≡ false
  not-within w out = by (is_page_within w.len b) refl
    where
      by : (x : Bool) → is_page_within w.len b ≡ x → is_page_within w.len b ≡ false
      by true within = absurd (out (inside-is w b within))
      by false within = within

  pub outside-is : (r ≡ Answered (Err Outside)) ↔ ((t : Target) × GoesTo n given taken current b t × ¬
      (IsPageInside t.window b))
  outside-is = (by is, λ p. out-is p.0 p.1 (not-within (p.0).window p.2))
    where
      by : Is → r ≡ Answered (Err Outside) → (t : Target) × GoesTo n given taken current b t
          × ¬ (IsPageInside t.window b)
      by (skipped x e) h = cc (e, h)
      by (again e) h = cc (e, h)
      by (none kept same gone e) h = cc (e, h)
      by (outside t to out e) h = (t, to, within-not t.window out)
      by (barred t to within may e) h = cc (e, h)
      by (continuing t to within may same e) h = cc (e, h)
      by (beginning t to within may same e) h = cc (e, h)

  pub not_permitted-is : (r ≡ Answered (Err NotPermitted)) ↔
      ((t : Target) × GoesTo n given taken current b t × IsPageInside t.window b
      × (allowed_by table (sector_in t.window b) BootWrite ≡ false))
  not_permitted-is = (by is, λ p. barred-is p.0 p.1 (within-is (p.0).window b p.2) p.3)
    where
      by : Is → r ≡ Answered (Err NotPermitted)
          → (t : Target) × GoesTo n given taken current b t × IsPageInside t.window b
          × (allowed_by table (sector_in t.window b) BootWrite ≡ false)
      by (skipped x e) h = cc (e, h)
      by (again e) h = cc (e, h)
      by (none kept same gone e) h = cc (e, h)
      by (outside t to out e) h = cc (e, h)
      by (barred t to within may e) h = (t, to, inside-is t.window b within, may)
      by (continuing t to within may same e) h = cc (e, h)
      by (beginning t to within may same e) h = cc (e, h)

  pub begins-is : (t : Target) → (r ≡ Begins t) ↔ ((continues current b ≡ false) × GoesTo n given taken current b t
      × IsPageInside t.window b × (allowed_by table (sector_in t.window b) BootWrite ≡ true))
  begins-is t = (
    by is,
    λ p. may-is t p.1 (within-is t.window b p.2) p.3
        ∙ ap (λ x. if x then Continues t else Begins t) p.0,
  )
    where
      by : Is → r ≡ Begins t → (continues current b ≡ false) × GoesTo n given taken current b t
          × IsPageInside t.window b × (allowed_by table (sector_in t.window b) BootWrite ≡ true)
      by (skipped x e) h = cc (e, h)
      by (again e) h = cc (e, h)
      by (none kept same gone e) h = cc (e, h)
      by (outside u to out e) h = cc (e, h)
      by (barred u to within may e) h = cc (e, h)
      by (continuing u to within may same e) h = cc (e, h)
      by (beginning u to within may same e) h =
          let equal : u ≡ t = cc (e, h) in
          subst (λ v. (continues current b ≡ false) × GoesTo n given taken current b v
          × IsPageInside v.window b × (allowed_by table (sector_in v.window b) BootWrite ≡ true)) equal
          (same, to, inside-is u.window b within, may)

  pub continues-is : (t : Target) → (r ≡ Continues t) ↔ ((continues current b ≡ true) × GoesTo n given taken current b t
      × IsPageInside t.window b × (allowed_by table (sector_in t.window b) BootWrite ≡ true))
  continues-is t = (
    by is,
    λ p. may-is t p.1 (within-is t.window b p.2) p.3
        ∙ ap (λ x. if x then Continues t else Begins t) p.0,
  )
    where
      by : Is → r ≡ Continues t → (continues current b ≡ true) × GoesTo n given taken current b t
          × IsPageInside t.window b × (allowed_by table (sector_in t.window b) BootWrite ≡ true)
      by (skipped x e) h = cc (e, h)
      by (again e) h = cc (e, h)
      by (none kept same gone e) h = cc (e, h)
      by (outside u to out e) h = cc (e, h)
      by (barred u to within may e) h = cc (e, h)
      by (beginning u to within may same e) h = cc (e, h)
      by (continuing u to within may same e) h =
          let equal : u ≡ t = cc (e, h) in
          subst (λ v. (continues current b ≡ true) × GoesTo n given taken current b v
          × IsPageInside v.window b × (allowed_by table (sector_in v.window b) BootWrite ≡ true)) equal
          (same, to, inside-is u.window b within, may)

  -- no answer before a step says that power was lost
  pub answered-power : (a : Result Accepted PlaceFault) → r ≡ Answered a → has_power a ≡ true
  answered-power a = by is
    where
      told : (early : Result Accepted PlaceFault) → has_power early ≡ true → r ≡ Answered early → r ≡ Answered a
          → has_power a ≡ true
      told early power e h = let same : early ≡ a = cc (e, h) in subst (λ x. has_power x ≡ true) same power

      by : Is → r ≡ Answered a → has_power a ≡ true
      by (skipped x e) h = told (Ok Skipped) refl e h
      by (again e) h = told (Ok Again) refl e h
      by (none kept same gone e) h = told (Err NoTarget) refl e h
      by (outside t to out e) h = told (Err Outside) refl e h
      by (barred t to within may e) h = told (Err NotPermitted) refl e h
      by (continuing t to within may same e) h = cc (e, h)
      by (beginning t to within may same e) h = cc (e, h)
