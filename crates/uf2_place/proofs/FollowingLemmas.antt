-- What is kept of a download once it has a block more.
use Rattle.std.proofs.Common.{◌≡◌, ◌≢◌, ℕ, ◌+◌, ◌*◌, ◌≤◌, ◌&&◌, ◌||◌, ◌==◌, Bool, true, false, is_some, nat_eq, if◌then◌else◌, Option, None, Some, List, [], ◌∷◌, ◌++◌, arith, refl, sym, ap, subst, ◌∙◌}
use Rattle.std.specs.Prelude.{slice_get}
use Rattle.std.specs.Bool.{OnTrue, OnFalse}
use Rattle.std.specs.List.{IsDistinct, list_any}
use Rattle.std.specs.Option.{option_or}
use Rattle.std.specs.Set.{is_member}
use Rattle.std.proofs.lemmas.Bool.Decides.{nat_tests}
use Rattle.std.proofs.lemmas.List.{length-append, map-append}
use Rattle.std.proofs.lemmas.List.Folds.{list_any-append}
use Rattle.pico_board.specs.declared.Window.{Window}
use Rattle.part_table.specs.declared.Target.{Target}
use Rattle.sector_pool.specs.Pool.{Pool}
use Rattle.uf2_place.specs.Blocks.{IsUf2}
use Rattle.uf2_place.specs.declared.block.Uf2.{Uf2}
use Rattle.uf2_place.specs.declared.current.Current.{Current}
use Rattle.uf2_place.specs.declared.current.Held.{Held}
use Rattle.uf2_place.specs.Marks.{MarksView, is_marked}
use Rattle.uf2_place.specs.Downloads.{Follows, HoldsLease, HoldsPages, pool_sector_bytes, held_page}
use Rattle.uf2_place.specs.Placement.{AreBlocks, IsBlockOf, IsPageInside, first_in, is_whole_download, last_for, lies_in, numbers_of, page_in, sector_in}
use Rattle.uf2_place.specs.Progress.{HoldsBlock, HoldsPage, MayComeNext, MarksSector, TakesNumber, held_steps, is_held_back}
use Rattle.uf2_place.proofs.AddedLemmas.{held-gated, last_part}
use Rattle.uf2_place.proofs.DistinctLemmas.{IsDistinct-push, all-append}
use Rattle.uf2_place.proofs.HeldPageLemmas.{programs-same}

-- the blocks with one more
next-are : (t : Target) (family count : ℕ) (blocks : List Uf2) (b : Uf2) → AreBlocks t family count blocks → IsUf2 b
    → b.family ≡ family → b.count ≡ count → is_member nat_eq (numbers_of blocks) b.number ≡ false
    → AreBlocks t family count (blocks ++ b ∷ [])
next-are t family count blocks b are is of_family of_count fresh = record {
  window = are.window;
  each = all-append (IsBlockOf family count) blocks (b ∷ []) are.each
      (record { is = is; same_family = of_family; same_count = of_count }, tt);
  distinct = subst (IsDistinct nat_eq) (sym (map-append (λ (a : Uf2). a.number) blocks (b ∷ [])))
      (IsDistinct-push (numbers_of blocks) b.number are.distinct fresh);
}

-- whether a number is one of the blocks' with one more
next-number : (blocks : List Uf2) (b : Uf2) (i : ℕ)
    → (if nat_eq b.number i then true else is_member nat_eq (numbers_of blocks) i)
    ≡ is_member nat_eq (numbers_of (blocks ++ b ∷ [])) i
next-number blocks b i =
    let split : is_member nat_eq (numbers_of (blocks ++ b ∷ [])) i
    ≡ (is_member nat_eq (numbers_of blocks) i || (nat_eq i b.number || false)) =
    ap (λ ns. is_member nat_eq ns i) (map-append (λ (a : Uf2). a.number) blocks (b ∷ []))
    ∙ list_any-append (nat_eq i) (numbers_of blocks) (b.number ∷ []) in
    by (nat_eq b.number i) refl (is_member nat_eq (numbers_of blocks) i) ∙ sym split
  where
    by : (here : Bool) → nat_eq b.number i ≡ here → (before : Bool)
        → (if here then true else before) ≡ (before || (nat_eq i b.number || false))
    by true is true = refl
    by true is false = let same : nat_eq i b.number ≡ true = grind (arith, nat_tests, is) in rw same refl
    by false is true = refl
    by false is false = let away : nat_eq i b.number ≡ false = grind (arith, nat_tests, is) in rw away refl

-- whether a sector is one of the blocks' with one more
next-sector : (w : Window) (blocks : List Uf2) (b : Uf2) (s : ℕ)
    → (if nat_eq (sector_in w b) s then true else list_any (lies_in w s) blocks)
    ≡ list_any (lies_in w s) (blocks ++ b ∷ [])
next-sector w blocks b s =
    by (nat_eq (sector_in w b) s) (list_any (lies_in w s) blocks) ∙ sym (list_any-append (lies_in w s) blocks (b ∷ []))
  where
    by : (here before : Bool) → (if here then true else before) ≡ (before || (here || false))
    by true true = refl
    by true false = refl
    by false true = refl
    by false false = refl

-- the bytes of the last block for a page, with one block more
next-page : (w : Window) (page : ℕ) (blocks : List Uf2) (b : Uf2)
    → (if nat_eq (page_in w b) page then Some b.page else last_for w page blocks) ≡ last_for w page (blocks ++ b ∷ [])
next-page w page [] b = refl
next-page w page (x ∷ xs) b =
    by (nat_eq (page_in w b) page) (last_for w page xs) (if page_in w x == page then Some x.page else None)
    ∙ ap (λ o. option_or o (if page_in w x == page then Some x.page else None)) (next-page w page xs b)
  where
    by : (here : Bool) (later first : Option (List ℕ)) → (if here then Some b.page else option_or later first)
        ≡ option_or (if here then Some b.page else later) first
    by true later first = refl
    by false later first = refl

-- the block is held back: what the pages of the first sector are
next-held : (pool after : Pool) (t : Target) (blocks : List Uf2) (b : Uf2) (old new : Held) (place : ℕ)
    → HoldsPages pool t blocks old → page_in t.window b ≡ 16 * first_in t.window + place
    → HoldsPage place b.page old pool new after → HoldsPages after t (blocks ++ b ∷ []) new
next-held pool after t blocks b old new place holds at held = record {
  gated = holds.gated;
  out = subst (λ k. slice_get after.out k ≡ Some true) (sym held.lease)
      (ap (λ out. slice_get out old.lease) held.kept.same ∙ holds.out);
  pages = λ i low.
      let test : nat_eq place i ≡ nat_eq (page_in t.window b) (16 * first_in t.window + i) = same-test i in
      held.pages i low
      ∙ ap (λ o. if nat_eq place i then Some b.page else o) (holds.pages i low)
      ∙ ap (λ c. if c then Some b.page else last_for t.window (16 * first_in t.window + i) blocks) test
      ∙ next-page t.window (16 * first_in t.window + i) blocks b;
}
  where
    same-test : (i : ℕ) → nat_eq place i ≡ nat_eq (page_in t.window b) (16 * first_in t.window + i)
    same-test i = by (nat_eq place i) refl
      where
        by : (c : Bool) → nat_eq place i ≡ c → c ≡ nat_eq (page_in t.window b) (16 * first_in t.window + i)
        by true is = grind (arith, nat_tests, is, at)
        by false is = grind (arith, nat_tests, is, at)

-- the block lies elsewhere: no page of the first sector changes
elsewhere-held : (pool : Pool) (t : Target) (blocks : List Uf2) (b : Uf2) (h : Held) → HoldsPages pool t blocks h
    → lies_in t.window (first_in t.window) b ≡ false → HoldsPages pool t (blocks ++ b ∷ []) h
elsewhere-held pool t blocks b h holds away = record {
  gated = holds.gated;
  out = holds.out;
  pages = λ i low.
      let other : nat_eq (page_in t.window b) (16 * first_in t.window + i)
      ≡ false = grind (arith, nat_tests, away, low) in
      holds.pages i low
      ∙ ap (λ c. if c then Some b.page else last_for t.window (16 * first_in t.window + i) blocks) (sym other)
      ∙ next-page t.window (16 * first_in t.window + i) blocks b;
}

elsewhere-holds : (pool : Pool) (t : Target) (blocks : List Uf2) (b : Uf2) (held : Option Held)
    → HoldsLease pool t blocks held
    → (is_some held && lies_in t.window (first_in t.window) b) ≡ false → HoldsLease pool t (blocks ++ b ∷ []) held
elsewhere-holds pool t blocks b None plain away = plain
elsewhere-holds pool t blocks b (Some h) holds away = elsewhere-held pool t blocks b h holds away

back-here : (held : Option Held) (here : Bool) → (is_some held && here) ≡ true → here ≡ true
back-here None here is = cc is
back-here (Some h) here is = is

module _ (pool : Pool) (marks : MarksView) (c : Current) (blocks : List Uf2) (b : Uf2)
    (f : Follows pool marks c blocks) (next : MayComeNext c blocks b) (is : IsUf2 b)
    (inside : IsPageInside c.target.window b) where
  -- the download with the block more, where its marks and held pages are those of the block more
  follow : (after : Pool) (put later : MarksView) (mid new : Current)
      → TakesNumber b mid put new later → mid.family ≡ c.family → mid.count ≡ c.count → mid.target ≡ c.target
      → mid.left ≡ c.left → put.numbers ≡ marks.numbers
      → ((s : ℕ) → (c.target.gated ≡ true → s ≢ first_in c.target.window)
      → is_marked put.sectors s ≡ list_any (lies_in c.target.window s) (blocks ++ b ∷ []))
      → HoldsLease after c.target (blocks ++ b ∷ []) mid.held → Follows after later new (blocks ++ b ∷ [])
  follow after put later mid new takes same_family same_count same_target same_left numbers sectors held =
      let moved : new ≡ record {
        family = c.family;
        count = c.count;
        target = c.target;
        left = new.left;
        held =
            mid.held;
      } =
      takes.rest ∙ rw (same_family, same_count, same_target) refl in
      let left : new.left + 1 ≡ c.left = takes.left ∙ same_left in
      subst (λ d. Follows after later d (blocks ++ b ∷ [])) (sym moved) (record {
        are = next-are c.target c.family c.count blocks b f.are is next.family next.count next.fresh;
        inside = all-append (IsPageInside c.target.window) blocks (b ∷ []) f.inside (inside, tt);
        left = omega (arith, f.left, left, length-append blocks (b ∷ []));
        numbers = λ i. takes.numbers i
            ∙ ap (λ ws. if nat_eq b.number i then true else is_marked ws i) numbers
            ∙ ap (λ o. if nat_eq b.number i then true else o) (f.numbers i) ∙ next-number blocks b i;
        sectors = λ s other. ap (λ ws. is_marked ws s) takes.sectors ∙ sectors s other;
        held = held;
      })

  -- where the block is held back
  pub follow-held : (after : Pool) (put later : MarksView) (mid new : Current) → is_held_back c b ≡ true
      → put ≡ marks → HoldsBlock b c pool mid after → TakesNumber b mid put new later
      → Follows after later new (blocks ++ b ∷ [])
  follow-held after put later mid new back same holds takes =
      let here : nat_eq (sector_in c.target.window b) (first_in c.target.window) ≡ true = back-here c.held _ back in
      let some : 1 ≤ c.left = omega (arith, takes.left, ap (λ (d : Current). d.left) holds.has) in
      let gated : c.target.gated ≡ true = sym (held-gated pool marks c blocks b f some c.held f.held)
      ∙ ap is_some holds.had in
      follow after put later mid new takes (ap (λ (d : Current). d.family) holds.has) (ap (λ
      (d : Current). d.count) holds.has)
      (ap (λ (d : Current). d.target) holds.has) (ap (λ (d : Current). d.left) holds.has)
      (ap (λ (m : MarksView). m.numbers) same)
      (λ s other. ap (λ (m : MarksView). is_marked m.sectors s) same ∙ f.sectors s other
      ∙ ap (λ x. if x then true else list_any (lies_in c.target.window s) blocks) (sym (away s (other gated) here))
      ∙ next-sector c.target.window blocks b s)
      (subst (λ (held : Option Held). HoldsLease after c.target (blocks ++ b ∷ []) held)
      (sym (ap (λ (d : Current). d.held) holds.has))
      (next-held pool after c.target blocks b holds.former holds.now holds.page.0
      (subst (λ (held : Option Held). HoldsLease pool c.target blocks held) holds.had f.held) holds.page.1 holds.page.2))
    where
      away : (s : ℕ) → s ≢ first_in c.target.window → nat_eq (sector_in c.target.window b) (first_in c.target.window)
          ≡ true
          → nat_eq (sector_in c.target.window b) s ≡ false
      away s other here = grind (arith, nat_tests, other, here)

  -- what follows a block whose page is written at once
  pub follow-written : (after : Pool) (put later : MarksView) (mid new : Current) → is_held_back c b ≡ false
      → mid ≡ c → after ≡ pool → MarksSector (sector_in c.target.window b) marks put → TakesNumber b mid put new later
      → Follows after later new (blocks ++ b ∷ [])
  follow-written after put later mid new away same kept marked takes =
      follow after put later mid new takes (ap (λ (d : Current). d.family) same) (ap (λ (d : Current). d.count) same)
      (ap (λ (d : Current). d.target) same) (ap (λ (d : Current). d.left) same) marked.numbers
      (λ s other. marked.sectors s
      ∙ ap (λ o. if nat_eq (sector_in c.target.window b) s then true else o) (f.sectors s other)
      ∙ next-sector c.target.window blocks b s)
      (subst (λ (held : Option Held). HoldsLease after c.target (blocks ++ b ∷ []) held) (sym (ap (λ
      (d : Current). d.held) same))
      (subst (λ p. HoldsLease p c.target (blocks ++ b ∷ []) c.held) (sym kept)
      (elsewhere-holds pool c.target blocks b c.held f.held away)))

  -- what follows a block that was put, by whether its page is held back
  pub follow-put : (after : Pool) (put later : MarksView) (mid new : Current) (x : Bool) → is_held_back c b ≡ x
      → OnTrue x ((put ≡ marks) × HoldsBlock b c pool mid after) → OnFalse x ((mid ≡ c) × (after ≡ pool))
      → OnFalse x (MarksSector (sector_in c.target.window b) marks put) → TakesNumber b mid put new later
      → Follows after later new (blocks ++ b ∷ [])
  follow-put after put later mid new true back held same marked takes =
      follow-held after put later mid new back held.0 held.1 takes
  follow-put after put later mid new false away held same marked takes =
      follow-written after put later mid new away same.0 same.1 marked takes

-- the programs of the held pages are the last part of the list
pub held-last : (pool : Pool) (marks : MarksView) (c : Current) (blocks : List Uf2) → Follows pool marks c blocks
    → blocks ≢ [] → held_steps pool c c.held ≡ last_part c.target blocks
held-last pool marks c [] f some = absurd (some refl)
held-last pool marks c (b ∷ bs) f some = by c.held f.held
  where
    count-is : (c.left == 0) ≡ is_whole_download (b ∷ bs)
    count-is = let left = f.left in let same = f.are.each.0.same_count in grind (arith, nat_tests, left, same)

    by : (held : Option Held) → HoldsLease pool c.target (b ∷ bs) held
        → held_steps pool c held ≡ last_part c.target (b ∷ bs)
    by None plain = rw plain refl
    by (Some h) holds =
        rw (
          holds.gated,
          count-is,
          programs-same (first_in c.target.window) (held_page h.pages (pool_sector_bytes pool h.lease))
              (λ i. last_for c.target.window (16 * first_in c.target.window + i) (b ∷ bs)) holds.pages,
        ) refl

push-some : (blocks : List Uf2) (b : Uf2) → blocks ++ b ∷ [] ≢ []
push-some [] b same = cc same
push-some (x ∷ xs) b same = cc same

pub held-last_push : (pool : Pool) (marks : MarksView) (c : Current) (blocks : List Uf2) (b : Uf2) (t : Target)
    → c.target ≡ t
    → Follows pool marks c (blocks ++ b ∷ []) → held_steps pool c c.held ≡ last_part t (blocks ++ b ∷ [])
held-last_push pool marks c blocks b t same f =
    held-last pool marks c (blocks ++ b ∷ []) f (push-some blocks b) ∙ ap (λ u. last_part u (blocks ++ b ∷ [])) same
