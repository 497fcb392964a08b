-- Which steps are staged, as the code asks for it.
use Rattle.std.proofs.Common.{◌≡◌, inl, inr, ℕ, ◌+◌, ◌*◌, ◌/◌, ◌<◌, not, Bool, true, false, List, [], ◌∷◌, ◌++◌, length, slice_get, Ok, Err, Some, option_map, refl, sym, ap, ◌∙◌, subst, arith}
use Rattle.std.specs.Prelude.{◌↔◌, ◌&&◌, ◌==◌, Contains, Result, is_err}
use Rattle.std.specs.List.{AllByRecursion, list_all}
use Rattle.std.proofs.lemmas.Bool.{and_from, and_parts, cases_lt, eq-eqb, eqb-true, ne_eqb}
use Rattle.std.proofs.lemmas.Option.{same_Some, slice_get-map}
use Rattle.pico_board.specs.declared.Step.{Step}
use Rattle.pico_board.specs.declared.step.Step.TheVariants.{Erase, Program, Raise}
use Rattle.pico_board.specs.declared.boot.Cpu.{Cpu}
use Rattle.pico_board.specs.declared.window.Window.{Window}
use Rattle.pico_board.specs.Content.{Content, window_bytes}
use Rattle.pico_board.specs.Sessions.{Gated}
use Rattle.pico_board.specs.Steps.{after_all}
use Rattle.block_codec.specs.Blocks.{BlockAt, BlockView}
use Rattle.block_loop.specs.declared.fault.LoopFault.{LoopFault}
use Rattle.block_loop.specs.Loop.{IsFirstBlock, IsLoop, loop_of}
use Rattle.block_loop.specs.Offsets.{AreLoop, offsets_of}
use Rattle.block_loop.proofs.ChainLemmas.{loop_of-loop}
use Rattle.block_loop.proofs.PlaceLemmas.{at-place}
use Rattle.image_def.specs.declared.started.Started.{Started}
use Rattle.image_check.specs.declared.why.Why.{Why}
use Rattle.image_check.specs.Valid.{Valid}
use Rattle.boot_sweep.specs.Firms.{HasNoOtherBlock}
use Rattle.check_laws.specs.Staged.{EndsOn, IsOffPage, Staged, is_off_page}

same-loop : (x y : List BlockView) (r : Result (List BlockView) LoopFault) → r ≡ Ok x → r ≡ Ok y → x ≡ y
same-loop x y r e f = cc

-- the first block, by the first of the offsets
pub first-at : (w offsets : List ℕ) (x : ℕ) → AreLoop w offsets → slice_get offsets 0 ≡ Some x
    → (b : BlockView) × (b.at ≡ x) × IsFirstBlock w b
first-at w offsets x are at =
    let blocks = are.blocks in
    let found = at-place w offsets 0 x are at blocks.0 (loop_of-loop w blocks.0 blocks.1) in
    let first = blocks.1.chain.first found.0 found.1 in
    let named : Some found.0.at ≡ Some x =
    sym (slice_get-map (λ (b : BlockView). b.at) blocks.0 0 ∙ ap (option_map (λ (b : BlockView). b.at)) found.1)
    ∙ (ap (λ xs. slice_get xs 0) blocks.2 ∙ at) in
    (found.0, same_Some found.0.at x named, first)

pub one-first : (w : List ℕ) (a b : BlockView) → IsFirstBlock w a → IsFirstBlock w b → a.at ≡ b.at
one-first w a b one two = elim (cases_lt a.at b.at) [
  | inl below ↦ absurd (two.least a.at a below one.stands)
  | inr above ↦ elim (cases_lt b.at a.at) [
    | inl low ↦ absurd (one.least b.at b low two.stands)
    | inr same ↦ omega (arith, above, same)
  ]
]

pub first-place : (w offsets : List ℕ) (x : ℕ) (a : BlockView) → AreLoop w offsets → slice_get offsets 0 ≡ Some x
    → IsFirstBlock w a → a.at ≡ x
first-place w offsets x a are at first =
    let f = first-at w offsets x are at in one-first w a f.0 first f.2 ∙ f.1

pub first-low : (w offsets : List ℕ) (x : ℕ) → AreLoop w offsets → slice_get offsets 0 ≡ Some x → x < 4096
first-low w offsets x are at =
    let f = first-at w offsets x are at in let low = f.2.low in let same = f.1 in omega (arith, low, same)

-- one offset more
pub others-more : (w offsets : List ℕ) (i : ℕ)
    → ((x : ℕ) (b : BlockView) → x < 4 * i → BlockAt w x b → Contains offsets x)
    → ((b : BlockView) → BlockAt w (4 * i) b → Contains offsets (4 * i))
    → (x : ℕ) (b : BlockView) → x < 4 * (i + 1) → BlockAt w x b → Contains offsets x
others-more w offsets i before here x b low stands = elim (cases_lt x (4 * i)) [
  | inl below ↦ before x b below stands
  | inr from ↦
      let aligned = stands.aligned in
      let same : x ≡ 4 * i = omega (arith, from, low, aligned) in
      subst (λ y. Contains offsets y) (sym same) (here b (subst (λ y. BlockAt w y b) same stands))
]

pub off-is : (page : ℕ) (step : Step) → (is_off_page page step ≡ true) ↔ IsOffPage page step
off-is page (Erase s) = (λ e. tt, λ off. refl)
off-is page (Raise r b) = (λ e. tt, λ off. refl)
off-is page (Program p bytes) = (λ e same. is-not (eq-eqb p page same) e, λ off. ap not (ne_eqb p page off))
  where
    is-not : (p == page) ≡ true → not (p == page) ≡ true → ⊥
    is-not is e = let f : not true ≡ true = ap not (sym is) ∙ e in cc

offs-is : (page : ℕ) (steps : List Step) → (list_all (is_off_page page) steps ≡ true) ↔ AllByRecursion (IsOffPage page) steps
offs-is page [] = (λ e. tt, λ all. refl)
offs-is page (step ∷ steps) = (
  λ e. let p = and_parts _ _ e in ((off-is page step).0 p.0, (offs-is page steps).0 p.1),
  λ all. and_from _ _ ((off-is page step).1 all.0) ((offs-is page steps).1 all.1),
)

-- a step that programs the page
on-page : (page : ℕ) (step : Step) → is_off_page page step ≡ false → (bytes : List ℕ) × (step ≡ Program page bytes)
on-page page (Erase s) e = cc
on-page page (Raise r b) e = cc
on-page page (Program p bytes) e = (bytes, go (p == page) refl e)
  where
    go : (b : Bool) → (p == page) ≡ b → not b ≡ false → (let step : Step = Program p bytes in step ≡ Program page bytes)
    go true is e = ap (λ q. Program q bytes) (eqb-true p page is)
    go false is e = cc

one-last : (xs ys : List Step) (x y : Step) → xs ++ x ∷ [] ≡ ys ++ y ∷ [] → (xs ≡ ys) × (x ≡ y)
one-last [] [] x y e = (refl, cc)
one-last [] (b ∷ []) x y e = cc
one-last [] (b ∷ (d ∷ ys)) x y e = cc
one-last (a ∷ []) [] x y e = cc
one-last (a ∷ (d ∷ xs)) [] x y e = cc
one-last (a ∷ xs) (b ∷ ys) x y e =
    let tail : xs ++ x ∷ [] ≡ ys ++ y ∷ [] = cc in
    let head : a ≡ b = cc in
    let r = one-last xs ys x y tail in
    (ap (λ zs. a ∷ zs) r.0 ∙ ap (λ z. z ∷ ys) head, r.1)

pub ends-is : (page : ℕ) (steps before : List Step) (last : Step) → steps ≡ before ++ last ∷ []
    → ((not (is_off_page page last) && list_all (is_off_page page) before) ≡ true) ↔ EndsOn page steps
ends-is page steps before last whole = (
  λ e.
      let p = and_parts _ _ e in
      let on = on-page page last (un-not (is_off_page page last) p.0) in
      (before, on.0, whole ∙ ap (λ (s : Step). before ++ s ∷ []) on.1, (offs-is page before).0 p.1),
  λ ends.
      let same = one-last before ends.0 last (Program page ends.1) (sym whole ∙ ends.2) in
      and_from _ _ (ap (λ (s : Step). not (is_off_page page s)) same.1 ∙ on-it)
      ((offs-is page before).1 (subst (AllByRecursion (IsOffPage page)) (sym same.0) ends.3)),
)
  where
    un-not : (b : Bool) → not b ≡ true → b ≡ false
    un-not true e = cc
    un-not false e = refl

    on-it : not (not (page == page)) ≡ true
    on-it = ap (λ t. not (not t)) (eq-eqb page page refl)

pub ends-by : (page : ℕ) (steps before : List Step) (last : Step) → (steps ≡ before ++ last ∷ []) × (length before + 1 ≡ length steps) → (b : Bool)
    → b ≡ (not (is_off_page page last) && list_all (is_off_page page) before) → (b ≡ true) ↔ EndsOn page steps
ends-by page steps before last split b is =
    let ends = ends-is page steps before last split.0 in
    (λ e. ends.0 (sym is ∙ e), λ on. is ∙ ends.1 on)

pub no-ends : (page : ℕ) (steps : List Step) → steps ≡ [] → EndsOn page steps → ⊥
no-ends page steps none ends = go ends.0 (sym none ∙ ends.2)
  where
    go : (xs : List Step) → [] ≡ xs ++ Program page ends.1 ∷ [] → ⊥
    go [] e = cc
    go (x ∷ xs) e = cc

-- what is asked of the content after the steps
module _ (c z : Content) (steps : List Step) (w : Window) (cpu : Cpu) (leads : z ≡ after_all c steps) (gated : Gated steps w) where
  pub staged-is : (s : Started) → Valid z w cpu true s → (offsets : List ℕ) → AreLoop (window_bytes z w) offsets
      → (page : ℕ) → ((first : BlockView) → IsFirstBlock (window_bytes z w) first → page ≡ (w.start + first.at) / 256)
      → EndsOn page steps
      → ((loop : List BlockView) → loop_of (window_bytes z w) ≡ Ok loop → HasNoOtherBlock (window_bytes z w) loop)
      → Staged c steps w cpu
  staged-is s valid offsets are page page_is ends alone =
      let blocks = are.blocks in
      let found = loop-first blocks.0 blocks.1 in
      let same = page_is found.0 found.1 in record {
        gated = gated;
        image = s;
        valid = subst (λ x. Valid x w cpu true s) leads valid;
        loop = blocks.0;
        closes = subst (λ x. IsLoop (window_bytes x w) blocks.0) leads blocks.1;
        alone = subst (λ x. HasNoOtherBlock (window_bytes x w) blocks.0) leads
            (alone blocks.0 (loop_of-loop (window_bytes z w) blocks.0 blocks.1));
        first = found.0;
        begins = subst (λ x. IsFirstBlock (window_bytes x w) found.0) leads found.1;
        before = ends.0;
        bytes = ends.1;
        last = subst (λ p. steps ≡ ends.0 ++ Program p ends.1 ∷ []) same ends.2;
        off = subst (λ p. AllByRecursion (IsOffPage p) ends.0) same ends.3;
      }
    where
      loop-first : (bs : List BlockView) → IsLoop (window_bytes z w) bs
          → (b : BlockView) × IsFirstBlock (window_bytes z w) b
      loop-first [] loop = let some = loop.chain.some in absurd (omega (arith, some))
      loop-first (b ∷ bs) loop = (b, loop.chain.first b refl)

  pub is-staged : Staged c steps w cpu → (offsets : List ℕ) → AreLoop (window_bytes z w) offsets → (page : ℕ)
      → ((first : BlockView) → IsFirstBlock (window_bytes z w) first → page ≡ (w.start + first.at) / 256)
      → EndsOn page steps
  is-staged s offsets are page page_is =
      let begins = subst (λ x. IsFirstBlock (window_bytes x w) s.first) (sym leads) s.begins in
      let same = page_is s.first begins in (
        s.before,
        s.bytes,
        subst (λ p. steps ≡ s.before ++ Program p s.bytes ∷ []) (sym same) s.last,
        subst (λ p. AllByRecursion (IsOffPage p) s.before) (sym same) s.off,
      )

  pub staged-alone : Staged c steps w cpu → (loop : List BlockView) → loop_of (window_bytes z w) ≡ Ok loop
      → HasNoOtherBlock (window_bytes z w) loop
  staged-alone s loop closes =
      let bytes = window_bytes z w in
      let own = subst (λ x. IsLoop (window_bytes x w) s.loop) (sym leads) s.closes in
      subst (λ bs. HasNoOtherBlock bytes bs) (same-loop s.loop loop (loop_of bytes) (loop_of-loop bytes s.loop own) closes)
      (subst (λ x. HasNoOtherBlock (window_bytes x w) s.loop) (sym leads) s.alone)

  pub staged-valid : Staged c steps w cpu → (s : Started) × Valid z w cpu true s
  staged-valid s = (s.image, subst (λ x. Valid x w cpu true s.image) (sym leads) s.valid)

  -- what the code answers
  abbrev Answers : Bool → Type 0
  Answers b = (b ≡ true) ↔ Staged c steps w cpu

  pub unstaged : (r : Result Started Why) → ((s : Started) → Valid z w cpu true s → r ≡ Ok s) → is_err r ≡ true → Answers false
  unstaged r valid bad = (
    λ e. cc,
    λ s.
        let v = staged-valid s in
        let e : is_err r ≡ false = ap (λ x. is_err x) (valid v.0 v.1) in
        let f : true ≡ false = sym bad ∙ e in cc,
  )

  pub end-staged : (r : Result Started Why) → ((s : Started) → r ≡ Ok s → Valid z w cpu true s) → is_err r ≡ false
      → (offsets : List ℕ) → AreLoop (window_bytes z w) offsets → (page : ℕ)
      → ((first : BlockView) → IsFirstBlock (window_bytes z w) first → page ≡ (w.start + first.at) / 256)
      → EndsOn page steps → (b : Bool)
      → ((loop : List BlockView) → loop_of (window_bytes z w) ≡ Ok loop
      → (b ≡ true) ↔ HasNoOtherBlock (window_bytes z w) loop)
      → Answers b
  end-staged r valid good offsets are page page_is ends b others = go r valid good
    where
      go : (r : Result Started Why) → ((s : Started) → r ≡ Ok s → Valid z w cpu true s) → is_err r ≡ false → Answers b
      go (Err why) valid good = cc
      go (Ok s) valid good = (
        λ e. staged-is s (valid s refl) offsets are page page_is ends (λ loop closes. (others loop closes).0 e),
        λ st.
            let loop = are.blocks.0 in
            let closes = loop_of-loop (window_bytes z w) loop are.blocks.1 in
            (others loop closes).1 (staged-alone st loop closes),
      )

  pub other-end : (offsets : List ℕ) → AreLoop (window_bytes z w) offsets → (page : ℕ)
      → ((first : BlockView) → IsFirstBlock (window_bytes z w) first → page ≡ (w.start + first.at) / 256)
      → (b : Bool) → b ≡ false → (EndsOn page steps → b ≡ true) → Answers b
  other-end offsets are page page_is b bad ends = (
    λ e. let f : true ≡ false = sym e ∙ bad in cc,
    λ s. ends (is-staged s offsets are page page_is),
  )

  pub unlooped : (r : Result (List ℕ) LoopFault) (fault : LoopFault) → r ≡ Err fault
      → ((offsets : List ℕ) → AreLoop (window_bytes z w) offsets → r ≡ Ok offsets) → Answers false
  unlooped r fault bad each = (
    λ e. cc,
    λ s.
        let closes = subst (λ x. IsLoop (window_bytes x w) s.loop) (sym leads) s.closes in
        let ok = each (offsets_of s.loop) (record { blocks = (s.loop, closes, refl) }) in
        cc,
  )
