-- At most two lines for each of the final programs say chance, or one where there are none.
use Rattle.std.proofs.Common.{◌≡◌, inl, inr, ℕ, suc, ◌+◌, ◌*◌, ◌<◌, ◌≤◌, max, Bool, true, false, cond, List, [], ◌∷◌, ◌++◌, All, length, take, slice_get, Option, Some, None, refl, sym, ap, ◌∙◌, subst, arith}
use Rattle.std.specs.Prelude.{◌==◌, nat_le, if◌then◌else◌, count_by}
use Rattle.std.specs.List.{AllByRecursion}
use Rattle.std.proofs.lemmas.Bool.{eqb-false, eqb-true, leb-true}
use Rattle.std.proofs.lemmas.List.Sums.{sum_by-cons}
use Rattle.pico_board.specs.declared.Step.{Step}
use Rattle.pico_board.specs.declared.step.Step.TheVariants.{Erase}
use Rattle.pico_board.specs.declared.boot.Cpu.{Cpu}
use Rattle.pico_board.specs.declared.window.Window.{Window}
use Rattle.pico_board.specs.Content.{Content, IsContent}
use Rattle.pico_board.specs.Sessions.{Gated, IsGated, Unfinished}
use Rattle.pico_board.specs.Cuts.{torn_by}
use Rattle.pico_board.specs.Steps.{after, after_all}
use Rattle.pico_board.proofs.GateLemmas.{sixteen}
use Rattle.pico_board.proofs.SettledCutLemmas.{cut_before_final, cut_elsewhere}
use Rattle.boot_sweep.specs.declared.results.CutResult.{CutResult}
use Rattle.boot_sweep.specs.declared.results.CutResult.TheVariants.{Former, Finished, Chance}
use Rattle.boot_sweep.specs.Comparing.{result_of}
use Rattle.boot_sweep.specs.Refusals.{sweep_refusal}
use Rattle.boot_session.specs.Slots.{IsSlot, outside_from, session_slot}
use Rattle.boot_sweep.specs.Sweeps.{Line, content_after_cut, content_at_line, is_chance, is_chance_result, swept_line, lines_from, sweep_lines}
use Rattle.boot_sweep.proofs.ChanceLemmas.{line-cut, line-accident, slot-inside}
use Rattle.boot_sweep.proofs.LineLemmas.{IsLineOf, all-by, all-lines}
use Rattle.boot_sweep.proofs.RefusalLemmas.{no-reason, sweepable}
use Rattle.boot_session.proofs.SlotLemmas.{slot-found}

-- the lines that may say chance, where e steps stand between the first one and the final programs:
-- within the first step; and within each of the final programs, and before each but the first
abbrev may_chance : ℕ → Line → Bool
may_chance e line =
    if line.number == 0 then line.within
    else if nat_le line.number e then false
    else if line.number == e + 1 then line.within
    else true

abbrev one_if : (Line → Bool) → Line → ℕ
one_if p line = cond (p line) 1 0

-- where what passes p passes q, no more pass p
count-mono : (p q : Line → Bool) (lines : List Line) → AllByRecursion (λ x. p x ≡ true → q x ≡ true) lines
    → count_by p lines ≤ count_by q lines
count-mono p q [] all = omega arith
count-mono p q (x ∷ xs) all =
    let one : count_by p (x ∷ xs) ≡ cond (p x) 1 0 + count_by p xs = sum_by-cons (λ y. cond (p y) 1 0) x xs in
    let two : count_by q (x ∷ xs) ≡ cond (q x) 1 0 + count_by q xs = sum_by-cons (λ y. cond (q y) 1 0) x xs in
    let most = go (p x) (q x) all.0 (count-mono p q xs all.1) in
    omega (arith, one, two, most)
  where
    go : (a b : Bool) → (a ≡ true → b ≡ true) → count_by p xs ≤ count_by q xs
        → cond a 1 0 + count_by p xs ≤ cond b 1 0 + count_by q xs
    go true true f rest = omega (arith, rest)
    go true false f rest = let e : false ≡ true = f refl in cc
    go false true f rest = omega (arith, rest)
    go false false f rest = omega (arith, rest)

module _ (judge : Content → CutResult) (pattern : List ℕ) (e : ℕ) where
  abbrev counted : ℕ → Content → List Step → ℕ
  counted k b steps = count_by (may_chance e) (lines_from judge pattern k b steps)

  abbrev pair : ℕ → Content → Step → ℕ
  pair k b step =
      cond (may_chance e (swept_line judge b pattern k step false)) 1 0
      + cond (may_chance e (swept_line judge b pattern k step true)) 1 0

  sums : (x y z : ℕ) → x + (y + z) ≡ x + y + z
  sums x y z = omega arith

  counted-more : (k : ℕ) (b : Content) (step : Step) (steps : List Step)
      → counted k b (step ∷ steps) ≡ pair k b step + counted (k + 1) (after b step) steps
  counted-more k b step steps =
      let first = swept_line judge b pattern k step false in
      let second = swept_line judge b pattern k step true in
      let rest = lines_from judge pattern (k + 1) (after b step) steps in
      let one : count_by (may_chance e) (first ∷ (second ∷ rest))
      ≡ cond (may_chance e first) 1 0 + count_by (may_chance e) (second ∷ rest) =
      sum_by-cons (λ y. cond (may_chance e y) 1 0) first (second ∷ rest) in
      let two : count_by (may_chance e) (second ∷ rest)
      ≡ cond (may_chance e second) 1 0 + count_by (may_chance e) rest =
      sum_by-cons (λ y. cond (may_chance e y) 1 0) second rest in
      one ∙ (ap (λ n. cond (may_chance e first) 1 0 + n) two
      ∙ sums (cond (may_chance e first) 1 0) (cond (may_chance e second) 1 0) (count_by (may_chance e) rest))

  counted-append : (k : ℕ) (b : Content) (xs ys : List Step)
      → counted k b (xs ++ ys) ≡ counted k b xs + counted (k + length xs) (after_all b xs) ys
  counted-append k b [] ys =
      let n : k ≡ k + 0 = omega arith in
      let none : counted k b [] ≡ 0 = refl in
      let same : counted k b ys ≡ counted (k + 0) b ys = ap (λ j. counted j b ys) n in
      omega (arith, none, same)
  counted-append k b (x ∷ xs) ys =
      let n : k + 1 + length xs ≡ k + suc (length xs) = omega arith in
      let rest = counted-append (k + 1) (after b x) xs ys
      ∙ ap (λ j. counted (k + 1) (after b x) xs + counted j (after_all (after b x) xs) ys) n in
      let one = counted-more k b x (xs ++ ys) in
      let two = counted-more k b x xs in
      omega (arith, one, two, rest)

  pair-most : (k : ℕ) (b : Content) (step : Step) → pair k b step ≤ 2
  pair-most k b step =
      go (may_chance e (swept_line judge b pattern k step false))
      (may_chance e (swept_line judge b pattern k step true))
    where
      go : (x y : Bool) → cond x 1 0 + cond y 1 0 ≤ 2
      go true true = omega arith
      go true false = omega arith
      go false true = omega arith
      go false false = omega arith

  counted-most : (k : ℕ) (b : Content) (steps : List Step) → counted k b steps ≤ 2 * length steps
  counted-most k b [] = let none : counted k b [] ≡ 0 = refl in omega (arith, none)
  counted-most k b (step ∷ steps) =
      let one = counted-more k b step steps in
      let most = pair-most k b step in
      let rest = counted-most (k + 1) (after b step) steps in
      omega (arith, one, most, rest)

  pair-first : (b : Content) (step : Step) → pair 0 b step ≡ 1
  pair-first b step = refl

  pair-none : (k : ℕ) (b : Content) (step : Step) → 1 ≤ k → k ≤ e → pair k b step ≡ 0
  pair-none k b step some few =
      let a : (k == 0) ≡ false = grind (arith, some) in
      let c : nat_le k e ≡ true = grind (arith, few) in
      ap (λ x. cond (if x then false else if nat_le k e then false else if k == e + 1 then false else true) 1 0
      + cond (if x then true else if nat_le k e then false else if k == e + 1 then true else true) 1 0) a
      ∙ ap (λ x. cond (if x then false else if k == e + 1 then false else true) 1 0
      + cond (if x then false else if k == e + 1 then true else true) 1 0) c

  counted-none : (k : ℕ) (b : Content) (steps : List Step) → 1 ≤ k → k + length steps ≤ e + 1
      → counted k b steps ≡ 0
  counted-none k b [] some few = refl
  counted-none k b (step ∷ steps) some few =
      let one = counted-more k b step steps in
      let here = pair-none k b step some (omega (arith, few)) in
      let rest = counted-none (k + 1) (after b step) steps (omega arith) (omega (arith, few)) in
      omega (arith, one, here, rest)

  pair-final : (b : Content) (step : Step) → pair (e + 1) b step ≡ 1
  pair-final b step =
      let a : (e + 1 == 0) ≡ false = grind (arith) in
      let c : nat_le (e + 1) e ≡ false = grind (arith) in
      let d : (e + 1 == e + 1) ≡ true = grind (arith) in
      ap (λ x. cond (if x then false else if nat_le (e + 1) e then false else if e + 1 == e + 1 then false else true)
      1 0
      + cond (if x then true else if nat_le (e + 1) e then false else if e + 1 == e + 1 then true else true) 1 0) a
      ∙ (ap (λ x. cond (if x then false else if e + 1 == e + 1 then false else true) 1 0
      + cond (if x then false else if e + 1 == e + 1 then true else true) 1 0) c
      ∙ ap (λ x. cond (if x then false else true) 1 0 + cond (if x then true else true) 1 0) d)

  counted-final : (b : Content) (last : List Step) → counted (e + 1) b last + 1 ≤ max 1 (2 * length last)
  counted-final b [] = let none : counted (e + 1) b [] ≡ 0 = refl in omega (arith, none)
  counted-final b (step ∷ steps) =
      let one = counted-more (e + 1) b step steps in
      let here = pair-final b step in
      let rest = counted-most (e + 1 + 1) (after b step) steps in
      omega (arith, one, here, rest)

  pub counted-all : (b : Content) (s : ℕ) (elsewhere last : List Step) → length elsewhere ≡ e
      → counted 0 b (Erase s ∷ (elsewhere ++ last)) ≤ max 1 (2 * length last)
  counted-all b s elsewhere last long =
      let one = counted-more 0 b (Erase s) (elsewhere ++ last) in
      let first = pair-first b (Erase s) in
      let two = counted-append 1 (after b (Erase s)) elsewhere last in
      let none = counted-none 1 (after b (Erase s)) elsewhere (omega arith) (omega (arith, long)) in
      let n : 1 + length elsewhere ≡ e + 1 = omega (arith, long) in
      let final = counted-final (after_all (after b (Erase s)) elsewhere) last in
      let same = ap (λ k. counted k (after_all (after b (Erase s)) elsewhere) last) n in
      omega (arith, one, first, two, none, final, same)

chance-is : (r : CutResult) → is_chance_result r ≡ true → r ≡ Chance
chance-is Former e = cc
chance-is Finished e = cc
chance-is Chance e = refl

module _ (c : Content) (cpu : Cpu) (pattern : List ℕ) (steps : List Step) (w : Window) (right : IsContent c)
    (small : All (λ b. b < 256) pattern) (none : sweep_refusal c cpu steps ≡ None) (slot : IsSlot c cpu steps w)
    (s : ℕ) (elsewhere last : List Step) (g : IsGated steps w s elsewhere last) where
  inside : w.start + w.len ≤ length c.flash
  inside = slot-inside c cpu steps w right slot

  -- before a step nothing has changed
  cut-before : (line : Line) → line.within ≡ false
      → content_at_line c pattern steps line ≡ after_all c (take line.number steps)
  cut-before line is =
      let b = after_all c (take line.number steps) in
      ap (λ x. if x then torn_by pattern b line.step else b) is

  abbrev judge : Content → CutResult
  judge d = result_of c (after_all c steps) d cpu

  chance-may : (line : Line) → IsLineOf judge c pattern 0 steps line → is_chance line ≡ true
      → may_chance (length elsewhere) line ≡ true
  chance-may line is chance =
      go (line.number == 0) (nat_le line.number (length elsewhere)) (line.number == length elsewhere + 1)
      line.within refl
      refl refl refl
    where
      same : is.place ≡ line.number
      same = let n = is.number in omega (arith, n)

      stands : slice_get steps line.number ≡ Some line.step
      stands = ap (slice_get steps) (sym same) ∙ is.step

      unfinished : Unfinished c steps w (content_at_line c pattern steps line)
      unfinished =
          (line-accident c cpu pattern steps line w right small none slot stands
          (is.result ∙ ap (λ p. judge (content_after_cut
          (after_all c (take p steps)) pattern line.step line.within)) same)
          (chance-is line.result chance)).0

      go : (a b d x : Bool) → (line.number == 0) ≡ a → nat_le line.number (length elsewhere) ≡ b
          → (line.number == length elsewhere + 1) ≡ d → line.within ≡ x
          → (if a then x else if b then false else if d then x else true) ≡ true
      go true b d true p q r t = refl
      go true b d false p q r t =
          let zero_is = eqb-true line.number 0 p in
          absurd (unfinished.moved (cut-before line t ∙ ap (λ n. after_all c (take n steps)) zero_is))
      go false true d x p q r t =
          let few = leb-true line.number (length elsewhere) q in
          let some = eqb-false line.number 0 p in
          absurd (cut_elsewhere c steps w s elsewhere last line.number line.step
          (content_at_line c pattern steps line) g inside
          (omega (arith, some)) few
          (line-cut c pattern steps w line right small (inr (s, elsewhere, last, g)) inside stands) unfinished)
      go false false true true p q r t = refl
      go false false true false p q r t =
          let at = eqb-true line.number (length elsewhere + 1) r in
          let n : line.number ≡ 1 + length elsewhere = omega (arith, at) in
          absurd (cut_before_final c steps w s elsewhere last g inside
          (subst (λ d. Unfinished c steps w d) (cut-before line t ∙ ap (λ n. after_all c (take n steps)) n) unfinished))
      go false false false x p q r t = refl

  pub chances : count_by is_chance (sweep_lines c cpu pattern steps) ≤ max 1 (2 * length last)
  chances =
      let mono = count-mono is_chance (may_chance (length elsewhere)) (lines_from judge pattern 0 c steps)
      (all-by (IsLineOf judge c pattern 0 steps)
      (λ line. is_chance line ≡ true → may_chance (length elsewhere) line ≡ true)
      (lines_from judge pattern 0 c steps) (λ line is. chance-may line is) (all-lines judge pattern c 0 steps)) in
      let most = subst (λ xs. counted judge pattern (length elsewhere) 0 c xs ≤ max 1 (2 * length last)) (sym g.whole)
      (counted-all judge pattern (length elsewhere) c s elsewhere last refl) in
      omega (arith, mono, most)

some-none : (k : ℕ) → Some k ≡ None → ⊥
some-none k e = cc

cons-none : (x : Step) (xs : List Step) → (x ∷ xs) ≡ [] → ⊥
cons-none x xs e = cc

pub few-chances : (c : Content) (cpu : Cpu) (pattern : List ℕ) (steps : List Step) → IsContent c
    → All (λ b. b < 256) pattern → sweep_refusal c cpu steps ≡ None
    → count_by is_chance (sweep_lines c cpu pattern steps) ≤ 32
few-chances c cpu pattern [] right small none = omega arith
few-chances c cpu pattern (step ∷ steps) right small none = go (session_slot c cpu (step ∷ steps)) refl
  where
    go : (o : Option Window) → session_slot c cpu (step ∷ steps) ≡ o
        → count_by is_chance (sweep_lines c cpu pattern (step ∷ steps)) ≤ 32
    go None is =
        absurd (some-none 0 (sym (ap (λ o. outside_from 0 o (step ∷ steps)) is)
        ∙ (no-reason c cpu (step ∷ steps) none).inside))
    go (Some w) is =
        let slot = slot-found c cpu (step ∷ steps) w is in
        of-gated w slot (sweepable c cpu (step ∷ steps) w right none slot).gated
      where
        of-gated : (w : Window) → IsSlot c cpu (step ∷ steps) w → Gated (step ∷ steps) w
            → count_by is_chance (sweep_lines c cpu pattern (step ∷ steps)) ≤ 32
        of-gated w slot (inl e) = absurd (cons-none step steps e)
        of-gated w slot (inr (s, e, l, g)) =
            let most = chances c cpu pattern (step ∷ steps) w right small none slot s e l g in
            let few = sixteen (step ∷ steps) w s e l g in
            omega (arith, most, few)
