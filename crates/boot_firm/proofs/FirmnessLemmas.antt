-- An image that a window holds is firm exactly where the function says so.
use Rattle.std.proofs.Common.{◌≡◌, ◌↔◌, ℕ, zero, suc, ◌*◌, ◌/◌, ◌<◌, ◌==◌, ◌||◌, Bool, true, false, List, [], ◌∷◌, length, slice_get, Option, Some, None, Ok, refl, sym, ap, ◌∙◌, subst, inl, inr, arith}
use Rattle.std.specs.Prelude.{◌&&◌, Contains, is_some}
use Rattle.std.specs.List.{AllByRecursion, list_any}
use Rattle.std.proofs.lemmas.Bool.{and_from, and_parts, or_left, or_right, eqb-true, eq-eqb, le-leb, leb-true, cases_lt}
use Rattle.block_codec.specs.Blocks.{BlockAt, BlockView}
use Rattle.block_codec.specs.Reading.{block_at}
use Rattle.block_codec.proofs.AtLemmas.{BlockAt-from_found, BlockAt-unique, block_at-stands}
use Rattle.block_loop.specs.Loop.{IsLoop, loop_of}
use Rattle.load_map.specs.declared.load.Load.{Load}
use Rattle.pico_board.specs.declared.boot.Cpu.{Cpu}
use Rattle.image_def.specs.declared.started.Started.{Started}
use Rattle.image_check.specs.declared.why.Why.TheVariants.{Map}
use Rattle.image_check.specs.Addressing.{in_flash}
use Rattle.image_check.specs.Answers.{fault_as}
use Rattle.image_check.specs.Image.{defined_in}
use Rattle.image_check.specs.Rules.{map_answer}
use Rattle.image_check.specs.SameImage.{HoldsImage}
use Rattle.image_check.proofs.SameLemmas.{held-image, held-loop}
use Rattle.boot_sweep.specs.Firms.{HasNoOtherBlock, IsFirm, LoadsFront}
use Rattle.boot_firm.specs.Firmness.{has_front, has_no_other, is_alone, is_at_start, is_covered, is_firm, is_of_loop, loads_front}

-- a load that has all before an offset
front-is : (e : ℕ) (loads : List Load) → loads_front e loads ≡ true → LoadsFront e loads
front-is e [] h = cc
front-is e (load ∷ loads) h = go load.storage refl (and_parts _ _ h)
  where
    go : (s : Option ℕ) → load.storage ≡ s → (is_at_start load.storage ≡ true) × ((load.size == e) ≡ true)
        → (load.storage ≡ Some 0) × (load.size ≡ e)
    go None is p = let no : false ≡ true = sym (ap is_at_start is) ∙ p.0 in cc
    go (Some start) is p =
        let at : (start == 0) ≡ true = sym (ap is_at_start is) ∙ p.0 in
        (is ∙ ap Some (eqb-true start 0 at), eqb-true load.size e p.1)

is-front : (e : ℕ) (loads : List Load) → LoadsFront e loads → loads_front e loads ≡ true
is-front e [] h = absurd h
is-front e (load ∷ loads) h = and_from _ _ (ap is_at_start h.0) (eq-eqb load.size e h.1)

-- what stands at each place stands by recursion
stand-all : (bytes : List ℕ) (loop : List BlockView)
    → ((i : ℕ) (b : BlockView) → slice_get loop i ≡ Some b → BlockAt bytes b.at b)
    → AllByRecursion (λ (c : BlockView). BlockAt bytes c.at c) loop
stand-all bytes [] f = tt
stand-all bytes (c ∷ loop) f = (f 0 c refl, stand-all bytes loop (λ i b is. f (suc i) b is))

-- a block that stands where one of the loop does is that one
of-loop : (bytes : List ℕ) (b : BlockView) → BlockAt bytes b.at b → (loop : List BlockView)
    → AllByRecursion (λ (c : BlockView). BlockAt bytes c.at c) loop
    → list_any (λ (c : BlockView). c.at == b.at) loop ≡ true → Contains loop b
of-loop bytes b stands [] all h = cc
of-loop bytes b stands (c ∷ loop) all h = go (of-loop bytes b stands loop all.1) (c.at == b.at) refl h
  where
    go : (list_any (λ (c : BlockView). c.at == b.at) loop ≡ true → Contains loop b) → (t : Bool)
        → (c.at == b.at) ≡ t → (t || list_any (λ (c : BlockView). c.at == b.at) loop) ≡ true
        → Contains (c ∷ loop) b
    go rest true is e =
        let at : c.at ≡ b.at = eqb-true c.at b.at is in
        let same : c ≡ b = BlockAt-unique bytes b.at c b (subst (λ x. BlockAt bytes x c) at all.0) stands in
        (0, omega arith, same)
    go rest false is e = let t = rest e in let lt = t.1 in (suc t.0, omega arith, t.2)

in-loop : (b : BlockView) (loop : List BlockView) → Contains loop b
    → list_any (λ (c : BlockView). c.at == b.at) loop ≡ true
in-loop b [] h = let lt = h.1 in absurd (omega arith)
in-loop b (c ∷ loop) (zero, lt, is) =
    or_left (c.at == b.at) _ (eq-eqb c.at b.at (ap (λ (x : BlockView). x.at) is))
in-loop b (c ∷ loop) (suc i, lt, is) =
    or_right (c.at == b.at) _ (in-loop b loop (i, omega (arith, lt), is))

-- at each of the first places
no-other-at : (bytes : List ℕ) (loop : List BlockView) (n k : ℕ) → has_no_other bytes loop n ≡ true → k < n
    → is_of_loop loop (block_at bytes (4 * k)) ≡ true
unfolding has_no_other
no-other-at bytes loop zero k h lt = absurd (omega (arith, lt))
no-other-at bytes loop (suc n) k h lt =
    let p = and_parts _ _ h in elim (cases_lt k n) [
      | inl less ↦ no-other-at bytes loop n k p.1 less
      | inr past ↦
          let same : n ≡ k = omega (arith, past, lt) in
          subst (λ x. is_of_loop loop (block_at bytes (4 * x)) ≡ true) same p.0
    ]

each-no-other : (bytes : List ℕ) (loop : List BlockView) (n : ℕ)
    → ((k : ℕ) → k < n → is_of_loop loop (block_at bytes (4 * k)) ≡ true) → has_no_other bytes loop n ≡ true
unfolding has_no_other
each-no-other bytes loop zero all = refl
each-no-other bytes loop (suc n) all =
    and_from _ _ (all n (omega arith)) (each-no-other bytes loop n (λ k lt. all k (omega (arith, lt))))

pub alone-is : (bytes : List ℕ) (loop : List BlockView) → IsLoop bytes loop → has_no_other bytes loop 1024 ≡ true
    → HasNoOtherBlock bytes loop
alone-is bytes loop closes h x b low stands =
    let whole = stands.aligned in
    let four : 4 * (x / 4) ≡ x = omega arith in
    let at : b.at ≡ x = stands.placed in
    let here : block_at bytes (4 * (x / 4)) ≡ Some b = ap (block_at bytes) four ∙ block_at-stands bytes x b stands in
    of-loop bytes b (subst (λ y. BlockAt bytes y b) (sym at) stands) loop (stand-all bytes loop closes.chain.stand)
    (sym (ap (is_of_loop loop) here) ∙ no-other-at bytes loop 1024 (x / 4) h (omega (arith, low)))

pub is-alone : (bytes : List ℕ) (loop : List BlockView) → HasNoOtherBlock bytes loop → has_no_other bytes loop 1024 ≡ true
is-alone bytes loop none =
    each-no-other bytes loop 1024 (λ k lt. go k lt (block_at bytes (4 * k)) refl)
  where
    go : (k : ℕ) → k < 1024 → (o : Option BlockView) → block_at bytes (4 * k) ≡ o
        → is_of_loop loop (block_at bytes (4 * k)) ≡ true
    go k lt None is = ap (is_of_loop loop) is
    go k lt (Some b) is =
        ap (is_of_loop loop) is
        ∙ in-loop b loop (none (4 * k) b (omega (arith, lt)) (BlockAt-from_found bytes (4 * k) b is))

module _ (cpu : Cpu) (bytes : List ℕ) (s : Started) (h : HoldsImage cpu bytes s) where
  listed : map_answer in_flash (length bytes) h.image.block h.image.def ≡ Ok h.sound.loads
  listed = ap (λ r. fault_as Map r) h.sound.map

  covered : is_covered bytes s.block (defined_in cpu bytes)
      ≡ (is_some h.image.def.digest && loads_front s.block h.sound.loads)
  covered =
      ap (is_covered bytes s.block) (held-image cpu bytes s h)
      ∙ ap (λ r. is_some h.image.def.digest && has_front s.block r) listed

  alone : is_alone bytes (loop_of bytes) ≡ has_no_other bytes h.sound.loop 1024
  alone = ap (is_alone bytes) (held-loop cpu bytes s h)

  firm-is : is_firm cpu bytes s ≡ true → IsFirm cpu bytes s
  firm-is is =
      let p = and_parts _ _ is in
      let q = and_parts _ _ p.1 in
      let r = and_parts _ _ (sym covered ∙ q.0) in record {
        held = h;
        late = leb-true 4096 s.block p.0;
        hashed = r.0;
        front = front-is s.block h.sound.loads r.1;
        alone = alone-is bytes h.sound.loop h.sound.defined.closes (sym alone ∙ q.1);
      }

is-firm : (cpu : Cpu) (bytes : List ℕ) (s : Started) → IsFirm cpu bytes s → is_firm cpu bytes s ≡ true
is-firm cpu bytes s f =
    and_from _ _ (le-leb 4096 s.block f.late) (and_from _ _
    (covered cpu bytes s f.held ∙ and_from _ _ f.hashed
    (is-front s.block f.held.sound.loads f.front))
    (alone cpu bytes s f.held ∙ is-alone bytes f.held.sound.loop f.alone))

pub firm-decides : (cpu : Cpu) (bytes : List ℕ) (s : Started) → HoldsImage cpu bytes s
    → (is_firm cpu bytes s ≡ true) ↔ IsFirm cpu bytes s
firm-decides cpu bytes s h = (firm-is cpu bytes s h, is-firm cpu bytes s)

-- an answer that is true exactly of a firm image is that of the function
pub firm-answered : (cpu : Cpu) (bytes : List ℕ) (s : Started) (r : Bool) → HoldsImage cpu bytes s
    → (r ≡ true) ↔ IsFirm cpu bytes s → r ≡ is_firm cpu bytes s
firm-answered cpu bytes s true h is = sym (is-firm cpu bytes s (is.0 refl))
firm-answered cpu bytes s false h is = go (is_firm cpu bytes s) refl
  where
    go : (b : Bool) → is_firm cpu bytes s ≡ b → false ≡ is_firm cpu bytes s
    go true e = is.1 (firm-is cpu bytes s h e) ∙ sym e
    go false e = sym e
