-- The loose bytes are those of the function, in ascending order.
use Rattle.std.proofs.Common.{◌≡◌, ◌≢◌, ◌⊎◌, inl, inr, ℕ, zero, suc, ◌+◌, ◌-◌, ◌/◌, ◌<◌, ◌≤◌, Bool, true, false, List, [], ◌∷◌, length, Option, Some, None, Ok, refl, sym, ap, ◌∙◌, subst, arith}
use Rattle.std.specs.Prelude.{◌↔◌, Contains, if◌then◌else◌, not, slice_index}
use Rattle.std.specs.List.{list_any}
use Rattle.std.specs.List.Sorted.{IsStrictlyIncreasing}
use Rattle.std.proofs.lemmas.Bool.{and_from, and_parts, eq-eqb, eqb-true, le-leb, leb-true, lt-ltb, ltb-true, or_from, or_parts}
use Rattle.pico_board.specs.declared.Step.{Step}
use Rattle.pico_board.specs.declared.step.Step.TheVariants.{Erase, Program, Raise}
use Rattle.pico_board.specs.declared.boot.Cpu.{Cpu}
use Rattle.pico_board.specs.declared.boot.BootKind.TheVariants.{Normal}
use Rattle.pico_board.specs.Content.{Content, window_bytes}
use Rattle.block_codec.specs.Blocks.{BlockView, block_size}
use Rattle.load_map.specs.declared.load.Load.{Load}
use Rattle.load_map.specs.Agree.{IsStoredAt}
use Rattle.image_check.specs.Addressing.{in_flash}
use Rattle.image_check.specs.Rules.{map_loads}
use Rattle.image_check.specs.SameImage.{HoldsImage}
use Rattle.image_check.proofs.SameLemmas.{held-image, held-loop}
use Rattle.slot_choice.specs.declared.choice.Choice.{Choice}
use Rattle.boot_rules.specs.declared.decision.Decision.{Decision}
use Rattle.boot_rules.specs.declared.decision.Decision.TheVariants.{Start, Bootsel}
use Rattle.boot_rules.specs.Chosen.{Chosen}
use Rattle.boot_rules.specs.Choosing.{decision_in}
use Rattle.boot_rules.proofs.DecisionLemmas.{chosen-decision, decision-chosen}
use Rattle.boot_sweep.specs.Moving.{MoveView}
use Rattle.boot_sweep.proofs.ResultLemmas.{start-holds}
use Rattle.boot_cuts.specs.Tears.{done_steps}
use Rattle.check_data.specs.Loose.{IsInBlock, IsLoose, IsProgrammed, is_covered, is_in_block, is_in_load, is_in_storage, is_loose, is_program_of, is_within, loose_by, loose_bytes, loose_in, loose_of, offsets_where}
use Rattle.check_data.proofs.ListLemmas.{false-true, in-cases, in-first, in-none, in-rest, passes, passing}

-- an offset is among those that pass exactly where it lies there and passes
pub in-offsets : (p : ℕ → Bool) (at n x : ℕ) → Contains (offsets_where p at n) x
    → (at ≤ x) × (x < at + n) × (p x ≡ true)
unfolding offsets_where
in-offsets p at zero x is = absurd (in-none x is)
in-offsets p at (suc n) x is = go (offsets_where p (at + 1) n) (p at) refl (in-offsets p (at + 1) n x) is
  where
    later : (at + 1 ≤ x) × (x < at + 1 + n) × (p x ≡ true) → (at ≤ x) × (x < at + suc n) × (p x ≡ true)
    later (low, high, passes) = (omega (arith, low), omega (arith, high), passes)

    go : (rest : List ℕ) (b : Bool) → p at ≡ b
        → (Contains rest x → (at + 1 ≤ x) × (x < at + 1 + n) × (p x ≡ true))
        → Contains (if b then at ∷ rest else rest) x → (at ≤ x) × (x < at + suc n) × (p x ≡ true)
    go rest false e ih is = later (ih is)
    go rest true e ih is = here (in-cases at x rest is)
      where
        here : (at ≡ x) ⊎ Contains rest x → (at ≤ x) × (x < at + suc n) × (p x ≡ true)
        here (inl first) = (omega (arith, first), omega (arith, first), ap p (sym first) ∙ e)
        here (inr others) = later (ih others)

pub offsets-in : (p : ℕ → Bool) (at n x : ℕ) → at ≤ x → x < at + n → p x ≡ true → Contains (offsets_where p at n) x
unfolding offsets_where
offsets-in p at zero x low high is = absurd (omega (arith, low, high))
offsets-in p at (suc n) x low high is = go (offsets_where p (at + 1) n) (p at) refl (offsets-in p (at + 1) n x)
  where
    cases : (at ≡ x) ⊎ (at + 1 ≤ x)
    cases = grind (arith, low)

    go : (rest : List ℕ) (b : Bool) → p at ≡ b → (at + 1 ≤ x → x < at + 1 + n → p x ≡ true → Contains rest x)
        → Contains (if b then at ∷ rest else rest) x
    go rest true e ih = elim cases [
      | inl first ↦ subst (λ y. Contains (at ∷ rest) y) first (in-first at rest)
      | inr others ↦ in-rest at x rest (ih others (omega (arith, high)) is)
    ]
    go rest false e ih = elim cases [
      | inl first ↦ false-true _ (ap p (sym first) ∙ e) is
      | inr others ↦ ih others (omega (arith, high)) is
    ]

low : (p : ℕ → Bool) (at n k : ℕ) → k < length (offsets_where p at n) → at ≤ slice_index (offsets_where p at n) k
unfolding offsets_where
low p at zero k lt = absurd (omega (arith, lt))
low p at (suc n) k lt = go (offsets_where p (at + 1) n) (p at) (low p (at + 1) n) k lt
  where
    go : (rest : List ℕ) (b : Bool) → ((j : ℕ) → j < length rest → at + 1 ≤ slice_index rest j) → (j : ℕ)
        → j < length (if b then at ∷ rest else rest) → at ≤ slice_index (if b then at ∷ rest else rest) j
    go rest true ih zero lt = omega arith
    go rest true ih (suc j) lt = let le = ih j (omega (arith, lt)) in omega (arith, le)
    go rest false ih j lt = let le = ih j lt in omega (arith, le)

pub offsets-rise : (p : ℕ → Bool) (at n : ℕ) → IsStrictlyIncreasing (offsets_where p at n)
unfolding offsets_where
offsets-rise p at zero k lt = absurd (omega (arith, lt))
offsets-rise p at (suc n) k lt =
    go (offsets_where p (at + 1) n) (p at) (offsets-rise p (at + 1) n) (low p (at + 1) n) k lt
  where
    go : (rest : List ℕ) (b : Bool) → ((j : ℕ) → j + 1 < length rest → slice_index rest j < slice_index rest (j + 1))
        → ((j : ℕ) → j < length rest → at + 1 ≤ slice_index rest j) → (j : ℕ)
        → j + 1 < length (if b then at ∷ rest else rest)
        → slice_index (if b then at ∷ rest else rest) j < slice_index (if b then at ∷ rest else rest) (j + 1)
    go rest true ih low zero lt = let le = low 0 (omega (arith, lt)) in omega (arith, le)
    go rest true ih low (suc j) lt =
        let e : suc j + 1 ≡ suc (j + 1) = omega arith in
        let le = ih j (omega (arith, lt)) in
        subst (λ m. slice_index rest j < slice_index (at ∷ rest) m) (sym e) le
    go rest false ih low j lt = ih j lt

within-is : (at n i : ℕ) → is_within at n i ≡ true → (at ≤ i) × (i < at + n)
within-is at n i e = let p = and_parts _ _ e in (leb-true at i p.0, ltb-true i (at + n) p.1)

is-within : (at n i : ℕ) → at ≤ i → i < at + n → is_within at n i ≡ true
is-within at n i low high = and_from _ _ (le-leb at i low) (lt-ltb i (at + n) high)

load-is : (i : ℕ) (load : Load) → is_in_load i load ≡ true → IsStoredAt load i
load-is i load e = go load.storage refl e
  where
    go : (o : Option ℕ) → load.storage ≡ o → is_in_storage i o load.size ≡ true → IsStoredAt load i
    go None is e = cc
    go (Some at) is e = let p = within-is at load.size i e in (at, is, p.0, p.1)

is-load : (i : ℕ) (load : Load) → IsStoredAt load i → is_in_load i load ≡ true
is-load i load (at, is, low, high) =
    ap (λ o. is_in_storage i o load.size) is ∙ is-within at load.size i low high

negated : (b : Bool) → (b ≡ true → ⊥) → not b ≡ true
negated true never = absurd (never refl)
negated false never = refl

unnegated : (b : Bool) → not b ≡ true → b ≡ false
unnegated true e = cc
unnegated false e = refl

not-so : (b : Bool) → (b ≡ true → ⊥) → b ≡ false
not-so true never = absurd (never refl)
not-so false never = refl

program-is : (page : ℕ) (step : Step) → is_program_of page step ≡ true
    → (bytes : List ℕ) × (step ≡ Program page bytes)
program-is page (Program p bytes) e = (bytes, ap (λ q. Program q bytes) (eqb-true p page e))
program-is page (Erase s) e = cc
program-is page (Raise r b) e = cc

is-program : (page : ℕ) (bytes : List ℕ) → is_program_of page (Program page bytes) ≡ true
is-program page bytes = eq-eqb page page refl

-- the byte at an offset is loose, in a window that begins at `start`
record IsLooseAt (flash : List ℕ) (moves : List MoveView) (start : ℕ) (loop : List BlockView) (loads : List Load)
    (x : ℕ) : Type 0 where
  not_clear : slice_index flash x ≢ 0
  not_erased : slice_index flash x ≢ 255
  programmed : IsProgrammed moves (x / 256)
  blocks : (b : BlockView) → Contains loop b → IsInBlock (x - start) b → ⊥
  storage : (load : Load) → Contains loads load → IsStoredAt load (x - start) → ⊥

module _ (flash : List ℕ) (moves : List MoveView) (start : ℕ) (loop : List BlockView) (loads : List Load)
    (x : ℕ) where
  loose-at : is_loose flash (done_steps moves) start loop loads x ≡ true → IsLooseAt flash moves start loop loads x
  loose-at e =
      let p = and_parts _ _ e in
      let q = and_parts _ _ p.1 in
      let w = and_parts _ _ q.0 in
      let r = passing (is_program_of (x / 256)) (done_steps moves) p.0 in
      let s = program-is (x / 256) r.0 r.2 in
      let none = or_parts (list_any (is_in_block (x - start)) loop) (list_any (is_in_load (x - start)) loads)
      (unnegated (is_covered loop loads (x - start)) q.1) in record {
        not_clear = λ is. false-true _ (unnegated _ w.0) (eq-eqb (slice_index flash x) 0 is);
        not_erased = λ is. false-true _ (unnegated _ w.1) (eq-eqb (slice_index flash x) 255 is);
        programmed = record { bytes = s.0; done = subst (λ y. Contains (done_steps moves) y) s.1 r.1 };
        blocks = λ b among is. false-true _ none.0
            (passes (is_in_block (x - start)) loop b among (is-within b.at (block_size b) (x - start) is.0 is.1));
        storage = λ load among is. false-true _ none.1
            (passes (is_in_load (x - start)) loads load among (is-load (x - start) load is));
      }

  at-loose : IsLooseAt flash moves start loop loads x → is_loose flash (done_steps moves) start loop loads x ≡ true
  at-loose l =
      and_from _ _ (passes (is_program_of (x / 256)) (done_steps moves) (Program (x / 256) l.programmed.bytes)
      l.programmed.done (is-program (x / 256) l.programmed.bytes))
      (and_from _ _ (and_from _ _
      (negated _ (λ is. l.not_clear (eqb-true (slice_index flash x) 0 is)))
      (negated _ (λ is. l.not_erased (eqb-true (slice_index flash x) 255 is))))
      (negated (is_covered loop loads (x - start)) (λ is. false-true _
      (or_from (list_any (is_in_block (x - start)) loop) (list_any (is_in_load (x - start)) loads)
      (not-so _ (λ some. let r = passing (is_in_block (x - start)) loop some in
      l.blocks r.0 r.1 (within-is r.0.at (block_size r.0) (x - start) r.2)))
      (not-so _ (λ some. let r = passing (is_in_load (x - start)) loads some in
      l.storage r.0 r.1 (load-is (x - start) r.0 r.2)))) is)))

module _ (z : Content) (cpu : Cpu) (moves : List MoveView) where
  -- the loose bytes by the image that a window holds
  held-loose : (choice : Choice) (h : HoldsImage cpu (window_bytes z choice.image.window) choice.image)
      → loose_in z cpu moves (Start choice)
      ≡ loose_by z.flash (done_steps moves) choice.image.window h.image.def.map_item (Ok h.sound.loop)
      (Ok h.sound.loads)
  held-loose choice h =
      let w = choice.image.window in
      let bytes = window_bytes z w in
      ap (loose_of z.flash (done_steps moves) w bytes) (held-image cpu bytes choice.image h)
      ∙ (ap (λ r. loose_by z.flash (done_steps moves) w h.image.def.map_item r
      (map_loads in_flash (length bytes) h.image.block h.image.def)) (held-loop cpu bytes choice.image h)
      ∙ ap (λ r. loose_by z.flash (done_steps moves) w h.image.def.map_item (Ok h.sound.loop) r) h.sound.map)

  loose-is : (x : ℕ) → Contains (loose_bytes z cpu moves) x → IsLoose z cpu moves x
  loose-is x is = go (decision_in z cpu Normal) refl is
    where
      go : (e : Decision) → decision_in z cpu Normal ≡ e → Contains (loose_in z cpu moves e) x → IsLoose z cpu moves x
      go (Bootsel fall) decided is = absurd (in-none x is)
      go (Start choice) decided is =
          let chosen = subst (λ e. Chosen z cpu Normal e) decided (decision-chosen z cpu Normal) in
          let h = start-holds z cpu choice chosen in
          here chosen h h.image.def.map_item refl (subst (λ xs. Contains xs x) (held-loose choice h) is)
        where
          here : Chosen z cpu Normal (Start choice)
              → (h : HoldsImage cpu (window_bytes z choice.image.window) choice.image)
              → (o : Option ℕ) → h.image.def.map_item ≡ o
              → Contains (loose_by z.flash (done_steps moves) choice.image.window o (Ok h.sound.loop)
              (Ok h.sound.loads)) x
              → IsLoose z cpu moves x
          here chosen h None mapped is = absurd (in-none x is)
          here chosen h (Some item) mapped is =
              let p = in-offsets (is_loose z.flash
              (done_steps moves) choice.image.window.start h.sound.loop h.sound.loads)
              choice.image.window.start choice.image.window.len x is in
              let l = loose-at z.flash moves choice.image.window.start h.sound.loop h.sound.loads x p.2 in record {
                choice = choice;
                chosen = chosen;
                held = h;
                item = item;
                mapped = mapped;
                from = p.0;
                to = p.1;
                not_clear = l.not_clear;
                not_erased = l.not_erased;
                programmed = l.programmed;
                blocks = l.blocks;
                storage = l.storage;
              }

  is-loose : (x : ℕ) → IsLoose z cpu moves x → Contains (loose_bytes z cpu moves) x
  is-loose x l =
      let w = l.choice.image.window in
      subst (λ e. Contains (loose_in z cpu moves e) x) (chosen-decision z cpu Normal (Start l.choice) l.chosen)
      (subst (λ xs. Contains xs x) (sym (held-loose l.choice l.held))
      (subst (λ o. Contains (loose_by z.flash (done_steps moves) l.choice.image.window o (Ok l.held.sound.loop)
      (Ok l.held.sound.loads)) x)
      (sym l.mapped)
      (offsets-in (is_loose z.flash
      (done_steps moves) l.choice.image.window.start l.held.sound.loop l.held.sound.loads)
      l.choice.image.window.start l.choice.image.window.len x l.from l.to
      (at-loose z.flash moves l.choice.image.window.start l.held.sound.loop l.held.sound.loads x (record {
        not_clear = l.not_clear;
        not_erased = l.not_erased;
        programmed = l.programmed;
        blocks = l.blocks;
        storage = l.storage;
      })))))

  pub loose-exactly : (x : ℕ) → Contains (loose_bytes z cpu moves) x ↔ IsLoose z cpu moves x
  loose-exactly x = (loose-is x, is-loose x)

  pub loose-rise : IsStrictlyIncreasing (loose_bytes z cpu moves)
  loose-rise = go (decision_in z cpu Normal) refl
    where
      none : (let xs : List ℕ = [] in IsStrictlyIncreasing xs)
      none k lt = absurd (omega (arith, lt))

      go : (e : Decision) → decision_in z cpu Normal ≡ e → IsStrictlyIncreasing (loose_in z cpu moves e)
      go (Bootsel fall) decided = none
      go (Start choice) decided =
          let h = start-holds z cpu choice (subst (λ e. Chosen z cpu Normal e) decided
          (decision-chosen z cpu Normal)) in
          subst (λ xs. IsStrictlyIncreasing xs) (sym (held-loose choice h))
          (by-map h.image.def.map_item h.sound.loop h.sound.loads)
        where
          by-map : (o : Option ℕ) (loop : List BlockView) (loads : List Load)
              → IsStrictlyIncreasing (loose_by z.flash (done_steps moves) choice.image.window o (Ok loop) (Ok loads))
          by-map None loop loads = none
          by-map (Some item) loop loads =
              offsets-rise (is_loose z.flash (done_steps moves) choice.image.window.start loop loads)
              choice.image.window.start choice.image.window.len
