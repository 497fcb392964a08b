-- Two contents that differ in a window's first sector alone, as their windows see it.
use Rattle.std.proofs.Common.{◌≡◌, ◌≢◌, ◌⊎◌, inl, inr, ℕ, ◌+◌, ◌*◌, ◌<◌, ◌≤◌, List, length, take, drop, slice_index, Option, Some, None, refl, sym, ap, ◌∙◌, subst, arith, length-drop}
use Rattle.std.specs.Prelude.{ℤ, pos, negsuc}
use Rattle.std.proofs.lemmas.Bool.{cases_eq, cases_lt}
use Rattle.std.proofs.lemmas.List.{ext_get_or, get_or-drop, get_or_past}
use Rattle.pico_board.specs.declared.window.Window.{Window}
use Rattle.pico_board.specs.Content.{Content, window_bytes}
use Rattle.pico_board.specs.Sessions.{SameButSector}
use Rattle.pico_board.proofs.RangeLemmas.{get_or-window_bytes, length-window_bytes}
use Rattle.block_codec.specs.Blocks.{BlockAt, BlockView, block_size}
use Rattle.block_codec.specs.Reading.{block_at}
use Rattle.block_codec.proofs.AtLemmas.{BlockAt-from_found, BlockAt-local, BlockAt-unique, no_block-from_none}
use Rattle.boot_sweep.specs.Firms.{Stray}

module _ (z d : Content) (w : Window) (s : ℕ) (first : 4096 * s ≡ w.start) (in_z : w.start + w.len ≤ length z.flash)
    (in_d : w.start + w.len ≤ length d.flash) (same : SameButSector s z d) where
  abbrev u : List ℕ
  u = window_bytes z w

  abbrev v : List ℕ
  v = window_bytes d w

  pub windows-long : length v ≡ length u
  windows-long = length-window_bytes d w in_d ∙ sym (length-window_bytes z w in_z)

  -- behind the first sector they are the same
  pub behind : (k : ℕ) → 4096 ≤ k → slice_index v k ≡ slice_index u k
  behind k far = elim (cases_lt k w.len) [
    | inl lt ↦
        get_or-window_bytes d w k lt
        ∙ (same.outside.above (w.start + k) (omega (arith, first, far)) ∙ sym (get_or-window_bytes z w k lt))
    | inr ge ↦
        let one = length-window_bytes d w in_d in
        let two = length-window_bytes z w in_z in
        get_or_past v k 0 (omega (arith, ge, one)) ∙ sym (get_or_past u k 0 (omega (arith, ge, two)))
  ]

  drop-same : (x : ℕ) → 4096 ≤ x → drop x v ≡ drop x u
  drop-same x far =
      let one = length-drop x v in
      let two = length-drop x u in
      let long = windows-long in
      ext_get_or 0 (drop x v) (drop x u) (omega (arith, one, two, long))
      (λ k lt. get_or-drop x v k 0 ∙ (behind (x + k) (omega (arith, far)) ∙ sym (get_or-drop x u k 0)))

  -- a block that stands there stands in both
  block-behind : (x : ℕ) (b : BlockView) → 4096 ≤ x → BlockAt v x b → BlockAt u x b
  block-behind x b far at = BlockAt-local v u x b (ap (take (block_size b)) (drop-same x far)) at

  decide-link : (x y : ℤ) → (x ≡ y) ⊎ (x ≢ y)
  decide-link (pos m) (pos n) = elim (cases_eq m n) [ inl e ↦ inl (ap pos e) | inr ne ↦ inr (λ e. ne (same-pos m n e)) ]
    where
      same-pos : (m n : ℕ) → pos m ≡ pos n → m ≡ n
      same-pos m n e = cc
  decide-link (negsuc m) (negsuc n) =
      elim (cases_eq m n) [ inl e ↦ inl (ap negsuc e) | inr ne ↦ inr (λ e. ne (same-neg m n e)) ]
    where
      same-neg : (m n : ℕ) → negsuc m ≡ negsuc n → m ≡ n
      same-neg m n e = cc
  decide-link (pos m) (negsuc n) = inr (λ e. cc)
  decide-link (negsuc m) (pos n) = inr (λ e. cc)

  -- without a stray block, one with its link stands in z where a block stands in d
  pub unstray : (Stray z d w → ⊥) → (x : ℕ) (b : BlockView) → BlockAt v x b
      → (a : BlockView) × BlockAt u x a × (a.link ≡ b.link)
  unstray none x b at = elim (cases_lt x 4096) [
    | inr far ↦ (b, block-behind x b far at, refl)
    | inl near ↦
        let here : BlockAt v b.at b = subst (λ y. BlockAt v y b) (sym at.placed) at in
        let low : b.at < 4096 = subst (λ y. y < 4096) (sym at.placed) near in
        let found = go low here (block_at u b.at) refl in
        (found.0, subst (λ y. BlockAt u y found.0) at.placed found.1, found.2)
  ]
    where
      go : b.at < 4096 → BlockAt v b.at b → (o : Option BlockView) → block_at u b.at ≡ o
          → (a : BlockView) × BlockAt u b.at a × (a.link ≡ b.link)
      go low stands None is = absurd (none (
        b,
        record {
          low = low;
          stands = stands;
          new = λ a there like. no_block-from_none u b.at a is there;
        },
      ))
      go low stands (Some a) is = elim (decide-link a.link b.link) [
        | inl link ↦ (a, BlockAt-from_found u b.at a is, link)
        | inr differ ↦ absurd (none (
          b,
          record {
            low = low;
            stands = stands;
            new = λ y there like. differ
                (ap (λ (q : BlockView). q.link) (BlockAt-unique u b.at a y (BlockAt-from_found u b.at a is) there)
                ∙ like.link);
          },
        ))
      ]
