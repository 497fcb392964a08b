-- Items do not overlap, so a change of one header changes no word that another item has behind its own.
use Rattle.std.proofs.Common.{◌≡◌, ◌≢◌, ℕ, zero, suc, ◌+◌, ◌-◌, ◌*◌, ◌/◌, ◌%◌, ◌<◌, ◌≤◌, ◌&&◌, min, Bool, true, false, cond, eqb, List, [], ◌∷◌, length, drop, get_or, slice_range, Option, Some, None, refl, sym, ap, ◌∙◌, inl, inr, arith, length-take, length-drop}
use Rattle.std.proofs.Math.Dec.{leb}
use Rattle.std.proofs.lemmas.Bool.{eqb-true, cases_eq, eq-eqb, and_left}
use Rattle.std.proofs.lemmas.Bool.Decides.{nat_tests}
use Rattle.std.proofs.lemmas.Grind.{get_or_after_one}
use Rattle.std.proofs.lemmas.List.{ext_get_or, get_or-take}
use Rattle.std.proofs.lemmas.Option.{none-some, same_Some}
use Rattle.std.specs.List.{slice_get}
use Rattle.pico_board.proofs.ConfinementLemmas.{slice_range_ext}
use Rattle.std.specs.Option.{is_some, unwrap_or}
use Rattle.block_codec.specs.declared.items.Item.{Item}
use Rattle.block_codec.specs.declared.versions.Version.{Version}
use Rattle.block_codec.specs.declared.kinds.TheConstants.{LOAD_MAP, HASH_DEF, VERSION}
use Rattle.block_codec.specs.Items.{item_at, items_from, size_of}
use Rattle.block_codec.specs.Kinds.{version_words, version_of, hash_count_of, digest_of}
use Rattle.block_codec.specs.Words.{bytes_of, low_half, high_half}
use Rattle.image_def.specs.Rows.{version_tail, rollback_in, rows_in}
use Rattle.image_def.specs.Faults.{is_right_version, is_well_formed_as}
use Rattle.image_def.specs.Kinds.{has_right_size}
use Rattle.image_def.proofs.RowLemmas.{tail-low, tail-high, length-halves}

from_place : (place k : ℕ) (ws : List ℕ) (j : ℕ) (x : Item) → slice_get (items_from place k ws) j ≡ Some x
    → place + k ≤ x.first
from_place place k [] j x e = absurd (none-some x e)
from_place place zero (h ∷ ws) zero x e = let s : place ≡ x.first =
    ap (λ (i : Item). i.first) (same_Some (item_at place h) x e) in omega (arith, s)
from_place place zero (h ∷ ws) (suc j) x e = let r = from_place (place + 1) (size_of h - 1) ws j x e in omega (arith, r)
from_place place (suc k) (w ∷ ws) j x e = let r = from_place (place + 1) k ws j x e in omega (arith, r)

-- two items are one, or the first ends before the other begins, or it begins behind the other's header
pub data Lies (i j : ℕ) (x y : Item) : Type 0 where
  Same : i ≡ j → Lies i j x y
  Before : x.first + x.words ≤ y.first → x.first < y.first → Lies i j x y
  Behind : y.first < x.first → Lies i j x y

lies_further : {i j : ℕ} {x y : Item} → Lies i j x y → Lies (suc i) (suc j) x y
lies_further (Same e) = Same (ap suc e)
lies_further (Before a b) = Before a b
lies_further (Behind a) = Behind a

pub lies : (place k : ℕ) (ws : List ℕ) (i j : ℕ) (x y : Item) → slice_get (items_from place k ws) i ≡ Some x
    → slice_get (items_from place k ws) j ≡ Some y → Lies i j x y
lies place k [] i j x y e f = absurd (none-some x e)
lies place zero (h ∷ ws) zero zero x y e f = Same refl
lies place zero (h ∷ ws) zero (suc j) x y e f =
    let s = same_Some (item_at place h) x e in
    let first : place ≡ x.first = ap (λ (i : Item). i.first) s in
    let size : size_of h ≡ x.words = ap (λ (i : Item). i.words) s in
    let r = from_place (place + 1) (size_of h - 1) ws j y f in
    Before (omega (arith, first, size, r)) (omega (arith, first, size, r))
lies place zero (h ∷ ws) (suc i) zero x y e f =
    let first : place ≡ y.first = ap (λ (i : Item). i.first) (same_Some (item_at place h) y f) in
    let r = from_place (place + 1) (size_of h - 1) ws i x e in
    Behind (omega (arith, first, r))
lies place zero (h ∷ ws) (suc i) (suc j) x y e f = lies_further (lies (place + 1) (size_of h - 1) ws i j x y e f)
lies place (suc k) (w ∷ ws) i j x y e f = lies (place + 1) k ws i j x y e f

abbrev some_version : ℕ → Option Version
some_version w = Some (record { major = high_half w; minor = low_half w })

half_room : (k high words : ℕ) → words ≡ version_words high → 1 ≤ high → k ≤ high → 2 + k / 2 < words
half_room k high words e some le = grind (arith, nat_tests)

two_words : (high words : ℕ) → words ≡ version_words high → 1 < words
two_words high words e = grind (arith, nat_tests)

-- a VERSION item of a wrong size is wrong
wrong : (words : List ℕ) (x : Item) → eqb x.words (version_words x.high) ≡ false → is_right_version words x ≡ false
wrong words x t =
    ap (λ b. is_some (cond b (some_version (get_or words (x.first + 1) 0)) None) && leb x.high 32 && leb
    (unwrap_or (rollback_in words x) 0) (24 * x.high)) t

-- what is well formed, by the parts that read words
abbrev chain : ℕ → Item → Bool → Bool → Bool
chain kind x count version =
    has_right_size kind x
    && cond (eqb kind LOAD_MAP) (eqb x.words (1 + 3 * (x.high % 128)))
    (cond (eqb kind HASH_DEF) count (cond (eqb kind VERSION) version true))

-- words that differ at one place alone, and an item that has no word behind its header there
module _ (words new : List ℕ) (p : ℕ) (long : length new ≡ length words)
    (other : (k : ℕ) → k ≢ p → get_or new k 0 ≡ get_or words k 0)
    (x : Item) (inside : (j : ℕ) → 1 ≤ j → j < x.words → x.first + j ≢ p) where
  pub read : (j k : ℕ) → k ≡ x.first + j → 1 ≤ j → j < x.words → get_or new k 0 ≡ get_or words k 0
  read j k e low lt = other k (λ at. inside j low lt (sym e ∙ at))

  half : (k : ℕ) → x.words ≡ version_words x.high → 1 ≤ x.high → k ≤ x.high
      → get_or (version_tail new x) k 0 ≡ get_or (version_tail words x) k 0
  half k size some le =
      let room : 2 + k / 2 < x.words = half_room k x.high x.words size some le in
      let same = read (2 + k / 2) (x.first + (2 + k / 2)) refl (omega arith) room in
      elim (cases_eq (k % 2) 0) [
        | inl even ↦
            sym (tail-low new x k (2 + k / 2) refl even) ∙ ap (λ w. w % 65536) same
            ∙ tail-low words x k (2 + k / 2) refl even
        | inr odd ↦
            let one : k % 2 ≡ 1 = omega (arith, odd) in
            sym (tail-high new x k (2 + k / 2) refl one) ∙ ap (λ w. w / 65536) same
            ∙ tail-high words x k (2 + k / 2) refl one
      ]

  pub rollback_same : x.words ≡ version_words x.high → rollback_in new x ≡ rollback_in words x
  rollback_same size =
      elim (cases_eq x.high 0) [
        | inl none ↦
            ap (λ b. cond b None (Some (get_or (version_tail new x) 0 0))) (eq-eqb x.high 0 none)
            ∙ sym (ap (λ b. cond b None (Some (get_or (version_tail words x) 0 0))) (eq-eqb x.high 0 none))
        | inr some ↦ ap (λ n. cond (eqb x.high 0) None (Some n)) (half 0 size (omega (arith, some)) (omega arith))
      ]

  length-tails : length (version_tail new x) ≡ length (version_tail words x)
  length-tails =
      length-halves (drop (x.first + 2) new)
      ∙ ap (λ n. 2 * n) (length-drop (x.first + 2) new ∙ ap (λ n. n - (x.first + 2)) long
      ∙ sym (length-drop (x.first + 2) words))
      ∙ sym (length-halves (drop (x.first + 2) words))

  pub rows_same : x.words ≡ version_words x.high → rows_in new x ≡ rows_in words x
  rows_same size =
      let tails : length (drop 1 (version_tail new x)) ≡ length (drop 1 (version_tail words x)) =
      length-drop 1 (version_tail new x) ∙ ap (λ n. n - 1) length-tails ∙ sym (length-drop 1 (version_tail words x)) in
      ext_get_or 0 (rows_in new x) (rows_in words x)
      (length-take x.high (drop 1 (version_tail new x)) ∙ ap (λ n. min x.high n) tails
      ∙ sym (length-take x.high (drop 1 (version_tail words x))))
      (λ k lt.
      let most = length-take x.high (drop 1 (version_tail new x)) in
      let near : k < x.high = omega (arith, most, lt) in
      get_or-take x.high (drop 1 (version_tail new x)) k 0 near ∙ get_or_after_one (version_tail new x) k 0
      ∙ half (1 + k) size (omega (arith, near)) (omega (arith, near))
      ∙ sym (get_or-take x.high (drop 1 (version_tail words x)) k 0 near ∙ get_or_after_one (version_tail words x) k 0))

  pub version_same : version_of new x ≡ version_of words x
  version_same = go (eqb x.words (version_words x.high)) refl
    where
      go : (b : Bool) → eqb x.words (version_words x.high) ≡ b
          → ◌≡◌ {A = Option Version}
          (cond b (Some (record {
            major = high_half (get_or new (x.first + 1) 0);
            minor =
                low_half (get_or new (x.first + 1) 0);
          })) None)
          (cond b (Some (record {
            major = high_half (get_or words (x.first + 1) 0);
            minor =
                low_half (get_or words (x.first + 1) 0);
          })) None)
      go true t =
          let size = eqb-true x.words (version_words x.high) t in
          ap (λ w. some_version w) (read 1 (x.first + 1) refl (omega arith) (two_words x.high x.words size))
      go false t = refl

  right_same : is_right_version new x ≡ is_right_version words x
  right_same = go (eqb x.words (version_words x.high)) refl
    where
      go : (b : Bool) → eqb x.words (version_words x.high) ≡ b → is_right_version new x ≡ is_right_version words x
      go true t =
          ap (λ o. is_some o && leb x.high 32 && leb (unwrap_or (rollback_in new x) 0) (24 * x.high)) version_same
          ∙ ap (λ o. is_some (version_of words x) && leb x.high 32 && leb (unwrap_or o 0) (24 * x.high))
          (rollback_same (eqb-true x.words (version_words x.high) t))
      go false t = wrong new x t ∙ sym (wrong words x t)

  pub hash_count_same : hash_count_of new x ≡ hash_count_of words x
  hash_count_same = go (eqb x.words 2) refl
    where
      go : (b : Bool) → eqb x.words 2 ≡ b
          → cond (eqb x.words 2 && eqb x.high 1) (Some (low_half (get_or new (x.first + 1) 0))) None
          ≡ cond (eqb x.words 2 && eqb x.high 1) (Some (low_half (get_or words (x.first + 1) 0))) None
      go true t =
          let size = eqb-true x.words 2 t in
          ap (λ w. cond (eqb x.words 2 && eqb x.high 1) (Some (low_half w)) None)
          (read 1 (x.first + 1) refl (omega arith) (omega (arith, size)))
      go false t =
          ap (λ b. cond b (Some (low_half (get_or new (x.first + 1) 0))) None)
          (and_left (eqb x.words 2) (eqb x.high 1) t)
          ∙ sym (ap (λ b. cond b (Some (low_half (get_or words (x.first + 1) 0))) None)
          (and_left (eqb x.words 2) (eqb x.high 1) t))

  pub digest_same : digest_of new x ≡ digest_of words x
  digest_same = go (eqb x.words 9) refl
    where
      go : (b : Bool) → eqb x.words 9 ≡ b → cond b (Some (bytes_of (slice_range new (x.first + 1) (x.first + 9)))) None
          ≡ cond b (Some (bytes_of (slice_range words (x.first + 1) (x.first + 9)))) None
      go true t = ap (λ ws. Some (bytes_of ws))
          (slice_range_ext new words (x.first + 1) (x.first + 9) long (λ k low high.
          let size = eqb-true x.words 9 t in
          read (k - x.first) k (omega (arith, low)) (omega (arith, low)) (omega (arith, size, high, low))))
      go false t = refl

  pub right_as : (kind : ℕ) → is_well_formed_as kind new x ≡ is_well_formed_as kind words x
  right_as kind = ap (λ b. chain kind x (is_some (hash_count_of new x)) b) right_same
      ∙ ap (λ o. chain kind x (is_some o) (is_right_version words x)) hash_count_same
