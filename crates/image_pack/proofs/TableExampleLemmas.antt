-- Where the bytes of a vector table are stored that one load has, or none.
use Rattle.std.proofs.Common.{◌≡◌, ℕ, zero, suc, ◌+◌, ◌-◌, [], ◌∷◌, refl, sym, ap, ◌∙◌, arith, Some}
use Rattle.std.specs.Prelude.{Contains, find, reverse}
use Rattle.std.proofs.lemmas.Option.{none-some, same_Some}
use Rattle.load_map.specs.declared.load.Load.{Load}
use Rattle.load_map.specs.Given.{load_has_address}
use Rattle.load_map.proofs.LastLoadLemmas.{last-in}
use Rattle.image_pack.specs.Examples.{eight_bytes}
use Rattle.image_pack.specs.Starts.{IsLoadedFrom}

-- nothing is loaded without a load
pub no-load : (address offset : ℕ) → IsLoadedFrom [] address offset → ⊥
no-load address offset from = none-some from.load from.last

only : (one load : Load) → Contains (one ∷ []) load → one ≡ load
only one load (zero, lt, is) = is
only one load (suc k, lt, is) = absurd (omega (arith, lt))

-- where the bytes of the one load are stored
pub stored-at : (start i offset : ℕ) → IsLoadedFrom (eight_bytes start ∷ []) (0x20000000 + i) offset
    → offset ≡ start + i
stored-at start i offset from =
    let held = last-in (load_has_address (0x20000000 + i)) (eight_bytes start ∷ []) from.load from.last in
    let same = only (eight_bytes start) from.load held.1 in
    let begins : start ≡ from.start =
    same_Some _ _ (ap (λ (l : Load). l.storage) same ∙ from.storage) in
    let runs : 0x20000000 ≡ from.load.runtime = ap (λ (l : Load). l.runtime) same in
    let place = from.place in
    omega (arith, begins, runs, place)

-- the bytes of the one load are stored there
pub loaded-at : (start i : ℕ) → find (load_has_address (0x20000000 + i)) (reverse (eight_bytes start ∷ []))
    ≡ Some (eight_bytes start)
    → IsLoadedFrom (eight_bytes start ∷ []) (0x20000000 + i) (start + i)
loaded-at start i found = record {
  load = eight_bytes start;
  last = found;
  start = start;
  storage = refl;
  place = (let there : 0x20000000 + i - 0x20000000 ≡ i = omega arith in ap (λ k. start + k) (sym there));
}
