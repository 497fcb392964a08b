-- The values of a list, as they are seen.
use Rattle.std.proofs.Common.{◌≡◌, ℕ, zero, suc, ◌+◌, ◌<◌, ◌≤◌, Bool, true, false, List, [], ◌∷◌, ◌++◌, length, take, drop, get_or, map, Option, None, Some, option_map, refl, sym, ap, ◌∙◌, arith, length-append}
use Rattle.std.specs.List.{list_any, list_all, filter_map, cons_option}
use Rattle.std.proofs.lemmas.List.{append-nil, map_more, map-append, take-append-drop}
use Rattle.std.proofs.lemmas.List.Elements.{filter_map-append}
use Rattle.serde_json.specs.Data.{Data, Items}
use Rattle.serde_json.specs.View.{view, items_view}
use Rattle.serde_json.specs.declared.value.Value.{Value}
use Rattle.table_json.specs.Forms.{values_of}

-- the values of what a list of values is seen as
pub values_of-items_view : (vs : List Value) → values_of (items_view vs) ≡ map view vs
values_of-items_view [] = refl
values_of-items_view (v ∷ vs) = ap (λ (ds : List Data). view v ∷ ds) (values_of-items_view vs)

-- the values of what a list of values is seen as, where a list was found
pub values_found : (vs : List Value) (found : Option Items) → Some (items_view vs) ≡ found
    → Some (map view vs) ≡ option_map values_of found
values_found vs found is =
    ap (λ (ds : List Data). Some ds) (sym (values_of-items_view vs))
    ∙ ap (λ (o : Option Items). option_map values_of o) is

-- one value more
pub seen_more : (vs : List Value) (i : ℕ) (v : Value) → i < length vs → v ≡ get_or vs i v
    → map view (take (i + 1) vs) ≡ map view (take i vs) ++ view v ∷ []
seen_more vs i v within is =
    map_more view vs i v within ∙ ap (λ (w : Value). map view (take i vs) ++ view w ∷ []) (sym is)

-- one value settles a test of all
pub any_seen : (test : Data → Bool) (vs : List Value) (i : ℕ) (v : Value) → i < length vs → v ≡ get_or vs i v
    → test (view v) ≡ true → list_any test (map view vs) ≡ true
any_seen test [] i v within is passes = absurd (omega arith)
any_seen test (w ∷ vs) zero v within is passes = grind (arith, passes, is)
any_seen test (w ∷ vs) (suc i) v within is passes =
    let later : list_any test (map view vs) ≡ true = any_seen test vs i v (omega arith) is passes in
    grind (arith, later)

pub all_seen : (test : Data → Bool) (vs : List Value) (i : ℕ) (v : Value) → i < length vs → v ≡ get_or vs i v
    → test (view v) ≡ false → list_all test (map view vs) ≡ false
all_seen test [] i v within is fails = absurd (omega arith)
all_seen test (w ∷ vs) zero v within is fails = grind (arith, fails, is)
all_seen test (w ∷ vs) (suc i) v within is fails =
    let later : list_all test (map view vs) ≡ false = all_seen test vs i v (omega arith) is fails in
    grind (arith, later)

module _ {A : Type 0} (read : Data → Option A) where
  -- what is read of one value more
  pub read_some : (vs : List Value) (i : ℕ) (v : Value) (a : A) → i < length vs → v ≡ get_or vs i v
      → Some a ≡ read (view v)
      → filter_map read (map view (take (i + 1) vs)) ≡ filter_map read (map view (take i vs)) ++ a ∷ []
  read_some vs i v a within is some =
      ap (λ (ds : List Data). filter_map read ds) (seen_more vs i v within is)
      ∙ filter_map-append read (map view (take i vs)) (view v ∷ [])
      ∙ grind (arith, some)

  pub read_none : (vs : List Value) (i : ℕ) (v : Value) → i < length vs → v ≡ get_or vs i v
      → None ≡ read (view v)
      → filter_map read (map view (take (i + 1) vs)) ≡ filter_map read (map view (take i vs))
  read_none vs i v within is none =
      ap (λ (ds : List Data). filter_map read ds) (seen_more vs i v within is)
      ∙ filter_map-append read (map view (take i vs)) (view v ∷ [])
      ∙ ap (λ (o : Option A). filter_map read (map view (take i vs)) ++ cons_option o []) (sym none)
      ∙ append-nil (filter_map read (map view (take i vs)))

  -- what is read of the first values is a part of all
  pub read_within : (vs : List Value) (k : ℕ)
      → length (filter_map read (map view (take k vs))) ≤ length (filter_map read (map view vs))
  read_within vs k =
      let all : filter_map read (map view vs)
      ≡ filter_map read (map view (take k vs)) ++ filter_map read (map view (drop k vs)) =
      ap (λ (ws : List Value). filter_map read (map view ws)) (sym (take-append-drop k vs))
      ∙ ap (λ (ds : List Data). filter_map read ds) (map-append view (take k vs) (drop k vs))
      ∙ filter_map-append read (map view (take k vs)) (map view (drop k vs)) in
      let long : length (filter_map read (map view vs))
      ≡ length (filter_map read (map view (take k vs))) + length (filter_map read (map view (drop k vs))) =
      ap (λ (ds : List A). length ds) all
      ∙ length-append (filter_map read (map view (take k vs))) (filter_map read (map view (drop k vs))) in
      omega (arith, long)
