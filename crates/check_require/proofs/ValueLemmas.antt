-- The values of a list, as they are seen, and what a form reads of them.
use Rattle.std.proofs.Common.{◌≡◌, ℕ, ◌+◌, ◌<◌, List, [], ◌∷◌, ◌++◌, length, drop, get_or, map, Option, Some, option_map, option_and_then, refl, sym, ap, ◌∙◌}
use Rattle.std.proofs.lemmas.List.{at_drop_more}
use Rattle.serde_json.specs.Data.{Data, Items}
use Rattle.serde_json.specs.View.{view, items_view}
use Rattle.serde_json.specs.declared.value.Value.{Value}
use Rattle.check_require.specs.Forms.{read_after, values_of}

-- the values of what a list of values is seen as
values_of-items_view : (vs : List Value) → values_of (items_view vs) ≡ map view vs
values_of-items_view [] = refl
values_of-items_view (v ∷ vs) = ap (λ (ds : List Data). view v ∷ ds) (values_of-items_view vs)

-- the values of what a list of values is seen as, where a list was found
pub values_found : (vs : List Value) (found : Option Items) → Some (items_view vs) ≡ found
    → Some (map view vs) ≡ option_map values_of found
values_found vs found is =
    ap (λ (ds : List Data). Some ds) (sym (values_of-items_view vs))
    ∙ ap (λ (o : Option Items). option_map values_of o) is

module _ {A : Type 0} (form : Data → Option A) (vs : List Value) (i : ℕ) (v : Value) (done : List A) (within : i < length vs)
    (is : v ≡ get_or vs i v) where
  -- what the rest of the values gives, by what the next value gives
  pub read-rest : (one : Option A) → one ≡ form (view v)
      → option_and_then (λ a. read_after form (done ++ a ∷ []) (map view (drop (i + 1) vs))) one
      ≡ read_after form done (map view (drop i vs))
  read-rest one read =
      ap (λ (o : Option A). option_and_then (λ a. read_after form (done ++ a ∷ []) (map view (drop (i + 1) vs))) o) read
      ∙ ap (λ (w : Value). read_after form done (map view (w ∷ drop (i + 1) vs))) is
      ∙ sym (at_drop_more (λ (ws : List Value). read_after form done (map view ws)) vs i v within)
