use Rattle.std.proofs.Common.{◌≡◌, ℕ, ◌+◌, ◌<◌, List, [], ◌∷◌, ◌++◌, length, drop, get_or, map, Option, Some, None, option_and_then, sym, ap, ◌∙◌}
use Rattle.std.proofs.lemmas.List.{at_drop_more, at_drop_all}
use Rattle.serde_json.specs.View.{view}
use Rattle.serde_json.specs.declared.value.Value.{Value}
use Rattle.table_json.specs.declared.otps.OtpRow.{OtpRow}
use Rattle.table_json.specs.Otps.{pair_form, pairs_after}
use Rattle.table_json.proofs.otps.pairs_of.Goals as goal

module _ (vs : List Value) (i : ℕ) (v : Value) (done : List OtpRow) (within : i < length vs) (is : v ≡ get_or vs i v) where
  -- what the rest of the values gives, by what the next value gives
  rest : (pair : Option OtpRow) → pair ≡ pair_form (view v)
      → option_and_then (λ p. pairs_after (done ++ p ∷ []) (map view (drop (i + 1) vs))) pair
      ≡ pairs_after done (map view (drop i vs))
  rest pair read =
      ap (λ (o : Option OtpRow). option_and_then (λ p. pairs_after (done ++ p ∷ []) (map view (drop (i + 1) vs))) o) read
      ∙ ap (λ (w : Value). pairs_after done (map view (w ∷ drop (i + 1) vs))) is
      ∙ sym (at_drop_more (λ (ws : List Value). pairs_after done (map view ws)) vs i v within)

pub returns-in-None : goal.returns-in-None
returns-in-None c =
    rest c.args.values.now c.loop-value.value-index c.value-item.result c.loop-value.pairs.items c.loop-value-test.true
    c.value-item.is None c.in-None.ensures
    ∙ c.loop-value.invariant

pub loop-value-preserved : goal.loop-value-preserved
loop-value-preserved c =
    ap (λ (pairs : List OtpRow). pairs_after pairs (map view (drop (c.loop-value.value-index + 1) c.args.values.now)))
    c.in_ok-push-in-Some.ensures.items
    ∙ rest c.args.values.now c.loop-value.value-index c.value-item.result c.loop-value.pairs.items c.loop-value-test.true
    c.value-item.is (Some c.in-Some.pair) c.in-Some.ensures
    ∙ c.loop-value.invariant

pub returns : goal.returns
returns c =
    sym (at_drop_all (λ (ws : List Value). pairs_after c.loop-value.pairs.items (map view ws))
    c.args.values.now c.loop-value.value-index c.loop-value-test.false)
    ∙ c.loop-value.invariant
