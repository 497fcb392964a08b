use Rattle.std.proofs.Common.{◌≡◌, ◌+◌, ◌∙◌, sym, ap, subst, arith, Some, false, ◌==◌, ℕ, ◌<◌, ◌≤◌, List, ◌++◌, ◌∷◌, [], length, length-append, take, map}
use Rattle.std.proofs.lemmas.List.{take_all}
use Rattle.arrayvec.specs.ArrayVec.{ArrayVec}
use Rattle.serde_json.specs.declared.value.Value.{Value}
use Rattle.serde_json.specs.Data.{Data}
use Rattle.serde_json.specs.View.{view}
use Rattle.table_json.specs.Families.{family_number, family_numbers, few_numbers}
use Rattle.table_json.proofs.ViewLemmas.{read_some, read_none, read_within}
use Rattle.table_json.proofs.families.few_numbers.Goals as goal
use Rattle.table_json.proofs.families.few_numbers.Goals.{in-Some+else-is_full, in_default}

-- numbers that are those of a list, and few
kept : (numbers : ArrayVec ℕ) (ds : List Data) → numbers.items ≡ family_numbers ds → length numbers.items ≤ 3
    → Some numbers ≡ few_numbers ds
kept numbers ds same few =
    let short : length (family_numbers ds) ≤ 3 = subst (λ (ns : List ℕ). length ns ≤ 3) same few in
    let whole : numbers ≡ record { items = family_numbers ds } = ap (λ (ns : List ℕ). record { items = ns }) same in
    grind (arith, short, whole)

-- what is not full has room
not_full : (n : ℕ) → n ≤ 3 → false ≡ (n == 3) → n < 3
not_full n few is = grind (arith, few, is)

pub returns-then-is_full : goal.returns-then-is_full
returns-then-is_full c =
    let one : length (family_numbers (map view (take (c.loop-value.value-index + 1) c.args.values.now)))
    ≡ length (c.loop-value.numbers.items ++ c.in-Some.number ∷ []) =
    ap (λ (ns : List ℕ). length ns)
    (read_some family_number _ _ _ _ c.loop-value-test.true c.value-item.is c.in-Some.ensures.value
    ∙ ap (λ (ns : List ℕ). ns ++ c.in-Some.number ∷ []) (sym c.loop-value.invariant.so_far)) in
    let four : length (c.loop-value.numbers.items ++ c.in-Some.number ∷ []) ≡ length c.loop-value.numbers.items + 1 =
    length-append c.loop-value.numbers.items (c.in-Some.number ∷ []) in
    let all = read_within family_number c.args.values.now (c.loop-value.value-index + 1) in
    let full : length c.loop-value.numbers.items ≡ 3 = grind (arith, c.if-is_full.ensures.value) in
    let many : 3 < length (family_numbers (map view c.args.values.now)) = omega (arith, one, four, all, full) in
    grind (arith, many)

pub returns : goal.returns
returns c =
    kept _ (map view c.args.values.now)
    (c.loop-value.invariant.so_far
    ∙ ap (λ (vs : List Value). family_numbers (map view vs)) (take_all _ _ c.loop-value-test.false))
    c.loop-value.invariant.few

pub loop-value-preserved : goal.loop-value-preserved
loop-value-preserved c = record {
  so_far = elim c.match-number_below.branch [
    | in-Some+else-is_full w ↦
        ap (λ (ns : ArrayVec ℕ). ns.items) w.numbers-is
        ∙ w.push.ensures.items
        ∙ ap (λ (ns : List ℕ). ns ++ w.in-Some.number ∷ []) c.loop-value.invariant.so_far
        ∙ sym
        (read_some family_number _ _ _ _ c.loop-value-test.true c.value-item.is w.in-Some.ensures.value)
    | in_default w ↦
        ap (λ (ns : ArrayVec ℕ). ns.items) w.numbers-is
        ∙ c.loop-value.invariant.so_far
        ∙ sym (read_none family_number _ _ _ c.loop-value-test.true c.value-item.is w.in_default.ensures.value)
  ];
  few = elim c.match-number_below.branch [
    | in-Some+else-is_full w ↦
        let same = ap (λ (ns : ArrayVec ℕ). length ns.items) w.numbers-is in
        let long = ap (λ (ns : List ℕ). length ns) w.push.ensures.items
        ∙ length-append c.loop-value.numbers.items (w.in-Some.number ∷ []) in
        let room : length c.loop-value.numbers.items < 3 =
        not_full _ c.loop-value.invariant.few w.if-is_full.ensures.value in
        omega (arith, same, long, room)
    | in_default w ↦
        let same = ap (λ (ns : ArrayVec ℕ). length ns.items) w.numbers-is in
        omega (arith, same, c.loop-value.invariant.few)
  ];
}
