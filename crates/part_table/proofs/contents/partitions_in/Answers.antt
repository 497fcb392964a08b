use Rattle.std.proofs.Common.{◌≡◌, ◌+◌, ◌-◌, ◌∷◌, [], ◌++◌, ◌≤◌, ◌∙◌, sym, ap, subst, arith, List, length, drop, option_map, length-drop}
use Rattle.std.proofs.lemmas.List.{take_rest}
use Rattle.part_table.specs.declared.partition.Partition.{Partition}
use Rattle.part_table.specs.Partitions.{partitions_in}
use Rattle.part_table.proofs.ReadLemmas.{one_part_more, no_part_more, all_parts, words_left}
use Rattle.part_table.proofs.contents.partitions_in.Goals as goal

pub returns-in_err-size : goal.returns-in_err-size
returns-in_err-size c =
    c.from_residual.ensures
    ∙ sym (ap (λ o. option_map (λ (ps : List Partition). record { items = ps }) o)
    (no_part_more c.args.count c.args.words.now c.loop-i.parts.items
    (c.args.count - c.loop-i._i) c.loop-i.at c.loop-i.invariant.rest
    (c.args.count - c.loop-i._i - 1) _ (take_rest c.args.words.now c.loop-i.at) (omega arith)
    (sym c.partition_words.ensures.value ∙ c.in_err-size.was)))

pub loop-i-preserved : goal.loop-i-preserved
loop-i-preserved c =
    let left : c.args.count - (c.loop-i._i + 1) ≡ c.args.count - c.loop-i._i - 1 = omega arith in
    let size : c.in_ok-size.size ≤ length (drop c.loop-i.at c.args.words.now) =
    subst (λ ws. c.in_ok-size.size ≤ length ws) (take_rest c.args.words.now c.loop-i.at) c.in_ok-size.ensures.inside in
    let behind = length-drop c.loop-i.at c.args.words.now in
    record {
      rest =
          one_part_more c.args.count c.args.words.now c.loop-i.parts.items
          (c.args.count - c.loop-i._i) c.loop-i.at c.loop-i.invariant.rest
          (c.args.count - c.loop-i._i - 1) c.in_ok-size.size _ c.partition_from.result
          (take_rest c.args.words.now c.loop-i.at) (omega arith)
          (sym c.partition_words.ensures.value ∙ c.in_ok-size.was) c.partition_from.ensures
          ∙ ap (λ n. option_map (λ ps. c.loop-i.parts.items ++ c.partition_from.result ∷ [] ++ ps)
          (partitions_in n (drop (c.loop-i.at + c.in_ok-size.size) c.args.words.now)))
          (sym left)
          ∙ ap (λ xs. option_map (λ ps. xs ++ ps)
          (partitions_in (c.args.count - (c.loop-i._i + 1))
          (drop (c.loop-i.at + c.in_ok-size.size) c.args.words.now)))
          (sym c.push.ensures.items);
      long = omega arith;
      inside = omega arith;
    }

pub returns-then-at-words : goal.returns-then-at-words
returns-then-at-words c =
    sym (ap (λ o. option_map (λ (ps : List Partition). record { items = ps }) o)
    (all_parts c.args.count c.args.words.now c.loop-i.parts.items
    (c.args.count - c.loop-i._i) c.loop-i.at c.loop-i.invariant.rest (omega arith) (omega arith)))

pub returns-else-at-words : goal.returns-else-at-words
returns-else-at-words c =
    sym (ap (λ o. option_map (λ (ps : List Partition). record { items = ps }) o)
    (words_left c.args.count c.args.words.now c.loop-i.parts.items
    (c.args.count - c.loop-i._i) c.loop-i.at c.loop-i.invariant.rest (omega arith)
    (omega (arith, c.loop-i.invariant.inside))))
