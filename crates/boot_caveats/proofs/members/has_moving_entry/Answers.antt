use Rattle.std.proofs.Common.{◌≡◌, ◌<◌, ◌≤◌, ap, subst, sym, ◌∙◌}
use Rattle.load_map.specs.Loads.{entry_count}
use Rattle.boot_caveats.specs.MemberCaveats.{entry_word, is_moving, moves}
use Rattle.boot_caveats.proofs.MemberLemmas.{any-here, any-more, any-none, any-start}
use Rattle.boot_caveats.proofs.members.has_moving_entry.Goals as goal

pub loop-i-init : goal.loop-i-init
loop-i-init c = any-start (is_moving c.args.block.now c.args.item.now) (entry_count c.args.item.now)

pub returns-then-moves : goal.returns-then-moves
returns-then-moves c =
    let block = c.args.block.now in
    let item = c.args.item.now in
    let test : is_moving block item c.loop-i.i ≡ c.moves.result =
    ap (λ x. moves x (entry_word block item c.loop-i.i 2)) (sym c.item_word-place.ensures.value)
    ∙ (ap (moves c.item_word-place.result) (sym c.item_word-runtime.ensures.value) ∙ sym c.moves.ensures) in
    any-here (is_moving block item) (entry_count item) c.loop-i.i
    (subst (λ n. c.loop-i.i < n) c.entry_count-i-end.ensures c.loop-i-test.true) (test ∙ c.if-moves.true)
    c.loop-i.invariant

pub loop-i-preserved : goal.loop-i-preserved
loop-i-preserved c =
    let block = c.args.block.now in
    let item = c.args.item.now in
    let test : is_moving block item c.loop-i.i ≡ c.moves.result =
    ap (λ x. moves x (entry_word block item c.loop-i.i 2)) (sym c.item_word-place.ensures.value)
    ∙ (ap (moves c.item_word-place.result) (sym c.item_word-runtime.ensures.value) ∙ sym c.moves.ensures) in
    any-more (is_moving block item) (entry_count item) c.loop-i.i
    (subst (λ n. c.loop-i.i < n) c.entry_count-i-end.ensures c.loop-i-test.true) (test ∙ c.if-moves.false)
    c.loop-i.invariant

pub returns : goal.returns
returns c =
    any-none (is_moving c.args.block.now c.args.item.now) (entry_count c.args.item.now) c.loop-i.i
    (subst (λ n. n ≤ c.loop-i.i) c.entry_count-i-end.ensures c.loop-i-test.false) c.loop-i.invariant
