use Rattle.std.proofs.Common.{◌≡◌, ◌+◌, get_or, refl, arith, ◌∙◌, ap, sym, Some}
use Rattle.std.specs.List.{slice_get}
use Rattle.block_codec.specs.Items.{items_of, size_of}
use Rattle.block_codec.proofs.ItemLemmas.{StepsOver-at, words_left, rest-more, item_here, IsItemOf-from_get}
use Rattle.block_codec.proofs.items.item_in.Goals as goal
use Rattle.block_codec.proofs.items.item_in.Goals.{After-item_of}

pub bounds-items-at : goal.bounds-items-at
bounds-items-at c =
    words_left _ c.args.items.now c.loop-n.at c.loop-n.n (items_of c.args.items.now) c.loop-n.invariant.rest
    (omega arith)

pub loop-n-preserved : goal.loop-n-preserved
loop-n-preserved c =
    let ws = c.args.items.now in
    let lt = words_left _ ws c.loop-n.at c.loop-n.n (items_of ws) c.loop-n.invariant.rest (omega arith) in
    let step = StepsOver-at ws c.loop-n.at c.item_size-at.result lt c.loop-n.invariant.whole
    c.item_size-at.ensures.value in
    record {
      whole = step.rest;
      inside = step.inside;
      rest = rest-more ws c.loop-n.at c.item_size-at.result c.loop-n.n (items_of ws) step c.loop-n.invariant.rest;
    }

pub bounds-items-at-2 : goal.bounds-items-at-2
bounds-items-at-2 c =
    words_left _ c.args.items.now c.loop-n.at c.loop-n.n (items_of c.args.items.now) c.loop-n.invariant.rest
    (omega arith)

found : (c : After-item_of) → slice_get (items_of c.args.items.now) c.args.i ≡ Some c.item_of.result
found c =
    let ws = c.args.items.now in
    let lt = words_left _ ws c.loop-n.at c.loop-n.n (items_of ws) c.loop-n.invariant.rest (omega arith) in
    let step = StepsOver-at ws c.loop-n.at (size_of (get_or ws c.loop-n.at 0)) lt c.loop-n.invariant.whole refl in
    let last : c.args.i ≡ c.loop-n.n = omega arith in
    ap (slice_get (items_of ws)) last
    ∙ item_here ws c.loop-n.at _ c.loop-n.n (c.loop-n.at + 1) (items_of ws) step refl c.loop-n.invariant.rest
    ∙ ap Some (sym c.item_of.ensures)

pub returns-clause-value : goal.returns-clause-value
returns-clause-value c = found c

pub returns-clause-inside : goal.returns-clause-inside
returns-clause-inside c = IsItemOf-from_get c.args.items.now c.args.i c.item_of.result c.requires.whole (found c)
