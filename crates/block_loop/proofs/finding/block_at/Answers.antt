use Rattle.std.proofs.Common.{arith, sym}
use Rattle.block_codec.proofs.AtLemmas.{block_at-none, no_block-from_none}
use Rattle.block_loop.proofs.FindLemmas.{found_at, no_room, none_at, nowhere, unstarted_at}
use Rattle.block_loop.proofs.finding.block_at.Goals as goal

pub returns-then-at-ne0-clause-exact : goal.returns-then-at-ne0-clause-exact
returns-then-at-ne0-clause-exact g c =
    sym (block_at-none (g.V.View.bytes c.args.view.now) c.args.at
    (nowhere (g.V.View.bytes c.args.view.now) c.args.at c.len-len.result c.len-len.ensures c.then-at-ne0.either))

pub returns-then-at-ne0-clause-none : goal.returns-then-at-ne0-clause-none
returns-then-at-ne0-clause-none g c =
    nowhere (g.V.View.bytes c.args.view.now) c.args.at c.len-len.result c.len-len.ensures c.then-at-ne0.either

pub returns-then-len-at-lt4-clause-exact : goal.returns-then-len-at-lt4-clause-exact
returns-then-len-at-lt4-clause-exact g c =
    sym (block_at-none (g.V.View.bytes c.args.view.now) c.args.at
    (no_room (g.V.View.bytes c.args.view.now) c.args.at c.len-len.result c.len-len.ensures (omega (arith, c.if-len-at-lt4.true))))

pub returns-then-len-at-lt4-clause-none : goal.returns-then-len-at-lt4-clause-none
returns-then-len-at-lt4-clause-none g c =
    no_room (g.V.View.bytes c.args.view.now) c.args.at c.len-len.result c.len-len.ensures
    (omega (arith, c.if-len-at-lt4.true))

pub returns-then-not-has_start-clause-exact : goal.returns-then-not-has_start-clause-exact
returns-then-not-has_start-clause-exact g c =
    sym (unstarted_at (g.V.View.bytes c.args.view.now) c.args.at c.if-at-ne0.false
    (c.has_start.ensures c.if-not-has_start.true))

pub returns-then-not-has_start-clause-none : goal.returns-then-not-has_start-clause-none
returns-then-not-has_start-clause-none g c =
    λ b. no_block-from_none (g.V.View.bytes c.args.view.now) c.args.at b
    (unstarted_at (g.V.View.bytes c.args.view.now) c.args.at c.if-at-ne0.false (c.has_start.ensures c.if-not-has_start.true))

pub returns-clause-found : goal.returns-clause-found
returns-clause-found g c = found_at
    (g.V.View.bytes c.args.view.now) c.args.at c.block_in.result c.block_in.ensures.exact

pub returns-clause-none : goal.returns-clause-none
returns-clause-none g c = none_at (g.V.View.bytes c.args.view.now) c.args.at c.block_in.result c.block_in.ensures.exact
