-- By computing.
use Rattle.std.proofs.Common.{refl}
use Rattle.block_codec.specs.Blocks.{frame}
use Rattle.block_codec.specs.Items.{size_of}
use Rattle.part_table.proofs.examples.links_are_found.Goals as goal

pub returns-clause-kind : goal.returns-clause-kind
unfolding frame size_of
returns-clause-kind c = refl

pub returns-clause-past : goal.returns-clause-past
unfolding frame size_of
returns-clause-past c = refl

pub returns-clause-last : goal.returns-clause-last
unfolding frame size_of
returns-clause-last c = refl

pub returns-clause-itself : goal.returns-clause-itself
unfolding frame size_of
returns-clause-itself c = refl

pub returns-clause-second : goal.returns-clause-second
unfolding frame size_of
returns-clause-second c = refl

pub returns-clause-owned : goal.returns-clause-owned
unfolding frame size_of
returns-clause-owned c = refl

pub returns-clause-taken : goal.returns-clause-taken
unfolding frame size_of
returns-clause-taken c = refl

pub returns-clause-kept : goal.returns-clause-kept
unfolding frame size_of
returns-clause-kept c = refl

pub returns-clause-own : goal.returns-clause-own
unfolding frame size_of
returns-clause-own c = refl

pub returns-clause-no_owner : goal.returns-clause-no_owner
unfolding frame size_of
returns-clause-no_owner c = refl

pub returns-clause-owner : goal.returns-clause-owner
unfolding frame size_of
returns-clause-owner c = refl

pub returns-clause-owner_second : goal.returns-clause-owner_second
unfolding frame size_of
returns-clause-owner_second c = refl

pub returns-clause-both : goal.returns-clause-both
unfolding frame size_of
returns-clause-both c = refl

pub returns-clause-least : goal.returns-clause-least
unfolding frame size_of
returns-clause-least c = refl
