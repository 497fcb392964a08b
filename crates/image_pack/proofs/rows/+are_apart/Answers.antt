use Rattle.std.proofs.Common.{refl}
use Rattle.std.proofs.lemmas.List.{take_rest}
use Rattle.image_pack.proofs.RowLemmas.{apart-else, apart-then}
use Rattle.image_pack.proofs.rows.«+are_apart».Goals as goal

pub returns-then-is_apart_from_all : goal.returns-then-is_apart_from_all
returns-then-is_apart_from_all t c =
    apart-then c.args.rows.now _ c.are_apart.result c.in-len1-up.len_at_least (take_rest c.args.rows.now 1)
    (c.if-is_apart_from_all.ensures.0 refl) c.are_apart.ensures

pub returns-else-is_apart_from_all : goal.returns-else-is_apart_from_all
returns-else-is_apart_from_all t c =
    apart-else c.args.rows.now _ c.is_apart_from_all.result c.in-len1-up.len_at_least (take_rest c.args.rows.now 1)
    c.if-is_apart_from_all.false c.is_apart_from_all.ensures
