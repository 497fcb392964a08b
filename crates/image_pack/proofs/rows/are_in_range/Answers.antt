use Rattle.std.proofs.Common.{ℕ, ◌≤◌, All, List, refl, subst}
use Rattle.std.proofs.lemmas.List.{take_all}
use Rattle.std.proofs.lemmas.List.Elements.{All-more}
use Rattle.otp_roll.specs.declared.rows.TheConstants.{FIRST_ROW, LAST_ROW}
use Rattle.image_pack.proofs.rows.are_in_range.Goals as goal

pub loop-row-preserved : goal.loop-row-preserved
loop-row-preserved c =
    let P : ℕ → Type 0 = λ r. (FIRST_ROW ≤ r) × (r ≤ LAST_ROW) in
    All-more P c.args.rows.now c.loop-row.row-index 0 c.loop-row-test.true c.loop-row.invariant
    (c.if-not-is_in_range.ensures.0 refl)

pub returns : goal.returns
returns c =
    let P : ℕ → Type 0 = λ r. (FIRST_ROW ≤ r) × (r ≤ LAST_ROW) in (
      λ t. subst (λ (rows : List ℕ). All P rows) (take_all c.loop-row.row-index c.args.rows.now c.loop-row-test.false)
          c.loop-row.invariant,
      λ all. refl,
    )
