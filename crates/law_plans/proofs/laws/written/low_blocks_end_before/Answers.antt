use Rattle.law_plans.proofs.laws.written.low_blocks_end_before.Goals as goal

pub returns : goal.returns
returns c = λ n bytes. (λ h. h, λ h. h)
