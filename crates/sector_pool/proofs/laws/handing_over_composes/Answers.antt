use Rattle.sector_pool.proofs.HandedLemmas.{HandsOver-leased, HandsOver-none, HandsOver-returned, HandsOver-same, HandsOver-trans}
use Rattle.sector_pool.proofs.KeptLemmas.{KeepsOutBut-written}
use Rattle.sector_pool.proofs.laws.handing_over_composes.Goals as goal

pub returns-clause-leased : goal.returns-clause-leased
returns-clause-leased c = λ old k was_free. HandsOver-leased old k was_free

pub returns-clause-written : goal.returns-clause-written
returns-clause-written c = λ old k bytes was_out. HandsOver-same k was_out (KeepsOutBut-written old k bytes)

pub returns-clause-returned : goal.returns-clause-returned
returns-clause-returned c = λ old k was_out. HandsOver-returned old k was_out

pub returns-clause-none : goal.returns-clause-none
returns-clause-none c = λ old new keeps. HandsOver-none keeps

pub returns-clause-two : goal.returns-clause-two
returns-clause-two c = λ a b d p q r first second. HandsOver-trans first second
