use Rattle.load_map.proofs.EntryLaws.{apart-clear, clear-apart}
use Rattle.load_map.proofs.laws.where_storages_lie.Goals as goal

pub returns-clause-inside : goal.returns-clause-inside
returns-clause-inside c = λ n x size. (λ within. within, λ within. within)

pub returns-clause-apart : goal.returns-clause-apart
returns-clause-apart c = λ b x size. (clear-apart b x size, apart-clear b x size)

pub returns-clause-clear : goal.returns-clause-clear
returns-clause-clear c = λ b n size. (tt, tt)
