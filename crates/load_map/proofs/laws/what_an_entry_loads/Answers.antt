use Rattle.load_map.proofs.EntryLaws.{load-clear, load-relative, none-past, none-before, load-absolute, none-absolute}
use Rattle.load_map.proofs.laws.what_an_entry_loads.Goals as goal

pub returns-clause-clear : goal.returns-clause-clear
returns-clause-clear c = load-clear

pub returns-clause-relative : goal.returns-clause-relative
returns-clause-relative c = load-relative

pub returns-clause-past : goal.returns-clause-past
returns-clause-past c = none-past

pub returns-clause-before : goal.returns-clause-before
returns-clause-before c = none-before

pub returns-clause-absolute : goal.returns-clause-absolute
returns-clause-absolute c = load-absolute

pub returns-clause-outside : goal.returns-clause-outside
returns-clause-outside c = none-absolute
