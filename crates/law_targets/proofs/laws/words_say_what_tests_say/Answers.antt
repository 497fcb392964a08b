use Rattle.std.proofs.Common.{sym, ◌∙◌, subst}
use Rattle.std.proofs.lemmas.Option.{same_Some}
use Rattle.slot_choice.specs.declared.unit.Member.TheVariants.{A, B}
use Rattle.law_targets.specs.Taking.{TakesSecond}
use Rattle.law_targets.proofs.TakenLemmas.{member-words, words-member}
use Rattle.law_targets.proofs.WordLemmas.{accepts-words, below-lower, lower-below, taken-words, words-accepts, words-taken}
use Rattle.law_targets.proofs.laws.words_say_what_tests_say.Goals as goal

pub returns-clause-families : goal.returns-clause-families
returns-clause-families c = λ p family. (accepts-words p family, words-accepts p family)

pub returns-clause-versions : goal.returns-clause-versions
returns-clause-versions c = λ v w. (below-lower v w, lower-below v w)

pub returns-clause-tables : goal.returns-clause-tables
returns-clause-tables c = λ t u. (taken-words t u, words-taken t u)

pub returns-clause-first : goal.returns-clause-first
returns-clause-first c = λ x cpu u. (member-words x cpu u A, words-member x cpu u A)

pub returns-clause-second : goal.returns-clause-second
returns-clause-second c = λ x cpu u two pair. (
  λ e. (let s = member-words x cpu u B e in
      subst (TakesSecond x cpu u.a) (same_Some s.0 two (sym s.1 ∙ pair)) s.2),
  λ s. words-member x cpu u B (two, pair, s),
)
