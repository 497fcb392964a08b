use Rattle.law_staged.proofs.ExampleLemmas.{staged}
use Rattle.law_staged.proofs.examples.a_staged_session.Goals as goal

pub returns-clause-session : goal.returns-clause-session
returns-clause-session c =
    let cut = c.a_cut_between_two_pages.ensures.session in record {
      right = cut.right;
      boot_member = cut.boot_member;
      former = cut.former;
      elsewhere = cut.elsewhere;
      staged = staged c.a_cut_between_two_pages.ensures.done cut.gated;
    }

pub returns-clause-first : goal.returns-clause-first
returns-clause-first c =
    let is = staged c.a_cut_between_two_pages.ensures.done c.a_cut_between_two_pages.ensures.session.gated in
    (is.first, is.begins)
