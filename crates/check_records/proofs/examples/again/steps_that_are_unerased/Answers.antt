use Rattle.std.proofs.Common.{[], ◌∷◌, refl}
use Rattle.pico_board.specs.declared.Step.TheVariants.{Erase}
use Rattle.check_records.proofs.examples.again.steps_that_are_unerased.Goals as goal

pub returns-clause-none : goal.returns-clause-none
returns-clause-none c = refl

pub returns-clause-first_page : goal.returns-clause-first_page
returns-clause-first_page c = refl

pub returns-clause-last_page : goal.returns-clause-last_page
returns-clause-last_page c = refl

pub returns-clause-page_before : goal.returns-clause-page_before
returns-clause-page_before c = refl

pub returns-clause-page_behind : goal.returns-clause-page_behind
returns-clause-page_behind c = refl

pub returns-clause-at_once : goal.returns-clause-at_once
returns-clause-at_once c = refl

pub returns-clause-twice : goal.returns-clause-twice
returns-clause-twice c = refl

pub returns-clause-least : goal.returns-clause-least
returns-clause-least c = refl

pub returns-clause-raise : goal.returns-clause-raise
returns-clause-raise c = refl

pub returns-clause-stands : goal.returns-clause-stands
returns-clause-stands c = record {
  before = [];
  page = 16;
  bytes = [];
  behind = Erase 1 ∷ [];
  whole = refl;
  number = refl;
  bare = tt;
}
