use Rattle.law_scripts.proofs.ImageLemmas.{page-bytes, page-line, page-size, past-page, past-range, past-rest, range-line, rest-line}
use Rattle.law_scripts.proofs.laws.image_words_take_bytes_of_the_image.Goals as goal

pub returns-clause-range : goal.returns-clause-range
returns-clause-range c = range-line

pub returns-clause-past_range : goal.returns-clause-past_range
returns-clause-past_range c = past-range

pub returns-clause-rest : goal.returns-clause-rest
returns-clause-rest c = rest-line

pub returns-clause-past_rest : goal.returns-clause-past_rest
returns-clause-past_rest c = past-rest

pub returns-clause-page : goal.returns-clause-page
returns-clause-page c = page-line

pub returns-clause-past_page : goal.returns-clause-past_page
returns-clause-past_page c = past-page

pub returns-clause-size : goal.returns-clause-size
returns-clause-size c = page-size

pub returns-clause-bytes : goal.returns-clause-bytes
returns-clause-bytes c = page-bytes
