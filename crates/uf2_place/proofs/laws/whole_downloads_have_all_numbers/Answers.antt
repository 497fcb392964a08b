use Rattle.uf2_place.proofs.GrowingLemmas.{whole-has_all}
use Rattle.uf2_place.proofs.laws.whole_downloads_have_all_numbers.Goals as goal

pub returns : goal.returns
returns c = whole-has_all
