use Rattle.image_pack.proofs.ReadBackLemmas.{copied-are, offset-least, stored-within, text-least}
use Rattle.image_pack.proofs.laws.a_sealed_image_stores_nothing_past_its_end.Goals as goal

pub returns-clause-stored : goal.returns-clause-stored
returns-clause-stored c = λ binary spec bytes back own stored. stored-within binary spec bytes back own stored

pub returns-clause-same : goal.returns-clause-same
returns-clause-same c = λ binary spec bytes back own stored. copied-are binary spec bytes back own stored

pub returns-clause-behind : goal.returns-clause-behind
returns-clause-behind c = offset-least

pub returns-clause-within : goal.returns-clause-within
returns-clause-within c = text-least
