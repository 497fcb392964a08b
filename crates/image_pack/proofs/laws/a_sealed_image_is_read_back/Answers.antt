use Rattle.image_pack.proofs.ReadBackLemmas.{is-read-back, meets-exactly, one-image, one-loads, says-record, starts-as, starts-by}
use Rattle.image_pack.proofs.laws.a_sealed_image_is_read_back.Goals as goal

pub returns-clause-image : goal.returns-clause-image
returns-clause-image c = λ binary spec sealed halves f erased below.
    is-read-back binary spec sealed halves f erased below

pub returns-clause-record : goal.returns-clause-record
returns-clause-record c = λ binary spec sealed halves w. says-record binary spec sealed halves w

pub returns-clause-not_below : goal.returns-clause-not_below
returns-clause-not_below c = λ binary spec sealed halves otp. meets-exactly binary spec sealed halves otp

pub returns-clause-entry : goal.returns-clause-entry
returns-clause-entry c = λ binary spec sealed halves own e has w. starts-as binary spec sealed halves own e has w

pub returns-clause-start : goal.returns-clause-start
returns-clause-start c = λ binary spec sealed halves own f erased below back w.
    starts-by binary spec sealed halves f erased below own back w

pub returns-clause-only : goal.returns-clause-only
returns-clause-only c = λ binary spec bytes back loop image loads defined mapped. (
  one-image spec.cpu bytes loop back.loop image back.image defined back.defined,
  one-loads spec.cpu bytes loop back.loop image back.image loads back.loads defined back.defined mapped back.map,
)
