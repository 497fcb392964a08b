use Rattle.table_json.specs.Otps.{otp_spec_from}
use Rattle.cli_otp.proofs.WordLemmas.{words-set}
use Rattle.cli_otp.proofs.writing.otp_words.Goals as goal

pub returns : goal.returns
returns c =
    words-set _ _ _ _ _ (otp_spec_from c.args.spec.now) c.in_ok-words.ensures c.set_secure.ensures
    c.deref.ensures.value c.set_rows.ensures c.set_flags.ensures
