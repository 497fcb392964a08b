use Rattle.table_json.proofs.OtpLaws.{listed-row, row-listed, exponent-size, size-exponent}
use Rattle.table_json.proofs.laws.sizes_and_rows_of_otps.Goals as goal

pub returns-clause-size : goal.returns-clause-size
returns-clause-size c = λ size k. (exponent-size size k, size-exponent size k)

pub returns-clause-row : goal.returns-clause-row
returns-clause-row c = λ row r. (listed-row row r, row-listed row r)
