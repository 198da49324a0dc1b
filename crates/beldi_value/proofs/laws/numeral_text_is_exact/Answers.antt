-- The text of a number is read as it, and no other text is.
use Rattle.beldi_value.proofs.Ints.{numeral_of, numeral_back, numeral_within, zeros}
use Rattle.beldi_value.proofs.laws.numeral_text_is_exact.Goals as goal

pub returns : goal.returns
returns c = record {
  reads = numeral_of;
  alone = λ most n bs h e. (numeral_back most n bs h e, numeral_within most n bs e);
  zeros = zeros;
}
