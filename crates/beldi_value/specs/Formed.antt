-- What values stand for.
use Rattle.std.specs.Prelude.{◌<◌, ◌^◌, IsUtf8}
use lib.Signed.{mag}
use Rattle.beldi_value.specs.Datum.{Datum, null, boolean, int, text, list, fields, Datums, no_items, item, Fields, no_fields, field, IsRecord}
use Rattle.beldi_value.specs.Injective.{pairs_of}

-- whole numbers have 64 bits (`mag` of n and of -(n + 1) is n), texts and keys are UTF-8, keys rise
abbrev mutual
  pub IsFormed : Datum → Type 0
  IsFormed null = Unit {0}
  IsFormed (boolean b) = Unit {0}
  IsFormed (int z) = mag z < 2 ^ 63
  IsFormed (text s) = IsUtf8 s
  IsFormed (list ds) = AreFormed ds
  IsFormed (fields fs) = IsRecord (pairs_of fs) × HaveForm fs

  pub AreFormed : Datums → Type 0
  AreFormed no_items = Unit {0}
  AreFormed (item d ds) = IsFormed d × AreFormed ds

  pub HaveForm : Fields → Type 0
  HaveForm no_fields = Unit {0}
  HaveForm (field k d fs) = IsUtf8 k × IsFormed d × HaveForm fs
