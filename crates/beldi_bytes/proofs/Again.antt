-- What was written is read again as it was.
use Rattle.std.proofs.Common.{◌≡◌, Some, None, refl, ap, subst}
use Rattle.beldi_bytes.specs.KeyBytes.{key_bytes, ReadsKey, WrittenKeysAreRead}
use Rattle.beldi_bytes.specs.RowBytes.{row_bytes, IsInTime, ReadsRow, WrittenRowsAreRead, LateRowsAreNotRead}
use Rattle.beldi_bytes.proofs.Ordered.{are_one}
use Rattle.beldi_bytes.proofs.RowExact.{rows_are_one}

pub key_again : WrittenKeysAreRead
key_again k o i h = elim o as (λ p. ReadsKey (key_bytes k) p → p ≡ Some k) [ Some j ↦ λ r. ap Some (are_one j k r.0) | None ↦ λ r. absurd (r k i refl) ] h

pub row_again : WrittenRowsAreRead
row_again r o i m h = elim o as (λ p. ReadsRow (row_bytes r) p → p ≡ Some r) [ Some q ↦ λ k. ap Some (rows_are_one q r k.0) | None ↦ λ k. absurd (k r i m refl) ] h

pub row_late : LateRowsAreNotRead
row_late r o late h = elim o as (λ p. ReadsRow (row_bytes r) p → p ≡ None) [ Some q ↦ λ k. absurd (late (subst IsInTime (rows_are_one q r k.0) k.2)) | None ↦ λ k. refl ] h
