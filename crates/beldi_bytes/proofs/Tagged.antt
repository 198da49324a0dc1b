-- What stands behind the number of a kind.
use Rattle.std.proofs.Common.{◌≡◌, ℕ, List, [], ◌∷◌, ap, arith}
use Rattle.std.specs.Prelude.{IsUtf8}
use Rattle.beldi_value.specs.declared.{id.IntentId.IntentId, place.TxId.TxId}
use Rattle.beldi_row.specs.declared.key.Kind.{Kind}
use Rattle.beldi_row.specs.declared.key.Kind.TheVariants.{Data, Shadow, Lockset}
use Rattle.beldi_bytes.specs.KeyBytes.{two, four, id_bytes, tx_bytes, text_bytes, kind_bytes, IsId, IsTx, IsKind}

-- the first byte
abbrev pub first : List ℕ → ℕ
first [] = 0
first (n ∷ s) = n

pub data_in : (mid : List ℕ) (x : Kind) (s : List ℕ) → IsKind x → 3 ∷ mid ≡ kind_bytes x s
    → (t : ℕ) × (k : List ℕ) × (r : ℕ) × IsUtf8 k × (mid ≡ two t (text_bytes k (four r s)))
data_in mid (Data t k r) s i e = (t, k, r, i, cc)
data_in mid x s i e = let f : 3 ≡ first (kind_bytes x s) = ap first e in absurd (omega (arith, f))

pub shadow_in : (mid : List ℕ) (x : Kind) (s : List ℕ) → IsKind x → 4 ∷ mid ≡ kind_bytes x s
    → (a : TxId) × (t : ℕ) × (k : List ℕ) × (r : ℕ) × IsTx a × IsUtf8 k × (mid ≡ tx_bytes a (two t (text_bytes k (four r s))))
shadow_in mid (Shadow a t k r) s i e = (a, t, k, r, i.0, i.1, cc)
shadow_in mid x s i e = let f : 4 ≡ first (kind_bytes x s) = ap first e in absurd (omega (arith, f))

pub lockset_in : (mid : List ℕ) (x : Kind) (s : List ℕ) → IsKind x → 5 ∷ mid ≡ kind_bytes x s
    → (a : IntentId) × (b : ℕ) × (t : ℕ) × (k : List ℕ) × IsId a × IsUtf8 k × (mid ≡ id_bytes a (four b (two t (text_bytes k s))))
lockset_in mid (Lockset a b t k) s i e = (a, b, t, k, i.0, i.1, cc)
lockset_in mid x s i e = let f : 5 ≡ first (kind_bytes x s) = ap first e in absurd (omega (arith, f))
