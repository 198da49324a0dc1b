-- A key that is set to one row of its item and then to another.
use Rattle.std.proofs.Common.{◌≡◌, ℕ, refl}
use Rattle.beldi_row.specs.{Key.RowKey, Key.at_row, Key.kind_at, Key.row_of, declared.key.Kind.Kind}

kind_twice : (k : Kind) (a b : ℕ) → kind_at (kind_at k a) b ≡ kind_at k b
kind_twice (Kind.Intent i) a b = refl
kind_twice (Kind.ReadLog i) a b = refl
kind_twice (Kind.Invoke i) a b = refl
kind_twice (Kind.Data t i r) a b = refl
kind_twice (Kind.Shadow x t i r) a b = refl
kind_twice (Kind.Lockset i s t x) a b = refl

kind_here : (k : Kind) → kind_at k (row_of k) ≡ k
kind_here (Kind.Intent i) = refl
kind_here (Kind.ReadLog i) = refl
kind_here (Kind.Invoke i) = refl
kind_here (Kind.Data t i r) = refl
kind_here (Kind.Shadow x t i r) = refl
kind_here (Kind.Lockset i s t x) = refl

pub key_twice : (k : RowKey) (a b : ℕ) → at_row (at_row k a) b ≡ at_row k b
key_twice k a b = λ i. record { home = k.home; kind = kind_twice k.kind a b i }

pub key_here : (k : RowKey) → at_row k (row_of k.kind) ≡ k
key_here k = λ i. record { home = k.home; kind = kind_here k.kind i }
