-- What a place was given is kept once.
use Rattle.std.specs.Option.{option_map}
use Rattle.std.specs.FinMap as map
use Rattle.std.proofs.Common.{◌≡◌, ℕ, false, Option, None, Some, refl, sym, subst}
use Rattle.beldi_value.specs.declared.value.Value.{Value}
use Rattle.beldi_row.{specs.Key.RowKey, specs.declared.row.Row.Row, specs.declared.act.Act.Act, specs.declared.act.Act.TheVariants.Bind, specs.declared.act.Act.TheVariants.Look, specs.declared.act.Act.TheVariants.PutRead, specs.declared.act.Act.TheVariants.DropIntent, specs.declared.act.Act.TheVariants.DropRow, specs.Act.act, specs.Act.prunes, specs.Table.Rows, specs.Table.set_row, proofs.Unchanged.unchanged, proofs.Unchanged.looked}
use Rattle.beldi_query.{specs.Query.replied, proofs.Promises.promised, proofs.Promises.at_each}
use Rattle.beldi_readlog.specs.ReadLog.{log_key, given_asks, keep_asks, given_in, given, given_of, kept_of, PutOn, GetGives, IsKept, ValuesArePutOnce, ValuesStay}

given_row : (now : ℕ) (o : Option Row) → given_of (replied (act Look now o).1) ≡ option_map given_in o
given_row now None = refl
given_row now (Some r) = refl

pub get_gives : GetGives
get_gives home at now = promised (given_asks home at) now given_of (λ m n r. (n ≡ m) × (r ≡ given m (log_key home at))) (λ m. (looked now (log_key home at) m, given_row now (map.get m (log_key home at))))

kept_there : (v : Value) (now : ℕ) (r : Row) → kept_of v (replied (act (PutRead v) now (Some r)).1) ≡ record { value = given_in r; added = false }
kept_there v now (Row.ReadLog w) = refl
kept_there v now r = refl

put_at : (v : Value) (now : ℕ) (k : RowKey) (m : Rows) (o : Option Row) → map.get m k ≡ o → PutOn v k o m (set_row m k (act (PutRead v) now o).0) (kept_of v (replied (act (PutRead v) now o).1))
put_at v now k m None there = (refl, refl)
put_at v now k m (Some r) there = (unchanged m k (Some r) (sym there), kept_there v now r)

pub put_once : ValuesArePutOnce
put_once home at v now = promised (keep_asks home at v) now (kept_of v) (λ m. PutOn v (log_key home at) (map.get m (log_key home at)) m) (λ m. put_at v now (log_key home at) m (map.get m (log_key home at)) refl)

-- no act changes such a row, but those that may remove one
act_keeps : (a : Act) (now : ℕ) (v : Value) → prunes a ≡ false → (act a now (Some (Row.ReadLog v))).0 ≡ Some (Row.ReadLog v)
act_keeps (Bind f w) now v keeps = refl
act_keeps (DropIntent l) now v keeps = cc
act_keeps DropRow now v keeps = cc
act_keeps a now v keeps = refl

pub values_stay : ValuesStay
values_stay q keeps = at_each IsKept (λ r v is. is) (λ a now r stays v is. subst (λ o. (act a now o).0 ≡ Some (Row.ReadLog v)) (sym is) (act_keeps a now v stays)) q keeps
