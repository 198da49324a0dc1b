-- The row of the newest ticket stays.
use Rattle.std.specs.FinMap as map
use Rattle.std.specs.Ordering.{is_eq}
use Rattle.std.proofs.Common.{◌≡◌, ℕ, ◌<◌, Bool, true, false, cond, Option, refl, ap, sym, ◌∙◌, subst, arith}
use Rattle.beldi_row.specs.declared.act.Act.TheVariants.{DropIntent, DropRow, MarkCell, SkipCell, DangleCell, DropCell}
use Rattle.beldi_row.specs.Act.{act}
use Rattle.beldi_row.specs.{Key.RowKey, Key.key_cmp, Key.at_row, Key.kind_at, Key.rank_of, Key.row_of, declared.key.Kind.Kind, Table.Rows, Table.set_row, declared.row.Row.Row}
use Rattle.beldi_row.proofs.{Gets.got, Gets.key_same, Unchanged.looked}
use Rattle.beldi_intent.specs.Intent.{intent_key, root_key}
use Rattle.beldi_prune.specs.{Seat.seat}
use Rattle.beldi_prune.specs.PruneLaws.{NewestStays, IsBegun, MayGo, is_behind, is_left, rows_turned}
use Rattle.beldi_prune.specs.declared.collector.CollectorAt.{CollectorAt, TheVariants.Before, TheVariants.ToDropIntent, TheVariants.ToLook, TheVariants.ToDrop, TheVariants.ToProve, TheVariants.ToMark, TheVariants.ToLead, TheVariants.ToSkip, TheVariants.ToDangle, TheVariants.ToDropCell}

others_stay : (m : Rows) (k q : RowKey) (v : Option Row) → (q ≡ k → ⊥) → (b : Bool) → is_eq (key_cmp q k) ≡ b → map.get (set_row m k v) q ≡ map.get m q
others_stay m k q v other true is = absurd (other (key_same q k is))
others_stay m k q v other false is = got m k q v ∙ ap (λ b. cond b v (map.get m q)) is

no_less : (n : ℕ) → n < n → ⊥
no_less n h = omega (arith, h)

not_newest : (newest : ℕ) (k : RowKey) → MayGo newest k.kind → root_key newest ≡ k → ⊥
not_newest newest k h is = no_less newest (subst (λ (q : RowKey). MayGo newest q.kind) (sym is) h refl)

not_left : (newest : ℕ) (k : RowKey) → is_left k.kind ≡ true → root_key newest ≡ k → ⊥
not_left newest k h is = let clash : false ≡ true = ap (λ (q : RowKey). is_left q.kind) is ∙ h in cc

item_rank : (kind : Kind) (at : ℕ) → is_behind kind ≡ true → rank_of (kind_at kind at) ≡ 3
item_rank (Kind.Intent i) at h = cc
item_rank (Kind.ReadLog a) at h = cc
item_rank (Kind.Invoke a) at h = cc
item_rank (Kind.Data t k n) at h = refl
item_rank (Kind.Shadow s t k n) at h = cc
item_rank (Kind.Lockset i b t k) at h = cc

three_is_none : (n : ℕ) → n ≡ 0 → n ≡ 3 → ⊥
three_is_none n h g = omega (arith, h, g)

no_root_at : (newest : ℕ) (k : RowKey) (at : ℕ) → is_behind k.kind ≡ true → root_key newest ≡ at_row k at → ⊥
no_root_at newest k at h is = three_is_none (rank_of (kind_at k.kind at)) (sym (ap (λ (q : RowKey). rank_of q.kind) is)) (item_rank k.kind at h)

not_behind : (newest : ℕ) (k : RowKey) → is_behind k.kind ≡ true → root_key newest ≡ k → ⊥
not_behind newest k h is = let clash : false ≡ true = ap (λ (q : RowKey). is_behind q.kind) is ∙ h in cc

stays : (newest life now : ℕ) (m : Rows) (c : RowKey) (a : CollectorAt) → IsBegun newest c a → map.get (rows_turned life now (record { cursor = c; at = a }) m) (root_key newest) ≡ map.get m (root_key newest)
stays newest life now m c Before right = refl
stays newest life now m c (ToDropIntent k) right = others_stay m k (root_key newest) (act (DropIntent life) now (map.get m k)).0 (not_newest newest k right.1) (is_eq (key_cmp (root_key newest) k)) refl
stays newest life now m c (ToLook k) right = ap (λ (n : Rows). map.get n (root_key newest)) (looked now (seat k) m)
stays newest life now m c (ToDrop k) right = others_stay m k (root_key newest) (act DropRow now (map.get m k)).0 (not_left newest k right.1) (is_eq (key_cmp (root_key newest) k)) refl
stays newest life now m c (ToProve k i is) right = ap (λ (n : Rows). map.get n (root_key newest)) (looked now (intent_key i k.home) m)
stays newest life now m c (ToMark k) right = others_stay m k (root_key newest) (act MarkCell now (map.get m k)).0 (not_behind newest k right.1) (is_eq (key_cmp (root_key newest) k)) refl
stays newest life now m c (ToLead k to at) right = ap (λ (n : Rows). map.get n (root_key newest)) (looked now (at_row k at) m)
stays newest life now m c (ToSkip k to at) right = others_stay m (at_row k at) (root_key newest) (act (SkipCell (row_of k.kind) to) now (map.get m (at_row k at))).0 (no_root_at newest k at right.1) (is_eq (key_cmp (root_key newest) (at_row k at))) refl
stays newest life now m c (ToDangle k) right = others_stay m k (root_key newest) (act DangleCell now (map.get m k)).0 (not_behind newest k right.1) (is_eq (key_cmp (root_key newest) k)) refl
stays newest life now m c (ToDropCell k) right = others_stay m k (root_key newest) (act (DropCell life) now (map.get m k)).0 (not_behind newest k right.1) (is_eq (key_cmp (root_key newest) k)) refl

pub newest_stays : NewestStays
newest_stays newest life now w m right = stays newest life now m w.cursor w.at right
