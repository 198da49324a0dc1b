-- Where a log collector does not begin to lead past a row.
use Rattle.std.specs.FinMap as map
use Rattle.std.proofs.Common.{◌≡◌, ℕ, Bool, true, false, List, [], ◌∷◌, refl, ap, sym, ◌∙◌}
use Rattle.beldi_value.specs.declared.id.IntentId.{IntentId}
use Rattle.beldi_row.specs.declared.act.Act.TheVariants.{Look}
use Rattle.beldi_row.specs.{Key.RowKey, Act.act, Table.Rows}
use Rattle.beldi_query.specs.Query.{replied}
use Rattle.beldi_intent.specs.Intent.{intent_key}
use Rattle.beldi_prune.specs.{PruneLaws.turned, Seat.seat}
use Rattle.beldi_prune.specs.Prune.{is_recyclable, stand_if, to_prove}
use Rattle.beldi_prune.specs.declared.collector.CollectorAt.{CollectorAt, TheVariants.Before, TheVariants.ToDropIntent, TheVariants.ToLook, TheVariants.ToDrop, TheVariants.ToProve, TheVariants.ToMark, TheVariants.ToLead, TheVariants.ToSkip, TheVariants.ToDangle, TheVariants.ToDropCell}

-- it is on the way to a row that is marked, or at its end
abbrev pub is_way : CollectorAt → Bool
is_way Before = false
is_way (ToDropIntent k) = false
is_way (ToLook k) = false
is_way (ToDrop k) = false
is_way (ToProve k i is) = false
is_way (ToMark k) = false
is_way (ToLead k to at) = true
is_way (ToSkip k to at) = true
is_way (ToDangle k) = true
is_way (ToDropCell k) = false

-- no turn leads from it onto one
abbrev pub is_quiet : CollectorAt → Bool
is_quiet Before = false
is_quiet (ToDropIntent k) = true
is_quiet (ToLook k) = true
is_quiet (ToDrop k) = true
is_quiet (ToProve k i is) = true
is_quiet (ToMark k) = false
is_quiet (ToLead k to at) = false
is_quiet (ToSkip k to at) = false
is_quiet (ToDangle k) = true
is_quiet (ToDropCell k) = true

pub proved_quiet : (q : RowKey) (js : List IntentId) → is_way (to_prove q js) ≡ false
proved_quiet q [] = refl
proved_quiet q (i ∷ js) = refl

if_quiet : (c q : RowKey) (a : CollectorAt) → is_way a ≡ false → (b : Bool) → is_way (stand_if c q a b).at ≡ false
if_quiet c q a h true = h
if_quiet c q a h false = refl

pub clash : (x y : CollectorAt) → is_way x ≡ false → is_way y ≡ true → x ≡ y → ⊥
clash x y none is h = let same : false ≡ true = sym none ∙ ap is_way h ∙ is in cc

abbrev pub at_after : ℕ → ℕ → ℕ → Rows → RowKey → CollectorAt → CollectorAt
at_after newest life now m c a = (turned newest life now (record { cursor = c; at = a }) m).at

pub quiet : (newest life now : ℕ) (m : Rows) (c : RowKey) (a : CollectorAt) → is_quiet a ≡ true → is_way (at_after newest life now m c a) ≡ false
quiet newest life now m c Before h = cc
quiet newest life now m c (ToDropIntent q) h = refl
quiet newest life now m c (ToLook q) h = if_quiet c q (ToDrop q) refl (is_recyclable life now (replied (act Look now (map.get m (seat q))).1))
quiet newest life now m c (ToDrop q) h = refl
quiet newest life now m c (ToProve q i js) h = if_quiet c q (to_prove q js) (proved_quiet q js) (is_recyclable life now (replied (act Look now (map.get m (intent_key i q.home))).1))
quiet newest life now m c (ToMark q) h = cc
quiet newest life now m c (ToLead q to at) h = cc
quiet newest life now m c (ToSkip q to at) h = cc
quiet newest life now m c (ToDangle q) h = refl
quiet newest life now m c (ToDropCell q) h = refl

pub none : (newest life now : ℕ) (m : Rows) (c : RowKey) (a b : CollectorAt) → is_quiet a ≡ true → is_way b ≡ true → at_after newest life now m c a ≡ b → ⊥
none newest life now m c a b q is h = clash (at_after newest life now m c a) b (quiet newest life now m c a q) is h
