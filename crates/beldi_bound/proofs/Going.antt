-- What every query and every event leaves: rows that go on, and no row more where there is no room for one; and a turn that waits leaves
-- all rows.
use Rattle.std.specs.Prelude.{not, ◌||◌, ◌&&◌, ◌⊎◌, Result, Ok, Err}
use Rattle.std.specs.declared.alloc.AllocError.{AllocError}
use Rattle.std.specs.FinMap as map
use Rattle.std.specs.FinMap.{len-insert, len-remove}
use Rattle.std.proofs.Common.{◌≡◌, ℕ, ◌+◌, ◌-◌, ◌≤◌, ◌<◌, Bool, true, false, cond, IsTrue, Option, Some, None, is_some, refl, sym, ◌∙◌, subst, inl, inr, arith}
use Rattle.beldi_value.specs.declared.{id.IntentId.IntentId, outcome.Outcome.Outcome, place.Caller.Caller}
use Rattle.beldi_tree.specs.{Names.func_at, declared.deployment.Deployment.Deployment, declared.deployment.Func.Func}
use Rattle.beldi_lang.specs.{declared.effect.Effect.Effect, declared.machine.Machine.Machine, Machine.begun as machine_begun}
use Rattle.beldi_book.specs.LinearOrder.{count_changes}
use Rattle.beldi_row.{proofs.Unchanged.left, proofs.Unchanged.looked, specs.Act.ActReply, specs.Act.act, specs.Act.held, specs.Act.packed, specs.Act.off, specs.Key.RowKey, specs.KeyOrder.key_total, specs.Table.Rows, specs.Table.set_row, specs.declared.act.Act.Act, specs.declared.act.Act.TheVariants.Look, specs.declared.row.Body.Body, specs.declared.row.IntentRow.IntentRow, specs.declared.row.Row.Row, specs.declared.table.TableErr.TableErr}
use Rattle.beldi_step.proofs.Spares.{plan_removes, plan_spares}
use Rattle.beldi_query.{proofs.Lent.refused_stand, proofs.Lent.stands, proofs.Promises.row_there, proofs.Promises.rows_there, specs.Query.may_remove, specs.declared.query.Query.Query, specs.Query.CameOn, specs.Query.QueryReply, specs.Query.is_death, specs.Query.lent, specs.Query.query_adds, specs.Query.rows_after, specs.Query.replied, specs.Query.query_reply}
use Rattle.beldi_intent.{proofs.Intents.intents_stay, specs.Intent.GoesOn as IntentStays, specs.Intent.IntentGoesOn, specs.Intent.body_told, specs.Intent.intent_in, specs.Intent.is_ended}
use Rattle.beldi_step.specs.{declared.event.Event.Event, declared.event.EventReply.EventReply, declared.run.Begun.Begun, declared.run.Mark.Mark, declared.run.Run.Run, declared.run.RunAt.RunAt, declared.run.RunTx.RunTx, declared.run.StageOutput.StageOutput, declared.run.Stage.Stage, declared.run.Wait.Wait, HostStep.Core, HostStep.EventBy, HostStep.EventOn, HostStep.Plan, HostStep.immediate as answered, HostStep.asks, HostStep.counted, HostStep.plan, HostStep.reads_all}
use Rattle.beldi_step.specs.Run.{asks_at, local_steps, begin_in, body_registered, first_stage, goes_from, goes_to, run_asks, stage_asks, stage_output, takes, told_at, turned_by, inherited_tx}
use Rattle.beldi_histories.proofs.{Cases.by_cases, RowMaps.keys_set}
use Rattle.beldi_invariant.{proofs.OneAnswer.act_keeps, specs.OneAnswer.AnswersStay}
use Rattle.beldi_upkeep.specs.Checked.{body_at}
use Rattle.beldi_bound.{proofs.Facts.EventsGoOn, proofs.Facts.GoesOn, proofs.Facts.WaitsLeaveRows, specs.SettleWork.has_ended}

-- ---- rows that are as before go on, and so do rows after rows
pub goes_same : (m : Rows) → GoesOn m m
goes_same m = record {
  keys = λ k there. there;
  intents = λ k i is. (i, is, record { issued = refl; body = λ b is. is; outcome = λ o is. is; finish = λ t is. is });
  answers = λ id func step x e a held. held;
}

intent_then : (i j k : IntentRow) → IntentStays i j → IntentStays j k → IntentStays i k
intent_then i j k g h = record { issued = h.issued ∙ g.issued; body = λ b is. h.body b (g.body b is); outcome = λ o is. h.outcome o (g.outcome o is); finish = λ t is. h.finish t (g.finish t is) }

pub goes_then : {m n o : Rows} → GoesOn m n → GoesOn n o → GoesOn m o
goes_then g h = record {
  keys = λ k there. h.keys k (g.keys k there);
  intents = λ k i is. let j = g.intents k i is in let l = h.intents k j.0 j.1 in (l.0, l.1, intent_then i j.0 l.0 j.2 l.2);
  answers = λ id func step x e a held. h.answers id func step x e a (g.answers id func step x e a held);
}

-- ---- a query
answers_stay : (q : Query) → may_remove q ≡ false → (now : ℕ) (m : Rows) → AnswersStay m (rows_after q now m)
answers_stay (Query.Act k a) keeps now m = act_keeps a keeps now k m
answers_stay (Query.After k) keeps now m = (goes_same m).answers

pub query_goes_on : (q : Query) → may_remove q ≡ false → (now : ℕ) (m : Rows) → GoesOn m (rows_after q now m)
query_goes_on q keeps now m = record {
  keys = rows_there q keeps now m;
  intents = intents_stay q keeps now m;
  answers = answers_stay q keeps now m;
}

-- .. takes no row away, and adds one only where it says so
set_len : (m : Rows) (k : RowKey) (v : Option Row) → (is_some (map.get m k) ≡ true → is_some v ≡ true) → map.len m ≤ map.len (set_row m k v)
set_len m k None stays = subst (λ n. map.len m ≤ n) (sym (len-remove key_total m k)) (by_test (map.contains_key m k) stays)
  where
    by_test : (b : Bool) → (b ≡ true → false ≡ true) → map.len m ≤ cond b (map.len m - 1) (map.len m)
    by_test true stays = let clash = stays refl in cc
    by_test false stays = omega arith
set_len m k (Some r) stays = subst (λ n. map.len m ≤ n) (sym (len-insert key_total m k r)) (by_test (map.contains_key m k))
  where
    by_test : (b : Bool) → map.len m ≤ cond b (map.len m) (map.len m + 1)
    by_test true = omega arith
    by_test false = omega arith

pub query_len : (q : Query) → may_remove q ≡ false → (now : ℕ) (m : Rows) → map.len m ≤ map.len (rows_after q now m)
query_len (Query.Act k a) keeps now m = set_len m k (act a now (map.get m k)).0 (row_there a now (map.get m k) keeps)
query_len (Query.After k) keeps now m = omega arith

not_added : (a : Act) (now : ℕ) (r : Option Row) → r ≡ None → (IsTrue (not (is_some r) && is_some (off a now).0) → ⊥) → (act a now r).0 ≡ None
not_added a now (Some r) none h = cc
not_added a now None none h = by_off (off a now).0 h
  where
    by_off : (o : Option Row) → (IsTrue (is_some o) → ⊥) → o ≡ None
    by_off None h = refl
    by_off (Some r) h = absurd (h refl)

pub query_full : (q : Query) (now : ℕ) (m : Rows) → (IsTrue (query_adds q now m) → ⊥) → (k : RowKey) → map.get m k ≡ None → map.get (rows_after q now m) k ≡ None
query_full (Query.Act k a) now m h = keys_set m k (act a now (map.get m k)).0 (λ l o. map.get m l ≡ None → o ≡ None) (λ none. not_added a now (map.get m k) none h) (λ l apart none. none)
query_full (Query.After k) now m h = λ l none. none

-- ---- an event: what is so of each query that may be made, and of rows that are as before
module _ (room : ℕ) (P : Rows → Rows → Type 0) (same : (m : Rows) → P m m) (made : (q : Query) → may_remove q ≡ false → (now : ℕ) (m : Rows) → (IsTrue (query_adds q now m) → map.len m < room) → P m (rows_after q now m)) where
  came : (q : Query) → may_remove q ≡ false → (now : ℕ) (w : Result QueryReply TableErr) (m n : Rows) → CameOn q now room w m n → P m n
  came q keeps now (Ok t) m n s = subst (P m) (sym s.0) (made q keeps now m s.2)
  came q keeps now (Err v) m n s = subst (P m) (sym (refused_stand q now room v m n s)) (same m)

  by_plan : (d : Deployment) (old new : ℕ) (e : Event) (c b : Core) (m n : Rows) (r : Result EventReply AllocError) (p : Plan) → plan_removes p ≡ false → EventBy d room old new e c p m b n r → P m n
  by_plan d old new e c b m n r (answered k y) keeps s = subst (P m) (sym s.1) (same m)
  by_plan d old new e c b m n r (asks q) keeps s = came q keeps c.now s.0 m n s.2
  by_plan d old new e c b m n r reads_all keeps s = subst (P m) (sym s.2.0) (same m)

  by_event : (d : Deployment) (old new : ℕ) (e : Event) (c b : Core) (m n : Rows) (r : Result EventReply AllocError) → EventOn d room old new e c m b n r → P m n
  by_event d old new e c b m n r s = by_plan d old new e (counted c) b m n r (plan d e c) (plan_spares d e c) s

pub events_go_on : EventsGoOn
events_go_on d room old new e c b m n r s = by_event room GoesOn goes_same (λ q keeps now m fits. query_goes_on q keeps now m) d old new e c b m n r s

module _ (d : Deployment) (room old new : ℕ) (e : Event) (c b : Core) (m n : Rows) (r : Result EventReply AllocError) (s : EventOn d room old new e c m b n r) where
  pub full_stays : room ≤ map.len m → (k : RowKey) → map.get m k ≡ None → map.get n k ≡ None
  full_stays = by_event room (λ m n. room ≤ map.len m → (k : RowKey) → map.get m k ≡ None → map.get n k ≡ None) (λ m full k none. none)
      (λ q keeps now m fits full. query_full q now m (λ adds. let more : map.len m < room = fits adds in omega arith)) d old new e c b m n r s

  pub rows_stay : map.len m ≤ map.len n
  rows_stay = by_event room (λ m n. map.len m ≤ map.len n) (λ m. omega arith) (λ q keeps now m fits. query_len q keeps now m) d old new e c b m n r s

  pub room_stays : room ≤ map.len m → room ≤ map.len n
  room_stays full = let more = rows_stay in omega arith

-- ---- what stays of intents
body_goes : (o u : Option Row) → IntentGoesOn o u → (b : Body) → body_at o ≡ Some b → body_at u ≡ Some b
body_goes (Some (Row.Intent i)) u goes b is = let j = goes i refl in by_row u j.0 j.1 (j.2.body b is)
  where
    by_row : (u : Option Row) (j : IntentRow) → intent_in u ≡ Some j → j.body ≡ Some b → body_at u ≡ Some b
    by_row u j there is = grind arith
body_goes o u goes b is = cc

outcome_goes : (o p : Option Outcome) (f g : Option ℕ) → ((x : Outcome) → o ≡ Some x → p ≡ Some x) → ((t : ℕ) → f ≡ Some t → g ≡ Some t) → (is_some o || is_some f) ≡ true → (is_some p || is_some g) ≡ true
outcome_goes o p f g ends stamps is = grind arith

ended_goes : (o u : Option Row) → IntentGoesOn o u → has_ended o ≡ true → has_ended u ≡ true
ended_goes (Some (Row.Intent i)) u goes is = let j = goes i refl in by_row u j.0 j.1 (outcome_goes i.outcome j.0.outcome i.finish j.0.finish j.2.outcome j.2.finish is)
  where
    by_row : (u : Option Row) (j : IntentRow) → intent_in u ≡ Some j → is_ended j ≡ true → has_ended u ≡ true
    by_row u j there is = grind arith
ended_goes o u goes is = cc

module _ {m n : Rows} (g : GoesOn m n) (k : RowKey) where
  pub bodies_stay : (b : Body) → body_at (map.get m k) ≡ Some b → body_at (map.get n k) ≡ Some b
  bodies_stay = body_goes (map.get m k) (map.get n k) (g.intents k)

  pub ends_stay : has_ended (map.get m k) ≡ true → has_ended (map.get n k) ≡ true
  ends_stay = ended_goes (map.get m k) (map.get n k) (g.intents k)

  pub unended_before : has_ended (map.get n k) ≡ false → has_ended (map.get m k) ≡ false
  unended_before unended = by_cases (has_ended (map.get m k)) (λ is. let clash = sym (ends_stay is) ∙ unended in cc) (λ is. is)

-- ---- where a run waits, its turn looked, or was told of an owner, or of a full row; so it left the rows
abbrev is_look : Query → Bool
is_look (Query.Act k Look) = true
is_look q = false

abbrev is_held : QueryReply → Bool
is_held (replied (held o)) = true
is_held (replied (packed v o)) = true
is_held t = false

abbrev Stands : Query → QueryReply → Type 0
Stands q t = (is_look q ≡ true) ⊎ (is_held t ≡ true)

held_lent : (t : ActReply) → is_held (replied t) ≡ true → (lent t ≡ true) × (is_death t ≡ false)
held_lent t is = grind arith

query_stands : (q : Query) (now : ℕ) (m : Rows) → Stands q (query_reply q now m) → rows_after q now m ≡ m
query_stands q now m (inl is) = grind (arith, looked)
query_stands (Query.Act k a) now m (inr is) = let l = held_lent (act a now (map.get m k)).1 is in left a now k m (map.get m k) refl (stands a now (map.get m k) l.0 l.1)
query_stands (Query.After k) now m (inr is) = refl

abbrev WaitsSo : Query → QueryReply → StageOutput → Type 0
WaitsSo q t (StageOutput.Waits w) = Stands q t
WaitsSo q t s = Unit {0}

stage_waits : (id : IntentId) (func : ℕ) (c : Option Caller) (o : Option RunTx) (changes step : ℕ) (e : Effect) (s : Stage) (t : QueryReply) → WaitsSo (stage_asks id func c o step e s) t (stage_output id func c o changes step e s t)
stage_waits id func c o changes step e Stage.Ask t = grind arith
stage_waits id func c o changes step e (Stage.Walk r) t = grind arith
stage_waits id func c o changes step e (Stage.Keep v version) t = tt
stage_waits id func c o changes step e (Stage.Write at) t = grind arith
stage_waits id func c o changes step e (Stage.Tx at) t = grind arith
stage_waits id func c o changes step e (Stage.Decide m) t = grind arith
stage_waits id func c o changes step e (Stage.End v) t = grind arith
stage_waits id func c o changes step e (Stage.Call at) t = grind arith
stage_waits id func c o changes step e (Stage.Async at) t = grind arith
stage_waits id func c o changes step e Stage.Back t = grind arith
stage_waits id func c o changes step e Stage.Notify t = tt
stage_waits id func c o changes step e Stage.Close t = grind arith

-- .. and it waits only at a stage
from_waits : (r : Run) (z : Machine × Option RunTx) (c : Option Caller) (m : Option Mark) (s : Option Stage) → (goes_from r z c m s).wait ≡ None
from_waits r z c m s = grind arith

to_waits : (d : Deployment) (r : Run) (z : Machine × Option RunTx) (c : Option Caller) (m : Option Mark) → (goes_to d r z c m).wait ≡ None
to_waits d r z c m = let y = local_steps d r.id z in from_waits r y c m (first_stage r.id c y.1 y.0.steps y.0.effect)

begin_waits : (d : Deployment) (r : Run) (f : Option Func) (b : Option Body) → (begin_in d r f b).wait ≡ None
begin_waits d r f None = refl
begin_waits d r None (Some b) = refl
begin_waits d r (Some f) (Some b) = to_waits d r (machine_begun d r.func b.args (is_some b.tx), inherited_tx b.tx) b.parent None

turn_waits : (d : Deployment) (r : Run) (g : Begun) (q : Query) (t : QueryReply) (s : StageOutput) (w : Wait) → WaitsSo q t s → (turned_by d r g s).wait ≡ Some w → Stands q t
turn_waits d r g q t (StageOutput.Waits v) w so is = so
turn_waits d r g q t (StageOutput.Starts a) w so is = let none = to_waits d r (takes d g.machine g.tx a) g.caller None in cc
turn_waits d r g q t (StageOutput.Answers a m) w so is = let none = to_waits d r (takes d g.machine g.tx a) g.caller m in cc
turn_waits d r g q t s w so is = cc

at_waits : (d : Deployment) (changes : ℕ) (r : Run) (at : RunAt) (t : QueryReply) (w : Wait) → (told_at d changes r at t).wait ≡ Some w → Stands (asks_at r at) t
at_waits d changes r RunAt.Looks t w is = let none = begin_waits d r (func_at d r.func) (body_told r.func t) in cc
at_waits d changes r (RunAt.Registers b) t w is = let none = begin_waits d r (func_at d r.func) (body_registered r.func b t) in cc
at_waits d changes r (RunAt.Begins g) t w is =
    let s = stage_output r.id r.func g.caller g.tx changes g.machine.steps g.machine.effect g.stage t in
    turn_waits d r g (asks_at r (RunAt.Begins g)) t s w (stage_waits r.id r.func g.caller g.tx changes g.machine.steps g.machine.effect g.stage t) is

pub waits_leave_rows : WaitsLeaveRows
waits_leave_rows d c m i r w sound live is = query_stands (run_asks r) c.now m (at_waits d (count_changes c.book) r r.at (query_reply (run_asks r) c.now m) w is)
