-- What is to be so of the kept rows after an event, for the invariant to hold again; and that an event over the kept rows leaves it so.
use Rattle.std.specs.FinMap as map
use Rattle.std.specs.Prelude.{nat_lt, nat_le, ◌&&◌, Result}
use Rattle.std.specs.declared.alloc.AllocError.{AllocError}
use Rattle.std.proofs.lemmas.Bool.{and_parts, lt-ltb}
use Rattle.std.proofs.Common.{◌≡◌, ◌⊎◌, inl, inr, ℕ, zero, suc, ◌<◌, ◌≤◌, Bool, true, false, Option, Some, None, is_some, refl, ap, sym, ◌∙◌, subst, arith}
use borrow.Author.Tests.{le-leb, leb-true}
use Rattle.beldi_value.specs.{Id.has_no_hops, Id.root_of, declared.id.IntentId.IntentId}
use Rattle.beldi_tree.specs.declared.deployment.Deployment.{Deployment}
use Rattle.beldi_row.specs.{Act.act, Act.prunes, Key.RowKey, Table.Rows, declared.act.Act.Act, declared.row.Row.Row}
use Rattle.beldi_query.{proofs.Promises.row_there, specs.declared.query.Query.Query}
use Rattle.beldi_intent.specs.Intent.{root_key}
use Rattle.beldi_step.specs.HostStep.{Core, EventOn, Plan, asks, immediate, counted, plan, reads_all}
use Rattle.beldi_step.specs.declared.{event.Event.Event, event.EventReply.EventReply, run.Run.Run}
use Rattle.beldi_step.proofs.{StepRuns.adds_by, StepRuns.after_event, Spares.plan_removes, Spares.plan_spares}
use Rattle.beldi_histories.specs.Stands.{key_in}
use Rattle.beldi_invariant.proofs.Moves.{with_runs}
use Rattle.beldi_upkeep.specs.{Upkeep.Upkeep, WorksFor.IsUnfinished, WorksFor.IsWorkedFor, WorksFor.WorksFor, WorksFor.finish_in}
use Rattle.beldi_upkeep.proofs.{UpkeepKept.PlanKeeps, UpkeepKept.event_keeps, NewWork.new_work, NewWork.work_bound, Together.keeps_upkeep}
use Rattle.beldi_wanted.{specs.Wanted.Wanted, proofs.WantedKept.keeps_wanted}
use Rattle.beldi_kept.specs.{KeptAhead.StaysAhead, KeptRows.HasKept, KeptRows.IsLater, KeptRows.IsOld, KeptRows.IsOver, KeptRows.IsUnbound}
use Rattle.beldi_kept.proofs.{Gone.done_there, Gone.finished, Gone.old_finished, Gone.old_still, Gone.root_home, Gone.unbound_bare, Gone.unbound_none, Gone.unbound_root, Less.GoesOn, Less.IsBare, Less.bare_there, Less.dates_stay, Less.was_there}

-- the host, but for where the intent collector stands, the events that were taken, and whether it is shut
abbrev pub elsewhere : Core → RowKey → ℕ → Bool → Core
elsewhere c k t s = record c { cursor = k; taken = t; shut = s }

pub upkeep_elsewhere : (d : Deployment) (c : Core) (k : RowKey) (t : ℕ) (s : Bool) (m : Rows) → Upkeep d c m → Upkeep d (elsewhere c k t s) m
upkeep_elsewhere d c k t s m u = record { invariant = with_runs u.invariant (elsewhere c k t s) refl refl u.invariant.runs; seats = u.seats; owe = record { each = u.owe.each }; past = u.past; passes = record { each = u.passes.each }; near = record { soon = u.near.soon; near = u.near.near }; started = u.started }

pub wanted_elsewhere : (d : Deployment) (c : Core) (k : RowKey) (t : ℕ) (s : Bool) (m : Rows) → Wanted d c m → Wanted d (elsewhere c k t s) m
wanted_elsewhere d c k t s m h = record { spares = h.spares; frees = h.frees }

-- from the host c and the rows m and kept, the host b, the rows n, and kept rows
pub record Step (d : Deployment) (c b : Core) (gone : IntentId → Bool) (m kept n : Rows) : Type 0 where
  pub after : Rows
  pub upkeep : Upkeep d b after
  pub wanted : Wanted d b after
  pub goes : GoesOn gone m kept n after
  pub works : (k : ℕ) (r : Run) (i : IntentId) → map.get b.runs k ≡ Some r → WorksFor r r.at i → IsWorkedFor c r.deadline i ⊎ IsUnfinished kept i
  pub stay : (k : RowKey) → is_some (map.get kept k) ≡ true → is_some (map.get after k) ≡ true
  pub dates : (k : RowKey) (f : ℕ) → finish_in (map.get kept k) ≡ Some f → finish_in (map.get after k) ≡ Some f

-- ---- what every event keeps
-- what is so of a row stays so, where no act removes it
keeps_plan : (P : RowKey → Option Row → Type 0) → ((a : Act) → prunes a ≡ false → (now : ℕ) (k : RowKey) (r : Option Row) → P k r → P k (act a now r).0) → (z : Core) (p : Plan) → plan_removes p ≡ false → PlanKeeps P z p
keeps_plan P acts z (immediate y w) keeps = tt
keeps_plan P acts z (asks (Query.Act k a)) keeps = λ r h. acts a keeps z.now k r h
keeps_plan P acts z (asks (Query.After k)) keeps = tt
keeps_plan P acts z reads_all keeps = tt

abbrev Stays : Rows → RowKey → Option Row → Type 0
Stays m k r = is_some (map.get m k) ≡ true → is_some r ≡ true

abbrev StaysDated : Rows → RowKey → Option Row → Type 0
StaysDated m k r = (f : ℕ) → finish_in (map.get m k) ≡ Some f → finish_in r ≡ Some f

module _ (d : Deployment) (room old new : ℕ) (e : Event) (c b : Core) (m n : Rows) (x : Result EventReply AllocError) (s : EventOn d room old new e c m b n x) where
  pub rows_stay : (k : RowKey) → is_some (map.get m k) ≡ true → is_some (map.get n k) ≡ true
  rows_stay = event_keeps (Stays m) d room old new e c b m n x (keeps_plan (Stays m) (λ a keeps now k r h there. row_there a now r keeps (h there)) (counted c) (plan d e c) (plan_spares d e c)) (λ k there. there) s

  pub dates_on : (k : RowKey) (f : ℕ) → finish_in (map.get m k) ≡ Some f → finish_in (map.get n k) ≡ Some f
  dates_on = event_keeps (StaysDated m) d room old new e c b m n x (keeps_plan (StaysDated m) (λ a keeps now k r h f is. dates_stay a now r f keeps (h f is)) (counted c) (plan d e c) (plan_spares d e c)) (λ k f is. is) s

  pub moment_rises : c.now ≤ b.now
  moment_rises = (after_event (λ k r. Unit {0}) (λ q t. Unit {0}) d e c b (λ k r is. tt) (adds_by (λ k r. Unit {0}) (λ q t. Unit {0}) d e (counted c) (λ id f. tt) (λ i r live t told. record { goes = λ r is. tt; calls = λ starts r is. tt })) x room old new m n (λ q. tt) s).later

-- an event over the kept rows, where the host stood elsewhere before and stands elsewhere after
pub by_event : (d : Deployment) (room old new : ℕ) (e : Event) (c b : Core) (gone : IntentId → Bool) (m kept n after : Rows) (x : Result EventReply AllocError) (k l : RowKey) (t u : ℕ) (s v : Bool)
    → Upkeep d c kept → Wanted d c kept → EventOn d room old new e (elsewhere c k t s) kept b after x → GoesOn gone m kept n after → Step d c (elsewhere b l u v) gone m kept n
by_event d room old new e c b gone m kept n after x k l t u s v h wanted on goes =
    let before : Upkeep d (elsewhere c k t s) kept = upkeep_elsewhere d c k t s kept h in
    record {
      after = after;
      upkeep = upkeep_elsewhere d b l u v after (keeps_upkeep d room old new e (elsewhere c k t s) b kept after x before on);
      wanted = wanted_elsewhere d b l u v after (keeps_wanted d room old new e (elsewhere c k t s) b kept after x before.invariant (wanted_elsewhere d c k t s kept wanted) on);
      goes = goes;
      works = λ j r i live works. by_work r i (new_work d room old new e (elsewhere c k t s) b kept after x before.invariant before.seats on j r i live works);
      stay = rows_stay d room old new e (elsewhere c k t s) b kept after x on;
      dates = dates_on d room old new e (elsewhere c k t s) b kept after x on;
    }
  where
    by_work : (r : Run) (i : IntentId) → IsWorkedFor (elsewhere c k t s) r.deadline i ⊎ IsUnfinished kept i → IsWorkedFor c r.deadline i ⊎ IsUnfinished kept i
    by_work r i (inl w) = inl (record { number = w.number; run = w.run; live = w.live; works = w.works; due = w.due })
    by_work r i (inr none) = inr none

-- nothing happens to the kept rows, and the host stands elsewhere
pub by_rest : (d : Deployment) (c : Core) (gone : IntentId → Bool) (m kept n : Rows) (k : RowKey) (t : ℕ) (s : Bool) → Upkeep d c kept → Wanted d c kept → GoesOn gone m kept n kept → Step d c (elsewhere c k t s) gone m kept n
by_rest d c gone m kept n k t s h wanted goes = record {
  after = kept;
  upkeep = upkeep_elsewhere d c k t s kept h;
  wanted = wanted_elsewhere d c k t s kept wanted;
  goes = goes;
  works = λ j r i live works. inl (record { number = j; run = r; live = live; works = works; due = refl });
  stay = λ k there. there;
  dates = λ k f is. is;
}

-- ---- so the invariant holds again
still_unbound : (newest : ℕ) (i : IntentId) (s r : Option Row) → s ≡ None → IsBare r → has_no_hops i.hops ≡ true → i.ticket < newest → IsUnbound newest i s r
still_unbound newest i None (Some (Row.Intent w)) none bare root below = (bare, root, below)
still_unbound newest i None None none bare root below = absurd bare
still_unbound newest i None (Some w) none bare root below = absurd bare
still_unbound newest i (Some s) r none bare root below = cc

unbound_below : (newest : ℕ) (i : IntentId) (s r : Option Row) → IsUnbound newest i s r → i.ticket < newest
unbound_below newest i None (Some (Row.Intent r)) u = u.2
unbound_below newest i None None u = absurd u
unbound_below newest i None (Some r) u = absurd u
unbound_below newest i (Some s) r u = absurd u

-- ---- roots that have their kept rows
module _ (d : Deployment) (c : Core) (m : Rows) (h : HasKept d c m) where
  -- what the table has was kept
  pub was_kept : (k : RowKey) → is_some (map.get m k) ≡ true → is_some (map.get h.kept k) ≡ true
  was_kept k there = was_there h.gone m h.kept h.less k there

  -- a root that has its kept row was issued
  pub issued : (t : ℕ) → is_some (map.get h.kept (root_key t)) ≡ true → t ≤ c.newest
  issued t there = leb-true t c.newest (and_parts (nat_lt 0 t) (nat_le t c.newest) (sym (h.upkeep.invariant.tickets t) ∙ there)).1

  by_home : (home : ℕ) (t : ℕ) → is_some (map.get h.kept (key_in home (root_of t))) ≡ true → is_some (map.get h.kept (root_key t)) ≡ true
  by_home home t there = subst (λ g. is_some (map.get h.kept (key_in g (root_of t))) ≡ true) (root_home d c h.kept h.upkeep.invariant (root_of t) home refl there) there

  -- a root that is gone has one
  pub gone_issued : (t : ℕ) → h.gone (root_of t) ≡ true → is_some (map.get h.kept (root_key t)) ≡ true
  gone_issued t off = let o = h.over (root_of t) off in by_home o.home t (by_over o.home o.over)
    where
      by_over : (home : ℕ) → IsOld d.life h.latest (finish_in (map.get h.kept (key_in home (root_of t)))) ⊎ IsUnbound c.newest (root_of t) (map.get m (key_in home (root_of t))) (map.get h.kept (key_in home (root_of t))) → is_some (map.get h.kept (key_in home (root_of t))) ≡ true
      by_over home (inl old) = done_there (map.get h.kept (key_in home (root_of t))) (inl (old_finished d.life h.latest (map.get h.kept (key_in home (root_of t))) old))
      by_over home (inr u) = bare_there (map.get h.kept (key_in home (root_of t))) (unbound_bare c.newest (root_of t) (map.get m (key_in home (root_of t))) (map.get h.kept (key_in home (root_of t))) u)

module _ (d : Deployment) (c b : Core) (m n : Rows) (h : HasKept d c m) (s : Step d c b h.gone m h.kept n) (later : c.now ≤ b.now) (stay : (k : RowKey) → is_some (map.get m k) ≡ true → is_some (map.get n k) ≡ true) where
  newest_rises : c.newest ≤ b.newest
  newest_rises = elim h.newest [
    | inl e ↦ omega (arith, e)
    | inr there ↦ leb-true c.newest b.newest (and_parts (nat_lt 0 c.newest) (nat_le c.newest b.newest) (sym (s.upkeep.invariant.tickets c.newest) ∙ s.stay (root_key c.newest) (was_kept d c m h (root_key c.newest) there))).1
  ]

  -- ---- who is gone
  over_on : (i : IntentId) → IsOver d.life c.newest h.latest m h.kept i → IsOver d.life b.newest h.latest n s.after i
  over_on i o = record { home = o.home; over = by_over o.over }
    where
      by_over : IsOld d.life h.latest (finish_in (map.get h.kept (key_in o.home i))) ⊎ IsUnbound c.newest i (map.get m (key_in o.home i)) (map.get h.kept (key_in o.home i)) → IsOld d.life h.latest (finish_in (map.get s.after (key_in o.home i))) ⊎ IsUnbound b.newest i (map.get n (key_in o.home i)) (map.get s.after (key_in o.home i))
      by_over (inl old) = inl (old_still d.life h.latest h.latest (finish_in (map.get h.kept (key_in o.home i))) (finish_in (map.get s.after (key_in o.home i))) (omega arith) (s.dates (key_in o.home i)) old)
      by_over (inr u) =
          let x = map.get m (key_in o.home i) in
          let y = map.get h.kept (key_in o.home i) in
          let none = s.goes.none (key_in o.home i) (unbound_none c.newest i x y u) (bare_there y (unbound_bare c.newest i x y u)) in
          let bare = s.goes.bare (key_in o.home i) (unbound_none c.newest i x y u) (unbound_bare c.newest i x y u) in
          let below : i.ticket < b.newest = (let low = unbound_below c.newest i x y u in let rise = newest_rises in omega (arith, low, rise)) in
          inr (still_unbound b.newest i (map.get n (key_in o.home i)) (map.get s.after (key_in o.home i)) none bare (unbound_root c.newest i x y u) below)

  over_now : (i : IntentId) → h.gone i ≡ true → IsOver d.life b.newest h.latest n s.after i
  over_now i off = over_on i (h.over i off)

  -- nobody begins to work for who is gone
  bound_there : (k : ℕ) (r : Run) (i : IntentId) → map.get b.runs k ≡ Some r → WorksFor r r.at i → (home : ℕ) (w : Option Row) → map.get s.after (key_in home i) ≡ w → IsBare w → ⊥
  bound_there k r i live works home (Some (Row.Intent w)) is bare = let clash = sym (ap is_some bare) ∙ work_bound d b s.after s.upkeep.invariant k r i live (inl works) home w is in cc
  bound_there k r i live works home None is bare = absurd bare
  bound_there k r i live works home (Some w) is bare = absurd bare

  none_new : (k : ℕ) (r : Run) (i : IntentId) → map.get b.runs k ≡ Some r → WorksFor r r.at i → IsUnfinished h.kept i → h.gone i ≡ true → ⊥
  none_new k r i live works none off = let o = h.over i off in elim o.over [
    | inl old ↦ finished h.kept i o.home (old_finished d.life h.latest (map.get h.kept (key_in o.home i)) old) none
    | inr u ↦
        let x = map.get m (key_in o.home i) in
        let y = map.get h.kept (key_in o.home i) in
        bound_there k r i live works o.home (map.get s.after (key_in o.home i)) refl (s.goes.bare (key_in o.home i) (unbound_none c.newest i x y u) (unbound_bare c.newest i x y u))
  ]

  not_gone : (i : IntentId) (g : Bool) → h.gone i ≡ g → (h.gone i ≡ true → ⊥) → h.gone i ≡ false
  not_gone i true e never = absurd (never e)
  not_gone i false e never = e

  spared : (k : ℕ) (r : Run) (i : IntentId) → map.get b.runs k ≡ Some r → b.now ≤ r.deadline → WorksFor r r.at i → h.gone i ≡ false
  spared k r i live in_time works = elim (s.works k r i live works) [
    | inl w ↦ h.spared w.number w.run i w.live (let due = w.due in omega (arith, later, in_time, due)) w.works
    | inr none ↦ not_gone i (h.gone i) refl (none_new k r i live works none)
  ]

  -- ---- the newest ticket
  -- a ticket that is newer has its row
  newer : (t : ℕ) → is_some (map.get s.after (root_key t)) ≡ true → is_some (map.get h.kept (root_key t)) ≡ false → is_some (map.get n (root_key t)) ≡ true
  newer t there new = elim (s.goes.less.rows (root_key t) refl) [
    | inl same ↦ ap is_some same ∙ there
    | inr off ↦ let clash = sym new ∙ gone_issued d c m h t off.1 in cc
  ]

  newest_there : (c.newest ≡ 0) ⊎ (is_some (map.get m (root_key c.newest)) ≡ true) → (t : ℕ) → b.newest ≡ t → (g : Bool) → is_some (map.get h.kept (root_key t)) ≡ g → (t ≡ 0) ⊎ (is_some (map.get n (root_key t)) ≡ true)
  newest_there was zero is g here = inl refl
  newest_there was (suc t) is false here = inr (newer (suc t) (s.upkeep.invariant.tickets (suc t) ∙ within) here)
    where
      within : (nat_lt 0 (suc t) && nat_le (suc t) b.newest) ≡ true
      within = ap (λ z. nat_lt 0 (suc t) && nat_le (suc t) z) is ∙ ap (λ z. z && nat_le (suc t) (suc t)) (lt-ltb 0 (suc t) (omega arith)) ∙ le-leb (suc t) (suc t) (omega arith)
  newest_there (inl none) (suc t) is true here = let low = issued d c m h (suc t) here in absurd (omega (arith, low, none))
  newest_there (inr there) (suc t) is true here =
      let low = issued d c m h (suc t) here in
      let rise = newest_rises in
      let same : c.newest ≡ suc t = omega (arith, low, rise, is) in
      inr (stay (root_key (suc t)) (subst (λ z. is_some (map.get m (root_key z)) ≡ true) same there))

  module _ (ahead : (k : ℕ) (r : Run) → map.get b.runs k ≡ Some r → b.now ≤ r.deadline → StaysAhead d.life n r r.at) where
    pub has_kept : HasKept d b n
    has_kept = record { kept = s.after; upkeep = s.upkeep; wanted = s.wanted; gone = h.gone; less = s.goes.less; latest = h.latest; over = over_now; spared = spared; ahead = ahead; newest = newest_there h.newest b.newest refl (is_some (map.get h.kept (root_key b.newest))) refl }

    pub is_later : IsLater h has_kept
    unfolding has_kept
    is_later = record { moment = later; ticket = newest_rises; rows = s.stay; finishes = s.dates; gone = λ i off. off; latest = omega arith }

    pub same_latest : has_kept.latest ≡ h.latest
    unfolding has_kept
    same_latest = refl
