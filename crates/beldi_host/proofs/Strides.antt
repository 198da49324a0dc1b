-- A run that walks forward is given many turns at once.
use Rattle.std.proofs.Common.{lt-ltb}
use Rattle.beldi_value.specs.declared.place.Place.{Place}
use Rattle.beldi_row.specs.{Key.at_row, Key.row_of, Table.Along, Table.LeadsOn, Table.PassesOn, Table.PassesTold}
use Rattle.beldi_query.specs.Query.{query_reply}
use Rattle.beldi_core.specs.{PlannedEvent.IsWalk, PlannedEvent.WalkTold, PlannedEvent.strode, LiveRuns.walked_in}
use Rattle.beldi_row.proofs.Keys.{key_here, key_twice}
use Rattle.beldi_step.{proofs.Forward.run_twice, proofs.PutRun.put_self, proofs.PutRun.put_twice, proofs.Stride.walks_on, specs.HostStep.EventBy, specs.HostStep.put_run, specs.HostStep.turn_next}
use Rattle.beldi_step.specs.RunStride.{WalkedOn, walked, walking}
use Rattle.beldi_step.specs.declared.run.{Walking.Walking}
use Rattle.beldi_host.specs.HostStride.{Passes, Strides, Strode, just_acted}
use Rattle.beldi_host.proofs.Names.{Core, Deployment, EventOn, EventsKeepSafe, IsSafe, None, Ok, Option, Rows, Run, RowKey, EventReply, Some, TableState, Turn, Upkeep, IfSome, ap, append-nil, arith, asks, immediate, count_changes, counted, ended_run, false, on_reply, if◌then◌else◌, is_halt, keeps_upkeep, most_events, nat_lt, not, open_plan, plan, plan_of, refl, run_asks, run_next, run_plan, subst, suc, sym, true, zero, ℕ, ◌&&◌, ◌+◌, ◌<◌, ◌∙◌, ◌≡◌, ◌≤◌}
use Rattle.beldi_host.proofs.Names.map

-- the core after so many turns, in which the run came to this row
abbrev on_to : Core → ℕ → Run → ℕ → ℕ → Core
on_to c i r n row = record c { runs = put_run c.runs i (Some (walked row r)); taken = c.taken + n }

-- ---- one turn
module _ (d : Deployment) (room faults i : ℕ) (m : Rows) where
  module _ (c : Core) (r : Run) (w : Walking) (next : ℕ) (few : c.taken < most_events) (live : map.get c.runs i ≡ Some r) (unshut : c.shut ≡ false) (time : nat_lt r.deadline c.now ≡ false) (is : walking r ≡ Some w) (leads : LeadsOn m w.key w.place next) where
    on : WalkedOn d (count_changes c.book) r w next c.now m
    on = walks_on d (count_changes c.book) r w next c.now m is leads

    planned : plan d (Turn i) c ≡ asks (run_asks r)
    planned = ap (λ b. if b then open_plan d (Turn i) (counted c) else immediate c EventReply.Spent) (lt-ltb c.taken most_events few)
        ∙ ap (λ b. if b && not (is_halt (Turn i)) then immediate (counted c) EventReply.Shut else plan_of d (Turn i) (counted c)) unshut ∙ ap (run_plan (counted c) i) live
        ∙ ap (λ b. if b then immediate (ended_run (counted c) i) EventReply.Expired else asks (run_asks r)) time

    followed : on_reply d (Turn i) (counted c) (query_reply (run_asks r) c.now m) ≡ (on_to c i r 1 next, just_acted)
    followed = ap (run_next d (counted c) i (query_reply (run_asks r) c.now m)) live ∙ ap (turn_next (counted c) i r) on.told
        ∙ ap (λ book. (record (on_to c i r 1 next) { book = book }, just_acted)) (append-nil c.book)

    once : Strode d room faults i c (on_to c i r 1 next) m
    once = record {
      event = subst (λ p. EventBy d room faults faults (Turn i) (counted c) p m (on_to c i r 1 next) m (Ok just_acted)) (sym planned)
          (Ok (query_reply (run_asks r) c.now m), sym followed, (sym on.stands, refl, λ h. let clash : true ≡ false = sym h ∙ on.adds in cc), record { later = omega arith; failed = λ e. cc });
      run = walked next r;
      runs = refl;
    }

  -- ---- one after another, along the rows of the item k
  module _ (k : RowKey) (p : Option Place) where
    abbrev at : ℕ → Walking
    at a = record { key = at_row k a; place = p }

    then_on : (c : Core) (r : Run) (x n b : ℕ) → on_to (on_to c i r 1 x) i (walked x r) n b ≡ on_to c i r (suc n) b
    then_on c r x n b = ap (λ runs. record c { runs = runs; taken = c.taken + 1 + n }) (put_twice c.runs i (Some (walked x r)) (Some (walked b (walked x r))) ∙ ap (λ z. put_run c.runs i (Some (record r { at = z }))) (run_twice x b r.at))
        ∙ ap (λ t. record (on_to c i r 1 b) { taken = t }) {x = c.taken + 1 + n} (omega arith)

    many : (n a b : ℕ) (c : Core) (r : Run) → c.taken + suc n ≤ most_events → map.get c.runs i ≡ Some r → c.shut ≡ false → nat_lt r.deadline c.now ≡ false → walking r ≡ Some (at a) → Along m k p (suc n) a b
        → Strides d room faults i (suc n) c (on_to c i r (suc n) b) m
    many zero a b c r fits live unshut time is h = (on_to c i r 1 h.0, once c r (at a) h.0 (omega (arith, fits)) live unshut time is h.1, ap (on_to c i r 1) h.2)
    many (suc n) a b c r fits live unshut time is h =
        let few : c.taken < most_events = omega (arith, fits) in
        let first = on_to c i r 1 h.0 in
        let same : Some (record { key = at_row (at_row k a) h.0; place = p }) ≡ Some (at h.0) = ap (λ z. Some (record { key = z; place = p })) (key_twice k a h.0) in (
          first,
          once c r (at a) h.0 few live unshut time is h.1,
          subst (λ z. Strides d room faults i (suc n) first z m) (then_on c r h.0 (suc n) b)
              (many n h.0 b first (walked h.0 r) (omega (arith, fits)) (put_self c.runs i (Some (walked h.0 r))) unshut time ((on c r (at a) h.0 few live unshut time is h.1).walks ∙ same) h.2),
        )

-- ---- as many as a table tells
pub passes_so : (c : Core) (i most : ℕ) (w : Walking) (r : Option (ℕ × ℕ)) (told : Option Rows) → WalkTold c i (Some w) → PassesTold w.key w.place most r told → IfSome r (λ x. Passes c i most x told)
passes_so c i most w None told walk h = tt
passes_so c i most w (Some x) told walk h = record { walk = w; walks = walk; passes = h }

module _ (d : Deployment) (room faults i most : ℕ) (c : Core) (w : Walking) (b : ℕ) where
  on_rows : (n : ℕ) → 0 < n → c.taken + n ≤ most_events → (m : Rows) (o : Option Run) → map.get c.runs i ≡ o → IsWalk c w o → PassesOn w.key w.place most (Some (n, b)) m
      → Strides d room faults i n c (record c { runs = walked_in c.runs i b o; taken = c.taken + n }) m
  on_rows zero some fits m o live walk h = absurd (omega (arith, some))
  on_rows (suc n) some fits m None live walk h = absurd walk
  on_rows (suc n) some fits m (Some r) live walk h =
      let here = ap (λ k. Some (record { key = k; place = w.place })) (sym (key_here w.key)) in
      many d room faults i m w.key w.place n (row_of w.key.kind) b c r fits live walk.0 walk.1 (walk.2 ∙ here) h.1

  strides_told : (n : ℕ) → 0 < n → c.taken + n ≤ most_events → (told : Option Rows) → WalkTold c i (Some w) → PassesTold w.key w.place most (Some (n, b)) told → IfSome told (Strides d room faults i n c (strode c i n b))
  strides_told n some fits None walk h = tt
  strides_told n some fits (Some m) walk h = on_rows n some fits m (map.get c.runs i) refl walk h

pub strides_so : (d : Deployment) (i most : ℕ) (c : Core) (t : TableState) (n b : ℕ) → 0 < n → c.taken + n ≤ most_events → Passes c i most (n, b) t.rows → IfSome t.rows (Strides d t.room t.faults i n c (strode c i n b))
strides_so d i most c t n b some fits h = strides_told d t.room t.faults i most c h.walk b n some fits t.rows h.walks h.passes

-- ---- what it keeps
module _ (d : Deployment) (room faults i : ℕ) (m : Rows) where
  along : (P : Core → Type 0) → ((c b : Core) → EventOn d room faults faults (Turn i) c m b m (Ok just_acted) → P c → P b) → (n : ℕ) (c z : Core) → Strides d room faults i n c z m → P c → P z
  along P keeps zero c z same h = subst P (sym same) h
  along P keeps (suc n) c z s h = along P keeps n s.0 z s.2 (keeps c s.0 s.1.event h)

pub strides_keep : EventsKeepSafe → (d : Deployment) (room faults i n : ℕ) (c z : Core) (told : Option Rows) → IfSome told (Strides d room faults i n c z) → (IfSome told (IsSafe d c) → IfSome told (IsSafe d z)) × (IfSome told (Upkeep d c) → IfSome told (Upkeep d z))
strides_keep keeps_safe d room faults i n c z None s = (λ h. h, λ h. h)
strides_keep keeps_safe d room faults i n c z (Some m) s = (
  along d room faults i m (λ k. IsSafe d k m) (λ b a on h. (keeps_safe d room faults faults (Turn i) b a m m (Ok just_acted) h on).0) n c z s,
  along d room faults i m (λ k. Upkeep d k m) (λ b a on h. keeps_upkeep d room faults faults (Turn i) b a m m (Ok just_acted) h on) n c z s,
)
