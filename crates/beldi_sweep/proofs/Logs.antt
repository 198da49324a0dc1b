-- A sweep is done with each row that is no row of an item, and with each first row of one.
use Rattle.std.specs.Ordering.{is_eq}
use Rattle.std.specs.Prelude.{not, is_some, ◌&&◌, if◌then◌else◌}
use Rattle.std.specs.FinMap as map
use Rattle.std.proofs.lemmas.Bool.{false_from_ne_true}
use Rattle.std.proofs.Common.{◌≡◌, inl, ℕ, zero, suc, ◌<◌, Bool, true, false, cond, List, Option, None, Some, refl, ap, ap₂, sym, ◌∙◌, subst, arith}
use Rattle.beldi_value.specs.declared.id.IntentId.{IntentId}
use Rattle.beldi_row.specs.declared.act.Act.TheVariants.{DropIntent, DropRow}
use Rattle.beldi_row.specs.{Act.ActReply, Act.act, Act.did, Act.is_left_row, Act.is_old_row, Act.removed_reply, Act.stays_unless, Key.RowKey, Key.at_row, Key.key_cmp, Key.kind_at, Key.rank_of, Table.Rows, Table.next_row, Table.set_row, declared.key.Kind.Kind, declared.row.Cell.Cell, declared.row.Row.Row}
use Rattle.beldi_row.proofs.{Gets.got, Gets.key_same, Unchanged.looked}
use Rattle.beldi_chain.specs.Chain.{chain}
use Rattle.beldi_query.specs.Query.{replied}
use Rattle.beldi_prune.specs.{PruneLaws.IsOldAt, PruneLaws.is_left, Prune.is_newest, Prune.past, Prune.output_if, Prune.stand, Prune.stand_if, Prune.todo_of, Seat.belongs_to, Seat.seat, Seat.seat_if, Unlink.is_did}
use Rattle.beldi_prune.specs.declared.collector.{GcOutput.TheVariants.Removed, CollectorAt.TheVariants.ToDrop, CollectorAt.TheVariants.ToDropIntent, CollectorAt.TheVariants.ToLook}
use Rattle.beldi_prune.specs.declared.found.Todo.TheVariants.{DropIt, LookAt, Pass}
use Rattle.beldi_sweep.specs.{Done.IsDone, Done.IsReady, SweptRows.AreSound, SweptRows.IsSound, SweptRows.IsTrim, Sweep.Sweep, Sweep.is_round}
use Rattle.beldi_sweep.proofs.Going.{Turns, stays, sweep, turn_then}
use Rattle.beldi_sweep.proofs.{CellsKept.intent_rank, CellsKept.left_rank, CellsTurned.old_recyclable, Passing.IsFree, Passing.done_gone, Passing.done_passed, SweptPlaces.gone_less, SweptPlaces.there}

-- ---- rows of items stay as another key's row goes
module _ (m : Rows) (k : RowKey) (other : rank_of k.kind ≡ 3 → ⊥) where
  off : (q : RowKey) (t i : ℕ) (s : List ℕ) → q.kind ≡ Kind.Data t s i → (n : ℕ) → is_eq (key_cmp (at_row (at_row q 0) n) k) ≡ false
  off q t i s kind n = false_from_ne_true (is_eq (key_cmp (at_row (at_row q 0) n) k)) (λ e.
      other (sym (ap (λ (z : RowKey). rank_of z.kind) (key_same (at_row (at_row q 0) n) k e)) ∙ ap (λ z. rank_of (kind_at (kind_at z 0) n)) kind))

  same_chain : (q : RowKey) (t i : ℕ) (s : List ℕ) → q.kind ≡ Kind.Data t s i → chain (set_row m k None) (at_row q 0) ≡ chain m (at_row q 0)
  same_chain q t i s kind = λ j n. (got m k (at_row (at_row q 0) n) None ∙ ap (λ b. cond b None (map.get m (at_row (at_row q 0) n))) (off q t i s kind n)) j

  pub sound_gone : AreSound m → AreSound (set_row m k None)
  sound_gone so = record {
    left = λ q r is h. so.left q r is (gone_less m k q r h);
    intents = λ q i r kind h. so.intents q i r kind (gone_less m k q r h);
    items = λ q t i s kind. subst IsSound (sym (same_chain q t i s kind)) (so.items q t i s kind);
  }

-- ---- turns
module _ (newest life now : ℕ) (c k : RowKey) (m : Rows) where
  -- a row that is there and may go goes
  intent_goes : (r : Row) → map.get m k ≡ Some r → is_old_row life now r ≡ true → Turns newest life now (sweep (stand c (ToDropIntent k)) m) (sweep (past k) (set_row m k None))
  intent_goes r is old =
      let told : ◌≡◌ {A = Option Row × ActReply} (act (DropIntent life) now (map.get m k)) (None, did) = ap (act (DropIntent life) now) is ∙ ap (λ b. stays_unless b (r, removed_reply b)) old in
      record { goes_on = ap (λ (o : Option Row × ActReply). is_round (output_if Removed (is_did (replied o.1)))) told; leads = ap (λ (o : Option Row × ActReply). sweep (past k) (set_row m k o.0)) told }

  left_goes : (r : Row) → map.get m k ≡ Some r → is_left_row r ≡ true → Turns newest life now (sweep (stand c (ToDrop k)) m) (sweep (past k) (set_row m k None))
  left_goes r is left =
      let told : ◌≡◌ {A = Option Row × ActReply} (act DropRow now (map.get m k)) (None, did) = ap (act DropRow now) is ∙ ap (λ b. stays_unless b (r, removed_reply b)) left in
      record { goes_on = ap (λ (o : Option Row × ActReply). is_round (output_if Removed (is_did (replied o.1)))) told; leads = ap (λ (o : Option Row × ActReply). sweep (past k) (set_row m k o.0)) told }

  -- a look finds the intent old
  looks : IsOldAt life now (map.get m (seat k)) → Turns newest life now (sweep (stand c (ToLook k)) m) (sweep (stand c (ToDrop k)) m)
  looks old = record { goes_on = refl; leads = ap₂ (λ b n. sweep (stand_if c k (ToDrop k) b) n) (old_recyclable life now (map.get m (seat k)) old) (looked now (seat k) m) }

-- ---- rows
free_intent : (r : Row) → is_left_row r ≡ false → IsFree r
free_intent (Row.Cell x) h = cc
free_intent r h = tt

free_first : (r : Row) (v : Option Row) → v ≡ Some r → ((x : Cell) → v ≡ Some (Row.Cell x) → (x.marked ≡ false) × (x.dangled ≡ None)) → IsFree r
free_first (Row.Cell x) v is first = (first x is).1
free_first r v is first = tt

module _ (newest life now : ℕ) (c : RowKey) (m : Rows) (e : RowKey × Row) (next : next_row m c ≡ Some e) (ready : IsReady newest life now c m) where
  is_there : map.get m e.0 ≡ Some e.1
  is_there = there c m e next

  abbrev gone : Sweep
  gone = sweep (past e.0) (set_row m e.0 None)

  intent_by : (i : IntentId) → e.0.kind ≡ Kind.Intent i → (b : Bool) → is_newest newest i ≡ b → IsDone newest life now c e.0 m
  intent_by i kind true is =
      let todo : todo_of newest life now e.0.kind e.1 ≡ Pass = ap (λ z. todo_of newest life now z e.1) kind ∙ ap (λ b. if not b && is_old_row life now e.1 then DropIt else Pass) is in
      done_passed newest life now c m e next ready todo (subst (λ z. IsTrim newest z e.1) (sym kind) is) (λ tidy. free_intent e.1 (ready.sound.intents e.0 i e.1 kind is_there).0)
  intent_by i kind false is =
      let old = ready.old.intents e.0 i e.1 kind is is_there in
      let todo : todo_of newest life now e.0.kind e.1 ≡ DropIt = ap (λ z. todo_of newest life now z e.1) kind ∙ ap₂ (λ b x. if not b && x then DropIt else Pass) is old in
      let goes = turn_then newest life now (sweep (stand c (ToDropIntent e.0)) m) gone gone (intent_goes newest life now c e.0 m e.1 is_there old) (stays newest life now gone) in
      done_gone newest life now c m e next ready DropIt todo goes (sound_gone m e.0 (intent_rank e.0.kind i kind) ready.sound)

  left_by : (i : IntentId) → is_left e.0.kind ≡ true → belongs_to e.0.kind ≡ Some i → todo_of newest life now e.0.kind e.1 ≡ LookAt → IsDone newest life now c e.0 m
  left_by i left belongs todo =
      let old = subst (λ o. IsOldAt life now (map.get m (seat_if e.0 o))) (sym belongs) (ready.old.left e.0 i (ap is_some is_there) left belongs) in
      let goes = turn_then newest life now (sweep (stand c (ToDrop e.0)) m) gone gone (left_goes newest life now c e.0 m e.1 is_there (ready.sound.left e.0 e.1 left is_there)) (stays newest life now gone) in
      let path = turn_then newest life now (sweep (stand c (ToLook e.0)) m) (sweep (stand c (ToDrop e.0)) m) gone (looks newest life now c e.0 m old) goes in
      done_gone newest life now c m e next ready LookAt todo path (sound_gone m e.0 (left_rank e.0.kind left) ready.sound)

  first_by : (t : ℕ) (q : List ℕ) → e.0.kind ≡ Kind.Data t q 0 → IsDone newest life now c e.0 m
  first_by t q kind =
      let same : at_row (at_row e.0 0) 0 ≡ e.0 = λ i. record { home = e.0.home; kind = (ap (λ z. kind_at (kind_at z 0) 0) kind ∙ sym kind) i } in
      let sound : IsSound (chain m (at_row e.0 0)) = ready.sound.items e.0 t 0 q kind in
      done_passed newest life now c m e next ready (ap (λ z. todo_of newest life now z e.1) kind) (subst (λ z. IsTrim newest z e.1) (sym kind) (inl refl)) (λ tidy. free_first e.1 (map.get m (at_row (at_row e.0 0) 0)) (ap (map.get m) same ∙ is_there) sound.first)

  by_kind : ((t n : ℕ) (q : List ℕ) → e.0.kind ≡ Kind.Data t q n → 0 < n → IsDone newest life now c e.0 m) → (kind : Kind) → e.0.kind ≡ kind → IsDone newest life now c e.0 m
  by_kind cells (Kind.Intent i) is = intent_by i is (is_newest newest i) refl
  by_kind cells (Kind.ReadLog a) is = left_by a.intent (ap is_left is) (ap belongs_to is) (ap (λ z. todo_of newest life now z e.1) is)
  by_kind cells (Kind.Invoke a) is = left_by a.intent (ap is_left is) (ap belongs_to is) (ap (λ z. todo_of newest life now z e.1) is)
  by_kind cells (Kind.Data t q zero) is = first_by t q is
  by_kind cells (Kind.Data t q (suc n)) is = cells t (suc n) q is (omega arith)
  by_kind cells (Kind.Shadow s t q n) is = left_by s.intent (ap is_left is) (ap belongs_to is) (ap (λ z. todo_of newest life now z e.1) is)
  by_kind cells (Kind.Lockset i b t q) is = left_by i (ap is_left is) (ap belongs_to is) (ap (λ z. todo_of newest life now z e.1) is)

-- what is so of rows of items that are not the first
abbrev pub CellsAreDone : ℕ → ℕ → ℕ → Type 0
CellsAreDone newest life now = (c : RowKey) (m : Rows) (e : RowKey × Row) (t n : ℕ) (q : List ℕ) → e.0.kind ≡ Kind.Data t q n → 0 < n → IsReady newest life now c m → next_row m c ≡ Some e → IsDone newest life now c e.0 m

pub rows_done : (newest life now : ℕ) → CellsAreDone newest life now → (c : RowKey) (m : Rows) (e : RowKey × Row) → IsReady newest life now c m → next_row m c ≡ Some e → IsDone newest life now c e.0 m
rows_done newest life now cells c m e ready next = by_kind newest life now c m e next ready (λ t n q kind later. cells c m e t n q kind later ready next) e.0.kind refl
