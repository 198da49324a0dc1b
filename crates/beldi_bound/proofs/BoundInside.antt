-- The turns of an operation inside a transaction: each leaves less of it.
use Rattle.std.specs.FinMap as map
use Rattle.std.proofs.Common.{arith, List, ◌≡◌, ℕ, suc, ◌+◌, ◌*◌, ◌≤◌, Bool, true, false, is_some, Option, None, Some, refl, ap, subst}
use Rattle.beldi_value.specs.declared.{id.IntentId.IntentId, place.Owner.Owner, place.Place.Place, rel.Rel.Rel, value.Value.Value}
use Rattle.beldi_lang.specs.declared.effect.Effect.{Effect}
use Rattle.beldi_row.specs.{Act.act, Act.added, Act.kept, Act.other_owner, Key.RowKey, Log.blank, Log.note_at, Table.Rows, declared.act.Act.Act, declared.notes.Note.Note, declared.row.Row.Row}
use Rattle.beldi_query.specs.{Query.QueryReply, Query.may_remove, Query.rows_after, Query.replied, Query.query_reply, declared.query.Query.Query}
use Rattle.beldi_chain.specs.Chain.{chain, content}
use Rattle.beldi_links.specs.Links.{IsLinked, SeesAt}
use Rattle.beldi_daal.specs.{Cell.cell_key, Cell.done_note, Cell.read_goes, Cell.shadow_key, Cell.write_asks, Cell.write_goes, Logged.at_of, declared.cell.CellOp.CellOp, declared.cell.ReadGoes.ReadGoes, declared.cell.WriteAt.WriteAt, declared.cell.WriteAt.TheVariants.Try, declared.cell.WriteGoes.WriteGoes}
use Rattle.beldi_readlog.specs.ReadLog.{given_of}
use Rattle.beldi_lock.specs.{Lock.asks_at, Lock.item_goes as lock_item_goes, Lock.lock_goes, Lock.lockset_key, Locked.SeesItem, declared.lock.LockAt.LockAt}
use Rattle.beldi_txn.specs.{Tx.given_goes, Tx.head_made, Tx.is_operation, Tx.item_goes, Tx.keep_goes, Tx.lock_leads, Tx.locked_goes, Tx.note_goes, Tx.seek_goes, Tx.shadow_read, Tx.tx_asks, Tx.tx_goes, Tx.write_leads, Visited.RowsStay, declared.end.EndState.EndState, declared.tx.TxAt.TxAt}
use Rattle.beldi_step.specs.{Run.begin_of, Run.place_of, Run.tx_of, Run.tx_output, declared.run.RunTx.RunTx, declared.run.StageOutput.StageOutput}
use Rattle.beldi_bound.specs.{Left.CanWork, Left.OfLock, Left.OfWrite, Left.OutputLower, Left.item_left, Left.lock_left, Left.past_lock, Left.read_left, Left.stage_left, Left.tx_left, Visits.chain_length, Visits.put_left}
use Rattle.beldi_bound.proofs.{Lengths.length_some, Puts.Leaves, Puts.ReadOn, Puts.Turned, Puts.MayWait, Puts.asked_tells, Puts.made_tells, Puts.made_there, Puts.put_falls, Puts.put_some, Puts.put_turn, Puts.read_turn, Puts.there_stays}

module _ (v : EndState → ℕ) (e m : Rows) (now : ℕ) (id : IntentId) (func : ℕ) (o : RunTx) (step t : ℕ) (k : List ℕ) where
  abbrev place : Place
  place = place_of id step

  abbrev who : Owner
  who = Owner.Tx (tx_of id func o)

  -- the first rows of the item and of the shadow, and how many rows each has in the end
  abbrev item : RowKey
  item = cell_key func t k

  abbrev side : RowKey
  side = shadow_key func (tx_of id func o) t k

  abbrev c : ℕ
  c = chain_length e item

  abbrev s : ℕ
  s = chain_length e side

  abbrev there : RowKey → Bool
  there l = is_some (map.get m l)

  abbrev late : Query → RowKey → Bool
  late q l = is_some (map.get (rows_after q now m) l)

  -- what is said after a query leaves less than n
  abbrev Lower : Effect → Query → ℕ → StageOutput → Type 0
  Lower f q n x = OutputLower (stage_left c s (late q item) (late q side) v f) n x

  -- ---- the lock
  past_falls : (q : Query) → may_remove q ≡ false → (f : Effect) → past_lock c s (late q side) f ≤ past_lock c s (there side) f
  past_falls q keeps (Effect.Write t k u) = put_falls s (there side) (late q side) (Try 0) (there_stays q keeps now m side)
  past_falls q keeps f = omega arith

  had_lowers : (f : Effect) (q : Query) (n : ℕ) (l : LockAt) → is_operation f ≡ true → suc (past_lock c s (late q side) f) ≤ n → Lower f q n (tx_output (TxAt.Lock l) (locked_goes f))
  had_lowers (Effect.Read t k) q n l is h = omega (arith, h)
  had_lowers (Effect.Write t k u) q n l is h = h
  had_lowers (Effect.CondWrite t k r u w) q n l is h = h
  had_lowers f q n l is h = cc

  lock_turn : (f : Effect) (l : LockAt) → is_operation f ≡ true → IsLinked (chain m item) → SeesItem l place (chain m item) → OfLock (note_at (content (chain m item)).notes place)
      → let q = asks_at func t k place who l in RowsStay (rows_after q now m) e → Lower f q (lock_left c (there item) l + past_lock c s (there side) f) (tx_output (TxAt.Lock l) (lock_leads place f (lock_goes l (query_reply q now m))))
  lock_turn f (LockAt.Lockset b) is linked sees fits stay =
      let q = asks_at func t k place who (LockAt.Lockset b) in
      let puts = put_falls c (there item) (late q item) (Try 0) (there_stays q (grind arith) now m item) in
      let past = past_falls q (grind arith) f in
      asked_tells (λ z. Lower f q (lock_left c (there item) (LockAt.Lockset b) + past_lock c s (there side) f) (tx_output (TxAt.Lock (LockAt.Lockset b)) (lock_leads place f (lock_goes (LockAt.Lockset b) (replied z))))) now (map.get m (lockset_key func id b t k))
      (omega (arith, puts, past)) (omega (arith, puts, past))
  lock_turn f (LockAt.Item w) is linked sees fits stay =
      goes (write_goes (done_note CellOp.Lock) w (query_reply q now m)) (put_turn e m now item refl place who CellOp.Lock linked w sees stay)
    where
      q : Query
      q = asks_at func t k place who (LockAt.Item w)

      past : past_lock c s (late q side) f ≤ past_lock c s (there side) f
      past = past_falls q (grind arith) f

      some : 1 ≤ put_left c (there item) w
      some = put_some c (there item) w (length_some e item)

      n : ℕ
      n = put_left c (there item) w + past_lock c s (there side) f

      had : Lower f q n (tx_output (TxAt.Lock (LockAt.Item w)) (locked_goes f))
      had = had_lowers f q n (LockAt.Item w) is (omega (arith, past, some))

      died : 1 ≤ n
      died = omega (arith, some)

      noted : (x : Note) → OfLock (Some x) → Lower f q n (tx_output (TxAt.Lock (LockAt.Item w)) (lock_leads place f (lock_item_goes (WriteGoes.Done x false))))
      noted Note.Got h = had
      noted (Note.Died a) h = died
      noted x h = absurd h

      done : (x : Note) → Leaves CellOp.Lock x → Lower f q n (tx_output (TxAt.Lock (LockAt.Item w)) (lock_leads place f (lock_item_goes (WriteGoes.Done x true))))
      done Note.Got h = had
      done (Note.Died a) h = died
      done x h = absurd h

      goes : (g : WriteGoes) → Turned (put_left c (late q item)) (put_left c (there item) w) (chain m item) place who CellOp.Lock g → Lower f q n (tx_output (TxAt.Lock (LockAt.Item w)) (lock_leads place f (lock_item_goes g)))
      goes (WriteGoes.On x) h = omega (arith, h, past)
      goes WriteGoes.Stays h = absurd h
      goes (WriteGoes.Done x true) h = done x h
      goes (WriteGoes.Done x false) h = noted x (subst OfLock h fits)
      goes WriteGoes.NotOwner h = absurd (h tt)
      goes (WriteGoes.Held x) h = tt
      goes WriteGoes.Worn h = tt

  -- ---- a write of the shadow, which nobody owns
  noted_lowers : (f : Effect) (q : Query) (w : WriteAt) (n : ℕ) (x : Note) → 1 ≤ n → OfWrite f (Some x) → Lower f q n (tx_output (TxAt.Write w) (note_goes f x))
  noted_lowers (Effect.Write t k u) q w n Note.Wrote some fits = some
  noted_lowers (Effect.CondWrite t k r u x) q w n (Note.Cond b) some fits = some
  noted_lowers f q w n x some fits = absurd fits

  none_other : (x : Option Owner) (w : Owner) → x ≡ None → other_owner who x ≡ Some w → ⊥
  none_other None w none is = cc
  none_other (Some x) w none is = cc

  -- an operation leaves a note of its kind
  write_turn : (f : Effect) (u : CellOp) (w : WriteAt) → ((x : Note) → Leaves u x → OfWrite f (Some x)) → MayWait u → IsLinked (chain m side) → SeesAt (chain m side) place (at_of w) → (content (chain m side)).owner ≡ None → OfWrite f (note_at (content (chain m side)).notes place)
      → let q = write_asks side place who u w in RowsStay (rows_after q now m) e → Lower f q (put_left s (there side) w) (tx_output (TxAt.Write w) (write_leads f (write_goes (done_note u) w (query_reply q now m))))
  write_turn f u w leaves waits linked sees free fits stay = goes (write_goes (done_note u) w (query_reply q now m)) (put_turn e m now side refl place who u linked w sees stay)
    where
      q : Query
      q = write_asks side place who u w

      some : 1 ≤ put_left s (there side) w
      some = put_some s (there side) w (length_some e side)

      goes : (g : WriteGoes) → Turned (put_left s (late q side)) (put_left s (there side) w) (chain m side) place who u g → Lower f q (put_left s (there side) w) (tx_output (TxAt.Write w) (write_leads f g))
      goes (WriteGoes.On x) h = h
      goes WriteGoes.Stays h = absurd h
      goes (WriteGoes.Done x true) h = noted_lowers f q w (put_left s (there side) w) x some (leaves x h)
      goes (WriteGoes.Done x false) h = noted_lowers f q w (put_left s (there side) w) x some (subst (OfWrite f) h fits)
      goes WriteGoes.NotOwner h = absurd (h waits)
      goes (WriteGoes.Held x) h = absurd (none_other (content (chain m side)).owner x free h.other)
      goes WriteGoes.Worn h = tt

  -- its first row is made, with this value
  head_turn : (f : Effect) (u : Value) → let q = Query.Act side (Act.MakeCell u None blank) in Lower f q (3 * s) (tx_output (TxAt.Head u) (head_made (query_reply q now m)))
  head_turn f u =
      let q = Query.Act side (Act.MakeCell u None blank) in
      let less = ap (λ b. put_left s b (Try 0)) (made_there now m side u None) in
      let some = length_some e side in
      made_tells (λ z. Lower f q (3 * s) (tx_output (TxAt.Head u) (head_made (replied z)))) now u None (map.get m side) (omega (arith, less, some)) (omega (arith, less, some))

  -- ---- each stage of each operation
  abbrev asks : Effect → TxAt → Query
  asks f a = tx_asks func place (tx_of id func o) f a

  abbrev Turns : Effect → TxAt → Type 0
  Turns f a = RowsStay (rows_after (asks f a) now m) e → Lower f (asks f a) (tx_left c s (there item) (there side) f a) (tx_output a (tx_goes place (begin_of o) f a (query_reply (asks f a) now m)))

  abbrev Can : Effect → TxAt → Type 0
  Can f a = CanWork f a place (chain m item) (chain m side)

  write_leaves : (u : Value) (x : Note) → Leaves (CellOp.Write u) x → OfWrite (Effect.Write t k u) (Some x)
  write_leaves u Note.Wrote h = tt
  write_leaves u x h = absurd h

  pub write_stage : (u : Value) (a : TxAt) → let f = Effect.Write t k u in Can f a → Turns f a
  write_stage u (TxAt.Lock l) h stay = lock_turn (Effect.Write t k u) l refl h.item h.sees h.lock stay
  write_stage u (TxAt.Write w) h stay = write_turn (Effect.Write t k u) (CellOp.Write u) w (write_leaves u) tt h.shadow h.sees h.unowned h.write stay
  write_stage u a h stay = absurd h.fits

  pub read_stage : (a : TxAt) → let f = Effect.Read t k in Can f a → Turns f a
  read_stage (TxAt.Lock l) h stay = lock_turn (Effect.Read t k) l refl h.item h.sees h.lock stay
  read_stage TxAt.Log h stay = logs (given_of (query_reply (asks (Effect.Read t k) TxAt.Log) now m))
    where
      logs : (x : Option Value) → let f = Effect.Read t k in Lower f (asks f TxAt.Log) (2 + put_left c (there item) (Try 0) + past_lock c s (there side) f) (tx_output TxAt.Log (given_goes (begin_of o) x))
      logs None = let q = asks (Effect.Read t k) TxAt.Log in let puts = put_falls c (there item) (late q item) (Try 0) (there_stays q (grind arith) now m item) in omega (arith, puts)
      logs (Some x) = omega arith
  read_stage (TxAt.Shadow r) h stay = finds (read_goes None (query_reply q now m)) (read_turn e m now side None r h.shadow h.sees stay)
    where
      q : Query
      q = asks (Effect.Read t k) (TxAt.Shadow r)

      some : 1 ≤ c
      some = length_some e item

      finds : (g : ReadGoes) → ReadOn s r None (chain m side) g → Lower (Effect.Read t k) q (c + read_left s r) (tx_output (TxAt.Shadow r) (shadow_read g))
      finds (ReadGoes.On n) h = let at = h.0 in let less = h.1 in omega (arith, at, less)
      finds ReadGoes.Stays h = absurd h
      finds (ReadGoes.Got None) h = omega (arith, some)
      finds (ReadGoes.Got (Some x)) h = omega arith
      finds (ReadGoes.Held x) h = cc
  read_stage (TxAt.Item r) h stay = finds (read_goes None (query_reply q now m)) (read_turn e m now item None r h.item h.sees stay)
    where
      q : Query
      q = asks (Effect.Read t k) (TxAt.Item r)

      finds : (g : ReadGoes) → ReadOn c r None (chain m item) g → Lower (Effect.Read t k) q (read_left c r) (tx_output (TxAt.Item r) (item_goes (Effect.Read t k) g))
      finds (ReadGoes.On n) h = let at = h.0 in let less = h.1 in omega (arith, at, less)
      finds ReadGoes.Stays h = absurd h
      finds (ReadGoes.Got None) h = omega arith
      finds (ReadGoes.Got (Some x)) h = omega arith
      finds (ReadGoes.Held x) h = cc
  read_stage (TxAt.Keep u) h stay = keeps (query_reply (asks (Effect.Read t k) (TxAt.Keep u)) now m)
    where
      keeps : (z : QueryReply) → Lower (Effect.Read t k) (asks (Effect.Read t k) (TxAt.Keep u)) 1 (tx_output (TxAt.Keep u) (keep_goes z))
      keeps (replied added) = omega arith
      keeps (replied (kept x)) = omega arith
      keeps z = omega arith
  read_stage a h stay = absurd h.fits

  cond_leaves : (r : Rel) (x u : Value) (n : Note) → Leaves (CellOp.Cond r x u) n → OfWrite (Effect.CondWrite t k r x u) (Some n)
  cond_leaves r x u (Note.Cond b) h = tt
  cond_leaves r x u n h = absurd h

  pub cond_stage : (r : Rel) (x u : Value) (a : TxAt) → let f = Effect.CondWrite t k r x u in Can f a → Turns f a
  cond_stage r x u (TxAt.Lock l) h stay = lock_turn (Effect.CondWrite t k r x u) l refl h.item h.sees h.lock stay
  cond_stage r x u TxAt.Seek h stay = finds (map.get m side) refl
    where
      q : Query
      q = asks (Effect.CondWrite t k r x u) TxAt.Seek

      some : 1 ≤ c
      some = length_some e item

      there_late : (z : Row) → map.get m side ≡ Some z → late q side ≡ true
      there_late z is = there_stays q refl now m side (ap is_some is)

      finds : (z : Option Row) → map.get m side ≡ z → Lower (Effect.CondWrite t k r x u) q (c + 3 * s + 1) (tx_output TxAt.Seek (seek_goes (replied (act Act.Look now z).1)))
      finds None is = omega (arith, some)
      finds (Some z) is = let less = ap (λ b. put_left s b (Try 0)) (there_late z is) in omega (arith, less)
  cond_stage r x u (TxAt.Item n) h stay = finds (read_goes None (query_reply q now m)) (read_turn e m now item None n h.item h.sees stay)
    where
      q : Query
      q = asks (Effect.CondWrite t k r x u) (TxAt.Item n)

      finds : (g : ReadGoes) → ReadOn c n None (chain m item) g → let f = Effect.CondWrite t k r x u in Lower f q (item_left c s f n) (tx_output (TxAt.Item n) (item_goes f g))
      finds (ReadGoes.On i) h = let at = h.0 in let less = h.1 in omega (arith, at, less)
      finds ReadGoes.Stays h = absurd h
      finds (ReadGoes.Got None) h = omega arith
      finds (ReadGoes.Got (Some y)) h = omega arith
      finds (ReadGoes.Held y) h = cc
  cond_stage r x u (TxAt.Head w) h stay = head_turn (Effect.CondWrite t k r x u) w
  cond_stage r x u (TxAt.Write w) h stay = write_turn (Effect.CondWrite t k r x u) (CellOp.Cond r x u) w (cond_leaves r x u) tt h.shadow h.sees h.unowned h.write stay
  cond_stage r x u a h stay = absurd h.fits
