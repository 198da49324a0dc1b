-- What an act leaves of the rows, and of what live runs have done.
use Rattle.beldi_row.specs.declared.act.Act.TheVariants.{LinkCell}
use Rattle.beldi_query.specs.declared.query.Query.TheVariants.{Act}
use Rattle.beldi_chain.{specs.Chain.ChangedAlone, specs.Chain.chain, specs.Chain.content, proofs.Heads.chain_other}
use Rattle.beldi_links.specs.Links.{SeesAt}
use Rattle.beldi_daal.{proofs.Logged.by_op, specs.Logged.LoggedTurn, specs.Logged.Logs, specs.Logged.at_of, specs.WriteWalk.walk_asks, specs.WriteWalk.walk_next, specs.WriteWalk.walk_output, specs.declared.walk.Item.TheVariants.Plain, specs.declared.walk.WriteOutput.WriteOutput, specs.declared.walk.WriteWalk.WriteWalk}
use Rattle.beldi_histories.proofs.{Acts.is_data}
use Rattle.beldi_histories.specs.Contents.{IsLinkedItem}
use Rattle.beldi_invariant.proofs.Names.{Begins, Begun, Bool, CellOp, Core, Item, IntentId, Look, MakeCell, None, Null, Owner, Place, RowAct, RowKey, Rows, Run, Some, TxId, WriteAt, act, after_act, ap, at_row, blank, content_of, false, head_key, inl, inr, is_eq, is_some, key_cmp, key_same, looked, op_act, refl, rows_after, set_others, subst, sym, query_reply, true, write_asks, ℕ, ◌-◌, ◌∙◌, ◌≡◌, ◌⊎◌, Content, note_at, intent_key}
use Rattle.beldi_invariant.proofs.Names.map
use Rattle.beldi_invariant.proofs.Frames.{is_intent, is_invoke}
use Rattle.beldi_row.specs.Act.{prunes}
use Rattle.beldi_query.proofs.Promises.{rows_there}
use Rattle.beldi_daal.proofs.Spares.{write_spares}
use Rattle.beldi_upkeep.specs.Callees.{AllFinished, IsNoted, IsPassed, Seats, belongs_to, seat_of}
use Rattle.beldi_upkeep.proofs.{CellActs.OwnedIn, CellActs.op_noted, CellActs.op_owner, SeatRows.MayOwn, SeatRows.Onward, SeatRows.contents_off, SeatRows.finished_off, SeatRows.quiet_on, SeatRows.quiet_seats}

-- a live run is past a transaction of its own
pub record IsPassedBy (c : Core) (t : TxId) : Type 0 where
  pub number : ℕ
  pub run : Run
  pub begun : Begun
  pub live : map.get c.runs number ≡ Some run
  pub at : run.at ≡ Begins begun
  pub passed : IsPassed run.id begun.machine.steps begun.tx t

-- what an act leaves: rows that keep their seats, and all that the live runs have done
pub record Leaves (c : Core) (m n : Rows) : Type 0 where
  pub seats : Seats n
  pub on : Onward m n
  pub finished : (t : TxId) → IsPassedBy c t → AllFinished m t → AllFinished n t

module _ (c : Core) (m : Rows) (h : Seats m) where
  pub leaves_same : Leaves c m m
  leaves_same = record { seats = h; on = record { rows = λ k e. e; marks = λ f a e. e }; finished = λ t passed all. all }

  pub leaves_still : (n : Rows) → n ≡ m → Leaves c m n
  leaves_still n same = subst (Leaves c m) (sym same) leaves_same

  -- a Look
  pub leaves_looked : (now : ℕ) (k : RowKey) → Leaves c m (after_act Look now k m)
  leaves_looked now k = leaves_still (after_act Look now k m) (looked now k m)

  -- one row of neither an intent nor a call
  module _ (now : ℕ) (k : RowKey) (a : RowAct) (keeps : prunes a ≡ false) where
    abbrev n : Rows
    n = after_act a now k m

    others : (l : RowKey) → is_eq (key_cmp l k) ≡ false → map.get n l ≡ map.get m l
    others l off = set_others m k (act a now (map.get m k)).0 l off

    stay : (l : RowKey) → is_some (map.get m l) ≡ true → is_some (map.get n l) ≡ true
    stay l there = rows_there (Act k a) keeps now m l there

    pub leaves_quiet : is_intent k.kind ≡ false → is_invoke k.kind ≡ false → is_data k.kind ≡ false → ((i : IntentId) → belongs_to k.kind ≡ Some i → is_some (map.get m (seat_of k i)) ≡ true) → Leaves c m n
    leaves_quiet off call item seated = record {
      seats = quiet_seats m n k others stay (λ i of. stay (seat_of k i) (seated i of)) h off call (λ o x owned. inl (ap (λ c. c.owner) (sym (contents_off m n k others item x)) ∙ owned)) (λ x p noted. inl (ap (λ (z : Content). is_some (note_at z.notes p)) (sym (contents_off m n k others item x)) ∙ noted));
      on = quiet_on m n k others stay (λ i of. stay (seat_of k i) (seated i of)) h call;
      finished = λ t passed all. finished_off m n k others off t all;
    }

  -- ---- a row of an item
  module _ (now : ℕ) (y : Item) where
    -- who owns the item then owned it, or may own it
    abbrev Owners : Rows → Type 0
    Owners n = (o : Owner) → OwnedIn o (content_of n y) → OwnedIn o (content_of m y) ⊎ MayOwn m o

    -- .. and a place that has its note then had it, or is of an intent that has its row
    abbrev Noted : Rows → Type 0
    Noted n = (p : Place) → IsNoted n y p → IsNoted m y p ⊎ (is_some (map.get m (intent_key p.intent y.func)) ≡ true)

    leaves_item : (i : ℕ) (a : RowAct) → prunes a ≡ false → let n = after_act a now (at_row (head_key y) i) m in ChangedAlone (head_key y) m n → Owners n → Noted n → Leaves c m n
    leaves_item i a keeps alone owners notes = record {
      seats = quiet_seats m n k others stay (λ i of. cc) h refl refl (λ o x owned. by_item o x owned (is_eq (key_cmp (head_key x) (head_key y))) refl) (λ x p noted. noted_by x p noted (is_eq (key_cmp (head_key x) (head_key y))) refl);
      on = quiet_on m n k others stay (λ i of. cc) h refl;
      finished = λ t passed all. finished_off m n k others refl t all;
    }
      where
        k : RowKey
        k = at_row (head_key y) i

        n : Rows
        n = after_act a now (at_row (head_key y) i) m

        others : (l : RowKey) → is_eq (key_cmp l (at_row (head_key y) i)) ≡ false → map.get (after_act a now (at_row (head_key y) i) m) l ≡ map.get m l
        others l off = set_others m (at_row (head_key y) i) (act a now (map.get m (at_row (head_key y) i))).0 l off

        stay : (l : RowKey) → is_some (map.get m l) ≡ true → is_some (map.get (after_act a now (at_row (head_key y) i) m) l) ≡ true
        stay l there = rows_there (Act (at_row (head_key y) i) a) keeps now m l there

        by_item : (o : Owner) (x : Item) → OwnedIn o (content_of (after_act a now (at_row (head_key y) i) m) x) → (b : Bool) → is_eq (key_cmp (head_key x) (head_key y)) ≡ b → OwnedIn o (content_of m x) ⊎ MayOwn m o
        by_item o x owned true e = subst (λ z. OwnedIn o (content (chain (after_act a now (at_row (head_key y) i) m) z)) → OwnedIn o (content (chain m z)) ⊎ MayOwn m o) (sym (key_same (head_key x) (head_key y) e)) (owners o) owned
        by_item o x owned false e = inl (ap (λ f. (content f).owner) (sym (chain_other m (after_act a now (at_row (head_key y) i) m) (head_key y) (head_key x) alone (record { first = refl; numbered = λ i. refl }) e)) ∙ owned)

        noted_by : (x : Item) (p : Place) → IsNoted (after_act a now (at_row (head_key y) i) m) x p → (b : Bool) → is_eq (key_cmp (head_key x) (head_key y)) ≡ b → IsNoted m x p ⊎ (is_some (map.get m (intent_key p.intent x.func)) ≡ true)
        noted_by x p noted true e = subst (λ (q : RowKey). is_some (note_at (content (chain (after_act a now (at_row (head_key y) i) m) q)).notes p) ≡ true → (is_some (note_at (content (chain m q)).notes p) ≡ true) ⊎ (is_some (map.get m (intent_key p.intent q.home)) ≡ true)) (sym (key_same (head_key x) (head_key y) e)) (notes p) noted
        noted_by x p noted false e = inl (ap (λ f. is_some (note_at (content f).notes p)) (sym (chain_other m (after_act a now (at_row (head_key y) i) m) (head_key y) (head_key x) alone (record { first = refl; numbered = λ i. refl }) e)) ∙ noted)

    -- a turn of a walk on it
    module _ (linked : IsLinkedItem m y) (p : Place) (who : Owner) (op : CellOp) where
      abbrev after : WriteAt → Rows
      after w = rows_after (write_asks (head_key y) p who op w) now m

      by_at : (w : WriteAt) → ChangedAlone (head_key y) m (after w) → Owners (after w) → Noted (after w) → Leaves c m (after w)
      by_at (WriteAt.Try i) alone owners notes = leaves_item i (op_act p who op) (write_spares (head_key y) p who op (WriteAt.Try i)) alone owners notes
      by_at WriteAt.Make alone owners notes = leaves_item 0 (MakeCell Null None blank) refl alone owners notes
      by_at (WriteAt.Append i told) alone owners notes = leaves_item i (MakeCell told.value told.owner blank) refl alone owners notes
      by_at (WriteAt.Link i) alone owners notes = leaves_item (i - 1) (LinkCell i) refl alone owners notes

      -- its place is of an intent that has its row
      pub leaves_walk : (w : WriteAt) → SeesAt (chain m (head_key y)) p (at_of w) → is_some (map.get m (intent_key p.intent y.func)) ≡ true → ((o : Owner) (s : WriteOutput) → Logs p who op s (content_of m y) (content_of (after w) y) → OwnedIn o (content_of (after w) y) → OwnedIn o (content_of m y) ⊎ MayOwn m o) → Leaves c m (after w)
      leaves_walk w sees there owners =
          let x : WriteWalk = record { home = y.func; item = Plain y.table y.key; place = p; who = who; op = op; at = w } in
          let s : WriteOutput = walk_output x (query_reply (walk_asks x) now m) in
          let turn : LoggedTurn x (walk_next x (query_reply (walk_asks x) now m)) m (after w) s = by_op x m (after w) now linked sees refl in
          by_at w turn.others (λ o owned. owners o s turn.logs owned) (λ q noted. elim (op_noted p (content_of m y) (content_of (after w) y) who op s turn.logs q noted) [
            | inl was ↦ inl was
            | inr same ↦ inr (subst (λ (z : Place). is_some (map.get m (intent_key z.intent y.func)) ≡ true) (sym same) there)
          ])

      -- an operation on it; who locks it may own it
      pub leaves_op : (w : WriteAt) → SeesAt (chain m (head_key y)) p (at_of w) → is_some (map.get m (intent_key p.intent y.func)) ≡ true → (op ≡ CellOp.Lock → MayOwn m who) → Leaves c m (after w)
      leaves_op w sees there may = leaves_walk w sees there (λ o s logs owned. elim (op_owner o p (content_of m y) (content_of (after w) y) who op s logs owned) [
        | inl was ↦ inl was
        | inr new ↦ inr (subst (MayOwn m) new.1 (may new.0))
      ])
