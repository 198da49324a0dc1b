-- A sweep is done with a row: it passes it, the row goes, or others change.
use Rattle.std.specs.FinMap as map
use Rattle.std.proofs.lemmas.Option.{same_Some}
use Rattle.std.proofs.Common.{◌≡◌, ◌⊎◌, inl, inr, ℕ, suc, None, Some, Less, ap, sym, ◌∙◌, subst}
use Rattle.beldi_row.specs.{Key.RowKey, Key.key_cmp, Table.Rows, Table.next_row, Table.set_row, declared.row.Row.Row}
use Rattle.beldi_query.specs.Query.{found}
use Rattle.beldi_prune.specs.Prune.{before_output, begins, past, row_next, todo_of}
use Rattle.beldi_prune.specs.declared.found.Todo.{Todo, TheVariants.Pass}
use Rattle.beldi_sweep.specs.{Done.AreMooredTo, Done.IsDone, Done.IsReady, Done.IsTidying, SweptRows.AreSound, SweptRows.AreTrimmedTo, SweptRows.IsTrim, Sweep.is_round}
use Rattle.beldi_sweep.proofs.Going.{Comes, Turns, stays, sweep, turn_first}
use Rattle.beldi_sweep.proofs.{Old.old_goes, SweptPlaces.gone_here, SweptPlaces.gone_less, SweptPlaces.there, SweptPlaces.up_to}

-- ---- rows that are not adrift
abbrev pub IsFree : Row → Type 0
IsFree (Row.Cell c) = c.dangled ≡ None
IsFree r = Unit {0}

free_or : (c q : RowKey) (m : Rows) → AreMooredTo c m → (r : Row) → map.get m q ≡ Some r → (key_cmp c q ≡ Less) ⊎ IsFree r
free_or c q m so (Row.Cell x) is = so q x is
free_or c q m so r is = inr tt

module _ (newest life now : ℕ) (c : RowKey) (m : Rows) (e : RowKey × Row) (next : next_row m c ≡ Some e) (ready : IsReady newest life now c m) (todo : Todo) (is : todo_of newest life now e.0.kind e.1 ≡ todo) where
  -- the row after the cursor is found in one turn
  begun : Turns newest life now (sweep (past c) m) (sweep (begins c e.0 todo) m)
  begun = record {
    goes_on = ap (λ o. is_round (before_output (found o))) next;
    leads = ap (λ o. sweep (row_next newest life now c o) m) next ∙ ap (λ z. sweep (begins c e.0 z) m) is;
  }

  -- .. and then the sweep comes past it
  pub done : (n : Rows) → Comes newest life now (sweep (begins c e.0 todo) m) (sweep (past e.0) n) → AreSound n → AreTrimmedTo newest e.0 n
      → (IsTidying newest life now c m → IsTidying newest life now e.0 n) → IsDone newest life now c e.0 m
  done n path sound trimmed tidying =
      let goes = turn_first newest life now path.turns (sweep (past c) m) (sweep (begins c e.0 todo) m) (sweep (past e.0) n) begun path.goes in
      record {
        turns = path.turns;
        rows = n;
        goes = goes;
        ready = record { old = old_goes newest life now (suc path.turns) (sweep (past c) m) (sweep (past e.0) n) goes ready.old; sound = sound; trimmed = trimmed };
        tidying = tidying;
      }

  -- where no row is new, they are trimmed and moored up to that row, where it is
  module _ (n : Rows) (less : (q : RowKey) (r : Row) → map.get n q ≡ Some r → map.get m q ≡ Some r) where
    up_to_trimmed : ((r : Row) → map.get n e.0 ≡ Some r → IsTrim newest e.0.kind r) → AreTrimmedTo newest e.0 n
    up_to_trimmed here = up_to c m e next (λ q r. IsTrim newest q.kind r) ready.trimmed n (λ q r h. inl (less q r h)) here

    up_to_tidied : ((r : Row) → map.get n e.0 ≡ Some r → IsTidying newest life now c m → IsFree r) → IsTidying newest life now c m → IsTidying newest life now e.0 n
    up_to_tidied here tidy = record {
      trimmed = λ q r h. tidy.trimmed q r (less q r h);
      long = λ q x h far. tidy.long q x (less q (Row.Cell x) h) far;
      moored = λ q x h. up_to c m e next (λ q r. IsFree r) (λ q r h. free_or c q m tidy.moored r h) n (λ q r h. inl (less q r h)) (λ r h. here r h tidy) q (Row.Cell x) h;
    }

  -- it goes
  pub done_gone : Comes newest life now (sweep (begins c e.0 todo) m) (sweep (past e.0) (set_row m e.0 None)) → AreSound (set_row m e.0 None) → IsDone newest life now c e.0 m
  done_gone path sound = let n = set_row m e.0 None in let less = gone_less m e.0 in
      done n path sound (up_to_trimmed n less (λ r h. absurd (gone_here m e.0 r h))) (up_to_tidied n less (λ r h. absurd (gone_here m e.0 r h)))

-- it is passed
pub done_passed : (newest life now : ℕ) (c : RowKey) (m : Rows) (e : RowKey × Row) → next_row m c ≡ Some e → IsReady newest life now c m → todo_of newest life now e.0.kind e.1 ≡ Pass → IsTrim newest e.0.kind e.1 → (IsTidying newest life now c m → IsFree e.1)
    → IsDone newest life now c e.0 m
done_passed newest life now c m e next ready is trim free =
    let same : (r : Row) → map.get m e.0 ≡ Some r → e.1 ≡ r = λ r h. same_Some e.1 r (sym (there c m e next) ∙ h) in
    done newest life now c m e next ready Pass is m (stays newest life now (sweep (past e.0) m)) ready.sound
    (up_to_trimmed newest life now c m e next ready Pass is m (λ q r h. h) (λ r h. subst (IsTrim newest e.0.kind) (same r h) trim))
    (up_to_tidied newest life now c m e next ready Pass is m (λ q r h. h) (λ r h tidy. subst IsFree (same r h) (free tidy)))
