-- What a run that goes on is led to where it stands then.
use Rattle.std.specs.FinMap as map
use Rattle.std.specs.Prelude.{◌-◌}
use Rattle.std.proofs.Common.{◌≡◌, inl, ℕ, zero, suc, ◌+◌, ◌==◌, Bool, true, false, cond, Option, Some, None, if◌then◌else◌, refl, ap, sym, ◌∙◌, subst, arith}
use Rattle.beldi_value.specs.declared.{place.Owner.Owner, place.Place.Place, value.Value.Value}
use Rattle.beldi_plain.specs.Item.{Item}
use Rattle.beldi_row.specs.{Act.ActReply, Act.act, Act.added, Act.at_tail, Act.is_full, Act.next, Act.next_or, Act.no_row, Act.not_full, Act.noted_or, Act.packed, Act.present, Key.RowKey, Key.at_row, Act.on_cell, Act.stays, Log.blank, Log.note_at, Table.Rows, declared.act.Act.Act, declared.notes.Note.Note, declared.row.Cell.Cell, declared.row.Row.Row}
use Rattle.beldi_row.proofs.Gets.{got, key_self}
use Rattle.beldi_query.specs.{declared.query.Query.Query, Query.rows_after, Query.replied, Query.query_reply}
use Rattle.beldi_chain.specs.Chain.{Chain, chain, next_of}
use Rattle.beldi_links.specs.Links.{At}
use Rattle.beldi_splice.specs.Splice.{IsSafeFrom, MayFollow}
use Rattle.beldi_daal.specs.{Cell.cell_goes, Cell.got_or_held, Cell.in_the_way, Cell.last_row, Cell.op_act, Cell.read_goes, Cell.write_asks, Cell.write_goes, Logged.at_of, declared.cell.CellOp.CellOp, declared.cell.FullRow.FullRow, declared.cell.ReadGoes.ReadGoes, declared.cell.WriteAt.WriteAt, declared.cell.WriteGoes.WriteGoes}
use Rattle.beldi_histories.specs.Contents.{head_key}
use Rattle.beldi_kept.specs.KeptAhead.{StaysFor}
use Rattle.beldi_kept.proofs.Staying.{StaysOn}

-- ---- what an act tells of the row that it leaves
abbrev pub LeadsOnTo : Option Row → ℕ → Type 0
LeadsOnTo (Some (Row.Cell c)) z = c.next ≡ Some z
LeadsOnTo r z = ⊥

abbrev IsOfNext : Option Row × ActReply → Type 0
IsOfNext s = (z : ℕ) → s.1 ≡ next z → LeadsOnTo s.0 z

abbrev IsOfPacked : Option Row × ActReply → Type 0
IsOfPacked s = (v : Value) (o : Option Owner) → s.1 ≡ packed v o → next_of s.0 ≡ None

abbrev cell_so : Cell × ActReply → Option Row × ActReply
cell_so s = (Some (Row.Cell s.0), s.1)

tail_next : (p : Place) (c : Cell) (s : Cell × ActReply) → ((z : ℕ) → s.1 ≡ next z → ⊥) → IsOfNext (cell_so (at_tail p c s))
tail_next p c s never = by_note (note_at c.log p)
  where
    by_next : (o : Option ℕ) → c.next ≡ o → IsOfNext (cell_so (next_or c o s))
    by_next None ends z is = absurd (never z is)
    by_next (Some k) to z is = let same : k ≡ z = cc in to ∙ ap Some same

    by_note : (o : Option Note) → IsOfNext (cell_so (noted_or c o (next_or c c.next s)))
    by_note (Some w) z is = cc
    by_note None z is = by_next c.next refl z is

tail_packed : (p : Place) (c : Cell) (s : Cell × ActReply) → (c.next ≡ None → IsOfPacked (cell_so s)) → IsOfPacked (cell_so (at_tail p c s))
tail_packed p c s full = by_note (note_at c.log p)
  where
    by_next : (o : Option ℕ) → c.next ≡ o → IsOfPacked (cell_so (next_or c o s))
    by_next None ends v o is = full ends v o is
    by_next (Some k) to v o is = cc

    by_note : (o : Option Note) → IsOfPacked (cell_so (noted_or c o (next_or c c.next s)))
    by_note (Some w) v o is = cc
    by_note None v o is = by_next c.next refl v o is

-- where the row is no cell, neither is told
cell_next : (f : Cell → Cell × ActReply) → ((c : Cell) → IsOfNext (cell_so (f c))) → (r : Row) → IsOfNext (stays (on_cell f no_row r))
cell_next f each (Row.Cell c) z is = each c z is
cell_next f each (Row.Intent i) z is = cc
cell_next f each (Row.ReadLog v) z is = cc
cell_next f each (Row.Invoke v) z is = cc
cell_next f each Row.Lockset z is = cc

cell_packed : (f : Cell → Cell × ActReply) → ((c : Cell) → IsOfPacked (cell_so (f c))) → (r : Row) → IsOfPacked (stays (on_cell f no_row r))
cell_packed f each (Row.Cell c) v o is = each c v o is
cell_packed f each (Row.Intent i) v o is = cc
cell_packed f each (Row.ReadLog u) v o is = cc
cell_packed f each (Row.Invoke u) v o is = cc
cell_packed f each Row.Lockset v o is = cc

op_next : (p : Place) (who : Owner) (op : CellOp) (now : ℕ) (r : Option Row) → IsOfNext (act (op_act p who op) now r)
op_next p who (CellOp.Write v) now (Some r) z is = cell_next _ (λ c. tail_next p c _ (λ z is. grind arith)) r z is
op_next p who (CellOp.Cond q o v) now (Some r) z is = cell_next _ (λ c. tail_next p c _ (λ z is. grind arith)) r z is
op_next p who CellOp.Lock now (Some r) z is = cell_next _ (λ c. tail_next p c _ (λ z is. grind arith)) r z is
op_next p who (CellOp.Free v) now (Some r) z is = cell_next _ (λ c. tail_next p c _ (λ z is. grind arith)) r z is
op_next p who (CellOp.Write v) now None z is = cc
op_next p who (CellOp.Cond q o v) now None z is = cc
op_next p who CellOp.Lock now None z is = cc
op_next p who (CellOp.Free v) now None z is = cc

op_packed : (p : Place) (who : Owner) (op : CellOp) (now : ℕ) (r : Option Row) → IsOfPacked (act (op_act p who op) now r)
op_packed p who (CellOp.Write v) now (Some r) x y is = cell_packed _ (λ c. tail_packed p c _ (λ ends v o is. grind arith)) r x y is
op_packed p who (CellOp.Cond q u v) now (Some r) x y is = cell_packed _ (λ c. tail_packed p c _ (λ ends v o is. grind arith)) r x y is
op_packed p who CellOp.Lock now (Some r) x y is = cell_packed _ (λ c. tail_packed p c _ (λ ends v o is. grind arith)) r x y is
op_packed p who (CellOp.Free v) now (Some r) x y is = cell_packed _ (λ c. tail_packed p c _ (λ ends v o is. grind arith)) r x y is
op_packed p who (CellOp.Write v) now None w o is = cc
op_packed p who (CellOp.Cond q x v) now None w o is = cc
op_packed p who CellOp.Lock now None w o is = cc
op_packed p who (CellOp.Free v) now None w o is = cc

link_next : (k now : ℕ) (r : Option Row) → IsOfNext (act (Act.LinkCell k) now r)
link_next k now (Some r) z is = cell_next _ (λ c. by_next c c.next refl) r z is
  where
    by_full : (c : Cell) (b : Bool) → IsOfNext (cell_so (if b then (record c { next = Some k }, next k) else (c, not_full)))
    by_full c true z is = let same : k ≡ z = cc in ap Some same
    by_full c false z is = cc

    by_next : (c : Cell) (o : Option ℕ) → c.next ≡ o → IsOfNext (cell_so (next_or c o (if is_full c then (record c { next = Some k }, next k) else (c, not_full))))
    by_next c (Some n) to y told = let same : n ≡ y = cc in to ∙ ap Some same
    by_next c None ends y told = by_full c (is_full c) y told
link_next k now None z is = cc

-- ---- a walk along an item, over the rows before and after its turn: what leads further is safe where its row is
abbrev pub IsSafeFurther : ℕ → ℕ → Chain → Type 0
IsSafeFurther life deadline g = (r z : ℕ) → LeadsOnTo (g r) z → IsSafeFrom life deadline g r → IsSafeFrom life deadline g z

pub first_safe : (life deadline : ℕ) (g : Chain) → IsSafeFrom life deadline g 0
first_safe life deadline g low = absurd (omega (arith, low))

module _ (life deadline : ℕ) (m n : Rows) (on : StaysOn life deadline m n) (x : Item) (further : IsSafeFurther life deadline (chain n (head_key x))) where
  abbrev head : RowKey
  head = head_key x

  abbrev pub Then : WriteAt → Type 0
  Then w = StaysFor life deadline (chain n head) (at_of w)

  -- the row that an act left
  module _ (k : RowKey) (a : Act) (now : ℕ) (set : n ≡ rows_after (Query.Act k a) now m) where
    left : map.get n k ≡ (act a now (map.get m k)).0
    left = ap (λ z. map.get z k) set ∙ got m k k (act a now (map.get m k)).0 ∙ ap (λ b. cond b (act a now (map.get m k)).0 (map.get m k)) (key_self k)

    leads : IsOfNext (act a now (map.get m k)) → (z : ℕ) → (act a now (map.get m k)).1 ≡ next z → LeadsOnTo (map.get n k) z
    leads of z is = subst (λ o. LeadsOnTo o z) (sym left) (of z is)

    last : IsOfPacked (act a now (map.get m k)) → (v : Value) (o : Option Owner) → (act a now (map.get m k)).1 ≡ packed v o → next_of (map.get n k) ≡ None
    last of v o is = ap next_of left ∙ of v o is

  one_goes : (v w : WriteAt) → WriteGoes.On v ≡ WriteGoes.On w → Then v → Then w
  one_goes v w is = subst Then (cc)

  -- ---- a walk that writes
  module _ (p : Place) (who : Owner) (op : CellOp) (d : Note) (now : ℕ) where
    abbrev StaysFromOn : WriteAt → Type 0
    StaysFromOn w = n ≡ rows_after (write_asks head p who op w) now m → StaysFor life deadline (chain m head) (at_of w) → (v : WriteAt) → write_goes d w (query_reply (write_asks head p who op w) now m) ≡ WriteGoes.On v → Then v

    -- what is made tells no next
    made_leads : (k : RowKey) (v : Value) (o : Option Owner) → n ≡ rows_after (Query.Act k (Act.MakeCell v o blank)) now m → (z : ℕ) → (act (Act.MakeCell v o blank) now (map.get m k)).1 ≡ next z → ⊥
    made_leads k v o set z is = never (map.get m k) is
      where
        never : (r : Option Row) → (act (Act.MakeCell v o blank) now r).1 ≡ next z → ⊥
        never (Some r) is = cc
        never None is = cc

    -- it tries a row
    tries : (r : ℕ) → StaysFromOn (WriteAt.Try r)
    tries r set safe v goes = by_tell (act a now (map.get m k)).1 refl goes
      where
        k : RowKey
        k = at_row head r

        a : Act
        a = op_act p who op

        by_full : (u : Value) (o : Option Owner) → (act a now (map.get m k)).1 ≡ packed u o → (b : Bool) → (if b then WriteGoes.Worn else WriteGoes.On (WriteAt.Append (r + 1) (record { value = u; owner = o }))) ≡ WriteGoes.On v → Then v
        by_full u o is true goes = cc
        by_full u o is false goes = one_goes (WriteAt.Append (r + 1) (record { value = u; owner = o })) v goes (λ q at. let same : r ≡ q = omega (arith, at) in
            subst (λ z. IsSafeFrom life deadline (chain n head) z × MayFollow life deadline (chain n head) z) same (on.safe x r safe, inl (last k a now set (op_packed p who op now (map.get m k)) u o is)))

        by_tell : (t : ActReply) → (act a now (map.get m k)).1 ≡ t → write_goes d (WriteAt.Try r) (replied t) ≡ WriteGoes.On v → Then v
        by_tell no_row is goes = one_goes WriteAt.Make v goes tt
        by_tell (next z) is goes = one_goes (WriteAt.Try z) v goes (further r z (leads k a now set (op_next p who op now (map.get m k)) z is) (on.safe x r safe))
        by_tell (packed u o) is goes = by_full u o is (r == last_row) goes
        by_tell t is goes = cc

    -- it makes the first row, or one that is to follow, and links that
    makes : StaysFromOn WriteAt.Make
    makes set safe v goes = by_tell (act (Act.MakeCell Value.Null None blank) now (map.get m head)).1 refl goes
      where
        by_tell : (t : ActReply) → (act (Act.MakeCell Value.Null None blank) now (map.get m head)).1 ≡ t → write_goes d WriteAt.Make (replied t) ≡ WriteGoes.On v → Then v
        by_tell no_row is goes = one_goes WriteAt.Make v goes tt
        by_tell added is goes = one_goes (WriteAt.Try 0) v goes (first_safe life deadline (chain n head))
        by_tell present is goes = one_goes (WriteAt.Try 0) v goes (first_safe life deadline (chain n head))
        by_tell (next z) is goes = absurd (made_leads head Value.Null None set z is)
        by_tell t is goes = cc

    appends : (k : ℕ) (t : FullRow) → StaysFromOn (WriteAt.Append k t)
    appends k u set safe v goes = by_tell (act (Act.MakeCell u.value u.owner blank) now (map.get m (at_row head k))).1 refl goes
      where
        by_tell : (t : ActReply) → (act (Act.MakeCell u.value u.owner blank) now (map.get m (at_row head k))).1 ≡ t → write_goes d (WriteAt.Append k u) (replied t) ≡ WriteGoes.On v → Then v
        by_tell no_row is goes = one_goes WriteAt.Make v goes tt
        by_tell added is goes = one_goes (WriteAt.Link k) v goes (λ r at. (on.safe x r (safe r at).0, on.follows x r (safe r at).1))
        by_tell present is goes = one_goes (WriteAt.Link k) v goes (λ r at. (on.safe x r (safe r at).0, on.follows x r (safe r at).1))
        by_tell (next z) is goes = absurd (made_leads (at_row head k) u.value u.owner set z is)
        by_tell t is goes = cc

    links : (k : ℕ) → StaysFromOn (WriteAt.Link k)
    links k set safe v goes = by_tell (act (Act.LinkCell k) now (map.get m (at_row head (k - 1)))).1 refl goes
      where
        before_safe : (j : ℕ) → StaysFor life deadline (chain m head) (At.Link j) → IsSafeFrom life deadline (chain n head) (j - 1)
        before_safe zero safe = first_safe life deadline (chain n head)
        before_safe (suc j) safe = let same : j ≡ suc j - 1 = omega arith in subst (IsSafeFrom life deadline (chain n head)) same (on.safe x j (safe j (omega arith)).0)

        by_tell : (t : ActReply) → (act (Act.LinkCell k) now (map.get m (at_row head (k - 1)))).1 ≡ t → write_goes d (WriteAt.Link k) (replied t) ≡ WriteGoes.On v → Then v
        by_tell no_row is goes = one_goes WriteAt.Make v goes tt
        by_tell (next z) is goes = one_goes (WriteAt.Try z) v goes (further (k - 1) z (leads (at_row head (k - 1)) (Act.LinkCell k) now set (link_next k now (map.get m (at_row head (k - 1)))) z is) (before_safe k safe))
        by_tell t is goes = cc

    pub then_write : (w : WriteAt) → StaysFromOn w
    then_write (WriteAt.Try r) = tries r
    then_write WriteAt.Make = makes
    then_write (WriteAt.Append k t) = appends k t
    then_write (WriteAt.Link k) = links k

  -- ---- one that reads
  pub then_read : (who : Option Owner) (r now : ℕ) → n ≡ rows_after (Query.Act (at_row head r) Act.Look) now m → IsSafeFrom life deadline (chain m head) r → (z : ℕ) → read_goes who (query_reply (Query.Act (at_row head r) Act.Look) now m) ≡ ReadGoes.On z → IsSafeFrom life deadline (chain n head) z
  then_read who r now set safe z goes = by_row (map.get m (at_row head r)) refl goes
    where
      by_owner : (c : Cell) (o : Option Owner) → got_or_held c o ≡ ReadGoes.On z → IsSafeFrom life deadline (chain n head) z
      by_owner c None goes = cc
      by_owner c (Some o) goes = cc

      by_next : (c : Cell) (o : Option ℕ) → map.get m (at_row head r) ≡ Some (Row.Cell c) → c.next ≡ o → cell_goes who c o ≡ ReadGoes.On z → IsSafeFrom life deadline (chain n head) z
      by_next c None is ends goes = by_owner c (in_the_way who c.owner) goes
      by_next c (Some k) is to goes = let same : k ≡ z = cc in further r z (subst (λ o. LeadsOnTo o z) (sym (left (at_row head r) Act.Look now set ∙ ap (λ o. (act Act.Look now o).0) is)) (to ∙ ap Some same)) (on.safe x r safe)

      by_row : (o : Option Row) → map.get m (at_row head r) ≡ o → read_goes who (replied (act Act.Look now o).1) ≡ ReadGoes.On z → IsSafeFrom life deadline (chain n head) z
      by_row (Some (Row.Cell c)) is goes = by_next c c.next is refl goes
      by_row None is goes = cc
      by_row (Some (Row.Intent i)) is goes = cc
      by_row (Some (Row.ReadLog v)) is goes = cc
      by_row (Some (Row.Invoke v)) is goes = cc
      by_row (Some Row.Lockset) is goes = cc
