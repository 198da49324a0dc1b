-- What a turn of an operation of a transaction leaves.
use Rattle.beldi_txn.specs.{Tx.item_of, TxWalk.walk_asks, TxWalk.walk_next, TxWalk.walk_output, TxWalk.output_of}
use Rattle.beldi_txn.proofs.Names.{Act, AllGrow, AsideMoves, AtItem, Cell, CellOp, Chain, ChangedAlone, CondWrite, Content, DidAs, Effect, Finds, Fits, FitsAt, HasLock, IsHead, IsLinked, IsSo, ItemMoves, LinkedFrom, List, LockAt, LockMoves, Lockset, LoggedTurn, Logs, Look, MakeCell, None, Note, OperationsAreSo, OperationsBegin, Option, Owner, Place, Plain, PutLockset, PutRead, Query, Read, ReadGoes, ReadsAt, Rel, Row, RowKey, Rows, Sees, SetTo, Shadow, ShadowMoves, Some, Stands, StandsAt, Try, TxAt, TxGoes, TxId, TxTurn, TxWalk, Value, Write, WriteAt, WriteGoes, WriteOutput, WriteWalk, [], above, act, alone_by, ap, arith, aside_head, asks_of, at_row, blank, by_op, cell_goes, cell_key, chain, chain_off, chain_other, cond, content, content_in, content_is_head, dies, false, first_linked, given, given_in, gone, got, head_asked, inl, inr, is_eq, is_row_of, is_some, item_asks, item_goes, item_grows, item_head, item_leads, key_cmp, key_same, key_self, kind_at, kind_rank, last_is_last, left_row, lock_item, lock_leads, locked_goes, lockset_key, log_key, logged_at, logged_so, looked, next_is_read, next_of, no_content, of_no_item, no_tail, note_at, op_of, option_map, other_owner, others_grow, owner_after, rank_of, read_goes, reads_begin, refl, row_of, row_set, rows_after, replied, same_grow, set_row, shadow_key, shadow_read, shadow_value, subst, sym, tail, tail_is, tail_is_head, tail_value, taken, query_reply, true, turned, tx_goes, waited, walks_begin, write_asks, write_goes, write_leads, ℕ, ◌-◌, ◌∙◌, ◌≡◌}
use Rattle.std.specs.Prelude.{◌⊎◌}
use Rattle.beldi_row.proofs.Logs.{note_here}
use Rattle.beldi_links.proofs.Last.{tail_there}
use Rattle.beldi_daal.{specs.Logged.note_after, proofs.Logged.noted_stays, proofs.WalkTurns.linked_by}
use Rattle.beldi_txn.specs.{TxTurn.is_going, declared.tx.TxOutput.TxOutput}
use Rattle.beldi_txn.proofs.Names.map

-- ---- rows at other keys
pub apart : (q k : RowKey) → (q ≡ k → ⊥) → is_eq (key_cmp q k) ≡ false
apart q k h = (elim (is_eq (key_cmp q k)) as (λ b. is_eq (key_cmp q k) ≡ b → b ≡ false) [
  | true ↦ λ e. absurd (h (key_same q k e))
  | false ↦ λ e. refl
]) refl

pub others_set : (m : Rows) (k : RowKey) (v : Option Row) (q : RowKey) → is_eq (key_cmp q k) ≡ false → map.get (set_row m k v) q ≡ map.get m q
others_set m k v q h = got m k q v ∙ ap (λ b. cond b v (map.get m q)) h

pub here_set : (m : Rows) (k : RowKey) (v : Option Row) → map.get (set_row m k v) k ≡ v
here_set m k v = got m k k v ∙ ap (λ b. cond b v (map.get m k)) (key_self k)

pub ranks : (a b : RowKey) → (rank_of a.kind ≡ rank_of b.kind → ⊥) → a ≡ b → ⊥
ranks a b h is = h (ap (λ (q : RowKey). rank_of q.kind) is)

-- a row of another kind is none of an item's
off_row : (k l : RowKey) → (rank_of l.kind ≡ rank_of k.kind → ⊥) → is_row_of k l ≡ false
off_row k l h = apart (at_row l 0) k (ranks (at_row l 0) k (λ same. h (sym (kind_rank l.kind 0) ∙ same)))

-- all rows are as before but those of one item: so are the rows of other kinds, and their chains
module _ (m n : Rows) (head : RowKey) (alone : ChangedAlone head m n) where
  pub other_kind : (q : RowKey) → (rank_of q.kind ≡ rank_of head.kind → ⊥) → map.get n q ≡ map.get m q
  other_kind q h = alone q (off_row head q h)

  other_chain : (k : RowKey) → IsHead k → (rank_of k.kind ≡ rank_of head.kind → ⊥) → chain n k ≡ chain m k
  other_chain k is h = chain_other m n head k alone is (apart k head (ranks k head h))

  pub item_kept : (rank_of head.kind ≡ 3 → ⊥) → (home t : ℕ) (k : List ℕ) → chain n (cell_key home t k) ≡ chain m (cell_key home t k)
  item_kept h home t k = other_chain (cell_key home t k) (item_head home t k) (λ is. h (sym is))

  pub aside_kept : (rank_of head.kind ≡ 4 → ⊥) → (home : ℕ) (x : TxId) (t : ℕ) (k : List ℕ) → chain n (shadow_key home x t k) ≡ chain m (shadow_key home x t k)
  aside_kept h home x t k = other_chain (shadow_key home x t k) (aside_head home x t k) (λ is. h (sym is))

-- ---- what a Look tells that reads a chain, at a row where a read may stand: the next row to read at, or the value of the last one
abbrev pub Reads : Chain → ReadGoes → Type 0
Reads f (ReadGoes.On r) = ReadsAt f r
Reads f (ReadGoes.Got None) = tail f ≡ None
Reads f (ReadGoes.Got (Some v)) = shadow_value (tail f) ≡ Some v
Reads f g = ⊥

pub reads_on : (f : Chain) (r now : ℕ) → IsLinked f → ReadsAt f r → Reads f (read_goes None (replied (act Look now (f r)).1))
reads_on f r now linked sees = by_row (f r) refl
  where
    by_cell : (c : Cell) → f r ≡ Some (Row.Cell c) → (n : Option ℕ) → c.next ≡ n → Reads f (cell_goes None c n)
    by_cell c is (Some n) next = next_is_read f (linked_by f linked r (Row.Cell c) is) r c n is next
    by_cell c is None ends =
        let l = linked_by f linked r (Row.Cell c) is in
        let last = last_is_last f l.last l.tail l.path l.there l.ends r c sees.0 is ends in
        ap shadow_value (tail_is f l ∙ sym l.there ∙ sym (ap f last) ∙ is)

    by_row : (o : Option Row) → f r ≡ o → Reads f (read_goes None (replied (act Look now o).1))
    by_row None none = let first : r ≡ 0 = subst (λ o. StandsAt o r) none sees.1 in no_tail f (sym (ap f first) ∙ none)
    by_row (Some (Row.Cell c)) is = by_cell c is c.next refl
    by_row (Some o) is = absurd (subst FitsAt is ((linked_by f linked r o is).fits r))

-- the value of a chain is the one that was read, null where it has no row
pub read_value : (f : Chain) (v : Value) → shadow_value (tail f) ≡ Some v → (content f).value ≡ v
read_value f v is = tail_value f ∙ by_row (tail f) is
  where
    by_row : (r : Option Row) → shadow_value r ≡ Some v → (content_in r).value ≡ v
    by_row (Some (Row.Cell c)) e = some_value e
      where
        some_value : {a b : Value} → Some a ≡ Some b → a ≡ b
        some_value same = cc
    by_row r e = cc

-- ---- moves that change nothing
item_same : (a : TxAt) (p : Place) (who : Owner) (c d : Content) → d ≡ c → ItemMoves a p who c d
item_same TxAt.Log p who c d h = h
item_same (TxAt.Lock l) p who c d h = inl h
item_same TxAt.Seek p who c d h = h
item_same (TxAt.Shadow r) p who c d h = h
item_same (TxAt.Item r) p who c d h = h
item_same (TxAt.Keep v) p who c d h = h
item_same (TxAt.Head v) p who c d h = h
item_same (TxAt.Write w) p who c d h = h

shadow_same : (e : Effect) (a : TxAt) (p : Place) (who : Owner) (s : TxOutput) (f g : Chain) → g ≡ f → ShadowMoves e a p who s f g
shadow_same e TxAt.Log p who s f g h = h
shadow_same e (TxAt.Lock l) p who s f g h = h
shadow_same e TxAt.Seek p who s f g h = h
shadow_same e (TxAt.Shadow r) p who s f g h = h
shadow_same e (TxAt.Item r) p who s f g h = h
shadow_same e (TxAt.Keep v) p who s f g h = h
shadow_same e (TxAt.Head v) p who s f g h = inl h
shadow_same e (TxAt.Write w) p who s f g h = inl h

-- a place has its note, or has none
by_note : {A B : Type 0} (o : Option Note) → ((u : Note) → o ≡ Some u → A) → (o ≡ None → B) → A ⊎ ((o ≡ None) × B)
by_note None there none = inr (refl, none refl)
by_note (Some u) there none = inl (there u refl)

some_note : {a b : Note} → Some a ≡ Some b → a ≡ b
some_note same = cc

-- ---- what the walks of a cell did
-- a lock changes the item only by itself
lock_moved : (p : Place) (who : Owner) (c d : Content) (s : WriteOutput) → Logs p who CellOp.Lock s c d → LockMoves p who c d
lock_moved p who c d WriteOutput.Going l = inl l
lock_moved p who c d (WriteOutput.Done n true) l = inr (l.1.0, l.1.1)
lock_moved p who c d (WriteOutput.Done n false) l = inl l.1
lock_moved p who c d WriteOutput.NotOwner l = inl l.2
lock_moved p who c d (WriteOutput.Held o) l = inl l.2
lock_moved p who c d WriteOutput.Worn l = inl l.1

-- the shadow changes only by its operation, and stays without an owner
abbrev Aside : Place → Owner → CellOp → TxOutput → Content → Content → Type 0
Aside p who o y c d = AsideMoves (Some o) p who y c d × (d.owner ≡ None)

-- the note of the operation is an answer
abbrev Answers : CellOp → Content → TxOutput → WriteOutput → Type 0
Answers o c y (WriteOutput.Done n first) = n ≡ note_after o c.value → is_going y ≡ false
Answers o c y s = Unit {0}

-- .. where the operation leaves the owner, and nobody dies of it
module _ (p : Place) (who : Owner) (o : CellOp) (c d : Content) (alive : dies who o c.owner ≡ None) (keeps : owner_after o who c.owner ≡ c.owner) (unowned : c.owner ≡ None) where
  as_before : (y : TxOutput) → d ≡ c → Aside p who o y c d
  as_before y is = (inl is, ap (λ (z : Content). z.owner) is ∙ unowned)

  aside_moved : (y : TxOutput) (s : WriteOutput) → Answers o c y s → Logs p who o s c d → Aside p who o y c d
  aside_moved y WriteOutput.Going answers l = as_before y l
  aside_moved y (WriteOutput.Done n true) answers l =
      let did = (subst (λ z. DidAs p who o z c d) alive l.1.1).1 in
      let note : n ≡ note_after o c.value = some_note (sym l.0 ∙ ap (λ (z : Content). note_at z.notes p) did ∙ note_here c.notes p (note_after o c.value) l.1.0) in
      (inr (did, answers note), ap (λ (z : Content). z.owner) did ∙ keeps ∙ unowned)
  aside_moved y (WriteOutput.Done n false) answers l = as_before y l.1
  aside_moved y WriteOutput.NotOwner answers l = as_before y l.2
  aside_moved y (WriteOutput.Held w) answers l = as_before y l.2
  aside_moved y WriteOutput.Worn answers l = as_before y l.1

module _ (home : ℕ) (p : Place) (x : TxId) (e : Effect) (t : ℕ) (k : List ℕ) where
  abbrev who : Owner
  who = Owner.Tx x

  abbrev walk : TxAt → TxWalk
  walk a = record { home = home; place = p; tx = x; effect = e; at = a }

  abbrev ck : RowKey
  ck = cell_key home t k

  abbrev sk : RowKey
  sk = shadow_key home x t k

  abbrev lk : RowKey
  lk = log_key home p

  -- a turn of the walk at this stage that asks this, by what it leads to
  pub record Leads (a : TxAt) (q : Query) (m n : Rows) (g : TxGoes) : Type 0 where
    pub others : ChangedAlone (head_asked q) m n
    pub grows : AllGrow m n
    pub item : ItemMoves a p who (content (chain m ck)) (content (chain n ck))
    pub shadow : ShadowMoves e a p who (output_of a g) (chain m sk) (chain n sk)
    pub finds : Finds a (gone a g) (tail (chain n sk)) (content (chain m ck)).value
    pub so : IsSo e p who (output_of a g) (given n lk) (content (chain n ck)) (content (chain n sk))
    pub stands : Stands (walk (gone a g)) t k n

  -- where it stands then, it may stand, has the lock, and sees what it has to, of the rows of the item and of the shadow
  abbrev Onto : TxAt → Chain → Chain → TxGoes → Type 0
  Onto a c d g = Fits e (gone a g) × HasLock (gone a g) p (content c) × Sees (gone a g) p c d

  module _ (a : TxAt) (m : Rows) (h : Stands (walk a) t k m) where
    standing : (n : Rows) (g : TxGoes) → IsLinked (chain n ck) → IsLinked (chain n sk) → (content (chain n sk)).owner ≡ None → Onto a (chain n ck) (chain n sk) g → Stands (walk (gone a g)) t k n
    standing n g item shadow unowned onto = record { item = item; shadow = shadow; unowned = unowned; fits = onto.0; locked = onto.1; sees = onto.2 }

    -- neither the item's rows nor the shadow's changed
    beside : (q : Query) (n : Rows) (g : TxGoes) → ChangedAlone (head_asked q) m n → AllGrow m n → chain n ck ≡ chain m ck → chain n sk ≡ chain m sk → Finds a (gone a g) (tail (chain m sk)) (content (chain m ck)).value
        → IsSo e p who (output_of a g) (given n lk) (content (chain n ck)) (content (chain n sk)) → Onto a (chain m ck) (chain m sk) g → Leads a q m n g
    beside q n g others grows item shadow finds so onto = record {
      others = others;
      grows = grows;
      item = item_same a p who (content (chain m ck)) (content (chain n ck)) (ap content item);
      shadow = shadow_same e a p who (output_of a g) (chain m sk) (chain n sk) shadow;
      finds = subst (λ f. Finds a (gone a g) (tail f) (content (chain m ck)).value) (sym shadow) finds;
      so = so;
      stands = standing n g (subst IsLinked (sym item) h.item) (subst IsLinked (sym shadow) h.shadow) (ap (λ f. (content f).owner) shadow ∙ h.unowned)
          (subst (λ f. Onto a f (chain n sk) g) (sym item) (subst (λ f. Onto a (chain m ck) f g) (sym shadow) onto));
    }

    -- a Look changes nothing
    look : (z : RowKey) (now : ℕ) (g : TxGoes) → Finds a (gone a g) (tail (chain m sk)) (content (chain m ck)).value → IsSo e p who (output_of a g) (given m lk) (content (chain m ck)) (content (chain m sk)) → Onto a (chain m ck) (chain m sk) g
        → Leads a (Query.Act z Look) m (rows_after (Query.Act z Look) now m) g
    look z now g finds so onto = subst (λ n. Leads a (Query.Act z Look) m n g) (sym (looked now z m)) (beside (Query.Act z Look) m g (λ y off. refl) (same_grow m m refl) refl refl finds so onto)

    -- a row that is of no item was set
    set : (b : Act) (z : RowKey) (now : ℕ) (g : TxGoes) → at_row z 0 ≡ z → row_of (kind_at z.kind 1) ≡ 0 → Finds a (gone a g) (tail (chain m sk)) (content (chain m ck)).value
        → IsSo e p who (output_of a g) (given (rows_after (Query.Act z b) now m) lk) (content (chain (rows_after (Query.Act z b) now m) ck)) (content (chain (rows_after (Query.Act z b) now m) sk))
        → Onto a (chain m ck) (chain m sk) g → Leads a (Query.Act z b) m (rows_after (Query.Act z b) now m) g
    set b z now g first flat finds so onto =
        let n = rows_after (Query.Act z b) now m in
        let others = others_set m z (act b now (map.get m z)).0 in
        beside (Query.Act z b) n g (subst (λ y. ChangedAlone y m n) (sym first) (alone_by m n z first others)) (others_grow m n z (of_no_item z flat) others)
        (chain_off m n z ck others (item_head home t k) (of_no_item z flat ck (item_head home t k))) (chain_off m n z sk others (aside_head home x t k) (of_no_item z flat sk (aside_head home x t k))) finds so onto

-- ---- the stages, one by one
-- what a write asks for is a row of its item
pub asked : (z : RowKey) → ((r : ℕ) → at_row (at_row z r) 0 ≡ z) → at_row z 0 ≡ z → (p : Place) (who : Owner) (o : CellOp) (w : WriteAt) → head_asked (write_asks z p who o w) ≡ z
asked z again first p _ o (WriteAt.Try r) = again r
asked z again first p _ o WriteAt.Make = first
asked z again first p _ o (WriteAt.Append n told) = again n
asked z again first p _ o (WriteAt.Link n) = again (n - 1)

fits_lock : (e : Effect) (l j : LockAt) → Fits e (TxAt.Lock l) → Fits e (TxAt.Lock j)
fits_lock (Read t k) l j h = h
fits_lock (Write t k v) l j h = h
fits_lock (CondWrite t k r o v) l j h = h
fits_lock e l j h = absurd h

module _ (home : ℕ) (p : Place) (x : TxId) (t : ℕ) (k : List ℕ) where
  abbrev me : Owner
  me = Owner.Tx x

  abbrev item_row : RowKey
  item_row = cell_key home t k

  abbrev aside_row : RowKey
  aside_row = shadow_key home x t k

  abbrev log_row : RowKey
  log_row = log_key home p

  ihead : IsHead item_row
  ihead = item_head home t k

  ahead : IsHead aside_row
  ahead = aside_head home x t k

  abbrev start : Effect → TxAt → TxWalk
  start e a = walk home p x e t k a

  -- a turn of the walk, by the stage
  abbrev Turns : Effect → TxAt → ℕ → Rows → Type 0
  Turns e a now m = let q = item_asks home p x e t k a in Leads home p x e t k a q m (rows_after q now m) (tx_goes p x.begin e a (query_reply q now m))

  -- ---- what was kept
  log_turn : (u : ℕ) (j : List ℕ) (now : ℕ) (m : Rows) → Stands (start (Read u j) TxAt.Log) t k m → Turns (Read u j) TxAt.Log now m
  log_turn u j now m h = by (map.get m log_row) refl
    where
      by : (o : Option Row) → map.get m log_row ≡ o → Leads home p x (Read u j) t k TxAt.Log (Query.Act log_row Look) m (rows_after (Query.Act log_row Look) now m) (tx_goes p x.begin (Read u j) TxAt.Log (replied (act Look now o).1))
      by None is = look home p x (Read u j) t k TxAt.Log m h log_row now (TxGoes.On (TxAt.Lock (Lockset x.begin))) tt tt (tt, tt, tt)
      by (Some r) is = look home p x (Read u j) t k TxAt.Log m h log_row now (TxGoes.Value (given_in r)) tt (ap (option_map given_in) is) (tt, tt, tt)

  module _ (u : ℕ) (j : List ℕ) (v : Value) (now : ℕ) (m : Rows) (h : Stands (start (Read u j) (TxAt.Keep v)) t k m) where
    abbrev kept_after : Rows
    kept_after = rows_after (Query.Act log_row (PutRead v)) now m

    abbrev Keeps : TxGoes → Type 0
    Keeps g = Leads home p x (Read u j) t k (TxAt.Keep v) (Query.Act log_row (PutRead v)) m kept_after g

    kept_there : (o : Option Row) → map.get m log_row ≡ o → given kept_after log_row ≡ option_map given_in (act (PutRead v) now o).0
    kept_there o is = ap (option_map given_in) (here_set m log_row (act (PutRead v) now (map.get m log_row)).0 ∙ ap (λ r. (act (PutRead v) now r).0) is)

    kept_so : (g : TxGoes) → IsSo (Read u j) p me (output_of (TxAt.Keep v) g) (given kept_after log_row) (content (chain kept_after item_row)) (content (chain kept_after aside_row))
        → Onto home p x (Read u j) t k (TxAt.Keep v) (chain m item_row) (chain m aside_row) g → Keeps g
    kept_so g so onto = set home p x (Read u j) t k (TxAt.Keep v) m h (PutRead v) log_row now g refl refl tt so onto

    by_kept : (o : Option Row) → map.get m log_row ≡ o → Keeps (tx_goes p x.begin (Read u j) (TxAt.Keep v) (replied (act (PutRead v) now o).1))
    by_kept None is = kept_so TxGoes.Put (kept_there None is) (tt, tt, tt)
    by_kept (Some (Row.ReadLog w)) is = kept_so (TxGoes.Value w) (kept_there (Some (Row.ReadLog w)) is) (h.fits, h.locked, tt)
    by_kept (Some r) is = kept_so (TxGoes.Value Value.Null) (kept_there (Some r) is) (h.fits, h.locked, tt)

    keep_turn : Turns (Read u j) (TxAt.Keep v) now m
    keep_turn = by_kept (map.get m log_row) refl

  -- ---- the shadow and the item are looked at
  abbrev Looks : Effect → TxAt → RowKey → ℕ → Rows → TxGoes → Type 0
  Looks e a z now m g = Leads home p x e t k a (Query.Act z Look) m (rows_after (Query.Act z Look) now m) g

  shadow_turn : (u : ℕ) (j : List ℕ) (r now : ℕ) (m : Rows) → Stands (start (Read u j) (TxAt.Shadow r)) t k m → Turns (Read u j) (TxAt.Shadow r) now m
  shadow_turn u j r now m h = by (read_goes None (replied (act Look now (chain m aside_row r)).1)) (reads_on (chain m aside_row) r now h.shadow h.sees)
    where
      by : (g : ReadGoes) → Reads (chain m aside_row) g → Looks (Read u j) (TxAt.Shadow r) (at_row aside_row r) now m (shadow_read g)
      by (ReadGoes.On n) sees = look home p x (Read u j) t k (TxAt.Shadow r) m h (at_row aside_row r) now (TxGoes.On (TxAt.Shadow n)) tt tt (tt, h.locked, sees)
      by (ReadGoes.Got None) none = look home p x (Read u j) t k (TxAt.Shadow r) m h (at_row aside_row r) now (TxGoes.On (TxAt.Item 0)) none tt (tt, h.locked, reads_begin (chain m item_row))
      by (ReadGoes.Got (Some v)) is = look home p x (Read u j) t k (TxAt.Shadow r) m h (at_row aside_row r) now (TxGoes.On (TxAt.Keep v)) is tt (tt, h.locked, tt)
      by g other = absurd other

  -- what is found in the item is its value
  item_found : (e : Effect) (r now : ℕ) (m : Rows) (h : Stands (start e (TxAt.Item r)) t k m) → let f = chain m item_row in ((n : ℕ) → ReadsAt f n → Looks e (TxAt.Item r) (at_row item_row r) now m (TxGoes.On (TxAt.Item n)))
      → ((v : Value) → v ≡ (content f).value → Looks e (TxAt.Item r) (at_row item_row r) now m (item_leads e v)) → Turns e (TxAt.Item r) now m
  item_found e r now m h on found = by (read_goes None (replied (act Look now (chain m item_row r)).1)) (reads_on (chain m item_row) r now h.item h.sees)
    where
      by : (g : ReadGoes) → Reads (chain m item_row) g → Looks e (TxAt.Item r) (at_row item_row r) now m (item_goes e g)
      by (ReadGoes.On n) sees = on n sees
      by (ReadGoes.Got None) none = found Value.Null (sym (tail_value (chain m item_row) ∙ ap (λ z. (content_in z).value) none))
      by (ReadGoes.Got (Some v)) is = found v (sym (read_value (chain m item_row) v is))
      by g other = absurd other

  item_turn : (u : ℕ) (j : List ℕ) (r now : ℕ) (m : Rows) → Stands (start (Read u j) (TxAt.Item r)) t k m → Turns (Read u j) (TxAt.Item r) now m
  item_turn u j r now m h = item_found (Read u j) r now m h
      (λ n sees. look home p x (Read u j) t k (TxAt.Item r) m h (at_row item_row r) now (TxGoes.On (TxAt.Item n)) tt tt (tt, h.locked, sees))
      (λ v is. look home p x (Read u j) t k (TxAt.Item r) m h (at_row item_row r) now (TxGoes.On (TxAt.Keep v)) is tt (tt, h.locked, tt))

  -- .. for a condition, whose shadow is made where there is none
  module _ (u : ℕ) (j : List ℕ) (r : Rel) (w v : Value) where
    abbrev cond_op : Effect
    cond_op = CondWrite u j r w v

    seek_turn : (now : ℕ) (m : Rows) → Stands (start cond_op TxAt.Seek) t k m → Turns cond_op TxAt.Seek now m
    seek_turn now m h = by (map.get m aside_row) refl
      where
        by : (o : Option Row) → map.get m aside_row ≡ o → Looks cond_op TxAt.Seek aside_row now m (tx_goes p x.begin cond_op TxAt.Seek (replied (act Look now o).1))
        by None is = look home p x cond_op t k TxAt.Seek m h aside_row now (TxGoes.On (TxAt.Item 0)) tt tt (tt, h.locked, reads_begin (chain m item_row))
        by (Some c) is = look home p x cond_op t k TxAt.Seek m h aside_row now (TxGoes.On (TxAt.Write (Try 0))) (tail_there (chain m aside_row) h.shadow ∙ ap is_some is) tt (tt, h.locked, walks_begin (chain m aside_row) p)

    found_turn : (i now : ℕ) (m : Rows) → Stands (start cond_op (TxAt.Item i)) t k m → Turns cond_op (TxAt.Item i) now m
    found_turn i now m h = item_found cond_op i now m h
        (λ n sees. look home p x cond_op t k (TxAt.Item i) m h (at_row item_row i) now (TxGoes.On (TxAt.Item n)) tt tt (tt, h.locked, sees))
        (λ c is. look home p x cond_op t k (TxAt.Item i) m h (at_row item_row i) now (TxGoes.On (TxAt.Head c)) is tt (tt, h.locked, tt))

    module _ (first : Value) (now : ℕ) (m : Rows) (h : Stands (start cond_op (TxAt.Head first)) t k m) where
      abbrev put : Act
      put = MakeCell first None blank

      abbrev made_after : Rows
      made_after = rows_after (Query.Act aside_row put) now m

      abbrev Makes : TxGoes → Type 0
      Makes g = Leads home p x cond_op t k (TxAt.Head first) (Query.Act aside_row put) m made_after g

      made_there : (o : Option Row) → map.get m aside_row ≡ o → map.get made_after aside_row ≡ (act put now o).0
      made_there o is = here_set m aside_row (act put now (map.get m aside_row)).0 ∙ ap (λ z. (act put now z).0) is

      others : (q : RowKey) → is_eq (key_cmp q aside_row) ≡ false → map.get made_after q ≡ map.get m q
      others = others_set m aside_row (act put now (map.get m aside_row)).0

      not_item : chain made_after item_row ≡ chain m item_row
      not_item = chain_off m made_after aside_row item_row others ihead (off_row item_row aside_row (λ z. cc))

      -- the shadow then is this row
      abbrev made_cell : Cell
      made_cell = record { value = first; owner = None; log = []; next = None; marked = false; dangled = None }

      by_made : (o : Option Row) → map.get m aside_row ≡ o → Makes (tx_goes p x.begin cond_op (TxAt.Head first) (replied (act put now o).1))
      by_made None is =
          let f = chain m aside_row in
          let g = chain made_after aside_row in
          let there : g 0 ≡ Some (Row.Cell made_cell) = made_there None is in
          let none : (i : ℕ) → f i ≡ None = subst (λ o. LinkedFrom o f) is h.shadow in
          let made = first_linked f g made_cell none (subst (λ z. SetTo f 0 z g) (ap (λ z. (act put now z).0) is) (row_set m aside_row ahead 0 (act put now (map.get m aside_row)).0)) refl refl
          (record { entries = omega arith; marked = refl; dangled = refl }) in
          let holds : content g ≡ record { value = first; owner = None; notes = [] } = content_is_head g (ap (λ z. above 0 (next_of z)) there) ∙ ap content_in there in
          record {
            others = alone;
            grows = item_grows m made_after aside_row ahead alone made.1;
            item = ap content not_item;
            shadow = inr (ap (λ (z : Content). note_at z.notes p) (no_content f is), no_tail f is, holds);
            finds = ap is_some (tail_is_head g (ap (λ z. above 0 (next_of z)) there) ∙ there);
            so = tt;
            stands = record {
              item = subst IsLinked (sym not_item) h.item;
              shadow = subst (λ o. LinkedFrom o g) (sym there) made.0;
              unowned = ap (λ (z : Content). z.owner) holds;
              fits = tt;
              locked = ap (λ f. note_at (content f).notes p) not_item ∙ h.locked;
              sees = walks_begin g p;
            };
          }
        where
          alone : ChangedAlone aside_row m made_after
          alone = alone_by m made_after aside_row refl others
      by_made (Some c) is = subst (λ n. Leads home p x cond_op t k (TxAt.Head first) (Query.Act aside_row put) m n (TxGoes.On (TxAt.Write (Try 0)))) (sym (left_row put now aside_row m (Some c) is refl))
          (beside home p x cond_op t k (TxAt.Head first) m h (Query.Act aside_row put) m (TxGoes.On (TxAt.Write (Try 0))) (λ z off. refl) (same_grow m m refl) refl refl (tail_there (chain m aside_row) h.shadow ∙ ap is_some is) tt
          (tt, h.locked, walks_begin (chain m aside_row) p))

      made_turn : Turns cond_op (TxAt.Head first) now m
      made_turn = by_made (map.get m aside_row) refl

  -- ---- the lock
  module _ (e : Effect) (m : Rows) where
    module _ (b now : ℕ) (h : Stands (start e (TxAt.Lock (Lockset b))) t k m) where
      abbrev lockset_row : RowKey
      lockset_row = lockset_key home p.intent b t k

      by_put : (o : Option Row) → Leads home p x e t k (TxAt.Lock (Lockset b)) (Query.Act lockset_row PutLockset) m (rows_after (Query.Act lockset_row PutLockset) now m)
          (tx_goes p x.begin e (TxAt.Lock (Lockset b)) (replied (act PutLockset now o).1))
      by_put None = set home p x e t k (TxAt.Lock (Lockset b)) m h PutLockset lockset_row now (TxGoes.On (TxAt.Lock (AtItem (Try 0)))) refl refl tt tt (fits_lock e (Lockset b) (AtItem (Try 0)) h.fits, tt, walks_begin (chain m item_row) p)
      by_put (Some r) = set home p x e t k (TxAt.Lock (Lockset b)) m h PutLockset lockset_row now (TxGoes.On (TxAt.Lock (AtItem (Try 0)))) refl refl tt tt (fits_lock e (Lockset b) (AtItem (Try 0)) h.fits, tt, walks_begin (chain m item_row) p)

      put_turn : Turns e (TxAt.Lock (Lockset b)) now m
      put_turn = by_put (map.get m lockset_row)

    module _ (w : WriteAt) (h : Stands (start e (TxAt.Lock (AtItem w))) t k m) (n : Rows) where
      abbrev lock_stage : TxAt
      lock_stage = TxAt.Lock (AtItem w)

      abbrev as_lock : WriteWalk
      as_lock = record { home = home; item = Plain t k; place = p; who = me; op = CellOp.Lock; at = w }

      abbrev Locks : TxGoes → Type 0
      Locks g = Leads home p x e t k lock_stage (write_asks item_row p me CellOp.Lock w) m n g

      lock_to : (y : WriteWalk) (s : WriteOutput) (g : TxGoes) → LoggedTurn as_lock y m n s → IsSo e p me (output_of lock_stage g) (given n log_row) (content (chain n item_row)) (content (chain n aside_row))
          → Onto home p x e t k lock_stage (chain n item_row) (chain n aside_row) g → Locks g
      lock_to y s g l so onto =
          let aside : chain n aside_row ≡ chain m aside_row = aside_kept m n item_row l.others (λ z. cc) home x t k in
          record {
            others = subst (λ y. ChangedAlone y m n) (sym (asked item_row (λ r. refl) refl p me CellOp.Lock w)) l.others;
            grows = l.grows;
            item = lock_moved p me (content (chain m item_row)) (content (chain n item_row)) s l.logs;
            shadow = aside;
            finds = tt;
            so = so;
            stands = standing home p x e t k lock_stage m h n g l.linked (subst IsLinked (sym aside) h.shadow) (ap (λ f. (content f).owner) aside ∙ h.unowned) onto;
          }

      -- it stays where it stands
      again : (s : WriteOutput) → LoggedTurn as_lock as_lock m n s → Locks TxGoes.Stays
      again s l = lock_to as_lock s TxGoes.Stays l tt (h.fits, tt, l.sees)

  -- the place has the lock: the shadow comes next
  got_turn : (e : Effect) (m : Rows) (w : WriteAt) (h : Stands (start e (TxAt.Lock (AtItem w))) t k m) (n : Rows) (s : WriteOutput) → LoggedTurn (as_lock e m w h n) (as_lock e m w h n) m n s
      → note_at (content (chain n item_row)).notes p ≡ Some Note.Got → Locks e m w h n (locked_goes e)
  got_turn (Read u j) m w h n s l got = lock_to (Read u j) m w h n (as_lock (Read u j) m w h n) s (TxGoes.On (TxAt.Shadow 0)) l tt (tt, got, reads_begin (chain n aside_row))
  got_turn (Write u j v) m w h n s l got = lock_to (Write u j v) m w h n (as_lock (Write u j v) m w h n) s (TxGoes.On (TxAt.Write (Try 0))) l tt (tt, got, walks_begin (chain n aside_row) p)
  got_turn (CondWrite u j r o v) m w h n s l got = lock_to (CondWrite u j r o v) m w h n (as_lock (CondWrite u j r o v) m w h n) s (TxGoes.On TxAt.Seek) l tt (tt, got, tt)
  got_turn e m w h n s l got = absurd h.fits

  lock_turn : (e : Effect) (m : Rows) (w : WriteAt) (h : Stands (start e (TxAt.Lock (AtItem w))) t k m) (n : Rows) (g : WriteGoes) → LoggedTurn (as_lock e m w h n) (logged_at (as_lock e m w h n) g) m n (logged_so g)
      → Locks e m w h n (lock_leads p e (lock_item g))
  lock_turn e m w h n (WriteGoes.On j) l = lock_to e m w h n (logged_at (as_lock e m w h n) (WriteGoes.On j)) WriteOutput.Going (TxGoes.On (TxAt.Lock (AtItem j))) l tt (fits_lock e (AtItem w) (AtItem j) h.fits, tt, l.sees)
  lock_turn e m w h n WriteGoes.Stays l = again e m w h n WriteOutput.Going l
  lock_turn e m w h n (WriteGoes.Done Note.Wrote f) l = again e m w h n (WriteOutput.Done Note.Wrote f) l
  lock_turn e m w h n (WriteGoes.Done (Note.Cond b) f) l = again e m w h n (WriteOutput.Done (Note.Cond b) f) l
  lock_turn e m w h n (WriteGoes.Done Note.Got f) l = got_turn e m w h n (WriteOutput.Done Note.Got f) l l.logs.0
  lock_turn e m w h n (WriteGoes.Done (Note.Died a) f) l =
      lock_to e m w h n (as_lock e m w h n) (WriteOutput.Done (Note.Died a) f) (TxGoes.Died (record { place = p; holder = Some a })) l (a, refl, l.logs.0) (h.fits, tt, l.sees)
  lock_turn e m w h n (WriteGoes.Done Note.Freed f) l = again e m w h n (WriteOutput.Done Note.Freed f) l
  lock_turn e m w h n WriteGoes.NotOwner l = again e m w h n WriteOutput.NotOwner l
  lock_turn e m w h n (WriteGoes.Held o) l =
      let c = content (chain m item_row) in
      let same = l.logs.2 in
      lock_to e m w h n (as_lock e m w h n) (WriteOutput.Held o) (TxGoes.Held o) l
      (ap (λ (z : Content). note_at z.notes p) same ∙ l.logs.0, ap (λ (z : Content). waited me (other_owner me z.owner)) same ∙ taken (waited me (other_owner me c.owner)) o l.logs.1)
      (h.fits, tt, l.sees)
  lock_turn e m w h n WriteGoes.Worn l = lock_to e m w h n (as_lock e m w h n) WriteOutput.Worn TxGoes.Worn l tt (h.fits, tt, l.sees)

  -- ---- the write of the shadow
  module _ (e : Effect) (o : CellOp) (w : WriteAt) (m : Rows) (h : Stands (start e (TxAt.Write w)) t k m) (n : Rows) (stays : (u : Note) → note_at (content (chain m aside_row)).notes p ≡ Some u → n ≡ m) where
    abbrev as_write : WriteWalk
    as_write = record { home = home; item = Shadow x t k; place = p; who = me; op = o; at = w }

    abbrev Writes : TxGoes → Type 0
    Writes g = Leads home p x e t k (TxAt.Write w) (write_asks aside_row p me o w) m n g

    write_to : (y : WriteWalk) (s : WriteOutput) (g : TxGoes) → op_of e ≡ Some o → Aside p me o (output_of (TxAt.Write w) g) (content (chain m aside_row)) (content (chain n aside_row)) → LoggedTurn as_write y m n s
        → IsSo e p me (output_of (TxAt.Write w) g) (given n log_row) (content (chain n item_row)) (content (chain n aside_row)) → Onto home p x e t k (TxAt.Write w) (chain m item_row) (chain n aside_row) g → Writes g
    write_to y s g is moved l so onto =
        let item : chain n item_row ≡ chain m item_row = item_kept m n aside_row l.others (λ z. cc) home t k in
        record {
          others = subst (λ y. ChangedAlone y m n) (sym (asked aside_row (λ r. refl) refl p me o w)) l.others;
          grows = l.grows;
          item = ap content item;
          shadow = by_note (note_at (content (chain m aside_row)).notes p) (λ u there. ap (λ l. chain l aside_row) (stays u there))
              (λ none. subst (λ z. AsideMoves z p me (output_of (TxAt.Write w) g) (content (chain m aside_row)) (content (chain n aside_row))) (sym is) moved.0);
          finds = tt;
          so = so;
          stands = standing home p x e t k (TxAt.Write w) m h n g (subst IsLinked (sym item) h.item) l.linked moved.1 (subst (λ f. Onto home p x e t k (TxAt.Write w) f (chain n aside_row) g) (sym item) onto);
        }

  abbrev Content_at : RowKey → Rows → Content
  Content_at z m = content (chain m z)

  module _ (u : ℕ) (j : List ℕ) (v : Value) (w : WriteAt) (m : Rows) (h : Stands (start (Write u j v) (TxAt.Write w)) t k m) (n : Rows) (stays : (z : Note) → note_at (content (chain m aside_row)).notes p ≡ Some z → n ≡ m) where
    abbrev we : Effect
    we = Write u j v

    abbrev wo : CellOp
    wo = CellOp.Write v

    wrote_to : (z : WriteWalk) (s : WriteOutput) (y : TxGoes) → Answers wo (Content_at aside_row m) (output_of (TxAt.Write w) y) s → LoggedTurn (as_write we wo w m h n stays) z m n s
        → IsSo we p me (output_of (TxAt.Write w) y) (given n log_row) (content (chain n item_row)) (content (chain n aside_row)) → Onto home p x we t k (TxAt.Write w) (chain m item_row) (chain n aside_row) y → Writes we wo w m h n stays y
    wrote_to z s y answers l so onto = write_to we wo w m h n stays z s y refl (aside_moved p me wo (Content_at aside_row m) (Content_at aside_row n) refl refl h.unowned (output_of (TxAt.Write w) y) s answers l.logs) l so onto

    answered : (z : Note) → z ≡ note_after wo (Content_at aside_row m).value → is_going (output_of (TxAt.Write w) (write_leads we (WriteGoes.Done z true))) ≡ false
    answered z same = subst (λ y. is_going (output_of (TxAt.Write w) (write_leads we (WriteGoes.Done y true))) ≡ false) (sym same) refl

    write_by : (g : WriteGoes) → LoggedTurn (as_write we wo w m h n stays) (logged_at (as_write we wo w m h n stays) g) m n (logged_so g) → Writes we wo w m h n stays (write_leads we g)
    write_by (WriteGoes.On i) l = wrote_to (logged_at (as_write we wo w m h n stays) (WriteGoes.On i)) WriteOutput.Going (TxGoes.On (TxAt.Write i)) tt l tt (tt, h.locked, l.sees)
    write_by WriteGoes.Stays l = wrote_to (as_write we wo w m h n stays) WriteOutput.Going TxGoes.Stays tt l tt (tt, h.locked, l.sees)
    write_by (WriteGoes.Done Note.Wrote f) l = wrote_to (as_write we wo w m h n stays) (WriteOutput.Done Note.Wrote f) TxGoes.Done (answered Note.Wrote) l l.logs.0 (tt, h.locked, l.sees)
    write_by (WriteGoes.Done (Note.Cond b) f) l = wrote_to (as_write we wo w m h n stays) (WriteOutput.Done (Note.Cond b) f) TxGoes.Stays (answered (Note.Cond b)) l tt (tt, h.locked, l.sees)
    write_by (WriteGoes.Done Note.Got f) l = wrote_to (as_write we wo w m h n stays) (WriteOutput.Done Note.Got f) TxGoes.Stays (answered Note.Got) l tt (tt, h.locked, l.sees)
    write_by (WriteGoes.Done (Note.Died a) f) l = wrote_to (as_write we wo w m h n stays) (WriteOutput.Done (Note.Died a) f) TxGoes.Stays (answered (Note.Died a)) l tt (tt, h.locked, l.sees)
    write_by (WriteGoes.Done Note.Freed f) l = wrote_to (as_write we wo w m h n stays) (WriteOutput.Done Note.Freed f) TxGoes.Stays (answered Note.Freed) l tt (tt, h.locked, l.sees)
    write_by WriteGoes.NotOwner l = wrote_to (as_write we wo w m h n stays) WriteOutput.NotOwner TxGoes.Stays tt l tt (tt, h.locked, l.sees)
    write_by (WriteGoes.Held o) l = wrote_to (as_write we wo w m h n stays) (WriteOutput.Held o) TxGoes.Stays tt l tt (tt, h.locked, l.sees)
    write_by WriteGoes.Worn l = wrote_to (as_write we wo w m h n stays) WriteOutput.Worn TxGoes.Worn tt l tt (tt, h.locked, l.sees)

  module _ (u : ℕ) (j : List ℕ) (r : Rel) (c v : Value) (w : WriteAt) (m : Rows) (h : Stands (start (CondWrite u j r c v) (TxAt.Write w)) t k m) (n : Rows) (stays : (z : Note) → note_at (content (chain m aside_row)).notes p ≡ Some z → n ≡ m) where
    abbrev ce : Effect
    ce = CondWrite u j r c v

    abbrev co : CellOp
    co = CellOp.Cond r c v

    cond_to : (z : WriteWalk) (s : WriteOutput) (y : TxGoes) → Answers co (Content_at aside_row m) (output_of (TxAt.Write w) y) s → LoggedTurn (as_write ce co w m h n stays) z m n s
        → IsSo ce p me (output_of (TxAt.Write w) y) (given n log_row) (content (chain n item_row)) (content (chain n aside_row)) → Onto home p x ce t k (TxAt.Write w) (chain m item_row) (chain n aside_row) y → Writes ce co w m h n stays y
    cond_to z s y answers l so onto = write_to ce co w m h n stays z s y refl (aside_moved p me co (Content_at aside_row m) (Content_at aside_row n) refl refl h.unowned (output_of (TxAt.Write w) y) s answers l.logs) l so onto

    tested : (z : Note) → z ≡ note_after co (Content_at aside_row m).value → is_going (output_of (TxAt.Write w) (write_leads ce (WriteGoes.Done z true))) ≡ false
    tested z same = subst (λ y. is_going (output_of (TxAt.Write w) (write_leads ce (WriteGoes.Done y true))) ≡ false) (sym same) refl

    cond_by : (g : WriteGoes) → LoggedTurn (as_write ce co w m h n stays) (logged_at (as_write ce co w m h n stays) g) m n (logged_so g) → Writes ce co w m h n stays (write_leads ce g)
    cond_by (WriteGoes.On i) l = cond_to (logged_at (as_write ce co w m h n stays) (WriteGoes.On i)) WriteOutput.Going (TxGoes.On (TxAt.Write i)) tt l tt (tt, h.locked, l.sees)
    cond_by WriteGoes.Stays l = cond_to (as_write ce co w m h n stays) WriteOutput.Going TxGoes.Stays tt l tt (tt, h.locked, l.sees)
    cond_by (WriteGoes.Done (Note.Cond b) f) l = cond_to (as_write ce co w m h n stays) (WriteOutput.Done (Note.Cond b) f) (TxGoes.Value (Value.Bool b)) (tested (Note.Cond b)) l (b, refl, l.logs.0) (tt, h.locked, l.sees)
    cond_by (WriteGoes.Done Note.Wrote f) l = cond_to (as_write ce co w m h n stays) (WriteOutput.Done Note.Wrote f) TxGoes.Stays (tested Note.Wrote) l tt (tt, h.locked, l.sees)
    cond_by (WriteGoes.Done Note.Got f) l = cond_to (as_write ce co w m h n stays) (WriteOutput.Done Note.Got f) TxGoes.Stays (tested Note.Got) l tt (tt, h.locked, l.sees)
    cond_by (WriteGoes.Done (Note.Died a) f) l = cond_to (as_write ce co w m h n stays) (WriteOutput.Done (Note.Died a) f) TxGoes.Stays (tested (Note.Died a)) l tt (tt, h.locked, l.sees)
    cond_by (WriteGoes.Done Note.Freed f) l = cond_to (as_write ce co w m h n stays) (WriteOutput.Done Note.Freed f) TxGoes.Stays (tested Note.Freed) l tt (tt, h.locked, l.sees)
    cond_by WriteGoes.NotOwner l = cond_to (as_write ce co w m h n stays) WriteOutput.NotOwner TxGoes.Stays tt l tt (tt, h.locked, l.sees)
    cond_by (WriteGoes.Held o) l = cond_to (as_write ce co w m h n stays) (WriteOutput.Held o) TxGoes.Stays tt l tt (tt, h.locked, l.sees)
    cond_by WriteGoes.Worn l = cond_to (as_write ce co w m h n stays) WriteOutput.Worn TxGoes.Worn tt l tt (tt, h.locked, l.sees)

  -- ---- all stages
  lock_stage_turn : (e : Effect) (l : LockAt) (now : ℕ) (m : Rows) → Stands (start e (TxAt.Lock l)) t k m → Turns e (TxAt.Lock l) now m
  lock_stage_turn e (Lockset b) now m h = put_turn e m b now h
  lock_stage_turn e (AtItem w) now m h =
      let q = write_asks item_row p me CellOp.Lock w in
      let n = rows_after q now m in
      lock_turn e m w h n (write_goes Note.Got w (query_reply q now m)) (by_op (as_lock e m w h n) m n now h.item h.sees refl)

  pub turns : (e : Effect) (a : TxAt) (now : ℕ) (m : Rows) → Stands (start e a) t k m → Turns e a now m
  turns e (TxAt.Lock l) now m h = lock_stage_turn e l now m h
  turns (Read u j) TxAt.Log now m h = log_turn u j now m h
  turns (Read u j) (TxAt.Shadow r) now m h = shadow_turn u j r now m h
  turns (Read u j) (TxAt.Item r) now m h = item_turn u j r now m h
  turns (Read u j) (TxAt.Keep v) now m h = keep_turn u j v now m h
  turns (Read u j) a now m h = absurd h.fits
  turns (Write u j v) (TxAt.Write w) now m h =
      let q = write_asks aside_row p me (CellOp.Write v) w in
      let n = rows_after q now m in
      let its : WriteWalk = record { home = home; item = Shadow x t k; place = p; who = me; op = CellOp.Write v; at = w } in
      write_by u j v w m h n (λ z there. noted_stays its m h.shadow h.sees z there now) (write_goes Note.Wrote w (query_reply q now m)) (by_op its m n now h.shadow h.sees refl)
  turns (Write u j v) a now m h = absurd h.fits
  turns (CondWrite u j r c v) TxAt.Seek now m h = seek_turn u j r c v now m h
  turns (CondWrite u j r c v) (TxAt.Item i) now m h = found_turn u j r c v i now m h
  turns (CondWrite u j r c v) (TxAt.Head f) now m h = made_turn u j r c v f now m h
  turns (CondWrite u j r c v) (TxAt.Write w) now m h =
      let q = write_asks aside_row p me (CellOp.Cond r c v) w in
      let n = rows_after q now m in
      let its : WriteWalk = record { home = home; item = Shadow x t k; place = p; who = me; op = CellOp.Cond r c v; at = w } in
      cond_by u j r c v w m h n (λ z there. noted_stays its m h.shadow h.sees z there now) (write_goes (Note.Cond true) w (query_reply q now m)) (by_op its m n now h.shadow h.sees refl)
  turns (CondWrite u j r c v) a now m h = absurd h.fits
  turns e a now m h = absurd h.fits

-- ---- a turn
module _ (w : TxWalk) (t : ℕ) (k : List ℕ) (now : ℕ) where
  abbrev Asks : Query → Rows → Type 0
  Asks q m = Leads w.home w.place w.tx w.effect t k w.at q m (rows_after q now m) (tx_goes w.place w.tx.begin w.effect w.at (query_reply q now m))

  by_item : item_of w.effect ≡ Some (t, k) → (m : Rows) → Stands w t k m → Asks (walk_asks w) m
  by_item is m h = subst (λ (o : Option (ℕ × List ℕ)). Asks (asks_of w.home w.place w.tx w.effect w.at o) m) (sym is) (turns w.home w.place w.tx t k w.effect w.at now m h)

  made : item_of w.effect ≡ Some (t, k) → (m : Rows) → Stands w t k m
      → TxTurn w (walk_next w (query_reply (walk_asks w) now m)) t k m (rows_after (walk_asks w) now m) (walk_output w (query_reply (walk_asks w) now m))
  made is m h =
      let l = by_item is m h in
      record { others = l.others; grows = l.grows; item = l.item; shadow = l.shadow; finds = l.finds; so = l.so; same = refl; stands = l.stands }

pub operations_are_so : OperationsAreSo
operations_are_so w x t k now old new s is h =
    turned (walk_asks w) now (walk_next w) (walk_output w) (λ m n z. Stands w t k m → TxTurn w z.0 t k m n z.1) (λ m stands. made w t k now is m stands) w x old new s h

pub operations_begin : OperationsBegin
operations_begin home p tx (Read u j) t k c is = (tt, tt)
operations_begin home p tx (Write u j v) t k c is = (tt, tt)
operations_begin home p tx (CondWrite u j r o v) t k c is = (tt, tt)
operations_begin home p tx e t k c is = cc
