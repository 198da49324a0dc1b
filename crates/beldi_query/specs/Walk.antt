-- One turn of a walk.
use Rattle.std.specs.Prelude.{◌≡◌, ◌⊎◌, ℕ, Bool, true, false, IsTrue, Result, Ok, Err}
use Rattle.beldi_row.specs.{declared.table.TableErr.TableErr, declared.table.TableErr.TheVariants.OutOfMemory, declared.table.TableErr.TheVariants.Failed, declared.table.TableErr.TheVariants.Full, Table.Rows, Table.TableState, Table.Tells}
use Rattle.beldi_query.specs.Query.{QueryReply, Came, lends, query_adds, rows_after, query_reply, may_tell_death, tells_death}
use Rattle.beldi_query.specs.declared.query.Query.{Query}

-- by what its query came to: the walk is moved and says so, or else it stands where it stood
abbrev pub Heeds : {W X : Type 0} → (QueryReply → W) → (QueryReply → X) → W → W → Result X TableErr → Result QueryReply TableErr → Type 0
Heeds f g w x (Ok s) (Ok t) = (x ≡ f t) × (s ≡ g t)
Heeds f g w x (Ok s) (Err v) = ⊥
Heeds f g w x (Err e) (Ok t) = (x ≡ w) × (e ≡ OutOfMemory) × (lends t ≡ true)
Heeds f g w x (Err e) (Err v) = (x ≡ w) × (e ≡ v)

-- one witness: what the query came to
abbrev pub Turned : {W X : Type 0} → Query → ℕ → (QueryReply → W) → (QueryReply → X) → W → W → TableState → TableState → Result X TableErr → Type 0
Turned q now f g w x old new result = (t : Result QueryReply TableErr) × Heeds f g w x result t × Came q now t old new

-- a call that makes one query, and answers by what it told
abbrev pub Answered : {X : Type 0} → Query → ℕ → (QueryReply → X) → TableState → TableState → Result X TableErr → Type 0
Answered q now g old new result = (t : Result QueryReply TableErr) × Heeds (λ t. tt {0}) g (tt {0}) (tt {0}) result t × Came q now t old new

-- what an error leaves, by whether its query may tell a death: the rows as before; only where it was out of memory for a death that
-- was told, the death stands
abbrev pub LeftAt : Bool → TableErr → Query → ℕ → Rows → Rows → Type 0
LeftAt false e q now m n = n ≡ m
LeftAt true OutOfMemory q now m n = (n ≡ m) ⊎ ((n ≡ rows_after q now m) × (tells_death (query_reply q now m) ≡ true))
LeftAt true Failed q now m n = n ≡ m
LeftAt true (Full live most) q now m n = n ≡ m

abbrev pub Left : TableErr → Query → ℕ → Rows → Rows → Type 0
Left e q now m n = LeftAt (may_tell_death q) e q now m n

-- after an error of a turn the rows are as before, but for such a death
abbrev pub ErrorsLeaveRows : {W X : Type 0} → (W → Query) → (W → QueryReply → W) → (W → QueryReply → X) → Type 0
ErrorsLeaveRows {W} asks next output = (w x : W) (now : ℕ) (e : TableErr) (old new : TableState) → Turned (asks w) now (next w) (output w) w x old new (Err e) → Tells old.rows new.rows (Left e (asks w) now)

-- an answer says this of the rows before and after; a refusal leaves them as they were, but for such a death, and is `Full` only
-- where the query adds a row
abbrev pub Leaves : {X : Type 0} → Query → ℕ → (Rows → Rows → X → Type 0) → Rows → Rows → Result X TableErr → Type 0
Leaves q now P m n (Ok x) = P m n x
Leaves q now P m n (Err OutOfMemory) = Left OutOfMemory q now m n
Leaves q now P m n (Err Failed) = n ≡ m
Leaves q now P m n (Err (Full live most)) = (n ≡ m) × IsTrue (query_adds q now m)

-- so it is of every call that makes this query, over every table that tells its rows
abbrev pub Promises : {X : Type 0} → Query → ℕ → (QueryReply → X) → (Rows → Rows → X → Type 0) → Type 0
Promises {X} q now g P = (old new : TableState) (r : Result X TableErr) → Answered q now g old new r → Tells old.rows new.rows (λ m n. Leaves q now P m n r)
