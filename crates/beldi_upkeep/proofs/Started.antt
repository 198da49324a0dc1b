-- Each root that was bound is one that the book starts: the request that bound it made the entry.
use Rattle.std.specs.Prelude.{Err, Ok, Result, nat_lt}
use Rattle.std.proofs.Common.{List, Option, Some, [], ap, length, refl, slice_get, subst, suc, sym, zero, ℕ, ◌++◌, ◌==◌, ◌||◌, ◌∙◌, ◌∷◌, ◌≡◌}
use Rattle.std.specs.declared.alloc.AllocError.{AllocError}
use Rattle.std.specs.FinMap as map
use Rattle.beldi_value.specs.declared.value.Value.{Value}
use Rattle.beldi_tree.specs.declared.deployment.Deployment.{Deployment}
use Rattle.beldi_book.specs.declared.entry.Entry.{Entry}
use Rattle.beldi_plain.specs.Replies.{starts_of}
use Rattle.beldi_row.specs.{Act.act, Act.bound, Key.RowKey, Table.Rows, declared.act.Act.Act, declared.row.Row.Row, declared.table.TableErr.TableErr}
use Rattle.beldi_query.{proofs.Lent.refused_stand, specs.Query.CameOn, specs.Query.QueryReply, specs.Query.replied}
use Rattle.beldi_intent.specs.Intent.{bind_asks, root_key}
use Rattle.beldi_step.proofs.StepRuns.{of_plan}
use Rattle.beldi_step.specs.{declared.event.Event.Event, declared.event.EventReply.EventReply, HostStep.Core, HostStep.EventBy, HostStep.EventOn, HostStep.Followed, HostStep.Plan, HostStep.asks, HostStep.immediate, HostStep.counted, HostStep.is_crowded, HostStep.plan, HostStep.reads_all, EventContent.bound_of}
use Rattle.beldi_histories.proofs.RowMaps.{keys_set}
use Rattle.beldi_invariant.specs.{InvariantLaws.bound_by, Invariant.Invariant}
use Rattle.beldi_invariant.proofs.{Moves.if_plan, Starts.starts_bound}
use Rattle.beldi_upkeep.specs.Checked.{RootsStayStarted, StartedRootsAreOfIt, Starts, body_at}
use Rattle.beldi_upkeep.proofs.{UpkeepKept.All, UpkeepKept.event_keeps, Roots.P, Roots.bound_keeps, Roots.plan_keeps}

-- ---- entries
front_there : {X : Type 0} (xs ys : List X) (n : ℕ) (x : X) → slice_get xs n ≡ Some x → slice_get (xs ++ ys) n ≡ Some x
front_there [] ys n x h = cc
front_there (z ∷ xs) ys zero x h = h
front_there (z ∷ xs) ys (suc n) x h = front_there xs ys n x h

last_there : {X : Type 0} (xs : List X) (x : X) → slice_get (xs ++ x ∷ []) (length xs) ≡ Some x
last_there [] x = refl
last_there (z ∷ xs) x = last_there xs x

-- what was started is, after an event
more_starts : (old new : List Entry) (ys : List (ℕ × (ℕ × Value))) → starts_of new ≡ starts_of old ++ ys → (t f : ℕ) → Starts old t f → Starts new t f
more_starts old new ys grew t f s = record { number = s.number; args = s.args; there = ap (λ xs. slice_get xs s.number) grew ∙ front_there (starts_of old) ys s.number (t, (f, s.args)) s.there }

one_starts : (old new : List Entry) (t f : ℕ) (a : Value) → starts_of new ≡ starts_of old ++ (t, (f, a)) ∷ [] → Starts new t f
one_starts old new t f a grew = record { number = length (starts_of old); args = a; there = ap (λ xs. slice_get xs (length (starts_of old))) grew ∙ last_there (starts_of old) (t, (f, a)) }

-- ---- a request
module _ (d : Deployment) (t f : ℕ) (a : Value) (c : Core) where
  -- it asks to bind its root
  abbrev AsksBind : Plan → Type 0
  AsksBind (immediate b y) = Unit {0}
  AsksBind (asks q) = q ≡ bind_asks t f a
  AsksBind reads_all = Unit {0}

  asks_bind : AsksBind (plan d (Event.Request t f a) c)
  asks_bind = of_plan d (Event.Request t f a) c AsksBind (λ few. if_plan AsksBind ((t == 0) || nat_lt c.newest t) _ _ (λ u. tt) (λ u. if_plan AsksBind (is_crowded (counted c)) _ _ (λ u. tt) (λ u. refl))) (λ shut. tt) tt

  -- where it was told that the root was bound, the book starts it
  is_bound : (b : Core) (r : Result EventReply AllocError) → Followed d (Event.Request t f a) (counted c) (Ok (replied bound)) b r → bound_by (Event.Request t f a) r ≡ (t, (f, a)) ∷ []
  is_bound b (Ok x) h = ap (λ (z : Core × EventReply). bound_of (Event.Request t f a) z.1) h
  is_bound b (Err w) h = cc

module _ (d : Deployment) (c b : Core) (m n : Rows) (r : Result EventReply AllocError) where
  abbrev S : RowKey → Option Row → Type 0
  S = P d (Starts b.book)

  module _ (t f : ℕ) (a : Value) (grew : starts_of b.book ≡ starts_of c.book ++ bound_by (Event.Request t f a) r) (all : All S m) where
    by_came : (room : ℕ) (w : Result QueryReply TableErr) → Followed d (Event.Request t f a) (counted c) w b r → CameOn (bind_asks t f a) c.now room w m n → All S n
    by_came room (Err v) h s = subst (All S) (sym (refused_stand (bind_asks t f a) c.now room v m n s)) all
    by_came room (Ok u) h s = subst (All S) (sym s.0) (keys_set m (root_key t) (act (Act.Bind f a) c.now (map.get m (root_key t))).0 S
        (bound_keeps d (Starts b.book) c.now t f a (map.get m (root_key t))
        (λ told. one_starts c.book b.book t f a (grew ∙ ap (λ ys. starts_of c.book ++ ys) (is_bound d t f a c b r (subst (λ z. Followed d (Event.Request t f a) (counted c) (Ok z) b r) (s.1 ∙ ap replied told) h)))) (all (root_key t)))
        (λ l other. all l))

    by_plan : (room old new : ℕ) (p : Plan) → AsksBind d t f a c p → EventBy d room old new (Event.Request t f a) (counted c) p m b n r → All S n
    by_plan room old new (immediate k y) is s = subst (All S) (sym s.1) all
    by_plan room old new (asks q) is s = by_came room s.0 s.1 (subst (λ z. CameOn z c.now room s.0 m n) is s.2)
    by_plan room old new reads_all is s = subst (All S) (sym s.2.0) all

  by_event : (room old new : ℕ) (e : Event) → Invariant d c m → starts_of b.book ≡ starts_of c.book ++ bound_by e r → All S m → EventOn d room old new e c m b n r → All S n
  by_event room old new (Event.Request t f a) h grew all s = by_plan t f a grew all room old new (plan d (Event.Request t f a) c) (asks_bind d t f a c) s
  by_event room old new e h grew all s = event_keeps S d room old new e c b m n r (plan_keeps d (Starts b.book) c m h e tt) all s

pub roots_stay_started : RootsStayStarted
roots_stay_started d room old new e c b m n r h roots s t body is =
    let grew = starts_bound d room old new e c b m n r s in
    by_event d c b m n r room old new e h grew (λ k u same v at. more_starts c.book b.book (bound_by e r) grew u v.func (roots u v (ap (λ z. body_at (map.get m z)) (sym same) ∙ at))) s (root_key t) t refl body is

pub started_of_it : StartedRootsAreOfIt
started_of_it d c m roots starts t b is = starts t b.func (roots t b is)
