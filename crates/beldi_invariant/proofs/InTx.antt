-- An operation of a run inside a transaction: where it stands among the answers that are recorded, and in which transaction.
use Rattle.beldi_invariant.proofs.Names.{Answer, Begun, Bool, ByTx, Core, Deployment, Effect, Fits, InItem, InOperation, Inside, Instance, IntentId, IsAnswer, IsBehind, IsPending, IsOf, IsOpen, IsTrue, Item, Kind, Knows, List, LocksetMatches, None, Option, Invariant, Row, Rows, Run, RunTx, Some, TookPart, TxAt, TxId, Txs, [], ahead_by, ap, arith, begin_of, content_of, effect_after, effect_before, effect_of, ended_by, false, few_answers, got_before, got_by, inl, inr, is_begin, is_eq, is_intent_key, is_item, is_on, is_some, is_tx, item_total, recorded_set, last_step, length, length-append, advanced, moved_one, no_root, note_at, note_is_ahead, now_open, opens_are_open, or_own, own_is, place_of, refl, root_key, same_some, set_others, set_row, subst, sym, take, tied_itself, touched, true, tx_after, tx_by, tx_end, tx_now, tx_of, tx_self, txs_after, txs_by, wants_answer, ℕ, ◌&&◌, ◌++◌, ◌<◌, ◌||◌, ◌∙◌, ◌∷◌, ◌≡◌, Note, StageOutput, Stage}
use Rattle.beldi_invariant.proofs.StageTurns.{Freed, Leaves, by_answer, recorded_prefix, answers_on, not_over, well_formed_instance, stands_on, at_steps, wanted_here, front_here, effect_here, answer_here, all_here, effect_next}
use Rattle.beldi_invariant.proofs.{Grown.grown_same, Moves.Kept, Moves.SameRoots, Moves.Stays, OpenOf.open_begun, OpenOf.open_in, OpenOf.own_begin, Ended.ended_at, Shown.sound}
use Rattle.beldi_invariant.proofs.Names.map

-- an operation on an item wants an answer, and is no begin
pub wants_one : (e : Effect) (x : ℕ × List ℕ) → touched e ≡ Some x → IsTrue (wants_answer e)
wants_one e x h = grind arith

pub no_begin : (e : Effect) (x : ℕ × List ℕ) → touched e ≡ Some x → is_begin e ≡ false
no_begin e x h = grind arith

-- an operation on it
pub item_self : (func t : ℕ) (k : List ℕ) → is_item (record { func = func; table = t; key = k }) func (Some (t, k)) ≡ true
item_self func t k = ap is_eq (tied_itself item_total (record { func = func; table = t; key = k }))

-- the begin of what a run is in
pub begin_is : (id : IntentId) (func : ℕ) (o : RunTx) → (tx_of id func o).begin ≡ begin_of o
begin_is id func o = grind arith

-- an operation ends no transaction
ends_same : (n : ℕ) (e : Effect) (s : Txs) (b : ℕ) (x : ℕ × List ℕ) → touched e ≡ Some x → (txs_by n e s).ends b ≡ s.ends b
ends_same n e s b x touch = grind arith

-- a lockset row that is there is one
pub lockset_is : (r : Option Row) (owed ahead : Bool) → LocksetMatches r owed ahead → is_some r ≡ true → r ≡ Some Row.Lockset
lockset_is r owed ahead h there = grind arith

-- where a row was set that is no intent's, the roots are as they were
pub set_roots : (m : Rows) (home : ℕ) (kind : Kind) (v : Option Row) → is_intent_key kind ≡ false → SameRoots m (set_row m (record { home = home; kind = kind }) v)
set_roots m home kind v off u = ap is_some (set_others m (record { home = home; kind = kind }) v (root_key u) (no_root u home kind off))

module _ (d : Deployment) (c : Core) (m : Rows) (r : Run) (g : Begun) (h : Invariant d c m) (k : Knows d h.histories r g) (o : RunTx) (here : tx_after d r.id k.instance k.answers ≡ Some (tx_of r.id r.func o))
    (e : Effect) (is : g.machine.effect ≡ e) (x : ℕ × List ℕ) (touch : touched e ≡ Some x) where
  abbrev pub own : TxId
  own = tx_of r.id r.func o

  -- its item, as the run has it and as the instance
  abbrev pub item : Item
  item = record { func = r.func; table = x.0; key = x.1 }

  abbrev pub its_item : Item
  its_item = record { func = k.instance.func; table = x.0; key = x.1 }

  pub same_item : its_item ≡ item
  same_item i = record { func = k.func i; table = x.0; key = x.1 }

  pub effect_so : effect_after d k.instance k.answers ≡ e
  effect_so = wanted_here k ∙ is

  pub wants_here : IsTrue (wants_answer g.machine.effect)
  wants_here = subst (λ z. IsTrue (wants_answer z)) (sym is) (wants_one e x touch)

  -- it has had few answers
  pub short : length k.answers < last_step
  short = let n = few_answers d k.instance.func k.instance.args (is_some k.instance.enclosing) k.answers (subst (λ z. IsTrue (wants_answer z)) (sym effect_so) (wants_one e x touch)) in omega (arith, n)

  -- ---- behind: its step has an answer
  module _ (a : Answer) (rest : List Answer) (left : k.later ≡ a ∷ rest) where
    pub recorded_answers : k.answers ++ a ∷ rest ≡ k.instance.answers
    recorded_answers = ap (λ ys. k.answers ++ ys) (sym left) ∙ k.run_answers

    pub behind : IsBehind d m h.histories r.id k.instance k.answers a
    behind = record { lock_ahead = h.lock_ahead; matches = h.rows; made = k.made; well_formed = well_formed_instance h k; rest = rest; run_answers = recorded_answers; short = short }

    -- .. which is one to its effect
    pub answers_so : IsAnswer (place_of r.id g.machine.steps) (Some own) e a
    answers_so = subst (λ z. IsAnswer (place_of r.id g.machine.steps) (Some own) z a) (effect_here k ∙ is)
        (subst (λ t. IsAnswer (place_of r.id g.machine.steps) t (effect_before d k.instance g.machine.steps) a) (ap (tx_after d r.id k.instance) (front_here k) ∙ here)
        ((well_formed_instance h k).past g.machine.steps a (answer_here k (a ∷ rest) left)))

  -- ---- at the front: it is the instance's next
  -- where the instance was not answered since
  pub at_front : (q : Instance) → map.get h.histories r.id ≡ Some q → length q.answers ≡ g.machine.steps → k.later ≡ []
  at_front q made same = by_answer k (λ left. left) (λ a rest left.
      let l = ap (λ (z : Instance). length z.answers) (same_some (sym k.made ∙ made)) in
      let n = ap length (recorded_answers a rest left) in
      let p = length-append k.answers (a ∷ rest) in
      let s = at_steps k in absurd (omega (arith, l, n, p, same, s)))

  module _ (left : k.later ≡ []) where
    pub now : effect_of d k.instance ≡ e
    now = effect_next k left ∙ is

    pub tx_is : tx_now d r.id k.instance ≡ Some own
    tx_is = ap (tx_after d r.id k.instance) (sym (all_here k left)) ∙ here

    pub front : IsPending d h.histories r.id k.instance own x.0 x.1
    front = record { made = k.made; inside = tx_is; touch = ap touched now ∙ touch }

    pub apart : is_begin (effect_of d k.instance) ≡ false
    apart = ap is_begin now ∙ no_begin e x touch

    pub open_still : k.instance.outcome ≡ None
    open_still = not_over h k left wants_here

    -- its transaction has not ended
    pub not_ended : tx_end d h.histories own ≡ None
    not_ended = now_open d h.histories h.well_formed r.id k.instance own k.made open_still tx_is

    -- it is open
    pub opened : IsOpen d m h.plain h.histories h.lock_ahead own
    opened = opens_are_open d m h.plain h.histories h.lock_ahead r.id k.instance own (sound h) k.made open_still tx_is

    -- where its place has the lock ahead, it has got its item
    pub owned : h.lock_ahead r.id ≡ true → (content_of m its_item).owner ≡ Some (ByTx own)
    owned was = (h.rows.txs its_item).got_is_owned own (record { member = r.id; got = ap (got_by d own its_item r.id (h.lock_ahead r.id)) k.made ∙ by_before (got_before d own its_item r.id k.instance) (h.lock_ahead r.id) was on_it }) not_ended
      where
        on_it : is_on own its_item k.instance.func (tx_now d r.id k.instance) (effect_of d k.instance) ≡ true
        on_it = (λ i. is_tx own (tx_is i) && is_item its_item k.instance.func (front.touch i)) ∙ ap (λ b. b && is_item its_item k.instance.func (Some x)) (tx_self own) ∙ item_self k.instance.func x.0 x.1

        by_before : (u b : Bool) → b ≡ true → is_on own its_item k.instance.func (tx_now d r.id k.instance) (effect_of d k.instance) ≡ true → (u || (b && is_on own its_item k.instance.func (tx_now d r.id k.instance) (effect_of d k.instance))) ≡ true
        by_before u b e on = grind arith

    -- an answer there ends no transaction
    pub ends_before : (a : Answer) (t : TxId) (z : ℕ × Bool) → tx_end d (map.insert h.histories r.id (advanced d r.id k.instance a)) t ≡ Some z → tx_end d h.histories t ≡ Some z
    ends_before a t z = recorded_set h.histories r.id (advanced d r.id k.instance a) (λ j o. ended_by d t.begin o ≡ Some z → ended_by d t.begin (map.get h.histories j) ≡ Some z)
        (λ ended. ap (ended_by d t.begin) k.made ∙ sym ((moved_one d r.id k.instance a).ends t.begin ∙ ends_same (length k.instance.answers) (effect_of d k.instance) (txs_after d k.instance k.instance.answers) t.begin x front.touch) ∙ ended) (λ j other ended. ended) t.intent

    -- it is of no transaction of its begin that has ended
    pub asks_alone : (t : TxId) (z : ℕ × Bool) → tx_end d h.histories t ≡ Some z → IsOf h.histories t r.id → t.begin ≡ begin_of o → ⊥
    asks_alone t z ended of same = by_within k.instance.enclosing refl of
      where
        begins : t.begin ≡ own.begin
        begins = same ∙ sym (begin_is r.id r.func o)

        joined : (w : Option TxId) → k.instance.enclosing ≡ w → TookPart h.histories t r.id → w ≡ Some t
        joined w e part = sym e ∙ ap (λ (y : Instance). y.enclosing) (same_some (sym k.made ∙ part.made)) ∙ part.enclosing

        none_ended : (u : TxId) → k.instance.enclosing ≡ Some u → r.id ≡ t.intent → ⊥
        none_ended u inner mine =
            let at = ended_at d k.instance t.begin z (sym (ap (ended_by d t.begin) (ap (map.get h.histories) (sym mine) ∙ k.made)) ∙ ended) in
            let clash = sym at.begun ∙ open_begun d k.instance (take z.0 k.instance.answers) ∙ ap own_begin (open_in d k.instance u (take z.0 k.instance.answers) inner) in cc

        by_within : (w : Option TxId) → k.instance.enclosing ≡ w → IsOf h.histories t r.id → ⊥
        by_within None e (inl mine) = let clash = sym not_ended ∙ (λ i. ended_by d (sym begins i) (map.get h.histories ((own_is d r.id k.instance own e apart tx_is).intent i))) ∙ ap (λ j. ended_by d t.begin (map.get h.histories j)) mine ∙ ended in cc
        by_within None e (inr part) = let clash = joined None e part in cc
        by_within (Some u) e (inl mine) = none_ended u e mine
        by_within (Some u) e (inr part) =
            let is_own : u ≡ own = same_some (sym (ap (λ w. or_own w (tx_by r.id k.instance.func (length k.instance.answers) (effect_of d k.instance) (txs_after d k.instance k.instance.answers).begun)) e) ∙ tx_is) in
            let is_t : u ≡ t = same_some (joined (Some u) e part) in
            let clash = sym not_ended ∙ ap (tx_end d h.histories) (sym is_own ∙ is_t) ∙ ended in cc

    short_now : length k.instance.answers < last_step
    short_now = subst (λ (ts : List Answer). length ts < last_step) (all_here k left) short

    -- where its place has the lock, that is ahead of the answer
    pub was_locked : note_at (content_of m its_item).notes (place_of r.id (length k.instance.answers)) ≡ Some Note.Got → h.lock_ahead r.id ≡ true
    was_locked got = by_lock (h.lock_ahead r.id) refl
      where
        none : (u : Option TxId) → ahead_by its_item k.instance.func u (effect_of d k.instance) false ≡ None
        none u = grind arith

        by_lock : (b : Bool) → h.lock_ahead r.id ≡ b → b ≡ true
        by_lock true e = refl
        by_lock false e = let clash = sym got ∙ note_is_ahead d m h.histories h.lock_ahead h.rows r.id k.instance k.made short_now its_item ∙ ap (ahead_by its_item k.instance.func (tx_now d r.id k.instance) (effect_of d k.instance)) e ∙ none (tx_now d r.id k.instance) in cc

-- ---- what it says leaves
module _ (d : Deployment) (c : Core) (m : Rows) (i : ℕ) (r : Run) (g : Begun) (h : Invariant d c m) (live : map.get c.runs i ≡ Some r) (k : Knows d h.histories r g) (finds : Inside m h.plain c.book k g.stage)
    (o : RunTx) (tx : g.tx ≡ Some o) (here : tx_after d r.id k.instance k.answers ≡ Some (tx_of r.id r.func o)) (e : Effect) (is : g.machine.effect ≡ e) (x : ℕ × List ℕ) (touch : touched e ≡ Some x) where
  -- it goes on in the operation; a lock may be ahead that was not
  pub goes_at : (b : TxAt) (n : Rows) (after : IntentId → Bool) → SameRoots m n → Kept h n h.plain h.histories after → Fits e b → InOperation d n h.plain h.histories r.id r.func o g.machine.steps e b x → Leaves d c m i r g h live k (StageOutput.On (Stage.Tx b) None) n
  goes_at b n after roots kept fits at =
      stands_on d c m i r g h live k finds is tx (Stage.Tx b) n after roots kept (fits, subst (InItem d n h.plain h.histories r.id r.func o g.machine.steps e b) (sym touch) at)

  -- it ends no transaction
  pub frees_none : (n : Rows) → Freed d c m i r g h live k n
  frees_none n u commit y begun ends owned = let clash = sym touch ∙ ap touched (sym is ∙ ends) in cc

  -- it has the answer that is recorded
  pub replays : (n : Rows) (a : Answer) (rest : List Answer) → k.later ≡ a ∷ rest → SameRoots m n → Stays h n → Leaves d c m i r g h live k (StageOutput.Answers a None) n
  replays n a rest left roots kept = answers_on d c m i r g h live k finds a rest n h.histories h.lock_ahead k.instance roots kept k.made (grown_same k.instance)
      (recorded_prefix k a rest left) (wants_here d c m r g h k o here e is x touch) (frees_none n)
