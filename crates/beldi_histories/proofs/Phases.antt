-- Where a body is, by the answers of its instance: the Begin that is open, what was aborted since, and the locks that it holds.
use Rattle.beldi_histories.proofs.Names.{Answer, Bool, Cause, Deployment, Effect, HeldLock, Instance, IntentId, IsAnswer, Item, List, None, Option, Place, WellFormedHistory, Some, TxId, Txs, [], answered, ap, append-nil, append_assoc, arith, body, effect_after, effect_of, eq-eqb, eqb-true, false, false_from_ne_true, func_at, held_along, held_if, held_pushed, holds, if◌then◌else◌, inl, inr, is_eq, is_held, is_inside, is_lock, is_name, is_some, item_cmp, item_same, item_total, length, length-append, none_by, not, op_of, or_own, or_right, place_of, refl, slice_eq-Decides, slice_get, subst, suc, sym, take, take-append-le, tied_itself, true, tx_after, tx_at, tx_by, tx_now, txs_after, txs_by, txs_pushed, unsigned_Decides, without, zero, ℕ, ◌&&◌, ◌++◌, ◌<◌, ◌==◌, ◌||◌, ◌∙◌, ◌∷◌, ◌≡◌, ◌⊎◌, Outcome}
use Rattle.beldi_histories.proofs.Flows.{Phase, block, own, aborted, leaving, stands, held_after, asked}
use Rattle.beldi_histories.proofs.Begins.{is_begun, is_leaving, is_unlock, begun_after, Going, Now, Next, at_first, going_now, going_next, going_on, dies_own, dies_else}
use Rattle.beldi_histories.proofs.{Answers.take_front, Cases.by_cases, Cases.if_same, FrameAt.or_no}

-- ---- locks
name_decides : (a b : List ℕ) → (is_name a b ≡ true → a ≡ b) × (a ≡ b → is_name a b ≡ true)
name_decides a b = slice_eq-Decides unsigned_Decides a b (is_name a b) refl

lock_is : (t : ℕ) (k : List ℕ) (l : HeldLock) → is_lock t k l ≡ true → (l.table ≡ t) × (l.key ≡ k)
lock_is t k l h = by_cases (l.table == t) (λ e. (eqb-true l.table t e, (name_decides l.key k).0 (sym (ap (λ b. b && is_name l.key k) e) ∙ h)))
    (λ e. let clash = sym h ∙ ap (λ b. b && is_name l.key k) e in cc)

lock_itself : (l : HeldLock) → is_lock l.table l.key l ≡ true
lock_itself l = ap (λ b. b && is_name l.key l.key) (eq-eqb l.table l.table refl) ∙ (name_decides l.key l.key).1 refl

held_front : (t : ℕ) (k : List ℕ) (hs : List HeldLock) (l : HeldLock) → is_held t k hs ≡ true → is_held t k (hs ++ l ∷ []) ≡ true
held_front t k [] l h = cc
held_front t k (m ∷ ms) l h = by_cases (is_lock t k m) (λ e. ap (λ b. b || is_held t k (ms ++ l ∷ [])) e)
    (λ e. or_right (is_lock t k m) (is_held t k (ms ++ l ∷ [])) (held_front t k ms l (sym (ap (λ b. b || is_held t k ms) e) ∙ h)))

held_last : (hs : List HeldLock) (l : HeldLock) → is_held l.table l.key (hs ++ l ∷ []) ≡ true
held_last [] l = ap (λ b. b || false) (lock_itself l)
held_last (m ∷ ms) l = or_right (is_lock l.table l.key m) (is_held l.table l.key (ms ++ l ∷ [])) (held_last ms l)

-- the unlock of another one
held_without : (t u : ℕ) (k j : List ℕ) (hs : List HeldLock) → (t ≡ u → k ≡ j → ⊥) → is_held u j hs ≡ true → is_held u j (without t k hs) ≡ true
held_without t u k j [] other h = cc
held_without t u k j (m ∷ ms) other h = by_test (λ g. held_without t u k j ms other g) (is_lock t k m) refl (is_lock u j m) refl
  where
    by_test : (is_held u j ms ≡ true → is_held u j (without t k ms) ≡ true) → (b : Bool) → is_lock t k m ≡ b → (c : Bool) → is_lock u j m ≡ c → is_held u j (if not (is_lock t k m) then m ∷ without t k ms else without t k ms) ≡ true
    by_test rest true e true f = let a = lock_is t k m e in let b = lock_is u j m f in absurd (other (sym a.0 ∙ b.0) (sym a.1 ∙ b.1))
    by_test rest true e false f = ap (λ b. is_held u j (if not b then m ∷ without t k ms else without t k ms)) e ∙ rest (sym (ap (λ b. b || is_held u j ms) f) ∙ h)
    by_test rest false e true f = ap (λ b. is_held u j (if not b then m ∷ without t k ms else without t k ms)) e ∙ ap (λ b. b || is_held u j (without t k ms)) f
    by_test rest false e false f = ap (λ b. is_held u j (if not b then m ∷ without t k ms else without t k ms)) e ∙ or_right (is_lock u j m) (is_held u j (without t k ms)) (rest (sym (ap (λ b. b || is_held u j ms) f) ∙ h))

-- what its answers say that it holds is among the locks of the body
abbrev Holds : Item → ℕ → Bool → List HeldLock → Type 0
Holds x func b hs = b ≡ true → (x.func ≡ func) × (is_held x.table x.key hs ≡ true)

holds_after : (x : Item) (func : ℕ) (hs : List HeldLock) (e : Effect) (b : Bool) → Holds x func b hs → Holds x func (held_if x func (op_of e) b) (held_after e hs)
holds_after x func hs (Effect.Write t k v) b h = λ g. h (sym (if_same (is_eq (item_cmp (record { func = func; table = t; key = k }) x)) b) ∙ g)
holds_after x func hs (Effect.CondWrite t k r o v) b h = λ g. h (sym (if_same (is_eq (item_cmp (record { func = func; table = t; key = k }) x)) b) ∙ g)
holds_after x func hs (Effect.Lock t k) b h = by_test (is_eq (item_cmp (record { func = func; table = t; key = k }) x)) refl
  where
    by_test : (c : Bool) → is_eq (item_cmp (record { func = func; table = t; key = k }) x) ≡ c → Holds x func (if c then true else b) (hs ++ record { table = t; key = k } ∷ [])
    by_test true e g = let same = item_same (record { func = func; table = t; key = k }) x e in
        subst (λ (y : Item). (y.func ≡ func) × (is_held y.table y.key (hs ++ record { table = t; key = k } ∷ []) ≡ true)) same (refl, held_last hs (record { table = t; key = k }))
    by_test false e g = let k0 = h g in (k0.0, held_front x.table x.key hs (record { table = t; key = k }) k0.1)
holds_after x func hs (Effect.Unlock t k) b h = by_test (is_eq (item_cmp (record { func = func; table = t; key = k }) x)) refl
  where
    by_test : (c : Bool) → is_eq (item_cmp (record { func = func; table = t; key = k }) x) ≡ c → Holds x func (if c then false else b) (without t k hs)
    by_test true e g = cc
    by_test false e g =
        let k0 = h g in
        let apart : t ≡ x.table → k ≡ x.key → ⊥ = λ u v.
        let same : record { func = func; table = t; key = k } ≡ x = λ i. record { func = sym k0.0 i; table = u i; key = v i } in
        let clash = sym e ∙ ap (λ z. is_eq (item_cmp z x)) same ∙ ap is_eq (tied_itself item_total x) in cc in
        (k0.0, held_without t x.table k x.key hs apart k0.1)
holds_after x func hs e b h = h

-- .. and it has no lock where it locked nothing
abbrev pub is_locking : Effect → Bool
is_locking (Effect.Lock t k) = true
is_locking e = false

bare_after : (e : Effect) → is_locking e ≡ false → held_after e [] ≡ []
bare_after (Effect.Lock t k) h = cc
bare_after e h = refl

-- ---- the Begin that is open
begun_by : (n : ℕ) (e : Effect) (s : Txs) → is_some (txs_by n e s).begun ≡ begun_after e (is_some s.begun)
begun_by n Effect.Begin s = refl
begun_by n e s = refl

-- ---- locks inside
-- no lock was answered inside
abbrev Quiet : Deployment → Instance → List Answer → Type 0
Quiet d q given = (n : ℕ) → n < length given → (is_some (txs_after d q (take n given)).begun || is_some q.enclosing) ≡ true → is_locking (effect_after d q (take n given)) ≡ false

quiet_front : (d : Deployment) (q : Instance) (given : List Answer) (a : Answer) → Quiet d q (given ++ a ∷ []) → Quiet d q given
quiet_front d q given a g n less inner =
    let l = length-append given (a ∷ []) in
    let same : take n (given ++ a ∷ []) ≡ take n given = take-append-le n given (a ∷ []) (omega (arith, less)) in
    ap (λ ts. is_locking (effect_after d q ts)) (sym same) ∙ g n (omega (arith, l, less)) (ap (λ ts. is_some (txs_after d q ts).begun || is_some q.enclosing) same ∙ inner)

quiet_last : (d : Deployment) (q : Instance) (given : List Answer) (a : Answer) → Quiet d q (given ++ a ∷ []) → (is_some (txs_after d q given).begun || is_some q.enclosing) ≡ true → is_locking (effect_after d q given) ≡ false
quiet_last d q given a g inner =
    let l = length-append given (a ∷ []) in
    let same : take (length given) (given ++ a ∷ []) ≡ given = take_front given (a ∷ []) in
    ap (λ ts. is_locking (effect_after d q ts)) (sym same) ∙ g (length given) (omega (arith, l)) (ap (λ ts. is_some (txs_after d q ts).begun || is_some q.enclosing) same ∙ inner)

or_left : (a b : Bool) → b ≡ false → (a || b) ≡ true → a ≡ true
or_left true b e h = refl
or_left false b e h = let clash = sym e ∙ h in cc

begun_cases : (e : Effect) (b : Bool) → begun_after e b ≡ true → (e ≡ Effect.Begin) ⊎ (b ≡ true)
begun_cases Effect.Begin b h = inl refl
begun_cases (Effect.End c) b h = cc
begun_cases e b h = inr h

-- ---- an instance after some of its answers
pub record At (d : Deployment) (q : Instance) (given : List Answer) : Type 0 where
  pub going : Going d q.func q.args (is_some q.enclosing) given
  pub begun : is_begun going.phase ≡ is_some (txs_after d q given).begun
  pub bare : is_leaving going.phase ≡ false → (is_begun going.phase || is_some q.enclosing) ≡ true → Quiet d q given → going.held ≡ []
  pub locks : is_leaving going.phase ≡ false → (x : Item) → Holds x q.func (held_along d x q.func q.args (is_some q.enclosing) [] given false) going.held

module _ (d : Deployment) (q : Instance) where
  abbrev i : Bool
  i = is_some q.enclosing

  first : At d q []
  first = record { going = at_first d q.func q.args i; begun = refl; bare = λ p inner g. refl; locks = λ p x g. cc }

  module _ (given : List Answer) (a : Answer) (h : At d q given) where
    abbrev e : Effect
    e = effect_after d q given

    abbrev s : Txs
    s = txs_after d q given

    abbrev then_on : Next i h.going.phase h.going.held e a (λ ts. asked i (body d (func_at d q.func) q.args i ((given ++ a ∷ []) ++ ts)))
    then_on = going_next d q.func q.args i given a h.going

    -- inside no lock is held, if none was answered there
    bare_on : is_leaving then_on.phase ≡ false → (is_begun then_on.phase || i) ≡ true → Quiet d q (given ++ a ∷ []) → then_on.held ≡ []
    bare_on p inner g = by_inherited i refl
      where
        was : is_leaving h.going.phase ≡ false
        was = let k = then_on.locks p in k.0

        old : (is_begun h.going.phase || i) ≡ true → then_on.held ≡ []
        old at_it =
            let k = then_on.locks p in
            k.1 ∙ ap (held_after e) (h.bare was at_it (quiet_front d q given a g)) ∙ bare_after e (quiet_last d q given a g (ap (λ b. b || i) (sym h.begun) ∙ at_it))

        by_inherited : (b : Bool) → i ≡ b → then_on.held ≡ []
        by_inherited true is = old (or_right (is_begun h.going.phase) i is)
        by_inherited false is = elim (begun_cases e (is_begun h.going.phase) (sym then_on.begun ∙ or_left (is_begun then_on.phase) i is inner)) [
          | inl begin ↦ let k = then_on.locks p in let z = (going_now d q.func q.args i given h.going).at_begin begin in k.1 ∙ ap (held_after e) z.1 ∙ bare_after e (ap is_locking begin)
          | inr open_now ↦ old (ap (λ b. b || i) open_now)
        ]

    more : At d q (given ++ a ∷ [])
    more = record {
      going = going_on d q.func q.args i given a h.going then_on;
      begun = then_on.begun ∙ ap (begun_after e) h.begun ∙ sym (begun_by (length given) e s) ∙ ap (λ (z : Txs). is_some z.begun) (sym (txs_pushed d q given a));
      bare = bare_on;
      locks = λ p x g.
          let k = then_on.locks p in
          subst (λ hs. (x.func ≡ q.func) × (is_held x.table x.key hs ≡ true)) (sym k.1)
          (holds_after x q.func h.going.held e (held_along d x q.func q.args i [] given false) (h.locks k.0 x) (sym (held_pushed d x q.func q.args i [] given a false) ∙ g));
    }

  rest_on : (given rest : List Answer) → At d q given → At d q (given ++ rest)
  rest_on given [] h = subst (At d q) (sym (append-nil given)) h
  rest_on given (a ∷ rest) h = subst (At d q) (append_assoc given (a ∷ []) rest) (rest_on (given ++ a ∷ []) rest (more given a h))

  pub at : (given : List Answer) → At d q given
  at given = rest_on [] given first

  abbrev here : (given : List Answer) → Now i (at given).going.phase (at given).going.held (is_inside d q.func q.args i given) (effect_after d q given)
  here given = going_now d q.func q.args i given (at given).going

  -- an effect is wanted inside exactly where a Begin is open, or the instance was called in a transaction
  pub inside_is : (given : List Answer) → is_inside d q.func q.args i given ≡ (is_some (txs_after d q given).begun || i)
  inside_is given = (here given).enclosing ∙ ap (λ b. b || i) (at given).begun

  -- .. so its step is in a transaction exactly where it is wanted inside, but for a Begin
  pub tx_is : (id : IntentId) (given : List Answer) → (effect_after d q given ≡ Effect.Begin → ⊥) → is_some (tx_after d id q given) ≡ is_inside d q.func q.args i given
  tx_is id given other = by_within q.enclosing (tx_by id q.func (length given) (effect_after d q given) (txs_after d q given).begun) ∙ ap (λ b. b || i) (by_begun (length given) (txs_after d q given).begun (effect_after d q given) other) ∙ sym (inside_is given)
    where
      by_within : (w o : Option TxId) → is_some (or_own w o) ≡ (is_some o || is_some w)
      by_within None o = sym (or_no (is_some o))
      by_within (Some t) o = sym (or_right (is_some o) true refl)

      by_begun : (n : ℕ) (o : Option ℕ) (e : Effect) → (e ≡ Effect.Begin → ⊥) → is_some (tx_by id q.func n e o) ≡ is_some o
      by_begun n o Effect.Begin no_begin = absurd (no_begin refl)
      by_begun n o e no_begin = elim o as (λ b. is_some (tx_by id q.func n e b) ≡ is_some b) [ None ↦ refl | Some b ↦ refl ]

  -- a Begin is wanted where none is open, outside, and with no lock held ..
  pub begin_is : (given : List Answer) → effect_after d q given ≡ Effect.Begin → (q.enclosing ≡ None) × (is_some (txs_after d q given).begun ≡ false)
  begin_is given is = let k = (here given).at_begin is in (none_by q.enclosing (λ t e. let clash = sym (ap is_some e) ∙ k.0 in cc), sym (at given).begun ∙ k.2)

  pub begin_free : (given : List Answer) → effect_after d q given ≡ Effect.Begin → (x : Item) → holds d x (Some (record q { answers = given })) ≡ false
  begin_free given is x = false_from_ne_true (holds d x (Some (record q { answers = given }))) (λ e. let k = (here given).at_begin is in let z = (at given).locks k.3 x e in let none = sym (ap (is_held x.table x.key) k.1) ∙ z.1 in cc)

  -- .. an End where one is open
  pub end_is : (given : List Answer) (c : Bool) → effect_after d q given ≡ Effect.End c → is_some (txs_after d q given).begun ≡ true
  end_is given c is = sym (at given).begun ∙ (here given).at_end c is

  -- who was called in a transaction begins and ends none
  pub none_begun_inside : (given : List Answer) → i ≡ true → is_some (txs_after d q given).begun ≡ false
  none_begun_inside given is = by_cases (is_begun (at given).going.phase) (λ e. let k = sym is ∙ (at given).going.outside e in cc) (λ e. sym (at given).begun ∙ e)

  -- ---- after an abort
  -- inside a transaction of one's own its End is wanted, without commit
  pub abort_ends : (given : List Answer) (c : Cause) → is_some (txs_after d q given).begun ≡ true → ((b : Bool) → effect_after d q given ≡ Effect.End b → ⊥) → effect_after d q (given ++ Answer.Aborted c ∷ []) ≡ Effect.End false
  abort_ends given c begun other = dies_own d q.func q.args i given c (at given).going ((at given).begun ∙ begun) other

-- an effect that is answered by an abort is that of a statement, and moves no lock
abort_answer : (p : Place) (t : Option TxId) (e : Effect) (c : Cause) → IsAnswer p t e (Answer.Aborted c) → (stands true e ≡ true) × (is_unlock e ≡ false) × ((hs : List HeldLock) → held_after e hs ≡ hs)
abort_answer p t (Effect.Read b k) c h = (refl, refl, λ hs. refl)
abort_answer p t (Effect.Write b k v) c h = (refl, refl, λ hs. refl)
abort_answer p t (Effect.CondWrite b k r o v) c h = (refl, refl, λ hs. refl)
abort_answer p t (Effect.Call f v) c h = (refl, refl, λ hs. refl)
abort_answer p t Effect.Abort c h = (refl, refl, λ hs. refl)
abort_answer p t (Effect.Async f v) c h = (refl, refl, λ hs. refl)
abort_answer p None e c h = absurd h
abort_answer p (Some t) e c h = absurd h

get_there : (xs : List Answer) (n : ℕ) → n < length xs → slice_get xs n ≡ None → ⊥
get_there [] n less h = omega (arith, less)
get_there (x ∷ xs) zero less h = cc
get_there (x ∷ xs) (suc n) less h = get_there xs n (omega (arith, less)) h

is_begin : (e : Effect) → (e ≡ Effect.Begin) ⊎ (e ≡ Effect.Begin → ⊥)
is_begin Effect.Begin = inl refl
is_begin e = inr (λ h. cc)

begun_stays : (p : Phase) → is_begun p ≡ true → is_leaving p ≡ false
begun_stays (leaving o) h = cc
begun_stays p h = refl

-- what locks nothing holds nothing
none_if : (x : Item) (func : ℕ) (e : Effect) → is_locking e ≡ false → held_if x func (op_of e) false ≡ false
none_if x func (Effect.Write t k v) h = if_same (is_eq (item_cmp (record { func = func; table = t; key = k }) x)) false
none_if x func (Effect.CondWrite t k r o v) h = if_same (is_eq (item_cmp (record { func = func; table = t; key = k }) x)) false
none_if x func (Effect.Lock t k) h = cc
none_if x func (Effect.Unlock t k) h = if_same (is_eq (item_cmp (record { func = func; table = t; key = k }) x)) false
none_if x func e h = refl

none_along : (d : Deployment) (q : Instance) (x : Item) (given rest : List Answer) → ((n : ℕ) → n < length rest → is_locking (effect_after d q (given ++ take n rest)) ≡ false) → held_along d x q.func q.args (is_some q.enclosing) given rest false ≡ false
none_along d q x given [] g = refl
none_along d q x given (a ∷ rest) g =
    ap (held_along d x q.func q.args (is_some q.enclosing) (given ++ a ∷ []) rest) (none_if x q.func (effect_after d q given) (ap (λ ts. is_locking (effect_after d q ts)) (sym (append-nil given)) ∙ g 0 (omega arith)))
    ∙ none_along d q x (given ++ a ∷ []) rest (λ n less. ap (λ ts. is_locking (effect_after d q ts)) (append_assoc given (a ∷ []) (take n rest)) ∙ g (suc n) (omega (arith, less)))

-- no lock is answered inside
no_lock : (p : Place) (t : TxId) (e : Effect) (a : Answer) → IsAnswer p (Some t) e a → is_locking e ≡ false
no_lock p t (Effect.Lock b k) Answer.Done h = absurd h
no_lock p t (Effect.Lock b k) a h = absurd h
no_lock p t e a h = refl

module _ (d : Deployment) (id : IntentId) (q : Instance) (h : WellFormedHistory d id q) where
  quiet : Quiet d q q.answers
  quiet n less inner = false_from_ne_true (is_locking (effect_after d q (take n q.answers))) (λ e.
      let there : is_some (tx_at d id q n) ≡ true = tx_is d q id (take n q.answers) (λ begin. let clash = sym (ap is_locking begin) ∙ e in cc) ∙ inside_is d q (take n q.answers) ∙ inner in
      let clash = sym e ∙ by_tx (tx_at d id q n) (slice_get q.answers n) refl refl there in cc)
    where
      by_tx : (t : Option TxId) (o : Option Answer) → tx_at d id q n ≡ t → slice_get q.answers n ≡ o → is_some t ≡ true → is_locking (effect_after d q (take n q.answers)) ≡ false
      by_tx None o same there e = cc
      by_tx (Some t) None same there e = absurd (get_there q.answers n less there)
      by_tx (Some t) (Some a) same there e = no_lock (place_of id n) t (effect_after d q (take n q.answers)) a (subst (λ o. IsAnswer (place_of id n) o (effect_after d q (take n q.answers)) a) same (h.past n a there))

  -- who is inside holds no lock
  holds_none : (is_some (txs_after d q q.answers).begun || is_some q.enclosing) ≡ true → (x : Item) → holds d x (Some q) ≡ false
  holds_none inner x = by_cases (is_some q.enclosing) (λ e. none_along d q x [] q.answers (λ n less. quiet n less (or_right (is_some (txs_after d q (take n q.answers)).begun) (is_some q.enclosing) e)))
      (λ e. own_none (holds d x (Some q)) refl e)
    where
      own_none : (b : Bool) → holds d x (Some q) ≡ b → is_some q.enclosing ≡ false → b ≡ false
      own_none false e out = refl
      own_none true e out =
          let g = at d q q.answers in
          let open_now : is_begun g.going.phase ≡ true = g.begun ∙ or_left (is_some (txs_after d q q.answers).begun) (is_some q.enclosing) out inner in
          let stays : is_leaving g.going.phase ≡ false = begun_stays g.going.phase open_now in
          let k = g.locks stays x e in
          let clash = sym (ap (is_held x.table x.key) (g.bare stays (ap (λ b. b || is_some q.enclosing) open_now) quiet)) ∙ k.1 in cc

  pub inside_holds_none : is_some (tx_now d id q) ≡ true → (x : Item) → holds d x (Some q) ≡ false
  inside_holds_none inner x = by_begin (is_begin (effect_of d q))
    where
      by_begin : (effect_of d q ≡ Effect.Begin) ⊎ (effect_of d q ≡ Effect.Begin → ⊥) → holds d x (Some q) ≡ false
      by_begin (inl is) = begin_free d q q.answers is x
      by_begin (inr other) = holds_none (sym (tx_is d q id q.answers other ∙ inside_is d q q.answers) ∙ inner) x

module _ (d : Deployment) (id : IntentId) (q : Instance) (h : WellFormedHistory d id q) (c : Cause) (fits : IsAnswer (place_of id (length q.answers)) (tx_now d id q) (effect_of d q) (Answer.Aborted c)) where
  -- who was called in a transaction holds none, and returns it
  pub abort_returns : (t : TxId) → q.enclosing ≡ Some t → effect_of d (answered q (Answer.Aborted c)) ≡ Effect.Return (Outcome.Aborted c)
  abort_returns t inner =
      let k = abort_answer (place_of id (length q.answers)) (tx_now d id q) (effect_of d q) c fits in
      let g = at d q q.answers in
      let none = none_begun_inside d q q.answers (ap is_some inner) in
      elim (dies_else d q.func q.args (is_some q.enclosing) q.answers c g.going (g.begun ∙ none) k.0 k.1) [
        | inl e ↦ e
        | inr e ↦ absurd (e.1 (k.2 g.going.held ∙ g.bare (not_leaving g k.0 k.1) (or_right (is_begun g.going.phase) (is_some q.enclosing) (ap is_some inner)) (quiet d id q h)))
      ]
    where
      not_leaving : (g : At d q q.answers) → stands true (effect_of d q) ≡ true → is_unlock (effect_of d q) ≡ false → is_leaving g.going.phase ≡ false
      not_leaving g fits other = by_phase g.going.phase refl
        where
          by_phase : (p : Phase) → g.going.phase ≡ p → is_leaving p ≡ false
          by_phase (leaving o) e = elim ((going_now d q.func q.args (is_some q.enclosing) q.answers g.going).ending o e) [
            | inl z ↦ let clash = sym (ap (stands true) z) ∙ fits in cc
            | inr z ↦ let clash = sym z.0 ∙ other in cc
          ]
          by_phase block e = refl
          by_phase own e = refl
          by_phase aborted e = refl
