-- A row of a read decides no transaction that owns an item, so what is listed stays.
use Rattle.beldi_histories.proofs.Names.{Answer, Bool, Content, Deployment, Effect, Got, Instance, IntentId, Item, Kind, Histories, List, None, Option, Place, Row, RowKey, Rows, Some, Tx, TxId, TxsMatch, [], along, and_parts, ap, append-nil, append_assoc, arith, cond, content_of, decision_key, effect_after, effect_of, false, false_from_ne_true, fits_at, got_before, got_by, head_key, if◌then◌else◌, inl, inr, is_aborted, is_begin, is_committed, is_eq, is_item, is_on, is_tx, key_cmp, key_same, length, length-append, listed, log_key, not, or_own, place_of, refl, row_got, same_some, set_row, shadow_key, sym, tail, touched, true, tx_after, tx_by, tx_now, txs_after, value_in, ℕ, ◌&&◌, ◌++◌, ◌<◌, ◌||◌, ◌∙◌, ◌∷◌, ◌≡◌, ◌⊎◌}
use Rattle.beldi_histories.proofs.{LockRows.is_its, LockRows.tx_same, Acts.kind_off, Acts.is_data, Acts.is_shadow, Acts.same_data, Acts.same_shadow, Acts.aside_apart, Acts.content_apart, OwnTx.Own, OwnTx.own_by, HistoryLists.lists_owned, Cases.by_cases, Answers.true_false}
use Rattle.beldi_histories.proofs.Names.map

-- ---- a step that a fold has gathered
pub record Gathered (g : List Answer → Answer → Bool) (all : List Answer) : Type 0 where
  pub before : List Answer
  pub answer : Answer
  pub later : List Answer
  pub parts : before ++ answer ∷ later ≡ all
  pub holds : g before answer ≡ true

pub gathered : (g : List Answer → Answer → Bool) (given rest : List Answer) (b : Bool) → along (λ ts c r. r || g ts c) given rest b ≡ true → (b ≡ true) ⊎ Gathered g (given ++ rest)
gathered g given [] b h = inl h
gathered g given (c ∷ rest) b h = elim (gathered g (given ++ c ∷ []) rest (b || g given c) h) [
  | inl e ↦ by_first b e
  | inr e ↦ inr (record { before = e.before; answer = e.answer; later = e.later; parts = e.parts ∙ append_assoc given (c ∷ []) rest; holds = e.holds })
]
  where
    by_first : (b : Bool) → (b || g given c) ≡ true → (b ≡ true) ⊎ Gathered g (given ++ c ∷ rest)
    by_first true e = inl refl
    by_first false e = inr (record { before = given; answer = c; later = rest; parts = refl; holds = e })

-- ---- what a transaction got, or asks for, it asked for after some answers
pub record AskedFor (d : Deployment) (t : TxId) (x : Item) (j : IntentId) (z : Instance) : Type 0 where
  pub given : List Answer
  pub later : List Answer
  pub all : given ++ later ≡ z.answers
  pub on : is_on t x z.func (tx_after d j z given) (effect_after d z given) ≡ true

pub asked_for : (d : Deployment) (t : TxId) (x : Item) (j : IntentId) (z : Instance) (b : Bool) → got_by d t x j b (Some z) ≡ true → AskedFor d t x j z
asked_for d t x j z b h = by_cases (got_before d t x j z)
    (λ e. elim (gathered (λ ts c. is_on t x z.func (tx_after d j z ts) (effect_after d z ts) && not (is_aborted c)) [] z.answers false e) [
      | inl k ↦ absurd (true_false (sym k))
      | inr k ↦ record { given = k.before; later = k.answer ∷ k.later; all = k.parts; on = (and_parts (is_on t x z.func (tx_after d j z k.before) (effect_after d z k.before)) (not (is_aborted k.answer)) k.holds).0 }
    ])
    (λ e. record { given = z.answers; later = []; all = append-nil z.answers; on = (and_parts b (is_on t x z.func (tx_now d j z) (effect_of d z)) (sym (ap (λ u. u || (b && is_on t x z.func (tx_now d j z) (effect_of d z))) e) ∙ h)).1 })

pub no_begin : (x : Item) (func : ℕ) (e : Effect) → is_item x func (touched e) ≡ true → is_begin e ≡ false
no_begin x func Effect.Begin h = cc
no_begin x func e h = refl

-- who was called in a transaction gets for that one
pub member_tx : (d : Deployment) (s : TxId) (x : Item) (j : IntentId) (z : Instance) (u : TxId) → z.enclosing ≡ Some u → (b : Bool) → got_by d s x j b (Some z) ≡ true → s ≡ u
member_tx d s x j z u within b got =
    let a = asked_for d s x j z b got in
    tx_same s u (and_parts (is_tx s (Some u)) (is_item x z.func (touched (effect_after d z a.given)))
    (sym (ap (λ w. is_tx s (or_own w (tx_by j z.func (length a.given) (effect_after d z a.given) (txs_after d z a.given).begun)) && is_item x z.func (touched (effect_after d z a.given))) within) ∙ a.on)).0

-- .. and who was called in none gets after its Begin
pub record Since (j : IntentId) (z : Instance) (t : TxId) : Type 0 where
  pub own : t.intent ≡ j
  pub func_is : t.func ≡ z.func
  pub before : t.begin < length z.answers

module _ (d : Deployment) (t : TxId) (x : Item) (j : IntentId) (z : Instance) (none : z.enclosing ≡ None) where
  -- an operation of it, after these answers, is in its own
  pub asked_own : (ts : List Answer) → is_on t x z.func (tx_after d j z ts) (effect_after d z ts) ≡ true → Own j z.func (txs_after d z ts).begun t
  asked_own ts h =
      let e = effect_after d z ts in
      let o = (txs_after d z ts).begun in
      let u = tx_by j z.func (length ts) e o in
      let p = and_parts (is_tx t u) (is_item x z.func (touched e)) (sym (ap (λ w. is_tx t (or_own w u) && is_item x z.func (touched e)) none) ∙ h) in
      own_by j z.func (length ts) e o t (no_begin x z.func e p.1) (is_its t u p.0)

  pub got_since : (b : Bool) → got_by d t x j b (Some z) ≡ true → Since j z t
  got_since b h =
      let a = asked_for d t x j z b h in
      let own = asked_own a.given a.on in
      let l = length-append a.given a.later in
      let n = ap length a.all in
      let q = (fits_at d z a.given).before t.begin own.begun in record { own = own.intent; func_is = own.func_is; before = omega (arith, l, n, q) }

-- ---- PutRead of a read at the front
-- the owner is known, and went past the Begin
pub record IsBegun (histories : Histories) (t : TxId) : Type 0 where
  pub owner : Instance
  pub made : map.get histories t.intent ≡ Some owner
  pub func_is : t.func ≡ owner.func
  pub before : t.begin < length owner.answers

module _ (d : Deployment) (m : Rows) (histories : Histories) (lock_ahead : IntentId → Bool) (h : (x : Item) → TxsMatch d histories lock_ahead x (content_of m x).owner) (begun : (t : TxId) (x : Item) → Got d histories lock_ahead t x → IsBegun histories t)
    (id : IntentId) (q : Instance) (is : map.get histories id ≡ Some q) (v : Option Row) where
  abbrev key : RowKey
  key = log_key q.func (place_of id (length q.answers))

  abbrev place_at : Kind → Place
  place_at (Kind.ReadLog a) = a
  place_at k = place_of id 0

  apart : (x : Item) (t : TxId) → (content_of m x).owner ≡ Some (Tx t) → is_eq (key_cmp (decision_key t) key) ≡ false
  apart x t owned = false_from_ne_true (is_eq (key_cmp (decision_key t) key)) (λ e.
      let place = ap (λ (k : RowKey). place_at k.kind) (key_same (decision_key t) key e) in
      let k = begun t x ((h x).owned_is_got t owned) in
      let same : k.owner ≡ q = same_some (sym k.made ∙ ap (λ (y : Place). map.get histories y.intent) place ∙ is) in
      let len : length k.owner.answers ≡ length q.answers = ap (λ (y : Instance). length y.answers) same in
      let step : t.begin ≡ length q.answers = ap (λ (y : Place). y.step) place in
      let b = k.before in omega (arith, b, step, len))

  pub begun_lists : (x : Item) → listed (set_row m key v) x ≡ listed m x
  begun_lists x = let same = content_apart m key v x (kind_off is_data same_data (head_key x) key refl refl) in
      lists_owned m (set_row m key v) x (ap (λ (c : Content). c.owner) same) (ap (λ (c : Content). c.value) same) (λ t w e i.
      if is_committed ((row_got m key (decision_key t) v ∙ ap (λ b. cond b v (map.get m (decision_key t))) (apart x t e)) i) then value_in (tail (aside_apart m key v t x (kind_off is_shadow same_shadow (shadow_key t x) key refl refl) i)) w else w)
