-- An instance goes on outside in both: the histories still extend the plain state, and shadows show what they did. It is in no open
-- transaction of another, so those go on as they did.
use Rattle.beldi_histories.proofs.Names.{AllGot, AllShow, Answer, Extends, Bool, CalledBy, Deployment, Effect, FinMap, IsConsistent, Got, Instance, IntentId, IsBelow, IsIn, IsKept, Item, Items, Histories, Matches, None, OpenTx, Option, Outcome, PlainState, Row, Rows, SameShadows, WellFormedHistories, ShadowShows, Shadows, Shows, Some, TouchedIn, Tx, TxId, Txs, Value, [], aborted, all_in, local_answer, answered, answered_if, answers_so, ap, arith, local_steps, begins, child_of, child_same, cond, content_of, dies_at, effect_of, elsewhere, end_of, ended, ended_by, equal, false, false_from_ne_true, fell, get-insert, gone_on, got_before, got_by, here, id_cmp, id_total, if◌then◌else◌, in_line, inl, inr, is_aborted, is_at, is_begin, is_eq, is_none, is_on, is_some, is_writing, item_cmp, item_same, last_hop, length, length-append, line_opened, advanced, moves_alike, no_callees, no_later, none_after, none_by, not, not_longer, local_step, local_step_if, opened, or_null, or_old, plain_set, refl, root_of, same_some, well_formed_with, set_if, shadow_chain, shadow_row, subst, sym, tail, tied_itself, true, tx_after, tx_begun, tx_end, txs_after, txs_by, txs_pushed, value_at, with_instance, writing_at, ℕ, ◌&&◌, ◌++◌, ◌<◌, ◌||◌, ◌∙◌, ◌∷◌, ◌≡◌, ◌≤◌}
use Rattle.beldi_histories.proofs.{Answers.true_false, Begins.aborts_inside, Frame.local_steps_same, Frame.moved_one, FrameAt.recorded_set, Callers.called_below, CallStacks.parent_in, NoTx.IsOutside, NoTx.begins_parts, NoTx.no_begin, Owns.going, Owns.got_owned, Owns.owner_recorded, Owns.touched_owned, Phases.end_is, Phases.inside_is, ReadLists.got_since, ReadLists.member_tx, WellFormed.no_callees as recorded_childless, Cases.by_option, Cases.by_cases}
use Rattle.beldi_histories.proofs.Names.inside
use Rattle.beldi_histories.proofs.Names.map
use Rattle.beldi_histories.proofs.Names.plain

abbrev pub value_of : Items → Item → Value
value_of m x = or_null (map.get m x)

-- ---- outside of transactions
-- an End and an Abort stand in a transaction
pub outside_no_end : (d : Deployment) (q : Instance) (c : Bool) → IsOutside d q q.answers → effect_of d q ≡ Effect.End c → ⊥
outside_no_end d q c out is = let clash = sym (ap is_some out.1) ∙ end_is d q q.answers c is in cc

outside_no_abort : (d : Deployment) (q : Instance) → IsOutside d q q.answers → effect_of d q ≡ Effect.Abort → ⊥
outside_no_abort d q out is = let clash = sym (inside_is d q q.answers ∙ (λ i. is_some (out.1 i) || is_some (out.0 i))) ∙ aborts_inside d q.func q.args (is_some q.enclosing) q.answers is in cc

-- what takes no turn
pub local_steps_stays : (d : Deployment) (id : IntentId) (q : Instance) → IsOutside d q q.answers → begins d q ≡ false → local_steps d id q ≡ q
local_steps_stays d id q out apart = ap (local_step d id) same ∙ same
  where
    by_effect : q.outcome ≡ None → (e : Effect) → effect_of d q ≡ e → answered_if q (local_answer id (length q.answers) e) ≡ q
    by_effect none Effect.Begin is = let clash = sym (λ i. is_none (none i) && is_begin (is i)) ∙ apart in cc
    by_effect none Effect.Abort is = absurd (outside_no_abort d q out is)
    by_effect none e is = refl

    by_outcome : (o : Option Outcome) → q.outcome ≡ o → local_step_if d id q o ≡ q
    by_outcome None none = by_effect none (effect_of d q) refl
    by_outcome (Some o) some = refl

    same : local_step d id q ≡ q
    same = by_outcome q.outcome refl

-- ---- who is below an instance at a step that it has not come to is not there
pub below_apart : (t : TxId) (i : IntentId) → IsBelow t i → t.intent ≡ i → ⊥
below_apart t i b same = not_longer t.intent i (let n = length-append t.intent.hops (b.step ∷ b.hops) in let k = ap (λ (z : IntentId). length z.hops) b.is in omega (arith, n, k)) (sym same)

pub plain_none_after : (d : Deployment) (p : PlainState) → plain.WellFormed d p → (t : TxId) → ((q : Instance) → map.get p.made t.intent ≡ Some q → length q.answers ≤ t.begin) → (i : IntentId) → IsBelow t i → map.get p.made i ≡ None
plain_none_after d p legal = let good = well_formed_with d p legal in none_after p.made (λ i is n. no_callees d p.made good i is n) (λ i q n is lt. no_later d p.made good i q n is lt)

module _ (d : Deployment) (histories : Histories) (well_formed : WellFormedHistories d histories) where
  recorded_later : (i : IntentId) (q : Instance) (n : ℕ) → map.get histories i ≡ Some q → length q.answers < n → map.get histories (child_of i n) ≡ None
  recorded_later i q n is lt = none_by (map.get histories (child_of i n)) (λ j e. let c = subst (λ o. CalledBy d i o n j) is (well_formed.called i n j e) in let l = c.here in omega (arith, lt, l))

  pub recorded_none_after : (t : TxId) → ((q : Instance) → map.get histories t.intent ≡ Some q → length q.answers ≤ t.begin) → (i : IntentId) → IsBelow t i → map.get histories i ≡ None
  recorded_none_after = none_after histories (λ i is n. recorded_childless d histories well_formed i n is) recorded_later

  -- ---- a transaction that is yet to begin got nothing
  pub nothing_got : (lock_ahead : IntentId → Bool) (s : TxId) (x : Item) → ((q : Instance) → map.get histories s.intent ≡ Some q → length q.answers ≤ s.begin) → Got d histories lock_ahead s x → ⊥
  nothing_got lock_ahead s x few g = by_option (map.get histories g.member) (λ none. true_false (sym (sym (ap (got_by d s x g.member (lock_ahead g.member)) none) ∙ g.got))) (λ z is.
      let got : got_by d s x g.member (lock_ahead g.member) (Some z) ≡ true = sym (ap (got_by d s x g.member (lock_ahead g.member)) is) ∙ g.got in by_option z.enclosing
      (λ e.
      let k = got_since d s x g.member z e (lock_ahead g.member) got in
      let n = few z (ap (map.get histories) k.own ∙ is) in
      let b = k.before in omega (arith, n, b))
      (λ u e.
      let same : s ≡ u = member_tx d s x g.member z u e (lock_ahead g.member) got in
      let clash = sym is ∙ recorded_none_after s few g.member (called_below d histories well_formed s g.member z is (e ∙ ap (λ y. Some y) (sym same))) in cc))

-- ---- an instance that is set is in no open transaction of another
abbrev pub IsOutsideAll : Deployment → PlainState → IntentId → Type 0
IsOutsideAll d p id = (j : IntentId) (z : Instance) → map.get p.made j ≡ Some z → begins d z ≡ true → IsBelow (tx_begun j z) id → ⊥

-- as one that was made is in none, nor a root
pub made_apart : (d : Deployment) (p : PlainState) → plain.WellFormed d p → (id : IntentId) (q : Instance) → map.get p.made id ≡ Some q → IsOutsideAll d p id
made_apart d p legal id q made j z there b below = let clash = sym made ∙ plain_none_after d p legal (tx_begun j z) (λ y is. let n = ap (λ (w : Instance). length w.answers) (same_some (sym is ∙ there)) in omega (arith, n)) id below in cc

pub root_apart : (d : Deployment) (p : PlainState) (t : ℕ) → IsOutsideAll d p (root_of t)
root_apart d p t j z there b below = let n = length-append j.hops (below.step ∷ below.hops) in let k = ap (λ (i : IntentId). length i.hops) below.is in omega (arith, n, k)

-- .. nor what is called by one that is made, and stands at no Begin
pub callee_apart : (d : Deployment) (p : PlainState) → plain.WellFormed d p → (id : IntentId) (q : Instance) (n : ℕ) → map.get p.made id ≡ Some q → begins d q ≡ false → IsOutsideAll d p (child_of id n)
callee_apart d p legal id q n made apart j z there b below = elim (parent_in (tx_begun j z) id n (inr below)) [
  | inl own ↦ below_apart (tx_begun j z) (child_of id n) below (sym own)
  | inr (inl same) ↦ let clash = sym apart ∙ ap (begins d) (same_some (sym made ∙ ap (map.get p.made) same ∙ there)) ∙ b in cc
  | inr (inr up) ↦ made_apart d p legal id q made j z there b up
]

-- it may be set in both
pub record MaySet (d : Deployment) (m : Rows) (p : PlainState) (histories : Histories) (id : IntentId) (s : Instance) : Type 0 where
  pub out : IsOutside d s s.answers
  -- a transaction that it begins has no shadow yet, and nobody below
  pub fresh : begins d s ≡ true → (x : Item) → shadow_row m (tx_begun id s) x ≡ None
  pub below : begins d s ≡ true → (i : IntentId) → IsBelow (tx_begun id s) i → map.get histories i ≡ map.get p.made i
  pub apart : IsOutsideAll d p id
  -- and it does not commit
  pub ends : (b n : ℕ) → end_of d s b ≡ Some (n, true) → ended_by d b (map.get histories id) ≡ Some (n, true)

-- ---- a transaction that it begins
module _ (d : Deployment) (p : PlainState) (histories : Histories) (id : IntentId) (s : Instance) (b : begins d s ≡ true) (there : map.get histories id ≡ Some (local_steps d id s)) (below : (i : IntentId) → IsBelow (tx_begun id s) i → map.get histories i ≡ map.get p.made i) where
  abbrev next : Instance
  next = answered s Answer.Done

  first : local_steps d id s ≡ local_step d id next
  first = let e = begins_parts d s b in ap (local_step d id) (ap (local_step_if d id s) e.0 ∙ ap (λ e. answered_if s (local_answer id (length s.answers) e)) e.1)

  then_is : local_step d id next ≡ answered_if next (local_answer id (length next.answers) (effect_of d next))
  then_is = ap (local_step_if d id next) (begins_parts d s b).0

  -- where its instance is so, and all others as the plain state has them
  whole_by : (s : TxId) → s.intent ≡ id → (g : FinMap id_cmp Instance) (z : Instance) → map.get histories id ≡ Some z → map.get g id ≡ Some z → ((i : IntentId) → IsBelow s i → map.get histories i ≡ map.get g i) → (i : IntentId) → IsIn s i → map.get histories i ≡ map.get g i
  whole_by s own g z is at others i (inl same) = ap (map.get histories) (same ∙ own) ∙ is ∙ sym at ∙ ap (map.get g) (sym (same ∙ own))
  whole_by s own g z is at others i (inr h) = others i h

  past : (f : FinMap id_cmp Instance) (z : Instance) (i : IntentId) → IsBelow (tx_begun id s) i → map.get (map.insert f id z) i ≡ map.get f i
  past f z i h = elsewhere f id i z (below_apart (tx_begun id s) i h)

  pub local_steps_opens : OpenTx d p histories id s
  local_steps_opens = by_effect (effect_of d next) refl
    where
      still : local_answer id (length next.answers) (effect_of d next) ≡ None → OpenTx d p histories id s
      still e = record {
        moves = [];
        going = opened p id s;
        leads = refl;
        whole = whole_by (tx_begun id s) refl (map.insert p.made id next) next (there ∙ ap (λ z. Some z) (first ∙ then_is ∙ ap (answered_if next) e)) (here p.made id next) (λ i h. below i h ∙ sym (past p.made next i h));
      }

      by_effect : (e : Effect) → effect_of d next ≡ e → OpenTx d p histories id s
      by_effect Effect.Begin is = absurd (no_begin d next (length s.answers) (ap (λ (z : Txs). z.begun) (txs_pushed d s s.answers Answer.Done) ∙ ap (λ e. (txs_by (length s.answers) e (txs_after d s s.answers)).begun) (begins_parts d s b).1) is)
      by_effect Effect.Abort is =
          let a = aborted id next None in
          let last = answered next a in
          record {
            moves = fell None ∷ [];
            going = gone_on (opened p id s) p.items next a;
            leads = (
              gone_on (opened p id s) p.items next a,
              answers_so d (tx_begun id s) (fell None) (opened p id s) next (here p.made id next) a (ap (λ e. if dies_at None e then Some a else None) is),
              refl,
            );
            whole = whole_by (tx_begun id s) refl (map.insert (map.insert p.made id next) id last) last
                (there ∙ ap (λ z. Some z) (first ∙ then_is ∙ ap (λ e. answered_if next (local_answer id (length next.answers) e)) is))
                (here (map.insert p.made id next) id last) (λ i h. below i h ∙ sym (past p.made next i h) ∙ sym (past (map.insert p.made id next) last i h));
          }
      by_effect e is = still (ap (local_answer id (length next.answers)) is)

-- ---- the transaction of another goes on
shows_same : (w : Bool) (o : Option Row) (v u : Value) → (is_some o ≡ true → u ≡ v) → ShadowShows w o v → ShadowShows w o u
shows_same w None v u same h = tt
shows_same w (Some r) v u same (inl e) = inl e
shows_same w (Some r) v u same (inr e) = inr (e ∙ sym (same refl))

module _ (d : Deployment) (m n : Rows) (p r : PlainState) (histories next : Histories) (lock_ahead : IntentId → Bool) (j : IntentId) (z : Instance) (b : begins d z ≡ true) (g : Shows d m p histories lock_ahead j z)
    (members : (i : IntentId) → IsIn (tx_begun j z) i → map.get r.made i ≡ map.get p.made i) (knowns : (i : IntentId) → IsIn (tx_begun j z) i → map.get next i ≡ map.get histories i)
    (rows : (x : Item) → shadow_chain n (tx_begun j z) x ≡ shadow_chain m (tx_begun j z) x)
    (touches : (x : Item) → TouchedIn d (tx_begun j z) (opened p j z) g.tx.moves x → value_at r x ≡ value_at p x) (shadowed : (x : Item) → is_some (shadow_row m (tx_begun j z) x) ≡ true → value_at r x ≡ value_at p x) where
  abbrev u : TxId
  u = tx_begun j z

  set_alike : (i : IntentId) → map.get r.made i ≡ map.get p.made i → map.get (opened r j z).state.made i ≡ map.get (opened p j z).state.made i
  set_alike i same = get-insert id_total r.made j (answered z Answer.Done) i ∙ ap (cond (is_eq (id_cmp i j)) (Some (answered z Answer.Done))) same ∙ sym (get-insert id_total p.made j (answered z Answer.Done) i)

  there_too : inside.LeadsAlike d (tx_begun j z) (opened p j z) (opened r j z) g.tx.moves g.tx.going
  there_too = moves_alike d u (opened p j z) (opened r j z) g.tx.moves g.tx.going (line_opened d p j z (begins_parts d z b).0) g.tx.leads (record { active = refl; members = λ i is. set_alike i (members i is) }) touches

  writes_same : (x : Item) → is_writing d lock_ahead x there_too.going ≡ is_writing d lock_ahead x g.tx.going
  writes_same x =
      let front = all_in d u g.tx.going.state.made g.tx.going.active (in_line d u (opened p j z) g.tx.moves g.tx.going (line_opened d p j z (begins_parts d z b).0) g.tx.leads) in
      (λ i. writing_at d lock_ahead x (there_too.alike.active i) (map.get there_too.going.state.made (there_too.alike.active i))) ∙ ap (writing_at d lock_ahead x g.tx.going.active) (there_too.alike.members g.tx.going.active front)

  pub shows_extends : Shows d n r next lock_ahead j z
  shows_extends = record {
    tx = record { moves = g.tx.moves; going = there_too.going; leads = there_too.leads; whole = λ i is. knowns i is ∙ g.tx.whole i is ∙ sym (there_too.alike.members i is) };
    shadows = λ x. subst (λ w. ShadowShows w (shadow_row n u x) (value_at there_too.going.state x)) (sym (writes_same x))
        (subst (λ o. ShadowShows (is_writing d lock_ahead x g.tx.going) (tail o) (value_at there_too.going.state x)) (sym (rows x))
        (shows_same (is_writing d lock_ahead x g.tx.going) (shadow_row m u x) (value_at g.tx.going.state x) (value_at there_too.going.state x) (λ is. there_too.same x (shadowed x is)) (g.shadows x)));
  }

-- ---- one instance is set in both, and the items
module _ (d : Deployment) (m : Rows) (p : PlainState) (histories : Histories) (lock_ahead : IntentId → Bool) (h : Shadows d m p histories lock_ahead) (beside : Extends d p histories) (id : IntentId) (s : Instance) (set : MaySet d m p histories id s)
    (n : Rows) (rows : SameShadows m n) where
  abbrev more : Histories
  more = map.insert histories id (local_steps d id s)

  differ : (i : IntentId) → is_eq (id_cmp i id) ≡ false → id ≡ i → ⊥
  differ i other same = true_false (sym (ap is_eq (tied_itself id_total id)) ∙ ap (λ y. is_eq (id_cmp y id)) same ∙ other)

  module _ (items : Items) (touches : (j : IntentId) (z : Instance) (made : map.get p.made j ≡ Some z) (b : begins d z ≡ true) → is_eq (id_cmp j id) ≡ false → (x : Item) → TouchedIn d (tx_begun j z) (opened p j z) (h.shows j z made b).tx.moves x → value_of items x ≡ value_at p x)
      (shadowed : (j : IntentId) (z : Instance) → map.get p.made j ≡ Some z → begins d z ≡ true → is_eq (id_cmp j id) ≡ false → (x : Item) → is_some (shadow_row m (tx_begun j z) x) ≡ true → value_of items x ≡ value_at p x) where
    abbrev after : PlainState
    after = record { items = items; made = map.insert p.made id s }

    next_shows : begins d s ≡ true → Shows d n after more lock_ahead id s
    next_shows e =
        let below = λ (i : IntentId) (b : IsBelow (tx_begun id s) i). elsewhere histories id i (local_steps d id s) (below_apart (tx_begun id s) i b) ∙ set.below e i b ∙ sym (elsewhere p.made id i s (below_apart (tx_begun id s) i b)) in
        let tx = local_steps_opens d after more id s e (here histories id (local_steps d id s)) below in
        record { tx = tx; shadows = λ x. subst (λ o. ShadowShows (is_writing d lock_ahead x tx.going) o (value_at tx.going.state x)) (sym (ap tail (rows (tx_begun id s) x) ∙ set.fresh e x)) tt }

    other_shows : (j : IntentId) (z : Instance) → is_eq (id_cmp j id) ≡ false → map.get p.made j ≡ Some z → begins d z ≡ true → Shows d n after more lock_ahead j z
    other_shows j z other made b = shows_extends d m n p after histories more lock_ahead j z b (h.shows j z made b) (λ i is. elsewhere p.made id i s (out i is)) (λ i is. elsewhere histories id i (local_steps d id s) (out i is))
        (rows (tx_begun j z)) (touches j z made b other) (shadowed j z made b other)
      where
        out : (i : IntentId) → IsIn (tx_begun j z) i → id ≡ i → ⊥
        out i (inl own) same = differ j other (same ∙ own)
        out i (inr below) same = set.apart j z made b (subst (IsBelow (tx_begun j z)) (sym same) below)

    shows : AllShow d n after more lock_ahead
    shows j z there e = recorded_set p.made id s (λ i o. o ≡ Some z → Shows d n after more lock_ahead i z)
        (λ g. subst (Shows d n after more lock_ahead id) (same_some g) (next_shows (ap (begins d) (same_some g) ∙ e)))
        (λ i other g. other_shows i z other g e) j there

    -- who was called in a transaction that has not committed
    kept : (j : IntentId) (k : Instance) → map.get after.made j ≡ None → map.get more j ≡ Some k → IsKept d more k
    kept j k = recorded_set p.made id s (λ i o. o ≡ None → map.get more i ≡ Some k → IsKept d more k) (λ none. cc) (λ i other none is.
        let w = beside.kept i k none (sym (elsewhere histories id i (local_steps d id s) (differ i other)) ∙ is) in
        record { tx = w.tx; enclosing = w.enclosing; uncommitted = λ z ends. w.uncommitted z (was w.tx z ends) }) j
      where
        once_ends : (b : ℕ) → end_of d (local_steps d id s) b ≡ end_of d s b
        once_ends b = (local_steps_same d id s).ends b

        was : (t : TxId) (z : ℕ) → tx_end d more t ≡ Some (z, true) → tx_end d histories t ≡ Some (z, true)
        was t z = recorded_set histories id (local_steps d id s) (λ i o. ended_by d t.begin o ≡ Some (z, true) → ended_by d t.begin (map.get histories i) ≡ Some (z, true))
            (λ ends. set.ends t.begin z (sym (once_ends t.begin) ∙ ends)) (λ i other ends. ends) t.intent

    goes_by : AllGot d n more lock_ahead → IsConsistent d n after more lock_ahead
    goes_by got = record {
      extends = record {
        same = λ j z made apart. recorded_set p.made id s (λ i o. o ≡ Some z → map.get more i ≡ Some z)
            (λ e. here histories id (local_steps d id s) ∙ ap Some (local_steps_stays d id s set.out (ap (begins d) (same_some e) ∙ apart) ∙ same_some e))
            (λ i other e. elsewhere histories id i (local_steps d id s) (differ i other) ∙ beside.same i z e apart) j made;
        begun = λ j z made b. (shows j z made b).tx;
        kept = kept;
      };
      shadows = record { shows = shows; got = got };
    }

  -- the items stay: nothing has to be well formed, so a turn may set two instances, one after the other
  pub goes_one : AllGot d n more lock_ahead → IsConsistent d n (with_instance p id s) (map.insert histories id (local_steps d id s)) lock_ahead
  goes_one = goes_by p.items (λ j z made b other x on. refl) (λ j z made b other x on. refl)

  -- no other transaction owns an item that is another after it
  pub goes_set : WellFormedHistories d histories → Matches d m histories lock_ahead → plain.WellFormed d p → (items : Items)
      → ((j : IntentId) (z : Instance) → is_eq (id_cmp j id) ≡ false → (x : Item) → (content_of m x).owner ≡ Some (Tx (tx_begun j z)) → value_of items x ≡ value_at p x)
      → AllGot d n more lock_ahead → IsConsistent d n (record { items = items; made = map.insert p.made id s }) (map.insert histories id (local_steps d id s)) lock_ahead
  goes_set well_formed matches legal items agree = goes_by items
      (λ j z made b other x on. agree j z other x (touched_owned d p histories well_formed legal j z made b (h.shows j z made b).tx lock_ahead x m matches on))
      (λ j z made b other x there. agree j z other x (got_owned d p histories well_formed legal j z made b (h.shows j z made b).tx lock_ahead x m matches (h.got (tx_begun j z) x there)))

-- ---- what makes that so
pub no_ends : (d : Deployment) (q : Instance) (b : ℕ) → q.answers ≡ [] → end_of d q b ≡ None
no_ends d q b bare = ap (λ ts. (txs_after d q ts).ends b) bare

-- an answer to anything but an End that commits
pub ends_next : (d : Deployment) (k : Instance) (a : Answer) → (effect_of d k ≡ Effect.End true → ⊥) → (b n : ℕ) → end_of d (answered k a) b ≡ Some (n, true) → end_of d k b ≡ Some (n, true)
ends_next d k a other b n ends = by_effect (effect_of d k) refl (sym (ap (λ (s : Txs). s.ends b) (txs_pushed d k k.answers a)) ∙ ends)
  where
    s : Txs
    s = txs_after d k k.answers

    by_test : (t : Bool) → (if t then Some (length k.answers, false) else s.ends b) ≡ Some (n, true) → s.ends b ≡ Some (n, true)
    by_test true e = absurd (true_false (sym (ap (λ (z : ℕ × Bool). z.1) (same_some e))))
    by_test false e = e

    by_effect : (e : Effect) → effect_of d k ≡ e → (txs_by (length k.answers) e s).ends b ≡ Some (n, true) → s.ends b ≡ Some (n, true)
    by_effect (Effect.End true) is e = absurd (other is)
    by_effect (Effect.End false) is e = by_test (is_at b s.begun) e
    by_effect Effect.Begin is e = e
    by_effect e is g = g

module _ (d : Deployment) (m : Rows) (p : PlainState) (histories : Histories) (lock_ahead : IntentId → Bool) (h : Shadows d m p histories lock_ahead) (beside : Extends d p histories) (well_formed : WellFormedHistories d histories) (matches : Matches d m histories lock_ahead) (legal : plain.WellFormed d p) where
  -- who was called in no transaction is in the plain state, with no more answers
  pub plain_owner : (id : IntentId) (k : Instance) → map.get histories id ≡ Some k → k.enclosing ≡ None → (q : Instance) × (map.get p.made id ≡ Some q) × (length q.answers ≤ length k.answers)
  plain_owner id k is own = by_option (map.get p.made id) (λ none. let w = beside.kept id k none is in let clash = sym own ∙ w.enclosing in cc) (λ q made. (q, made, by_begins q made (begins d q) refl))
    where
      by_begins : (q : Instance) → map.get p.made id ≡ Some q → (b : Bool) → begins d q ≡ b → length q.answers ≤ length k.answers
      by_begins q made false e = let n = ap (λ (z : Instance). length z.answers) (same_some (sym (beside.same id q made e) ∙ is)) in omega (arith, n)
      by_begins q made true e =
          let o = (going d p histories well_formed legal id q made e (beside.begun id q made e)).owner in
          let same = same_some (sym (owner_recorded d p histories well_formed legal id q made e (beside.begun id q made e)) ∙ is) in
          let n = ap (λ (z : Instance). length z.answers) same in
          let l = length-append q.answers o.grown.later in
          let k = ap length o.grown.more in
          omega (arith, n, l, k)

  pub plain_none : (id : IntentId) → map.get histories id ≡ None → map.get p.made id ≡ None
  plain_none id new = none_by (map.get p.made id) (λ q made. by_cases (begins d q)
      (λ e. let clash = sym (owner_recorded d p histories well_formed legal id q made e (beside.begun id q made e)) ∙ new in cc) (λ e. let clash = sym (beside.same id q made e) ∙ new in cc))

  no_shadow : (t : TxId) (x : Item) → ((q : Instance) → map.get histories t.intent ≡ Some q → length q.answers ≤ t.begin) → shadow_row m t x ≡ None
  no_shadow t x few = none_by (shadow_row m t x) (λ r e. nothing_got d histories well_formed lock_ahead t x few (h.got t x (ap is_some e)))

  none_below : (t : TxId) → ((q : Instance) → map.get histories t.intent ≡ Some q → length q.answers ≤ t.begin) → ((q : Instance) → map.get p.made t.intent ≡ Some q → length q.answers ≤ t.begin) → (i : IntentId) → IsBelow t i → map.get histories i ≡ map.get p.made i
  none_below t few less i b = recorded_none_after d histories well_formed t few i b ∙ sym (plain_none_after d p legal t less i b)

  module _ (id : IntentId) (k : Instance) (is : map.get histories id ≡ Some k) where
    -- it was answered ..
    module _ (a : Answer) (out : IsOutside d (answered k a) (answered k a).answers) where
      few_next : (q : Instance) → map.get histories id ≡ Some q → length q.answers ≤ length (answered k a).answers
      few_next q same = let n = ap (λ (z : Instance). length z.answers) (same_some (sym same ∙ is)) in let l = length-append k.answers (a ∷ []) in omega (arith, n, l)

      pub fresh_next : (x : Item) → shadow_row m (tx_begun id (answered k a)) x ≡ None
      fresh_next x = no_shadow (tx_begun id (answered k a)) x few_next

      pub set_next : (effect_of d k ≡ Effect.End true → ⊥) → MaySet d m p histories id (answered k a)
      set_next other =
          let q = plain_owner id k is out.0 in
          record {
            out = out;
            fresh = λ b. fresh_next;
            below = λ b. none_below (tx_begun id (answered k a)) few_next
                (λ y same. let n = ap (λ (z : Instance). length z.answers) (same_some (sym same ∙ q.1)) in let l = length-append k.answers (a ∷ []) in let less = q.2 in omega (arith, n, l, less));
            apart = made_apart d p legal id q.0 q.1;
            ends = λ b n e. ap (ended_by d b) is ∙ ends_next d k a other b n e;
          }

    -- .. it ended ..
    pub set_over : (o : Outcome) → IsOutside d (ended k o) (ended k o).answers → MaySet d m p histories id (ended k o)
    set_over o out = let q = plain_owner id k is out.0 in record { out = out; fresh = λ b. cc; below = λ b. cc; apart = made_apart d p legal id q.0 q.1; ends = λ b n e. ap (ended_by d b) is ∙ e }

  -- .. or is new
  module _ (id : IntentId) (new : map.get histories id ≡ None) where
    none_yet : (f : FinMap id_cmp Instance) (n : ℕ) → map.get f id ≡ None → (q : Instance) → map.get f id ≡ Some q → length q.answers ≤ n
    none_yet f n gone q is = let clash = sym gone ∙ is in cc

    pub fresh_new : (s : Instance) (x : Item) → shadow_row m (tx_begun id s) x ≡ None
    fresh_new s x = no_shadow (tx_begun id s) x (none_yet histories (length s.answers) new)

    pub set_new : (s : Instance) → s.answers ≡ [] → IsOutside d s s.answers → IsOutsideAll d p id → MaySet d m p histories id s
    set_new s bare out apart = record {
      out = out;
      fresh = λ b. fresh_new s;
      below = λ b. none_below (tx_begun id s) (none_yet histories (length s.answers) new) (none_yet p.made (length s.answers) (plain_none id new));
      apart = apart;
      ends = λ b n e. let clash = sym (no_ends d s b bare) ∙ e in cc;
    }

  -- by an operation outside: nobody owns its item
  pub set_agrees : (y : Item) (o : Option Value) → ((t : TxId) → (content_of m y).owner ≡ Some (Tx t) → ⊥) → (j : IntentId) (z : Instance) (x : Item) → (content_of m x).owner ≡ Some (Tx (tx_begun j z)) → value_of (set_if p.items y o) x ≡ value_at p x
  set_agrees y o free j z x owned = plain_set p.items y x o ∙ ap (λ c. cond c (or_old o (value_of p.items y)) (value_of p.items x)) (false_from_ne_true (is_eq (item_cmp x y)) (λ e. free (tx_begun j z) (ap (λ w. (content_of m w).owner) (sym (item_same x y e)) ∙ owned)))

-- another one was set before: its caller, or one that was called by it
pub set_after : (d : Deployment) (m n : Rows) (p : PlainState) (histories : Histories) (id : IntentId) (s : Instance) → MaySet d m p histories id s → ((x : Item) → shadow_chain n (tx_begun id s) x ≡ shadow_chain m (tx_begun id s) x) → (i : IntentId) (z y : Instance) → is_eq (id_cmp id i) ≡ false
    → (IsBelow (tx_begun id s) i → ⊥) → (begins d z ≡ true → IsBelow (tx_begun i z) id → ⊥) → MaySet d n (with_instance p i z) (map.insert histories i y) id s
set_after d m n p histories id s set rows i z y other above apart = record {
  out = set.out;
  fresh = λ b x. ap tail (rows x) ∙ set.fresh b x;
  below = λ b j h. let out = λ (same : i ≡ j). above (subst (IsBelow (tx_begun id s)) (sym same) h) in elsewhere histories i j y out ∙ set.below b j h ∙ sym (elsewhere p.made i j z out);
  apart = λ j w made b h. recorded_set p.made i z (λ j o. o ≡ Some w → IsBelow (tx_begun j w) id → ⊥) (λ e g. apart (ap (begins d) (same_some e) ∙ b) (subst (λ (x : Instance). IsBelow (tx_begun i x) id) (sym (same_some e)) g)) (λ j off e g. set.apart j w e b g) j made h;
  ends = λ b l e. recorded_set histories i y (λ j o. j ≡ id → ended_by d b o ≡ Some (l, true)) (λ same. let clash = sym other ∙ ap (λ j. is_eq (id_cmp id j)) same ∙ ap is_eq (tied_itself id_total id) in cc) (λ j off same. ap (λ j. ended_by d b (map.get histories j)) same ∙ set.ends b l e) id refl;
}

-- .. a callee of it: that is not below, and not above
pub set_after_callee : (d : Deployment) (m n : Rows) (p : PlainState) (histories : Histories) (id : IntentId) (s : Instance) → MaySet d m p histories id s → ((x : Item) → shadow_chain n (tx_begun id s) x ≡ shadow_chain m (tx_begun id s) x) → (c : ℕ) (z y : Instance) → c < length s.answers
    → MaySet d n (with_instance p (child_of id c) z) (map.insert histories (child_of id c) y) id s
set_after_callee d m n p histories id s set rows c z y lt = set_after d m n p histories id s set rows (child_of id c) z y (false_from_ne_true (is_eq (id_cmp id (child_of id c))) off)
    (λ b. let e = child_below b in omega (arith, lt, e))
    (λ b h. let n = length-append (child_of id c).hops (h.step ∷ h.hops) in let k = ap (λ (i : IntentId). length i.hops) h.is in let l = length-append id.hops (c ∷ []) in omega (arith, n, k, l))
  where
    off : is_eq (id_cmp id (child_of id c)) ≡ true → ⊥
    off e = let l = length-append id.hops (c ∷ []) in let k = ap (λ (i : IntentId). length i.hops) (equal id (child_of id c) e) in omega (arith, l, k)

    child_below : IsBelow (tx_begun id s) (child_of id c) → length s.answers < c
    child_below b = elim (last_hop b.hops) [
      | inl e ↦
          let same : child_of id c ≡ child_of id b.step = b.is ∙ ap (λ hs. record { ticket = id.ticket; hops = id.hops ++ b.step ∷ hs }) e in
          subst (λ k. length s.answers < k) (sym (child_same id id c b.step same).1) b.later
      | inr r ↦
          let l = length-append id.hops (c ∷ []) in
          let k = ap (λ (i : IntentId). length i.hops) b.is in
          let n = length-append id.hops (b.step ∷ b.hops) in
          let u = length-append r.0 (r.1 ∷ []) in
          let v = ap length r.2 in
          absurd (omega (arith, l, k, n, u, v))
    ]

-- ---- what transactions got stays
module _ (d : Deployment) (m : Rows) (histories : Histories) (lock_ahead : IntentId → Bool) (h : AllGot d m histories lock_ahead) (n : Rows) (rows : SameShadows m n) (id : IntentId) where
  got_set : (s : Instance) → ((t : TxId) (x : Item) → got_by d t x id (lock_ahead id) (map.get histories id) ≡ true → got_by d t x id (lock_ahead id) (Some s) ≡ true) → AllGot d n (map.insert histories id s) lock_ahead
  got_set s stays t x there =
      let g = h t x (sym (ap (λ r. is_some (tail r)) (rows t x)) ∙ there) in
      record { member = g.member; got = recorded_set histories id s (λ j o. got_by d t x j (lock_ahead j) (map.get histories j) ≡ true → got_by d t x j (lock_ahead j) o ≡ true) (stays t x) (λ j other e. e) g.member g.got }

  pub got_new : map.get histories id ≡ None → (s : Instance) → AllGot d n (map.insert histories id s) lock_ahead
  got_new new s = got_set s (λ t x e. let clash = sym (ap (got_by d t x id (lock_ahead id)) new) ∙ e in cc)

  module _ (k : Instance) (is : map.get histories id ≡ Some k) where
    pub got_ended : (o : Outcome) → AllGot d n (map.insert histories id (ended k o)) lock_ahead
    got_ended o = got_set (ended k o) (λ t x e. sym (ap (got_by d t x id (lock_ahead id)) is) ∙ e)

    pub got_next : lock_ahead id ≡ false → (a : Answer) → AllGot d n (map.insert histories id (advanced d id k a)) lock_ahead
    got_next unlocked a = got_set (advanced d id k a) (λ t x e.
        ap (λ b. b || (lock_ahead id && is_on t x (advanced d id k a).func (tx_after d id (advanced d id k a) (advanced d id k a).answers) (effect_of d (advanced d id k a)))) ((moved_one d id k a).got t x)
        ∙ still (got_before d t x id k) (is_on t x k.func (tx_after d id k k.answers) (effect_of d k) && not (is_aborted a)) (lock_ahead id) (is_on t x k.func (tx_after d id k k.answers) (effect_of d k)) _ unlocked (sym (ap (got_by d t x id (lock_ahead id)) is) ∙ e))
      where
        still : (had now l on next : Bool) → l ≡ false → (had || (l && on)) ≡ true → ((had || now) || (l && next)) ≡ true
        still had now l on next off e = grind arith
