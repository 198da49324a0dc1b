-- Each act inside an open transaction, among all others: what shadows show is kept, and the histories still extend the plain state.
use Rattle.beldi_plain.specs.Transaction.{is_owner}
use Rattle.beldi_histories.proofs.Names.{AllGot, AllShow, Answer, Bool, CallsGo, Cause, ChangedAlone, DeathsGo, Deployment, Effect, FirstRowsGo, IsConsistent, Got, Instance, IntentId, IsAnswer, IsPending, IsIn, IsSound, Item, Items, KeepsValue, Histories, CallStack, List, LockedOut, Move, None, OnItem, OpenTx, Outcome, PlainState, ReadsGo, Rel, ReturnsGo, Row, Rows, RowsGo, SameShadows, WellFormedHistories, ShadowShows, Shadows, Shows, Some, TestsGo, Tx, TxId, Txs, Value, WritesGo, aborted, and_right, answer_by, answer_inside, answer_of, ap, local_steps, begins, callee_in, callee_of, calls_at, child_of, child_same, cond, did, effect_of, elsewhere, end_of, ended, ended_by, eq_by_cmp_equiv, equal, false, false_from_ne_true, fell, got_before, got_by, has_callees, id_cmp, id_total, if◌then◌else◌, inl, inr, is_aborted, is_edge, is_eq, is_item, is_on, is_some, is_writing, item_cmp, item_in, item_of, item_total, items_after, items_by, length, log_key, made_set, advanced, new_member, none_by, not_own, not_owner, op_of, or_null, or_old, or_own, or_right, passes, place_of, plain, plain_set, refl, same_some, set_row, sets, shadow_chain, shadow_key, shadow_of, shadow_row, subst, sym, tail, tail_value, test_on, tested, tied_itself, touched, true, tx_begun, tx_by, tx_end, tx_now, txs_after, txs_by, value_at, value_in, write, write_on, writes_on, writing_at, ℕ, ◌&&◌, ◌∙◌, ◌≡◌, ◌⊎◌}
use Rattle.beldi_histories.proofs.CallStacks.{alone, alone_callee, called_in, front_in_tx, front_is, in_tx, recorded_line, member_is, owner_outside, set_cases, owner_alone}
use Rattle.beldi_histories.proofs.Shadows.{more_writes, writing_more, of_row, shown_again, there_value, others_rows, row_set, got_answered, got_passed, got_still, got_set, shadows_rows}
use Rattle.beldi_histories.proofs.{Acts.aside_apart, Acts.is_shadow, Acts.kind_off, Acts.other_shadows, Acts.same_shadow, Answers.true_false, LocalSteps.origin_stays, Frame.local_steps_same, Frame.moved_one, FrameAt.recorded_set, Callers.caller_in, Callers.waits_for, LockRows.tx_self, Owns.not_ended, Owns.seen, Owns.unwritten, StackSteps.GoesOn, StackSteps.goes_answered, StackSteps.goes_called, StackSteps.goes_returned, LockReplies.write_parts, LockReplies.test_parts, Behind.death_of, Cases.by_cases, ItemOperations.kept_or}
use Rattle.beldi_histories.proofs.Names.map
use Rattle.beldi_histories.proofs.Names.operation

-- all other transactions that are open
abbrev Others : Deployment → PlainState → IntentId → (TxId → Type 0) → Type 0
Others d p o P = (j : IntentId) (y : Instance) → map.get p.made j ≡ Some y → begins d y ≡ true → (o ≡ j → ⊥) → P (tx_begun j y)

-- ---- the histories changed at members of one open transaction, and none of its transactions ended
record Changed (d : Deployment) (p : PlainState) (histories after : Histories) (o : IntentId) (q : Instance) : Type 0 where
  others : Others d p o (λ u. (i : IntentId) → IsIn u i → map.get after i ≡ map.get histories i)
  plainly : (i : IntentId) (z : Instance) → map.get p.made i ≡ Some z → (i ≡ o → ⊥) → map.get after i ≡ map.get histories i
  kept : (i : IntentId) (k : Instance) → map.get p.made i ≡ None → map.get after i ≡ Some k → (k.enclosing ≡ Some (tx_begun o q)) ⊎ (map.get histories i ≡ Some k)
  ends : (u : TxId) → tx_end d after u ≡ tx_end d histories u

changed_none : (d : Deployment) (p : PlainState) (histories : Histories) (o : IntentId) (q : Instance) → Changed d p histories histories o q
changed_none d p histories o q = record { others = λ j y there c apart i is_in. refl; plainly = λ i z is apart. refl; kept = λ i k gone is. inr is; ends = λ u. refl }

changed_then : (d : Deployment) (p : PlainState) (f g l : Histories) (o : IntentId) (q : Instance) → Changed d p f g o q → Changed d p g l o q → Changed d p f l o q
changed_then d p f g l o q a b = record {
  others = λ j y there c apart i is_in. b.others j y there c apart i is_in ∙ a.others j y there c apart i is_in;
  plainly = λ i z is apart. b.plainly i z is apart ∙ a.plainly i z is apart;
  kept = λ i k gone is. elim (b.kept i k gone is) [ inl e ↦ inl e | inr e ↦ a.kept i k gone e ];
  ends = λ u. b.ends u ∙ a.ends u;
}

module _ (d : Deployment) (m : Rows) (p : PlainState) (histories : Histories) (lock_ahead : IntentId → Bool) (h : IsSound d m p histories lock_ahead) (o : IntentId) (q : Instance) (made : map.get p.made o ≡ Some q) (b : begins d q ≡ true) where
  abbrev mine : Shows d m p histories lock_ahead o q
  mine = h.shadows.shows o q made b

  abbrev tx : OpenTx d p histories o q
  tx = mine.tx

  abbrev other_tx : (j : IntentId) (y : Instance) → map.get p.made j ≡ Some y → begins d y ≡ true → OpenTx d p histories j y
  other_tx j y there c = (h.shadows.shows j y there c).tx

  changed_one : (f : Histories) (k : IntentId) (z : Instance) → IsIn (tx_begun o q) k → Others d p o (λ u. IsIn u k → ⊥)
      → ((n : ℕ) → end_of d z n ≡ ended_by d n (map.get f k)) → ((k ≡ o) ⊎ (z.enclosing ≡ Some (tx_begun o q))) → Changed d p f (map.insert f k z) o q
  changed_one f k z k_in out ends role = record {
    others = λ j y there c apart i is_in. elsewhere f k i z (λ same. out j y there c apart (subst (IsIn (tx_begun j y)) (sym same) is_in));
    plainly = λ i u is apart. elsewhere f k i z (λ same. apart (sym same ∙ owner_alone d p h.plain_well_formed o q made k u k_in (ap (map.get p.made) same ∙ is)));
    kept = λ i u gone has. elim (set_cases f k i z u has) [
      | inl same ↦ elim role [
        | inl own ↦ let clash = sym made ∙ ap (map.get p.made) (sym own ∙ sym same.0) ∙ gone in cc
        | inr within ↦ inl (ap (λ (x : Instance). x.enclosing) (sym same.1) ∙ within)
      ]
      | inr e ↦ inr e.1
    ];
    ends = λ u. made_set f k z (λ i w. ended_by d u.begin w ≡ ended_by d u.begin (map.get f i)) (ends u.begin) (λ i. refl) u.intent;
  }

  -- a member, or one that it calls, is in no other
  out_of : (i : IntentId) (z : Instance) → IsIn (tx_begun o q) i → map.get histories i ≡ Some z → Others d p o (λ u. IsIn u i → ⊥)
  out_of i z is_in is j y there c apart = alone d p histories h.plain_well_formed o q made b tx j y there c (other_tx j y there c) apart i z is_in is

  role_of : (i : IntentId) (z w : Instance) → IsIn (tx_begun o q) i → map.get histories i ≡ Some z → w.enclosing ≡ z.enclosing → (i ≡ o) ⊎ (w.enclosing ≡ Some (tx_begun o q))
  role_of i z w is_in is same = elim (member_is d p histories h.plain_well_formed o q made b tx i z is_in is) [ inl own ↦ inl own | inr e ↦ inr (same ∙ e) ]

  -- ---- all of them
  module _ (after : Histories) (n : Rows) (unlocked : IntentId → Bool) (ch : Changed d p histories after o q) (locks : Others d p o (λ u. (i : IntentId) → IsIn u i → lock_ahead i ≡ true → unlocked i ≡ true))
      (rows_stay : (u : TxId) (x : Item) → (u ≡ tx_begun o q → ⊥) → shadow_chain n u x ≡ shadow_chain m u x) where
    other_shows : (j : IntentId) (y : Instance) → map.get p.made j ≡ Some y → begins d y ≡ true → (o ≡ j → ⊥) → Shows d n p after unlocked j y
    other_shows j y there c apart = record {
      tx = record { moves = s.tx.moves; going = s.tx.going; leads = s.tx.leads; whole = λ i is_in. ch.others j y there c apart i is_in ∙ s.tx.whole i is_in };
      shadows = λ x. more_writes (is_writing d lock_ahead x s.tx.going) (is_writing d unlocked x s.tx.going) (shadow_row n (tx_begun j y) x) (value_at s.tx.going.state x)
          (writing_more d lock_ahead unlocked x s.tx.going.active (map.get s.tx.going.state.made s.tx.going.active) (locks j y there c apart s.tx.going.active (front_in_tx d p histories h.plain_well_formed j y there c s.tx)))
          (subst (λ w. ShadowShows (is_writing d lock_ahead x s.tx.going) (tail w) (value_at s.tx.going.state x)) (sym (rows_stay (tx_begun j y) x (λ same. apart (ap (λ (t : TxId). t.intent) (sym same))))) (s.shadows x));
    }
      where
        s : Shows d m p histories lock_ahead j y
        s = h.shadows.shows j y there c

    all_goes : Shows d n p after unlocked o q → AllGot d n after unlocked → IsConsistent d n p after unlocked
    all_goes own got = record {
      extends = record {
        same = λ i z is off. ch.plainly i z is (λ e. true_false (sym b ∙ ap (begins d) (same_some (sym made ∙ ap (map.get p.made) (sym e) ∙ is)) ∙ off)) ∙ h.extends.same i z is off;
        begun = λ j y there c. (shows j y there c).tx;
        kept = λ i k gone is. elim (ch.kept i k gone is) [
          | inl within ↦ record { tx = tx_begun o q; enclosing = within; uncommitted = λ n e. let clash = sym (ch.ends (tx_begun o q) ∙ not_ended d p histories h.well_formed h.plain_well_formed o q made b tx) ∙ e in cc }
          | inr was ↦ let w = h.extends.kept i k gone was in record { tx = w.tx; enclosing = w.enclosing; uncommitted = λ n e. w.uncommitted n (sym (ch.ends w.tx) ∙ e) }
        ];
      };
      shadows = record { shows = shows; got = got };
    }
      where
        shows : AllShow d n p after unlocked
        shows j y there c = by_cases (is_eq (id_cmp o j))
            (λ e. subst (λ i. map.get p.made i ≡ Some y → Shows d n p after unlocked i y) (equal o j e) (λ g. subst (λ z. Shows d n p after unlocked o z) (same_some (sym made ∙ g)) own) there)
            (λ e. other_shows j y there c (λ same. true_false (sym (ap is_eq (tied_itself id_total o)) ∙ ap (λ z. is_eq (id_cmp o z)) same ∙ e)))

    own_shows : (front : IntentId) (items : Items) → GoesOn d p after o q front items → ((x : Item) → ShadowShows false (shadow_row n (tx_begun o q) x) (or_null (map.get items x))) → Shows d n p after unlocked o q
    own_shows front items g shows = record {
      tx = g.tx;
      shadows = λ x. more_writes false (is_writing d unlocked x g.tx.going) (shadow_row n (tx_begun o q) x) (value_at g.tx.going.state x) (λ e. cc)
          (subst (λ z. ShadowShows false (shadow_row n (tx_begun o q) x) (or_null (map.get z x))) (sym g.items_are) (shows x));
    }

  -- ---- who can step
  module _ (id : IntentId) (k : Instance) (is : map.get histories id ≡ Some k) (inside : tx_now d id k ≡ Some (tx_begun o q)) (none : k.outcome ≡ None) (free : (f : ℕ) (v : Value) → effect_of d k ≡ Effect.Call f v → map.get histories (callee_of id k) ≡ None) where
    id_in : IsIn (tx_begun o q) id
    id_in = in_tx d p histories h.plain_well_formed o q made b tx h.well_formed id k is inside

    front : tx.going.active ≡ id
    front = front_is d p histories h.plain_well_formed o q made b tx id k id_in is none free

    writing_is : (x : Item) → is_writing d lock_ahead x tx.going ≡ (lock_ahead id && writes_on x k.func (effect_of d k))
    writing_is x = (λ i. writing_at d lock_ahead x (front i) (map.get tx.going.state.made (front i))) ∙ ap (writing_at d lock_ahead x id) (sym (tx.whole id id_in) ∙ is)

    -- where it writes not, the shadow shows
    settled : (x : Item) → (lock_ahead id && writes_on x k.func (effect_of d k)) ≡ false → ShadowShows false (shadow_row m (tx_begun o q) x) (value_at tx.going.state x)
    settled x off = subst (λ b. ShadowShows b (shadow_row m (tx_begun o q) x) (value_at tx.going.state x)) (writing_is x ∙ off) (mine.shadows x)

    sees : (x : Item) → (lock_ahead id && writes_on x k.func (effect_of d k)) ≡ false → value_in (shadow_row m (tx_begun o q) x) (value_at p x) ≡ value_at tx.going.state x
    sees x off = seen d p histories h.well_formed h.plain_well_formed o q made b tx lock_ahead x m h.matches (mine.shadows x) (writing_is x ∙ off)

    -- an answer: to no Begin, no End and no call
    goes_on : (a : Answer) (mv : Move) → answer_by id tx.going.state.items k (effect_of d k) mv ≡ Some a → GoesOn d p (map.insert histories id (advanced d id k a)) o q id (items_by tx.going.state.items k (effect_of d k) mv)
    goes_on a mv gives = subst (λ i. map.get histories i ≡ Some k → answer_by i tx.going.state.items k (effect_of d k) mv ≡ Some a → GoesOn d p (map.insert histories i (advanced d i k a)) o q i (items_by tx.going.state.items k (effect_of d k) mv)) front
        (λ there by. goes_answered d p h.plain_well_formed o q made b histories tx k there none mv a by) is gives

    changed_answer : (f : Histories) (a : Answer) → map.get f id ≡ Some k → is_edge (effect_of d k) ≡ false → Changed d p f (map.insert f id (advanced d id k a)) o q
    changed_answer f a there edge = changed_one f id (advanced d id k a) id_in (out_of id k id_in is)
        (λ n. (moved_one d id k a).ends n ∙ quiet (effect_of d k) (length k.answers) (txs_after d k k.answers) n edge ∙ ap (ended_by d n) (sym there)) (role_of id k (advanced d id k a) id_in is (moved_one d id k a).enclosing)
      where
        quiet : (e : Effect) (n : ℕ) (s : Txs) (i : ℕ) → is_edge e ≡ false → (txs_by n e s).ends i ≡ s.ends i
        quiet Effect.Begin n s i g = cc
        quiet (Effect.End c) n s i g = cc
        quiet e n s i g = refl

    module _ (unlocked : IntentId → Bool) (out : LockedOut lock_ahead unlocked id) where
      locks_of : Others d p o (λ u. (i : IntentId) → IsIn u i → lock_ahead i ≡ true → unlocked i ≡ true)
      locks_of j y there c apart i is_in l = out.others i (false_from_ne_true (is_eq (id_cmp i id)) (λ e. out_of id k id_in is j y there c apart (subst (IsIn (tx_begun j y)) (equal i id e) is_in))) ∙ l

      answered_goes : (n : Rows) (a : Answer) (items : Items) → is_edge (effect_of d k) ≡ false → (lock_ahead id ≡ true → is_aborted a ≡ false) → ((u : TxId) (x : Item) → (u ≡ tx_begun o q → ⊥) → shadow_chain n u x ≡ shadow_chain m u x)
          → AllGot d n histories lock_ahead → GoesOn d p (map.insert histories id (advanced d id k a)) o q id items → ((x : Item) → ShadowShows false (shadow_row n (tx_begun o q) x) (or_null (map.get items x))) → IsConsistent d n p (map.insert histories id (advanced d id k a)) unlocked
      answered_goes n a items edge lives rows_stay got g shows =
          let after = map.insert histories id (advanced d id k a) in
          let ch = changed_answer histories a is edge in
          all_goes after n unlocked ch locks_of rows_stay (own_shows after n unlocked ch locks_of rows_stay id items g shows)
          (got_answered d n histories lock_ahead got unlocked id k a out is lives)

-- ---- an operation
front_apart : (e : Effect) (w : ℕ × List ℕ) → touched e ≡ Some w → (is_edge e ≡ false) × ((f : ℕ) (v : Value) → e ≡ Effect.Call f v → ⊥) × ((u : Outcome) → e ≡ Effect.Return u → ⊥)
front_apart (Effect.Read t k) w h = (refl, λ f v e. cc, λ u e. cc)
front_apart (Effect.Write t k v) w h = (refl, λ f v e. cc, λ u e. cc)
front_apart (Effect.CondWrite t k r u v) w h = (refl, λ f v e. cc, λ u e. cc)
front_apart e w h = cc

-- one that returns not has no outcome
open_still : (d : Deployment) (histories : Histories) → WellFormedHistories d histories → (id : IntentId) (k : Instance) → map.get histories id ≡ Some k → ((u : Outcome) → effect_of d k ≡ Effect.Return u → ⊥) → k.outcome ≡ None
open_still d histories well_formed id k is other = none_by k.outcome (λ u e. other u ((well_formed.each id k is).over u e))

module _ (d : Deployment) (m : Rows) (p : PlainState) (histories : Histories) (lock_ahead : IntentId → Bool) (h : IsSound d m p histories lock_ahead) (o : IntentId) (q : Instance) (made : map.get p.made o ≡ Some q) (b : begins d q ≡ true)
    (id : IntentId) (k : Instance) (t : ℕ) (y : List ℕ) (f : IsPending d histories id k (tx_begun o q) t y) where
  abbrev x : Item
  x = item_of k t y

  abbrev s : TxId
  s = tx_begun o q

  apart : (is_edge (effect_of d k) ≡ false) × ((f : ℕ) (v : Value) → effect_of d k ≡ Effect.Call f v → ⊥) × ((u : Outcome) → effect_of d k ≡ Effect.Return u → ⊥)
  apart = front_apart (effect_of d k) (t, y) f.touch

  none : k.outcome ≡ None
  none = open_still d histories h.well_formed id k f.made apart.2

  free : (f : ℕ) (v : Value) → effect_of d k ≡ Effect.Call f v → map.get histories (callee_of id k) ≡ None
  free g v e = absurd (apart.1 g v e)

  abbrev going : Items
  going = (tx d m p histories lock_ahead h o q made b).going.state.items

  shown : (z : Item) → (lock_ahead id && writes_on z k.func (effect_of d k)) ≡ false → ShadowShows false (shadow_row m (tx_begun o q) z) (value_at (tx d m p histories lock_ahead h o q made b).going.state z)
  shown z off = settled d m p histories lock_ahead h o q made b id k f.made f.inside none free z off

  -- a lock that is ahead got its item
  front_got : lock_ahead id ≡ true → Got d histories lock_ahead (tx_begun o q) (item_of k t y)
  front_got was = record {
    member = id;
    got = ap (got_by d s x id (lock_ahead id)) f.made ∙ or_right (got_before d s x id k) (lock_ahead id && is_on s x k.func (tx_now d id k) (effect_of d k)) ((λ i. was i && is_on s x k.func (f.inside i) (effect_of d k)) ∙ ap (λ z. z && is_item x k.func (touched (effect_of d k))) (tx_self s) ∙ ap (is_item x k.func) f.touch ∙ ap is_eq (tied_itself item_total x));
  }

  -- rows that are no shadows
  module _ (n : Rows) (others_stay : SameShadows m n) where
    got_stays : AllGot d n histories lock_ahead
    got_stays = got_still d m n histories histories lock_ahead lock_ahead h.shadows.got (λ u z there. sym (ap (λ r. is_some (tail r)) (others_stay u z)) ∙ there) (λ u z j e. e)

    module _ (unlocked : IntentId → Bool) (out : LockedOut lock_ahead unlocked id) where
      read_goes : (v : Value) → effect_of d k ≡ Effect.Read t y → value_in (shadow_row m (tx_begun o q) (item_of k t y)) (value_at p (item_of k t y)) ≡ v → IsConsistent d n p (map.insert histories id (advanced d id k (Answer.Value v))) unlocked
      read_goes v wants is =
          let off = λ (z : Item). ap (λ e. lock_ahead id && writes_on z k.func e) wants ∙ and_right (lock_ahead id) false refl in
          let seen = sym (sees d m p histories lock_ahead h o q made b id k f.made f.inside none free x (off x)) ∙ is in
          answered_goes d m p histories lock_ahead h o q made b id k f.made f.inside none free unlocked out n (Answer.Value v) (items_by going k (effect_of d k) plain) apart.0 (λ l. refl) (λ u z other. others_stay u z) got_stays
          (goes_on d m p histories lock_ahead h o q made b id k f.made f.inside none free (Answer.Value v) plain (ap (answer_inside going k.func) wants ∙ ap (λ w. Some (Answer.Value w)) seen))
          (λ z. subst (λ e. ShadowShows false (shadow_row n s z) (or_null (map.get (items_by going k e plain) z))) (sym wants)
          (subst (λ r. ShadowShows false (tail r) (or_null (map.get going z))) (sym (others_stay s z)) (shown z (off z))))

      death_goes : (c : Cause) → lock_ahead id ≡ false → IsAnswer (place_of id (length k.answers)) (Some (tx_begun o q)) (effect_of d k) (Answer.Aborted c) → IsConsistent d n p (map.insert histories id (advanced d id k (Answer.Aborted c))) unlocked
      death_goes c was fits =
          let w = death_of (place_of id (length k.answers)) (tx_begun o q) (effect_of d k) c (ap is_some f.touch) fits in
          answered_goes d m p histories lock_ahead h o q made b id k f.made f.inside none free unlocked out n (Answer.Aborted c) going apart.0 (λ l. absurd (true_false (sym l ∙ was))) (λ u z other. others_stay u z) got_stays
          (goes_on d m p histories lock_ahead h o q made b id k f.made f.inside none free (Answer.Aborted c) (fell (Some w.holder))
          (ap (λ z. if z then Some (aborted id k (Some w.holder)) else None) (ap is_some f.touch) ∙ ap (λ z. Some (Answer.Aborted z)) (sym w.cause)))
          (λ z. subst (λ r. ShadowShows false (tail r) (or_null (map.get going z))) (sym (others_stay s z)) (shown z (ap (λ u. u && writes_on z k.func (effect_of d k)) was)))

  -- the rows of its shadow
  module _ (n : Rows) (own_changed : ChangedAlone (shadow_key (tx_begun o q) (item_of k t y)) m n) where
    got_own : lock_ahead id ≡ true → AllGot d n histories lock_ahead
    got_own was = got_set d m histories lock_ahead h.shadows.got s x n own_changed (front_got was)

    first_row : lock_ahead id ≡ true → ((writes_on (item_of k t y) k.func (effect_of d k) ≡ true) ⊎ KeepsValue m n (tx_begun o q) (item_of k t y) (value_at p (item_of k t y))) → Shadows d n p histories lock_ahead
    first_row was by =
        let one = tx d m p histories lock_ahead h o q made b in
        let shows = (mine d m p histories lock_ahead h o q made b).shadows in
        (all_goes d m p histories lock_ahead h o q made b histories n lock_ahead (changed_none d p histories o q) (λ j y there c apart i is_in l. l) (λ u z other. others_rows m n s x own_changed u z other)
        (record {
          tx = one;
          shadows = row_set m n s x own_changed (λ z r. ShadowShows (is_writing d lock_ahead z one.going) r (value_at one.going.state z))
              (of_row (is_writing d lock_ahead x one.going) (shadow_row n s x) (value_at one.going.state x) (elim by [
                | inl e ↦ inl (writing_is d m p histories lock_ahead h o q made b id k f.made f.inside none free x ∙ (λ i. was i && e i))
                | inr z ↦ elim z [
                  | inl e ↦ inr (sym (tail_value (shadow_chain n s x)) ∙ e.1 ∙ sym (unwritten d p histories h.well_formed h.plain_well_formed o q made b one lock_ahead x m h.matches e.0))
                  | inr e ↦ shown_again (is_writing d lock_ahead x one.going) m n s x (value_at one.going.state x) (shows x) e.0 e.1
                ]
              ])) (λ z other. shows z);
        }) (got_own was)).shadows

    module _ (unlocked : IntentId → Bool) (out : LockedOut lock_ahead unlocked id) (was : lock_ahead id ≡ true) where
      -- an operation on it, by the value that it leaves
      set_goes : (w : OnItem) (a : Answer) → x ≡ item_in k.func w → op_of (effect_of d k) ≡ Some w → answer_inside going k.func (effect_of d k) ≡ Some a → is_aborted a ≡ false
          → (shadow_of n (tx_begun o q) (item_of k t y)).value ≡ or_old (sets w.does (or_null (map.get going (item_in k.func w)))) (or_null (map.get going (item_in k.func w))) → ((z : Item) → is_eq (item_cmp x z) ≡ false → writes_on z k.func (effect_of d k) ≡ false)
          → IsConsistent d n p (map.insert histories id (advanced d id k a)) unlocked
      set_goes w a same op gives lives leaves off =
          let after = items_by going k (effect_of d k) plain in
          let there : after ≡ items_after going k.func (Some w) = ap (items_after going k.func) op in
          let value = λ (z : Item). ap (λ i. or_null (map.get i z)) there ∙ plain_set going (item_in k.func w) z (sets w.does (or_null (map.get going (item_in k.func w)))) in
          answered_goes d m p histories lock_ahead h o q made b id k f.made f.inside none free unlocked out n a after apart.0 (λ l. lives) (λ u z other. others_rows m n s x own_changed u z other) (got_own was)
          (goes_on d m p histories lock_ahead h o q made b id k f.made f.inside none free a plain gives)
          (row_set m n s x own_changed (λ z r. ShadowShows false r (or_null (map.get after z)))
          (of_row false (shadow_row n s x) (or_null (map.get after x)) (inr (sym (tail_value (shadow_chain n s x)) ∙ leaves ∙ sym (value x
          ∙ ap (λ c. cond c (or_old (sets w.does (or_null (map.get going (item_in k.func w)))) (or_null (map.get going (item_in k.func w)))) (or_null (map.get going x))) (ap (λ z. is_eq (item_cmp x z)) (sym same) ∙ ap is_eq (tied_itself item_total x))))))
          (λ z other. subst (ShadowShows false (shadow_row m s z)) (sym (value z ∙ ap (λ c. cond c (or_old (sets w.does (or_null (map.get going (item_in k.func w)))) (or_null (map.get going (item_in k.func w)))) (or_null (map.get going z)))
          (ap (λ i. is_eq (item_cmp z i)) (sym same) ∙ (eq_by_cmp_equiv item_total).symm z x ∙ other))) (shown z (ap (λ u. lock_ahead id && u) (off z other) ∙ and_right (lock_ahead id) false refl))))

      write_goes : (v : Value) → effect_of d k ≡ Effect.Write t y v → write_on (place_of id (length k.answers)) (Tx (tx_begun o q)) v (shadow_of m (tx_begun o q) (item_of k t y)) ≡ (shadow_of n (tx_begun o q) (item_of k t y), did)
          → IsConsistent d n p (map.insert histories id (advanced d id k Answer.Done)) unlocked
      write_goes v wants acts = set_goes (record { table = t; key = y; does = write v }) Answer.Done refl (ap op_of wants) (ap (answer_inside going k.func) wants) refl
          (ap (λ c. c.value) (write_parts (place_of id (length k.answers)) (Tx s) v (shadow_of m s x) (shadow_of n s x) acts).1) (λ z other. ap (writes_on z k.func) wants ∙ other)

      test_goes : (u : Rel) (w v : Value) (c : Bool) → effect_of d k ≡ Effect.CondWrite t y u w v → is_some (shadow_row m (tx_begun o q) (item_of k t y)) ≡ true
          → test_on (place_of id (length k.answers)) (Tx (tx_begun o q)) u w v (shadow_of m (tx_begun o q) (item_of k t y)) ≡ (shadow_of n (tx_begun o q) (item_of k t y), tested c) → IsConsistent d n p (map.insert histories id (advanced d id k (Answer.Value (Value.Bool c)))) unlocked
      test_goes u w v c wants there acts =
          let parts = test_parts (place_of id (length k.answers)) (Tx s) u w v (shadow_of m s x) (shadow_of n s x) c acts in
          let off = λ (z : Item). ap (λ e. writes_on z k.func e) wants in
          let seen : (shadow_of m s x).value ≡ or_null (map.get going x) = tail_value (shadow_chain m s x) ∙ there_value (shadow_row m s x) (or_null (map.get going x)) (shown x (ap (λ e. lock_ahead id && e) (off x) ∙ and_right (lock_ahead id) false refl)) there in
          set_goes (record { table = t; key = y; does = operation.cond u w v }) (Answer.Value (Value.Bool c)) refl (ap op_of wants)
          (ap (answer_inside going k.func) wants ∙ ap (λ z. Some (Answer.Value (Value.Bool (passes z u w)))) (sym seen) ∙ ap (λ z. Some (Answer.Value (Value.Bool z))) parts.2) refl
          (ap (λ c. c.value) parts.1 ∙ sym (kept_or (passes (shadow_of m s x).value u w) v (shadow_of m s x).value) ∙ ap (λ z. or_old (if passes z u w then Some v else None) z) seen) (λ z other. off z)

-- ---- the laws
pub reads_go : ReadsGo
reads_go d m p histories lock_ahead after id k s t y v h f out wants is = let key = log_key k.func (place_of id (length k.answers)) in let row = Some (Row.ReadLog v) in
    read_goes d m p histories lock_ahead h.sound s.intent h.owner h.made h.begun id k t y (subst (λ z. IsPending d histories id k z t y) h.is f) (set_row m key row) (λ u z. aside_apart m key row u z (kind_off is_shadow same_shadow (shadow_key u z) key refl refl)) after out v wants
    (ap (λ z. value_in (shadow_row m z (item_of k t y)) (value_at p (item_of k t y))) (sym h.is) ∙ is)

pub deaths_go : DeathsGo
deaths_go d m p histories lock_ahead after id k s t y n c h f out changed was fits =
    death_goes d m p histories lock_ahead h.sound s.intent h.owner h.made h.begun id k t y (subst (λ z. IsPending d histories id k z t y) h.is f) n (other_shadows m n (item_of k t y) changed) after out c was
    (subst (λ z. IsAnswer (place_of id (length k.answers)) (Some z) (effect_of d k) (Answer.Aborted c)) h.is fits)

pub writes_go : WritesGo
writes_go d m p histories lock_ahead after id k s t y v n h f out changed was wants acts = let x = item_of k t y in
    write_goes d m p histories lock_ahead h.sound s.intent h.owner h.made h.begun id k t y (subst (λ z. IsPending d histories id k z t y) h.is f) n (subst (λ z. ChangedAlone (shadow_key z x) m n) h.is changed) after out was v wants
    (subst (λ z. write_on (place_of id (length k.answers)) (Tx z) v (shadow_of m z x) ≡ (shadow_of n z x, did)) h.is acts)

pub tests_go : TestsGo
tests_go d m p histories lock_ahead after id k s t y u w v c n h f out changed was wants there acts = let x = item_of k t y in
    test_goes d m p histories lock_ahead h.sound s.intent h.owner h.made h.begun id k t y (subst (λ z. IsPending d histories id k z t y) h.is f) n (subst (λ z. ChangedAlone (shadow_key z x) m n) h.is changed) after out was u w v c wants
    (ap (λ z. is_some (shadow_row m z x)) (sym h.is) ∙ there) (subst (λ z. test_on (place_of id (length k.answers)) (Tx z) u w v (shadow_of m z x) ≡ (shadow_of n z x, tested c)) h.is acts)

pub first_rows_go : FirstRowsGo
first_rows_go d m p histories lock_ahead id k s t y n h f was changed by = let x = item_of k t y in
    first_row d m p histories lock_ahead h.sound s.intent h.owner h.made h.begun id k t y (subst (λ z. IsPending d histories id k z t y) h.is f) n (subst (λ z. ChangedAlone (shadow_key z x) m n) h.is changed) was
    (subst (λ z. (writes_on x k.func (effect_of d k) ≡ true) ⊎ KeepsValue m n z x (value_at p x)) h.is by)

pub rows_go : RowsGo
rows_go = shadows_rows

-- ---- calls
module _ (d : Deployment) (m n : Rows) (p : PlainState) (histories : Histories) (lock_ahead : IntentId → Bool) (h : IsSound d m p histories lock_ahead) (o : IntentId) (q : Instance) (made : map.get p.made o ≡ Some q) (b : begins d q ≡ true)
    (rows_stay : SameShadows m n) where
  abbrev own_tx : OpenTx d p histories o q
  own_tx = tx d m p histories lock_ahead h o q made b

  there_still : (u : TxId) (x : Item) → is_some (shadow_row n u x) ≡ true → is_some (shadow_row m u x) ≡ true
  there_still u x there = sym (ap (λ r. is_some (tail r)) (rows_stay u x)) ∙ there

  -- a callee is made
  call_goes : (id : IntentId) (k : Instance) (f : ℕ) (v : Value) → map.get histories id ≡ Some k → tx_now d id k ≡ Some (tx_begun o q) → effect_of d k ≡ Effect.Call f v → has_callees id ≡ true → map.get histories (callee_of id k) ≡ None
      → IsConsistent d n p (map.insert histories (callee_of id k) (local_steps d (callee_of id k) (new_member (tx_begun o q) f v (calls_at id k true)))) lock_ahead
  call_goes id k f v is inside call short gone =
      let none = open_still d histories h.well_formed id k is (λ u e. let clash = sym call ∙ e in cc) in
      let free = λ (g : ℕ) (w : Value) (e : effect_of d k ≡ Effect.Call g w). gone in
      let c = callee_of id k in
      let new = new_member (tx_begun o q) f v (calls_at id k true) in
      let z = local_steps d c new in
      let after = map.insert histories c z in
      let at = front d m p histories lock_ahead h o q made b id k is inside none free in
      let k_in = id_in d m p histories lock_ahead h o q made b id k is inside none free in
      let c_in = callee_in d (tx_begun o q) histories id k (subst (CallStack d (tx_begun o q) histories) at (recorded_line d p histories h.plain_well_formed o q made b own_tx)) is in
      let g = subst (λ i. map.get histories i ≡ Some k → has_callees i ≡ true → map.get histories (callee_of i k) ≡ None → GoesOn d p (map.insert histories (callee_of i k) (local_steps d (callee_of i k) (new_member (tx_begun o q) f v (calls_at i k true)))) o q (callee_of i k) own_tx.going.state.items) at
      (λ there few none. goes_called d p h.plain_well_formed o q made b histories own_tx k there f v call few none) is short gone in
      let ch = changed_one d m p histories lock_ahead h o q made b histories c z c_in
      (λ j y there e apart. alone_callee d p histories h.plain_well_formed o q made b own_tx j y there e (h.shadows.shows j y there e).tx apart id k (length k.answers) k_in is gone)
      (λ i. (local_steps_same d c new).ends i ∙ ap (ended_by d i) (sym gone)) (inr (origin_stays d c new).1) in
      all_goes d m p histories lock_ahead h o q made b after n lock_ahead ch (λ j y there e apart i is_in l. l) (λ u x other. rows_stay u x)
      (own_shows d m p histories lock_ahead h o q made b after n lock_ahead ch (λ j y there e apart i is_in l. l) (λ u x other. rows_stay u x) c own_tx.going.state.items g
      (λ x. subst (λ r. ShadowShows false (tail r) (value_at own_tx.going.state x)) (sym (rows_stay (tx_begun o q) x)) (settled d m p histories lock_ahead h o q made b id k is inside none free x (ap (λ e. lock_ahead id && writes_on x k.func e) call ∙ and_right (lock_ahead id) false refl))))
      (got_still d m n histories after lock_ahead lock_ahead h.shadows.got there_still (λ u x j. recorded_set histories c z (λ j w. got_by d u x j (lock_ahead j) (map.get histories j) ≡ true → got_by d u x j (lock_ahead j) w ≡ true)
      (λ e. let clash = sym e ∙ ap (got_by d u x c (lock_ahead c)) gone in cc) (λ j other e. e) j))

  -- a callee gives its outcome back
  return_goes : (id : IntentId) (i j : Instance) (c : ℕ) (u : Outcome) → map.get histories id ≡ Some i → map.get histories (child_of id c) ≡ Some j → j.enclosing ≡ Some (tx_begun o q) → j.outcome ≡ None → effect_of d j ≡ Effect.Return u
      → IsConsistent d n p (map.insert (map.insert histories (child_of id c) (ended j u)) id (advanced d id i (answer_of u))) lock_ahead
  return_goes id i j c u is called within none returns =
      let t = tx_begun o q in
      let e = child_of id c in
      let e_in = called_in d p histories h.plain_well_formed o q made b own_tx h.well_formed e j called within in
      let inside : tx_now d e j ≡ Some t = ap (λ w. or_own w (tx_by e j.func (length j.answers) (effect_of d j) (txs_after d j j.answers).begun)) within in
      let free = λ (g : ℕ) (w : Value) (x : effect_of d j ≡ Effect.Call g w). absurd (let clash = sym returns ∙ x in cc) in
      let at = front d m p histories lock_ahead h o q made b e j called inside none free in
      let w = waits_for d histories h.well_formed t e j (caller_in d histories h.well_formed t e j called within) within none in
      let same = child_same id w.caller c (length w.waiter.answers) w.is_callee in
      let waiter : w.waiter ≡ i = same_some (sym w.made ∙ ap (map.get histories) (sym same.0) ∙ is) in
      let call : effect_of d i ≡ Effect.Call j.func j.args = ap (effect_of d) (sym waiter) ∙ w.stands in
      let owner_in : IsIn t id = in_tx d p histories h.plain_well_formed o q made b own_tx h.well_formed id i is ((λ x. tx_now d (same.0 x) (sym waiter x)) ∙ sym w.enclosing ∙ within) in
      let over = ended j u in
      let f = map.insert histories e over in
      let back = advanced d id i (answer_of u) in
      let after = map.insert f id back in
      let there : map.get f id ≡ Some i = elsewhere histories e id over (λ x. not_own id c (sym x)) ∙ is in
      let own : is_owner t e ≡ false = not_owner d t q e (λ x. let clash = sym within ∙ owner_outside d p histories h.plain_well_formed o q made b own_tx j (ap (map.get histories) (sym x) ∙ called) in cc) in
      let g = subst (λ x. map.get histories x ≡ Some j → is_owner t x ≡ false → x ≡ child_of id c → GoesOn d p (map.insert (map.insert histories x over) id back) o q id own_tx.going.state.items) at
      (λ now off same. goes_returned d p h.plain_well_formed o q made b histories own_tx j now u (calls_at w.caller w.waiter true) returns off w.parent id c i same is) called own refl in
      let ch = changed_then d p histories f after o q
      (changed_one d m p histories lock_ahead h o q made b histories e over e_in (out_of d m p histories lock_ahead h o q made b e j e_in called) (λ x. ap (ended_by d x) (sym called)) (role_of d m p histories lock_ahead h o q made b e j over e_in called refl))
      (changed_one d m p histories lock_ahead h o q made b f id back owner_in (out_of d m p histories lock_ahead h o q made b id i owner_in is)
      (λ x. (moved_one d id i (answer_of u)).ends x ∙ ap (λ y. (txs_by (length i.answers) y (txs_after d i i.answers)).ends x) call ∙ ap (ended_by d x) (sym there))
      (role_of d m p histories lock_ahead h o q made b id i back owner_in is (moved_one d id i (answer_of u)).enclosing)) in
      all_goes d m p histories lock_ahead h o q made b after n lock_ahead ch (λ j y there e apart i is_in l. l) (λ u x other. rows_stay u x)
      (own_shows d m p histories lock_ahead h o q made b after n lock_ahead ch (λ j y there e apart i is_in l. l) (λ u x other. rows_stay u x) id own_tx.going.state.items g
      (λ x. subst (λ r. ShadowShows false (tail r) (value_at own_tx.going.state x)) (sym (rows_stay t x)) (settled d m p histories lock_ahead h o q made b e j called inside none free x (ap (λ y. lock_ahead e && writes_on x j.func y) returns ∙ and_right (lock_ahead e) false refl))))
      (got_still d m n histories after lock_ahead lock_ahead h.shadows.got there_still (λ s x y had.
      recorded_set f id back (λ y w. got_by d s x y (lock_ahead y) (map.get f y) ≡ true → got_by d s x y (lock_ahead y) w ≡ true)
      (λ g. got_passed d s x id i (answer_of u) (lock_ahead id) (ap touched call) (sym (ap (got_by d s x id (lock_ahead id)) there) ∙ g)) (λ y other g. g) y
      (recorded_set histories e over (λ y w. got_by d s x y (lock_ahead y) (map.get histories y) ≡ true → got_by d s x y (lock_ahead y) w ≡ true) (λ g. sym (ap (got_by d s x e (lock_ahead e)) called) ∙ g) (λ y other g. g) y had)))

pub calls_go : CallsGo
calls_go d m n p histories lock_ahead id k s f v h is inside call short gone same =
    subst (λ z. IsConsistent d n p (map.insert histories (callee_of id k) (local_steps d (callee_of id k) (new_member z f v (calls_at id k true)))) lock_ahead) (sym h.is)
    (call_goes d m n p histories lock_ahead h.sound s.intent h.owner h.made h.begun same id k f v is (inside ∙ ap (λ z. Some z) h.is) call short gone)

pub returns_go : ReturnsGo
returns_go d m n p histories lock_ahead id i j c s u h is called within none returns same =
    return_goes d m n p histories lock_ahead h.sound s.intent h.owner h.made h.begun same id i j c u is called (within ∙ ap (λ z. Some z) h.is) none returns
