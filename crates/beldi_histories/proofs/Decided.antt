-- The decision of an open transaction is its entry in the plain state, and all items are listed as that leaves them.
use Rattle.beldi_histories.proofs.Names.{AbortsAreEntries, AllPlain, AllShow, AllSound, Answer, AtEnd, Bool, Cause, Commits, CommitsAreEntries, Content, Deployment, Effect, Entry, FallsSo, FellAt, IsConsistent, Going, HoldersInsideAreMade, OnCallStack, Instance, IntentId, IsAbort, IsBelow, IsCommit, IsIn, IsKept, IsSound, Item, Kind, Histories, LeadsTo, List, LogMatches, Matches, Move, None, Older, OpenTx, Option, Owner, Place, PlainState, ReleasesList, Row, Rows, Runs, SameShadows, ShadowShows, Shows, Some, TouchedIn, Tx, TxId, Txs, Value, [], after_well_formed, answered, ap, arith, local_steps, begins, content, content_of, decision_by, decision_key, effect_of, end_of, ended_by, eq-eqb, eqb-true, false, false_from_ne_true, fell, gives, goes_on, head_key, here, id_cmp, id_total, if◌then◌else◌, inl, inr, is_at, is_committed, is_eq, is_holder, is_older, is_some, is_there, is_writing, key_same, last_answer, length, length-append, line_opened, listed, listed_under, log_key, opened, others, expected_read, expected_value, transactions_are_moves, place_of, places_come_once, read_at, refl, row_at, same_some, set_row, shadow_chain, shadow_key, shadow_row, slice_get, stands_there, stays, subst, sym, tail, tied_itself, true, tx_after, tx_at, tx_begun, tx_eq, txs_after, txs_by, txs_pushed, value_at, value_in, value_or, with_instance, writes_on, writing_at, ℕ, ◌&&◌, ◌++◌, ◌==◌, ◌∙◌, ◌∷◌, ◌≡◌, ◌≤◌, ◌⊎◌}
use Rattle.beldi_histories.proofs.Acts.{aside_apart, by_item, content_apart, is_data, is_shadow, kind_off, other_item, other_key, other_shadows, same_data, same_shadow}
use Rattle.beldi_histories.proofs.Outsides.{local_steps_opens, local_steps_stays, below_apart, fresh_next, goes_one, got_next, recorded_none_after, plain_none_after, set_next, shows_extends}
use Rattle.beldi_histories.proofs.Owns.{fall, got_owned, older, own, seen, touched_owned, unowned_kept}
use Rattle.beldi_histories.proofs.{Answers.true_false, Answers.take_front, Answers.get_next, AtPending.no_decision, AbortedInside.Fell, AbortedInside.cause_of, AbortedInside.later_is, Frame.moved_one, FrameAt.recorded_set, Callers.called_below, CallStacks.OwnerNow, CallStacks.front_is, CallStacks.member, CallStacks.outside, HistoryLists.lists_same, HistoryLists.lists_owned, Members.in_or_out, NoTx.IsOutside, NoTx.begins_parts, Unaborted.owner_lives, RowMaps.set_here, RowMaps.set_others, Cases.by_cases, LockRows.tx_same, LockRows.tx_self}
use Rattle.beldi_histories.proofs.Names.laws
use Rattle.beldi_histories.proofs.Names.map
use Rattle.beldi_histories.proofs.Names.plain

-- ---- the key of a decision is that of its transaction
place_in : Kind → Place
place_in (Kind.ReadLog a) = a
place_in k = record { intent = record { ticket = 0; hops = [] }; step = 0 }

decision_same : (s t : TxId) → decision_key s ≡ decision_key t → s ≡ t
unfolding place_in
decision_same s t h i = record { intent = (place_in (h i).kind).intent; begin = (place_in (h i).kind).step; func = (h i).home }

-- the transaction that owns, if one does
abbrev tx_in : TxId → Option Owner → TxId
tx_in t (Some (Tx z)) = z
tx_in t o = t

-- ---- what is listed
module _ (m : Rows) (s : TxId) (undecided : map.get m (decision_key s) ≡ None) (c : Bool) where
  abbrev decided : Rows
  decided = set_row m (decision_key s) (Some (Row.ReadLog (Value.Bool c)))

  -- of an item that it owns, by its decision; and of others as before
  abbrev Lists : Item → Type 0
  Lists x = (((content_of m x).owner ≡ Some (Tx s)) × (listed decided x ≡ (if c then value_in (shadow_row m s x) (listed m x) else listed m x)))
      ⊎ (((content_of m x).owner ≡ Some (Tx s) → ⊥) × (listed decided x ≡ listed m x))

  pub decision_lists : (x : Item) → Lists x
  decision_lists x = by_owner (content_of m x).owner refl
    where
      same : content_of decided x ≡ content_of m x
      same = content_apart m (decision_key s) (Some (Row.ReadLog (Value.Bool c))) x (kind_off is_data same_data (head_key x) (decision_key s) refl refl)

      shadow : (t : TxId) → shadow_chain decided t x ≡ shadow_chain m t x
      shadow t = aside_apart m (decision_key s) (Some (Row.ReadLog (Value.Bool c))) t x (kind_off is_shadow same_shadow (shadow_key t x) (decision_key s) refl refl)

      now : listed decided x ≡ listed_under decided x (content_of m x).owner (content_of m x).value
      now = ap (λ (z : Content). listed_under decided x z.owner z.value) same

      w : Value
      w = (content_of m x).value

      mine : (content_of m x).owner ≡ Some (Tx s) → listed decided x ≡ (if c then value_in (shadow_row m s x) (listed m x) else listed m x)
      mine is =
          let was : listed m x ≡ w = ap (λ o. listed_under m x o w) is ∙ ap (λ r. if is_committed r then value_in (shadow_row m s x) w else w) undecided in
          now ∙ ap (λ o. listed_under decided x o w) is ∙ (λ i. if is_committed (set_here m (decision_key s) (Some (Row.ReadLog (Value.Bool c))) i) then value_in (tail (shadow s i)) w else w) ∙ ap (λ z. if c then value_in (shadow_row m s x) z else z) (sym was)

      others : ((content_of m x).owner ≡ Some (Tx s) → ⊥) → listed decided x ≡ listed m x
      others away = lists_owned m decided x (ap (λ (z : Content). z.owner) same) (ap (λ (z : Content). z.value) same) (λ t v is i.
          if is_committed (set_others m (decision_key s) (Some (Row.ReadLog (Value.Bool c))) (decision_key t) (false_from_ne_true _ (λ e. away (is ∙ ap (λ z. Some (Tx z)) (decision_same t s (key_same (decision_key t) (decision_key s) e))))) i) then value_in (tail (shadow t i)) v else v)

      apart : ((content_of m x).owner ≡ Some (Tx s) → ⊥) → Lists x
      apart away = inr (away, others away)

      by_owner : (o : Option Owner) → (content_of m x).owner ≡ o → Lists x
      by_owner (Some (Tx t)) is = by_cases (tx_eq t s) (λ e. let own = is ∙ ap (λ z. Some (Tx z)) (tx_same t s e) in inl (own, mine own)) (λ e. apart (λ g. let k : t ≡ s = ap (tx_in t) (sym is ∙ g) in let clash = sym (tx_self s) ∙ ap (λ z. tx_eq z s) (sym k) ∙ e in cc))
      by_owner o is = apart (λ g. let clash = sym is ∙ g in cc)

abbrev intent_in : IntentId → Option Owner → IntentId
intent_in j (Some (Tx t)) = t.intent
intent_in j o = j

-- ---- an open transaction whose owner is at its End
module _ (d : Deployment) (m : Rows) (p : PlainState) (histories : Histories) (lock_ahead : IntentId → Bool) (h : IsSound d m p histories lock_ahead) (id : IntentId) (q k : Instance) (made : map.get p.made id ≡ Some q) (b : begins d q ≡ true) (is : map.get histories id ≡ Some k) (unlocked : lock_ahead id ≡ false) (c : Bool) (ends : effect_of d k ≡ Effect.End c) where
  abbrev t : TxId
  t = tx_begun id q

  abbrev tx : OpenTx d p histories id q
  tx = (h.shadows.shows id q made b).tx

  abbrev done : Instance
  done = answered k Answer.Done

  abbrev n : Rows
  n = laws.decided m t c

  abbrev more : Histories
  more = map.insert histories id (local_steps d id done)

  now : OwnerNow d (tx_begun id q) q k
  now = (member d p histories h.plain_well_formed id q made b tx id k (inl refl) is).owner refl

  at_start : OnCallStack d (tx_begun id q) (opened p id q)
  at_start = line_opened d p id q (begins_parts d q b).0

  undecided : map.get m (decision_key (tx_begun id q)) ≡ None
  undecided = ap (λ f. map.get m (log_key f (place_of id (length q.answers)))) (sym now.func) ∙ no_decision d m histories lock_ahead h.matches id k is (length q.answers) now.begun

  same_shadows : SameShadows m n
  same_shadows u x = aside_apart m (decision_key t) (Some (Row.ReadLog (Value.Bool c))) u x (kind_off is_shadow same_shadow (shadow_key u x) (decision_key t) refl refl)

  -- nobody else can step
  front : tx.going.active ≡ id
  front = front_is d p histories h.plain_well_formed id q made b tx id k (inl refl) is (now.open_still ∙ (begins_parts d q b).0) (λ f v call. let clash = sym ends ∙ call in cc)

  at_front : map.get tx.going.state.made tx.going.active ≡ Some k
  at_front = ap (map.get tx.going.state.made) front ∙ sym (tx.whole id (inl refl)) ∙ is

  off : (x : Item) → is_writing d lock_ahead x tx.going ≡ false
  off x = (λ i. writing_at d lock_ahead x (front i) (at_front i)) ∙ ap (λ l. l && writes_on x k.func (effect_of d k)) unlocked

  out : IsOutside d done done.answers
  out = (now.enclosing ∙ outside d p histories h.plain_well_formed id q made b tx, ap (λ (s : Txs). s.begun) (txs_pushed d k k.answers Answer.Done) ∙ ap (λ e. (txs_by (length k.answers) e (txs_after d k k.answers)).begun) ends)

  runs : Runs d p id q tx.moves tx.going
  runs = record { made = made; open_still = (begins_parts d q b).0; begins = (begins_parts d q b).1; leads = tx.leads }

  -- what it touched it owns
  owns : (x : Item) → TouchedIn d (tx_begun id q) (opened p id q) tx.moves x → (content_of m x).owner ≡ Some (Tx (tx_begun id q))
  owns x on = touched_owned d p histories h.well_formed h.plain_well_formed id q made b tx lock_ahead x m h.matches on

  differ : (j : IntentId) → is_eq (id_cmp j id) ≡ false → id ≡ j → ⊥
  differ j other same = true_false (sym (ap is_eq (tied_itself id_total id)) ∙ ap (λ y. is_eq (id_cmp y id)) same ∙ other)

  -- who is not in it is as in the plain state
  outs : (j : IntentId) → (IsIn (tx_begun id q) j → ⊥) → map.get tx.going.state.made j ≡ map.get p.made j
  outs j away = others d t (opened p id q) tx.moves tx.going at_start tx.leads j away ∙ stays p.made id j (answered q Answer.Done) (λ same. away (inl (sym same)))

  -- ---- with commit
  module _ (yes : c ≡ true) where
    committed : effect_of d k ≡ Effect.End true
    committed = ends ∙ ap Effect.End yes

    plainly : AllPlain tx.moves
    plainly = elim (fall d p histories h.well_formed h.plain_well_formed id q made b tx) [
      | inl e ↦ e
      | inr f ↦
          let same : f.up.instance ≡ k = same_some (sym f.up.made ∙ at_front) in
          elim f.up.rises [
            | inl r ↦ let clash = sym r.1 ∙ ap (effect_of d) same ∙ committed in cc
            | inr r ↦ let clash = sym r ∙ ap (effect_of d) same ∙ committed in cc
          ]
    ]

    abbrev state : PlainState
    state = gives tx.going.state id k Answer.Done

    abbrev commits : Commits d p id state
    commits = record { instance = q; moves = tx.moves; last = tx.going; runs = runs; plainly = plainly; ends = record { owner = front; stands = record { instance = k; made = at_front; effect = committed } }; is = refl }

    legal : plain.WellFormed d state
    legal = after_well_formed d p (Entry.CommittedTx id) state (transactions_are_moves.committed d p id state commits) h.plain_well_formed

    few : (f : map.FinMap id_cmp Instance) (j : IntentId) (z : Instance) → map.get f j ≡ Some z → (y : Instance) → map.get f j ≡ Some y → length y.answers ≤ length z.answers
    few f j z there y same = let l = ap (λ (w : Instance). length w.answers) (same_some (sym same ∙ there)) in omega (arith, l)

    -- the next one that it begins
    next_shows : begins d done ≡ true → Shows d n state more lock_ahead id done
    next_shows e =
        let u = tx_begun id done in
        let below = λ (i : IntentId) (w : IsBelow u i). stays histories id i (local_steps d id done) (below_apart u i w) ∙ recorded_none_after d histories h.well_formed u less i w
        ∙ sym (plain_none_after d state legal u (few state.made id done (here tx.going.state.made id done)) i w) in
        let o = local_steps_opens d state more id done e (here histories id (local_steps d id done)) below in
        record { tx = o; shadows = λ x. subst (λ r. ShadowShows (is_writing d lock_ahead x o.going) r (value_at o.going.state x)) (sym (ap tail (same_shadows u x) ∙ fresh_next d m p histories lock_ahead h.shadows h.extends h.well_formed h.matches h.plain_well_formed id k is Answer.Done out x)) tt }
      where
        less : (y : Instance) → map.get histories id ≡ Some y → length y.answers ≤ length done.answers
        less y same = let l = ap (λ (w : Instance). length w.answers) (same_some (sym same ∙ is)) in let r = length-append k.answers (Answer.Done ∷ []) in omega (arith, l, r)

    -- those of others
    other_shows : (j : IntentId) (z : Instance) → is_eq (id_cmp j id) ≡ false → map.get tx.going.state.made j ≡ Some z → begins d z ≡ true → Shows d n state more lock_ahead j z
    other_shows j z other there e = elim (in_or_out t j) [
      | inl inner ↦ absurd (differ j other (sym front ∙ front_is d p histories h.plain_well_formed id q made b tx j z inner (tx.whole j inner ∙ there) (begins_parts d z e).0 (λ f v call. let clash = sym (begins_parts d z e).1 ∙ call in cc)))
      | inr away ↦ extends_it (sym (outs j away) ∙ there)
    ]
      where
        u : TxId
        u = tx_begun j z

        extends_it : map.get p.made j ≡ Some z → Shows d n state more lock_ahead j z
        extends_it was = shows_extends d m n p state histories more lock_ahead j z e (h.shadows.shows j z was e) members knowns (same_shadows (tx_begun j z)) touches shadowed
          where
            now_there : map.get state.made j ≡ Some z
            now_there = stays tx.going.state.made id j done (differ j other) ∙ there

            members : (i : IntentId) → IsIn (tx_begun j z) i → map.get state.made i ≡ map.get p.made i
            members i (inl own) = ap (map.get state.made) own ∙ now_there ∙ sym was ∙ ap (map.get p.made) (sym own)
            members i (inr w) = plain_none_after d state legal (tx_begun j z) (few state.made j z now_there) i w ∙ sym (plain_none_after d p h.plain_well_formed (tx_begun j z) (few p.made j z was) i w)

            knowns : (i : IntentId) → IsIn (tx_begun j z) i → map.get more i ≡ map.get histories i
            knowns i (inl own) = stays histories id i (local_steps d id done) (λ same. differ j other (same ∙ own))
            knowns i (inr w) = stays histories id i (local_steps d id done) (λ same. let clash = sym made ∙ ap (map.get p.made) same ∙ plain_none_after d p h.plain_well_formed (tx_begun j z) (few p.made j z was) i w in cc)

            -- what another owns this one did not change
            agree : (x : Item) → (content_of m x).owner ≡ Some (Tx (tx_begun j z)) → value_at state x ≡ value_at p x
            agree x owned = unowned_kept d p histories h.well_formed h.plain_well_formed id q made b tx lock_ahead x m h.matches (λ mine. let same : Some (Tx (tx_begun id q)) ≡ Some (Tx (tx_begun j z)) = sym mine ∙ owned in differ j other (ap (intent_in id) same))

            touches : (x : Item) → TouchedIn d (tx_begun j z) (opened p j z) (h.shadows.shows j z was e).tx.moves x → value_at state x ≡ value_at p x
            touches x on = agree x (touched_owned d p histories h.well_formed h.plain_well_formed j z was e (h.shadows.shows j z was e).tx lock_ahead x m h.matches on)

            shadowed : (x : Item) → is_some (shadow_row m (tx_begun j z) x) ≡ true → value_at state x ≡ value_at p x
            shadowed x row = agree x (got_owned d p histories h.well_formed h.plain_well_formed j z was e (h.shadows.shows j z was e).tx lock_ahead x m h.matches (h.shadows.got (tx_begun j z) x row))

    shows : AllShow d n state more lock_ahead
    shows j z there e = recorded_set tx.going.state.made id done (λ j o. o ≡ Some z → Shows d n state more lock_ahead j z)
        (λ g. subst (Shows d n state more lock_ahead id) (same_some g) (next_shows (ap (begins d) (same_some g) ∙ e)))
        (λ j other g. other_shows j z other g e) j there

    same : (j : IntentId) (z : Instance) → map.get state.made j ≡ Some z → begins d z ≡ false → map.get more j ≡ Some z
    same j z there apart = recorded_set tx.going.state.made id done (λ j o. o ≡ Some z → map.get more j ≡ Some z)
        (λ g. here histories id (local_steps d id done) ∙ ap (λ y. Some y) (local_steps_stays d id done out (ap (begins d) (same_some g) ∙ apart) ∙ same_some g))
        (λ j other g. stays histories id j (local_steps d id done) (differ j other) ∙ elim (in_or_out t j) [
          | inl inner ↦ tx.whole j inner ∙ g
          | inr away ↦ h.extends.same j z (sym (outs j away) ∙ g) apart
        ]) j there

    -- who was called in it is in the plain state now
    kept : (j : IntentId) (z : Instance) → map.get state.made j ≡ None → map.get more j ≡ Some z → IsKept d more z
    kept j z = recorded_set tx.going.state.made id done (λ j o. o ≡ None → map.get more j ≡ Some z → IsKept d more z) (λ none. cc)
        (λ j other none now. still j none (sym (stays histories id j (local_steps d id done) (differ j other)) ∙ now)) j
      where
        ends_now : (e : ℕ) (z : ℕ) → end_of d (local_steps d id done) e ≡ Some (z, true) → (e ≡ (tx_begun id q).begin) ⊎ (end_of d k e ≡ Some (z, true))
        ends_now e z g = by_test (is_at e (txs_after d k k.answers).begun) refl (sym ((moved_one d id k Answer.Done).ends e ∙ ap (λ x. (txs_by (length k.answers) x (txs_after d k k.answers)).ends e) ends) ∙ g)
          where
            by_test : (u : Bool) → is_at e (txs_after d k k.answers).begun ≡ u → (if u then Some (length k.answers, c) else end_of d k e) ≡ Some (z, true) → (e ≡ (tx_begun id q).begin) ⊎ (end_of d k e ≡ Some (z, true))
            by_test true at g = inl (eqb-true e (length q.answers) (sym (ap (is_at e) now.begun) ∙ at))
            by_test false at g = inr g

        still : (j : IntentId) → map.get tx.going.state.made j ≡ None → map.get histories j ≡ Some z → IsKept d more z
        still j none there = elim (in_or_out t j) [
          | inl inner ↦ let clash = sym none ∙ sym (tx.whole j inner) ∙ there in cc
          | inr away ↦
              let w = h.extends.kept j z (sym (outs j away) ∙ none) there in
              record {
                tx = w.tx;
                enclosing = w.enclosing;
                uncommitted = λ l g. recorded_set histories id (local_steps d id done) (λ i o. w.tx.intent ≡ i → ended_by d w.tx.begin o ≡ Some (l, true) → ⊥)
                    (λ own e. elim (ends_now w.tx.begin l e) [
                      | inl start ↦ away (inr (its_own (called_below d histories h.well_formed w.tx j z there w.enclosing) own start))
                      | inr was ↦ w.uncommitted l (ap (λ i. ended_by d w.tx.begin (map.get histories i)) own ∙ ap (ended_by d w.tx.begin) is ∙ was)
                    ])
                    (λ i other own e. w.uncommitted l (ap (λ i. ended_by d w.tx.begin (map.get histories i)) own ∙ e)) w.tx.intent refl g;
              }
        ]
          where
            its_own : {u : TxId} → IsBelow u j → u.intent ≡ id → u.begin ≡ (tx_begun id q).begin → IsBelow (tx_begun id q) j
            its_own {u} w own start = record { step = w.step; later = let l = w.later in omega (arith, l, start); hops = w.hops; is = w.is ∙ ap (λ (i : IntentId). record { ticket = i.ticket; hops = i.hops ++ w.step ∷ w.hops }) own }

    commit_lists : ((x : Item) → listed m x ≡ value_at p x) → (x : Item) → listed n x ≡ value_at state x
    commit_lists values x = elim (decision_lists m t undecided c x) [
      | inl l ↦ l.1 ∙ ap (λ u. if u then value_in (shadow_row m t x) (listed m x) else listed m x) yes ∙ ap (value_in (shadow_row m t x)) (values x)
          ∙ seen d p histories h.well_formed h.plain_well_formed id q made b tx lock_ahead x m h.matches ((h.shadows.shows id q made b).shadows x) (off x)
      | inr l ↦ l.1 ∙ values x ∙ sym (unowned_kept d p histories h.well_formed h.plain_well_formed id q made b tx lock_ahead x m h.matches l.0)
    ]

    commit : ((x : Item) → listed m x ≡ value_at p x) → IsCommit d m n p more lock_ahead (tx_begun id q)
    commit values = record {
      state = state;
      commits = commits;
      touched = owns;
      lists = commit_lists values;
      goes = record {
        extends = record { same = same; begun = λ j z there e. (shows j z there e).tx; kept = kept };
        shadows = record { shows = shows; got = got_next d m histories lock_ahead h.shadows.got n same_shadows id k is unlocked Answer.Done };
      };
    }

  -- ---- without commit
  module _ (no : c ≡ false) (holders : HoldersInsideAreMade d p histories) where
    ended_so : effect_of d k ≡ Effect.End false
    ended_so = ends ∙ ap Effect.End no

    abbrev kept_so : PlainState
    kept_so = with_instance p id done

    goes : IsConsistent d n kept_so more lock_ahead
    goes = goes_one d m p histories lock_ahead h.shadows h.extends id done
        (set_next d m p histories lock_ahead h.shadows h.extends h.well_formed h.matches h.plain_well_formed id k is Answer.Done out (λ e. let clash = sym ended_so ∙ e in cc)) n same_shadows (got_next d m histories lock_ahead h.shadows.got n same_shadows id k is unlocked Answer.Done)

    abort_lists : (x : Item) → listed n x ≡ listed m x
    abort_lists x = elim (decision_lists m t undecided c x) [
      | inl l ↦ l.1 ∙ ap (λ u. if u then value_in (shadow_row m t x) (listed m x) else listed m x) no
      | inr l ↦ l.1
    ]

    abbrev Tries : Type 0
    Tries = IsAbort d m n p more lock_ahead (tx_begun id q) k

    abbrev end_there : AtEnd d id tx.going false
    end_there = record { owner = front; stands = record { instance = k; made = at_front; effect = ended_so } }

    -- who stands at its place does
    stands_so : (s : Going) (z : Instance) → map.get s.state.made s.active ≡ Some z → is_there (place_of s.active (length z.answers)) s ≡ true
    stands_so s z there = ap (stands_there (place_of s.active (length z.answers)) s) there ∙ (λ i. is_eq (tied_itself id_total s.active i) && eq-eqb (length z.answers) (length z.answers) refl i)

    -- the abort of who stands there, by what led there and what followed
    abort_at : (holder : Option IntentId) (before : List Move) (there : Going) (z : Instance) → map.get there.state.made there.active ≡ Some z → LeadsTo d t (opened p id q) before there → AllPlain before → is_holder p id holder ≡ true → (since : List Move) → LeadsTo d t there since tx.going → FallsSo holder since
        → ((x : Item) → TouchedIn d t (opened p id q) before x → TouchedIn d t (opened p id q) tx.moves x) → FellAt id (length k.answers) (last_answer k.answers) (place_of there.active (length z.answers)) holder → Tries
    abort_at holder before there z stood led plainly old since leads falls touches fell_there = let place = place_of there.active (length z.answers) in record {
      place = place;
      holder = holder;
      aborts = record {
        instance = q;
        before = before;
        there = there;
        runs = record { made = made; open_still = (begins_parts d q b).0; begins = (begins_parts d q b).1; leads = led };
        plainly = plainly;
        first = places_come_once d t place (opened p id q) before there at_start led (stands_so there z stood);
        stands = stands_so there z stood;
        older = old;
        since = since;
        last = tx.going;
        leads = leads;
        falls = falls;
        ends = end_there;
        is = refl;
      };
      touched = λ x on. owns x (touches x on);
      fell = fell_there;
      lists = abort_lists;
      goes = goes;
    }

    -- a fault led to the End
    by_fault : AllPlain tx.moves → Tries
    by_fault plainly = abort_at None tx.moves tx.going k at_front tx.leads plainly refl [] refl refl (λ x on. on)
        (by_last (last_answer k.answers) (λ e. owner_lives d p h.plain_well_formed id q made tx.moves tx.going at_start plainly tx.leads k (sym (tx.whole id (inl refl)) ∙ is) e))
      where
        by_last : (o : Option Answer) → ((e : Cause) → o ≡ Some (Answer.Aborted e) → ⊥) → FellAt id (length k.answers) o (place_of tx.going.active (length k.answers)) None
        by_last (Some (Answer.Aborted e)) none = absurd (none e refl)
        by_last o none = (ap (λ i. place_of i (length k.answers)) front, refl)

    -- or something was aborted
    by_fall : Fell d t q (own d p histories h.well_formed h.plain_well_formed id q made b tx) refl (opened p id q) tx.moves tx.going → Tries
    by_fall f = abort_at f.holder f.before f.there f.faller f.made f.to f.plainly (by_holder f.holder refl) (fell f.holder ∷ f.since) f.parent (refl, f.upwards)
        (λ x on. subst (λ ms. TouchedIn d t (opened p id q) ms x) (sym f.whole) (touched_more (opened p id q) f.before x on))
        (subst (λ o. FellAt id (length k.answers) o (place_of f.there.active (length f.faller.answers)) f.holder) (sym told) (refl, refl))
      where
        touched_more : (s : Going) (ms : List Move) (x : Item) → TouchedIn d (tx_begun id q) s ms x → TouchedIn d (tx_begun id q) s (ms ++ fell f.holder ∷ f.since) x
        touched_more s [] x on = absurd on
        touched_more s (w ∷ ms) x (inl on) = inl on
        touched_more s (w ∷ ms) x (inr on) = inr (on.0, on.1, touched_more on.0 ms x on.2)

        -- the owner was told so last
        told : last_answer k.answers ≡ Some (Answer.Aborted (cause_of d t q (own d p histories h.well_formed h.plain_well_formed id q made b tx) refl f.there.active f.faller f.holder))
        told =
            let same : f.up.instance ≡ k = same_some (sym f.up.made ∙ at_front) in
            elim f.up.rises [
              | inl r ↦ ap (λ (z : Instance). last_answer z.answers) (sym same) ∙ r.2
              | inr r ↦ let clash = sym r ∙ ap (effect_of d) same ∙ ended_so in cc
            ]

        older_at : (xs ys : List Move) (w : Move) → AllSound (tx_begun id q) (xs ++ w ∷ ys) → Older (tx_begun id q) w
        older_at [] ys w all = all.0
        older_at (x ∷ xs) ys w all = older_at xs ys w all.1

        -- who let it die was made, and is older
        by_holder : (o : Option IntentId) → f.holder ≡ o → is_holder p id o ≡ true
        by_holder None e = refl
        by_holder (Some u) e =
            let z = f.faller in
            let y = f.told.instance in
            let a = Answer.Aborted (record { place = place_of f.there.active (length z.answers); holder = f.holder }) in
            let later = later_is z y a f.told.grown in
            let step : slice_get y.answers (length z.answers) ≡ Some a = ap (λ (w : Instance). slice_get w.answers (length z.answers)) later ∙ get_next z.answers f.told.grown.later a in
            let inside : is_some (tx_at d f.there.active y (length z.answers)) ≡ true =
            ap (λ (w : Instance). is_some (tx_at d f.there.active w (length z.answers))) later ∙ ap (λ ts. is_some (tx_after d f.there.active z ts)) (take_front z.answers (a ∷ f.told.grown.later)) ∙ ap is_some f.told.inside in
            let old = subst (Older t) (ap fell e) (older_at f.before f.since (fell f.holder) (subst (AllSound t) f.whole (older d p histories h.well_formed h.plain_well_formed id q made b tx))) in
            (λ i. holders f.there.active y (length z.answers) (record { place = place_of f.there.active (length z.answers); holder = f.holder }) u (tx.whole f.there.active f.told.member ∙ f.told.made) inside step e i && is_older u id) ∙ old

    abort_made : Tries
    abort_made = elim (fall d p histories h.well_formed h.plain_well_formed id q made b tx) [
      | inl e ↦ by_fault e
      | inr f ↦ by_fall f
    ]

-- an open transaction's decision is its commit, where it commits
pub commits_are_entries : CommitsAreEntries
commits_are_entries d m p histories lock_ahead s k o is ends unlocked values =
    subst (λ z. IsCommit d m (laws.decided m z true) p (map.insert histories z.intent (goes_on d z.intent k Answer.Done)) lock_ahead z) (sym o.is) (commit d m p histories lock_ahead o.sound s.intent o.owner k o.made o.begun is unlocked true ends refl values)

-- .. and the abort, where it does not
pub aborts_are_entries : AbortsAreEntries
aborts_are_entries d m p histories lock_ahead s k o is ends unlocked holders =
    subst (λ z. IsAbort d m (laws.decided m z false) p (map.insert histories z.intent (goes_on d z.intent k Answer.Done)) lock_ahead z k) (sym o.is) (abort_made d m p histories lock_ahead o.sound s.intent o.owner k o.made o.begun is unlocked false ends refl holders)

-- ---- a release: the value that it leaves is the one that was listed
pub release_lists : ReleasesList
release_lists m n x s alone owned free value y = by_item x y (λ y. listed n y ≡ listed m y)
    (ap (λ o. listed_under n x o (content_of n x).value) free ∙ value ∙ ap (λ o. listed_under m x o (content_of m x).value) (sym owned))
    (λ other. lists_same m n y (ap content (other_item m n x alone y other)) (λ t. other_key m n x alone (decision_key t) refl) (λ t. other_shadows m n x alone t y))

-- .. by how its transaction is known to have ended
pub decision_row : (d : Deployment) (m : Rows) (histories : Histories) (lock_ahead : IntentId → Bool) → Matches d m histories lock_ahead → (s : TxId) (k : Instance) (n : ℕ) (c : Bool) → map.get histories s.intent ≡ Some k → k.func ≡ s.func → end_of d k s.begin ≡ Some (n, c) → is_committed (map.get m (decision_key s)) ≡ c
decision_row d m histories lock_ahead matches s k n c is func ends = by_row (map.get m (decision_key s)) (subst (LogMatches (map.get m (decision_key s))) expected (matches.keys (decision_key s)))
  where
    expected : expected_read d histories s.func (place_of s.intent s.begin) ≡ Some (Value.Bool c)
    expected = ap (expected_value d s.func s.begin) is ∙ ap (λ b. if b then row_at d k s.begin else None) (ap (λ f. f == s.func) func ∙ eq-eqb s.func s.func refl) ∙ ap (λ o. value_or (decision_by o) (read_at d k s.begin)) ends

    by_row : (r : Option Row) → LogMatches r (Some (Value.Bool c)) → is_committed r ≡ c
    by_row None h = cc
    by_row (Some (Row.ReadLog v)) h = ap (λ w. is_committed (Some (Row.ReadLog w))) (sym (same_some h))
    by_row (Some r) h = absurd h
