-- Who is in an open transaction: its owner, and all that were called in it. Of those that have no outcome one can step, and each other
-- waits for the next.
use Rattle.std.specs.Prelude.{is_some}
use Rattle.beldi_plain.specs.{Moves.after_move, Moves.Leads, Transaction.is_owner}
use Rattle.beldi_histories.proofs.Names.{Answer, Answers, Extends, Bool, Calls, Deployment, Effect, FinMap, Going, OnCallStack, Instance, IntentId, IsBelow, IsIn, Histories, CallStack, List, Move, MoveIs, None, OpenTx, OpensAreOpen, PlainOwner, PlainState, Returns, WellFormedHistories, WellFormedWith, Some, TxId, Txs, Value, [], all_in, local_answer, answer_of, answered, answered_plainly, answers, ap, append-nil, append_assoc, arith, begins, begun_pushed, callee_of, calls, calls_at, child_of, child_same, cond, effect_of, ended, equal, false, get-insert, id_cmp, id_total, in_line, inl, inr, is_begin, is_edge, is_eq, last_hop, length, length-append, line_alike, line_moved, line_opened, long, longer, move_is, mover, new_member, next, none_below, not_longer, opened, or_own, outside_of, plainly_edge, refl, returned, returns, same_some, well_formed_with, subst, sym, tied_itself, top, true, tx_begun, tx_by, tx_now, txs_after, txs_by, txs_pushed, ℕ, ◌++◌, ◌<◌, ◌∙◌, ◌∷◌, ◌≡◌, ◌⊎◌}
use Rattle.beldi_histories.proofs.{NoTx.begins_parts, Callers.called_below, OwnTx.own_intent, Participants.IsOpenOwner, Participants.open_owner, Cases.by_option, Cases.by_cases}
use Rattle.beldi_histories.proofs.Names.map
use Rattle.beldi_histories.proofs.Names.plain

-- ---- ids
-- an id, or one that was called below it
pub record Above (i j : IntentId) : Type 0 where
  pub hops : List ℕ
  pub is : j ≡ record { ticket = i.ticket; hops = i.hops ++ hops }

above_self : (i : IntentId) → Above i i
above_self i = record { hops = []; is = ap (λ hs. record { ticket = i.ticket; hops = hs }) (sym (append-nil i.hops)) }

above_child : (i j : IntentId) (n : ℕ) → Above i j → Above i (child_of j n)
above_child i j n h = record { hops = h.hops ++ n ∷ []; is = ap (λ z. child_of z n) h.is ∙ ap (λ hs. record { ticket = i.ticket; hops = hs }) (append_assoc i.hops h.hops (n ∷ [])) }

above_parent : (i j : IntentId) (n : ℕ) → Above i (child_of j n) → (i ≡ child_of j n) ⊎ Above i j
above_parent i j n h = elim (last_hop h.hops) [
  | inl e ↦ inl (sym (h.is ∙ ap (λ hs. record { ticket = i.ticket; hops = i.hops ++ hs }) e ∙ ap (λ hs. record { ticket = i.ticket; hops = hs }) (append-nil i.hops)))
  | inr r ↦
      let up : IntentId = record { ticket = i.ticket; hops = i.hops ++ r.0 } in
      let same : child_of j n ≡ child_of up r.1 = h.is ∙ ap (λ hs. record { ticket = i.ticket; hops = hs }) (ap (λ hs. i.hops ++ hs) r.2 ∙ sym (append_assoc i.hops r.0 (r.1 ∷ []))) in
      inr (record { hops = r.0; is = (child_same j up n r.1 same).0 })
]

-- who is in a transaction was called by one that is, or is its owner
pub parent_in : (t : TxId) (i : IntentId) (n : ℕ) → IsIn t (child_of i n) → (child_of i n ≡ t.intent) ⊎ IsIn t i
parent_in t i n (inl own) = inl own
parent_in t i n (inr b) = elim (last_hop b.hops) [
  | inl e ↦
      let same : child_of i n ≡ child_of t.intent b.step = b.is ∙ ap (λ hs. record { ticket = t.intent.ticket; hops = t.intent.hops ++ b.step ∷ hs }) e in
      inr (inl (child_same i t.intent n b.step same).0)
  | inr r ↦
      let up : IntentId = record { ticket = t.intent.ticket; hops = t.intent.hops ++ b.step ∷ r.0 } in
      let same : child_of i n ≡ child_of up r.1 = b.is ∙ ap (λ hs. record { ticket = t.intent.ticket; hops = hs }) (ap (λ hs. t.intent.hops ++ b.step ∷ hs) r.2 ∙ sym (append_assoc t.intent.hops (b.step ∷ r.0) (r.1 ∷ []))) in
      inr (inr (record { step = b.step; later = b.later; hops = r.0; is = (child_same i up n r.1 same).0 }))
]

-- what is found where one was set
pub set_cases : (f : FinMap id_cmp Instance) (k i : IntentId) (s w : Instance) → map.get (map.insert f k s) i ≡ Some w → ((i ≡ k) × (s ≡ w)) ⊎ ((i ≡ k → ⊥) × (map.get f i ≡ Some w))
set_cases f k i s w has = let found = λ (b : Bool) (e : is_eq (id_cmp i k) ≡ b). sym (get-insert id_total f k s i ∙ ap (λ b. cond b (Some s) (map.get f i)) e) ∙ has in by_cases (is_eq (id_cmp i k))
    (λ e. inl (equal i k e, same_some (found true e)))
    (λ e. inr (λ same. let c = sym e ∙ ap (λ z. is_eq (id_cmp z k)) same ∙ ap is_eq (tied_itself id_total k) in cc, found false e))

-- of the plain state an open transaction has its owner alone
pub owner_alone : (d : Deployment) (p : PlainState) → plain.WellFormed d p → (id : IntentId) (q : Instance) → map.get p.made id ≡ Some q → (i : IntentId) (z : Instance) → IsIn (tx_begun id q) i → map.get p.made i ≡ Some z → i ≡ id
owner_alone d p legal id q made i z (inl own) is = own
owner_alone d p legal id q made i z (inr below) is = let clash = sym is ∙ none_below d p.made (well_formed_with d p legal) id q i made below in cc

-- ---- members
-- the owner, as it stood at its Begin but for its answers: it is begun
pub record OwnerNow (d : Deployment) (t : TxId) (q z : Instance) : Type 0 where
  pub func : z.func ≡ q.func
  pub args : z.args ≡ q.args
  pub parent : z.parent ≡ q.parent
  pub enclosing : z.enclosing ≡ q.enclosing
  pub open_still : z.outcome ≡ q.outcome
  pub begun : (txs_after d z z.answers).begun ≡ Some t.begin

-- one that is made, where this one can step
pub record Member (d : Deployment) (t : TxId) (q : Instance) (front i : IntentId) (z : Instance) : Type 0 where
  pub owner : i ≡ t.intent → OwnerNow d t q z
  pub below : IsBelow t i → z.enclosing ≡ Some t
  pub above : z.outcome ≡ None → Above i front

abbrev pub Members : Deployment → TxId → Instance → Going → Type 0
Members d t q s = (i : IntentId) (z : Instance) → IsIn t i → map.get s.state.made i ≡ Some z → Member d t q s.active i z

module _ (d : Deployment) (t : TxId) (q : Instance) where
  owner_answered : (z : Instance) (a : Answer) → is_edge (effect_of d z) ≡ false → OwnerNow d t q z → OwnerNow d t q (answered z a)
  owner_answered z a edge h = record { func = h.func; args = h.args; parent = h.parent; enclosing = h.enclosing; open_still = h.open_still; begun = begun_pushed d z a edge ∙ h.begun }

  member_answered : (front : IntentId) (i k : IntentId) (z w : Instance) (a : Answer) → is_edge (effect_of d z) ≡ false → Member d t q front k z → (i ≡ k) × (answered z a ≡ w) → Member d t q k i w
  member_answered front i k z w a edge h same = subst (Member d t q k i) same.1
      (record { owner = λ own. owner_answered z a edge (h.owner (sym same.0 ∙ own)); below = λ b. h.below (subst (IsBelow t) same.0 b); above = λ none. subst (Above i) same.0 (above_self i) })

  module _ (m : Move) (s r : Going) (line : OnCallStack d t s) (h : Members d t q s) where
    front_in : IsIn t s.active
    front_in = all_in d t s.state.made s.active line

    by_answer : (z : Instance) → map.get s.state.made s.active ≡ Some z → (a : Answers d t m s r z) → Members d t q r
    by_answer z made a = subst (Members d t q) (sym a.is) (λ i w is_in has. elim (set_cases s.state.made s.active i (answered z a.answer) w has) [
      | inl same ↦ member_answered s.active i s.active z w a.answer (plainly_edge (effect_of d z) (answered_plainly s.active s.state.items z (effect_of d z) m a.answer a.gives_it)) (h s.active z front_in made) same
      | inr other ↦ h i w is_in other.1
    ])

    by_call : (z : Instance) → map.get s.state.made s.active ≡ Some z → (c : Calls d t m s r z) → Members d t q r
    by_call z made c =
        let k = callee_of s.active z in
        let lt : length t.intent.hops < length k.hops = let n = long d t s.state.made s.active line in let l = longer s.active (length z.answers) in omega (arith, n, l) in
        subst (Members d t q) (sym c.is) (λ i w is_in has. elim (set_cases s.state.made k i (new_member t c.func c.args (calls_at s.active z true)) w has) [
          | inl same ↦ record {
            owner = λ own. absurd (not_longer t.intent k lt (sym same.0 ∙ own));
            below = λ b. ap (λ (x : Instance). x.enclosing) (sym same.1);
            above = λ none. subst (Above i) same.0 (above_self i);
          }
          | inr other ↦ let o = h i w is_in other.1 in record { owner = o.owner; below = o.below; above = λ none. above_child i s.active (length z.answers) (o.above none) }
        ])

    by_return : (z : Instance) → map.get s.state.made s.active ≡ Some z → (e : Returns d t m s r z) → Members d t q r
    by_return z made e =
        let u = returned d t m s r z made line e in
        let over = map.insert s.state.made s.active (ended z e.outcome) in
        subst (Members d t q) (sym u.is) (λ i w is_in has. elim (set_cases over u.caller i (answered u.member.waiter (answer_of e.outcome)) w has) [
          | inl same ↦ member_answered s.active i u.caller u.member.waiter w (answer_of e.outcome) (ap is_edge u.member.called) (h u.caller u.member.waiter (all_in d t s.state.made u.caller u.line) u.member.waits) same
          | inr other ↦ elim (set_cases s.state.made s.active i (ended z e.outcome) w other.1) [
            | inl same ↦ subst (Member d t q u.caller i) same.1 (record {
              owner = λ own. let c = sym e.not_owner ∙ ap (is_owner t) (sym same.0 ∙ own) ∙ ap is_eq (tied_itself id_total t.intent) in cc;
              below = λ b. (h s.active z front_in made).below (subst (IsBelow t) same.0 b);
              above = λ none. cc;
            })
            | inr apart ↦ let o = h i w is_in apart.1 in record {
              owner = o.owner;
              below = o.below;
              above = λ none. elim (above_parent i u.caller (length u.member.waiter.answers) (subst (Above i) u.member.is_callee (o.above none))) [
                | inl same ↦ absurd (apart.0 (same ∙ sym u.member.is_callee))
                | inr a ↦ a
              ];
            }
          ]
        ])

    members_moved : after_move d t m s ≡ Some r → Members d t q r
    members_moved step = let z = mover d t m s r step in by_kind z.0 z.1 (move_is d t m s z.0 r z.1 step)
      where
        by_kind : (z : Instance) → map.get s.state.made s.active ≡ Some z → MoveIs d t m s r z → Members d t q r
        by_kind z made (answers a) = by_answer z made a
        by_kind z made (calls c) = by_call z made c
        by_kind z made (returns e) = by_return z made e

  pub members_led : (s : Going) (moves : List Move) (l : Going) → OnCallStack d t s → Members d t q s → Leads d t s moves l → Members d t q l
  members_led s [] l line h leads = subst (Members d t q) leads h
  members_led s (m ∷ ms) l line h leads = members_led leads.0 ms l (line_moved d t m s leads.0 line leads.1) (members_moved m s leads.0 line h leads.1) leads.2

-- ---- the line: all but its last wait for a callee that is there
record Waits (d : Deployment) (f : FinMap id_cmp Instance) (i : IntentId) : Type 0 where
  instance : Instance
  made : map.get f i ≡ Some instance
  func : ℕ
  args : Value
  call : effect_of d instance ≡ Effect.Call func args
  callee : is_some (map.get f (callee_of i instance)) ≡ true

module _ (d : Deployment) (t : TxId) (f : FinMap id_cmp Instance) where
  last_or_waits : (j : IntentId) → CallStack d t f j → (i : IntentId) → Above i j → IsIn t i → (i ≡ j) ⊎ Waits d f i
  last_or_waits j (top _ h) i a (inl own) = inl (own ∙ sym h.own)
  last_or_waits j (top _ h) i a (inr b) =
      let l = length-append i.hops a.hops in
      let m = length-append t.intent.hops (b.step ∷ b.hops) in
      let x = ap (λ (z : IntentId). length z.hops) (sym h.own ∙ a.is) in
      let y = ap (λ (z : IntentId). length z.hops) b.is in
      absurd (omega (arith, l, m, x, y))
  last_or_waits j (next k _ l h) i a is_in = elim (above_parent i k (length h.waiter.answers) (subst (Above i) h.is_callee a)) [
    | inl e ↦ inl (e ∙ sym h.is_callee)
    | inr up ↦ elim (last_or_waits k l i up is_in) [
      | inl same ↦ inr (record {
        instance = h.waiter;
        made = ap (map.get f) same ∙ h.waits;
        func = h.instance.func;
        args = h.instance.args;
        call = h.called;
        callee = ap (λ z. is_some (map.get f z)) (ap (λ z. callee_of z h.waiter) same ∙ sym h.is_callee) ∙ ap is_some h.made;
      })
      | inr w ↦ inr w
    ]
  ]

  first_of : (j : IntentId) → CallStack d t f j → (z : Instance) × (map.get f t.intent ≡ Some z)
  first_of j (top _ h) = (h.instance, ap (map.get f) (sym h.own) ∙ h.made)
  first_of j (next k _ l h) = first_of k l

-- ---- an open transaction
module _ (d : Deployment) (p : PlainState) (histories : Histories) (well_formed : plain.WellFormed d p) (id : IntentId) (q : Instance) (made : map.get p.made id ≡ Some q) (b : begins d q ≡ true) (tx : OpenTx d p histories id q) where
  abbrev this : TxId
  this = tx_begun id q

  good : WellFormedWith d None p.made
  good = well_formed_with d p well_formed

  pub line : OnCallStack d (tx_begun id q) tx.going
  line = in_line d this (opened p id q) tx.moves tx.going (line_opened d p id q (begins_parts d q b).0) tx.leads

  -- .. in what the histories have
  pub recorded_line : CallStack d (tx_begun id q) histories tx.going.active
  recorded_line = line_alike d this tx.going.state.made histories tx.going.active tx.whole line

  pub front_in_tx : IsIn (tx_begun id q) tx.going.active
  front_in_tx = all_in d this tx.going.state.made tx.going.active line

  -- at first there is its owner alone
  at_first : Members d (tx_begun id q) q (opened p id q)
  at_first i z is_in has = elim (set_cases p.made id i (answered q Answer.Done) z has) [
    | inl same ↦ subst (Member d this q id i) same.1 (record {
      owner = λ own. record {
        func = refl;
        args = refl;
        parent = refl;
        enclosing = refl;
        open_still = refl;
        begun = ap (λ (s : Txs). s.begun) (txs_pushed d q q.answers Answer.Done) ∙ ap (λ e. (txs_by (length q.answers) e (txs_after d q q.answers)).begun) (begins_parts d q b).1;
      };
      below = λ h. let clash = sym made ∙ ap (map.get p.made) (sym same.0) ∙ none_below d p.made good id q i made h in cc;
      above = λ none. subst (Above i) same.0 (above_self i);
    })
    | inr other ↦ absurd (other.0 (owner_alone d p well_formed id q made i z is_in other.1))
  ]

  pub member : (i : IntentId) (z : Instance) → IsIn (tx_begun id q) i → map.get histories i ≡ Some z → Member d (tx_begun id q) q tx.going.active i z
  member i z is_in is = members_led d this q (opened p id q) tx.moves tx.going (line_opened d p id q (begins_parts d q b).0) at_first tx.leads i z is_in (sym (tx.whole i is_in) ∙ is)

  pub member_is : (i : IntentId) (z : Instance) → IsIn (tx_begun id q) i → map.get histories i ≡ Some z → (i ≡ id) ⊎ (z.enclosing ≡ Some (tx_begun id q))
  member_is i z (inl own) is = inl own
  member_is i z (inr h) is = inr ((member i z (inr h) is).below h)

  -- its owner was called in none
  pub outside : q.enclosing ≡ None
  outside = outside_of d None p.made good refl id q made (begins_parts d q b).0

  pub owner_is : (z : Instance) × (map.get histories id ≡ Some z) × OwnerNow d (tx_begun id q) q z
  owner_is = let w = first_of d this histories tx.going.active recorded_line in (w.0, w.1, (member id w.0 (inl refl) w.1).owner refl)

  pub owner_outside : (z : Instance) → map.get histories id ≡ Some z → z.enclosing ≡ None
  owner_outside z is = ((member id z (inl refl) is).owner refl).enclosing ∙ outside

  -- who can step: it has no outcome, and waits for nobody
  pub front_is : (i : IntentId) (z : Instance) → IsIn (tx_begun id q) i → map.get histories i ≡ Some z → z.outcome ≡ None → ((f : ℕ) (v : Value) → effect_of d z ≡ Effect.Call f v → map.get histories (callee_of i z) ≡ None) → tx.going.active ≡ i
  front_is i z is_in is none free = elim (last_or_waits d this histories tx.going.active recorded_line i ((member i z is_in is).above none) is_in) [
    | inl same ↦ sym same
    | inr w ↦
        let same : w.instance ≡ z = same_some (sym w.made ∙ is) in
        let clash = sym w.callee ∙ ap (λ y. is_some (map.get histories (callee_of i y))) same ∙ ap is_some (free w.func w.args (ap (effect_of d) (sym same) ∙ w.call)) in cc
  ]

  -- ---- who was called in it is in it
  module _ (known_sane : WellFormedHistories d histories) where
    pub called_in : (i : IntentId) (z : Instance) → map.get histories i ≡ Some z → z.enclosing ≡ Some (tx_begun id q) → IsIn (tx_begun id q) i
    called_in i z is within = inr (called_below d histories known_sane this i z is within)

    pub in_tx : (i : IntentId) (z : Instance) → map.get histories i ≡ Some z → tx_now d i z ≡ Some (tx_begun id q) → IsIn (tx_begun id q) i
    in_tx i z is now = by_option z.enclosing
        (λ e. inl (sym (own_intent i z.func (length z.answers) (effect_of d z) (txs_after d z z.answers).begun (tx_begun id q) (sym (ap (λ x. or_own x (tx_by i z.func (length z.answers) (effect_of d z) (txs_after d z z.answers).begun)) e) ∙ now))))
        (λ x e. called_in i z is (e ∙ sym (ap (λ x. or_own x (tx_by i z.func (length z.answers) (effect_of d z) (txs_after d z z.answers).begun)) e) ∙ now))

-- ---- two of them share nobody that is known
module _ (d : Deployment) (p : PlainState) (histories : Histories) (well_formed : plain.WellFormed d p) (id : IntentId) (q : Instance) (made : map.get p.made id ≡ Some q) (b : begins d q ≡ true) (tx : OpenTx d p histories id q)
    (j : IntentId) (y : Instance) (there : map.get p.made j ≡ Some y) (c : begins d y ≡ true) (other : OpenTx d p histories j y) (apart : id ≡ j → ⊥) where
  pub alone : (i : IntentId) (z : Instance) → IsIn (tx_begun id q) i → map.get histories i ≡ Some z → IsIn (tx_begun j y) i → ⊥
  alone i z (inl own) is (inl also) = apart (sym own ∙ also)
  alone i z (inl own) is (inr h) = let clash = sym ((member d p histories well_formed j y there c other i z (inr h) is).below h) ∙ owner_outside d p histories well_formed id q made b tx z (ap (map.get histories) (sym own) ∙ is) in cc
  alone i z (inr g) is (inl also) = let clash = sym ((member d p histories well_formed id q made b tx i z (inr g) is).below g) ∙ owner_outside d p histories well_formed j y there c other z (ap (map.get histories) (sym also) ∙ is) in cc
  alone i z (inr g) is (inr h) = apart (ap (λ (x : TxId). x.intent) (same_some (sym ((member d p histories well_formed id q made b tx i z (inr g) is).below g) ∙ (member d p histories well_formed j y there c other i z (inr h) is).below h)))

  -- nor one that is called by a member
  pub alone_callee : (i : IntentId) (z : Instance) (n : ℕ) → IsIn (tx_begun id q) i → map.get histories i ≡ Some z → map.get histories (child_of i n) ≡ None → IsIn (tx_begun j y) (child_of i n) → ⊥
  alone_callee i z n is_in is gone h = elim (parent_in (tx_begun j y) i n h) [
    | inl own ↦ let w = owner_is d p histories well_formed j y there c other in let clash = sym gone ∙ ap (map.get histories) own ∙ w.1 in cc
    | inr up ↦ alone i z is_in is up
  ]

-- ---- the transaction of who can step inside is open
module _ (d : Deployment) (p : PlainState) (histories : Histories) (plain_well_formed : plain.WellFormed d p) (well_formed : WellFormedHistories d histories) (beside : Extends d p histories) (s : TxId) where
  pub plain_owner_of : IsOpenOwner d histories s → PlainOwner d p s
  plain_owner_of o = by_option (map.get p.made s.intent) (λ gone. let k = beside.kept s.intent o.owner gone o.made in let clash = sym k.enclosing ∙ o.outside in cc)
      (λ q made. by_begins q (begins d q) made refl)
    where
      by_begins : (q : Instance) (b : Bool) → map.get p.made s.intent ≡ Some q → begins d q ≡ b → PlainOwner d p s
      by_begins q false made b =
          let same : q ≡ o.owner = same_some (sym (beside.same s.intent q made b) ∙ o.made) in
          let clash = sym (subst (plain.WellFormedAt d s.intent) made (plain_well_formed.each s.intent)).ended ∙ ap (λ (x : Instance). (txs_after d x x.answers).begun) same ∙ o.begun in cc
      by_begins q true made b =
          let now = (member d p histories plain_well_formed s.intent q made b (beside.begun s.intent q made b) s.intent o.owner (inl refl) o.made).owner refl in
          record { owner = q; made = made; begun = b; is = λ k. record { intent = s.intent; begin = same_some (sym o.begun ∙ now.begun) k; func = (o.func_is ∙ now.func) k } }

  pub plain_owner : (i : IntentId) (z : Instance) → map.get histories i ≡ Some z → z.outcome ≡ None → tx_now d i z ≡ Some s → PlainOwner d p s
  plain_owner i z is none now = plain_owner_of (open_owner d histories well_formed i z s is none (no_begin (effect_of d z) (well_formed.closed i z is none)) now)
    where
      no_begin : (e : Effect) → local_answer i (length z.answers) e ≡ None → is_begin e ≡ false
      no_begin Effect.Begin h = cc
      no_begin e h = refl

pub opens_are_open : OpensAreOpen
opens_are_open d m p histories lock_ahead id k s h made none now = let o = plain_owner d p histories h.plain_well_formed h.well_formed h.extends s id k made none now in record { sound = h; owner = o.owner; made = o.made; begun = o.begun; is = o.is }
