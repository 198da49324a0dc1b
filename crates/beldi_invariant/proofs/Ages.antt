-- Who lets an operation inside die: it owns the item, was made, and is older than the transaction.
use borrow.Author.Tests.{ltb-true}
use Rattle.std.proofs.Common.{take-append-drop}
use Rattle.beldi_row.specs.declared.notes.Note.{Note}
use Rattle.beldi_histories.{specs.Acts.ContentReply, proofs.OwnTx.Own}
use Rattle.beldi_invariant.proofs.Names.{Answer, Extends, Bool, Content, Deployment, Effect, Instance, Intent, IntentId, IsBelow, IsOpenOwner, Item, Histories, List, Lock, Matches, None, Option, Owner, OwnersCallNobody, Place, PlainState, Released, Rows, WellFormedHistories, Some, Tx, TxId, Txs, [], age_of, all_called, ap, append-nil, append_assoc, arith, asked_for, asked_own, barred, begin_is, called_below, content_of, died, died_of, dies, drop, effect_after, effect_of, end_of, ended_by, ended_stays, eq-eqb, false, fits, got_by, held, held_by, her_own, holds, if◌then◌else◌, is_at, is_begin, is_older, is_owner, is_some, length, length-append, length-take-le, lock_on, lock_or, ltb-false, member_tx, nat_lt, note_at, noted_or, open_owner, or_own, other_owner, own, owner_eq, refl, same_some, subst, sym, take, true, tx_by, tx_end, tx_now, txs_after, txs_by, txs_pushed, waited, with_note, ℕ, ◌++◌, ◌<◌, ◌∙◌, ◌∷◌, ◌≡◌, ◌≤◌}
use Rattle.beldi_invariant.proofs.Ended.{EndedAt, ended_at}
use Rattle.beldi_invariant.proofs.Names.map

-- ---- what a death tells
-- it owns the item, and has this age
pub record Holder (was : Option Owner) (holder : IntentId) : Type 0 where
  pub owner : Owner
  pub owns : was ≡ Some owner
  pub age : age_of owner ≡ holder

module _ (p : Place) (t : TxId) (c : Content) (a : IntentId) where
  DiesSo : Option Owner → Content × ContentReply → Type 0
  DiesSo o z = (z ≡ (with_note c p (Note.Died a), died a)) × Holder o a

  by_age : (w : Owner) (b : Bool) → (if b then None else Some (age_of w)) ≡ Some a → DiesSo (Some w) (if b then (c, held w) else (with_note c p (Note.Died (age_of w)), died (age_of w)))
  unfolding DiesSo
  by_age w true h = cc
  by_age w false h = let same : age_of w ≡ a = same_some h in (λ i. (with_note c p (Note.Died (same i)), died (same i)), record { owner = w; owns = refl; age = same })

  by_other : (w : Owner) (b : Bool) → died_of (Tx t) (if b then None else Some w) ≡ Some a → DiesSo (Some w) (lock_or p t c (if b then None else Some w))
  by_other w true h = cc
  by_other w false h = by_age w (is_older t.intent (age_of w)) h

  by_owner : (o : Option Owner) → dies (Tx t) Lock o ≡ Some a → DiesSo o (lock_or p t c (other_owner (Tx t) o))
  by_owner None h = cc
  by_owner (Some w) h = by_other w (owner_eq w (Tx t)) h

  -- where the place has no note, a lock that dies is told so, by an owner
  pub dies_so : note_at c.notes p ≡ None → dies (Tx t) Lock c.owner ≡ Some a → (lock_on p t c ≡ (with_note c p (Note.Died a), died a)) × Holder c.owner a
  unfolding DiesSo
  dies_so none h = let z = by_owner c.owner h in (ap (λ o. noted_or c o (lock_or p t c (other_owner (Tx t) c.owner))) none ∙ z.0, z.1)

-- who neither waits nor dies finds no other owner
pub free_of : (t : TxId) (o : Option Owner) → barred Lock (Tx t) o ≡ None → dies (Tx t) Lock o ≡ None → other_owner (Tx t) o ≡ None
free_of t o = by_other (other_owner (Tx t) o)
  where
    by_age : (w : Owner) (b : Bool) → held_by (if b then Some w else None) ≡ None → (if b then None else Some (age_of w)) ≡ None → Some w ≡ None
    by_age w b h g = grind arith

    by_other : (u : Option Owner) → held_by (waited (Tx t) u) ≡ None → died_of (Tx t) u ≡ None → u ≡ None
    by_other u h g = grind arith

-- ---- a Begin that has not ended is open still
pub open_on : (d : Deployment) (q : Instance) (given rest : List Answer) (b : ℕ) → given ++ rest ≡ q.answers → end_of d q b ≡ None → (txs_after d q given).begun ≡ Some b → (txs_after d q q.answers).begun ≡ Some b
open_on d q given [] b all open_still begun = subst (λ ts. (txs_after d q ts).begun ≡ Some b) (sym (append-nil given) ∙ all) begun
open_on d q given (a ∷ rest) b all open_still begun =
    open_on d q (given ++ a ∷ []) rest b (append_assoc given (a ∷ []) rest ∙ all) open_still (ap (λ (s : Txs). s.begun) (txs_pushed d q given a) ∙ by_effect (effect_after d q given) refl)
  where
    by_effect : (e : Effect) → effect_after d q given ≡ e → (txs_by (length given) e (txs_after d q given)).begun ≡ Some b
    by_effect Effect.Begin is = let clash = sym (ap is_some begun) ∙ (begin_is d q given is).1 in cc
    by_effect (Effect.End c) is =
        let ended = ended_stays d q (given ++ a ∷ []) rest b (length given, c) (append_assoc given (a ∷ []) rest ∙ all)
        (ap (λ (s : Txs). s.ends b) (txs_pushed d q given a) ∙ ap (λ z. (txs_by (length given) z (txs_after d q given)).ends b) is ∙ ap (λ u. if is_at b u then Some (length given, c) else (txs_after d q given).ends b) begun
        ∙ ap (λ z. if z then Some (length given, c) else (txs_after d q given).ends b) (eq-eqb b b refl)) in
        let clash = sym open_still ∙ ended in cc
    by_effect e is = begun

-- .. and was before, from its step on
was_open : (d : Deployment) (q : Instance) (given rest : List Answer) (b : ℕ) → given ++ rest ≡ q.answers → b < length given → (txs_after d q q.answers).begun ≡ Some b → (txs_after d q given).begun ≡ Some b
was_open d q given [] b all less begun = subst (λ ts. (txs_after d q ts).begun ≡ Some b) (sym all ∙ append-nil given) begun
was_open d q given (a ∷ rest) b all less begun =
    grind (arith, sym (ap (λ (s : Txs). s.begun) (txs_pushed d q given a)) ∙ was_open d q (given ++ a ∷ []) rest b (append_assoc given (a ∷ []) rest ∙ all) (let l = length-append given (a ∷ []) in omega (arith, l, less)) begun)

-- ---- the owners of items
module _ (d : Deployment) (m : Rows) (histories : Histories) (lock_ahead : IntentId → Bool) (rows : Matches d m histories lock_ahead) (well_formed : WellFormedHistories d histories) where
  -- a transaction was open, in its owner: after these answers
  pub record WasOpen (t : TxId) : Type 0 where
    pub owner : Instance
    pub made : map.get histories t.intent ≡ Some owner
    pub outside : owner.enclosing ≡ None
    pub func_is : t.func ≡ owner.func
    pub given : List Answer
    pub later : List Answer
    pub all : given ++ later ≡ owner.answers
    pub begun : (txs_after d owner given).begun ≡ Some t.begin

  -- at a step of its owner
  module _ (t : TxId) (j : IntentId) (z : Instance) (is : map.get histories j ≡ Some z) (out : z.enclosing ≡ None) where
    open_there : (given later : List Answer) → given ++ later ≡ z.answers → Own j z.func (txs_after d z given).begun t → WasOpen t
    open_there given later all own = record { owner = z; made = ap (map.get histories) own.intent ∙ is; outside = out; func_is = own.func_is; given = given; later = later; all = all; begun = own.begun }

    -- .. as where it asked for an item
    own_open : (x : Item) (b : Bool) → got_by d t x j b (Some z) ≡ true → WasOpen t
    own_open x b got = let a = asked_for d t x j z b got in open_there a.given a.later a.all (asked_own d t x j z out a.given a.on)

  -- where somebody was called in it
  called_open : (t : TxId) (j : IntentId) (z : Instance) → map.get histories j ≡ Some z → z.enclosing ≡ Some t → WasOpen t
  called_open t = all_called d histories well_formed t (λ j z. WasOpen t)
      (λ j z inner c outside own. open_there t c.caller c.waiter c.made outside (take c.step c.waiter.answers) (drop c.step c.waiter.answers) (take-append-drop c.step c.waiter.answers) own)
      (λ j z inner c up so. so)

  pub owns_so : (t : TxId) (x : Item) → (content_of m x).owner ≡ Some (Tx t) → WasOpen t
  owns_so t x owned = let g = (rows.txs x).owned_is_got t owned in by_member g.member (map.get histories g.member) refl g.got
    where
      by_member : (j : IntentId) (o : Option Instance) → map.get histories j ≡ o → got_by d t x j (lock_ahead j) o ≡ true → WasOpen t
      by_member j None e g = cc
      by_member j (Some z) e g = by_within z.enclosing refl
        where
          by_within : (w : Option TxId) → z.enclosing ≡ w → WasOpen t
          by_within None out = own_open t j z e out x (lock_ahead j) g
          by_within (Some u) inner = called_open t j z e (inner ∙ ap Some (sym (member_tx d t x j z u inner (lock_ahead j) g)))

  -- so who owns an item was made
  pub holder_made : (p : PlainState) → Extends d p histories → (x : Item) (holder : IntentId) → holds d x (map.get histories holder) ≡ holds d x (map.get p.made holder) → Holder (content_of m x).owner holder → is_some (map.get p.made holder) ≡ true
  holder_made p beside x holder same h = by_owner h.owner h.owns h.age
    where
      held_there : (o : Option Instance) → holds d x o ≡ true → is_some o ≡ true
      held_there o e = grind arith

      by_plain : (t : TxId) → WasOpen t → (o : Option Instance) → map.get p.made t.intent ≡ o → is_some o ≡ true
      by_plain t w None made = let clash = sym w.outside ∙ (beside.kept t.intent w.owner made w.made).enclosing in cc
      by_plain t w (Some z) made = refl

      by_owner : (w : Owner) → (content_of m x).owner ≡ Some w → age_of w ≡ holder → is_some (map.get p.made holder) ≡ true
      by_owner (Intent j) owned age = held_there (map.get p.made holder) (sym same ∙ ap (λ y. holds d x (map.get histories y)) (sym age) ∙ sym ((rows.items x).owner j) ∙ ap (λ o. is_owner o (Intent j)) owned ∙ her_own j)
      by_owner (Tx t) owned age = subst (λ y. is_some (map.get p.made y) ≡ true) age (by_plain t (owns_so t x owned) (map.get p.made t.intent) refl)

  -- ---- an instance at an operation inside, that owns nothing past its ends, while owners call nobody
  module _ (id : IntentId) (q : Instance) (made : map.get histories id ≡ Some q) (none : q.outcome ≡ None) (s : TxId) (now : tx_now d id q ≡ Some s) (apart : is_begin (effect_of d q) ≡ false)
      (released : Released d m histories id (length q.answers)) (latest : OwnersCallNobody d m histories) where
    its : IsOpenOwner d histories s
    its = open_owner d histories well_formed id q s made none apart now

    -- a transaction of its owner that has not ended is this one
    open_is : (t : TxId) → t.intent ≡ s.intent → WasOpen t → tx_end d histories t ≡ None → t ≡ s
    open_is t same w open_still = λ i. record { intent = same i; begin = begins i; func = (w.func_is ∙ ap (λ (y : Instance). y.func) one ∙ sym its.func_is) i }
      where
        one : w.owner ≡ its.owner
        one = same_some (sym w.made ∙ ap (map.get histories) same ∙ its.made)

        begins : t.begin ≡ s.begin
        begins = same_some (sym (open_on d w.owner w.given w.later t.begin w.all (sym (ap (ended_by d t.begin) w.made) ∙ open_still) w.begun) ∙ ap (λ (y : Instance). (txs_after d y y.answers).begun) one ∙ its.begun)

    -- one that has ended ended before this one began
    ended_first : (t : TxId) (z : ℕ × Bool) → t.intent ≡ s.intent → tx_end d histories t ≡ Some z → z.0 ≤ s.begin
    ended_first t z same ended = by_test (nat_lt s.begin z.0) refl
      where
        at : EndedAt d its.owner its.owner.answers t.begin z
        at = ended_at d its.owner t.begin z (sym (ap (ended_by d t.begin) (ap (map.get histories) same ∙ its.made)) ∙ ended)

        by_test : (b : Bool) → nat_lt s.begin z.0 ≡ b → z.0 ≤ s.begin
        by_test false e = ltb-false s.begin z.0 e
        by_test true e =
            let less = at.before in
            let n = ltb-true s.begin z.0 e in
            let len = length-take-le z.0 its.owner.answers (omega (arith, less)) in
            let open_then = was_open d its.owner (take z.0 its.owner.answers) (drop z.0 its.owner.answers) s.begin (take-append-drop z.0 its.owner.answers) (omega (arith, n, len)) its.begun in
            let same_begin : s.begin ≡ t.begin = same_some (sym open_then ∙ at.begun) in
            let clash = sym ((fits d its.owner).not_ended s.begin its.begun) ∙ ap (end_of d its.owner) same_begin ∙ sym (ap (ended_by d t.begin) (ap (map.get histories) same ∙ its.made)) ∙ ended in cc

    -- so no other one of its owner owns an item
    pub only_one : (x : Item) (t : TxId) → (content_of m x).owner ≡ Some (Tx t) → t.intent ≡ s.intent → t ≡ s
    only_one x t owned same = by_end (tx_end d histories t) refl
      where
        by_end : (o : Option (ℕ × Bool)) → tx_end d histories t ≡ o → t ≡ s
        by_end None e = open_is t same (owns_so t x owned) e
        by_end (Some z) e = absurd (by_within q.enclosing refl)
          where
            by_within : (w : Option TxId) → q.enclosing ≡ w → ⊥
            by_within None out =
                let mine : t.intent ≡ id = same ∙ (own d id q s out apart now).intent in
                released t z mine e (ended_at d q t.begin z (sym (ap (ended_by d t.begin) (ap (map.get histories) mine ∙ made)) ∙ e)).before x owned
            by_within (Some u) inner =
                let is_s : u ≡ s = same_some (sym (ap (λ w. or_own w (tx_by id q.func (length q.answers) (effect_of d q) (txs_after d q q.answers).begun)) inner) ∙ now) in
                let b = called_below d histories well_formed s id q made (inner ∙ ap Some is_s) in
                let below : IsBelow (record { intent = t.intent; begin = z.0; func = t.func }) id = record {
                  step = b.step;
                  later = let l = b.later in let f = ended_first t z same e in omega (arith, l, f);
                  hops = b.hops;
                  is = b.is ∙ ap (λ (i : IntentId). record { ticket = i.ticket; hops = i.hops ++ b.step ∷ b.hops }) (sym same);
                } in
                let clash = sym made ∙ latest t z x id e owned below in cc
